-- What a body by pieces stands for: where it is begun, behind a piece, and where all its bytes have come.
use Rattle.std.proofs.Common.{arith, ◌≡◌, ℕ, ◌<◌, ◌≤◌, ◌+◌, ◌*◌, Bool, true, false, List, [], ◌++◌, cond, Option, None, Some, length, refl, sym, ap, ◌∙◌, subst}
use Rattle.std.specs.Prelude.{◌&&◌, ◌||◌, Result, Ok, Err}
use Rattle.sm_tree.specs.Limits.{most_levels}
use Rattle.sm_tree.specs.OpenLevels.{KindsAreLevels, OpensNoMore}
use Rattle.sm_tree.specs.Sources.{ReadCompletes, SourceOf}
use Rattle.sm_tree.specs.TimingLaws.{BeginsTrees, HasFewEvents, TimesTexts}
use Rattle.sm_shapes.specs.Fitting.{Test}
use Rattle.sm_shapes.specs.InOrder.{DefaultsPass, most_defaults}
use Rattle.sm_shapes.specs.declared.values.Value.{Value}
use Rattle.sm_codec.specs.Bound.{KeptIsBounded}
use Rattle.sm_codec.specs.Convention.{Convention, IsConvention}
use Rattle.sm_codec.specs.DecodingView.{decoding_of}
use Rattle.sm_codec.specs.declared.decoder.Decoder.{Decoder}
use Rattle.sm_bodies.specs.Fed.{BodyFed}
use Rattle.sm_bodies.proofs.BodiesFed.{held_few, held_shallow}
use Rattle.sm_http.specs.declared.message.Head.{Head}
use Rattle.sm_http.specs.declared.message.Message.{Message}
use Rattle.sm_http.specs.declared.message.Start.{Start}
use Rattle.sm_service.specs.Servable.{Servable}
use Rattle.sm_service.specs.ServiceData.{ServiceData}
use Rattle.sm_messages.specs.Answers.{AnswersRequest, AnswersResponse, AtHead}
use Rattle.sm_messages.specs.Begun.{BegunFor, BodyState, FedFor, HeldFor, KeepsAddress, failed, fed, held, is_error, is_held}
use Rattle.sm_messages.specs.Begun.{operation_of}
use Rattle.sm_messages.specs.Goals.{Asked, Goal, Role, a_request, a_response, goal_of, goal_shape, is_input, operation_at, the_error, the_input}
use Rattle.sm_messages.specs.Goals.{the_output}
use Rattle.sm_messages.specs.HeadAnswers.{Address, HeadAnswer, IsJudged, IsNamed, addressed, error_answer, of_request, of_response}
use Rattle.sm_messages.specs.HeadAnswers.{path_unserved, refused_at_head, request_answer, response_answer, served_answer, to_goal}
use Rattle.sm_messages.specs.HeadAnswers.{to_named_error, typed_answer, wrong_media_type}
use Rattle.sm_messages.specs.Heads.{is_empty, is_plain, is_right_type, is_success}
use Rattle.sm_messages.specs.IsForm.{ReadsMessages}
use Rattle.sm_messages.specs.Judging.{asked_answer, response_address, told_answer}
use Rattle.sm_messages.specs.MessageAnswers.{MessageAnswers}
use Rattle.sm_messages.specs.MessageForm.{MessageForm}
use Rattle.sm_messages.specs.Pieces.{BeginsAs, IsLive, StartsFed, TakesPiece, UnlessMemory, frames_in, nodes_in}
use Rattle.sm_messages.specs.TreeAnswers.{AnswersGoal, HasAddress, TreeAnswers, address_of}
use Rattle.sm_messages.specs.TreeBodies.{tree_codec}
use Rattle.sm_messages.specs.TreeForms.{IsTreeForm}
use Rattle.sm_messages.specs.declared.judging.ResponseAddress.{ResponseAddress}
use Rattle.sm_messages.specs.declared.judging.ResponseAddress.TheVariants as response
use Rattle.sm_messages.specs.declared.refusal.MessageRefusal.{MessageRefusal}
use Rattle.sm_messages.specs.declared.reply.Reply.{Reply}
use Rattle.sm_messages.proofs.HeadsJudged.{AddressOf, judged_address, response_of, same_address}
use Rattle.sm_messages.proofs.TreeAnswered.{goal_more, message_of, out_of_memory, refusal_or_address, request_more, response_more}

-- behind a piece
pub begun_on : {R : Type 0} (S : SourceOf R) (l : Convention) (f : MessageForm) (s : ServiceData) (test : Test) (asked : Asked) (head : Head)
    (empty : Bool) (bytes piece : List ℕ) (before behind : BodyState R) → TakesPiece S (tree_codec l s test) before piece behind
    → BegunFor S l f s test asked head empty bytes before → BegunFor S l f s test asked head empty (bytes ++ piece) behind
begun_on S l f s test asked head empty bytes piece failed behind takes begun = absurd takes
begun_on S l f s test asked head empty bytes piece (held o m) behind takes begun =
    subst (λ b. BegunFor S l f s test asked head empty (bytes ++ piece) b) (sym takes) (record {
      there = begun.there;
      judged = begun.judged;
      operation = begun.operation;
      within = begun.within;
      is = begun.is;
      keeps = begun.keeps;
      body = ap (λ b. b ++ piece) begun.body;
    })
begun_on S l f s test asked head empty bytes piece (fed o r d) behind (q, e, same, on) begun =
    subst (λ b. BegunFor S l f s test asked head empty (bytes ++ piece) b) (sym same) (record {
      role = begun.role;
      judged = begun.judged;
      within = begun.within;
      is = begun.is;
      memory = on.0;
      come = on.1 (goal_shape s (goal_of o begun.role)) bytes begun.come;
    })

-- begun for the goal of a head
pub fed_begun : {R : Type 0} (S : SourceOf R) (l : Convention) (f : MessageForm) (s : ServiceData) (test : Test) (asked : Asked) (head : Head)
    (empty : Bool) (o : ℕ) (role : Role) (b : BodyState R) → IsJudged f s asked head empty (addressed (to_goal (goal_of o role)))
    → o < length s.operations → is_held (to_goal (goal_of o role)) empty ≡ false
    → StartsFed S s.table o (goal_shape s (goal_of o role)) b → IsLive b × BegunFor S l f s test asked head empty [] b
fed_begun S l f s test asked head empty o role failed judged within is starts = absurd starts
fed_begun S l f s test asked head empty o role (held p m) judged within is starts = absurd starts
fed_begun S l f s test asked head empty o role (fed p r d) judged within is (same, memory, begun) = (
  tt,
  record {
    role = role;
    judged = subst (λ k. IsJudged f s asked head empty (addressed (to_goal (goal_of k role)))) (sym same) judged;
    within = subst (λ k. k < length s.operations) (sym same) within;
    is = is;
    memory = memory;
    come = subst (λ k. BodyFed S (tree_codec l s test) (goal_shape s (goal_of k role)) r d []) (sym same) (begun (tree_codec l s test) refl);
  },
)

pub held_begun : {R : Type 0} (S : SourceOf R) (l : Convention) (f : MessageForm) (s : ServiceData) (test : Test) (asked : Asked)
    (head : Head) (empty : Bool) (there : Address) (m : Message) (b : BodyState R) → IsJudged f s asked head empty (addressed there)
    → operation_of there < length s.operations → is_held there empty ≡ true → KeepsAddress f s asked there m.head → m.body ≡ []
    → b ≡ held (operation_of there) m → IsLive b × BegunFor S l f s test asked head empty [] b
held_begun S l f s test asked head empty there m b judged within is keeps none at =
    subst (λ x. IsLive x × BegunFor S l f s test asked head empty [] x) (sym at) (
      tt,
      record {
        there = there;
        judged = judged;
        operation = refl;
        within = within;
        is = is;
        keeps = keeps;
        body = none;
      },
    )

-- what calls make that begin one
pub begins_held : {B R : Type 0} (S : SourceOf R) (l : Convention) (f : MessageForm) (s : ServiceData) (test : Test) (asked : Asked)
    (head : Head) (empty : Bool) (there : Address) (m : Message) (state : B → BodyState R) (J : HeadAnswer → Type 0)
    (r : Result B MessageRefusal) → IsJudged f s asked head empty (addressed there) → operation_of there < length s.operations
    → is_held there empty ≡ true → KeepsAddress f s asked there m.head → m.body ≡ []
    → UnlessMemory (λ b. state b ≡ held (operation_of there) m) r
    → BeginsAs J (λ b. IsLive (state b) × BegunFor S l f s test asked head empty [] (state b)) r
begins_held S l f s test asked head empty there m state J (Ok b) judged within is keeps none h =
    held_begun S l f s test asked head empty there m (state b) judged within is keeps none h
begins_held S l f s test asked head empty there m state J (Err e) judged within is keeps none h =
    out_of_memory (AtHead (λ r. J (refused_at_head r))) e h

pub begins_fed : {B R : Type 0} (S : SourceOf R) (l : Convention) (f : MessageForm) (s : ServiceData) (test : Test) (asked : Asked)
    (head : Head) (empty : Bool) (o : ℕ) (role : Role) (state : B → BodyState R) (J : HeadAnswer → Type 0)
    (r : Result B MessageRefusal) → IsJudged f s asked head empty (addressed (to_goal (goal_of o role))) → o < length s.operations
    → is_held (to_goal (goal_of o role)) empty ≡ false
    → UnlessMemory (λ b. StartsFed S s.table o (goal_shape s (goal_of o role)) (state b)) r
    → BeginsAs J (λ b. IsLive (state b) × BegunFor S l f s test asked head empty [] (state b)) r
begins_fed S l f s test asked head empty o role state J (Ok b) judged within is h =
    fed_begun S l f s test asked head empty o role (state b) judged within is h
begins_fed S l f s test asked head empty o role state J (Err e) judged within is h =
    out_of_memory (AtHead (λ r. J (refused_at_head r))) e h

-- the operation of a request is one of the service
pub request_within : (f : MessageForm) → ReadsMessages f → (s : ServiceData) (head : Head) (empty : Bool) (o : ℕ)
    → IsJudged f s a_request head empty (addressed (to_goal (goal_of o the_input))) → o < length s.operations
request_within f reads s head empty o judged =
    let (p, goes, free, at) = (judged_address f reads s a_request head empty (to_goal (goal_of o the_input)) judged).1 in
    subst (λ k. k < length s.operations) (sym (ap operation_of at)) (reads.within s head p (reads.asked_for s head p goes))

-- the address of a response, by what a call on its head answers
pub response_addressed : (o : ℕ) (r : ResponseAddress) → response_address o r ≡ addressed (address_of o r)
response_addressed o response.Output = refl
response_addressed o (response.Error e) = refl
response_addressed o response.Named = refl

pub has_address : (s : ServiceData) (o : ℕ) (r : ResponseAddress) → AddressOf s o (address_of o r) → HasAddress s o r
has_address s o response.Output h = tt
has_address s o (response.Error e) h = h.2
has_address s o response.Named h = tt

pub same_there : (a : HeadAnswer) (o : ℕ) (r : ResponseAddress) (there : Address) → a ≡ response_address o r → a ≡ addressed there
    → address_of o r ≡ there
same_there a o r there judged at = same_address (address_of o r) there (sym (response_addressed o r) ∙ sym judged ∙ at)

abbrev inner : ServiceData → ℕ → Start → Option (List ℕ) → HeadAnswer
inner s o start told = cond (is_success start) (addressed (to_goal (goal_of o the_output))) (error_answer s o told)

-- a head with the same start, that tells an error alike and no coding, has the same address
pub kept_answer : (f : MessageForm) (s : ServiceData) (o : ℕ) (head kept : Head) (there : Address) → is_plain kept ≡ true
    → kept.start ≡ head.start → f.head_error kept ≡ f.head_error head → response_answer f s head o ≡ addressed there
    → response_answer f s kept o ≡ addressed there
kept_answer f s o head kept there plain start told at =
    let first = ap (λ b. cond b (inner s o kept.start (f.head_error kept)) (refused_at_head wrong_media_type)) plain in
    let second = ap (λ t. inner s o t (f.head_error kept)) start in
    let third = ap (λ t. inner s o head.start t) told in
    first ∙ second ∙ third ∙ by (is_plain head) at
  where
    by : (b : Bool) → cond b (inner s o head.start (f.head_error head)) (refused_at_head wrong_media_type) ≡ addressed there
        → inner s o head.start (f.head_error head) ≡ addressed there
    by true h = h
    by false h = absurd (refusal_or_address wrong_media_type there (sym h))

-- what calls on heads answer is what heads come to
module _ (f : MessageForm) (l : Convention) (content_type : List ℕ) (is : IsTreeForm f l content_type) (s : ServiceData) (head : Head)
    (empty : Bool) where
  same_request : (o : Option ℕ) → request_answer f s head empty o ≡ asked_answer s head empty (Some content_type) o
  same_request None = refl
  same_request (Some o) =
      let goal = to_goal (goal_of o the_input) in
      let served = (operation_at s o).served in
      ap (λ p. served_answer (path_unserved served p) (typed_answer (is_plain head && is_right_type (f.content_type s o) empty head) goal))
      (is.free s o)
      ∙ ap (λ w. served_answer (path_unserved served None) (typed_answer (is_plain head && is_right_type w empty head) goal)) (is.typed s o)

  pub judged_request : (o : Option ℕ) (a : HeadAnswer) → f.is_marked head ≡ true → IsNamed f s head o
      → asked_answer s head empty (Some content_type) o ≡ a → IsJudged f s a_request head empty a
  judged_request o a marked named at = of_request o marked refl named (sym at ∙ sym (same_request o))

  pub judged_response : (o : ℕ) (a : HeadAnswer) → f.is_marked head ≡ true → told_answer s head (f.head_error head) o ≡ a
      → IsJudged f s (a_response o) head empty a
  judged_response o a marked at = of_response o marked refl (sym at)

-- all bytes have come of a request
module _ (f : MessageForm) (l : Convention) (content_type : List ℕ) (is : IsTreeForm f l content_type) (reads : ReadsMessages f)
    (s : ServiceData) (test : Test) (head : Head) (bytes : List ℕ) where
  request_there : (o : ℕ) (there : Address) → IsJudged f s a_request head (is_empty bytes) (addressed there) → operation_of there ≡ o
      → there ≡ to_goal (goal_of o the_input)
  request_there o there judged same =
      let (p, goes, free, at) = (judged_address f reads s a_request head (is_empty bytes) there judged).1 in
      at ∙ ap (λ k. to_goal (goal_of k the_input)) (sym (ap operation_of at) ∙ same)

  pub held_request : (o : ℕ) (m : Message) (r : Result (ℕ × Value) MessageRefusal)
      → HeldFor f s a_request head (is_empty bytes) bytes o m
      → AnswersRequest (TreeAnswers f.syntax (tree_codec l s test) s f.body_error (to_goal (goal_of o the_input)) m.body) r
      → AnswersRequest (MessageAnswers f s test a_request head bytes) r
  held_request o m r begun answers =
      let at = request_there o begun.there begun.judged begun.operation in
      let there = subst (λ t. IsJudged f s a_request head (is_empty bytes) (addressed t)) at begun.judged in
      request_more (TreeAnswers f.syntax (tree_codec l s test) s f.body_error (to_goal (goal_of o the_input)) bytes)
      (MessageAnswers f s test a_request head bytes)
      (λ a h. message_of f l content_type is s test a_request head bytes (to_goal (goal_of o the_input)) a there h) r
      (subst (λ b. AnswersRequest (TreeAnswers f.syntax (tree_codec l s test) s f.body_error (to_goal (goal_of o the_input)) b) r)
      begun.body answers)

  pub fed_request : {R : Type 0} (S : SourceOf R) (o : ℕ) (r : R) (d : Decoder) (v : Result Value MessageRefusal)
      → FedFor R S l f s test a_request head (is_empty bytes) bytes o r d
      → ((g : Goal) → is_held (to_goal g) (is_empty bytes) ≡ false → BodyFed S (tree_codec l s test) (goal_shape s g) r d bytes
      → AnswersGoal (TreeAnswers f.syntax (tree_codec l s test) s f.body_error (to_goal g) bytes) g v)
      → AnswersGoal (MessageAnswers f s test a_request head bytes) (goal_of o the_input) v
  fed_request S o r d v begun answers =
      let g = goal_of o begun.role in
      let same = request_there o (to_goal g) begun.judged refl in
      let all = goal_more (TreeAnswers f.syntax (tree_codec l s test) s f.body_error (to_goal g) bytes)
      (MessageAnswers f s test a_request head bytes)
      (λ a h. message_of f l content_type is s test a_request head bytes (to_goal g) a begun.judged h) g v
      (answers g begun.is begun.come) in
      subst (λ h. AnswersGoal (MessageAnswers f s test a_request head bytes) h v) (same_goal g (goal_of o the_input) same) all
    where
      same_goal : (g h : Goal) → to_goal g ≡ to_goal h → g ≡ h
      same_goal g h e = cc

-- and of a response
module _ (f : MessageForm) (l : Convention) (content_type : List ℕ) (is : IsTreeForm f l content_type) (reads : ReadsMessages f)
    (s : ServiceData) (test : Test) (p : ℕ) (head : Head) (bytes : List ℕ) where
  -- its address is one of the operation that was asked about
  response_there : (there : Address) → IsJudged f s (a_response p) head (is_empty bytes) (addressed there) → operation_of there ≡ p
  response_there there judged =
      told there (response_of f s head p there (judged_address f reads s (a_response p) head (is_empty bytes) there judged).1)
    where
      told : (t : Address) → AddressOf s p t → operation_of t ≡ p
      told (to_goal g) h = h.0
      told (to_named_error o) h = h

  pub held_response : (o : ℕ) (m : Message) (r : Result Reply MessageRefusal)
      → HeldFor f s (a_response p) head (is_empty bytes) bytes o m
      → ((there : Address) → response_answer f s m.head o ≡ addressed there
      → AnswersResponse o (TreeAnswers f.syntax (tree_codec l s test) s f.body_error there m.body) r)
      → AnswersResponse p (MessageAnswers f s test (a_response p) head bytes) r
  held_response o m r begun answers =
      let same : o ≡ p = sym begun.operation ∙ response_there begun.there begun.judged in
      let there = answers begun.there (subst (λ k. response_answer f s m.head k ≡ addressed begun.there) (sym same) begun.keeps) in
      subst (λ k. AnswersResponse k (MessageAnswers f s test (a_response p) head bytes) r) same
      (response_more (TreeAnswers f.syntax (tree_codec l s test) s f.body_error begun.there bytes)
      (MessageAnswers f s test (a_response p) head bytes)
      (λ a h. message_of f l content_type is s test (a_response p) head bytes begun.there a begun.judged h) o r
      (subst (λ b. AnswersResponse o (TreeAnswers f.syntax (tree_codec l s test) s f.body_error begun.there b) r) begun.body there))

  pub fed_response : {R : Type 0} (S : SourceOf R) (o : ℕ) (r : R) (d : Decoder) (v : Result Value MessageRefusal)
      → FedFor R S l f s test (a_response p) head (is_empty bytes) bytes o r d
      → ((g : Goal) → is_held (to_goal g) (is_empty bytes) ≡ false → BodyFed S (tree_codec l s test) (goal_shape s g) r d bytes
      → AnswersGoal (TreeAnswers f.syntax (tree_codec l s test) s f.body_error (to_goal g) bytes) g v)
      → AnswersGoal (MessageAnswers f s test (a_response p) head bytes) (goal_of p the_output) v
  fed_response S o r d v begun answers =
      let g = goal_of o begun.role in
      let all = goal_more (TreeAnswers f.syntax (tree_codec l s test) s f.body_error (to_goal g) bytes)
      (MessageAnswers f s test (a_response p) head bytes)
      (λ a h. message_of f l content_type is s test (a_response p) head bytes (to_goal g) a begun.judged h) g v
      (answers g begun.is begun.come) in
      let side = response_of f s head p (to_goal g) (judged_address f reads s (a_response p) head (is_empty bytes) (to_goal g) begun.judged).1 in
      let output = only_output begun.role (is_empty bytes) side.1 begun.is in
      subst (λ h. AnswersGoal (MessageAnswers f s test (a_response p) head bytes) h v)
      (ap (λ k. goal_of k begun.role) side.0 ∙ ap (λ k. goal_of p k) output) all
    where
      only_output : (role : Role) (empty : Bool) → is_input role ≡ false → (is_error role || empty) ≡ false → role ≡ the_output
      only_output the_input empty h k = absurd cc
      only_output the_output empty h k = refl
      only_output (the_error e) empty h k = absurd cc

none_few : (n : ℕ) → 0 ≤ n
none_few n = omega arith

-- what a body holds is bounded: the values by its bytes, and the frames by the levels that are read
pub nodes_few : {R : Type 0} (S : SourceOf R) (l : Convention) (f : MessageForm) (s : ServiceData) (test : Test) (asked : Asked) (head : Head)
    (empty : Bool) (bytes : List ℕ) (b : BodyState R) → TimesTexts S.syntax.text S.timing → HasFewEvents S.timing → BeginsTrees S.timing
    → ReadCompletes S → KeptIsBounded → IsConvention l → Servable s → DefaultsPass s.table test
    → BegunFor S l f s test asked head empty bytes b → nodes_in b ≤ (1 + most_defaults s.table) * (2 * length bytes)
nodes_few S l f s test asked head empty bytes failed times few trees complete bounds is servable pass begun = none_few _
nodes_few S l f s test asked head empty bytes (held o m) times few trees complete bounds is servable pass begun = none_few _
nodes_few S l f s test asked head empty bytes (fed o r d) times few trees complete bounds is servable pass begun =
    held_few S (tree_codec l s test) (goal_shape s (goal_of o begun.role)) r d bytes times few trees complete
    (record { convention = is; table = servable.shaped; defaults = pass }) (bounds (decoding_of d)) begun.memory begun.come

pub frames_few : {R : Type 0} (S : SourceOf R) (l : Convention) (f : MessageForm) (s : ServiceData) (test : Test) (asked : Asked) (head : Head)
    (empty : Bool) (bytes : List ℕ) (b : BodyState R) → TimesTexts S.syntax.text S.timing → HasFewEvents S.timing → BeginsTrees S.timing
    → ReadCompletes S → OpensNoMore → KindsAreLevels → KeptIsBounded → IsConvention l → Servable s → DefaultsPass s.table test
    → BegunFor S l f s test asked head empty bytes b → frames_in b ≤ most_levels + 1
frames_few S l f s test asked head empty bytes failed times few trees complete opens levels bounds is servable pass begun = none_few _
frames_few S l f s test asked head empty bytes (held o m) times few trees complete opens levels bounds is servable pass begun = none_few _
frames_few S l f s test asked head empty bytes (fed o r d) times few trees complete opens levels bounds is servable pass begun =
    held_shallow S (tree_codec l s test) (goal_shape s (goal_of o begun.role)) r d bytes times few trees complete opens levels
    (record { convention = is; table = servable.shaped; defaults = pass }) (bounds (decoding_of d)) begun.memory begun.come
