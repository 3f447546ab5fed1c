-- From what parts and the bytes of a body come to, to what the message comes to.
use Rattle.std.proofs.Common.{◌≡◌, ℕ, Bool, true, false, cond, List, None, Some, refl, sym, ap, ◌∙◌, subst}
use Rattle.std.specs.Prelude.{Err, Ok, Result}
use Rattle.sm_tree.specs.Node.{Node, no_members, object}
use Rattle.sm_tree.specs.Syntax.{IsRead, Reads}
use Rattle.sm_tree.specs.declared.refusal.SyntaxRefusal.{SyntaxRefusal}
use Rattle.sm_tree.specs.declared.refusal.SyntaxRefusal.TheVariants as syntax
use Rattle.sm_json.specs.JsonText.{JsonText, json_syntax}
use Rattle.sm_shapes.specs.Fitting.{Test}
use Rattle.sm_shapes.specs.ValueView.{val_of}
use Rattle.sm_shapes.specs.declared.values.Value.{Value}
use Rattle.sm_codec.specs.FaultLists.{faults_in}
use Rattle.sm_http.specs.declared.message.Head.{Head}
use Rattle.sm_http.specs.declared.message.Start.{Start}
use Rattle.sm_http.specs.declared.message.Start.TheVariants.{Request, Response}
use Rattle.sm_rest.specs.service.ServiceData.{ServiceData}
use Rattle.sm_rest.specs.messages.Answers.{AnswersResponse, RefusedAs, reply_role, reply_val}
use Rattle.sm_rest.specs.messages.Goals.{Asked, Goal, HasRole, Role, a_request, a_response, goal_of, is_input, operation_at, the_error, the_input}
use Rattle.sm_rest.specs.messages.Goals.{the_output}
use Rattle.sm_rest.specs.messages.HeadAnswers.{Address, IsJudged, addressed, error_answer, refused_at_head, response_answer, to_goal, to_named_error}
use Rattle.sm_rest.specs.messages.HeadAnswers.{wrong_media_type}
use Rattle.sm_rest.specs.messages.Heads.{is_empty, is_plain, is_success}
use Rattle.sm_rest.specs.messages.MessageAnswers.{MessageAnswer, MessageAnswers, fault, no_name, no_text, the_refusal, the_value, use_of, value}
use Rattle.sm_rest.specs.messages.MessageForm.{Content, HasContent, a_tree, as_empty_object, as_text, naming, unread}
use Rattle.sm_rest.specs.messages.Messages.{LeadsTo, error_of_tree}
use Rattle.sm_rest.specs.messages.Names.{told_by_body, told_by_head}
use Rattle.sm_rest.specs.messages.TreeAnswers.{AnswersGoal, syntax_refusal}
use Rattle.sm_rest.specs.messages.declared.refusal.MessageRefusal.{MessageRefusal}
use Rattle.sm_rest.specs.messages.declared.refusal.MessageRefusal.TheVariants as refused
use Rattle.sm_rest.specs.messages.declared.reply.Reply.{Reply}
use Rattle.sm_rest.specs.messages.declared.reply.Reply.TheVariants.{Error, Output}
use Rattle.sm_rest.proofs.messages.HeadsJudged.{AddressOf, goal_of_response, told_within}
use Rattle.sm_rest.specs.bind_read.BoundGoals.{bound_at}
use Rattle.sm_rest.specs.bind_read.PartFaults.{parts_reading}
use Rattle.sm_rest.specs.rest_heads.BodyParts.{part_of, rest_use, use_by}
use Rattle.sm_rest.specs.rest_heads.RestParts.{head_parts, kept_head, status_in}
use Rattle.sm_rest.specs.rest_heads.declared.bodies.BodyPart.TheVariants.{Nothing}
use Rattle.sm_rest.specs.RestForm.{rest_form}
use Rattle.sm_rest_read.specs.Begun.{IsUnread, KeepsBytes}
use Rattle.sm_rest_read.specs.steps.Contents.{JoinsAt, NamesPlace, ReplyJoins, TellsNone, value_in}
use Rattle.sm_rest_read.specs.steps.RestAnswers.{RestAnswers, first_fault, none_named, not_read, spelled}
use Rattle.sm_rest_read.proofs.BodyShapes.{text_is_full}

-- a body that is a text at its goal is one at its address
named_text : (empty : Bool) → empty ≡ false → naming rest_form empty ≡ as_text
named_text true e = absurd cc
named_text false e = refl

text_there : (s : ServiceData) (bytes : List ℕ) (there : Address) (g : Goal) → LeadsTo (IsRead JsonText) rest_form s bytes there g
    → rest_use (bound_at s g) (is_empty bytes) ≡ as_text → use_of rest_form s bytes there ≡ as_text
text_there s bytes (to_goal h) g led text = subst (λ k. rest_use (bound_at s k) (is_empty bytes) ≡ as_text) (sym led) text
text_there s bytes (to_named_error o) g led text = named_text (is_empty bytes) (text_is_full (bound_at s g) (is_empty bytes) text)

module _ (s : ServiceData) (test : Test) (there : Address) (head : Head) (bytes : List ℕ) where
  pub goal_answers : (g : Goal) (r : Result Value MessageRefusal) → LeadsTo (IsRead JsonText) rest_form s bytes there g
      → JoinsAt (bound_at s g) test (head_parts s g head) bytes r → AnswersGoal (RestAnswers s test there head bytes) g r
  goal_answers g (Ok v) led (content, has, read) = spelled g content (val_of v) led has read refl
  goal_answers g (Err (refused.Fault f)) led (content, has, read) =
      first_fault g content f.path f.kind read.0 led has read.1 refl
  goal_answers g (Err (refused.Syntax r)) led (text, h) = not_read r (text_there s bytes there g led text) h refl
  goal_answers g (Err refused.NoMemory) led h = tt
  goal_answers g (Err refused.Protocol) led h = absurd h
  goal_answers g (Err refused.UnknownOperation) led h = absurd h
  goal_answers g (Err (refused.Unserved path)) led h = absurd h
  goal_answers g (Err refused.MediaType) led h = absurd h
  goal_answers g (Err refused.UnknownError) led h = absurd h

  replied : (o : ℕ) (role : Role) (told : Reply) → reply_role told ≡ role
      → RestAnswers s test there head bytes (the_value (goal_of o role) (val_of (value_in told)))
      → RestAnswers s test there head bytes (the_value (goal_of o (reply_role told)) (reply_val told))
  replied o role (Output v) same h =
      subst (λ k. RestAnswers s test there head bytes (the_value (goal_of o k) (val_of v))) (sym same) h
  replied o role (Error e v) same h =
      subst (λ k. RestAnswers s test there head bytes (the_value (goal_of o k) (val_of v))) (sym same) h

  pub reply_answers : (o : ℕ) (role : Role) (r : Result Reply MessageRefusal)
      → LeadsTo (IsRead JsonText) rest_form s bytes there (goal_of o role) → ReplyJoins s test (goal_of o role) head bytes r
      → AnswersResponse o (RestAnswers s test there head bytes) r
  reply_answers o role (Ok told) led (same, joins) =
      replied o role told same (goal_answers (goal_of o role) (Ok (value_in told)) led joins)
  reply_answers o role (Err e) led joins = goal_answers (goal_of o role) (Err e) led joins

-- what a body that is to name an error tells: no bytes are the empty object, which tells none
empty_named : (empty : Bool) → empty ≡ true → naming rest_form empty ≡ as_empty_object
empty_named true e = refl
empty_named false e = cc

pub empty_tells_none : (s : ServiceData) (o : ℕ) (bytes : List ℕ) → is_empty bytes ≡ true → TellsNone s o bytes
empty_tells_none s o bytes empty = (
  object no_members,
  subst (λ u. HasContent (IsRead JsonText) u bytes (a_tree (object no_members))) (sym (empty_named (is_empty bytes) empty)) refl,
  refl,
)

text_has : (bytes : List ℕ) (n : Node) → is_empty bytes ≡ false → IsRead JsonText n bytes
    → HasContent (IsRead JsonText) (naming rest_form (is_empty bytes)) bytes (a_tree n)
text_has bytes n full read =
    subst (λ u. HasContent (IsRead JsonText) u bytes (a_tree n)) (sym (named_text (is_empty bytes) full)) read

pub names_error : (s : ServiceData) (o : ℕ) (bytes : List ℕ) (n : Node) (e : ℕ) → is_empty bytes ≡ false → IsRead JsonText n bytes
    → error_of_tree rest_form s o n ≡ Some e → NamesPlace s o bytes (Ok e)
names_error s o bytes n e full read told = record { tree = n; has = text_has bytes n full read; names = told }

pub names_none : (s : ServiceData) (o : ℕ) (bytes : List ℕ) (n : Node) → is_empty bytes ≡ false → IsRead JsonText n bytes
    → error_of_tree rest_form s o n ≡ None → TellsNone s o bytes
names_none s o bytes n full read none = (n, text_has bytes n full read, none)

syntax_told : (s : ServiceData) (o : ℕ) (bytes : List ℕ) (r : SyntaxRefusal) → is_empty bytes ≡ false → Reads json_syntax bytes (Err r)
    → NamesPlace s o bytes (Err (syntax_refusal r))
syntax_told s o bytes (syntax.Bad at) full h = (named_text (is_empty bytes) full, h)
syntax_told s o bytes syntax.Ended full h = (named_text (is_empty bytes) full, h)
syntax_told s o bytes (syntax.TooDeep at) full h = (named_text (is_empty bytes) full, h)
syntax_told s o bytes (syntax.KeyKind at) full h = (named_text (is_empty bytes) full, h)
syntax_told s o bytes syntax.NoMemory full h = tt

pub naming_refused : (s : ServiceData) (o : ℕ) (bytes : List ℕ) (r : SyntaxRefusal) (e : MessageRefusal) → is_empty bytes ≡ false
    → e ≡ syntax_refusal r → Reads json_syntax bytes (Err r) → NamesPlace s o bytes (Err e)
naming_refused s o bytes r e full is h = subst (λ x. NamesPlace s o bytes (Err x)) (sym is) (syntax_told s o bytes r full h)

-- what it comes to without one
pub naming_answers : (s : ServiceData) (test : Test) (o : ℕ) (head : Head) (bytes : List ℕ) (e : MessageRefusal)
    → NamesPlace s o bytes (Err e) → RefusedAs (λ r. RestAnswers s test (to_named_error o) head bytes (the_refusal r)) e
naming_answers s test o head bytes refused.UnknownError h = none_named o refl h refl
naming_answers s test o head bytes (refused.Syntax r) (text, h) = not_read r text h refl
naming_answers s test o head bytes refused.NoMemory h = tt
naming_answers s test o head bytes refused.Protocol h = absurd h
naming_answers s test o head bytes refused.UnknownOperation h = absurd h
naming_answers s test o head bytes (refused.Unserved path) h = absurd h
naming_answers s test o head bytes refused.MediaType h = absurd h
naming_answers s test o head bytes (refused.Fault f) h = absurd h

pub named_role : (s : ServiceData) (o e : ℕ) (bytes : List ℕ) → NamesPlace s o bytes (Ok e) → HasRole (operation_at s o) (the_error e)
named_role s o e bytes names = told_within s o (told_by_body names.tree) e names.names

-- the message comes to what is told at its address
pub message_of : (s : ServiceData) (test : Test) (asked : Asked) (head : Head) (bytes : List ℕ) (there : Address) (a : MessageAnswer)
    → IsJudged rest_form s asked head (is_empty bytes) (addressed there) → RestAnswers s test there head bytes a
    → MessageAnswers rest_form s test asked head bytes a
message_of s test asked head bytes there a judged (not_read r used h e) = no_text there r judged used h e
message_of s test asked head bytes there a judged (none_named o at (n, has, none) e) =
    no_name o n (subst (λ t. IsJudged rest_form s asked head (is_empty bytes) (addressed t)) at judged) has none e
message_of s test asked head bytes there a judged (first_fault g content path kind later led has read e) =
    fault g path kind later (record { there = there; judged = judged; goal = led; content = content; has = has })
    (ap faults_in read) e
message_of s test asked head bytes there a judged (spelled g content v led has read e) =
    value g v (record { there = there; judged = judged; goal = led; content = content; has = has }) read e

-- what is kept of a head has the same address and the same parts
success_kept : (start : Start) → is_success (Response (status_in start)) ≡ is_success start
success_kept (Request method target) = refl
success_kept (Response status) = refl

pub answer_kept : (s : ServiceData) (o p : ℕ) (head : Head)
    → response_answer rest_form s (kept_head (a_response p) head) o ≡ response_answer rest_form s head o
answer_kept s o p head =
    ap (λ b. cond (is_plain head) (cond b (addressed (to_goal (goal_of o the_output))) (error_answer s o (told_by_head head)))
    (refused_at_head wrong_media_type)) (success_kept head.start)

abbrev pub KeepsParts : ServiceData → Asked → Address → Head → List ℕ → Type 0
KeepsParts s asked there head bytes =
    (g : Goal) → LeadsTo (IsRead JsonText) rest_form s bytes there g → head_parts s g (kept_head asked head) ≡ head_parts s g head

parts_kept : (s : ServiceData) (o p : ℕ) (role : Role) (head : Head) → is_input role ≡ false
    → head_parts s (goal_of p role) (kept_head (a_response o) head) ≡ head_parts s (goal_of p role) head
parts_kept s o p the_input head e = absurd cc
parts_kept s o p the_output head e = refl
parts_kept s o p (the_error d) head e = refl

pub request_keeps : (s : ServiceData) (there : Address) (head : Head) (bytes : List ℕ) → KeepsParts s a_request there head bytes
request_keeps s there head bytes g led = refl

pub response_keeps : (s : ServiceData) (o : ℕ) (there : Address) (head : Head) (bytes : List ℕ) → AddressOf s o there
    → KeepsParts s (a_response o) there head bytes
response_keeps s o there head bytes at g led =
    parts_kept s o g.operation g.role head (goal_of_response (IsRead JsonText) rest_form s bytes o there g at led).1

-- so what is kept of a message comes to what the message does
pub head_answers : (s : ServiceData) (test : Test) (asked : Asked) (there : Address) (head : Head) (bytes : List ℕ) (a : MessageAnswer)
    → KeepsParts s asked there head bytes → RestAnswers s test there (kept_head asked head) bytes a → RestAnswers s test there head bytes a
head_answers s test asked there head bytes a keeps (not_read r used h e) = not_read r used h e
head_answers s test asked there head bytes a keeps (none_named o at h e) = none_named o at h e
head_answers s test asked there head bytes a keeps (first_fault g content path kind later led has read e) =
    first_fault g content path kind later led has
    (ap (λ p. parts_reading (bound_at s g) test p content) (sym (keeps g led)) ∙ read) e
head_answers s test asked there head bytes a keeps (spelled g content v led has read e) =
    spelled g content v led has (ap (λ p. parts_reading (bound_at s g) test p content) (sym (keeps g led)) ∙ read) e

unread_used : (s : ServiceData) (g : Goal) (empty : Bool) → part_of (bound_at s g) ≡ Nothing → rest_use (bound_at s g) empty ≡ unread
unread_used s g empty e = ap (λ p. use_by p empty) e

unread_has : (s : ServiceData) (h g : Goal) (kept bytes : List ℕ) (content : Content) → part_of (bound_at s h) ≡ Nothing → h ≡ g
    → HasContent (IsRead JsonText) (rest_use (bound_at s g) (is_empty kept)) kept content
    → HasContent (IsRead JsonText) (rest_use (bound_at s g) (is_empty bytes)) bytes content
unread_has s h g kept bytes content nothing led has =
    let there : part_of (bound_at s g) ≡ Nothing = subst (λ k. part_of (bound_at s k) ≡ Nothing) led nothing in
    let none : HasContent (IsRead JsonText) unread kept content =
    subst (λ u. HasContent (IsRead JsonText) u kept content) (unread_used s g (is_empty kept) there) has
    in
    subst (λ u. HasContent (IsRead JsonText) u bytes content) (sym (unread_used s g (is_empty bytes) there)) none

dropped_answers : (s : ServiceData) (test : Test) (there : Address) (head : Head) (kept bytes : List ℕ) (a : MessageAnswer)
    → IsUnread s there → RestAnswers s test there head kept a → RestAnswers s test there head bytes a
dropped_answers s test (to_named_error o) head kept bytes a none h = absurd none
dropped_answers s test (to_goal g) head kept bytes a none (not_read r used h e) =
    let never : unread ≡ as_text = sym (unread_used s g (is_empty kept) none) ∙ used in absurd cc
dropped_answers s test (to_goal g) head kept bytes a none (none_named o at h e) = absurd cc
dropped_answers s test (to_goal h) head kept bytes a none (first_fault g content path kind later led has read e) =
    first_fault g content path kind later led (unread_has s h g kept bytes content none led has) read e
dropped_answers s test (to_goal h) head kept bytes a none (spelled g content v led has read e) =
    spelled g content v led (unread_has s h g kept bytes content none led has) read e

pub bytes_answers : (s : ServiceData) (test : Test) (there : Address) (head : Head) (dropped : Bool) (kept bytes : List ℕ)
    (a : MessageAnswer) → KeepsBytes s there dropped kept bytes → RestAnswers s test there head kept a → RestAnswers s test there head bytes a
bytes_answers s test there head true kept bytes a (none, nothing) h = dropped_answers s test there head kept bytes a none h
bytes_answers s test there head false kept bytes a same h = subst (λ b. RestAnswers s test there head b a) same h
