-- From what the body of a message comes to at an address, where it is one tree, to what the message comes to.
use Rattle.std.proofs.Common.{◌≡◌, ℕ, Bool, true, false, cond, List, Option, None, Some, refl, sym, ap, ◌∙◌, subst}
use Rattle.std.specs.Prelude.{◌&&◌, ◌||◌, Result, Ok, Err}
use Rattle.sm_tree.specs.Node.{Node, no_members, object}
use Rattle.sm_tree.specs.Syntax.{IsRead, Reads, Syntax}
use Rattle.sm_tree.specs.declared.refusal.SyntaxRefusal.{SyntaxRefusal}
use Rattle.sm_tree.specs.declared.refusal.SyntaxRefusal.TheVariants as syntax
use Rattle.sm_tree.specs.declared.tree.Tree.{Tree}
use Rattle.sm_shapes.specs.Fitting.{Test}
use Rattle.sm_shapes.specs.ValueView.{val_of}
use Rattle.sm_shapes.specs.declared.values.Value.{Value}
use Rattle.sm_codec.specs.Codec.{Codec}
use Rattle.sm_codec.specs.Convention.{Convention}
use Rattle.sm_bodies.specs.Bodies.{DecodesAs}
use Rattle.sm_bodies.specs.declared.reading.BodyRefusal.{BodyRefusal}
use Rattle.sm_bodies.specs.declared.reading.BodyRefusal.TheVariants as body
use Rattle.sm_http.specs.declared.message.Head.{Head}
use Rattle.sm_service.specs.ServiceData.{ServiceData}
use Rattle.sm_messages.specs.Answers.{AnswersRequest, AnswersResponse, AtHead, RefusedAs, reply_role, reply_val}
use Rattle.sm_messages.specs.Begun.{is_error, is_held}
use Rattle.sm_messages.specs.Goals.{Asked, Goal, Role, goal_of, goal_shape, the_error, the_input, the_output}
use Rattle.sm_messages.specs.HeadAnswers.{Address, HeadAnswer, HeadRefusal, IsJudged, addressed, not_served, refused_at_head, to_goal}
use Rattle.sm_messages.specs.HeadAnswers.{to_named_error, unknown_error, unknown_operation, wrong_media_type, wrong_protocol}
use Rattle.sm_messages.specs.Heads.{is_empty}
use Rattle.sm_messages.specs.MessageAnswers.{MessageAnswer, MessageAnswers, Reaches, Refusal, by_fault, by_head, by_syntax, fault, no_name}
use Rattle.sm_messages.specs.MessageAnswers.{no_text, the_refusal, the_value, use_of, value}
use Rattle.sm_messages.specs.MessageForm.{BodyUse, HasContent, MessageForm, a_tree, as_empty_object, as_text, naming}
use Rattle.sm_messages.specs.Messages.{LeadsTo, place_told}
use Rattle.sm_messages.specs.TreeAnswers.{AnswersGoal, NamesReply, TreeAnswers, TreeComesTo, TreeLeads, address_use, body_refusal, first_fault, none_named}
use Rattle.sm_messages.specs.TreeAnswers.{not_read, spelled, syntax_refusal}
use Rattle.sm_messages.specs.TreeBodies.{is_unit, tree_codec, tree_use}
use Rattle.sm_messages.specs.TreeForms.{IsTreeForm}
use Rattle.sm_messages.specs.declared.refusal.MessageRefusal.{MessageRefusal}
use Rattle.sm_messages.specs.declared.refusal.MessageRefusal.TheVariants as refused
use Rattle.sm_messages.specs.declared.reply.Reply.{Reply}
use Rattle.sm_messages.specs.declared.reply.Reply.TheVariants as reply

-- a refusal stays one where more is refused so
pub refused_more : (P Q : Refusal → Type 0) → ((r : Refusal) → P r → Q r) → (e : MessageRefusal) → RefusedAs P e → RefusedAs Q e
refused_more P Q on refused.Protocol h = on (by_head wrong_protocol) h
refused_more P Q on refused.UnknownOperation h = on (by_head unknown_operation) h
refused_more P Q on (refused.Unserved path) h = on (by_head (not_served path)) h
refused_more P Q on refused.MediaType h = on (by_head wrong_media_type) h
refused_more P Q on refused.UnknownError h = on (by_head unknown_error) h
refused_more P Q on (refused.Syntax r) h = on (by_syntax r) h
refused_more P Q on (refused.Fault f) h = on (by_fault f.path f.kind) h
refused_more P Q on refused.NoMemory h = tt

at_head : (P Q : HeadRefusal → Type 0) → ((r : HeadRefusal) → P r → Q r) → (r : Refusal) → AtHead P r → AtHead Q r
at_head P Q on (by_head r) h = on r h
at_head P Q on (by_syntax r) h = absurd h
at_head P Q on (by_fault path kind) h = absurd h

pub head_refused : (P Q : HeadRefusal → Type 0) → ((r : HeadRefusal) → P r → Q r) → (e : MessageRefusal) → RefusedAs (AtHead P) e
    → RefusedAs (AtHead Q) e
head_refused P Q on e h = refused_more (AtHead P) (AtHead Q) (at_head P Q on) e h

-- what is only refused for want of memory
pub out_of_memory : (P : Refusal → Type 0) (e : MessageRefusal) → RefusedAs (λ r. ⊥) e → RefusedAs P e
out_of_memory P e h = refused_more (λ r. ⊥) P (λ r x. absurd x) e h

pub refusal_or_address : (r : HeadRefusal) (there : Address) → addressed there ≡ refused_at_head r → ⊥
refusal_or_address r there e = cc

-- what has an address isn't refused at its head
pub none_refused : (P : Refusal → Type 0) (a : HeadAnswer) (there : Address) (e : MessageRefusal) → a ≡ addressed there
    → RefusedAs (AtHead (λ r. a ≡ refused_at_head r)) e → RefusedAs P e
none_refused P a there e at h =
    refused_more (AtHead (λ r. a ≡ refused_at_head r)) P (λ r x. absurd (never r x)) e h
  where
    never : (r : Refusal) → AtHead (λ r. a ≡ refused_at_head r) r → ⊥
    never (by_head r) x = refusal_or_address r there (sym at ∙ x)
    never (by_syntax r) x = x
    never (by_fault path kind) x = x

-- answers stay such where more is answered so
pub goal_more : (P Q : MessageAnswer → Type 0) → ((a : MessageAnswer) → P a → Q a) → (g : Goal) (r : Result Value MessageRefusal)
    → AnswersGoal P g r → AnswersGoal Q g r
goal_more P Q on g (Ok v) h = on (the_value g (val_of v)) h
goal_more P Q on g (Err e) h = refused_more (λ r. P (the_refusal r)) (λ r. Q (the_refusal r)) (λ r. on (the_refusal r)) e h

pub request_more : (P Q : MessageAnswer → Type 0) → ((a : MessageAnswer) → P a → Q a) → (r : Result (ℕ × Value) MessageRefusal)
    → AnswersRequest P r → AnswersRequest Q r
request_more P Q on (Ok asked) h = on (the_value (goal_of asked.0 the_input) (val_of asked.1)) h
request_more P Q on (Err e) h = refused_more (λ r. P (the_refusal r)) (λ r. Q (the_refusal r)) (λ r. on (the_refusal r)) e h

pub response_more : (P Q : MessageAnswer → Type 0) → ((a : MessageAnswer) → P a → Q a) → (o : ℕ) (r : Result Reply MessageRefusal)
    → AnswersResponse o P r → AnswersResponse o Q r
response_more P Q on o (Ok given) h = on (the_value (goal_of o (reply_role given)) (reply_val given)) h
response_more P Q on o (Err e) h = refused_more (λ r. P (the_refusal r)) (λ r. Q (the_refusal r)) (λ r. on (the_refusal r)) e h

-- how bytes are used
pub held_use : (s : ServiceData) (g : Goal) (empty : Bool) → is_held (to_goal g) empty ≡ false → tree_use s g empty ≡ as_text
held_use s g empty h = ap (λ e. cond (e && is_unit s (goal_shape s g) g.role) as_empty_object as_text) (full (is_error g.role) empty h)
  where
    full : (b e : Bool) → (b || e) ≡ false → e ≡ false
    full true e x = absurd cc
    full false e x = x

-- where it is `Unit` or not
pub unit_use : (s : ServiceData) (g : Goal) (shape : ℕ) (unit empty stands : Bool) → goal_shape s g ≡ shape → is_unit s shape g.role ≡ unit
    → stands ≡ (empty && unit) → tree_use s g empty ≡ cond stands as_empty_object as_text
unit_use s g shape unit empty stands at is same =
    ap (λ k. cond (empty && is_unit s k g.role) as_empty_object as_text) at ∙ ap (λ u. cond (empty && u) as_empty_object as_text) is
    ∙ ap (λ b. cond b as_empty_object as_text) (sym same)

pub error_use : (s : ServiceData) (o e : ℕ) (empty : Bool) → tree_use s (goal_of o (the_error e)) empty ≡ as_text
error_use s o e true = refl
error_use s o e false = refl

-- a form of one tree
module _ (f : MessageForm) (l : Convention) (content_type : List ℕ) (is : IsTreeForm f l content_type) where
  named_use : (empty : Bool) → naming f empty ≡ as_text
  named_use empty = ap (λ b. cond (b && empty) as_empty_object as_text) is.naming

  used : (s : ServiceData) (bytes : List ℕ) (there : Address) → use_of f s bytes there ≡ address_use s bytes there
  used s bytes (to_goal g) = is.body s g (is_empty bytes)
  used s bytes (to_named_error o) = named_use (is_empty bytes)

  leads : (s : ServiceData) (bytes : List ℕ) (there : Address) (n : Node) (g : Goal)
      → TreeLeads f.syntax s f.body_error bytes there n g → LeadsTo (IsRead f.syntax.text) f s bytes there g
  leads s bytes (to_goal h) n g at = at
  leads s bytes (to_named_error o) n g (e, read, told, at) = (
    e,
    record {
      tree = n;
      has = subst (λ u. HasContent (IsRead f.syntax.text) u bytes (a_tree n)) (sym (named_use (is_empty bytes))) read;
      names = told;
    },
    at,
  )

  reached : (s : ServiceData) (asked : Asked) (head : Head) (bytes : List ℕ) (there : Address) (n : Node) (g : Goal)
      → IsJudged f s asked head (is_empty bytes) (addressed there) → TreeLeads f.syntax s f.body_error bytes there n g
      → HasContent (IsRead f.syntax.text) (tree_use s g (is_empty bytes)) bytes (a_tree n) → Reaches f s asked head bytes g
  reached s asked head bytes there n g judged at has = record {
    there = there;
    judged = judged;
    goal = leads s bytes there n g at;
    content = a_tree n;
    has = subst (λ u. HasContent (IsRead f.syntax.text) u bytes (a_tree n)) (sym (is.body s g (is_empty bytes))) has;
  }

  -- what its body comes to, the message comes to
  pub message_of : (s : ServiceData) (test : Test) (asked : Asked) (head : Head) (bytes : List ℕ) (there : Address) (a : MessageAnswer)
      → IsJudged f s asked head (is_empty bytes) (addressed there)
      → TreeAnswers f.syntax (tree_codec l s test) s f.body_error there bytes a → MessageAnswers f s test asked head bytes a
  unfolding reached
  message_of s test asked head bytes there a judged (not_read r at refusal e) =
      no_text there r judged (used s bytes there ∙ at) refusal e
  message_of s test asked head bytes there a judged (none_named o n at read none e) =
      no_name o n (subst (λ t. IsJudged f s asked head (is_empty bytes) (addressed t)) at judged)
      (subst (λ u. HasContent (IsRead f.syntax.text) u bytes (a_tree n)) (sym (named_use (is_empty bytes))) read) none e
  message_of s test asked head bytes there a judged (first_fault g n path kind later at has first e) =
      fault g path kind later (reached s asked head bytes there n g judged at has) (is.faults s test g head (a_tree n) ∙ first) e
  message_of s test asked head bytes there a judged (spelled g n v at has spells e) =
      value g v (reached s asked head bytes there n g judged at has) (is.spells s test g head (a_tree n) v spells) e

-- what a body comes to by what its tree does
module _ (S : Syntax) (c : Codec) (s : ServiceData) (told : Node → Option (List ℕ)) (there : Address) (bytes : List ℕ) where
  pub tree_answers : (g : Goal) (n : Node) (r : Result Value MessageRefusal) → TreeLeads S s told bytes there n g
      → HasContent (IsRead S.text) (tree_use s g (is_empty bytes)) bytes (a_tree n) → TreeComesTo c (goal_shape s g) n r
      → AnswersGoal (TreeAnswers S c s told there bytes) g r
  tree_answers g n (Ok v) at has decodes = spelled g n (val_of v) at has decodes.0 refl
  tree_answers g n (Err (refused.Fault f)) at has decodes = first_fault g n f.path f.kind decodes.0 at has decodes.1 refl
  tree_answers g n (Err refused.NoMemory) at has decodes = tt
  tree_answers g n (Err refused.Protocol) at has decodes = absurd decodes
  tree_answers g n (Err refused.UnknownOperation) at has decodes = absurd decodes
  tree_answers g n (Err (refused.Unserved path)) at has decodes = absurd decodes
  tree_answers g n (Err refused.MediaType) at has decodes = absurd decodes
  tree_answers g n (Err refused.UnknownError) at has decodes = absurd decodes
  tree_answers g n (Err (refused.Syntax r)) at has decodes = absurd decodes

-- and by what its bytes do, where they are a text
module _ (S : Syntax) (c : Codec) (s : ServiceData) (told : Node → Option (List ℕ)) (g : Goal) (bytes : List ℕ) where
  text_has : (n : Node) → tree_use s g (is_empty bytes) ≡ as_text → IsRead S.text n bytes
      → HasContent (IsRead S.text) (tree_use s g (is_empty bytes)) bytes (a_tree n)
  text_has n text read = subst (λ u. HasContent (IsRead S.text) u bytes (a_tree n)) (sym text) read

  pub text_value : (v : Value) → tree_use s g (is_empty bytes) ≡ as_text → DecodesAs S c (goal_shape s g) bytes (Ok v)
      → AnswersGoal (TreeAnswers S c s told (to_goal g) bytes) g (Ok v)
  text_value v used_so (n, read, decodes) = spelled g n (val_of v) refl (text_has n used_so read) decodes.0 refl

  pub text_refused : (e : BodyRefusal) → tree_use s g (is_empty bytes) ≡ as_text → DecodesAs S c (goal_shape s g) bytes (Err e)
      → AnswersGoal (TreeAnswers S c s told (to_goal g) bytes) g (Err (body_refusal e))
  text_refused (body.Syntax r) used_so h = not_read r used_so h refl
  text_refused (body.Fault f) used_so (n, read, decodes) =
      first_fault g n f.path f.kind decodes.0 refl (text_has n used_so read) decodes.1 refl
  text_refused body.NoMemory used_so h = tt

  -- no bytes, as the empty object
  pub empty_answers : (r : Result Value MessageRefusal) → tree_use s g (is_empty bytes) ≡ as_empty_object
      → TreeComesTo c (goal_shape s g) (object no_members) r → AnswersGoal (TreeAnswers S c s told (to_goal g) bytes) g r
  empty_answers r used_so decodes =
      tree_answers S c s told (to_goal g) bytes g (object no_members) r refl
      (subst (λ u. HasContent (IsRead S.text) u bytes (a_tree (object no_members))) (sym used_so) refl) decodes

-- of an error that its body names
module _ (S : Syntax) (c : Codec) (s : ServiceData) (told : Node → Option (List ℕ)) (o : ℕ) (bytes : List ℕ) where
  pub tree_refused : (e : SyntaxRefusal) → Reads S bytes (Err e)
      → RefusedAs (λ r. TreeAnswers S c s told (to_named_error o) bytes (the_refusal r)) (syntax_refusal e)
  tree_refused (syntax.Bad p) h = not_read (syntax.Bad p) refl h refl
  tree_refused syntax.Ended h = not_read syntax.Ended refl h refl
  tree_refused (syntax.TooDeep p) h = not_read (syntax.TooDeep p) refl h refl
  tree_refused (syntax.KeyKind p) h = not_read (syntax.KeyKind p) refl h refl
  tree_refused syntax.NoMemory h = tt

  named_leads : (e : ℕ) (n : Node) → IsRead S.text n bytes → place_told s o (told n) ≡ Some e
      → TreeLeads S s told bytes (to_named_error o) n (goal_of o (the_error e))
  named_leads e n read names = (e, read, names, refl)

  named_has : (e : ℕ) (n : Node) → IsRead S.text n bytes
      → HasContent (IsRead S.text) (tree_use s (goal_of o (the_error e)) (is_empty bytes)) bytes (a_tree n)
  named_has e n read = subst (λ u. HasContent (IsRead S.text) u bytes (a_tree n)) (sym (error_use s o e (is_empty bytes))) read

  pub named_answers : (n : Node) (r : Result Reply MessageRefusal) → IsRead S.text n bytes → NamesReply c s told o n r
      → AnswersResponse o (TreeAnswers S c s told (to_named_error o) bytes) r
  named_answers n (Ok (reply.Error e v)) read (names, decodes) =
      spelled (goal_of o (the_error e)) n (val_of v) (named_leads e n read names) (named_has e n read) decodes.0 refl
  named_answers n (Ok (reply.Output v)) read h = absurd h
  named_answers n (Err refused.UnknownError) read none = none_named o n refl read none refl
  named_answers n (Err (refused.Fault f)) read (e, names, decodes) =
      first_fault (goal_of o (the_error e)) n f.path f.kind decodes.0 (named_leads e n read names) (named_has e n read) decodes.1 refl
  named_answers n (Err refused.NoMemory) read h = tt
  named_answers n (Err refused.Protocol) read h = absurd h
  named_answers n (Err refused.UnknownOperation) read h = absurd h
  named_answers n (Err (refused.Unserved path)) read h = absurd h
  named_answers n (Err refused.MediaType) read h = absurd h
  named_answers n (Err (refused.Syntax r)) read h = absurd h

  -- an error that was told, by what its tree comes to
  pub names_reply : (e : ℕ) (n : Node) (r : MessageRefusal) → place_told s o (told n) ≡ Some e
      → TreeComesTo c (goal_shape s (goal_of o (the_error e))) n (Err r) → NamesReply c s told o n (Err r)
  names_reply e n (refused.Fault f) names h = (e, names, h)
  names_reply e n refused.NoMemory names h = tt
  names_reply e n refused.Protocol names h = absurd h
  names_reply e n refused.UnknownOperation names h = absurd h
  names_reply e n (refused.Unserved path) names h = absurd h
  names_reply e n refused.MediaType names h = absurd h
  names_reply e n refused.UnknownError names h = absurd h
  names_reply e n (refused.Syntax x) names h = absurd h
