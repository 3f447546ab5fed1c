-- Members of one shape, read one after the other, and their braces.
use Rattle.std.proofs.Common.{◌≡◌, ◌<◌, ℕ, List, [], ◌∷◌, ◌++◌, codes, refl, sym, ap, subst, ◌∙◌, length}
use Rattle.std.proofs.lemmas.List.{map_push}
use Rattle.std.specs.BTreeSet.{BTreeSet}
use Rattle.std.specs.declared.alloc.Global.{Global}
use Rattle.std.specs.declared.string.String.{String}
use Rattle.sm_lex.specs.Tokens.{Lexeme}
use Rattle.sm_model.specs.Formed.{stated_names}
use Rattle.sm_model.specs.Kinds.{MemberForm, any}
use Rattle.sm_model.specs.Said.{MemberSaid}
use Rattle.sm_model.specs.SaidView.{member_view, member_statements_view}
use Rattle.sm_model.specs.declared.statement.MemberStatement.{MemberStatement}
use Rattle.sm_idl.specs.Productions.{Tokens, Production, one, gives, ◌>>=◌, ◌>>◌, EachSpells, each}
use Rattle.sm_idl.specs.Words.{IsMark, IsNew, mark, mark_where}
use Rattle.sm_idl.specs.Nodes.{Home}
use Rattle.sm_idl.specs.Members.{IsNameOf, HasMembers, arranged, member, members}
use Rattle.sm_idl.specs.declared.members.MemberKind.{MemberKind}
use Rattle.sm_idl.specs.declared.members.MemberKind.TheVariants.{Value, Item, Pair, Choice, Field}
use Rattle.sm_idl.specs.declared.reader.ReadStop.{ReadStop}
use Rattle.sm_idl.specs.declared.reader.ReadStop.TheVariants.{Syntax, NoMemory}
use Rattle.sm_idl.specs.steps.Classes.{Either, AMark, Equals, MemberStart}
use Rattle.sm_idl.specs.steps.Firm.{HeadIs, AreApart, IsFirm}
use Rattle.sm_idl.specs.steps.MemberSteps.{form_of, entry, AreNamed}
use Rattle.sm_idl.specs.steps.Names.{Remembers}
use Rattle.sm_idl.specs.steps.ReaderView.{NoToken, StopsIn}
use Rattle.sm_idl.specs.steps.Reading.{IsRead}
use Rattle.sm_idl.proofs.TokenLists.{no_tokens}
use Rattle.sm_idl.proofs.TokenClasses.{marks_unlike, mark_no_word, turned, either_apart}
use Rattle.sm_idl.proofs.FirmShort.{given_firm}
use Rattle.sm_idl.proofs.FirmNodes.{mark_firm}
use Rattle.sm_idl.proofs.FirmMembers.{enum_member_firm, plain_firm, field_firm, equals_no_member, closing_firm}
use Rattle.sm_idl.proofs.Passing.{read_whole, shorter, stops_first, stops_behind, stops_in_row, stops_past_row}
use Rattle.sm_idl.proofs.Rows.{IsRow, row_none, row_more, row_read, row_stop}

-- a token of which nothing says anything
pub never_stop : {X : Type 0} (Is : Lexeme → X → Type 0) (s : Tokens) → ((t : Lexeme) (x : X) → Is t x → ⊥)
    → StopsIn NoToken (one Is) s s Syntax
never_stop Is s none = record {
  before = [];
  cut = refl;
  begun = refl;
  wholes = λ x u h. absurd (none h.0.token x h.2);
  stops = λ t q e h. no_tokens t [] (sym h);
}

-- a mark with a condition stops where the mark does
pub where_stop : (m : List ℕ) (Holds : Type 0) (s r : Tokens) (stop : ReadStop) → StopsIn NoToken (mark m) s r stop
    → StopsIn NoToken (mark_where m Holds) s r stop
where_stop m Holds s r NoMemory k = tt
where_stop m Holds s r Syntax k = record {
  before = k.before;
  cut = k.cut;
  begun = k.begun;
  wholes = λ x u h. k.wholes x u (h.0, h.1, h.2.0);
  stops = k.stops;
}

-- names of what is read of one kind
named_member : (home : Home) (form : MemberForm) (before : List MemberSaid) (x : MemberSaid) (s r : Tokens)
    → (member home form before).whole x s r → IsNameOf form x.name × IsNew x.name (stated_names before)
named_member home form before x s r (d, doc, (ts, a, th, (name, b, (t, f, (w, is)), (_, c, colon, (target, v, k, (e, last)))))) = (
  subst (λ n. IsNameOf form n) (sym (ap (λ m. m.name) e)) is.1,
  subst (λ n. IsNew n (stated_names before)) (sym (ap (λ m. m.name) e)) is.2,
)

named_entry : (home : Home) (kind : MemberKind) (before : List MemberSaid) (x : MemberSaid) (s r : Tokens)
    → (entry home kind before).whole x s r → IsNameOf (form_of kind) x.name × IsNew x.name (stated_names before)
named_entry home Value before x s r (d, doc, (ts, a, th, (name, b, (t, f, (w, is)), (value, v, k, (e, last))))) =
    (tt, subst (λ n. IsNew n (stated_names before)) (sym (ap (λ m. m.name) e)) is.2)
named_entry home Item before x s r h = named_member home (form_of Item) before x s r h
named_entry home Pair before x s r h = named_member home (form_of Pair) before x s r h
named_entry home Choice before x s r h = named_member home any before x s r h
named_entry home Field before x s r (m, a, h, (value, v, k, (e, last))) = (
  tt,
  subst (λ n. IsNew n (stated_names before)) (sym (ap (λ z. z.name) e)) (named_member home any before m s a h).1,
)

pub each_named : (home : Home) (kind : MemberKind) (before ms : List MemberSaid) (s r : Tokens)
    → EachSpells (entry home kind) before ms s r → AreNamed (form_of kind) before ms
each_named home kind before [] s r h = tt
each_named home kind before (m ∷ ms) s r (t, h, k) =
    let n = named_entry home kind before m s t h in (n.0, n.1, each_named home kind (before ++ m ∷ []) ms t r k)

pub entry_firm : (home : Home) (kind : MemberKind) (before : List MemberSaid) → IsFirm ⊥ MemberStart Equals (entry home kind before)
entry_firm home Value before = enum_member_firm home before
entry_firm home Item before = plain_firm home (form_of Item) before
entry_firm home Pair before = plain_firm home (form_of Pair) before
entry_firm home Choice before = plain_firm home any before
entry_firm home Field before = field_firm home before

module _ (home : Home) (kind : MemberKind) where
  -- members that came
  abbrev pub MembersSoFar : List MemberStatement → Tokens → Tokens → Type 0
  MembersSoFar have s a = IsRow (Either MemberStart Equals) (entry home kind) [] (member_statements_view have) s a

  pub members_none : (have : List MemberStatement) (s : Tokens) → have ≡ [] → MembersSoFar have s s
  members_none have s e =
      subst (λ l. IsRow (Either MemberStart Equals) (entry home kind) [] (member_statements_view l) s s) (sym e)
      (row_none MemberStart Equals (entry home kind) (entry_firm home kind) equals_no_member [] s)

  members_grow : (have more : List MemberStatement) (x : MemberStatement) → more ≡ have ++ x ∷ []
      → member_statements_view more ≡ member_statements_view have ++ member_view x ∷ []
  members_grow have more x e = ap member_statements_view e ∙ map_push member_view have x

  pub members_more : (have more : List MemberStatement) (x : MemberStatement) (s a r : Tokens) → more ≡ have ++ x ∷ []
      → MembersSoFar have s a → IsRead Equals (entry home kind (member_statements_view have)) (member_view x) a r → MembersSoFar more s r
  members_more have more x s a r e i m =
      subst (λ l. IsRow (Either MemberStart Equals) (entry home kind) [] l s r) (sym (members_grow have more x e))
      (row_more MemberStart Equals (entry home kind) (entry_firm home kind) equals_no_member [] (member_statements_view have)
      (member_view x) s
      a r i m)

  pub members_seen : (set : BTreeSet (String Global)) (have more : List MemberStatement) (x : MemberStatement) → more ≡ have ++ x ∷ []
      → Remembers set (stated_names (member_statements_view have ++ member_view x ∷ []))
      → Remembers set (stated_names (member_statements_view more))
  members_seen set have more x e h = subst (λ l. Remembers set (stated_names l)) (sym (members_grow have more x e)) h

  pub members_fewer : (before : List MemberSaid) (x : MemberSaid) (a r : Tokens) → IsRead Equals (entry home kind before) x a r
      → length r < length a
  members_fewer before x a r m =
      shorter (entry home kind before) (entry_firm home kind before) x a r (read_whole (entry home kind before) x a r m)

  pub members_end : (have : List MemberStatement) (s a : Tokens) → MembersSoFar have s a → (HeadIs MemberStart a → ⊥)
      → IsRead (Either MemberStart Equals) (each (entry home kind)) (member_statements_view have) s a
  members_end have s a i none =
      row_read MemberStart Equals (entry home kind) (entry_firm home kind) equals_no_member [] (member_statements_view have) s a i none

  pub members_stop : (have : List MemberStatement) (s a r : Tokens) (stop : ReadStop) → MembersSoFar have s a → HeadIs MemberStart a
      → StopsIn Equals (entry home kind (member_statements_view have)) a r stop
      → StopsIn (Either MemberStart Equals) (each (entry home kind)) s r stop
  members_stop have s a r stop i here k =
      row_stop MemberStart Equals (entry home kind) (entry_firm home kind) equals_no_member [] (member_statements_view have) s a r stop
      i here
      k

  -- their braces
  abbrev closes : List MemberSaid → Production (List MemberSaid)
  closes ms = mark_where (codes "}") (HasMembers (form_of kind) ms) >> gives (arranged (form_of kind) ms)

  abbrev within : Production (List MemberSaid)
  within = each (entry home kind) >>= closes

  closes_firm : (ms : List MemberSaid) → IsFirm ⊥ (AMark (codes "}")) NoToken (closes ms)
  closes_firm ms =
      given_firm (mark_where (codes "}") (HasMembers (form_of kind) ms)) (λ _. _) (closing_firm (codes "}") (HasMembers (form_of kind) ms))

  no_close : AreApart (Either MemberStart Equals) (AMark (codes "}"))
  no_close = either_apart _ _ _ (either_apart _ _ _ (marks_unlike (codes "@") (codes "}") refl) (turned _ _ (mark_no_word (codes "}"))))
      (marks_unlike (codes "=") (codes "}") refl)

  pub brace_stop : (s r : Tokens) (stop : ReadStop) → StopsIn NoToken (mark (codes "{")) s r stop
      → StopsIn NoToken (members (form_of kind) (entry home kind)) s r stop
  brace_stop s r stop k = stops_first NoToken (mark (codes "{")) (λ _. within) s r stop k

  past_brace : (s a r : Tokens) (stop : ReadStop) → (mark (codes "{")).whole tt s a → StopsIn NoToken within a r stop
      → StopsIn NoToken (members (form_of kind) (entry home kind)) s r stop
  past_brace s a r stop h k = stops_behind NoToken (mark (codes "{")) (λ _. within) (mark_firm (codes "{")) tt s a r stop h k

  pub within_stop : (s a r : Tokens) (stop : ReadStop) → (mark (codes "{")).whole tt s a
      → StopsIn (Either MemberStart Equals) (each (entry home kind)) a r stop
      → StopsIn NoToken (members (form_of kind) (entry home kind)) s r stop
  within_stop s a r stop h k = past_brace s a r stop h (stops_in_row (each (entry home kind)) closes closes_firm no_close a r stop k)

  past_members : (ms : List MemberSaid) (s a b r : Tokens) (stop : ReadStop) → (mark (codes "{")).whole tt s a
      → IsRead (Either MemberStart Equals) (each (entry home kind)) ms a b
      → StopsIn NoToken (mark_where (codes "}") (HasMembers (form_of kind) ms)) b r stop
      → StopsIn NoToken (members (form_of kind) (entry home kind)) s r stop
  past_members ms s a b r stop h m k =
      past_brace s a r stop h (stops_past_row (each (entry home kind)) closes closes_firm no_close ms a b r stop m
      (stops_first NoToken (mark_where (codes "}") (HasMembers (form_of kind) ms)) _ b r stop k))

  pub close_stop : (ms : List MemberSaid) (s a b r : Tokens) (stop : ReadStop) → (mark (codes "{")).whole tt s a
      → IsRead (Either MemberStart Equals) (each (entry home kind)) ms a b → StopsIn NoToken (mark (codes "}")) b r stop
      → StopsIn NoToken (members (form_of kind) (entry home kind)) s r stop
  close_stop ms s a b r stop h m k =
      past_members ms s a b r stop h m (where_stop (codes "}") (HasMembers (form_of kind) ms) b r stop k)

  pub missing_stop : (ms : List MemberSaid) (s a b : Tokens) → (mark (codes "{")).whole tt s a
      → IsRead (Either MemberStart Equals) (each (entry home kind)) ms a b → (HasMembers (form_of kind) ms → ⊥)
      → StopsIn NoToken (members (form_of kind) (entry home kind)) s b Syntax
  missing_stop ms s a b h m none =
      past_members ms s a b b Syntax h m
      (never_stop (λ t _. IsMark (codes "}") t × HasMembers (form_of kind) ms) b (λ t x k. none k.1))

  pub members_read : (ms made : List MemberSaid) (s a b r : Tokens) → made ≡ arranged (form_of kind) ms → HasMembers (form_of kind) ms
      → (mark (codes "{")).whole tt s a → IsRead (Either MemberStart Equals) (each (entry home kind)) ms a b
      → (mark (codes "}")).whole tt b r → (members (form_of kind) (entry home kind)).whole made s r
  members_read ms made s a b r e has h m k =
      (tt, a, h, (ms, b, read_whole (each (entry home kind)) ms a b m, (tt, r, (k.0, k.1, (k.2, has)), (e, refl))))

  pub members_named : (ms : List MemberSaid) (a b : Tokens) → IsRead (Either MemberStart Equals) (each (entry home kind)) ms a b
      → AreNamed (form_of kind) [] ms
  members_named ms a b m = each_named home kind [] ms a b (read_whole (each (entry home kind)) ms a b m)
