-- What the parts of a member's reading say of it.
use Rattle.std.proofs.Common.{◌≡◌, ℕ, List, [], ◌∷◌, ◌++◌, Option, false, codes, refl, sym, ap, subst, ◌∙◌}
use Rattle.std.proofs.lemmas.List.{map_push}
use Rattle.std.specs.BTreeSet.{BTreeSet}
use Rattle.std.specs.declared.alloc.Global.{Global}
use Rattle.std.specs.declared.string.String.{String}
use Rattle.sm_model.specs.Formed.{stated_names}
use Rattle.sm_model.specs.Kinds.{MemberForm, any}
use Rattle.sm_model.specs.PreludeShapes.{unit_id}
use Rattle.sm_model.specs.Raw.{Raw}
use Rattle.sm_model.specs.References.{absolute}
use Rattle.sm_model.specs.Said.{TraitSaid, MemberSaid}
use Rattle.sm_model.specs.declared.reference.Ref.{Ref}
use Rattle.sm_idl.specs.Productions.{Tokens, Production, gives, ◌>>=◌, ◌>>◌}
use Rattle.sm_idl.specs.Words.{IsWordId, mark, id}
use Rattle.sm_idl.specs.Nodes.{Home, written}
use Rattle.sm_idl.specs.Traits.{traits, value_trait}
use Rattle.sm_idl.specs.Members.{member_name, given_value, enum_member_with, member_with, member, field}
use Rattle.sm_idl.specs.declared.reader.ReadStop.{ReadStop}
use Rattle.sm_idl.specs.steps.Classes.{AnyWord, TraitGoesOn, Equals}
use Rattle.sm_idl.specs.steps.Firm.{IsFirm}
use Rattle.sm_idl.specs.steps.MemberSteps.{enum_member_said, field_said}
use Rattle.sm_idl.specs.steps.Names.{Remembers}
use Rattle.sm_idl.specs.steps.ReaderView.{NoToken, StopsIn}
use Rattle.sm_idl.specs.steps.Reading.{IsRead}
use Rattle.sm_idl.proofs.FirmShort.{then_firm, given_firm}
use Rattle.sm_idl.proofs.FirmNodes.{mark_firm}
use Rattle.sm_idl.proofs.FirmTraits.{word_firm}
use Rattle.sm_idl.proofs.FirmMembers.{value_firm, name_firm, traits_no_word, member_firm}
use Rattle.sm_idl.proofs.Passing.{read_whole, stops_first, stops_behind, stops_in_row, stops_past_row, behind_read, past_read}
use Rattle.sm_idl.proofs.Passing.{value_read, value_stop}

-- the names that came, with one more
pub seen_member : (set : BTreeSet (String Global)) (before : List MemberSaid) (name : List ℕ) (m : MemberSaid) → m.name ≡ name
    → Remembers set (stated_names before ++ name ∷ []) → Remembers set (stated_names (before ++ m ∷ []))
seen_member set before name m e h =
    subst (λ l. Remembers set l) (ap (λ z. stated_names before ++ z ∷ []) (sym e) ∙ sym (map_push (λ n. n.name) before m)) h

pub field_seen : (set : BTreeSet (String Global)) (before : List MemberSaid) (m made : MemberSaid) → made.name ≡ m.name
    → Remembers set (stated_names (before ++ m ∷ [])) → Remembers set (stated_names (before ++ made ∷ []))
field_seen set before m made e h =
    subst (λ l. Remembers set l) (map_push (λ n. n.name) before m ∙ ap (λ z. stated_names before ++ z ∷ []) (sym e)
    ∙ sym (map_push (λ n. n.name) before made)) h

abbrev pub member_of : List ℕ → Ref → List TraitSaid → MemberSaid
member_of name target ts = record { name = name; target = target; traits = ts }

-- a member with a target
module _ (home : Home) (form : MemberForm) (before : List MemberSaid) (docs : List TraitSaid) where
  abbrev behind_name : List TraitSaid → List ℕ → Production MemberSaid
  behind_name ts name = mark (codes ":") >> (id >>= (λ target. gives (member_of name (written home target false) (docs ++ ts))))

  abbrev behind_traits : List TraitSaid → Production MemberSaid
  behind_traits ts = member_name form before >>= behind_name ts

  rest_firm : (ts : List TraitSaid) → IsFirm ⊥ AnyWord NoToken (behind_traits ts)
  rest_firm ts =
      then_firm (member_name form before) _ (name_firm form before) (λ name.
      then_firm (mark (codes ":")) _ (mark_firm (codes ":")) (λ _. given_firm id (λ target. _) (word_firm IsWordId)))

  pub member_traits_stop : (s r : Tokens) (stop : ReadStop) → StopsIn TraitGoesOn (traits home) s r stop
      → StopsIn NoToken (member_with home form before docs) s r stop
  member_traits_stop s r stop k = stops_in_row (traits home) behind_traits rest_firm traits_no_word s r stop k

  past_traits : (ts : List TraitSaid) (s a r : Tokens) (stop : ReadStop) → IsRead TraitGoesOn (traits home) ts s a
      → StopsIn NoToken (behind_traits ts) a r stop → StopsIn NoToken (member_with home form before docs) s r stop
  past_traits ts s a r stop m k = stops_past_row (traits home) behind_traits rest_firm traits_no_word ts s a r stop m k

  pub member_name_stop : (ts : List TraitSaid) (s a r : Tokens) (stop : ReadStop) → IsRead TraitGoesOn (traits home) ts s a
      → StopsIn NoToken (member_name form before) a r stop → StopsIn NoToken (member_with home form before docs) s r stop
  member_name_stop ts s a r stop m k =
      past_traits ts s a r stop m (stops_first NoToken (member_name form before) (behind_name ts) a r stop k)

  past_name : (ts : List TraitSaid) (name : List ℕ) (s a b r : Tokens) (stop : ReadStop) → IsRead TraitGoesOn (traits home) ts s a
      → (member_name form before).whole name a b → StopsIn NoToken (behind_name ts name) b r stop
      → StopsIn NoToken (member_with home form before docs) s r stop
  past_name ts name s a b r stop m h k =
      past_traits ts s a r stop m
      (stops_behind NoToken (member_name form before) (behind_name ts) (name_firm form before) name a b r stop h k)

  pub member_colon_stop : (ts : List TraitSaid) (name : List ℕ) (s a b r : Tokens) (stop : ReadStop)
      → IsRead TraitGoesOn (traits home) ts s a
      → (member_name form before).whole name a b → StopsIn NoToken (mark (codes ":")) b r stop
      → StopsIn NoToken (member_with home form before docs) s r stop
  member_colon_stop ts name s a b r stop m h k =
      past_name ts name s a b r stop m h (stops_first NoToken (mark (codes ":")) _ b r stop k)

  pub member_target_stop : (ts : List TraitSaid) (name : List ℕ) (s a b c r : Tokens) (stop : ReadStop)
      → IsRead TraitGoesOn (traits home) ts s a → (member_name form before).whole name a b → (mark (codes ":")).whole tt b c
      → StopsIn NoToken id c r stop → StopsIn NoToken (member_with home form before docs) s r stop
  member_target_stop ts name s a b c r stop m h colon k =
      past_name ts name s a b r stop m h
      (stops_behind NoToken (mark (codes ":")) _ (mark_firm (codes ":")) tt b c r stop colon (stops_first NoToken id _ c r stop k))

  pub member_made : (ts all_of : List TraitSaid) (name word : List ℕ) (target : Ref) (s a b c r : Tokens)
      → target ≡ written home word false → all_of ≡ docs ++ ts → IsRead TraitGoesOn (traits home) ts s a
      → (member_name form before).whole name a b → (mark (codes ":")).whole tt b c → id.whole word c r
      → (member_with home form before docs).whole (member_of name target all_of) s r
  member_made ts all_of name word target s a b c r e f m h colon k = (
    ts,
    a,
    read_whole (traits home) ts s a m,
    (
      name,
      b,
      h,
      (
        tt,
        c,
        colon,
        (
          word,
          r,
          k,
          (ap (λ t. member_of name t all_of) e ∙ ap (λ l. member_of name (written home word false) l) f, refl),
        ),
      ),
    ),
  )

-- a member of an enum
module _ (home : Home) (before : List MemberSaid) (docs : List TraitSaid) where
  abbrev value_made : List TraitSaid → List ℕ → Option Raw → MemberSaid
  value_made ts name value = member_of name (absolute unit_id false) (docs ++ ts ++ value_trait (codes "enumValue") value)

  abbrev value_behind : List TraitSaid → List ℕ → Production MemberSaid
  value_behind ts name = given_value home >>= (λ value. gives (value_made ts name value))

  abbrev name_behind : List TraitSaid → Production MemberSaid
  name_behind ts = member_name any before >>= value_behind ts

  enum_firm : (ts : List TraitSaid) → IsFirm ⊥ AnyWord Equals (name_behind ts)
  enum_firm ts = then_firm (member_name any before) _ (name_firm any before)
      (λ name. given_firm (given_value home) (λ value. _) (value_firm home))

  pub enum_traits_stop : (s r : Tokens) (stop : ReadStop) → StopsIn TraitGoesOn (traits home) s r stop
      → StopsIn Equals (enum_member_with home before docs) s r stop
  enum_traits_stop s r stop k = stops_in_row (traits home) name_behind enum_firm traits_no_word s r stop k

  pub enum_name_stop : (ts : List TraitSaid) (s a r : Tokens) (stop : ReadStop) → IsRead TraitGoesOn (traits home) ts s a
      → StopsIn NoToken (member_name any before) a r stop → StopsIn Equals (enum_member_with home before docs) s r stop
  enum_name_stop ts s a r stop m k =
      stops_past_row (traits home) name_behind enum_firm traits_no_word ts s a r stop m
      (stops_first Equals (member_name any before) (value_behind ts) a r stop k)

  pub enum_value_stop : (ts : List TraitSaid) (name : List ℕ) (s a b r : Tokens) (stop : ReadStop) → IsRead TraitGoesOn (traits home) ts s a
      → (member_name any before).whole name a b → StopsIn Equals (given_value home) b r stop
      → StopsIn Equals (enum_member_with home before docs) s r stop
  enum_value_stop ts name s a b r stop m h k =
      stops_past_row (traits home) name_behind enum_firm traits_no_word ts s a r stop m
      (stops_behind Equals (member_name any before) (value_behind ts) (name_firm any before) name a b r stop h
      (value_stop Equals (given_value home) (value_made ts name) b r stop k))

  pub enum_made : (ts all_of : List TraitSaid) (name : List ℕ) (value : Option Raw) (x : MemberSaid) (s a b r : Tokens)
      → x ≡ enum_member_said name all_of value → all_of ≡ docs ++ ts → IsRead TraitGoesOn (traits home) ts s a
      → (member_name any before).whole name a b → IsRead Equals (given_value home) value b r
      → IsRead Equals (enum_member_with home before docs) x s r
  enum_made ts all_of name value x s a b r e f m h k =
      subst (λ z. IsRead Equals (enum_member_with home before docs) z s r)
      (sym (e ∙ ap (λ l. enum_member_said name l value) f))
      (past_read (traits home) name_behind enum_firm traits_no_word ts (value_made ts name value) s a r m
      (behind_read (member_name any before) (value_behind ts) (name_firm any before) name (value_made ts name value) a b r h
      (value_read (given_value home) (value_made ts name) value b r k)))

-- a member of a structure
module _ (home : Home) (before : List MemberSaid) where
  abbrev behind_member : MemberSaid → Production MemberSaid
  behind_member m = given_value home >>= (λ value. gives (field_said m value))

  pub field_member_stop : (s r : Tokens) (stop : ReadStop) → StopsIn NoToken (member home any before) s r stop
      → StopsIn Equals (field home before) s r stop
  field_member_stop s r stop k = stops_first Equals (member home any before) behind_member s r stop k

  pub field_value_stop : (m : MemberSaid) (s a r : Tokens) (stop : ReadStop) → (member home any before).whole m s a
      → StopsIn Equals (given_value home) a r stop → StopsIn Equals (field home before) s r stop
  field_value_stop m s a r stop h k =
      stops_behind Equals (member home any before) behind_member (member_firm home any before) m s a r stop h
      (value_stop Equals (given_value home) (field_said m) a r stop k)

  pub field_made : (m : MemberSaid) (value : Option Raw) (x : MemberSaid) (s a r : Tokens) → x ≡ field_said m value
      → (member home any before).whole m s a → IsRead Equals (given_value home) value a r → IsRead Equals (field home before) x s r
  field_made m value x s a r e h k =
      subst (λ z. IsRead Equals (field home before) z s r) (sym e)
      (behind_read (member home any before) behind_member (member_firm home any before) m (field_said m value) s a r h
      (value_read (given_value home) (field_said m) value a r k))
