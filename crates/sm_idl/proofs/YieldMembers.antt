-- Members and mixins of a text that is UTF-8 are as merging asks for them.
use Rattle.std.proofs.Common.{◌≡◌, ℕ, inl, inr, Bool, true, false, if◌then◌else◌, bytes_eq, List, [], ◌∷◌, ◌++◌, map, Option, codes, refl}
use Rattle.std.proofs.Common.{sym, ap, subst}
use Rattle.std.proofs.Common.{◌∙◌, true≢false, Some, None}
use Rattle.std.proofs.lemmas.List.{map_push, map-append}
use Rattle.sm_ids.specs.Identifier.{IsIdentifier}
use Rattle.sm_model.specs.Formed.{StandsAmong, DifferInNames, IsRaw, AreTraits, AreStatedMembers, stated_names, HaveForm}
use Rattle.sm_model.specs.Kinds.{MemberForm, none, exactly, any}
use Rattle.sm_model.specs.References.{IsReference, AreReferences}
use Rattle.sm_model.specs.Said.{TraitSaid, MemberSaid}
use Rattle.sm_model.specs.declared.reference.Ref.{Ref}
use Rattle.sm_idl.specs.Productions.{Production, maybe, each, many}
use Rattle.sm_idl.specs.Words.{IsNew, IsWordId, mark_where, id}
use Rattle.sm_idl.specs.Nodes.{Home, written}
use Rattle.sm_idl.specs.Traits.{traits, value_trait}
use Rattle.sm_idl.specs.Members.{StandAmong, HasMembers, member_under, members_under, arranged, member_name, equals_node}
use Rattle.sm_idl.specs.Members.{given_value}
use Rattle.sm_idl.specs.Members.{enum_member_with, enum_member, member_with, member, field, members, with_mixins, or_none, mixins}
use Rattle.sm_idl.proofs.ArrangedMembers.{under_first, under_later}
use Rattle.sm_idl.proofs.Yields.{Yields, IfThere, Each, yields_one, yields_as, yields_gives, yields_both, yields_maybe, yields_each}
use Rattle.sm_idl.proofs.Yields.{yields_many, yields_word}
use Rattle.sm_idl.proofs.Yields.{yields_marked, yields_worded, yields_given}
use Rattle.sm_idl.proofs.YieldNodes.{IsHome, api_reference, written_reference, differ_more, node_in_yields, traits_yields, traits_joined}
use Rattle.sm_idl.proofs.YieldNodes.{value_traits, documented_yields}
use Rattle.sm_tree.proofs.Equal.{bytes_equal_is}

-- members that came
abbrev pub AreMembers : List MemberSaid → Type 0
AreMembers ms = AreStatedMembers ms × DifferInNames (stated_names ms)

stated_more : (ms : List MemberSaid) (m : MemberSaid) → AreStatedMembers ms → IsIdentifier m.name → IsReference m.target
    → AreTraits m.traits
    → AreStatedMembers (ms ++ m ∷ [])
stated_more [] m h name target traits = (name, target, traits, tt)
stated_more (o ∷ ms) m h name target traits = (h.0, h.1, h.2, stated_more ms m h.3 name target traits)

-- one more, and what is said of it
abbrev pub IsNext : List MemberSaid → MemberSaid → Type 0
IsNext before m = IsIdentifier m.name × IsNew m.name (stated_names before) × IsReference m.target × AreTraits m.traits

pub members_more : (before : List MemberSaid) (m : MemberSaid) → AreMembers before → IsNext before m → AreMembers (before ++ m ∷ [])
members_more before m h next = (
  stated_more before m h.0 next.0 next.2 next.3,
  subst DifferInNames (sym (map_push (λ x. x.name) before m)) (differ_more (stated_names before) m.name h.1 next.1),
)

name_yields : (form : MemberForm) (before : List MemberSaid) → Yields (member_name form before) (λ name. IsIdentifier name
    × IsNew name (stated_names before))
name_yields form before = yields_one _ _ (λ t name fine h. (h.1.0, h.1.2))

value_yields : (home : Home) → IsHome home → Yields (given_value home) (IfThere IsRaw)
value_yields home h =
    yields_maybe (equals_node home) IsRaw (yields_marked (codes "=") _ IsRaw (λ _. node_in_yields home h))

enum_with : (home : Home) (before : List MemberSaid) (docs : List TraitSaid) → IsHome home → AreTraits docs
    → Yields (enum_member_with home before docs) (IsNext before)
enum_with home before docs h d =
    yields_both (traits home) _ AreTraits (IsNext before) (traits_yields home h) (λ ts are.
    yields_both (member_name any before) _ _ (IsNext before) (name_yields any before) (λ name is.
    yields_given (given_value home) _ (IfThere IsRaw) (IsNext before) (value_yields home h) (λ value raw. (
      is.0,
      is.1,
      api_reference (codes "Unit") false refl,
      traits_joined (docs ++ ts) (value_trait (codes "enumValue") value) (traits_joined docs ts d are) (value_traits
          (codes "enumValue") value refl raw),
    ))))

pub enum_yields : (home : Home) → IsHome home → (before : List MemberSaid) → Yields (enum_member home before) (IsNext before)
enum_yields home h before = documented_yields (enum_member_with home before) (IsNext before) (λ docs d. enum_with home before docs h d)

plain_with : (home : Home) (form : MemberForm) (before : List MemberSaid) (docs : List TraitSaid) → IsHome home → AreTraits docs
    → Yields (member_with home form before docs) (IsNext before)
plain_with home form before docs h d =
    yields_both (traits home) _ AreTraits (IsNext before) (traits_yields home h) (λ ts are.
    yields_both (member_name form before) _ _ (IsNext before) (name_yields form before) (λ name is.
    yields_marked (codes ":") _ (IsNext before) (λ _.
    yields_given id _ IsWordId (IsNext before) (yields_word IsWordId) (λ target k.
    (is.0, is.1, written_reference home target false h k, traits_joined docs ts d are)))))

pub plain_yields : (home : Home) (form : MemberForm) → IsHome home → (before : List MemberSaid)
    → Yields (member home form before) (IsNext before)
plain_yields home form h before =
    documented_yields (member_with home form before) (IsNext before) (λ docs d. plain_with home form before docs h d)

pub field_yields : (home : Home) → IsHome home → (before : List MemberSaid) → Yields (field home before) (IsNext before)
field_yields home h before =
    yields_both (member home any before) _ (IsNext before) (IsNext before) (plain_yields home any h before) (λ m next.
    yields_given (given_value home) _ (IfThere IsRaw) (IsNext before) (value_yields home h) (λ value raw. (
      next.0,
      next.1,
      next.2,
      traits_joined m.traits (value_trait (codes "default") value) next.3 (value_traits
          (codes "default") value refl raw),
    )))

-- the members of a type, in its order
chosen_stated : (b : Bool) (m : MemberSaid) (ms : List MemberSaid) → AreStatedMembers (m ∷ []) → AreStatedMembers ms
    → AreStatedMembers (if b then m ∷ [] else ms)
chosen_stated true m ms h k = h
chosen_stated false m ms h k = k

under_stated : (k : List ℕ) (ms : List MemberSaid) → AreStatedMembers ms → AreStatedMembers (member_under k ms)
under_stated k [] h = tt
under_stated k (m ∷ ms) h = chosen_stated (bytes_eq m.name k) m (member_under k ms) (h.0, h.1, h.2, tt) (under_stated k ms h.3)

stated_joined : (ms os : List MemberSaid) → AreStatedMembers ms → AreStatedMembers os → AreStatedMembers (ms ++ os)
stated_joined [] os h k = k
stated_joined (m ∷ ms) os h k = (h.0, h.1, h.2, stated_joined ms os h.3 k)

all_stated : (ks : List (List ℕ)) (ms : List MemberSaid) → AreStatedMembers ms → AreStatedMembers (members_under ks ms)
all_stated [] ms h = tt
all_stated (k ∷ ks) ms h = stated_joined (member_under k ms) (members_under ks ms) (under_stated k ms h) (all_stated ks ms h)

under_name : (k : List ℕ) (ms : List MemberSaid) → StandsAmong k (stated_names ms) → stated_names (member_under k ms) ≡ k ∷ []
under_name k [] h = absurd h
under_name k (m ∷ ms) h = by_name (bytes_eq m.name k) refl (λ later. under_name k ms later)
  where
    later : (m.name ≡ k → ⊥) → StandsAmong k (stated_names (m ∷ ms)) → StandsAmong k (stated_names ms)
    later other (inl e) = absurd (other (sym e))
    later other (inr a) = a

    by_name : (b : Bool) → bytes_eq m.name k ≡ b → (StandsAmong k (stated_names ms) → stated_names (member_under k ms) ≡ k ∷ [])
        → stated_names (member_under k (m ∷ ms)) ≡ k ∷ []
    by_name true e rest =
        let same : m.name ≡ k = (bytes_equal_is m.name k).0 e in
        ap stated_names (under_first k m ms same) ∙ ap (λ n. n ∷ []) same
    by_name false e rest =
        let other : m.name ≡ k → ⊥ = λ same. true≢false (sym ((bytes_equal_is m.name k).1 same) ∙ e) in
        ap stated_names (under_later k m ms other) ∙ rest (later other h)

under_names : (ks : List (List ℕ)) (ms : List MemberSaid) → StandAmong ks (stated_names ms) → stated_names (members_under ks ms) ≡ ks
under_names [] ms h = refl
under_names (k ∷ ks) ms h =
    map-append (λ m. m.name) (member_under k ms) (members_under ks ms)
    ∙ ap (λ l. l ++ stated_names (members_under ks ms)) (under_name k ms h.0) ∙ ap (λ l. k ∷ l) (under_names ks ms h.1)

abbrev pub HasForm : MemberForm → List MemberSaid → Type 0
HasForm form ms = AreStatedMembers ms × HaveForm form (stated_names ms)

abbrev pub MayHave : MemberForm → Type 0
MayHave none = ⊥
MayHave (exactly names) = Unit {0}
MayHave any = Unit {0}

arranged_formed : (form : MemberForm) (ms : List MemberSaid) → MayHave form → AreMembers ms → HasMembers form ms
    → HasForm form (arranged form ms)
arranged_formed none ms may h has = absurd may
arranged_formed (exactly names) ms may h has = (all_stated names ms h.0, under_names names ms has)
arranged_formed any ms may h has = h

where_yields : (m : List ℕ) (Holds : Type 0) → Yields (mark_where m Holds) (λ _. Holds)
where_yields m Holds = yields_one _ _ (λ t x fine h. h.1)

pub members_yields : (form : MemberForm) (p : List MemberSaid → Production MemberSaid) → MayHave form
    → ((before : List MemberSaid) → Yields (p before) (IsNext before)) → Yields (members form p) (HasForm form)
members_yields form p may h =
    yields_marked (codes "{") _ (HasForm form) (λ _.
    yields_both (each p) _ AreMembers (HasForm form)
    (yields_each p AreMembers (λ before are.
    yields_as (p before) (IsNext before) (λ x. AreMembers (before ++ x ∷ [])) (h before) (λ x next. members_more before x are next)) []
    (tt, tt))
    (λ ms are.
    yields_both (mark_where (codes "}") (HasMembers form ms)) _ (λ _. HasMembers form ms) (HasForm form)
    (where_yields (codes "}") (HasMembers form ms)) (λ _ has.
    yields_gives (arranged form ms) (HasForm form) (arranged_formed form ms may are has))))

-- mixins
pub references_written : (home : Home) (ws : List (List ℕ)) → IsHome home → Each IsWordId ws
    → AreReferences (map (λ w. written home w false) ws)
references_written home [] h are = tt
references_written home (w ∷ ws) h are = (written_reference home w false h are.0, references_written home ws h are.1)

with_yields : (home : Home) → IsHome home → Yields (with_mixins home) AreReferences
with_yields home h =
    yields_worded (codes "with") _ AreReferences (λ _.
    yields_marked (codes "[") _ AreReferences (λ _.
    yields_both (many id) _ (Each IsWordId) AreReferences (yields_many id IsWordId (yields_word IsWordId)) (λ ws are.
    yields_marked (codes "]") _ AreReferences (λ _.
    yields_gives (map (λ w. written home w false) ws) AreReferences (references_written home ws h are)))))

or_none_references : (o : Option (List Ref)) → IfThere AreReferences o → AreReferences (or_none o)
or_none_references None h = tt
or_none_references (Some rs) h = h

pub mixins_yields : (home : Home) → IsHome home → Yields (mixins home) AreReferences
mixins_yields home h =
    yields_given (maybe (with_mixins home)) or_none (IfThere AreReferences) AreReferences
    (yields_maybe (with_mixins home) AreReferences (with_yields home h)) or_none_references
