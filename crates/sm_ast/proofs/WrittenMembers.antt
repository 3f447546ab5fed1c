-- What is written for traits and for members says them.
use Rattle.std.proofs.Common.{◌≡◌, inl, inr, ◌⊎◌, ℕ, false, List, [], ◌∷◌, ◌++◌, map, refl, sym, ap, subst, ◌∙◌}
use Rattle.sm_ids.specs.Identifier.{IsIdentifier}
use Rattle.sm_ids.specs.IdText.{IsIdText}
use Rattle.sm_tree.specs.Node.{Node, Members, text, no_members, member, members_of}
use Rattle.sm_tree.specs.Same.{HasPair, HasName, HasDistinctNames, AreDistinct}
use Rattle.sm_model.specs.Formed.{DifferInNames, HaveForm}
use Rattle.sm_model.specs.Given.{AreNodes, are_under}
use Rattle.sm_model.specs.Kinds.{MemberForm, none, exactly, any}
use Rattle.sm_model.specs.References.{absolute}
use Rattle.sm_model.specs.Said.{MemberSaid}
use Rattle.sm_ast.specs.Layout.{target_name, traits_name, members_name}
use Rattle.sm_ast.specs.Ast.{OrNothing, TraitPairsSay, TraitsSay, AstMember, MemberPairsSay, MembersObjectSays, NamedMembersSay}
use Rattle.sm_ast.specs.Ast.{AstMembers}
use Rattle.sm_ast.specs.GraphSaid.{traits_of_pairs}
use Rattle.sm_model.specs.Named.{AreUnderIds}
use Rattle.sm_ast.specs.Written.{WrittenPairs, member_object, object_of, written_in_form, written_traits}
use Rattle.sm_ast.proofs.Judged.{test_same, true_is_false}
use Rattle.sm_ast.proofs.WrittenNames.{EachDistinct, distinct_pairs, pair_behind}

-- the traits of a shape or member of a graph
pub record AreSoundTraits (ts : WrittenPairs) : Type 0 where
  pub ids : AreUnderIds ts
  pub differ : DifferInNames (are_under ts)
  pub nodes : AreNodes ts

trait_pairs_say : (ts : WrittenPairs) → AreUnderIds ts → TraitPairsSay (members_of ts) (traits_of_pairs ts)
trait_pairs_say [] h = refl
trait_pairs_say (t ∷ ts) h = (traits_of_pairs ts, h.0, refl, trait_pairs_say ts h.1)

traits_say : (ts : WrittenPairs) → AreUnderIds ts → TraitsSay (object_of ts) (traits_of_pairs ts)
traits_say ts h = (members_of ts, refl, trait_pairs_say ts h)

name_before : (k : List ℕ) (ps : WrittenPairs) → HasName k (members_of (ps ++ [])) → HasName k (members_of ps)
name_before k [] has = has
name_before k (p ∷ ps) (inl same) = inl same
name_before k (p ∷ ps) (inr has) = inr (name_before k ps has)

-- behind pairs of other names
pub traits_behind : (before ts : WrittenPairs) → (HasName traits_name (members_of before) → ⊥) → AreUnderIds ts
    → OrNothing traits_name (members_of (before ++ written_traits ts)) TraitsSay (traits_of_pairs ts)
traits_behind before [] gone h = inr ((λ has. gone (name_before traits_name before has)), refl)
traits_behind before (t ∷ ts) gone h =
    let found = pair_behind before (written_traits (t ∷ ts)) traits_name (object_of (t ∷ ts)) (inl (refl, refl)) in
    inl (object_of (t ∷ ts), found, traits_say (t ∷ ts) h)

pub nodes_distinct : (ts : WrittenPairs) → AreNodes ts → EachDistinct ts
nodes_distinct [] h = tt
nodes_distinct (t ∷ ts) h = (h.0.1, nodes_distinct ts h.1)

pub traits_distinct : (ts : WrittenPairs) → AreSoundTraits ts → AreDistinct (members_of ts)
traits_distinct ts h = distinct_pairs ts h.differ (nodes_distinct ts h.nodes)

pub written_traits_distinct : (ts : WrittenPairs) → AreSoundTraits ts → EachDistinct (written_traits ts)
written_traits_distinct [] h = tt
written_traits_distinct (t ∷ ts) h = (traits_distinct (t ∷ ts) h, tt)

-- a member of a graph
pub record FoundMember : Type 0 where
  pub name : List ℕ
  pub target : List ℕ
  pub traits : WrittenPairs

pub record IsFoundMember (m : FoundMember) : Type 0 where
  pub identifier : IsIdentifier m.name
  pub target : IsIdText m.target
  pub traits : AreSoundTraits m.traits

abbrev pub AreFoundMembers : List FoundMember → Type 0
AreFoundMembers [] = Unit {0}
AreFoundMembers (m ∷ ms) = IsFoundMember m × AreFoundMembers ms

abbrev pub found_names : List FoundMember → List (List ℕ)
found_names ms = map (λ m. m.name) ms

abbrev pub found_pairs : List FoundMember → WrittenPairs
found_pairs ms = map (λ m. (m.name, member_object m.target m.traits)) ms

abbrev pub member_said_of : FoundMember → MemberSaid
member_said_of m = record { name = m.name; target = absolute m.target false; traits = traits_of_pairs m.traits }

abbrev pub found_said : List FoundMember → List MemberSaid
found_said ms = map member_said_of ms

target_is_no_traits : (n : Node) → HasName traits_name (member target_name n no_members) → ⊥
target_is_no_traits n (inl same) = true_is_false (sym (test_same traits_name target_name same))
target_is_no_traits n (inr has) = has

member_fields : (n : Node) (ts : WrittenPairs) (k : List ℕ) → HasName k (members_of (((target_name, n) ∷ []) ++ written_traits ts))
    → (k ≡ target_name) ⊎ (k ≡ traits_name)
member_fields n ts k (inl same) = inl same
member_fields n [] k (inr has) = absurd has
member_fields n (t ∷ ts) k (inr (inl same)) = inr same
member_fields n (t ∷ ts) k (inr (inr has)) = absurd has

member_says : (m : FoundMember) → IsFoundMember m → AstMember m.name (member_object m.target m.traits) (member_said_of m)
member_says m h = (
  members_of (((target_name, text m.target) ∷ []) ++ written_traits m.traits),
  refl,
  record {
    id = m.target;
    target = inl (refl, refl);
    is_id = h.target;
    fields = member_fields (text m.target) m.traits;
    name_is = refl;
    target_is = refl;
    traits = traits_behind ((target_name, text m.target) ∷ []) m.traits (target_is_no_traits (text m.target)) h.traits.ids;
  },
)

target_before_traits : (n : Node) (ts : WrittenPairs) → HasName target_name (members_of (written_traits ts)) → ⊥
target_before_traits n [] has = has
target_before_traits n (t ∷ ts) (inl same) = true_is_false (sym (test_same target_name traits_name same))
target_before_traits n (t ∷ ts) (inr has) = has

member_distinct : (m : FoundMember) → IsFoundMember m → HasDistinctNames (member_object m.target m.traits)
member_distinct m h = (target_before_traits (text m.target) m.traits, tt, behind m.traits h.traits)
  where
    behind : (ts : WrittenPairs) → AreSoundTraits ts → AreDistinct (members_of (written_traits ts))
    behind [] h = tt
    behind (t ∷ ts) h = ((λ has. has), traits_distinct (t ∷ ts) h, tt)

-- members by their names
members_say : (ms : List FoundMember) → AreFoundMembers ms → MemberPairsSay (members_of (found_pairs ms)) (found_said ms)
members_say [] h = refl
members_say (m ∷ ms) h = (member_said_of m, found_said ms, refl, h.0.identifier, member_says m h.0, members_say ms h.1)

object_says : (ms : List FoundMember) → AreFoundMembers ms → MembersObjectSays (object_of (found_pairs ms)) (found_said ms)
object_says ms h = (members_of (found_pairs ms), refl, members_say ms h)

named_say : (ms : List FoundMember) (pairs : Members) → AreFoundMembers ms
    → ((k : List ℕ) (n : Node) → HasPair k n (members_of (found_pairs ms)) → HasPair k n pairs)
    → NamedMembersSay (found_names ms) pairs (found_said ms)
named_say [] pairs h has = refl
named_say (m ∷ ms) pairs h has = (
  member_object m.target m.traits,
  member_said_of m,
  found_said ms,
  refl,
  has m.name (member_object m.target m.traits) (inl (refl, refl)),
  member_says m h.0,
  named_say ms pairs h.1 (λ k n p. has k n (inr p)),
)

nothing_said : (ms : List FoundMember) → found_names ms ≡ [] → found_said ms ≡ []
nothing_said [] h = refl
nothing_said (m ∷ ms) h = absurd (subst IsSome h tt)
  where
    IsSome : List (List ℕ) → Type 0
    IsSome [] = ⊥
    IsSome (k ∷ ks) = Unit {0}

-- in the form of a type
pub form_says : (form : MemberForm) (ms : List FoundMember) (pairs : Members) → HaveForm form (found_names ms) → AreFoundMembers ms
    → ((k : List ℕ) (n : Node) → HasPair k n (members_of (written_in_form form (found_pairs ms))) → HasPair k n pairs)
    → AstMembers form pairs (found_said ms)
form_says none ms pairs form h has = nothing_said ms form
form_says (exactly names) ms pairs form h has = subst (λ ks. NamedMembersSay ks pairs (found_said ms)) form (named_say ms pairs h has)
form_says any ms pairs form h has =
    inl (object_of (found_pairs ms), has members_name (object_of (found_pairs ms)) (inl (refl, refl)), object_says ms h)

found_under : (ms : List FoundMember) → are_under (found_pairs ms) ≡ found_names ms
found_under [] = refl
found_under (m ∷ ms) = ap (λ ks. m.name ∷ ks) (found_under ms)

each_found_distinct : (ms : List FoundMember) → AreFoundMembers ms → EachDistinct (found_pairs ms)
each_found_distinct [] h = tt
each_found_distinct (m ∷ ms) h = (member_distinct m h.0, each_found_distinct ms h.1)

pub form_distinct : (form : MemberForm) (ms : List FoundMember) → HaveForm form (found_names ms) → AreFoundMembers ms
    → EachDistinct (written_in_form form (found_pairs ms))
form_distinct none ms form h = tt
form_distinct (exactly names) ms form h = each_found_distinct ms h
form_distinct any ms form h =
    (distinct_pairs (found_pairs ms) (subst DifferInNames (sym (found_under ms)) form) (each_found_distinct ms h), tt)

-- the names that stand there
abbrev pub form_names : MemberForm → List (List ℕ)
form_names none = []
form_names (exactly names) = names
form_names any = members_name ∷ []

pub form_under : (form : MemberForm) (ms : List FoundMember) → HaveForm form (found_names ms)
    → are_under (written_in_form form (found_pairs ms)) ≡ form_names form
form_under none ms form = refl
form_under (exactly names) ms form = found_under ms ∙ form
form_under any ms form = refl
