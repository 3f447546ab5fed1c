-- A part of a tree says one thing: what is read of it. References, traits, members and properties.
use Rattle.std.proofs.Common.{◌≡◌, ℕ, inl, inr, false, List, [], ◌∷◌, Option, Some, None, refl, sym, ap, subst, ◌∙◌}
use Rattle.sm_tree.specs.Node.{Node, Nodes, Members, text, no_nodes, node, no_members, member}
use Rattle.sm_tree.specs.Same.{HasName, HasDistinctNames, AreDistinct}
use Rattle.sm_model.specs.Kinds.{MemberForm, none, exactly, any}
use Rattle.sm_model.specs.Properties.{TypeFields}
use Rattle.sm_model.specs.References.{absolute}
use Rattle.sm_model.specs.Raw.{Raw, Raws, RawMembers, raw_leaf, raw_id, raw_list, raw_object, raw, raw_member, raws_of, raw_members_of}
use Rattle.sm_model.specs.Said.{TraitSaid, MemberSaid}
use Rattle.sm_model.specs.declared.reference.Ref.{Ref}
use Rattle.sm_model.specs.declared.property.PropertyForm.{PropertyForm}
use Rattle.sm_model.specs.declared.property.PropertyForm.TheVariants.{Reference, References, NamedReferences, Text, Rename}
use Rattle.sm_ast.specs.Layout.{target_name, traits_name, members_name}
use Rattle.sm_ast.specs.Ast.{OrNothing, ReferenceSays, EntriesSay, ReferencesSay, TraitPairsSay, TraitsSay, MemberParts, AstMember}
use Rattle.sm_ast.specs.Ast.{MemberPairsSay, MembersObjectSays, NamedMembersSay, AstMembers, RawReferenceSays, RawReferencesSay}
use Rattle.sm_ast.specs.Ast.{NamedReferencesSay, NewNamesSay, PropertySays, PropertyPairsSay}
use Rattle.sm_tree.specs.Parts.{tree_named}
use Rattle.sm_ast.specs.PartsSaid.{text_said, entries_said, pairs_said}
use Rattle.sm_ast.specs.steps.Saying.{text_there, target_said, reference_said, references_said}
use Rattle.sm_ast.specs.steps.Saying.{trait_said, traits_said, traits_there, member_by_pairs, member_said, members_said, members_there}
use Rattle.sm_ast.specs.steps.Saying.{member_there, named_members_said, members_by_form, reference_entries, reference_pairs, text_pairs}
use Rattle.sm_ast.specs.steps.Saying.{property_said, with_property, property_pairs}
use Rattle.sm_ast.proofs.Judged.{named_pair, pair_name}
use Rattle.sm_ast.proofs.FaultlessParts.{pair_named, distinct_under}

-- what may be missing
nothing_named : (name : List ℕ) (ms : Members) → (HasName name ms → ⊥) → tree_named name ms ≡ None
nothing_named name ms missing = by_found (tree_named name ms) refl
  where
    by_found : (o : Option Node) → tree_named name ms ≡ o → o ≡ None
    by_found None e = refl
    by_found (Some n) e = absurd (missing (pair_name name n ms (named_pair name ms n e)))

pub one_or_nothing : {X : Type 0} (name : List ℕ) (ms : Members) (Says : Node → List X → Type 0) (there : Option Node → List X)
    (xs : List X)
    → AreDistinct ms → there None ≡ [] → ((n : Node) → HasDistinctNames n → Says n xs → xs ≡ there (Some n)) → OrNothing name ms Says xs
    → xs ≡ there (tree_named name ms)
one_or_nothing name ms Says there xs d empty one (inl said) =
    one said.0 (distinct_under name said.0 ms d said.1) said.2 ∙ ap there (sym (pair_named name said.0 ms d said.1))
one_or_nothing name ms Says there xs d empty one (inr missing) = missing.1 ∙ sym empty ∙ ap there (sym (nothing_named name ms missing.0))

-- references
pub one_reference : (n : Node) (r : Ref) → ReferenceSays n r → r ≡ reference_said n
one_reference n r (id, is, spelled, said) = said ∙ ap reference_said (sym is)

one_entries : (ns : Nodes) (rs : List Ref) → EntriesSay ns rs → rs ≡ references_said ns
one_entries no_nodes rs says = says
one_entries (node n ns) rs (r, more, is, says, rest) =
    is ∙ ap (λ x. x ∷ more) (one_reference n r says) ∙ ap (λ xs. reference_said n ∷ xs) (one_entries ns more rest)

pub one_references : (n : Node) (rs : List Ref) → ReferencesSay n rs → rs ≡ references_said (entries_said n)
one_references n rs (ns, is, says) = one_entries ns rs says ∙ ap (λ m. references_said (entries_said m)) (sym is)

-- traits
one_trait_pairs : (ms : Members) (ts : List TraitSaid) → TraitPairsSay ms ts → ts ≡ traits_said ms
one_trait_pairs no_members ts says = says
one_trait_pairs (member k n ms) ts (more, id, is, rest) = is ∙ ap (λ xs. trait_said k n ∷ xs) (one_trait_pairs ms more rest)

pub one_traits : (n : Node) (ts : List TraitSaid) → TraitsSay n ts → ts ≡ traits_said (pairs_said n)
one_traits n ts (ms, is, says) = one_trait_pairs ms ts says ∙ ap (λ m. traits_said (pairs_said m)) (sym is)

pub one_traits_there : (ms : Members) (ts : List TraitSaid) → AreDistinct ms → OrNothing traits_name ms TraitsSay ts
    → ts ≡ traits_there (tree_named traits_name ms)
one_traits_there ms ts d says = one_or_nothing traits_name ms TraitsSay traits_there ts d refl (λ n e f. one_traits n ts f) says

-- members
abbrev member_made : List ℕ → Ref → List TraitSaid → MemberSaid
member_made name target traits = record { name = name; target = target; traits = traits }

same_member : (m : MemberSaid) (name : List ℕ) (target : Ref) (traits : List TraitSaid) → m.name ≡ name → m.target ≡ target
    → m.traits ≡ traits
    → m ≡ member_made name target traits
same_member m name target traits e f g =
    ap (λ x. member_made x m.target m.traits) e ∙ ap (λ x. member_made name x m.traits) f ∙ ap (λ x. member_made name target x) g

member_by : (name : List ℕ) (ms : Members) (said : MemberSaid) → AreDistinct ms → MemberParts ms name said → said ≡ member_by_pairs name ms
member_by name ms said d parts =
    same_member said name (target_said ms) (traits_there (tree_named traits_name ms)) parts.name_is
    (parts.target_is ∙ ap (λ o. absolute (text_there o) false) (sym (pair_named target_name (text parts.id) ms d parts.target)))
    (one_traits_there ms said.traits d parts.traits)

pub one_member : (name : List ℕ) (n : Node) (said : MemberSaid) → HasDistinctNames n → AstMember name n said → said ≡ member_said name n
one_member name n said d (ms, is, parts) =
    member_by name ms said (subst HasDistinctNames is d) parts ∙ ap (member_said name) (sym is)

one_member_pairs : (ms : Members) (said : List MemberSaid) → AreDistinct ms → MemberPairsSay ms said → said ≡ members_said ms
one_member_pairs no_members said d says = says
one_member_pairs (member k n ms) said d (m, more, is, name, says, rest) =
    is ∙ ap (λ x. x ∷ more) (one_member k n m d.1 says) ∙ ap (λ xs. member_said k n ∷ xs) (one_member_pairs ms more d.2 rest)

one_members_object : (n : Node) (said : List MemberSaid) → HasDistinctNames n → MembersObjectSays n said
    → said ≡ members_said (pairs_said n)
one_members_object n said d (ms, is, says) =
    one_member_pairs ms said (subst HasDistinctNames is d) says ∙ ap (λ m. members_said (pairs_said m)) (sym is)

one_named_members : (ks : List (List ℕ)) (ms : Members) (said : List MemberSaid) → AreDistinct ms → NamedMembersSay ks ms said
    → said ≡ named_members_said ks ms
one_named_members [] ms said d says = says
one_named_members (k ∷ ks) ms said d (n, m, more, is, has, says, rest) =
    is ∙ ap (λ x. x ∷ more) (one_member k n m (distinct_under k n ms d has) says ∙ ap (member_there k) (sym (pair_named k n ms d has)))
    ∙ ap (λ xs. member_there k (tree_named k ms) ∷ xs) (one_named_members ks ms more d rest)

pub one_members : (form : MemberForm) (ms : Members) (said : List MemberSaid) → AreDistinct ms → AstMembers form ms said
    → said ≡ members_by_form form ms
one_members none ms said d says = says
one_members (exactly names) ms said d says = one_named_members names ms said d says
one_members any ms said d says =
    one_or_nothing members_name ms MembersObjectSays members_there said d refl (λ n e f. one_members_object n said e f) says

-- fields of operations, services and resources
one_raw_reference : (n : Node) (said : Raw) → RawReferenceSays n said → said ≡ raw_id (reference_said n)
one_raw_reference n said (r, says, is) = is ∙ ap raw_id (one_reference n r says)

one_raw_references : (ns : Nodes) (said : Raws) → RawReferencesSay ns said → said ≡ raws_of (reference_entries ns)
one_raw_references no_nodes said says = says
one_raw_references (node n ns) said (r, more, is, says, rest) =
    is ∙ ap (λ x. raw x more) (one_raw_reference n r says) ∙ ap (λ xs. raw (raw_id (reference_said n)) xs) (one_raw_references ns more rest)

one_named_references : (ms : Members) (said : RawMembers) → NamedReferencesSay ms said → said ≡ raw_members_of (reference_pairs ms)
one_named_references no_members said says = says
one_named_references (member k n ms) said (r, more, is, says, rest) =
    is ∙ ap (λ x. raw_member k x more) (one_raw_reference n r says)
    ∙ ap (λ xs. raw_member k (raw_id (reference_said n)) xs) (one_named_references ms more rest)

one_new_names : (ms : Members) (said : RawMembers) → NewNamesSay ms said → said ≡ raw_members_of (text_pairs ms)
one_new_names no_members said says = says
one_new_names (member k n ms) said (name, more, id, is_text, identifier, is, rest) =
    is ∙ ap (λ m. raw_member k (raw_leaf (text (text_said m))) more) (sym is_text)
    ∙ ap (λ xs. raw_member k (raw_leaf (text (text_said n))) xs) (one_new_names ms more rest)

one_property : (form : PropertyForm) (n : Node) (r : Raw) → PropertySays form n r → r ≡ property_said form n
one_property Reference n r (id, says, is) = is ∙ ap raw_id (one_reference n id says)
one_property References n r (ns, entries, is, said, says) =
    said ∙ ap raw_list (one_raw_references ns entries says) ∙ ap (property_said References) (sym is)
one_property NamedReferences n r (ms, pairs, is, said, says) =
    said ∙ ap raw_object (one_named_references ms pairs says) ∙ ap (property_said NamedReferences) (sym is)
one_property Text n r (t, is, said) = said ∙ ap (property_said Text) (sym is)
one_property Rename n r (ms, pairs, is, said, says) =
    said ∙ ap raw_object (one_new_names ms pairs says) ∙ ap (property_said Rename) (sym is)

pub one_properties : (fs : TypeFields) (ms : Members) (said : RawMembers) → PropertyPairsSay fs ms said
    → said ≡ raw_members_of (property_pairs fs ms)
one_properties fs no_members said says = says
one_properties fs (member k n ms) said (inl (skipped, rest)) =
    one_properties fs ms said rest ∙ ap (λ o. raw_members_of (with_property o k n (property_pairs fs ms))) (sym skipped)
one_properties fs (member k n ms) said (inr (form, r, more, is, says, same, rest)) =
    same ∙ ap (λ x. raw_member k x more) (one_property form n r says)
    ∙ ap (λ xs. raw_member k (property_said form n) xs) (one_properties fs ms more rest)
    ∙ ap (λ o. raw_members_of (with_property o k n (property_pairs fs ms))) (sym is)
