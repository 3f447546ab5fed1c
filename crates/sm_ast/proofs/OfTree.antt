-- What the relation says of a tree is of a tree: references are absolute, and traits of one shape or member differ.
use Rattle.std.proofs.Common.{ℕ, inl, inr, List, [], ◌∷◌, refl, sym, subst}
use Rattle.sm_tree.specs.Node.{Node, Nodes, Members, null, bool, int, number, text, bytes, tag, opaque, list, object, no_nodes, node}
use Rattle.sm_tree.specs.Node.{no_members, member}
use Rattle.sm_tree.specs.Same.{HasName, HasDistinctNames, AreDistinct}
use Rattle.sm_model.specs.Formed.{StandsAmong, DifferInNames}
use Rattle.sm_model.specs.Kinds.{MemberForm, none, exactly, any, member_form}
use Rattle.sm_model.specs.Properties.{TypeFields, property_forms}
use Rattle.sm_model.specs.Raw.{Raw, Raws, RawMembers, raws_of, raw_members_of, raw_of, node_raws, member_raws}
use Rattle.sm_model.specs.Said.{TraitSaid, MemberSaid, ShapeSaid, Said, metadata_said, shape_said, apply_said}
use Rattle.sm_model.specs.declared.reference.Ref.{Ref}
use Rattle.sm_model.specs.declared.property.PropertyForm.{PropertyForm}
use Rattle.sm_model.specs.declared.property.PropertyForm.TheVariants.{Reference, References, NamedReferences, Text, Rename}
use Rattle.sm_ast.specs.Layout.{members_name, mixins_name, traits_name}
use Rattle.sm_ast.specs.Ast.{OrNothing, ReferenceSays, EntriesSay, ReferencesSay, TraitPairsSay, TraitsSay, AstMember, RawReferenceSays}
use Rattle.sm_ast.specs.Ast.{RawReferencesSay, NamedReferencesSay, NewNamesSay, PropertySays, MemberPairsSay}
use Rattle.sm_ast.specs.Ast.{NamedMembersSay, AstMembers, PropertyPairsSay, PropertiesSay, ShapeParts, AstShape}
use Rattle.sm_ast.specs.Distinct.{IsAbsolute, AreAbsolute, HasAbsolute, HaveAbsolute, MembersHaveAbsolute, trait_texts, TraitsHaveAbsolute}
use Rattle.sm_ast.specs.Distinct.{AreTraitsOfTree, AreMembersOfTree, IsShapeOfTree, IsOfTree}
use Rattle.sm_ast.proofs.FaultlessParts.{distinct_under}

-- nodes: no bare id stands in a tree
mutual
  pub node_absolute : (n : Node) → HasAbsolute (raw_of n)
  node_absolute null = tt
  node_absolute (bool b) = tt
  node_absolute (int z) = tt
  node_absolute (number t) = tt
  node_absolute (text t) = tt
  node_absolute (bytes t) = tt
  node_absolute (tag k n) = tt
  node_absolute (opaque b) = tt
  node_absolute (list ns) = nodes_absolute ns
  node_absolute (object ms) = members_absolute ms

  nodes_absolute : (ns : Nodes) → HaveAbsolute (raws_of (node_raws ns))
  nodes_absolute no_nodes = tt
  nodes_absolute (node n ns) = (node_absolute n, nodes_absolute ns)

  members_absolute : (ms : Members) → MembersHaveAbsolute (raw_members_of (member_raws ms))
  members_absolute no_members = tt
  members_absolute (member k n ms) = (node_absolute n, members_absolute ms)

-- references
reference_absolute : (n : Node) (r : Ref) → ReferenceSays n r → IsAbsolute r
reference_absolute n r (id, is, spelled, said) = subst IsAbsolute (sym said) refl

entries_absolute : (ns : Nodes) (rs : List Ref) → EntriesSay ns rs → AreAbsolute rs
entries_absolute no_nodes rs says = subst AreAbsolute (sym says) tt
entries_absolute (node n ns) rs (r, more, is, says, rest) =
    subst AreAbsolute (sym is) (reference_absolute n r says, entries_absolute ns more rest)

mixins_absolute : (ms : Members) (rs : List Ref) → OrNothing mixins_name ms ReferencesSay rs → AreAbsolute rs
mixins_absolute ms rs (inl (n, has, (ns, is, says))) = entries_absolute ns rs says
mixins_absolute ms rs (inr missing) = subst AreAbsolute (sym missing.1) tt

-- traits
record AreTraitPairs (ms : Members) (ts : List TraitSaid) : Type 0 where
  absolute : TraitsHaveAbsolute ts
  differ : DifferInNames (trait_texts ts)
  stand : (k : List ℕ) → StandsAmong k (trait_texts ts) → HasName k ms

one_more : (k : List ℕ) (n : Node) (ms : Members) (names : List (List ℕ)) → ((j : List ℕ) → StandsAmong j names → HasName j ms)
    → (j : List ℕ) → StandsAmong j (k ∷ names) → HasName j (member k n ms)
one_more k n ms names stand j (inl same) = inl same
one_more k n ms names stand j (inr among) = inr (stand j among)

trait_pairs : (ms : Members) (ts : List TraitSaid) → AreDistinct ms → TraitPairsSay ms ts → AreTraitPairs ms ts
trait_pairs no_members ts d says =
    subst (AreTraitPairs no_members) (sym says) (record { absolute = tt; differ = tt; stand = λ k among. absurd among })
trait_pairs (member k n ms) ts d (more, id, is, rest) =
    let later = trait_pairs ms more d.2 rest in
    subst (AreTraitPairs (member k n ms)) (sym is) (record {
      absolute = (refl, node_absolute n, later.absolute);
      differ = ((λ among. d.0 (later.stand k among)), later.differ);
      stand = one_more k n ms (trait_texts more) later.stand;
    })

traits_of_tree : (n : Node) (ts : List TraitSaid) → HasDistinctNames n → TraitsSay n ts → AreTraitsOfTree ts
traits_of_tree n ts d (ms, is, says) =
    let pairs = trait_pairs ms ts (subst HasDistinctNames is d) says in record { absolute = pairs.absolute; differ = pairs.differ }

traits_there : (ms : Members) (ts : List TraitSaid) → AreDistinct ms → OrNothing traits_name ms TraitsSay ts → AreTraitsOfTree ts
traits_there ms ts d (inl said) = traits_of_tree said.0 ts (distinct_under traits_name said.0 ms d said.1) said.2
traits_there ms ts d (inr missing) = subst AreTraitsOfTree (sym missing.1) (record { absolute = tt; differ = tt })

-- members
member_of_tree : (name : List ℕ) (n : Node) (said : MemberSaid) → HasDistinctNames n → AstMember name n said
    → IsAbsolute said.target × AreTraitsOfTree said.traits
member_of_tree name n said d (ms, is, parts) =
    (subst IsAbsolute (sym parts.target_is) refl, traits_there ms said.traits (subst HasDistinctNames is d) parts.traits)

member_pairs : (ms : Members) (said : List MemberSaid) → AreDistinct ms → MemberPairsSay ms said → AreMembersOfTree said
member_pairs no_members said d says = subst AreMembersOfTree (sym says) tt
member_pairs (member k n ms) said d (m, more, is, name, says, rest) =
    let parts = member_of_tree k n m d.1 says in subst AreMembersOfTree (sym is) (parts.0, parts.1, member_pairs ms more d.2 rest)

named_members : (ks : List (List ℕ)) (ms : Members) (said : List MemberSaid) → AreDistinct ms → NamedMembersSay ks ms said
    → AreMembersOfTree said
named_members [] ms said d says = subst AreMembersOfTree (sym says) tt
named_members (k ∷ ks) ms said d (n, m, more, is, has, says, rest) =
    let parts = member_of_tree k n m (distinct_under k n ms d has) says in
    subst AreMembersOfTree (sym is) (parts.0, parts.1, named_members ks ms more d rest)

members_of_tree : (form : MemberForm) (ms : Members) (said : List MemberSaid) → AreDistinct ms → AstMembers form ms said
    → AreMembersOfTree said
members_of_tree none ms said d says = subst AreMembersOfTree (sym says) tt
members_of_tree (exactly names) ms said d says = named_members names ms said d says
members_of_tree any ms said d (inl (n, has, (pairs, is, says))) =
    member_pairs pairs said (subst HasDistinctNames is (distinct_under members_name n ms d has)) says
members_of_tree any ms said d (inr missing) = subst AreMembersOfTree (sym missing.1) tt

-- fields of operations, services and resources
raw_absolute : (n : Node) (said : Raw) → RawReferenceSays n said → HasAbsolute said
raw_absolute n said (r, says, is) = subst HasAbsolute (sym is) (reference_absolute n r says)

raws_absolute : (ns : Nodes) (said : Raws) → RawReferencesSay ns said → HaveAbsolute said
raws_absolute no_nodes said says = subst HaveAbsolute (sym says) tt
raws_absolute (node n ns) said (r, more, is, says, rest) =
    subst HaveAbsolute (sym is) (raw_absolute n r says, raws_absolute ns more rest)

named_absolute : (ms : Members) (said : RawMembers) → NamedReferencesSay ms said → MembersHaveAbsolute said
named_absolute no_members said says = subst MembersHaveAbsolute (sym says) tt
named_absolute (member k n ms) said (r, more, is, says, rest) =
    subst MembersHaveAbsolute (sym is) (raw_absolute n r says, named_absolute ms more rest)

names_absolute : (ms : Members) (said : RawMembers) → NewNamesSay ms said → MembersHaveAbsolute said
names_absolute no_members said says = subst MembersHaveAbsolute (sym says) tt
names_absolute (member k n ms) said (name, more, id, is_text, identifier, is, rest) =
    subst MembersHaveAbsolute (sym is) (tt, names_absolute ms more rest)

property_absolute : (form : PropertyForm) (n : Node) (r : Raw) → PropertySays form n r → HasAbsolute r
property_absolute Reference n r says = raw_absolute n r says
property_absolute References n r (ns, entries, is, said, says) = subst HasAbsolute (sym said) (raws_absolute ns entries says)
property_absolute NamedReferences n r (ms, pairs, is, said, says) = subst HasAbsolute (sym said) (named_absolute ms pairs says)
property_absolute Text n r (t, is, said) = subst HasAbsolute (sym said) tt
property_absolute Rename n r (ms, pairs, is, said, says) = subst HasAbsolute (sym said) (names_absolute ms pairs says)

property_pairs : (fs : TypeFields) (ms : Members) (said : RawMembers) → PropertyPairsSay fs ms said → MembersHaveAbsolute said
property_pairs fs no_members said says = subst MembersHaveAbsolute (sym says) tt
property_pairs fs (member k n ms) said (inl skipped) = property_pairs fs ms said skipped.1
property_pairs fs (member k n ms) said (inr (form, r, more, is, says, same, rest)) =
    subst MembersHaveAbsolute (sym same) (property_absolute form n r says, property_pairs fs ms more rest)

properties_absolute : (fs : TypeFields) (ms : Members) (said : Raw) → PropertiesSay fs ms said → HasAbsolute said
properties_absolute fs ms said (pairs, is, says) = subst HasAbsolute (sym is) (property_pairs fs ms pairs says)

-- shapes, and applied traits
shape_of_tree : (k : List ℕ) (ms : Members) (said : ShapeSaid) → AreDistinct ms → ShapeParts k ms said → IsShapeOfTree said
shape_of_tree k ms said d parts = record {
  members = members_of_tree (member_form said.kind) ms said.members d parts.members;
  mixins = mixins_absolute ms said.mixins parts.mixins;
  properties = properties_absolute (property_forms said.kind) ms said.properties parts.properties;
  traits = traits_there ms said.traits d parts.traits;
}

pub statement_of_tree : (k : List ℕ) (n : Node) (said : Said) → HasDistinctNames n → AstShape k n said → IsOfTree said
statement_of_tree k n (metadata_said key value) d says = absurd says
statement_of_tree k n (shape_said said) d (ms, is, parts) = shape_of_tree k ms said (subst HasDistinctNames is d) parts
statement_of_tree k n (apply_said r ts) d (ms, is, same, parts) = (
  subst IsAbsolute (sym same) refl,
  traits_of_tree parts.node ts (distinct_under traits_name parts.node ms (subst HasDistinctNames is d) parts.traits) parts.says,
)
