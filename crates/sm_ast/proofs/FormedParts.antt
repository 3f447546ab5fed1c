-- What the relation says of a tree is formed as merging asks: nodes, references, traits, members and properties.
use Rattle.std.proofs.Common.{ℕ, inl, inr, Bool, true, false, IsUtf8, List, ◌∷◌, refl, sym, subst}
use Rattle.sm_ids.specs.IdText.{IsIdText}
use Rattle.sm_tree.specs.Node.{Node, Nodes, Members, null, bool, int, number, text, bytes, tag, opaque, list, object, no_nodes, node}
use Rattle.sm_tree.specs.Node.{no_members, member}
use Rattle.sm_tree.specs.Same.{HasPair, HasName, HasDistinctNames, HaveDistinctNames, AreDistinct}
use Rattle.sm_tree.specs.Json.{IsJson, AreJson, AreJsonMembers}
use Rattle.sm_model.specs.References.{absolute, IsReference, AreReferences}
use Rattle.sm_model.specs.Raw.{Raw, Raws, RawMembers, raw_leaf, no_raw_members, raw_member, raws_of, raw_members_of, raw_of, node_raws}
use Rattle.sm_model.specs.Raw.{member_raws}
use Rattle.sm_model.specs.Said.{TraitSaid, MemberSaid}
use Rattle.sm_model.specs.Formed.{StandsAmong, DifferInNames, raw_names, IsRaw, AreRaw, AreRawMembers, IsRawReference, AreRawReferences}
use Rattle.sm_model.specs.Formed.{AreNamedReferences, AreNewNames, HasPropertyForm, AreTraits}
use Rattle.sm_model.specs.declared.reference.Ref.{Ref}
use Rattle.sm_model.specs.declared.property.PropertyForm.{PropertyForm}
use Rattle.sm_model.specs.declared.property.PropertyForm.TheVariants.{Reference, References, NamedReferences, Text, Rename}
use Rattle.sm_ast.specs.Layout.{traits_name}
use Rattle.sm_ast.specs.Ast.{OrNothing, ReferenceSays, EntriesSay, ReferencesSay, TraitPairsSay, TraitsSay, AstMember, RawReferenceSays}
use Rattle.sm_ast.specs.Ast.{RawReferencesSay, NamedReferencesSay, NewNamesSay, PropertySays}
use Rattle.sm_ast.proofs.FaultlessParts.{distinct_under}

-- nodes: names of the pairs are those of the tree
names_stand : (k : List ℕ) (ms : Members) → StandsAmong k (raw_names (raw_members_of (member_raws ms))) → HasName k ms
names_stand k no_members among = among
names_stand k (member l n ms) (inl same) = inl same
names_stand k (member l n ms) (inr among) = inr (names_stand k ms among)

names_differ : (ms : Members) → AreDistinct ms → DifferInNames (raw_names (raw_members_of (member_raws ms)))
names_differ no_members d = tt
names_differ (member k n ms) d = ((λ among. d.0 (names_stand k ms among)), names_differ ms d.2)

mutual
  pub node_formed : (n : Node) → IsJson n → HasDistinctNames n → IsRaw (raw_of n)
  node_formed null json d = tt
  node_formed (bool b) json d = tt
  node_formed (int z) json d = json
  node_formed (number t) json d = json
  node_formed (text t) json d = json
  node_formed (bytes t) json d = absurd json
  node_formed (tag k n) json d = absurd json
  node_formed (opaque b) json d = absurd json
  node_formed (list ns) json d = nodes_formed ns json d
  node_formed (object ms) json d = (names_differ ms d, members_formed ms json d)

  nodes_formed : (ns : Nodes) → AreJson ns → HaveDistinctNames ns → AreRaw (raws_of (node_raws ns))
  nodes_formed no_nodes json d = tt
  nodes_formed (node n ns) json d = (node_formed n json.0 d.0, nodes_formed ns json.1 d.1)

  members_formed : (ms : Members) → AreJsonMembers ms → AreDistinct ms → AreRawMembers (raw_members_of (member_raws ms))
  members_formed no_members json d = tt
  members_formed (member k n ms) json d = (json.0, node_formed n json.1 d.1, members_formed ms json.2 d.2)

pub json_at : (k : List ℕ) (n : Node) (ms : Members) → AreJsonMembers ms → HasPair k n ms → IsJson n
json_at k n no_members json has = absurd has
json_at k n (member l m ms) json (inl same) = subst IsJson (sym same.1) json.1
json_at k n (member l m ms) json (inr has) = json_at k n ms json.2 has

-- references
pub absolute_formed : (t : List ℕ) (in_trait : Bool) → IsIdText t → IsReference (absolute t in_trait)
absolute_formed t in_trait id = record { text = id; uses = tt }

pub reference_formed : (n : Node) (r : Ref) → ReferenceSays n r → IsReference r
reference_formed n r (id, is, spelled, said) = subst IsReference (sym said) (absolute_formed id false spelled)

entries_formed : (ns : Nodes) (rs : List Ref) → EntriesSay ns rs → AreReferences rs
entries_formed no_nodes rs says = subst AreReferences (sym says) tt
entries_formed (node n ns) rs (r, more, is, says, rest) =
    subst AreReferences (sym is) (reference_formed n r says, entries_formed ns more rest)

pub references_formed : (n : Node) (rs : List Ref) → ReferencesSay n rs → AreReferences rs
references_formed n rs (ns, is, says) = entries_formed ns rs says

-- traits
trait_pairs_formed : (ms : Members) (ts : List TraitSaid) → AreJsonMembers ms → AreDistinct ms → TraitPairsSay ms ts → AreTraits ts
trait_pairs_formed no_members ts json d says = subst AreTraits (sym says) tt
trait_pairs_formed (member k n ms) ts json d (more, id, is, rest) =
    subst AreTraits (sym is) (absolute_formed k true id, node_formed n json.1 d.1, trait_pairs_formed ms more json.2 d.2 rest)

pub traits_formed : (n : Node) (ts : List TraitSaid) → IsJson n → HasDistinctNames n → TraitsSay n ts → AreTraits ts
traits_formed n ts json d (ms, is, says) = trait_pairs_formed ms ts (subst IsJson is json) (subst HasDistinctNames is d) says

pub traits_there_formed : (ms : Members) (ts : List TraitSaid) → AreJsonMembers ms → AreDistinct ms → OrNothing traits_name ms TraitsSay ts
    → AreTraits ts
traits_there_formed ms ts json d (inl said) =
    traits_formed said.0 ts (json_at traits_name said.0 ms json said.1) (distinct_under traits_name said.0 ms d said.1) said.2
traits_there_formed ms ts json d (inr missing) = subst AreTraits (sym missing.1) tt

-- members
pub member_formed : (name : List ℕ) (n : Node) (said : MemberSaid) → IsJson n → HasDistinctNames n → AstMember name n said
    → IsReference said.target × AreTraits said.traits
member_formed name n said json d (ms, is, parts) = (
  subst IsReference (sym parts.target_is) (absolute_formed parts.id false parts.is_id),
  traits_there_formed ms said.traits (subst IsJson is json) (subst HasDistinctNames is d) parts.traits,
)

-- fields of operations, services and resources: as nodes
raw_reference_formed : (n : Node) (said : Raw) → RawReferenceSays n said → IsRawReference said
raw_reference_formed n said (r, says, is) = subst IsRawReference (sym is) (reference_formed n r says)

raw_reference_raw : (n : Node) (said : Raw) → RawReferenceSays n said → IsRaw said
raw_reference_raw n said (r, says, is) = subst IsRaw (sym is) (reference_formed n r says)

raw_references_formed : (ns : Nodes) (said : Raws) → RawReferencesSay ns said → AreRawReferences said × AreRaw said
raw_references_formed no_nodes said says = (subst AreRawReferences (sym says) tt, subst AreRaw (sym says) tt)
raw_references_formed (node n ns) said (r, more, is, says, rest) =
    let later = raw_references_formed ns more rest in (
      subst AreRawReferences (sym is) (raw_reference_formed n r says, later.0),
      subst AreRaw (sym is) (raw_reference_raw n r says, later.1),
    )

-- pairs whose names are among those of the tree
abbrev pub NamesStand : Members → RawMembers → Type 0
NamesStand ms said = (k : List ℕ) → StandsAmong k (raw_names said) → HasName k ms

pub record AreFormedPairs (ms : Members) (AreSuch : RawMembers → Type 0) (said : RawMembers) : Type 0 where
  pub such : AreSuch said
  pub raws : AreRawMembers said
  pub differ : DifferInNames (raw_names said)
  pub stand : NamesStand ms said

-- no pairs, and one more
pub no_pairs_formed : (ms : Members) (AreSuch : RawMembers → Type 0) → AreSuch no_raw_members → AreFormedPairs ms AreSuch no_raw_members
no_pairs_formed ms AreSuch such = record { such = such; raws = tt; differ = tt; stand = λ k among. absurd among }

pub pair_formed : (k : List ℕ) (n : Node) (ms : Members) (AreSuch : RawMembers → Type 0) (r : Raw) (more : RawMembers) → IsUtf8 k
    → (HasName k ms → ⊥)
    → AreSuch (raw_member k r more) → IsRaw r → AreFormedPairs ms AreSuch more
    → AreFormedPairs (member k n ms) AreSuch (raw_member k r more)
pair_formed k n ms AreSuch r more utf8 once such is_raw rest = record {
  such = such;
  raws = (utf8, is_raw, rest.raws);
  differ = ((λ among. once (rest.stand k among)), rest.differ);
  stand = λ j among. by_place j among;
}
  where
    by_place : (j : List ℕ) → StandsAmong j (k ∷ raw_names more) → HasName j (member k n ms)
    by_place j (inl same) = inl same
    by_place j (inr among) = inr (rest.stand j among)

named_references_formed : (ms : Members) (said : RawMembers) → AreJsonMembers ms → AreDistinct ms → NamedReferencesSay ms said
    → AreFormedPairs ms AreNamedReferences said
named_references_formed no_members said json d says = subst (AreFormedPairs no_members AreNamedReferences) (sym says)
    (no_pairs_formed no_members AreNamedReferences tt)
named_references_formed (member k n ms) said json d (r, more, is, says, rest) =
    let later = named_references_formed ms more json.2 d.2 rest in
    subst (AreFormedPairs (member k n ms) AreNamedReferences) (sym is)
    (pair_formed k n ms AreNamedReferences r more json.0 d.0 (raw_reference_formed n r says, later.such) (raw_reference_raw n r says) later)

new_names_formed : (ms : Members) (said : RawMembers) → AreJsonMembers ms → AreDistinct ms → NewNamesSay ms said
    → AreFormedPairs ms AreNewNames said
new_names_formed no_members said json d says = subst (AreFormedPairs no_members AreNewNames) (sym says)
    (no_pairs_formed no_members AreNewNames tt)
new_names_formed (member k n ms) said json d (name, more, id, is_text, identifier, is, rest) =
    let later = new_names_formed ms more json.2 d.2 rest in
    subst (AreFormedPairs (member k n ms) AreNewNames) (sym is)
    (pair_formed k n ms AreNewNames (raw_leaf (text name)) more json.0 d.0 (id, (name, refl, identifier), later.such)
    (subst IsJson is_text json.1) later)

pub property_formed : (form : PropertyForm) (n : Node) (r : Raw) → IsJson n → HasDistinctNames n → PropertySays form n r
    → HasPropertyForm form r × IsRaw r
property_formed Reference n r json d (id, says, is) =
    (subst IsRawReference (sym is) (reference_formed n id says), subst IsRaw (sym is) (reference_formed n id says))
property_formed References n r json d (ns, entries, is, said, says) =
    let parts = raw_references_formed ns entries says in ((entries, said, parts.0), subst IsRaw (sym said) parts.1)
property_formed NamedReferences n r json d (ms, pairs, is, said, says) =
    let parts = named_references_formed ms pairs (subst IsJson is json) (subst HasDistinctNames is d) says in
    ((pairs, said, parts.such), subst IsRaw (sym said) (parts.differ, parts.raws))
property_formed Text n r json d (t, is, said) = (
  subst (HasPropertyForm Text) (sym said) (t, refl),
  subst IsRaw (sym said)
      (subst IsJson is json),
)
property_formed Rename n r json d (ms, pairs, is, said, says) =
    let parts = new_names_formed ms pairs (subst IsJson is json) (subst HasDistinctNames is d) says in
    ((pairs, said, parts.such), subst IsRaw (sym said) (parts.differ, parts.raws))
