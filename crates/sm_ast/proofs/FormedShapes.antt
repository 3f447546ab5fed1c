-- What the relation says of a tree is formed as merging asks: shapes, and whole trees.
use Rattle.std.proofs.Common.{◌≡◌, ℕ, inl, inr, false, List, [], ◌∷◌, ◌++◌, refl, sym, ap, subst, ◌∙◌, codes}
use Rattle.sm_ids.specs.Identifier.{IsIdentifier}
use Rattle.sm_tree.specs.Node.{Node, Members, no_members, member}
use Rattle.sm_tree.specs.Same.{HasName, HasDistinctNames, AreDistinct}
use Rattle.sm_tree.specs.Json.{IsJson, AreJsonMembers}
use Rattle.sm_model.specs.Kinds.{member_form}
use Rattle.sm_model.specs.Properties.{TypeFields, property_forms}
use Rattle.sm_model.specs.References.{AreReferences, IsReference, IsShapeId}
use Rattle.sm_model.specs.declared.reference.Ref.{Ref}
use Rattle.sm_model.specs.Raw.{Raw, RawMembers}
use Rattle.sm_model.specs.Said.{MemberSaid, ShapeSaid, Said, metadata_said, shape_said, apply_said}
use Rattle.sm_model.specs.Formed.{StandsAmong, DifferInNames, IsRaw, AreFields, AreProperties, AreStatedMembers, stated_names, HaveForm}
use Rattle.sm_model.specs.Formed.{IsFormedShape, IsFormed, AreFormed}
use Rattle.sm_model.specs.declared.kind.Kind.{Kind}
use Rattle.sm_model.specs.declared.kind.Kind.TheVariants.{Blob, Boolean, Text as text_kind, Enum, Byte, Short, Integer, IntEnum, Long}
use Rattle.sm_model.specs.declared.kind.Kind.TheVariants.{Float, Double, BigInteger}
use Rattle.sm_model.specs.declared.kind.Kind.TheVariants.{BigDecimal, Timestamp, Document, List as list_kind, Map, Structure, Union}
use Rattle.sm_model.specs.declared.kind.Kind.TheVariants.{Service, Operation, Resource}
use Rattle.sm_ast.specs.Layout.{members_name, mixins_name, traits_name}
use Rattle.sm_ast.specs.Ast.{OrNothing, ReferencesSay, AstMember, MemberPairsSay, MembersObjectSays, NamedMembersSay, AstMembers}
use Rattle.sm_ast.specs.Ast.{PropertyPairsSay, PropertiesSay, ShapeParts, AstShape, ShapePairsSay, MetadataPairsSay, TopPairSays}
use Rattle.sm_ast.specs.Ast.{TopPairsSay, Ast}
use Rattle.sm_ast.proofs.FaultlessParts.{distinct_under}
use Rattle.sm_ast.proofs.FormedParts.{node_formed, json_at, absolute_formed, references_formed, traits_formed, traits_there_formed}
use Rattle.sm_ast.proofs.FormedParts.{member_formed, AreFormedPairs, no_pairs_formed, pair_formed, property_formed}

-- members, and their names
member_name : (name : List ℕ) (n : Node) (said : MemberSaid) → AstMember name n said → said.name ≡ name
member_name name n said (ms, is, parts) = parts.name_is

pub record AreFormedMembers (ms : Members) (said : List MemberSaid) : Type 0 where
  pub members : AreStatedMembers said
  pub differ : DifferInNames (stated_names said)
  pub stand : (k : List ℕ) → StandsAmong k (stated_names said) → HasName k ms

no_members_formed : (ms : Members) → AreFormedMembers ms []
no_members_formed ms = record { members = tt; differ = tt; stand = λ k among. absurd among }

by_place : (k : List ℕ) (n : Node) (ms : Members) (m : MemberSaid) (more : List MemberSaid) → m.name ≡ k
    → ((j : List ℕ) → StandsAmong j (stated_names more) → HasName j ms) → (j : List ℕ) → StandsAmong j (m.name ∷ stated_names more)
    → HasName j (member k n ms)
by_place k n ms m more named stand j (inl same) = inl (same ∙ named)
by_place k n ms m more named stand j (inr among) = inr (stand j among)

member_pairs_formed : (ms : Members) (said : List MemberSaid) → AreJsonMembers ms → AreDistinct ms → MemberPairsSay ms said
    → AreFormedMembers ms said
member_pairs_formed no_members said json d says = subst (AreFormedMembers no_members) (sym says) (no_members_formed no_members)
member_pairs_formed (member k n ms) said json d (m, more, is, name, says, rest) =
    let later = member_pairs_formed ms more json.2 d.2 rest in
    let parts = member_formed k n m json.1 d.1 says in
    let named = member_name k n m says in
    subst (AreFormedMembers (member k n ms)) (sym is) (record {
      members = (subst IsIdentifier (sym named) name, parts.0, parts.1, later.members);
      differ = ((λ among. d.0 (later.stand k (subst (λ j. StandsAmong j (stated_names more)) named among))), later.differ);
      stand = by_place k n ms m more named later.stand;
    })

abbrev AreIdentifiers : List (List ℕ) → Type 0
AreIdentifiers [] = Unit {0}
AreIdentifiers (k ∷ ks) = IsIdentifier k × AreIdentifiers ks

named_formed : (ks : List (List ℕ)) (ms : Members) (said : List MemberSaid) → AreIdentifiers ks → AreJsonMembers ms → AreDistinct ms
    → NamedMembersSay ks ms said → AreStatedMembers said × (stated_names said ≡ ks)
named_formed [] ms said ids json d says = (subst AreStatedMembers (sym says) tt, ap stated_names says)
named_formed (k ∷ ks) ms said ids json d (n, m, more, is, has, says, rest) =
    let later = named_formed ks ms more ids.1 json d rest in
    let parts = member_formed k n m (json_at k n ms json has) (distinct_under k n ms d has) says in
    let named = member_name k n m says in (
      subst AreStatedMembers (sym is) (subst IsIdentifier (sym named) ids.0, parts.0, parts.1, later.0),
      ap stated_names is ∙ ap (λ j. j ∷ stated_names more) named ∙ ap (λ js. k ∷ js) later.1,
    )

object_formed : (n : Node) (said : List MemberSaid) → IsJson n → HasDistinctNames n → MembersObjectSays n said
    → AreStatedMembers said × DifferInNames (stated_names said)
object_formed n said json d (ms, is, says) =
    let formed = member_pairs_formed ms said (subst IsJson is json) (subst HasDistinctNames is d) says in (formed.members, formed.differ)

any_formed : (ms : Members) (said : List MemberSaid) → AreJsonMembers ms → AreDistinct ms → OrNothing members_name ms MembersObjectSays said
    → AreStatedMembers said × DifferInNames (stated_names said)
any_formed ms said json d (inl (n, has, says)) =
    object_formed n said (json_at members_name n ms json has) (distinct_under members_name n ms d has) says
any_formed ms said json d (inr missing) =
    (subst AreStatedMembers (sym missing.1) tt, subst (λ xs. DifferInNames (stated_names xs)) (sym missing.1) tt)

none_formed : (said : List MemberSaid) → said ≡ [] → AreStatedMembers said × (stated_names said ≡ [])
none_formed said says = (subst AreStatedMembers (sym says) tt, ap stated_names says)

members_formed : (kind : Kind) (ms : Members) (said : List MemberSaid) → AreJsonMembers ms → AreDistinct ms
    → AstMembers (member_form kind) ms said
    → AreStatedMembers said × HaveForm (member_form kind) (stated_names said)
members_formed list_kind ms said json d says = named_formed (codes "member" ∷ []) ms said (refl, tt) json d says
members_formed Map ms said json d says = named_formed (codes "key" ∷ codes "value" ∷ []) ms said (refl, (refl, tt)) json d says
members_formed Structure ms said json d says = any_formed ms said json d says
members_formed Union ms said json d says = any_formed ms said json d says
members_formed Enum ms said json d says = any_formed ms said json d says
members_formed IntEnum ms said json d says = any_formed ms said json d says
members_formed Blob ms said json d says = none_formed said says
members_formed Boolean ms said json d says = none_formed said says
members_formed text_kind ms said json d says = none_formed said says
members_formed Byte ms said json d says = none_formed said says
members_formed Short ms said json d says = none_formed said says
members_formed Integer ms said json d says = none_formed said says
members_formed Long ms said json d says = none_formed said says
members_formed Float ms said json d says = none_formed said says
members_formed Double ms said json d says = none_formed said says
members_formed BigInteger ms said json d says = none_formed said says
members_formed BigDecimal ms said json d says = none_formed said says
members_formed Timestamp ms said json d says = none_formed said says
members_formed Document ms said json d says = none_formed said says
members_formed Service ms said json d says = none_formed said says
members_formed Operation ms said json d says = none_formed said says
members_formed Resource ms said json d says = none_formed said says

-- fields of operations, services and resources
fields_formed : (fs : TypeFields) (ms : Members) (said : RawMembers) → AreJsonMembers ms → AreDistinct ms → PropertyPairsSay fs ms said
    → AreFormedPairs ms (AreFields fs) said
fields_formed fs no_members said json d says = subst (AreFormedPairs no_members (AreFields fs)) (sym says)
    (no_pairs_formed no_members (AreFields fs) tt)
fields_formed fs (member k n ms) said json d (inl skipped) =
    let later = fields_formed fs ms said json.2 d.2 skipped.1 in record {
      such = later.such;
      raws = later.raws;
      differ = later.differ;
      stand = λ j among. inr (later.stand j among);
    }
fields_formed fs (member k n ms) said json d (inr (form, r, more, is, says, same, rest)) =
    let later = fields_formed fs ms more json.2 d.2 rest in
    let parts = property_formed form n r json.1 d.1 says in
    subst (AreFormedPairs (member k n ms) (AreFields fs)) (sym same)
    (pair_formed k n ms (AreFields fs) r more json.0 d.0 ((form, is, parts.0), later.such) parts.1 later)

properties_formed : (fs : TypeFields) (ms : Members) (said : Raw) → AreJsonMembers ms → AreDistinct ms → PropertiesSay fs ms said
    → AreProperties fs said
properties_formed fs ms said json d (pairs, is, says) =
    let formed = fields_formed fs ms pairs json d says in
    record { pairs = pairs; is_object = is; is_raw = subst IsRaw (sym is) (formed.differ, formed.raws); fields = formed.such }

-- a shape, applied traits, metadata
mixins_formed : (ms : Members) (rs : List Ref) → OrNothing mixins_name ms ReferencesSay rs → AreReferences rs
mixins_formed ms rs (inl found) = references_formed found.0 rs found.2
mixins_formed ms rs (inr missing) = subst AreReferences (sym missing.1) tt

shape_formed : (k : List ℕ) (ms : Members) (said : ShapeSaid) → AreJsonMembers ms → AreDistinct ms → ShapeParts k ms said
    → IsFormedShape said
shape_formed k ms said json d parts =
    let members = members_formed said.kind ms said.members json d parts.members in record {
      id = subst IsShapeId (sym parts.id) parts.is_shape;
      names = members.1;
      members = members.0;
      mixins = mixins_formed ms said.mixins parts.mixins;
      properties = properties_formed (property_forms said.kind) ms said.properties json d parts.properties;
      traits = traits_there_formed ms said.traits json d parts.traits;
    }

statement_formed : (k : List ℕ) (n : Node) (said : Said) → IsJson n → HasDistinctNames n → AstShape k n said → IsFormed said
statement_formed k n (metadata_said key value) json d says = absurd says
statement_formed k n (shape_said said) json d (ms, is, parts) = shape_formed k ms said (subst IsJson is json)
    (subst HasDistinctNames is d) parts
statement_formed k n (apply_said r ts) json d (ms, is, same, parts) = (
  subst IsReference (sym same) (absolute_formed k false parts.is_id),
  traits_formed parts.node ts (json_at traits_name parts.node ms (subst IsJson is json) parts.traits)
      (distinct_under traits_name parts.node ms (subst HasDistinctNames is d) parts.traits) parts.says,
)

shapes_formed : (ms : Members) (said : List Said) → AreJsonMembers ms → AreDistinct ms → ShapePairsSay ms said → AreFormed said
shapes_formed no_members said json d says = subst AreFormed (sym says) tt
shapes_formed (member k n ms) said json d (s, more, is, says, rest) =
    subst AreFormed (sym is) (statement_formed k n s json.1 d.1 says, shapes_formed ms more json.2 d.2 rest)

metadata_formed : (ms : Members) (said : List Said) → AreJsonMembers ms → AreDistinct ms → MetadataPairsSay ms said → AreFormed said
metadata_formed no_members said json d says = subst AreFormed (sym says) tt
metadata_formed (member k n ms) said json d (more, is, rest) =
    subst AreFormed (sym is) ((json.0, node_formed n json.1 d.1), metadata_formed ms more json.2 d.2 rest)

-- a whole tree
top_pair_formed : (k : List ℕ) (n : Node) (said : List Said) → IsJson n → HasDistinctNames n → TopPairSays k n said → AreFormed said
top_pair_formed k n said json d (inl (is, known, nothing)) = subst AreFormed (sym nothing) tt
top_pair_formed k n said json d (inr (inl (is, ms, is_object, says))) =
    metadata_formed ms said (subst IsJson is_object json) (subst HasDistinctNames is_object d) says
top_pair_formed k n said json d (inr (inr (is, ms, is_object, says))) =
    shapes_formed ms said (subst IsJson is_object json) (subst HasDistinctNames is_object d) says

joined_formed : (xs ys : List Said) → AreFormed xs → AreFormed ys → AreFormed (xs ++ ys)
joined_formed [] ys formed more = more
joined_formed (x ∷ xs) ys formed more = (formed.0, joined_formed xs ys formed.1 more)

top_formed : (ms : Members) (said : List Said) → AreJsonMembers ms → AreDistinct ms → TopPairsSay ms said → AreFormed said
top_formed no_members said json d says = subst AreFormed (sym says) tt
top_formed (member k n ms) said json d (first, more, is, says, rest) =
    subst AreFormed (sym is)
    (joined_formed first more (top_pair_formed k n first json.1 d.1 says) (top_formed ms more json.2 d.2 rest))

pub ast_formed : (said : List Said) (n : Node) → IsJson n → Ast said n → AreFormed said
ast_formed said n json ast =
    top_formed ast.pairs said (subst IsJson ast.is_object json) (subst HasDistinctNames ast.is_object ast.distinct) ast.says
