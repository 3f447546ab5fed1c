-- What a tree says, as a function. It has a value for trees that are refused too, of which nothing is promised: readers give
-- it for trees that were checked, and of these it is what `Ast` relates.
use Rattle.std.specs.Prelude.{ℕ, false, true, List, [], ◌∷◌, ◌++◌, Option, Some, None, if◌then◌else◌}
use Rattle.std.specs.Str.{bytes_eq}
use Rattle.sm_tree.specs.Node.{Node, Nodes, Members, text, no_nodes, node, no_members, member}
use Rattle.sm_model.specs.Kinds.{MemberForm, none, exactly, any, member_form}
use Rattle.sm_model.specs.Properties.{TypeFields, form_named, property_forms}
use Rattle.sm_model.specs.References.{absolute}
use Rattle.sm_model.specs.Raw.{Raw, raw_leaf, raw_id, raw_list, raw_object, raws_of, raw_members_of, raw_of}
use Rattle.sm_model.specs.Said.{TraitSaid, MemberSaid, ShapeSaid, Said, metadata_said, shape_said, apply_said}
use Rattle.sm_model.specs.declared.kind.Kind.{Kind}
use Rattle.sm_model.specs.declared.reference.Ref.{Ref}
use Rattle.sm_model.specs.declared.property.PropertyForm.{PropertyForm}
use Rattle.sm_model.specs.declared.property.PropertyForm.TheVariants.{Reference, References, NamedReferences, Text, Rename}
use Rattle.sm_ast.specs.declared.layout.ShapeType.{ShapeType}
use Rattle.sm_ast.specs.declared.layout.ShapeType.TheVariants.{Defined, Applied}
use Rattle.sm_ast.specs.Ids.{is_id}
use Rattle.sm_tree.specs.Parts.{tree_named}
use Rattle.sm_ast.specs.PartsSaid.{text_said, entries_said, pairs_said}
use Rattle.sm_ast.specs.Faults.{type_said}
use Rattle.sm_ast.specs.Layout.{metadata_name, shapes_name, target_name, traits_name, type_name, members_name, mixins_name}

-- a reference, by the pairs of its object
abbrev pub text_there : Option Node → List ℕ
text_there None = []
text_there (Some n) = text_said n

abbrev pub target_said : Members → Ref
target_said ms = absolute (text_there (tree_named target_name ms)) false

abbrev pub reference_said : Node → Ref
reference_said n = target_said (pairs_said n)

abbrev pub references_said : Nodes → List Ref
references_said no_nodes = []
references_said (node n ns) = reference_said n ∷ references_said ns

abbrev pub references_there : Option Node → List Ref
references_there None = []
references_there (Some n) = references_said (entries_said n)

-- traits
abbrev pub trait_said : List ℕ → Node → TraitSaid
trait_said k n = record { id = absolute k true; value = raw_of n }

abbrev pub traits_said : Members → List TraitSaid
traits_said no_members = []
traits_said (member k n ms) = trait_said k n ∷ traits_said ms

abbrev pub traits_there : Option Node → List TraitSaid
traits_there None = []
traits_there (Some n) = traits_said (pairs_said n)

-- members
abbrev pub member_by_pairs : List ℕ → Members → MemberSaid
member_by_pairs k ms = record { name = k; target = target_said ms; traits = traits_there (tree_named traits_name ms) }

abbrev pub member_said : List ℕ → Node → MemberSaid
member_said k n = member_by_pairs k (pairs_said n)

abbrev pub members_said : Members → List MemberSaid
members_said no_members = []
members_said (member k n ms) = member_said k n ∷ members_said ms

abbrev pub members_there : Option Node → List MemberSaid
members_there None = []
members_there (Some n) = members_said (pairs_said n)

abbrev pub member_there : List ℕ → Option Node → MemberSaid
member_there k None = member_by_pairs k no_members
member_there k (Some n) = member_said k n

abbrev pub named_members_said : List (List ℕ) → Members → List MemberSaid
named_members_said [] ms = []
named_members_said (k ∷ ks) ms = member_there k (tree_named k ms) ∷ named_members_said ks ms

abbrev pub members_by_form : MemberForm → Members → List MemberSaid
members_by_form none ms = []
members_by_form (exactly names) ms = named_members_said names ms
members_by_form any ms = members_there (tree_named members_name ms)

-- the fields of operations, services and resources
abbrev pub reference_entries : Nodes → List Raw
reference_entries no_nodes = []
reference_entries (node n ns) = raw_id (reference_said n) ∷ reference_entries ns

abbrev pub reference_pairs : Members → List (List ℕ × Raw)
reference_pairs no_members = []
reference_pairs (member k n ms) = (k, raw_id (reference_said n)) ∷ reference_pairs ms

abbrev pub text_pairs : Members → List (List ℕ × Raw)
text_pairs no_members = []
text_pairs (member k n ms) = (k, raw_leaf (text (text_said n))) ∷ text_pairs ms

abbrev pub property_said : PropertyForm → Node → Raw
property_said Reference n = raw_id (reference_said n)
property_said References n = raw_list (raws_of (reference_entries (entries_said n)))
property_said NamedReferences n = raw_object (raw_members_of (reference_pairs (pairs_said n)))
property_said Text n = raw_leaf (text (text_said n))
property_said Rename n = raw_object (raw_members_of (text_pairs (pairs_said n)))

-- a pair that is such a field, before others
abbrev pub with_property : Option PropertyForm → List ℕ → Node → List (List ℕ × Raw) → List (List ℕ × Raw)
with_property None k n more = more
with_property (Some form) k n more = (k, property_said form n) ∷ more

abbrev pub property_pairs : TypeFields → Members → List (List ℕ × Raw)
property_pairs fs no_members = []
property_pairs fs (member k n ms) = with_property (form_named k fs) k n (property_pairs fs ms)

-- shapes, and traits that are applied
abbrev pub shape_by_kind : List ℕ → Kind → Members → ShapeSaid
shape_by_kind k kind ms = record {
  id = k;
  kind = kind;
  members = members_by_form (member_form kind) ms;
  mixins = references_there (tree_named mixins_name ms);
  properties = raw_object (raw_members_of (property_pairs (property_forms kind) ms));
  traits = traits_there (tree_named traits_name ms);
}

abbrev pub type_there : Option Node → Option ShapeType
type_there None = None
type_there (Some n) = type_said n

abbrev pub applied_said : List ℕ → Members → Said
applied_said k ms = apply_said (absolute k false) (traits_there (tree_named traits_name ms))

abbrev pub statement_by_type : Option ShapeType → List ℕ → Members → Said
statement_by_type None k ms = applied_said k ms
statement_by_type (Some Applied) k ms = applied_said k ms
statement_by_type (Some (Defined kind)) k ms = shape_said (shape_by_kind k kind ms)

abbrev pub statement_by_pairs : List ℕ → Members → Said
statement_by_pairs k ms = if is_id k then statement_by_type (type_there (tree_named type_name ms)) k ms else applied_said k ms

abbrev pub statement_said : List ℕ → Node → Said
statement_said k n = statement_by_pairs k (pairs_said n)

abbrev pub shape_statements : Members → List Said
shape_statements no_members = []
shape_statements (member k n ms) = statement_said k n ∷ shape_statements ms

abbrev pub metadata_statements : Members → List Said
metadata_statements no_members = []
metadata_statements (member k n ms) = metadata_said k (raw_of n) ∷ metadata_statements ms

-- the top object
abbrev pub top_said : List ℕ → Node → List Said
top_said k n =
    if bytes_eq k metadata_name
    then metadata_statements (pairs_said n)
    else if bytes_eq k shapes_name then shape_statements (pairs_said n) else []

abbrev pub top_statements : Members → List Said
top_statements no_members = []
top_statements (member k n ms) = top_said k n ++ top_statements ms

abbrev pub ast_said : Node → List Said
ast_said n = top_statements (pairs_said n)
