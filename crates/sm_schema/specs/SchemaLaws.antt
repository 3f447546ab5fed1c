-- What the schema of a shape has to do with the trees that spell the shape's values, as JSON by the names of members or by their JSON
-- names: every one of them is valid; and every valid tree is one, where the schema can say all that the shape asks for.
use Rattle.std.specs.Prelude.{◌≡◌, ℕ, ◌<◌, ◌^◌, Bool, true, List, [], ◌∷◌, length}
use Rattle.std.specs.List.{Contains}
use Rattle.sm_tree.specs.Node.{Node, Nodes, Members, number, list, object, no_nodes, node}
use Rattle.sm_tree.specs.Node.{no_members, member}
use Rattle.sm_tree.specs.Same.{IsNode}
use Rattle.sm_shapes.specs.TableData.{TableData, shape_count}
use Rattle.sm_shapes.specs.Places.{Place, root_place, member_place, kind_of, members_of_place, unique_of, entry_place}
use Rattle.sm_shapes.specs.Fitting.{Test}
use Rattle.sm_shapes.specs.InOrder.{Shaped, DefaultsPass}
use Rattle.sm_shapes.specs.declared.kinds.ShapeKind.{ShapeKind}
use Rattle.sm_shapes.specs.declared.kinds.ShapeKind.TheVariants as kinds
use Rattle.sm_codec.specs.Codec.{Codec, codec_of}
use Rattle.sm_codec.specs.Conventions.{json_convention}
use Rattle.sm_codec.specs.Readings.{faults}
use Rattle.sm_schema.specs.Described.{IsSchema}
use Rattle.sm_schema.specs.Noted.{IsNotedSchema, NotesData}
use Rattle.sm_schema.specs.Valid.{Valid, is_valid}

abbrev pub json_codec : TableData → Bool → Test → Codec
json_codec t json_names test = codec_of t (json_convention json_names) test

-- it has fewer definitions than there are words of 64 bits
abbrev pub HasFew : (t : TableData) (json_names : Bool) (s : ℕ) (schema : Node) → IsSchema t json_names s schema → Type 0
HasFew t json_names s schema is = length is.places < 2 ^ 64

-- a tree without a fault for the shape is valid
abbrev pub SpelledIsValid : Type 0
SpelledIsValid =
    (t : TableData) (json_names : Bool) (test : Test) (s : ℕ) (schema n : Node) → Shaped t → DefaultsPass t test → s < shape_count t
    → (is : IsSchema t json_names s schema) → HasFew t json_names s schema is → IsNode n → faults (json_codec t json_names test) n (root_place s) ≡ [] → Valid test schema n

-- by these members, one after the other, a place leads to another
abbrev pub LeadsBy : TableData → Place → List ℕ → Place → Type 0
LeadsBy t p [] q = q ≡ p
LeadsBy t p (k ∷ ks) q = Contains (members_of_place t p) k × LeadsBy t (member_place k) ks q

-- equal values of these types are spelled by equal trees
abbrev pub IsPlainKind : ShapeKind → Type 0
IsPlainKind kinds.Boolean = Unit {0}
IsPlainKind kinds.Text = Unit {0}
IsPlainKind kinds.Enum = Unit {0}
IsPlainKind kinds.Byte = Unit {0}
IsPlainKind kinds.Short = Unit {0}
IsPlainKind kinds.Integer = Unit {0}
IsPlainKind kinds.IntEnum = Unit {0}
IsPlainKind kinds.Long = Unit {0}
IsPlainKind kind = ⊥

-- a schema can say all that a place asks for: it is no blob and no timestamp, and entries that may not be equal are plain
abbrev pub IsTold : TableData → Place → Type 0
IsTold t p =
    (kind_of t p ≡ kinds.Blob → ⊥) × (kind_of t p ≡ kinds.Timestamp → ⊥)
    × (kind_of t p ≡ kinds.List → unique_of t p ≡ true → IsPlainKind (kind_of t (entry_place t p)))

abbrev pub AllTold : TableData → Place → Type 0
AllTold t p = (ks : List ℕ) (q : Place) → LeadsBy t p ks q → IsTold t q

abbrev mutual
  -- no number of the tree has a fraction or an exponent, or is out of the range of 64 bits
  pub HasNoNumber : Node → Type 0
  HasNoNumber (number u) = ⊥
  HasNoNumber (list ns) = HaveNoNumber ns
  HasNoNumber (object ms) = HaveNoNumberUnder ms
  HasNoNumber n = Unit {0}

  pub HaveNoNumber : Nodes → Type 0
  HaveNoNumber no_nodes = Unit {0}
  HaveNoNumber (node n ns) = HasNoNumber n × HaveNoNumber ns

  pub HaveNoNumberUnder : Members → Type 0
  HaveNoNumberUnder no_members = Unit {0}
  HaveNoNumberUnder (member k n ms) = HasNoNumber n × HaveNoNumberUnder ms

-- and a valid tree has no fault
abbrev pub ValidIsSpelled : Type 0
ValidIsSpelled =
    (t : TableData) (json_names : Bool) (test : Test) (s : ℕ) (schema n : Node) → Shaped t → s < shape_count t
    → (is : IsSchema t json_names s schema) → HasFew t json_names s schema is → AllTold t (root_place s) → IsNode n → HasNoNumber n → Valid test schema n
    → faults (json_codec t json_names test) n (root_place s) ≡ []

-- a shape has one schema
abbrev pub OneSchema : Type 0
OneSchema =
    (t : TableData) (json_names : Bool) (s : ℕ) (a b : Node) → IsSchema t json_names s a → IsSchema t json_names s b → a ≡ b

-- and each shape has one
abbrev pub SomeSchema : Type 0
SomeSchema = (t : TableData) (json_names : Bool) (s : ℕ) → Shaped t → s < shape_count t → (tree : Node) × IsSchema t json_names s tree

-- what people read in a schema refuses nothing, and lets nothing in: with it the schema accepts what it accepts without
abbrev pub NotesDontCount : Type 0
NotesDontCount =
    (t : TableData) (json_names : Bool) (notes : NotesData) (test : Test) (s : ℕ) (schema noted n : Node) → IsSchema t json_names s schema
    → IsNotedSchema t json_names notes s noted → is_valid test noted n ≡ is_valid test schema n

-- with these notes a shape has one schema too, and has one
abbrev pub OneNotedSchema : Type 0
OneNotedSchema =
    (t : TableData) (json_names : Bool) (notes : NotesData) (s : ℕ) (a b : Node) → IsNotedSchema t json_names notes s a
    → IsNotedSchema t json_names notes s b → a ≡ b

abbrev pub SomeNotedSchema : Type 0
SomeNotedSchema =
    (t : TableData) (json_names : Bool) (notes : NotesData) (s : ℕ) → Shaped t → s < shape_count t
    → (tree : Node) × IsNotedSchema t json_names notes s tree
