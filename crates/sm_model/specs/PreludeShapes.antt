-- The shapes of the prelude (Smithy 2.0, "Prelude"): its simple shapes, those whose default is set, and `Unit`. The shapes of its
-- traits aren't shapes of a graph. Any other id of its namespace is that of a model's own shape.
use Rattle.std.specs.Prelude.{ℕ, pos, Bool, false, List, [], ◌∷◌, ◌++◌, codes}
use Rattle.std.specs.List.{list_any}
use Rattle.std.specs.Str.{bytes_eq}
use Rattle.sm_tree.specs.Node.{Node, bool, int, object, no_members}
use Rattle.sm_model.specs.Graphs.{ShapeGiven, GraphMaps, graph_of}
use Rattle.sm_model.specs.Given.{given_ids}
use Rattle.sm_model.specs.declared.kind.Kind.{Kind}
use Rattle.sm_model.specs.declared.kind.Kind.TheVariants.{Blob, Boolean, Text, Byte, Short, Integer, Long, Float, Double, BigInteger}
use Rattle.sm_model.specs.declared.kind.Kind.TheVariants.{BigDecimal, Timestamp, Document, Structure}

-- an id of the prelude's namespace
abbrev pub api_id : List ℕ → List ℕ
api_id name = codes "smithy.api#" ++ name

abbrev pub no_node_pairs : Node
no_node_pairs = object no_members

-- a shape without members, with these traits
abbrev pub shape_of_prelude : List ℕ → Kind → List (List ℕ × Node) → ShapeGiven
shape_of_prelude name kind traits = record { id = api_id name; kind = kind; members = []; properties = no_node_pairs; traits = traits }

abbrev pub simple_shape : List ℕ → Kind → ShapeGiven
simple_shape name kind = shape_of_prelude name kind []

-- a shape whose values are this one where none is given
abbrev pub defaulted_shape : List ℕ → Kind → Node → ShapeGiven
defaulted_shape name kind value = shape_of_prelude name kind ((api_id (codes "default"), value) ∷ [])

abbrev pub plain_shapes : List ShapeGiven
plain_shapes = simple_shape (codes "Blob") Blob ∷ simple_shape (codes "Boolean") Boolean ∷ simple_shape (codes "String") Text
    ∷ simple_shape (codes "Timestamp") Timestamp ∷ simple_shape (codes "Document") Document ∷ []

abbrev pub integer_shapes : List ShapeGiven
integer_shapes = simple_shape (codes "Byte") Byte ∷ simple_shape (codes "Short") Short ∷ simple_shape (codes "Integer") Integer
    ∷ simple_shape (codes "Long") Long ∷ simple_shape (codes "BigInteger") BigInteger ∷ []

abbrev pub fraction_shapes : List ShapeGiven
fraction_shapes = simple_shape (codes "Float") Float ∷ simple_shape (codes "Double") Double ∷ simple_shape (codes "BigDecimal") BigDecimal
    ∷ []

abbrev pub primitive_shapes : List ShapeGiven
primitive_shapes = defaulted_shape (codes "PrimitiveBoolean") Boolean (bool false)
    ∷ defaulted_shape (codes "PrimitiveByte") Byte (int (pos 0))
    ∷ defaulted_shape (codes "PrimitiveShort") Short (int (pos 0)) ∷ defaulted_shape (codes "PrimitiveInteger") Integer (int (pos 0))
    ∷ defaulted_shape (codes "PrimitiveLong") Long (int (pos 0)) ∷ defaulted_shape (codes "PrimitiveFloat") Float (int (pos 0))
    ∷ defaulted_shape (codes "PrimitiveDouble") Double (int (pos 0)) ∷ []

-- the structure that stands for no value
abbrev pub unit_id : List ℕ
unit_id = api_id (codes "Unit")

abbrev pub unit_shape : ShapeGiven
unit_shape = shape_of_prelude (codes "Unit") Structure ((api_id (codes "unitType"), no_node_pairs) ∷ [])

abbrev pub prelude_shapes : List ShapeGiven
prelude_shapes = plain_shapes ++ integer_shapes ++ fraction_shapes ++ primitive_shapes ++ unit_shape ∷ []

abbrev pub prelude_graph : GraphMaps
prelude_graph = graph_of prelude_shapes []

abbrev pub is_prelude_id : List ℕ → Bool
is_prelude_id id = list_any (bytes_eq id) (given_ids prelude_shapes)
