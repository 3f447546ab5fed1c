-- What an entry of the trait `examples` says of the operation that carries it (Smithy 2.0, "examples trait"): the value of an input, and the
-- output or the error with which it is answered. An entry counts where it is an object, its `input` spells a value of the operation's input,
-- and it says a reply; what doesn't count is passed over, and so are other fields.
use Rattle.std.specs.Prelude.{ℕ, List, [], Option, None, Some, codes, cond, get_or, map}
use Rattle.std.specs.Option.{unwrap_or}
use Rattle.sm_model.specs.Graphs.{GraphMaps}
use Rattle.sm_model.specs.PreludeShapes.{api_id}
use Rattle.sm_tree.specs.Node.{Node, Nodes, no_members, no_nodes, object}
use Rattle.sm_tree.specs.Parts.{entries_in}
use Rattle.sm_shapes.specs.Fitting.{Test}
use Rattle.sm_shapes.specs.Places.{root_place}
use Rattle.sm_shapes.specs.TableData.{member_with}
use Rattle.sm_shapes.specs.Values.{Val}
use Rattle.sm_codec.specs.Defaults.{node_codec, read_value}
use Rattle.sm_codec.specs.Readings.{reading}
use Rattle.sm_compile.specs.Sound.{trait_of}
use Rattle.sm_compile.specs.TraitNodes.{field_of, is_object, text_of}
use Rattle.sm_messages.specs.service.ErrorOrder.{places_of}
use Rattle.sm_messages.specs.service.ServiceData.{ServiceData}
use Rattle.sm_messages.specs.service.declared.error.ErrorShape.{ErrorShape}
use Rattle.sm_messages.specs.Goals.{Role, goal_of, goal_shape, operation_at, the_error, the_input, the_output}
use Rattle.sm_examples.specs.ExampleData.{ExampleData, ReplyData}

abbrev pub examples_id : List ℕ
examples_id = api_id (codes "examples")

-- the entries of an operation: none where it doesn't carry the trait
abbrev pub entries_there : Option Node → Nodes
entries_there None = no_nodes
entries_there (Some n) = unwrap_or (entries_in n) no_nodes

abbrev pub entries_said : GraphMaps → List ℕ → Nodes
entries_said g operation = entries_there (trait_of g operation examples_id)

-- the value of a structure that a node spells, if it has no fault: as a node of a model, with blobs in base64
abbrev pub node_value : ServiceData → Test → ℕ → Node → Option Val
node_value s test shape n = read_value (reading (node_codec s.table test) n (root_place shape))

-- the value that a field spells for one of the operation's structures. A field that is missing is the empty object; null, or anything else
-- that is no object, spells none
abbrev pub field_value : ServiceData → Test → ℕ → Role → Option Node → Option Val
field_value s test o role field = node_value s test (goal_shape s (goal_of o role)) (unwrap_or field (object no_members))

-- the error of an operation that has this id
abbrev pub id_at_place : List ErrorShape → ℕ → List ℕ
id_at_place es k = get_or (map (λ e. e.id) es) k []

abbrev pub error_with_id : List ErrorShape → List ℕ → Option ℕ
error_with_id es id = member_with (id_at_place es) id (places_of es)

abbrev pub error_told : ServiceData → ℕ → Option (List ℕ) → Option ℕ
error_told s o None = None
error_told s o (Some id) = error_with_id (operation_at s o).errors id

abbrev pub reply_with : Role → Option Val → Option ReplyData
reply_with role None = None
reply_with role (Some v) = Some (record { role = role; value = v })

-- the output that an entry says
abbrev pub output_said : ServiceData → Test → ℕ → Node → Option ReplyData
output_said s test o entry = reply_with the_output (field_value s test o the_output (field_of (codes "output") entry))

-- the error that an entry's `error` says, at its place
abbrev pub content_said : ServiceData → Test → ℕ → Node → Option ℕ → Option ReplyData
content_said s test o error None = None
content_said s test o error (Some e) = reply_with (the_error e) (field_value s test o (the_error e) (field_of (codes "content") error))

abbrev pub error_said : ServiceData → Test → ℕ → Node → Option ReplyData
error_said s test o error = content_said s test o error (error_told s o (text_of (field_of (codes "shapeId") error)))

-- `error` goes before `output`, also where it says none
abbrev pub reply_said : ServiceData → Test → ℕ → Node → Option Node → Option ReplyData
reply_said s test o entry None = output_said s test o entry
reply_said s test o entry (Some error) = error_said s test o error

abbrev pub example_with : ℕ → Option Val → Option ReplyData → Option ExampleData
example_with o None reply = None
example_with o (Some v) None = None
example_with o (Some v) (Some r) = Some (record { operation = o; input = v; reply = r })

abbrev pub example_said : ServiceData → Test → ℕ → Node → Option ExampleData
example_said s test o entry =
    cond (is_object entry)
    (example_with o (field_value s test o the_input (field_of (codes "input") entry))
    (reply_said s test o entry (field_of (codes "error") entry)))
    None
