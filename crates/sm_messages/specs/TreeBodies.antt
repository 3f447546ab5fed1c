-- Bodies that are one tree of the whole value, by a convention over the table of the service: those of the AWS JSON protocols and of Smithy
-- RPC v2 CBOR. An error tells the name of its shape under `__type`, before its members.
use Rattle.std.specs.Prelude.{ℕ, Bool, false, ◌&&◌, cond, List, None, Some}
use Rattle.sm_tree.specs.Node.{Node}
use Rattle.sm_tree.specs.declared.path.Step.{Step}
use Rattle.sm_shapes.specs.Fitting.{Test}
use Rattle.sm_shapes.specs.Places.{Place, root_place}
use Rattle.sm_shapes.specs.TableData.{TableData, unit_at}
use Rattle.sm_shapes.specs.Values.{FieldVals, Val, no_fields, structure_val}
use Rattle.sm_shapes.specs.declared.fault.FaultKind.TheVariants.{WrongType}
use Rattle.sm_compile.specs.Served.{type_name}
use Rattle.sm_codec.specs.Codec.{Codec, codec_of}
use Rattle.sm_codec.specs.Convention.{Convention}
use Rattle.sm_codec.specs.FaultLists.{FaultAt}
use Rattle.sm_codec.specs.Readings.{faults, one_here}
use Rattle.sm_codec.specs.Spelling.{Spells}
use Rattle.sm_codec.specs.Written.{uncarried, written}
use Rattle.sm_codec.specs.WrittenObjects.{written_object}
use Rattle.sm_service.specs.ServiceData.{OperationData, ServiceData}
use Rattle.sm_service.specs.declared.error.ErrorShape.{ErrorShape}
use Rattle.sm_messages.specs.Goals.{Goal, Role, error_at, goal_shape, no_error, operation_at, the_error, the_input, the_output}
use Rattle.sm_messages.specs.MessageForm.{BodyUse, Content, a_tree, as_empty_object, as_text}
use Rattle.sm_messages.specs.WrittenHeads.{fault_status}

abbrev pub goal_place : ServiceData → Goal → Place
goal_place s g = root_place (goal_shape s g)

-- the prelude's `Unit` is the input or the output
abbrev pub is_unit : ServiceData → ℕ → Role → Bool
is_unit s shape the_input = unit_at s.table shape
is_unit s shape the_output = unit_at s.table shape
is_unit s shape (the_error e) = false

-- no bytes are the empty object there
abbrev pub tree_use : ServiceData → Goal → Bool → BodyUse
tree_use s g empty = cond (empty && is_unit s (goal_shape s g) g.role) as_empty_object as_text

abbrev pub tree_codec : Convention → ServiceData → Test → Codec
tree_codec l s test = codec_of s.table l test

-- no other content than a tree is one of these bodies
abbrev pub tree_spells : Convention → ServiceData → Test → Goal → Content → Val → Type 0
tree_spells l s test g (a_tree n) v = Spells (tree_codec l s test) (goal_place s g) v n
tree_spells l s test g c v = ⊥

abbrev pub tree_faults : Convention → ServiceData → Test → Goal → Content → List FaultAt
tree_faults l s test g (a_tree n) = faults (tree_codec l s test) n (goal_place s g)
tree_faults l s test g c = one_here WrongType

abbrev pub tree_uncarried : Convention → ServiceData → Goal → Val → List (List Step)
tree_uncarried l s g v = uncarried s.table l (goal_place s g) v

abbrev pub fields_in : Val → FieldVals
fields_in (structure_val fs) = fs
fields_in v = no_fields

-- the tree that is written for a value: that of an error begins with this name
abbrev pub role_tree : Convention → TableData → Place → Role → List ℕ → Val → Node
role_tree l t p the_input told v = written t l p v
role_tree l t p the_output told v = written t l p v
role_tree l t p (the_error e) told v = written_object t l p (Some (type_name, told)) None (fields_in v)

abbrev pub tree_written : Convention → ServiceData → Goal → List ℕ → Val → Node
tree_written l s g told v = role_tree l s.table (goal_place s g) g.role told v

-- the error to which a goal leads, and the status of a response
abbrev pub error_of_role : OperationData → Role → ErrorShape
error_of_role o the_input = no_error
error_of_role o the_output = no_error
error_of_role o (the_error e) = error_at o e

abbrev pub error_of : ServiceData → Goal → ErrorShape
error_of s g = error_of_role (operation_at s g.operation) g.role

abbrev pub role_status : Role → Bool → ℕ
role_status the_input client = 200
role_status the_output client = 200
role_status (the_error e) client = fault_status client

abbrev pub status_of : ServiceData → Goal → ℕ
status_of s g = role_status g.role (error_of s g).client
