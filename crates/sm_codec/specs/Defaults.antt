-- Which defaults of a table count: those whose nodes have no fault for their member, by the convention of nodes with blobs in base64.
use Rattle.std.specs.Prelude.{ℕ, suc, false, List, [], ◌∷◌, Option, Some, None, Ok, Err}
use Rattle.sm_tree.specs.Node.{Node}
use Rattle.sm_shapes.specs.Values.{Val}
use Rattle.sm_shapes.specs.TableData.{TableData, MemberData}
use Rattle.sm_shapes.specs.DefaultPuts.{with_default}
use Rattle.sm_shapes.specs.Places.{member_place}
use Rattle.sm_shapes.specs.Fitting.{Test}
use Rattle.sm_codec.specs.Codec.{Codec}
use Rattle.sm_codec.specs.Conventions.{node_convention}
use Rattle.sm_codec.specs.FaultLists.{Reading}
use Rattle.sm_codec.specs.Readings.{reading}

abbrev pub node_codec : TableData → Test → Codec
node_codec t test = record { table = t; convention = node_convention false; test = test }

abbrev pub read_value : Reading → Option Val
read_value (Ok v) = Some v
read_value (Err fs) = None

-- the default of the member with this number, by its node
abbrev pub counted_default : Codec → ℕ → Option Node → Option Val
counted_default c k None = None
counted_default c k (Some n) = read_value (reading c n (member_place k))

-- these members, numbered from k on, with their defaults
abbrev pub filled_members : Codec → ℕ → List MemberData → List MemberData
filled_members c k [] = []
filled_members c k (m ∷ ms) = with_default m (counted_default c k m.default_node) ∷ filled_members c (suc k) ms

-- a table in which no default is set, with those set that count; nothing else is changed
abbrev pub filled : TableData → Test → TableData
filled t test = record { shapes = t.shapes; members = filled_members (node_codec t test) 0 t.members; patterns = t.patterns }
