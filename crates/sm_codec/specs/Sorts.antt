-- Five sorts of places for fifteen kinds of shapes: to the codec all simple types are one, whose spelling a convention knows.
use Rattle.std.specs.Prelude.{Option, Some, None, unwrap_or}
use Rattle.sm_time.specs.declared.format.Format.{Format}
use Rattle.sm_time.specs.declared.format.Format.TheVariants.{EpochSeconds}
use Rattle.sm_shapes.specs.TableData.{TableData}
use Rattle.sm_shapes.specs.Places.{Place, kind_of, format_of}
use Rattle.sm_shapes.specs.declared.kinds.ShapeKind.{ShapeKind}
use Rattle.sm_shapes.specs.declared.kinds.ShapeKind.TheVariants.{Blob, Boolean, Text, Enum, Byte, Short, Integer, IntEnum, Long}
use Rattle.sm_shapes.specs.declared.kinds.ShapeKind.TheVariants.{Timestamp, List, Map, Structure, Union, LeftOut}
use Rattle.sm_codec.specs.declared.simple.Simple.{Simple}
use Rattle.sm_codec.specs.declared.simple.Simple.TheVariants as the

pub data Sort : Type 0 where
  simple : Simple → Sort
  a_list a_map a_structure a_union : Sort
  -- of a type that has no values
  left_out : Sort

-- by the format of timestamps that have none of their own
abbrev pub sort_with : Format → ShapeKind → Option Format → Sort
sort_with usual Blob format = simple the.Blob
sort_with usual Boolean format = simple the.Boolean
sort_with usual Text format = simple the.Text
sort_with usual Enum format = simple the.Text
sort_with usual Byte format = simple (the.Number 8)
sort_with usual Short format = simple (the.Number 16)
sort_with usual Integer format = simple (the.Number 32)
sort_with usual IntEnum format = simple (the.Number 32)
sort_with usual Long format = simple (the.Number 64)
sort_with usual Timestamp format = simple (the.Time (unwrap_or format usual))
sort_with usual List format = a_list
sort_with usual Map format = a_map
sort_with usual Structure format = a_structure
sort_with usual Union format = a_union
sort_with usual LeftOut format = left_out

-- in a document that is epoch-seconds (Smithy 2.0, "timestampFormat trait")
abbrev pub sort_by : ShapeKind → Option Format → Sort
sort_by kind format = sort_with EpochSeconds kind format

abbrev pub sort_of : TableData → Place → Sort
sort_of t p = sort_by (kind_of t p) (format_of t p)

-- the simple type of a sort of places, if it is one
abbrev pub simple_in : Sort → Option Simple
simple_in (simple x) = Some x
simple_in s = None
