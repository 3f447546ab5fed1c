-- What a decoder's frames of the code stand for. Contracts that speak of one cite it.
use Rattle.std.specs.Option.{option_map}
use Rattle.sm_shapes.specs.ValueView.{val_of, fields_view, items_view}
use Rattle.sm_shapes.specs.declared.fault.Fault.{Fault}
use Rattle.sm_codec.specs.FaultLists.{FaultAt}
use Rattle.sm_codec.specs.Decoding as decoding
use Rattle.sm_codec.specs.steps.Arrivals as arrivals
use Rattle.sm_codec.specs.declared.frames.MemberFrame.{MemberFrame}
use Rattle.sm_codec.specs.declared.frames.EntryFrame.{EntryFrame}
use Rattle.sm_codec.specs.declared.frames.Outcome.{Outcome}
use Rattle.sm_codec.specs.declared.frames.Outcome.TheVariants.{Good, Bad}
use Rattle.sm_codec.specs.declared.frames.Arrival.{Arrival}
use Rattle.sm_codec.specs.declared.frames.Arrival.TheVariants.{Null, Value, Fault as a_fault}

abbrev pub fault_at : Fault → FaultAt
fault_at f = (f.path, f.kind)

abbrev pub member_frame : MemberFrame → decoding.MemberFrame
member_frame f = record {
  shape = f.shape;
  fields = fields_view f.fields;
  seen = f.seen;
  current = f.current;
  fault = option_map fault_at f.fault;
}

abbrev pub entry_frame : EntryFrame → decoding.EntryFrame
entry_frame f = record { shape = f.shape; items = items_view f.items; count = f.count; fault = option_map fault_at f.fault }

abbrev pub outcome_of : Outcome → decoding.Outcome
outcome_of (Good v) = decoding.good (val_of v)
outcome_of (Bad f) = decoding.bad (fault_at f)

abbrev pub arrival_of : Arrival → arrivals.Arrival
arrival_of Null = arrivals.null_comes
arrival_of (Value v) = arrivals.value_comes (val_of v)
arrival_of (a_fault f) = arrivals.fault_comes (fault_at f)
