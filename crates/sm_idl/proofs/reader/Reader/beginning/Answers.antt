use Rattle.std.proofs.Common.{inl, inr}
use Rattle.sm_model.specs.RawView.{raw_members_view}
use Rattle.sm_idl.specs.steps.ReaderView.{left}
use Rattle.sm_idl.proofs.reader.Reader.beginning.Goals as goal

pub returns-in-Err : goal.returns-in-Err
returns-in-Err g c = inl c.in-Err.ensures

pub returns-in-Err-all_metadata : goal.returns-in-Err-all_metadata
returns-in-Err-all_metadata g c =
    inr (
      raw_members_view c.in-Ok.controls.items,
      (left c.controls.new.self),
      c.in-Ok.ensures.0,
      c.in-Ok.ensures.1,
      c.in-Err-all_metadata.ensures,
    )

pub returns-in-Ok-all_metadata : goal.returns-in-Ok-all_metadata
returns-in-Ok-all_metadata g c =
    ((left c.controls.new.self), c.in-Ok.ensures.0, c.in-Ok.ensures.1, c.in-Ok-all_metadata.ensures.0, c.in-Ok-all_metadata.ensures.1)
