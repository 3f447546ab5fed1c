use Rattle.std.proofs.Common.{◌≡◌, drop}
use Rattle.sm_model.specs.RawView.{raw_members_view}
use Rattle.sm_idl.specs.Bodies.{suffix_under}
use Rattle.sm_idl.proofs.file.suffix.Given as goal

abbrev pub invariant-loop-control : goal.invariant-loop-control
invariant-loop-control l = suffix_under l.name l.otherwise (raw_members_view (drop l.control-index l.controls))
    ≡ suffix_under l.name l.otherwise (raw_members_view l.controls)
