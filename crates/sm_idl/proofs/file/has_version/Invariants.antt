use Rattle.std.proofs.Common.{◌↔◌, drop}
use Rattle.sm_model.specs.RawView.{raw_members_view}
use Rattle.sm_idl.specs.Idl.{HaveVersion}
use Rattle.sm_idl.proofs.file.has_version.Given as goal

abbrev pub invariant-loop-control : goal.invariant-loop-control
invariant-loop-control l = HaveVersion (raw_members_view (drop l.control-index l.controls)) ↔ HaveVersion (raw_members_view l.controls)
