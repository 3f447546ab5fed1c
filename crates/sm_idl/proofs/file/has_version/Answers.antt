use Rattle.std.proofs.Common.{true, refl, arith}
use Rattle.sm_idl.specs.Idl.{IsVersion}
use Rattle.sm_idl.specs.steps.ReaderView.{raw_pair}
use Rattle.sm_idl.proofs.NodeRows.{refused}
use Rattle.sm_idl.proofs.ReadControls.{version_found, version_next}
use Rattle.sm_idl.proofs.file.has_version.Goals as goal

pub returns-then-is_version : goal.returns-then-is_version
returns-then-is_version c =
    version_found c.args.controls.now c.loop-control.control-index c.control-item.result (omega arith) c.control-item.is
    (c.is_version.ensures.0 c.if-is_version.true) c.loop-control.invariant true refl

pub loop-control-preserved : goal.loop-control-preserved
loop-control-preserved c =
    version_next c.args.controls.now c.loop-control.control-index c.control-item.result (omega arith) c.control-item.is
    (refused c.is_version.result (IsVersion (raw_pair c.control-item.result)) c.is_version.ensures c.if-is_version.false)
    c.loop-control.invariant
