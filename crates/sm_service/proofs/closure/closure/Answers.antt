use Rattle.std.proofs.Common.{false, ap, ◌∙◌, rules}
use Rattle.std.specs.Prelude.{replicate}
use Rattle.sm_service.proofs.ServiceClosure.{closure_marks}
use Rattle.sm_service.proofs.closure.closure.Goals as goal

pub returns : goal.returns
returns c =
    closure_marks c.args.graph.now c.args.service c.requires.number c.requires.service c.in_ok-starts.starts.items c.as_slice.result.now
    c.in_ok-marks.marks.items (c.in_ok-starts.ensures ∙ ap (λ n. replicate n false) c.count.ensures) (search rules) c.in_ok-marks.ensures
