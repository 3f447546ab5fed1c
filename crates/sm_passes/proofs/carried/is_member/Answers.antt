use Rattle.std.proofs.Common.{◌≡◌, ap, sym, ◌∙◌}
use Rattle.sm_model.specs.GraphView.{is_member_entry}
use Rattle.sm_model.proofs.NumberedIds.{entry_here}
use Rattle.sm_passes.specs.Owned.{is_member_in}
use Rattle.sm_passes.proofs.OwnShapes.{member_seen}
use Rattle.sm_passes.proofs.carried.is_member.Goals as goal

pub returns : goal.returns
returns c =
    let h = entry_here c.args.graph.now c.args.number (λ id e. is_member_entry e ≡ c.is_member.result) c.is_member.ensures in
    sym (ap is_member_in h.1 ∙ member_seen h.0 ∙ h.2)
