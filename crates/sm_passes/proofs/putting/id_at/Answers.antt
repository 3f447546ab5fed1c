use Rattle.std.proofs.Common.{◌≡◌, ◌∙◌}
use Rattle.sm_model.proofs.NumberedIds.{entry_here}
use Rattle.sm_passes.proofs.putting.id_at.Goals as goal

pub returns : goal.returns
returns c = c.in_ok-id.ensures ∙ (entry_here c.args.graph.now c.args.number (λ id e. c.id.result.now ≡ id) c.id.ensures).2
