use Rattle.std.proofs.Common.{sym, ◌∙◌}
use Rattle.sm_passes.proofs.SharedClosures.{own_joined, rows_joined}
use Rattle.sm_passes.proofs.services.put_row.Goals as goal

pub returns-in_ok-push-clause-services : goal.returns-in_ok-push-clause-services
returns-in_ok-push-clause-services c =
    own_joined c.args.graph.now c.args.rows.now.items (c.in_ok-steps.steps, c.args.number) c.push.new.self.items
    c.in_ok-push.ensures.items (c.requires.number, sym c.is_own_service.ensures ∙ c.if-is_own_service.true)

pub returns-in_ok-push-clause-rows : goal.returns-in_ok-push-clause-rows
returns-in_ok-push-clause-rows c =
    rows_joined c.args.graph.now c.args.ways.now.on c.args.rows.now.items c.push.new.self.items (c.in_ok-steps.steps, c.args.number)
    c.in_ok-push.ensures.items c.requires.rows
    (record { own = (c.requires.number, sym c.is_own_service.ensures ∙ c.if-is_own_service.true); to = c.in_ok-steps.ensures })
