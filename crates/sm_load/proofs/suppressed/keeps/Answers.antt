use Rattle.std.proofs.Common.{sym, ap, ◌∙◌}
use Rattle.sm_model.specs.EventView.{event_view}
use Rattle.sm_model.specs.GraphView.{maps_of}
use Rattle.sm_rules.specs.RuleList.{rule_id}
use Rattle.sm_load.specs.Suppressions.{is_suppressed}
use Rattle.sm_load.proofs.SuppressorsFound.{stays_by, stays_without}
use Rattle.sm_load.proofs.suppressed.keeps.Goals as goal

pub returns-in-Some : goal.returns-in-Some
returns-in-Some c = λ are.
    let s = c.in-Some.suppressor.now in
    stays_by c.args.graph.now c.args.suppressors.now are (event_view c.args.event.now) s c.in-Some.ensures.0
    (c.in-Some.ensures.1 ∙ c.as_str-id.ensures.bytes) c.suppresses.result
    (c.suppresses.ensures (are.each s c.in-Some.ensures.0).0
    ∙ ap (λ id. is_suppressed (maps_of c.args.graph.now) id (rule_id s.rule)) c.as_str-shape.ensures)

pub returns-in-None : goal.returns-in-None
returns-in-None c = λ are.
    stays_without c.args.graph.now c.args.suppressors.now are (event_view c.args.event.now)
    (λ s among is. c.in-None.ensures s among (is ∙ sym c.as_str-id.ensures.bytes))
