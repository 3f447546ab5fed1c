use Rattle.std.proofs.Common.{ap, sym, ◌∙◌}
use Rattle.sm_model.specs.GraphView.{maps_of}
use Rattle.sm_model.specs.PreludeShapes.{is_prelude_id}
use Rattle.sm_model.specs.Reaching.{id_of_number}
use Rattle.sm_passes.proofs.EventsPut.{puts_none}
use Rattle.sm_passes.proofs.each.OutsideAtEach.put_at.Goals as goal

pub put_own-requires-clause-own : goal.put_own-requires-clause-own
put_own-requires-clause-own g c = ap is_prelude_id (sym c.id_text.ensures) ∙ sym c.is_in_prelude.ensures ∙ c.if-is_in_prelude.false

pub returns-then-is_in_prelude : goal.returns-then-is_in_prelude
returns-then-is_in_prelude g c =
    let maps = maps_of c.args.graph.now in
    let id = id_of_number c.args.graph.now c.args.number in
    puts_none (g.A.AtOwn.tells c.args.self.now.rule.now maps id) c.args.events.now.items
    (λ e h. g.met.A.AtOwn.silent c.args.self.now.rule.now maps id e
    (ap is_prelude_id (sym c.id_text.ensures) ∙ sym c.is_in_prelude.ensures ∙ c.if-is_in_prelude.true) h)
