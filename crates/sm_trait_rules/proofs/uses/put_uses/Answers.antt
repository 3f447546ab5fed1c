use Rattle.std.proofs.Common.{ap, sym, ◌∙◌}
use Rattle.std.proofs.lemmas.Result.{on_ok_weaker}
use Rattle.sm_model.specs.PreludeShapes.{is_prelude_id}
use Rattle.sm_trait_rules.proofs.UsesPut.{prelude_uses, uses_here}
use Rattle.sm_trait_rules.proofs.uses.put_uses.Goals as goal

pub returns-then-is_in_prelude-clause-uses : goal.returns-then-is_in_prelude-clause-uses
returns-then-is_in_prelude-clause-uses c =
    prelude_uses c.args.graph.now c.args.firsts.now c.args.number c.requires.number
    (ap is_prelude_id (sym c.id_text.ensures) ∙ sym c.is_in_prelude.ensures ∙ c.if-is_in_prelude.true) c.args.rows.now.items

pub returns-else-is_in_prelude-clause-uses : goal.returns-else-is_in_prelude-clause-uses
returns-else-is_in_prelude-clause-uses c =
    on_ok_weaker c.put_carried.result
    (uses_here c.args.graph.now c.args.firsts.now c.args.number c.requires.number c.traits.result.now c.traits.ensures
    (ap is_prelude_id (sym c.id_text.ensures) ∙ sym c.is_in_prelude.ensures ∙ c.if-is_in_prelude.false) c.args.rows.now.items
    c.put_carried.new.rows.items) c.put_carried.ensures.uses
