use Rattle.std.proofs.Common.{length, arith, subst, sym, ◌∙◌}
use Rattle.sm_model.specs.GraphView.{entries_of, maps_of}
use Rattle.sm_model.specs.Relations.{Reaches}
use Rattle.sm_select.specs.Images.{AreImage}
use Rattle.sm_rules.specs.declared.rule.Rule.TheVariants.{ShapeUnused}
use Rattle.sm_rules.specs.Shapes.{IsUnused}
use Rattle.sm_passes.proofs.Numbered.{puts_numbers}
use Rattle.sm_reference_rules.proofs.UnusedShapes.{no_service, used_by}
use Rattle.sm_reference_rules.proofs.unused.put_unused_where.Goals as goal

pub image_of_walk-requires-clause-count : goal.image_of_walk-requires-clause-count
image_of_walk-requires-clause-count c = c.requires.services.whole

pub put_each-requires : goal.put_each-requires
put_each-requires c =
    used_by c.args.graph.now c.args.services.now c.requires.services c.as_slice.result.now
    (sym c.some_marked.ensures ∙ c.if-some_marked.true)
    (subst (AreImage c.args.graph.now c.args.services.now (Reaches (maps_of c.args.graph.now))) (sym c.as_slice.ensures.value)
    c.in_ok-used.ensures)

pub returns-in_ok-put_each : goal.returns-in_ok-put_each
returns-in_ok-put_each c =
    puts_numbers c.args.graph.now ShapeUnused (IsUnused (maps_of c.args.graph.now)) (λ id detail h. (_, h.own.0))
    (length (entries_of c.args.graph.now)) (omega arith) c.args.events.now.items c.put_each.new.events.items c.in_ok-put_each.ensures

pub returns-else-some_marked : goal.returns-else-some_marked
returns-else-some_marked c =
    no_service c.args.graph.now c.args.services.now c.requires.services (sym c.some_marked.ensures ∙ c.if-some_marked.false)
    c.args.events.now.items
