use Rattle.std.proofs.Common.{length, arith, subst, sym}
use Rattle.sm_model.specs.GraphView.{entries_of, maps_of}
use Rattle.sm_rules.specs.declared.rule.Rule.TheVariants.{ShapeInfinite}
use Rattle.sm_passes.proofs.Numbered.{puts_numbers}
use Rattle.sm_rules.specs.Shapes.{HasNoFinite}
use Rattle.sm_reference_rules.specs.steps.Finding.{AreFinite}
use Rattle.sm_reference_rules.proofs.finite.put_infinite.Goals as goal

pub finite_shapes-requires : goal.finite_shapes-requires
finite_shapes-requires c = c.requires.are_back

pub put_each-requires : goal.put_each-requires
put_each-requires c = subst (AreFinite c.args.graph.now) (sym c.as_slice.ensures.value) c.in_ok-finite.ensures

pub returns : goal.returns
returns c =
    puts_numbers c.args.graph.now ShapeInfinite (HasNoFinite (maps_of c.args.graph.now)) (λ id detail h. (_, h.own.0))
    (length (entries_of c.args.graph.now)) (omega arith) c.args.events.now.items c.put_each.new.events.items c.in_ok-put_each.ensures
