use Rattle.std.proofs.Common.{get_or, subst, sym, arith}
use Rattle.std.proofs.lemmas.List.Elements.{Contains-get_or}
use Rattle.sm_compile.specs.steps.Numbered.{EachAt}
use Rattle.sm_compile.specs.steps.Valued.{HasValuesAt}
use Rattle.sm_compile.proofs.Blocks.{each_more}
use Rattle.sm_compile.proofs.ReachedNumbers.{each_number}
use Rattle.sm_compile.proofs.RowsPut.{one_longer}
use Rattle.sm_compile.proofs.values.values_of_shapes.Goals as goal

pub values_at-requires : goal.values_at-requires
values_at-requires c =
    let shapes = c.args.shapes.now in
    let i = c.loop-shape.shape-index in
    each_number c.args.graph.now shapes c.requires (get_or shapes i 0) (Contains-get_or shapes i 0 c.loop-shape-test.true)

pub loop-shape-preserved : goal.loop-shape-preserved
loop-shape-preserved c =
    let g = c.args.graph.now in
    let shapes = c.args.shapes.now in
    let at = c.loop-shape in
    let v = c.in_ok-values_at.field-0 in
    let Says = HasValuesAt g shapes in
    let put = c.in_ok-push.ensures.items in
    let longer = one_longer at.values.items c.push.new.self.items v put in
    record {
      long = omega (arith, longer, at.invariant.long);
      each = subst (EachAt Says) (sym put)
          (each_more Says at.values.items v at.invariant.each (subst (λ k. Says k v) (sym at.invariant.long) c.in_ok-values_at.ensures));
    }
