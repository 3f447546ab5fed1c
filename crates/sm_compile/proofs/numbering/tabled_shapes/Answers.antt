use Rattle.std.proofs.Common.{◌++◌, ap, subst, sym, ◌∙◌, arith}
use Rattle.sm_model.specs.GraphView.{AreShapeNumbers, IsShapeNumber}
use Rattle.sm_compile.specs.Tabling.{is_tabled}
use Rattle.sm_compile.proofs.TabledNumbers.{numbers_if, put, tabled_more}
use Rattle.sm_compile.proofs.ReachedNumbers.{numbers_joined}
use Rattle.sm_compile.proofs.numbering.tabled_shapes.Goals as goal

pub loop-number-preserved : goal.loop-number-preserved
loop-number-preserved c =
    let g = c.args.graph.now in
    let marks = c.args.marks.now in
    let n = c.loop-number.number in
    let old = c.loop-number.shapes.items in
    let lt : IsShapeNumber g n = omega (arith, c.loop-number-test.true, c.count-number-end.ensures) in
    record {
      numbers = subst (AreShapeNumbers g) (sym c.in_ok-put_tabled.ensures)
          (numbers_joined g old (put (is_tabled g marks n) n) c.loop-number.invariant.numbers (numbers_if g n (is_tabled g marks n) lt));
      shapes = c.in_ok-put_tabled.ensures ∙ ap (λ xs. xs ++ put (is_tabled g marks n) n) c.loop-number.invariant.shapes
          ∙ sym (tabled_more g marks n);
    }
