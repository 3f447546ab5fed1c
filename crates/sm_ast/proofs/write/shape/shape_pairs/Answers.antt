use Rattle.std.proofs.Common.{◌≡◌, ◌+◌, ◌≤◌, ◌++◌, ap, append-nil, arith, drop, length, subst, suc, sym, ◌∙◌}
use Rattle.std.proofs.lemmas.List.{drop_all}
use Rattle.sm_tree.specs.View.{members_view}
use Rattle.sm_model.specs.GraphView.{entries_of, maps_of}
use Rattle.sm_ast.specs.Written.{written_shapes}
use Rattle.sm_ast.proofs.WrittenAt.{put_then}
use Rattle.sm_ast.proofs.write.shape.shape_pairs.Goals as goal

pub loop-number-preserved : goal.loop-number-preserved
loop-number-preserved c =
    let g = c.args.graph.now in
    let es = entries_of g in
    let k = c.loop-number.number in
    let shapes = (maps_of g).shapes in
    let next : suc k ≡ k + 1 = omega arith in
    record {
      written = subst (λ n. members_view c.put_shape.new.shapes.items ++ written_shapes shapes (drop n es) ≡ written_shapes shapes es) next
          (put_then shapes es k (members_view c.put_shape.new.shapes.items)
          (members_view c.loop-number.shapes.items) c.in_ok-put_shape.ensures ∙ c.loop-number.invariant.written);
    }

pub returns : goal.returns
returns c =
    let g = c.args.graph.now in
    let es = entries_of g in
    let shapes = (maps_of g).shapes in
    let k = c.loop-number.number in
    let all : length es ≤ k = omega (arith, c.count-number-end.ensures, c.loop-number-test.false) in
    let put = members_view c.loop-number.shapes.items in
    sym (append-nil put) ∙ ap (λ rest. put ++ written_shapes shapes rest) (sym (drop_all k es all)) ∙ c.loop-number.invariant.written
