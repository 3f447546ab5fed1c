use Rattle.std.proofs.Common.{◌≡◌, ◌+◌, ◌≤◌, ◌++◌, ap, append-nil, arith, drop, length, subst, suc, sym, ◌∙◌}
use Rattle.std.proofs.lemmas.List.{drop_all}
use Rattle.sm_model.specs.GraphView.{entries_of, maps_of}
use Rattle.sm_idl.specs.Written.{shape_lines}
use Rattle.sm_idl.proofs.WrittenIdl.{put_then}
use Rattle.sm_idl.proofs.write.shape.put_shapes.Goals as goal

pub loop-number-preserved : goal.loop-number-preserved
loop-number-preserved c =
    let g = c.args.graph.now in
    let es = entries_of g in
    let k = c.loop-number.number in
    let ns = c.args.namespace.now in
    let shapes = (maps_of g).shapes in
    let now = c.put_entry.new.out.items in
    let next : suc k ≡ k + 1 = omega arith in
    record {
      written = subst (λ n. now ++ shape_lines shapes ns (drop n es) ≡ c.args.out.now.items ++ shape_lines shapes ns es) next
          (put_then shapes ns es k now c.loop-number.out.items c.in_ok-put_entry.ensures ∙ c.loop-number.invariant.written);
    }

pub returns : goal.returns
returns c =
    let g = c.args.graph.now in
    let es = entries_of g in
    let shapes = (maps_of g).shapes in
    let ns = c.args.namespace.now in
    let k = c.loop-number.number in
    let all : length es ≤ k = omega (arith, c.count-number-end.ensures, c.loop-number-test.false) in
    let put = c.loop-number.out.items in
    sym (append-nil put) ∙ ap (λ rest. put ++ shape_lines shapes ns rest) (sym (drop_all k es all)) ∙ c.loop-number.invariant.written
