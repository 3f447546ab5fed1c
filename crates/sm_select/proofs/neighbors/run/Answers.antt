use Rattle.std.proofs.Common.{◌-◌, get_or, length, take, drop, ap, sym, ◌∙◌, arith}
use Rattle.sm_select.proofs.RunLists.{rise_at, run_at}
use Rattle.sm_select.proofs.neighbors.run.Goals as goal

pub offset_bounds-numbers-start : goal.offset_bounds-numbers-start
offset_bounds-numbers-start c =
    let at = rise_at 0 c.args.ends.now (length c.args.numbers.now) c.args.number c.requires.rise c.requires.below in
    omega (arith, c.run_start-start.ensures, at.0, at.1, c.well_formed)

pub slice_bounds-result-count : goal.slice_bounds-result-count
slice_bounds-result-count c =
    let at = rise_at 0 c.args.ends.now (length c.args.numbers.now) c.args.number c.requires.rise c.requires.below in
    omega (arith, c.run_start-start.ensures, at.0)

pub slice_bounds-result-start : goal.slice_bounds-result-start
slice_bounds-result-start c =
    let at = rise_at 0 c.args.ends.now (length c.args.numbers.now) c.args.number c.requires.rise c.requires.below in
    omega (arith, c.run_start-start.ensures, at.0, at.1)

pub slice_bounds-result-end : goal.slice_bounds-result-end
slice_bounds-result-end c =
    let at = rise_at 0 c.args.ends.now (length c.args.numbers.now) c.args.number c.requires.rise c.requires.below in
    omega (arith, c.run_start-start.ensures, at.0, at.1)

pub returns : goal.returns
returns c =
    let ends = c.args.ends.now in
    ap (λ from. take (get_or ends c.args.number 0 - from) (drop from c.args.numbers.now)) c.run_start-start.ensures
    ∙ sym (run_at c.args.numbers.now 0 ends c.args.number c.requires.below)
