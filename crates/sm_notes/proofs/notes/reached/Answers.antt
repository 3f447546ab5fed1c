use Rattle.std.proofs.Common.{◌≡◌, ◌∷◌, [], ap, false, length, replicate, subst, arith}
use Rattle.std.specs.List.{Contains}
use Rattle.std.proofs.lemmas.List.{length-replicate}
use Rattle.sm_model.specs.Reaching.{Finds}
use Rattle.sm_compile.proofs.ReachedNumbers.{each_number, marks_reached}
use Rattle.sm_notes.proofs.NotesFound.{marks_from_root}
use Rattle.sm_notes.proofs.notes.reached.Goals as goal

pub mark_all-requires-clause-within : goal.mark_all-requires-clause-within
mark_all-requires-clause-within c k h =
    let below = each_number c.args.graph.now (c.args.root ∷ []) (c.requires, tt) k h in
    let same : c.in_ok-marks.marks.items ≡ replicate c.count.result false = c.in_ok-marks.ensures in
    let long : length c.in_ok-marks.marks.items ≡ length (replicate c.count.result false) = ap length same in
    omega (arith, below, c.count.ensures, long, length-replicate c.count.result false)

pub returns : goal.returns
returns c =
    let g = c.args.graph.now in
    let roots = c.args.root ∷ [] in
    let n = c.count.result in
    let marks = c.mark_all.new.marks.items in
    let found = c.mark_all.new.found.items in
    marks_from_root g c.args.root c.spread.new.marks.items
    (marks_reached g roots (c.requires, tt) n marks found c.spread.new.marks.items
    (subst (λ xs. Finds (Contains roots) (replicate n false) xs marks found) c.new-found.ensures.items
    (subst (λ xs. Finds (Contains roots) xs c.new-found.result.items marks found) c.in_ok-marks.ensures c.in_ok-mark_all.ensures))
    c.in_ok-spread.ensures.count c.in_ok-spread.ensures.marked)
