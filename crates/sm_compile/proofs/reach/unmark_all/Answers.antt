use Rattle.std.proofs.Common.{false, replicate, get_or, ap, subst, sym, arith, ◌∙◌}
use Rattle.std.specs.List.{Contains}
use Rattle.std.proofs.lemmas.Grind.{common_steps}
use Rattle.std.proofs.lemmas.List.{take_all}
use Rattle.std.proofs.lemmas.List.Elements.{Contains-get_or}
use Rattle.sm_model.proofs.Worklist.{marked_within}
use Rattle.sm_compile.proofs.MarksTaken.{none_set}
use Rattle.sm_compile.proofs.reach.unmark_all.Goals as goal

pub index_mut-requires : goal.index_mut-requires
index_mut-requires c =
    let ns = c.args.numbers.now in
    let n = get_or ns c.loop-number.number-index 0 in
    let marked = (c.requires n).0 (Contains-get_or ns c.loop-number.number-index 0 c.loop-number-test.true) in
    let small = marked_within c.args.marks.now.items n marked in
    grind (arith, common_steps, small, c.loop-number.invariant.size)

pub returns : goal.returns
returns c =
    let at = c.loop-number in
    none_set at.marks.items
    (λ k h. (at.invariant.left k h).1 (subst (λ ns. Contains ns k) (sym (take_all at.number-index c.args.numbers.now
    c.loop-number-test.false)) ((c.requires k).1 (at.invariant.left k h).0)))
    ∙ ap (λ n. replicate n false) at.invariant.size
