use Rattle.std.proofs.Common.{◌<◌, length, sym, ◌∙◌, arith}
use Rattle.sm_model.proofs.Worklist.{apart}
use Rattle.sm_compile.proofs.SoundShapes.{below_more}
use Rattle.sm_compile.proofs.soundness.all_sound.Goals as goal

pub loop-number-preserved : goal.loop-number-preserved
loop-number-preserved c =
    below_more c.args.graph.now c.args.marks.now c.loop-number.number c.loop-number.invariant
    (c.in_ok-is_sound_where.ensures.0 c.if-not-branch.false)

pub returns-then-not-branch : goal.returns-then-not-branch
returns-then-not-branch c =
    let lt : c.loop-number.number < length c.args.marks.now = omega
    (arith, c.loop-number-test.true, c.count-number-end.ensures, c.requires) in (
      λ h. absurd (apart h),
      λ all. absurd (apart (sym c.if-not-branch.true ∙ c.in_ok-is_sound_where.ensures.1 (all c.loop-number.number lt))),
    )
