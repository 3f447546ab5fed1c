use Rattle.std.proofs.Common.{◌+◌, ◌∷◌, [], length, sym, ap, subst, ◌∙◌, length-append}
use Rattle.sm_merge.specs.declared.effective.ShapeTraits.{ShapeTraits}
use Rattle.sm_merge.specs.steps.Counting.{AreSoundEntries}
use Rattle.sm_merge.proofs.SoundEntries.{none_sound, put_sound}
use Rattle.sm_merge.proofs.effective.no_traits.Goals as goal

pub loop-preserved : goal.loop-preserved
loop-preserved c =
    let none : ShapeTraits = record { own = c.new.result; copied = c.new-in-loop.result; members = c.new-in-loop-2.result } in
    record {
      size = ap length c.in_ok-push.ensures.items ∙ length-append c.loop.all.items (none ∷ []) ∙ ap (λ n. n + 1) c.loop.invariant.size;
      sound =
          subst AreSoundEntries (sym c.in_ok-push.ensures.items)
          (put_sound c.loop.all.items none c.loop.invariant.sound
          (none_sound c.new.result c.new-in-loop.result c.new-in-loop-2.result c.new.ensures.items c.new-in-loop.ensures.items
          c.new-in-loop-2.ensures.items));
    }
