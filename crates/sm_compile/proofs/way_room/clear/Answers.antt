use Rattle.std.proofs.Common.{ℕ, subst, sym}
use Rattle.std.specs.Prelude.{◌↔◌}
use Rattle.std.specs.List.{Contains}
use Rattle.sm_model.specs.Reaching.{IsMarked}
use Rattle.sm_compile.proofs.way_room.clear.Goals as goal

pub unmark_all-requires : goal.unmark_all-requires
unmark_all-requires c =
    subst (λ ns. (k : ℕ) → Contains ns k ↔ IsMarked c.args.walk.now.marks.items k) (sym c.as_slice.ensures.value)
    (λ k. ((c.requires.marked k).1, (c.requires.marked k).0))
