use Rattle.std.proofs.Common.{ap, subst, sym, ◌∙◌, ◌++◌}
use Rattle.std.specs.List.{Contains}
use Rattle.sm_passes.proofs.services.steps_once.Goals as goal

pub returns : goal.returns
returns c b =
    let is =
    c.in_ok-extend_from_slice.ensures.items ∙ ap (λ ns. ns ++ c.row.result.now) c.new-steps.ensures.items ∙ c.row.ensures in (
      λ h. subst (λ ns. Contains ns b) is ((c.rising.ensures.same b).1 h),
      λ h. (c.rising.ensures.same b).0 (subst (λ ns. Contains ns b) (sym is) h),
    )
