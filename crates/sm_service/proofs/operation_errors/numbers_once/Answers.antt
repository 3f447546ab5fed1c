use Rattle.std.proofs.Common.{false, replicate, ap, sym, subst, ◌∙◌}
use Rattle.std.specs.List.{Contains}
use Rattle.sm_service.proofs.operation_errors.numbers_once.Goals as goal

pub unmark_all-requires : goal.unmark_all-requires
unmark_all-requires c k =
    let found = c.in-Ok.ensures.found in (
      λ h. (found.marked k).1 (subst (λ ns. Contains ns k) c.as_slice.ensures.value h),
      λ h. subst (λ ns. Contains ns k) (sym c.as_slice.ensures.value) ((found.marked k).0 h),
    )

pub returns-clause-marks : goal.returns-clause-marks
returns-clause-marks c = c.unmark_all.ensures ∙ ap (λ n. replicate n false) c.in-Ok.ensures.count

pub returns-clause-named : goal.returns-clause-named
returns-clause-named c = c.in-Ok.ensures.named
