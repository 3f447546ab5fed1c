use Rattle.std.proofs.Common.{sym, ◌∙◌}
use Rattle.sm_model.proofs.Worklist.{apart}
use Rattle.sm_compile.specs.steps.Naming.{texts_of_all}
use Rattle.sm_compile.proofs.Differing.{differ_told}
use Rattle.sm_compile.proofs.soundness.are_sound_names.Goals as goal

pub returns-then-texts_differ : goal.returns-then-texts_differ
returns-then-texts_differ c =
    let differ = (differ_told (texts_of_all c.args.names.json_names.items)).0 (sym c.texts_differ.ensures ∙ c.if-texts_differ.true) in
    (λ h. (c.have_form.ensures.0 h, differ), λ x. c.have_form.ensures.1 x.0)

pub returns-else-texts_differ : goal.returns-else-texts_differ
returns-else-texts_differ c = (
  λ h. absurd (apart h),
  λ x. absurd (apart (sym c.if-texts_differ.false ∙ c.texts_differ.ensures
      ∙ (differ_told (texts_of_all c.args.names.json_names.items)).1 x.1)),
)
