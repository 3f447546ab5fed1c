use Rattle.std.proofs.Common.{◌≡◌, refl, sym, true, ◌∙◌}
use Rattle.std.specs.Prelude.{◌↔◌}
use Rattle.std.proofs.lemmas.Result.{IfOk-weaker}
use Rattle.sm_model.specs.Reaching.{IsMarked}
use Rattle.sm_model.proofs.Worklist.{apart}
use Rattle.sm_compile.specs.Sound.{IsSoundAt}
use Rattle.sm_compile.proofs.soundness.is_sound_where.Goals as goal

pub returns-then-marks-number : goal.returns-then-marks-number
returns-then-marks-number c =
    let g = c.args.graph.now in
    let k = c.args.number in
    let marks = c.args.marks.now in
    IfOk-weaker c.is_sound_shape.result (λ b. (b ≡ true) ↔ IsSoundAt g k) (λ b. (b ≡ true) ↔ (IsMarked marks k → IsSoundAt g k))
    (λ b told. (λ h m. told.0 h, λ f. told.1 (f c.if-marks-number.true))) c.is_sound_shape.ensures

pub returns-else-marks-number : goal.returns-else-marks-number
returns-else-marks-number c = (λ h m. absurd (apart (sym c.if-marks-number.false ∙ m)), λ f. refl)
