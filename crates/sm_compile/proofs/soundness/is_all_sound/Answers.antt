use Rattle.std.proofs.Common.{◌≡◌, [], ◌∷◌, length, subst, sym, true}
use Rattle.std.specs.Prelude.{◌↔◌}
use Rattle.std.proofs.lemmas.Result.{IfOk-weaker}
use Rattle.sm_model.specs.GraphView.{entries_of, maps_of}
use Rattle.sm_model.specs.Reaching.{AreMarks, id_of_number}
use Rattle.sm_compile.specs.Sound.{TellsSound}
use Rattle.sm_compile.specs.steps.Looked.{IsReachedFrom}
use Rattle.sm_compile.specs.steps.Soundness.{AreSoundBelow}
use Rattle.sm_compile.proofs.SoundShapes.{sound_told}
use Rattle.sm_compile.proofs.soundness.is_all_sound.Goals as goal

pub returns : goal.returns
returns c =
    let g = c.args.graph.now in
    let k = c.args.shape in
    let marks = c.as_slice.result.now in
    let are = subst (AreMarks (length (entries_of g)) (λ j. IsReachedFrom g (k ∷ []) (id_of_number g j))) (sym c.as_slice.ensures.value)
    c.in_ok-marks.ensures in
    IfOk-weaker c.all_sound.result (λ b. (b ≡ true) ↔ AreSoundBelow g marks (length marks)) (TellsSound (maps_of g) (id_of_number g k))
    (λ b told. sound_told g k marks b c.requires.number are told c.requires.value) c.all_sound.ensures
