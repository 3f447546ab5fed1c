use Rattle.std.proofs.Common.{◌∷◌, refl, sym, ap, ◌∙◌, subst}
use Rattle.std.specs.List.Sorted.{IsPermutation}
use Rattle.std.specs.Map.{keys_of}
use Rattle.sm_codec.specs.MapView.{held_entries}
use Rattle.sm_codec.proofs.KeptKeys.{put_entries, put_keys}
use Rattle.sm_codec.proofs.frames.keys.KeyFrame.put.Goals as goal

pub returns-in-Ok : goal.returns-in-Ok
returns-in-Ok c =
    let key = c.args.key in
    let w = c.args.value in
    let es = c.args.self.now.keys.entries in
    let now = c.in-Ok.ensures.entries in (
      refl,
      ap held_entries now ∙ put_entries key w es c.insert.ensures.was_ordered c.requires.absent,
      subst (λ hs. IsPermutation (key ∷ keys_of es) (keys_of hs)) (sym now) (put_keys key w es c.requires.absent),
      refl,
      refl,
    )
