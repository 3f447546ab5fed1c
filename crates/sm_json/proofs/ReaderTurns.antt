-- One turn of the text reader behind others.
use Rattle.std.proofs.Common.{◌≤◌, ◌<◌, ◌+◌, ◌-◌, ℕ, List, [], ◌∷◌, length, take, drop, get_or, Ok, sym, subst, arith}
use Rattle.std.proofs.lemmas.List.{take_more, take_rest, length-drop}
use Rattle.std.proofs.Math.Seq.{take-add}
use Rattle.sm_json.specs.declared.text.TextReader.{TextReader}
use Rattle.sm_json.specs.declared.text.TextTaken.TheVariants.{Open as GoesOn}
use Rattle.sm_json.specs.steps.StringReading.{string_so_far, ReadsOn, StringTakesRun, StringTakesByte}
use Rattle.sm_json.proofs.Runs.{takes_then}

-- a byte
pub byte_on : (old mid new : TextReader) (at : ℕ) (bs : List ℕ) → at < length bs → ReadsOn old mid (take at bs)
    → ReadsOn mid new (get_or bs at 0 ∷ []) → ReadsOn old new (take (at + 1) bs)
byte_on old mid new at bs inside h k =
    subst (ReadsOn old new) (sym (take_more bs at 0 inside))
    (takes_then old.spot mid.spot new.spot (string_so_far old) (string_so_far mid) (string_so_far new) (take at bs)
    (get_or bs at 0 ∷ []) h k)

-- a byte, and a run behind it
pub turn_on : (old mid byted new : TextReader) (at n : ℕ) (bs : List ℕ) → at < length bs → ReadsOn old mid (take at bs)
    → StringTakesByte mid byted (get_or bs at 0) (Ok GoesOn)
    → StringTakesRun byted new (take (length bs - (at + 1)) (drop (at + 1) bs)) (Ok n)
    → (at + 1 + n ≤ length bs) × ReadsOn old new (take (at + 1 + n) bs)
turn_on old mid byted new at n bs inside h k l =
    let rest = take_rest bs (at + 1) in
    let few = subst (λ q. n ≤ length q) rest l.0 in
    let run = subst (λ q. ReadsOn byted new (take n q)) rest l.1 in (
      omega (arith, length-drop (at + 1) bs),
      subst (ReadsOn old new) (sym (take-add (at + 1) n bs))
          (takes_then old.spot byted.spot new.spot (string_so_far old) (string_so_far byted) (string_so_far new) (take (at + 1) bs)
          (take n (drop (at + 1) bs)) (byte_on old mid byted at bs inside h k) run),
    )
