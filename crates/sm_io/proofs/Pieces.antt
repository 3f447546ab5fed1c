-- Bytes that are given piece by piece through a buffer.
use Rattle.std.proofs.Common.{◌≡◌, ℕ, ◌+◌, ◌-◌, List, ◌++◌, length, take, drop, ◌∙◌, ap, sym}
use Rattle.std.proofs.Math.Seq.{take-append_seam}
use Rattle.std.proofs.lemmas.List.{take-append-drop, drop-drop}
use Rattle.sm_io.proofs.Told.{rest_cut}

-- what was copied to the start of a buffer stands there
at_start : (given behind : List ℕ) (count : ℕ) → length given ≡ count → take count (given ++ behind) ≡ given
at_start given behind count is = ap (λ n. take n (given ++ behind)) (sym is) ∙ take-append_seam given behind

-- the bytes left are what was moved to the start of the buffer, and the rest
pub moved : (bytes given behind : List ℕ) (at count : ℕ) → length given ≡ count
    → given ≡ take count (take (length bytes - at) (drop at bytes))
    → drop at bytes ≡ take count (given ++ behind) ++ drop (at + count) bytes
moved bytes given behind at count long is =
    let copied : take count (drop at bytes) ≡ take count (given ++ behind) = sym (rest_cut bytes at count) ∙ sym is
    ∙ sym (at_start given behind count long) in
    sym (take-append-drop count (drop at bytes)) ∙ ap (λ s. s ++ drop count (drop at bytes)) copied
    ∙ ap (λ s. take count (given ++ behind) ++ s) (drop-drop count at bytes)
