-- Bytes held in room: some used at its start, and others put behind them.
use Rattle.std.proofs.Common.{◌≡◌, ℕ, ◌+◌, ◌-◌, ◌≤◌, List, ◌++◌, length, take, drop, slice_range, sym, ap, ◌∙◌, arith, le_refl, drop_at}
use Rattle.std.proofs.Common.{length-take-le, Option, Result, Ok, Err}
use Rattle.std.proofs.lemmas.List.{drop-take, drop-drop, take-append-le, length-take, length-drop}
use Rattle.std.proofs.lemmas.Slice.{take-put_mid_below}
use Rattle.std.specs.Io.{ReadsAtMost}
use borrow.Rule.Slice.PartMut.{put_mid, post_of}
use lib.Seq.{take-add}
use Rattle.sm_io.specs.declared.source.Failed.{Failed as Fault}
use Rattle.sm_io.specs.Reading.{TakesBytes}
use Rattle.sm_http.specs.steps.Holding.{FillsRoom}

-- a part without its first bytes
pub used_of_part : (xs : List ℕ) (at end n : ℕ) → n ≤ length (slice_range xs at end)
    → slice_range xs (at + n) end ≡ drop n (slice_range xs at end)
used_of_part xs at end n few =
    let long = length-take (end - at) (drop at xs) in
    let rest = length-drop at xs in
    let parts : end - at ≡ n + (end - (at + n)) = omega arith in
    ap (take (end - (at + n))) (sym (drop-drop n at xs)) ∙ sym (drop-take n (end - (at + n)) (drop at xs))
    ∙ ap (λ k. drop n (take k (drop at xs))) (sym parts)

put_behind : (used k n : ℕ) (room buffer : List ℕ) → used ≤ length room → n ≤ length buffer
    → take (used + n) (put_mid used k room buffer) ≡ take used room ++ take n buffer
put_behind used k n room buffer within fits =
    let after = post_of used k room in
    let front = take-put_mid_below used k room buffer used (le_refl used) within in
    let back = ap (take n) (drop_at (take used room) (buffer ++ after) used (length-take-le used room within))
    ∙ take-append-le n buffer after fits in
    take-add used n (put_mid used k room buffer) ∙ ap (λ l. l ++ take n (drop used (put_mid used k room buffer))) front
    ∙ ap (λ l. take used room ++ l) back

pub room_filled : (left rest : Option (List ℕ)) (used k : ℕ) (room buffer : List ℕ) (result : Result ℕ Fault) → used ≤ length room
    → ReadsAtMost result buffer → TakesBytes left rest buffer result → FillsRoom left rest used room (put_mid used k room buffer) result
room_filled left rest used k room buffer (Ok count) within few takes =
    (take count buffer, takes.0, put_behind used k count room buffer within few.0, length-take-le count buffer few.0, takes.1)
room_filled left rest used k room buffer (Err fault) within few takes =
    (takes, take-put_mid_below used k room buffer used (le_refl used) within)
