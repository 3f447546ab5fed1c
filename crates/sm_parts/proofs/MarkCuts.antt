-- Bytes cut at the first mark.
use Rattle.std.proofs.Common.{◌≡◌, ℕ, zero, suc, ◌+◌, ◌-◌, ◌<◌, ◌≤◌, List, [], ◌∷◌, ◌++◌, length, take, drop, Bool, true, false, refl, sym, ap}
use Rattle.std.proofs.Common.{◌∙◌, subst, length-drop, take_all, drop_of_length-le, arith}
use Rattle.std.specs.Prelude.{All, cond, not, nat_eq, get_or, Option, Some, None}
use Rattle.std.specs.List.{after_first, before_first, position_or_len, slice_split}
use Rattle.std.proofs.lemmas.Bool.Decides.{Decides-eqb}
use Rattle.std.proofs.lemmas.List.{get_or-take, take_rest}
use Rattle.std.proofs.lemmas.List.Elements.{All-cons, All-nil}
use Rattle.std.proofs.lemmas.List.Sums.{fails_before_first, passes_at_first, split_at_first}
use Rattle.std.proofs.lemmas.List.Splits.{slice_split_first, slice_split_none}
use denote.Ref.{Bor}
use Rattle.percent_encoding.specs.Percent.{percent_decode}
use Rattle.sm_bytes.specs.Ascii.{equals}
use Rattle.sm_parts.specs.Cuts.{IsCutBy, IsFirstPiece, IsWhole, bytes_behind, is_mark}
use Rattle.sm_parts.specs.Targets.{QueryPair, pair_of}

none_first : (p : ℕ → Bool) (b : ℕ) (bytes : List ℕ) (t : Bool) → p b ≡ t
    → cond (not t) (1 + position_or_len p bytes) 0 ≡ suc (length bytes) → (p b ≡ false) × (position_or_len p bytes ≡ length bytes)
none_first p b bytes true e n = absurd (omega arith)
none_first p b bytes false e n = (e, omega arith)

-- where the first that passes stands at the end, none passes
pub none_passes : (p : ℕ → Bool) (bytes : List ℕ) → position_or_len p bytes ≡ length bytes → All (λ b. p b ≡ false) bytes
none_passes p [] e = All-nil (λ b. p b ≡ false)
none_passes p (b ∷ bytes) e =
    let first = none_first p b bytes (p b) refl e in All-cons (λ b. p b ≡ false) b bytes first.0 (none_passes p bytes first.1)

-- none passes before the first that does
pub before_none : (p : ℕ → Bool) (bytes : List ℕ) → All (λ b. p b ≡ false) (before_first p bytes)
before_none p bytes = λ k d within.
    let n = position_or_len p bytes in
    let few : length (take n bytes) ≤ n = taken_length n bytes in
    let inside : k < n = omega (arith, within, few) in
    ap p (get_or-take n bytes k d inside) ∙ fails_before_first p bytes k d inside
  where
    taken_length : (n : ℕ) (u : List ℕ) → length (take n u) ≤ n
    taken_length zero u = omega arith
    taken_length (suc n) [] = omega arith
    taken_length (suc n) (b ∷ u) = omega (arith, taken_length n u)

-- no mark stands in the bytes
pub whole_cut : (mark : ℕ) (bytes : List ℕ) (len : ℕ) → len ≡ position_or_len (is_mark mark) bytes → len ≡ length bytes
    → IsWhole mark bytes bytes
whole_cut mark bytes len e all = record {
  all = refl;
  split = slice_split_none (is_mark mark) bytes (none_passes (is_mark mark) bytes (sym e ∙ all));
  before = take_all (position_or_len (is_mark mark) bytes) bytes (omega (arith, e, all));
  after = drop_of_length-le bytes (omega (arith, e, all));
  none = none_passes (is_mark mark) bytes (sym e ∙ all);
}

-- the mark that stands first
mark_there : (mark : ℕ) (bytes : List ℕ) → position_or_len (is_mark mark) bytes < length bytes
    → get_or bytes (position_or_len (is_mark mark) bytes) 0 ≡ mark
mark_there mark bytes h =
    (Decides-eqb (get_or bytes (position_or_len (is_mark mark) bytes) 0) mark).0 (passes_at_first (is_mark mark) bytes 0 h)

first_piece : (mark : ℕ) (bytes : List ℕ) → position_or_len (is_mark mark) bytes < length bytes
    → IsFirstPiece mark bytes (before_first (is_mark mark) bytes) (after_first (is_mark mark) bytes)
first_piece mark bytes h = record {
  all = split_at_first (is_mark mark) bytes 0 h
      ∙ ap (λ b. before_first (is_mark mark) bytes ++ b ∷ after_first (is_mark mark) bytes) (mark_there mark bytes h);
  split = slice_split_first (is_mark mark) bytes 0 h;
  before = refl;
  after = refl;
  none = before_none (is_mark mark) bytes;
  shorter = omega (arith, h, length-drop (position_or_len (is_mark mark) bytes + 1) bytes);
}

-- the same of slices as the code makes them
pub piece_cut : (mark : ℕ) (bytes : List ℕ) (len : ℕ) → len ≡ position_or_len (is_mark mark) bytes → len < length bytes
    → IsFirstPiece mark bytes (take len bytes) (take (length bytes - (len + 1)) (drop (len + 1) bytes))
piece_cut mark bytes len e h =
    subst (λ rest. IsFirstPiece mark bytes (take len bytes) rest) (sym (take_rest bytes (len + 1)))
    (subst (λ n. IsFirstPiece mark bytes (take n bytes) (drop (n + 1) bytes)) (sym e)
    (first_piece mark bytes (omega (arith, e, h))))

-- what stands on both sides of the first mark, in the words of lists
pub cut_before : (mark : ℕ) (bytes taken : List ℕ) (behind : Option (Bor (List ℕ))) → IsCutBy mark bytes taken behind
    → before_first (is_mark mark) bytes ≡ taken
cut_before mark bytes taken None h = h.before
cut_before mark bytes taken (Some behind) h = h.before

pub cut_behind : (mark : ℕ) (bytes taken : List ℕ) (behind : Option (Bor (List ℕ))) → IsCutBy mark bytes taken behind
    → after_first (is_mark mark) bytes ≡ bytes_behind behind
cut_behind mark bytes taken None h = h.after
cut_behind mark bytes taken (Some behind) h = h.after

pub pair_is : (piece taken key value : List ℕ) (behind : Option (Bor (List ℕ))) → IsCutBy equals piece taken behind
    → key ≡ percent_decode taken → value ≡ percent_decode (bytes_behind behind) → Path QueryPair (key, value) (pair_of piece)
pair_is piece taken key value behind h e f =
    let k = e ∙ sym (ap percent_decode (cut_before equals piece taken behind h)) in
    let v = f ∙ sym (ap percent_decode (cut_behind equals piece taken behind h)) in
    λ i. (k i, v i)
