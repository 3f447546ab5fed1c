-- Runs of ASCII bytes at the start of a text: where they end, and that a character ends there.
use Rattle.std.proofs.Common.{◌≡◌, inl, inr, ℕ, suc, ◌+◌, ◌<◌, Bool, true, false, cond, List, [], ◌∷◌, ◌++◌, length, take, drop, refl}
use Rattle.std.proofs.Common.{sym, ap, ◌∙◌, subst, arith}
use Rattle.std.proofs.Common.{arith}
use Rattle.std.specs.Prelude.{IsUtf8}
use Rattle.std.specs.Str.{IsCharBoundary}
use Rattle.std.specs.List.{list_all, prefix_len}
use Rattle.std.proofs.lemmas.Bool.Decides.{nat_tests}
use Rattle.std.proofs.lemmas.List.{take-append-drop}
use Rattle.std.proofs.lemmas.List.Folds.{length-prefix_len}
use Rattle.std.proofs.lemmas.List.Sums.{AllPass-from_list_all, list_all-from_AllPass}
use Rattle.std.proofs.lemmas.Str.{IsCharBoundary-after_ascii, IsCharBoundary-at_seam, IsUtf8-drop}
use Rattle.sm_bytes.proofs.Runs.{of_run}
use Rattle.sm_ids.specs.steps.Ahead.{EndsRun}
use Rattle.sm_ids.proofs.Cutting.{both, and_also, clash}
use Rattle.sm_select.specs.Tokens.{EndsWhite, SkipsWhite, GoesOnWithRun, begins_run, is_selector_white, is_run_byte}
use Rattle.sm_select.specs.SelectorText.{IsRun}
use Rattle.sm_select.specs.steps.Reader.{IsRunAt, begins_white, begins_a_run}
use Rattle.sm_select.proofs.WordBytes.{begin_is_run}

-- what is left behind ASCII bytes is whole characters
pub ascii_behind : (p : ℕ → Bool) → ((c : ℕ) → p c ≡ true → c < 128) → (a b : List ℕ) → list_all p a ≡ true → IsUtf8 (a ++ b) → IsUtf8 b
ascii_behind p small [] b h u = u
ascii_behind p small (c ∷ a) b h u =
    let k = both (p c) (list_all p a) h in
    ascii_behind p small a b k.1
    (IsUtf8-drop (c ∷ (a ++ b)) 1 u (IsCharBoundary-after_ascii (c ∷ (a ++ b)) 0 u (omega arith) (small c k.0)))

pub boundary : (p : ℕ → Bool) → ((c : ℕ) → p c ≡ true → c < 128) → (s a b : List ℕ) → s ≡ a ++ b → list_all p a ≡ true → IsUtf8 s
    → IsCharBoundary s (length a)
boundary p small s a b e h u = IsCharBoundary-at_seam s a b e (ascii_behind p small a b h (subst IsUtf8 e u))

pub prefix_all : (p : ℕ → Bool) (s : List ℕ) → list_all p (take (prefix_len p s) s) ≡ true
prefix_all p s = of_run p (λ t. list_all p t ≡ true) refl (λ c t h k. and_also (p c) (list_all p t) h k) s

ends_at : (p : ℕ → Bool) (c : ℕ) (s : List ℕ) → EndsRun p (drop (prefix_len p s) s) → (b : Bool) → p c ≡ b
    → EndsRun p (drop (cond b (1 + prefix_len p s) 0) (c ∷ s))
ends_at p c s rest true h =
    let next : suc (prefix_len p s) ≡ 1 + prefix_len p s = omega arith in subst (λ n. EndsRun p (drop n (c ∷ s))) next rest
ends_at p c s rest false h = h

pub prefix_ends : (p : ℕ → Bool) (s : List ℕ) → EndsRun p (drop (prefix_len p s) s)
prefix_ends p [] = tt
prefix_ends p (c ∷ s) = ends_at p c s (prefix_ends p s) (p c) refl

pub prefix_cut : (p : ℕ → Bool) (s : List ℕ) → s ≡ take (prefix_len p s) s ++ drop (prefix_len p s) s
prefix_cut p s = sym (take-append-drop (prefix_len p s) s)

pub white_ascii : (c : ℕ) → is_selector_white c ≡ true → c < 128
white_ascii c h = grind (arith, nat_tests)

pub run_ascii : (c : ℕ) → is_run_byte c ≡ true → c < 128
run_ascii c h = grind (arith, nat_tests)

pub white_prefix : (s : List ℕ) → SkipsWhite s (drop (prefix_len is_selector_white s) s)
white_prefix s = (
  take (prefix_len is_selector_white s) s,
  prefix_cut is_selector_white s,
  AllPass-from_list_all is_selector_white (take (prefix_len is_selector_white s) s) (prefix_all is_selector_white s),
)

dark_of_run : (s : List ℕ) → EndsRun is_selector_white s → EndsWhite s
dark_of_run [] h = tt
dark_of_run (c ∷ s) h = h

pub dark_behind : (s : List ℕ) → EndsWhite (drop (prefix_len is_selector_white s) s)
dark_behind s = dark_of_run (drop (prefix_len is_selector_white s) s) (prefix_ends is_selector_white s)

pub prefix_boundary : (p : ℕ → Bool) → ((c : ℕ) → p c ≡ true → c < 128) → (s : List ℕ) → IsUtf8 s → IsCharBoundary s (prefix_len p s)
prefix_boundary p small s u = subst (IsCharBoundary s) (length-prefix_len p s)
    (boundary p small s (take (prefix_len p s) s) (drop (prefix_len p s) s) (prefix_cut p s) (prefix_all p s) u)

-- the same as tests
pub dark_test : (s : List ℕ) → begins_white (drop (prefix_len is_selector_white s) s) ≡ false
dark_test s = as_test (drop (prefix_len is_selector_white s) s) (dark_behind s)
  where
    as_test : (t : List ℕ) → EndsWhite t → begins_white t ≡ false
    as_test [] h = refl
    as_test (c ∷ t) h = h

pub dark_now : (s : List ℕ) → begins_white s ≡ false → EndsWhite s
dark_now [] h = tt
dark_now (c ∷ s) h = h

pub white_boundary : (s : List ℕ) → IsUtf8 s → IsCharBoundary s (prefix_len is_selector_white s)
white_boundary s u = prefix_boundary is_selector_white white_ascii s u

pub run_boundary : (s : List ℕ) → IsUtf8 s → IsCharBoundary s (prefix_len is_run_byte s)
run_boundary s u = prefix_boundary is_run_byte run_ascii s u

-- a run that stands first
no_run_goes_on : (s : List ℕ) → EndsRun is_run_byte s → GoesOnWithRun s → ⊥
no_run_goes_on [] h g = g
no_run_goes_on (c ∷ s) h g = clash (is_run_byte c) g h

run_of : (c : ℕ) (s : List ℕ) → begins_run c ≡ true → (n : ℕ) → n ≡ prefix_len is_run_byte s + 1
    → IsRun (take n (c ∷ s)) (c ∷ s) (drop n (c ∷ s))
run_of c s h n e =
    let k : n ≡ suc (prefix_len is_run_byte s) = omega arith in
    subst (λ m. IsRun (take m (c ∷ s)) (c ∷ s) (drop m (c ∷ s))) (sym k)
    (record {
      first = c;
      more = take (prefix_len is_run_byte s) s;
      is = refl;
      begins = h;
      goes_on = AllPass-from_list_all is_run_byte (take (prefix_len is_run_byte s) s) (prefix_all is_run_byte s);
      spelled = ap (λ x. c ∷ x) (prefix_cut is_run_byte s);
      ends = no_run_goes_on (drop (prefix_len is_run_byte s) s) (prefix_ends is_run_byte s);
    })

pub run_found : (s : List ℕ) → begins_a_run s ≡ true → IsRunAt s (take (prefix_len is_run_byte s) s)
run_found [] h = absurd (let e : false ≡ true = h in cc)
run_found (c ∷ s) h =
    let counted : prefix_len is_run_byte (c ∷ s) ≡ 1 + prefix_len is_run_byte s =
    ap (λ b. cond b (1 + prefix_len is_run_byte s) 0) (begin_is_run c h) in
    inr (drop (prefix_len is_run_byte (c ∷ s)) (c ∷ s), run_of c s h (prefix_len is_run_byte (c ∷ s)) (counted ∙ omega arith))

pub no_run_found : (s : List ℕ) → begins_a_run s ≡ false → IsRunAt s []
no_run_found [] h = inl (tt, refl)
no_run_found (c ∷ s) h = inl (h, refl)

-- the end of a run is the end of a character
pub word_boundary : (s w : List ℕ) → IsRunAt s w → IsUtf8 s → IsCharBoundary s (length w)
word_boundary s w (inl (none, e)) u = subst (λ x. IsCharBoundary s (length x)) (sym e) (boundary is_run_byte run_ascii s [] s refl refl u)
word_boundary s w (inr (behind, r)) u = boundary is_run_byte run_ascii s w behind r.spelled
    (subst (λ x. list_all is_run_byte x ≡ true) (sym r.is)
    (and_also (is_run_byte r.first) (list_all is_run_byte r.more) (begin_is_run r.first r.begins)
    (list_all-from_AllPass is_run_byte r.more r.goes_on)))
    u
