-- Where the run of a line's text ends, and what that says of the line.
use Rattle.std.proofs.Common.{◌≡◌, ℕ, ◌+◌, ◌<◌, Bool, true, false, List, ◌∷◌, ◌++◌, length, take, drop, get_or, refl, sym, ap, ◌∙◌, subst}
use Rattle.std.proofs.Common.{arith, append_assoc, inl, inr}
use Rattle.std.proofs.lemmas.List.{take-append-drop, drop_more, drop_all, take_all}
use Rattle.std.proofs.lemmas.List.Elements.{All-cons, All-nil}
use Rattle.std.proofs.lemmas.List.Sums.{prefix_len_stops}
use Rattle.std.specs.List.{prefix_len}
use Rattle.httparse.specs.Grammar.{is_extension_byte, AllPass}
use Rattle.httparse.proofs.RunLemmas.{run_unique}
use Rattle.sm_bytes.proofs.Runs.{of_run}
use Rattle.sm_http.specs.declared.line.SeenLine.TheVariants.{Whole, Part, Never}
use Rattle.sm_http.specs.steps.Lines.{ReadsLine, SeesLine}

-- the bytes of a run pass, and the byte behind it doesn't
pub run_passes : (p : ℕ → Bool) (xs : List ℕ) (n : ℕ) → n ≡ prefix_len p xs → AllPass p (take n xs)
run_passes p xs n e =
    subst (λ k. AllPass p (take k xs)) (sym e)
    (of_run p (λ s. AllPass p s) (All-nil (λ b. p b ≡ true)) (λ c s h rest. All-cons (λ b. p b ≡ true) c s h rest) xs)

pub run_stops : (p : ℕ → Bool) (xs : List ℕ) (n : ℕ) → n ≡ prefix_len p xs → n < length xs → p (get_or xs n 0) ≡ false
run_stops p xs n e inside = subst (λ k. k < length xs → p (get_or xs k 0) ≡ false) (sym e) (prefix_len_stops p xs 0) inside

pub same_first : (a b : ℕ) (x y : List ℕ) → a ∷ x ≡ b ∷ y → a ≡ b
same_first a b x y e = cc

pub same_rest : (a b : ℕ) (x y : List ℕ) → a ∷ x ≡ b ∷ y → x ≡ y
same_rest a b x y e = cc

cut_at : (xs : List ℕ) (n : ℕ) → n < length xs → xs ≡ take n xs ++ get_or xs n 0 ∷ drop (n + 1) xs
cut_at xs n inside = sym (take-append-drop n xs) ∙ ap (λ r. take n xs ++ r) (drop_more xs n 0 inside)

-- where the run ends, a line would go on with CR LF
goes_on : (bytes : List ℕ) (n : ℕ) → n ≡ prefix_len is_extension_byte bytes → n < length bytes → (more text rest : List ℕ)
    → ReadsLine (bytes ++ more) text rest → get_or bytes n 0 ∷ (drop (n + 1) bytes ++ more) ≡ 13 ∷ 10 ∷ rest
goes_on bytes n e inside more text rest line =
    let both = sym (append_assoc (take n bytes) (get_or bytes n 0 ∷ drop (n + 1) bytes) more)
    ∙ ap (λ x. x ++ more) (sym (cut_at bytes n inside)) ∙ line.reads in
    let same = run_unique is_extension_byte (take n bytes) text (get_or bytes n 0 ∷ (drop (n + 1) bytes ++ more)) (13 ∷ 10 ∷ rest)
    (run_passes is_extension_byte bytes n e) line.passes (run_stops is_extension_byte bytes n e inside) refl both in
    same.1

pub all_text : (bytes : List ℕ) (n : ℕ) → n ≡ prefix_len is_extension_byte bytes → n ≡ length bytes → SeesLine bytes (Part n)
all_text bytes n e all = (
  omega arith,
  record { passes = run_passes is_extension_byte bytes n e; is = inl (sym (take_all n bytes (omega arith))) },
)

pub no_return : (bytes : List ℕ) (n : ℕ) → n ≡ prefix_len is_extension_byte bytes → n < length bytes
    → (get_or bytes n 0 ≡ 13 → ⊥) → SeesLine bytes Never
no_return bytes n e inside other more text rest line =
    other (same_first (get_or bytes n 0) 13 (drop (n + 1) bytes ++ more) (10 ∷ rest) (goes_on bytes n e inside more text rest line))

pub return_last : (bytes : List ℕ) (n : ℕ) → n ≡ prefix_len is_extension_byte bytes → n + 1 ≡ length bytes
    → get_or bytes n 0 ≡ 13 → SeesLine bytes (Part n)
return_last bytes n e all first = (
  omega arith,
  record {
    passes = run_passes is_extension_byte bytes n e;
    is = inr (cut_at bytes n (omega arith) ∙ ap (λ b. take n bytes ++ b ∷ drop (n + 1) bytes) first
        ∙ ap (λ r. take n bytes ++ 13 ∷ r) (drop_all (n + 1) bytes (omega arith)));
  },
)

behind_return : (bytes : List ℕ) (n : ℕ) → n + 1 < length bytes → drop (n + 1) bytes ≡ get_or bytes (n + 1) 0 ∷ drop (n + 2) bytes
behind_return bytes n inside =
    let next : n + 1 + 1 ≡ n + 2 = omega arith in
    drop_more bytes (n + 1) 0 inside ∙ ap (λ k. get_or bytes (n + 1) 0 ∷ drop k bytes) next

pub no_feed : (bytes : List ℕ) (n : ℕ) → n ≡ prefix_len is_extension_byte bytes → n + 1 < length bytes
    → (get_or bytes (n + 1) 0 ≡ 10 → ⊥) → SeesLine bytes Never
no_feed bytes n e inside other more text rest line =
    let behind = same_rest (get_or bytes n 0) 13 (drop (n + 1) bytes ++ more) (10 ∷ rest)
    (goes_on bytes n e (omega arith) more text rest line) in
    other (same_first (get_or bytes (n + 1) 0) 10 (drop (n + 2) bytes ++ more) rest
    (sym (ap (λ r. r ++ more) (behind_return bytes n inside)) ∙ behind))

pub whole_line : (bytes : List ℕ) (n : ℕ) → n ≡ prefix_len is_extension_byte bytes → n + 1 < length bytes
    → get_or bytes n 0 ≡ 13 → get_or bytes (n + 1) 0 ≡ 10 → SeesLine bytes (Whole n)
whole_line bytes n e inside first second = (
  omega arith,
  record {
    passes = run_passes is_extension_byte bytes n e;
    reads = cut_at bytes n (omega arith) ∙ ap (λ b. take n bytes ++ b ∷ drop (n + 1) bytes) first
        ∙ ap (λ r. take n bytes ++ 13 ∷ r) (behind_return bytes n inside)
        ∙ ap (λ b. take n bytes ++ 13 ∷ b ∷ drop (n + 2) bytes) second;
  },
)
