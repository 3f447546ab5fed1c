-- Tokens of a JSON Pointer, letter by letter; how long a token and a decimal number are.
use Rattle.std.proofs.Common.{◌≡◌, ◌≢◌, inl, inr, ℕ, ◌+◌, ◌/◌, ◌<◌, ◌≤◌, ◌^◌, ◌==◌, ◌||◌, cond, List, [], ◌∷◌, ◌++◌, length, get_or}
use Rattle.std.proofs.Common.{count_by, encode_utf8, refl, subst, sym, ap, ◌∙◌, arith, append-nil}
use Rattle.std.proofs.lemmas.Bool.{cases_eq}
use Rattle.std.proofs.lemmas.Grind.{common_steps}
use Rattle.std.proofs.lemmas.Str.{inside_one}
use Rattle.std.proofs.lemmas.Fmt.{length-decimal-le, decimal_nonempty, decimal-digits_of}
use Rattle.std.proofs.lemmas.List.{length-map}
use Rattle.std.proofs.lemmas.Int.Digits.{length-digits_of_step}
use Rattle.std.specs.Fmt.{decimal}
use Rattle.std.specs.Int.Digits.{digits_of}
use Rattle.sm_tree.specs.Pointer.{reference_token, replaced, TokenReadsBack, TokenHasNoSlash}

token-plain : (c : ℕ) (cs : List ℕ) → c ≢ 126 → c ≢ 47 → reference_token (c ∷ cs) ≡ c ∷ reference_token cs
token-plain c cs not_tilde not_slash = grind (arith, common_steps)

-- bytes without `~` and `/` stand for themselves
plain_run : (bs rest : List ℕ) → ((k : ℕ) → k < length bs → get_or bs k 0 ≢ 126) → ((k : ℕ) → k < length bs → get_or bs k 0 ≢ 47)
    → reference_token (bs ++ rest) ≡ bs ++ reference_token rest
plain_run [] rest no_tilde no_slash = refl
plain_run (b ∷ bs) rest no_tilde no_slash =
    let head_tilde : b ≢ 126 = no_tilde 0 (omega arith) in
    let head_slash : b ≢ 47 = no_slash 0 (omega arith) in
    let tail : reference_token (bs ++ rest) ≡ bs ++ reference_token rest =
    plain_run bs rest (λ k lt. grind (arith, common_steps, no_tilde (k + 1))) (λ k lt. grind (arith, common_steps, no_slash (k + 1))) in
    token-plain b (bs ++ rest) head_tilde head_slash ∙ ap (λ r. b ∷ r) tail

-- so does a letter that is neither
pub token-letter : (c : ℕ) (rest : List ℕ) → c ≢ 126 → c ≢ 47
    → reference_token (encode_utf8 c ++ rest) ≡ encode_utf8 c ++ reference_token rest
token-letter c rest not_tilde not_slash =
    let own : (k : ℕ) → k < length (encode_utf8 c) → get_or (encode_utf8 c) k 0 < 128
    → c ≡ get_or (encode_utf8 c) k 0 = λ k lt. inside_one c [] (encode_utf8 c) k (sym (append-nil (encode_utf8 c))) lt in
    plain_run (encode_utf8 c) rest
    (λ k lt is. not_tilde (own k lt (omega (arith, is)) ∙ is))
    (λ k lt is. not_slash (own k lt (omega (arith, is)) ∙ is))

-- each escape has one byte more
pub length-token : (t : List ℕ) → length (reference_token t) ≡ length t + count_by (λ b. (b == 126) || (b == 47)) t
length-token [] = refl
length-token (c ∷ cs) = let more = length-token cs in grind (arith, common_steps)

pub length-decimal-small : (n : ℕ) → n < 10 → length (decimal n) ≡ 1
length-decimal-small n small =
    let word : n < 2 ^ 64 = omega arith in
    omega (arith, length-decimal-le 1 n (omega arith) (omega arith) word, decimal_nonempty n word)

length-decimal-digits : (n : ℕ) → 0 < n → n < 2 ^ 64 → length (decimal n) ≡ length (digits_of 10 n)
length-decimal-digits n positive word = ap length (decimal-digits_of n positive word) ∙ length-map (digits_of 10 n) (λ d. 48 + d)

pub length-decimal-large : (n : ℕ) → 10 ≤ n → n < 2 ^ 64 → length (decimal n) ≡ length (decimal (n / 10)) + 1
length-decimal-large n large word =
    length-decimal-digits n (omega arith) word ∙ length-digits_of_step 10 n (omega arith) (omega arith)
    ∙ ap (λ k. k + 1) (sym (length-decimal-digits (n / 10) (omega arith) (omega arith)))

-- what isn't the first byte is passed over
replaced-other : (a b to c : ℕ) (s : List ℕ) → c ≢ a → replaced a b to (c ∷ s) ≡ c ∷ replaced a b to s
replaced-other a b to c [] other = refl
replaced-other a b to c (d ∷ s) other = grind (arith, common_steps)

-- a token after its first reading: `/` is back, and `~` is still `~0`
abbrev half_read : List ℕ → List ℕ
half_read [] = []
half_read (c ∷ cs) = cond (c == 126) (126 ∷ 48 ∷ half_read cs) (c ∷ half_read cs)

half_read-other : (c : ℕ) (cs : List ℕ) → c ≢ 126 → half_read (c ∷ cs) ≡ c ∷ half_read cs
half_read-other c cs other = grind (arith, common_steps)

half-read-token : (t : List ℕ) → replaced 126 49 47 (reference_token t) ≡ half_read t
half-read-token [] = refl
half-read-token (c ∷ cs) =
    let more : replaced 126 49 47 (reference_token cs) ≡ half_read cs = half-read-token cs in
    let G : ℕ → Type 0 = λ x. replaced 126 49 47 (reference_token (x ∷ cs)) ≡ half_read (x ∷ cs) in
    let tilde : G 126 = ap (λ r. 126 ∷ r) (replaced-other 126 49 47 48 (reference_token cs) (omega arith) ∙ ap (λ r. 48 ∷ r) more) in
    let slash : G 47 = ap (λ r. 47 ∷ r) more in
    elim (cases_eq c 126) [
      | inl is ↦ subst G (sym is) tilde
      | inr not_tilde ↦ elim (cases_eq c 47) [
        | inl is ↦ subst G (sym is) slash
        | inr not_slash ↦ ap (replaced 126 49 47) (token-plain c cs not_tilde not_slash)
            ∙ replaced-other 126 49 47 c (reference_token cs) not_tilde ∙ ap (λ r. c ∷ r) more ∙ sym (half_read-other c cs not_tilde)
      ]
    ]

read-half-read : (t : List ℕ) → replaced 126 48 126 (half_read t) ≡ t
read-half-read [] = refl
read-half-read (c ∷ cs) =
    let more : replaced 126 48 126 (half_read cs) ≡ cs = read-half-read cs in
    let G : ℕ → Type 0 = λ x. replaced 126 48 126 (half_read (x ∷ cs)) ≡ x ∷ cs in
    let tilde : G 126 = ap (λ r. 126 ∷ r) more in
    elim (cases_eq c 126) [
      | inl is ↦ subst G (sym is) tilde
      | inr other ↦ ap (replaced 126 48 126) (half_read-other c cs other) ∙ replaced-other 126 48 126 c (half_read cs) other
          ∙ ap (λ r. c ∷ r) more
    ]

pub reads_back : TokenReadsBack
reads_back name = ap (replaced 126 48 126) (half-read-token name) ∙ read-half-read name

-- no byte is `/`
abbrev NoSlash : List ℕ → Type 0
NoSlash [] = Unit {0}
NoSlash (c ∷ cs) = (c ≢ 47) × NoSlash cs

no_slash-more : (c : ℕ) (cs : List ℕ) → c ≢ 47 → NoSlash cs → NoSlash (c ∷ cs)
no_slash-more c cs other h = (other, h)

no_slash-token : (t : List ℕ) → NoSlash (reference_token t)
no_slash-token [] = tt
no_slash-token (c ∷ cs) =
    let more : NoSlash (reference_token cs) = no_slash-token cs in
    let G : ℕ → Type 0 = λ x. NoSlash (reference_token (x ∷ cs)) in
    let tilde : G 126 =
    no_slash-more 126 (48 ∷ reference_token cs) (omega arith) (no_slash-more 48 (reference_token cs) (omega arith) more) in
    let slash : G 47 =
    no_slash-more 126 (49 ∷ reference_token cs) (omega arith) (no_slash-more 49 (reference_token cs) (omega arith) more) in
    elim (cases_eq c 126) [
      | inl is ↦ subst G (sym is) tilde
      | inr not_tilde ↦ elim (cases_eq c 47) [
        | inl is ↦ subst G (sym is) slash
        | inr not_slash ↦ subst NoSlash (sym (token-plain c cs not_tilde not_slash)) (no_slash-more c (reference_token cs) not_slash more)
      ]
    ]

slash_inside : (before behind : List ℕ) → NoSlash (before ++ 47 ∷ behind) → ⊥
slash_inside [] behind h = h.0 refl
slash_inside (c ∷ before) behind h = slash_inside before behind h.1

pub has_no_slash : TokenHasNoSlash
has_no_slash name before behind e = slash_inside before behind (subst NoSlash e (no_slash-token name))
