-- The written text of a string spells it: through its characters, since the bytes from 128 on stand for
-- themselves and no other byte of a longer character comes.
use Rattle.std.proofs.Common.{◌≡◌, ℕ, suc, ◌+◌, ◌/◌, ◌%◌, ◌<◌, ◌≤◌, ◌≢◌, ◌==◌, true, cond, nat_lt, List, [], ◌∷◌, ◌++◌, length, get_or}
use Rattle.std.proofs.Common.{Some, codes, IsUtf8, inl, inr, refl, sym, ap, ap₂, ◌∙◌, subst, arith, append_assoc, append-nil, ltb-true}
use Rattle.std.proofs.Common.{ltb-false, eqb-true, ne_eqb, le-leb, lt-ltb, le-ltb}
use Rattle.std.proofs.lemmas.Bool.{eqb-false, and_from, and_right, and_parts, cases_lt, cond-true, cond-false, cond_both, lt-leb}
use Rattle.std.proofs.lemmas.Str.{encode_ascii, inside_one}
use lib.Utf8.{scalar, scalars, encode, encodes, low_scalar}
use Rattle.sm_bytes.specs.Escapes.{short_escape, hex_value}
use Rattle.sm_json.specs.Strings.{HexDigits, Character, Characters, SpellsText}
use Rattle.sm_json.specs.Written.{hex_digit, written_byte, written_bytes, written_text}

pub written_bytes_append : (xs ys : List ℕ) → written_bytes (xs ++ ys) ≡ written_bytes xs ++ written_bytes ys
written_bytes_append [] ys = refl
written_bytes_append (x ∷ xs) ys = ap (λ l. written_byte x ++ l) (written_bytes_append xs ys) ∙ sym (append_assoc (written_byte x) _ _)

-- a digit is read back as its value
digit_value_back : (d : ℕ) → d < 16 → hex_value (hex_digit d) ≡ Some d
digit_value_back d small = elim (cases_lt d 10) [
  | inl low ↦
      ap hex_value (cond-true _ _ _ (lt-ltb d 10 low))
      ∙ cond-true _ _ _ (and_from _ _ (le-leb 48 (48 + d) (omega arith)) (le-leb (48 + d) 57 (omega arith)))
      ∙ ap Some (omega arith)
  | inr high ↦
      ap hex_value (cond-false _ _ _ (le-ltb d 10 high))
      ∙ cond-false _ _ _ (and_right _ _ (lt-leb (87 + d) 57 (omega arith)))
      ∙ cond-false _ _ _ (and_right _ _ (lt-leb (87 + d) 70 (omega arith)))
      ∙ cond-true _ _ _ (and_from _ _ (le-leb 97 (87 + d) (omega arith)) (le-leb (87 + d) 102 (omega arith)))
      ∙ ap Some (omega arith)
]

control_digits : (c : ℕ) (s : List ℕ) → c < 32 → HexDigits 4 0 c (48 ∷ 48 ∷ hex_digit (c / 16) ∷ hex_digit (c % 16) ∷ s) s
control_digits c s small = (
  0,
  refl,
  (
    0,
    refl,
    (
      c / 16,
      digit_value_back (c / 16) (omega arith),
      (c % 16, digit_value_back (c % 16) (omega arith), (omega arith, refl)),
    ),
  ),
)

-- x, followed by s, begins with the character c
abbrev Spelt : ℕ → List ℕ → List ℕ → Type 0
Spelt c s x = Character c (x ++ s) s

short : (c e : ℕ) (s : List ℕ) → scalar c ≡ true → short_escape e ≡ Some c → Spelt c s (92 ∷ e ∷ [])
short c e s is_scalar means = (is_scalar, inr (e ∷ s, refl, inl (e, refl, means)))

-- with the digits of a control character, and else as it is
long : (c : ℕ) (s : List ℕ) → c < 128 → c ≢ 34 → c ≢ 92
    → Spelt c s (cond (nat_lt c 32) (codes "\\u00" ++ hex_digit (c / 16) ∷ hex_digit (c % 16) ∷ []) (c ∷ []))
long c s ascii not_quote not_backslash =
    cond_both (nat_lt c 32) _ _ (Spelt c s)
    (λ e. (low_scalar c (omega arith), inr (_, refl, inr (inl (_, refl, control_digits c s (ltb-true c 32 e))))))
    (λ e. (low_scalar c (omega arith), inl ((ltb-false c 32 e, not_quote, not_backslash), ap (λ l. l ++ s) (sym (encode_ascii c ascii)))))

-- where c is the byte k, a short escape of k serves
short_of : (c k e : ℕ) (s : List ℕ) → (c == k) ≡ true → scalar k ≡ true → short_escape e ≡ Some k → Spelt c s (92 ∷ e ∷ [])
short_of c k e s is is_scalar means = subst (λ b. Spelt b s (92 ∷ e ∷ [])) (sym (eqb-true c k is)) (short k e s is_scalar means)

ascii_spelt : (c : ℕ) (s : List ℕ) → c < 128 → Spelt c s (written_byte c)
ascii_spelt c s ascii =
    cond_both (c == 34) _ _ (Spelt c s) (λ e. short_of c 34 34 s e refl refl)
    (λ quote. cond_both (c == 92) _ _ (Spelt c s) (λ e. short_of c 92 92 s e refl refl)
    (λ backslash. cond_both (c == 8) _ _ (Spelt c s) (λ e. short_of c 8 98 s e refl refl)
    (λ _. cond_both (c == 12) _ _ (Spelt c s) (λ e. short_of c 12 102 s e refl refl)
    (λ _. cond_both (c == 10) _ _ (Spelt c s) (λ e. short_of c 10 110 s e refl refl)
    (λ _. cond_both (c == 13) _ _ (Spelt c s) (λ e. short_of c 13 114 s e refl refl)
    (λ _. cond_both (c == 9) _ _ (Spelt c s) (λ e. short_of c 9 116 s e refl refl)
    (λ _. long c s ascii (eqb-false c 34 quote) (eqb-false c 92 backslash))))))))

-- a byte that isn't escaped stands for itself
pub plain_byte : (b : ℕ) → 32 ≤ b → b ≢ 34 → b ≢ 92 → written_byte b ≡ b ∷ []
plain_byte b printed not_quote not_backslash =
    cond-false _ _ _ (ne_eqb b 34 not_quote) ∙ cond-false _ _ _ (ne_eqb b 92 not_backslash)
    ∙ cond-false _ _ _ (ne_eqb b 8 (λ e. omega arith)) ∙ cond-false _ _ _ (ne_eqb b 12 (λ e. omega arith))
    ∙ cond-false _ _ _ (ne_eqb b 10 (λ e. omega arith)) ∙ cond-false _ _ _ (ne_eqb b 13 (λ e. omega arith))
    ∙ cond-false _ _ _ (ne_eqb b 9 (λ e. omega arith)) ∙ cond-false _ _ _ (le-ltb b 32 printed)

high_bytes : (bs : List ℕ) → ((k : ℕ) → k < length bs → 128 ≤ get_or bs k 0) → written_bytes bs ≡ bs
high_bytes [] high = refl
high_bytes (b ∷ bs) high =
    ap₂ (λ (x y : List ℕ). x ++ y) (plain_byte b (omega (arith, high 0 (omega arith))) (λ e. omega (arith, high 0 (omega arith)))
    (λ e. omega (arith, high 0 (omega arith)))) (high_bytes bs (λ k below. high (suc k) (omega arith)))

-- each byte of a longer character is such a byte
long_character : (c : ℕ) → 128 ≤ c → written_bytes (encode c) ≡ encode c
long_character c long_one = high_bytes (encode c) (λ k below. elim (cases_lt (get_or (encode c) k 0) 128) [
  | inl low ↦ absurd (omega (arith, inside_one c [] (encode c) k (sym (append-nil _)) below low))
  | inr high ↦ high
])

character_spelt : (c : ℕ) (s : List ℕ) → scalar c ≡ true → Spelt c s (written_bytes (encode c))
character_spelt c s is_scalar = elim (cases_lt c 128) [
  | inl ascii ↦
      subst (λ bs. Spelt c s (written_bytes bs)) (sym (encode_ascii c ascii))
      (subst (Spelt c s) (sym (append-nil (written_byte c))) (ascii_spelt c s ascii))
  | inr high ↦
      subst (Spelt c s) (sym (long_character c high))
      (is_scalar, inl ((omega arith, (λ e. omega arith), (λ e. omega arith)), refl))
]

characters_spelt : (cs r : List ℕ) → scalars cs ≡ true → Characters cs (written_bytes (encodes cs) ++ 34 ∷ r) r
characters_spelt [] r are_scalars = refl
characters_spelt (c ∷ cs) r are_scalars =
    let each = and_parts _ _ are_scalars in
    let rest : List ℕ = written_bytes (encodes cs) ++ 34 ∷ r in
    let split : written_bytes (encode c ++ encodes cs) ++ 34 ∷ r ≡ written_bytes (encode c) ++ rest
    = ap (λ l. l ++ 34 ∷ r) (written_bytes_append (encode c) (encodes cs)) ∙ append_assoc (written_bytes (encode c)) _ _ in
    (rest, subst (λ l. Character c l rest) (sym split) (character_spelt c rest each.0), characters_spelt cs r each.1)

-- the written text of a string begins with a spelling of it, and what follows is left
pub text_spelt : (t r : List ℕ) → IsUtf8 t → SpellsText t (written_text t ++ r) r
text_spelt t r utf8 = (
  utf8.0,
  _,
  sym utf8.1.1,
  refl,
  subst (λ l. Characters utf8.0 l r) (sym (append_assoc (written_bytes t) (34 ∷ []) r))
      (subst (λ u. Characters utf8.0 (written_bytes u ++ 34 ∷ r) r) utf8.1.1 (characters_spelt utf8.0 r utf8.1.0)),
)
