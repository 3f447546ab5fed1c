-- Bytes begin with at most one string (RFC 8259, section 7): they tell its text and what follows it.
use Rattle.std.proofs.Common.{◌≡◌, ◌<◌, ◌+◌, ◌*◌, ◌++◌, ℕ, zero, suc, Some, None, List, [], ◌∷◌, inl, inr, refl, sym, ap, ◌∙◌, subst}
use Rattle.std.proofs.Common.{arith, lit<}
use Rattle.std.specs.Char.{IsScalar, encode_utf8}
use Rattle.std.specs.Prelude.{encode_utf8_all}
use Rattle.std.proofs.lemmas.Str.{encode_same, encode_ascii}
use Rattle.sm_bytes.specs.Escapes.{short_escape, IsHigh, joined}
use Rattle.sm_json.specs.Strings.{IsUnescaped, HexDigits, CodeUnit, LowHalf, Escape, Character, Characters, SpellsText}
use Rattle.sm_json.proofs.Starts.{above, heads, tails, some_same}
use Rattle.sm_json.proofs.Units.{no_surrogate}

-- what digits make, and what follows them
one_number : (k n v w : ℕ) (s r q : List ℕ) → HexDigits k n v s r → HexDigits k n w s q → (v ≡ w) × (r ≡ q)
one_number zero n v w s r q h g = (h.0 ∙ sym g.0, sym h.1 ∙ g.1)
one_number (suc k) n v w [] r q h g = absurd h
one_number (suc k) n v w (c ∷ s) r q (d, e, h) (b, f, g) =
    one_number k (n * 16 + d) v w s r q h (subst (λ x. HexDigits k (n * 16 + x) w s q) (some_same b d (sym f ∙ e)) g)

-- a code unit
one_unit : (v w : ℕ) (s r q : List ℕ) → CodeUnit v s r → CodeUnit w s q → (v ≡ w) × (r ≡ q)
one_unit v w s r q (s1, e, h) (s2, f, g) =
    one_number 4 0 v w s1 r q h (subst (λ x. HexDigits 4 0 w x q) (tails 117 117 s2 s1 (sym f ∙ e)) g)

-- the low half of a surrogate pair, behind its high one
one_low : (high c d : ℕ) (s r q : List ℕ) → LowHalf high c s r → LowHalf high d s q → (c ≡ d) × (r ≡ q)
one_low high c d s r q (a, s1, e, u, is_low, j) (b, s2, f, v, is_low2, k) =
    let (same, rest) = one_unit a b s1 r q u (subst (λ x. CodeUnit b x q) (tails 92 92 s2 s1 (sym f ∙ e)) v) in
    (j ∙ ap (joined high) same ∙ sym k, rest)

-- both halves
one_pair : (a b c d : ℕ) (s s1 s2 r q : List ℕ) → CodeUnit a s s1 → LowHalf a c s1 r → CodeUnit b s s2 → LowHalf b d s2 q
    → (c ≡ d) × (r ≡ q)
one_pair a b c d s s1 s2 r q u h v g =
    let (same, rest) = one_unit b a s s2 s1 v u in
    one_low a c d s1 r q h (subst (λ x. LowHalf x d s1 q) same (subst (λ x. LowHalf b d x q) rest g))

-- an escape of one letter
one_short : (a b c d : ℕ) (s r q : List ℕ) → s ≡ a ∷ r → short_escape a ≡ Some c → s ≡ b ∷ q → short_escape b ≡ Some d → (c ≡ d) × (r ≡ q)
one_short a b c d s r q e h f g =
    (some_same c d (sym h ∙ ap short_escape (heads a b r q (sym e ∙ f)) ∙ g), tails a b r q (sym e ∙ f))

-- `u` is no such letter
short_no_unit : (a c v : ℕ) (s r q : List ℕ) → s ≡ a ∷ r → short_escape a ≡ Some c → CodeUnit v s q → ⊥
short_no_unit a c v s r q e h (s1, f, g) =
    let none : None ≡ Some c = ap short_escape (heads 117 a s1 r (sym f ∙ e)) ∙ h in cc

-- a high surrogate is no character by itself
unit_no_pair : (c high : ℕ) (s r q : List ℕ) → IsScalar c → CodeUnit c s r → CodeUnit high s q → IsHigh high → ⊥
unit_no_pair c high s r q k u v is_high =
    let (same, rest) = one_unit c high s r q u v in no_surrogate c k (omega arith) (omega arith)

-- what stands behind a backslash
one_escape : (c d : ℕ) (s r q : List ℕ) → IsScalar c → IsScalar d → Escape c s r → Escape d s q → (c ≡ d) × (r ≡ q)
one_escape c d s r q k l (inl (a, e, h)) (inl (b, f, g)) = one_short a b c d s r q e h f g
one_escape c d s r q k l (inl (a, e, h)) (inr (inl u)) = absurd (short_no_unit a c d s r q e h u)
one_escape c d s r q k l (inl (a, e, h)) (inr (inr (high, s1, u, is_high, low))) = absurd (short_no_unit a c high s r s1 e h u)
one_escape c d s r q k l (inr (inl u)) (inl (b, f, g)) = absurd (short_no_unit b d c s q r f g u)
one_escape c d s r q k l (inr (inl u)) (inr (inl v)) = one_unit c d s r q u v
one_escape c d s r q k l (inr (inl u)) (inr (inr (high, s1, v, is_high, low))) = absurd (unit_no_pair c high s r s1 k u v is_high)
one_escape c d s r q k l (inr (inr (high, s1, u, is_high, low))) (inl (b, f, g)) = absurd (short_no_unit b d high s q s1 f g u)
one_escape c d s r q k l (inr (inr (high, s1, u, is_high, low))) (inr (inl v)) = absurd (unit_no_pair d high s q s1 l v u is_high)
one_escape c d s r q k l (inr (inr (a, s1, u, is_high, low))) (inr (inr (b, s2, v, is_high2, low2))) =
    one_pair a b c d s s1 s2 r q u low v low2

-- an unescaped character begins with neither a backslash nor a quotation mark
raw_first : (c d : ℕ) (s r q : List ℕ) → d < 128 → s ≡ encode_utf8 c ++ r → s ≡ d ∷ q → c ≡ d
raw_first c d s r q small e f = (encode_same c d r q (sym e ∙ f ∙ ap (λ x. x ++ q) (sym (encode_ascii d small)))).0

-- so none is an escape
raw_no_escape : (c : ℕ) (s r q : List ℕ) → IsUnescaped c → s ≡ encode_utf8 c ++ r → s ≡ 92 ∷ q → ⊥
raw_no_escape c s r q plain e f = plain.2 (raw_first c 92 s r q (lit< tt) e f)

-- a character, in either form
one_character : (c d : ℕ) (s r q : List ℕ) → Character c s r → Character d s q → (c ≡ d) × (r ≡ q)
one_character c d s r q (k, inl (plain, e)) (l, inl (plain2, f)) = encode_same c d r q (sym e ∙ f)
one_character c d s r q (k, inl (plain, e)) (l, inr (s1, f, g)) = absurd (raw_no_escape c s r s1 plain e f)
one_character c d s r q (k, inr (s1, e, h)) (l, inl (plain, f)) = absurd (raw_no_escape d s q s1 plain f e)
one_character c d s r q (k, inr (s1, e, h)) (l, inr (s2, f, g)) =
    one_escape c d s1 r q k l h (subst (λ x. Escape d x q) (tails 92 92 s2 s1 (sym f ∙ e)) g)

-- the quotation mark at the end begins no character
no_character : (c : ℕ) (s r q : List ℕ) → Character c s r → s ≡ 34 ∷ q → ⊥
no_character c s r q (k, inl (plain, e)) f = plain.1 (raw_first c 34 s r q (lit< tt) e f)
no_character c s r q (k, inr (s1, e, h)) f = absurd (above 92 34 (lit< tt) (heads 92 34 s1 q (sym e ∙ f)))

-- the characters of a string up to its end
pub one_run : (cs ds s r q : List ℕ) → Characters cs s r → Characters ds s q → (cs ≡ ds) × (r ≡ q)
one_run [] [] s r q e f = (refl, tails 34 34 r q (sym e ∙ f))
one_run [] (d ∷ ds) s r q e (s1, h, hs) = absurd (no_character d s s1 r h e)
one_run (c ∷ cs) [] s r q (s1, h, hs) f = absurd (no_character c s s1 q h f)
one_run (c ∷ cs) (d ∷ ds) s r q (s1, h, hs) (s2, g, gs) =
    let (first, behind) = one_character c d s s1 s2 h g in
    let (more, rest) = one_run cs ds s1 r q hs (subst (λ x. Characters ds x q) (sym behind) gs) in
    (cc, rest)

-- a string
pub one_text : (t u s r q : List ℕ) → SpellsText t s r → SpellsText u s q → (t ≡ u) × (r ≡ q)
one_text t u s r q (cs, s1, e, o, h) (ds, s2, f, p, g) =
    let (same, rest) = one_run cs ds s1 r q h (subst (λ x. Characters ds x q) (tails 34 34 s2 s1 (sym p ∙ o)) g) in
    (e ∙ ap encode_utf8_all same ∙ sym f, rest)
