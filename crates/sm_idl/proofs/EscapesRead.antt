-- Escapes of strings and text blocks: their bytes are ASCII, and each stands for a character.
use Rattle.std.proofs.Common.{◌≡◌, ℕ, ◌+◌, ◌-◌, ◌*◌, ◌≤◌, ◌<◌, ◌==◌, Bool, true, false, cond, List, [], ◌∷◌, length, get_or, drop}
use Rattle.std.proofs.Common.{Option, Some, None, refl, sym, ap, subst, arith, length-drop}
use Rattle.std.specs.Prelude.{codes, nat_lt}
use Rattle.std.specs.Char.{IsScalar}
use Rattle.std.proofs.lemmas.Bool.Decides.{nat_tests}
use Rattle.std.proofs.lemmas.List.{get_or-drop}
use lib.Utf8.{low_scalar}
use Rattle.sm_bytes.proofs.Characters.{high_scalar}
use Rattle.sm_bytes.specs.Ascii.{quote, backslash, slash, small_b, small_f, small_n, small_r, small_t, small_u, backspace, form_feed}
use Rattle.sm_bytes.specs.Ascii.{line_feed, carriage_return, tab}
use Rattle.sm_bytes.specs.Escapes.{short_escape, hex_value, joined}
use Rattle.sm_lex.specs.declared.escape.Escape.{Escape}
use Rattle.sm_lex.specs.Bytes.{opens_with}
use Rattle.sm_lex.specs.Escapes.{is_high, is_low, with_digit, behind_digits, code_unit, low_half, pair, unit, short, escape}

none_some : {X : Type 0} (x : X) → None ≡ Some x → ⊥
none_some x e = cc

same_some : {X : Type 0} (x y : X) → Some x ≡ Some y → x ≡ y
same_some x y e = cc

-- an answer behind a test
taken : {X : Type 0} (b : Bool) (o : Option X) (x : X) → cond b o None ≡ Some x → (b ≡ true) × (o ≡ Some x)
taken true o x e = (refl, e)
taken false o x e = absurd (none_some x e)

-- one letter of several
letter : (e q v c : ℕ) (rest : Option ℕ) → q < 128 → v < 128 → (rest ≡ Some c → (e < 128) × (c < 128))
    → cond (e == q) (Some v) rest ≡ Some c
    → (e < 128) × (c < 128)
letter e q v c rest low small more h = by_test (e == q) refl h
  where
    by_test : (b : Bool) → (e == q) ≡ b → cond b (Some v) rest ≡ Some c → (e < 128) × (c < 128)
    by_test true is k =
        let same : e ≡ q = grind (arith, nat_tests) in
        let made : v ≡ c = same_some v c k in
        (omega arith, omega arith)
    by_test false is k = more k

short_fine : (e c : ℕ) → short_escape e ≡ Some c → (e < 128) × (c < 128)
short_fine e c h =
    letter e quote quote c _ (omega arith) (omega arith)
    (letter e backslash backslash c _ (omega arith) (omega arith)
    (letter e slash slash c _ (omega arith) (omega arith)
    (letter e small_b backspace c _ (omega arith) (omega arith)
    (letter e small_f form_feed c _ (omega arith) (omega arith)
    (letter e small_n line_feed c _ (omega arith) (omega arith)
    (letter e small_r carriage_return c _ (omega arith) (omega arith)
    (letter e small_t tab c None (omega arith) (omega arith) (λ k. absurd (none_some c k))))))))) h

hex_ascii : (x d : ℕ) → hex_value x ≡ Some d → x < 128
hex_ascii x d e = grind (arith, nat_tests)

hex_small : (x d : ℕ) → hex_value x ≡ Some d → d < 16
hex_small x d e = grind (arith, nat_tests)

-- one digit more
digit : (o : Option ℕ) (c v : ℕ) → behind_digits o c ≡ Some v → (n d : ℕ) × (o ≡ Some n) × (hex_value c ≡ Some d) × (n * 16 + d ≡ v)
digit None c v h = absurd (none_some v h)
digit (Some n) c v h = by_digit (hex_value c) refl h
  where
    by_digit : (o : Option ℕ) → hex_value c ≡ o → with_digit n o ≡ Some v
        → (m d : ℕ) × (Some n ≡ Some m) × (hex_value c ≡ Some d) × (m * 16 + d ≡ v)
    by_digit None e k = absurd (none_some v k)
    by_digit (Some d) e k = (n, d, refl, e, same_some (n * 16 + d) v k)

record IsUnit (s : List ℕ) (v : ℕ) : Type 0 where
  long : 5 ≤ length s
  ascii : get_or s 4 0 < 128
  small : v < 65536

code_unit_fine : (s : List ℕ) (v : ℕ) → code_unit s ≡ Some v → IsUnit s v
code_unit_fine [] v h = absurd (none_some v h)
code_unit_fine (u ∷ []) v h = absurd (none_some v h)
code_unit_fine (u ∷ (a ∷ [])) v h = absurd (none_some v h)
code_unit_fine (u ∷ (a ∷ (b ∷ []))) v h = absurd (none_some v h)
code_unit_fine (u ∷ (a ∷ (b ∷ (c ∷ [])))) v h = absurd (none_some v h)
code_unit_fine (u ∷ (a ∷ (b ∷ (c ∷ (d ∷ s))))) v h =
    let digits = (taken (u == small_u) _ v h).1 in
    let x = digit (behind_digits (behind_digits (hex_value a) b) c) d v digits in
    let y = digit (behind_digits (hex_value a) b) c x.0 x.2 in
    let z = digit (hex_value a) b y.0 y.2 in
    let first = hex_small a z.0 z.2 in
    let second = hex_small b z.1 z.3 in
    let third = hex_small c y.1 y.3 in
    let fourth = hex_small d x.1 x.3 in
    record {
      long = omega arith;
      ascii = hex_ascii d x.1 x.3;
      small = omega (arith, x.4, y.4, z.4);
    }

high_range : (v : ℕ) → is_high v ≡ true → (0xD800 ≤ v) × (v < 0xDC00)
high_range v h = (grind (arith, nat_tests), grind (arith, nat_tests))

low_range : (v : ℕ) → is_low v ≡ true → (0xDC00 ≤ v) × (v < 0xE000)
low_range v h = (grind (arith, nat_tests), grind (arith, nat_tests))

joined_scalar : (high low : ℕ) → is_high high ≡ true → is_low low ≡ true → IsScalar (joined high low)
joined_scalar high low h l =
    let a = high_range high h in
    let b = low_range low l in
    high_scalar (joined high low) (omega (arith, a.0, a.1, b.0, b.1)) (omega (arith, a.0, a.1, b.0, b.1))

unit_scalar : (v : ℕ) → is_high v ≡ false → is_low v ≡ false → v < 65536 → IsScalar v
unit_scalar v h l small = by_test (nat_lt v 0xD800) refl
  where
    by_test : (b : Bool) → nat_lt v 0xD800 ≡ b → IsScalar v
    by_test true e = let low : v < 0xD800 = grind (arith, nat_tests) in low_scalar v low
    by_test false e =
        let high : 0xE000 ≤ v = grind (arith, nat_tests) in
        high_scalar v (omega arith) (omega arith)

-- the second half of a pair
record IsHalf (s : List ℕ) (e : Escape) : Type 0 where
  count : e.count ≡ 11
  long : 6 ≤ length s
  ascii : get_or s 5 0 < 128
  scalar : IsScalar e.character

pair_fine : (high : ℕ) (s : List ℕ) (e : Escape) → is_high high ≡ true → pair high s ≡ Some e → IsHalf s e
pair_fine high s e h k = by_unit (code_unit (drop 1 s)) refl (taken (opens_with s (codes "\\")) _ e k).1
  where
    by_unit : (o : Option ℕ) → code_unit (drop 1 s) ≡ o → low_half high o ≡ Some e → IsHalf s e
    by_unit None is m = absurd (none_some e m)
    by_unit (Some low) is m =
        let it = taken (is_low low) _ e m in
        let made : record { character = joined high low; count = 11 } ≡ e = same_some _ e it.1 in
        let fine = code_unit_fine (drop 1 s) low is in
        record {
          count = sym (ap (λ x. x.count) made);
          long = omega (arith, fine.long, length-drop 1 s);
          ascii = subst (λ x. x < 128) (get_or-drop 1 s 4 0) fine.ascii;
          scalar = subst IsScalar (ap (λ x. x.character) made) (joined_scalar high low h it.0);
        }

pub record IsFineEscape (s : List ℕ) (e : Escape) : Type 0 where
  pub within : e.count ≤ length s
  pub some : 0 < e.count
  pub ascii : get_or s (e.count - 1) 0 < 128
  pub scalar : IsScalar e.character

fine_pair : (c : ℕ) (s : List ℕ) (e : Escape) → IsHalf (drop 4 s) e → IsFineEscape (c ∷ s) e
fine_pair c s e half =
    let last : get_or (c ∷ s) 10 0 < 128 = subst (λ x. x < 128) (get_or-drop 4 s 5 0) half.ascii in
    let place : e.count - 1 ≡ 10 = omega (arith, half.count) in
    record {
      within = omega (arith, half.long, half.count, length-drop 4 s);
      some = omega (arith, half.count);
      ascii = subst (λ n. get_or (c ∷ s) n 0 < 128) (sym place) last;
      scalar = half.scalar;
    }

fine_unit : (s : List ℕ) (v : ℕ) (e : Escape) → IsUnit s v → is_high v ≡ false → is_low v ≡ false
    → record { character = v; count = 5 } ≡ e → IsFineEscape s e
fine_unit s v e it high low made =
    let count : 5 ≡ e.count = ap (λ x. x.count) made in
    let place : 4 ≡ e.count - 1 = omega (arith, count) in
    record {
      within = omega (arith, count, it.long);
      some = omega (arith, count);
      ascii = subst (λ n. get_or s n 0 < 128) place it.ascii;
      scalar = subst IsScalar (ap (λ x. x.character) made) (unit_scalar v high low it.small);
    }

unit_fine : (c : ℕ) (s : List ℕ) (e : Escape) → unit (code_unit (c ∷ s)) (drop 4 s) ≡ Some e → IsFineEscape (c ∷ s) e
unit_fine c s e h = by_unit (code_unit (c ∷ s)) refl h
  where
    by_low : (v : ℕ) (b : Bool) → code_unit (c ∷ s) ≡ Some v → is_high v ≡ false → is_low v ≡ b
        → cond b None (Some (record { character = v; count = 5 })) ≡ Some e → IsFineEscape (c ∷ s) e
    by_low v true is high low k = absurd (none_some e k)
    by_low v false is high low k = fine_unit (c ∷ s) v e (code_unit_fine (c ∷ s) v is) high low (same_some _ e k)

    by_high : (v : ℕ) (b : Bool) → code_unit (c ∷ s) ≡ Some v → is_high v ≡ b
        → cond b (pair v (drop 4 s)) (cond (is_low v) None (Some (record { character = v; count = 5 }))) ≡ Some e → IsFineEscape (c ∷ s) e
    by_high v true is high k = fine_pair c s e (pair_fine v (drop 4 s) e high k)
    by_high v false is high k = by_low v (is_low v) is high refl k

    by_unit : (o : Option ℕ) → code_unit (c ∷ s) ≡ o → unit o (drop 4 s) ≡ Some e → IsFineEscape (c ∷ s) e
    by_unit None is k = absurd (none_some e k)
    by_unit (Some v) is k = by_high v (is_high v) is refl k

letter_fine : (c : ℕ) (s : List ℕ) (e : Escape) (o : Option ℕ) → short_escape c ≡ o → short o ≡ Some e → IsFineEscape (c ∷ s) e
letter_fine c s e None is h = absurd (none_some e h)
letter_fine c s e (Some d) is h =
    let made : record { character = d; count = 1 } ≡ e = same_some _ e h in
    let count : 1 ≡ e.count = ap (λ x. x.count) made in
    let place : 0 ≡ e.count - 1 = omega (arith, count) in
    let low = short_fine c d is in
    record {
      within = omega (arith, count);
      some = omega (arith, count);
      ascii = subst (λ n. get_or (c ∷ s) n 0 < 128) place low.0;
      scalar = subst IsScalar (ap (λ x. x.character) made) (low_scalar d (omega (arith, low.1)));
    }

-- what stands behind a backslash
pub escape_fine : (s : List ℕ) (e : Escape) → escape s ≡ Some e → IsFineEscape s e
escape_fine [] e h = absurd (none_some e h)
escape_fine (c ∷ s) e h = by_letter (c == small_u) h
  where
    by_letter : (b : Bool) → cond b (unit (code_unit (c ∷ s)) (drop 4 s)) (short (short_escape c)) ≡ Some e → IsFineEscape (c ∷ s) e
    by_letter true k = unit_fine c s e k
    by_letter false k = letter_fine c s e (short_escape c) refl k
