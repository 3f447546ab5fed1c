-- Bytes that are looked at one after the other, of which those of a text are to be ASCII.
use Rattle.std.proofs.Common.{◌≡◌, ℕ, ◌+◌, ◌<◌, ◌≤◌, ◌↔◌, Bool, true, ◌&&◌, ◌||◌, inl, inr, IsTrue, IsAscii, IsUtf8, nat_lt, nat_le, List}
use Rattle.std.proofs.Common.{slice_index, length, take, subst, sym, ap, ◌∙◌, arith, lit<}
use Rattle.std.proofs.lemmas.Bool.{and_parts, and_from, or_cases, or_left, or_right, ltb-true, leb-true, lt-ltb, le-leb, cases_lt}
use Rattle.std.proofs.lemmas.Str.{IsUtf8-from_ascii}
use Rattle.std.proofs.lemmas.List.{get_or-take, get_or_past, length-take-le, take-take}

-- those of the text's bytes that stand before this place are ASCII
abbrev pub AsciiBefore : ℕ → ℕ → List ℕ → Type 0
AsciiBefore at len bytes = (j : ℕ) → j < at → j < len → slice_index bytes j < 128

still_seen : (ascii : Bool) (len at : ℕ) (bytes : List ℕ) → (IsTrue ascii → AsciiBefore at len bytes)
    → IsTrue (ascii && (nat_le len at || nat_lt (slice_index bytes at) 128)) → AsciiBefore (at + 1) len bytes
still_seen ascii len at bytes before holds j near inside =
    let parts = and_parts ascii _ holds in
    elim (cases_lt j at) [
      | inl earlier ↦ before parts.0 j earlier inside
      | inr late ↦
          let here : j ≡ at = omega arith in
          subst (λ i. slice_index bytes i < 128) (sym here)
          (elim (or_cases (nat_le len at) (nat_lt (slice_index bytes at) 128) parts.1) [
            | inl behind ↦ let past = leb-true len at behind in omega arith
            | inr small ↦ ltb-true (slice_index bytes at) 128 small
          ])
    ]

here_seen : (len at : ℕ) (bytes : List ℕ) → AsciiBefore (at + 1) len bytes → (nat_le len at || nat_lt (slice_index bytes at) 128) ≡ true
here_seen len at bytes all =
    elim (cases_lt at len) [
      | inl inside ↦ or_right (nat_le len at) _ (lt-ltb (slice_index bytes at) 128 (all at (omega arith) inside))
      | inr behind ↦ or_left (nat_le len at) _ (le-leb len at behind)
    ]

-- one more byte was looked at
pub one_more_seen : (ascii : Bool) (len at : ℕ) (bytes : List ℕ) → IsTrue ascii ↔ AsciiBefore at len bytes
    → IsTrue (ascii && (nat_le len at || nat_lt (slice_index bytes at) 128)) ↔ AsciiBefore (at + 1) len bytes
one_more_seen ascii len at bytes before = (
  still_seen ascii len at bytes before.0,
  λ all. and_from ascii _ (before.1 (λ j near inside. all j (omega arith) inside))
      (here_seen len at bytes all),
)

-- all bytes of the text were looked at
are_ascii : (len : ℕ) (bytes : List ℕ) → len ≤ length bytes → ((j : ℕ) → j < len → slice_index bytes j < 128) → IsAscii (take len bytes)
are_ascii len bytes fits small i =
    elim (cases_lt i len) [
      | inl inside ↦ subst (λ b. b < 128) (sym (get_or-take len bytes i 0 inside)) (small i inside)
      | inr past ↦ subst (λ b. b < 128) (sym (get_or_past (take len bytes) i 0
          (subst (λ n. n ≤ i) (sym (length-take-le len bytes fits)) past))) (lit< tt)
    ]

pub all_seen : (ascii : Bool) (len at : ℕ) (bytes : List ℕ) → len ≤ length bytes → len ≤ at → IsTrue ascii ↔ AsciiBefore at len bytes
    → IsTrue ascii ↔ IsAscii (take len bytes)
all_seen ascii len at bytes fits done before = (
  λ holds. are_ascii len bytes fits (λ j inside. before.0 holds j (omega arith) inside),
  λ all. before.1
      (λ j near inside. subst (λ b. b < 128) (get_or-take len bytes j 0 inside) (all j)),
)

pub all_utf8 : (ascii : Bool) (bytes : List ℕ) → IsTrue ascii ↔ IsAscii bytes → IsTrue ascii → IsUtf8 bytes
all_utf8 ascii bytes seen holds = IsUtf8-from_ascii bytes (seen.0 holds)

-- the bytes that were copied begin as those at hand do
pub same_prefix : (len : ℕ) (bytes copied : List ℕ) → len ≤ 16 → copied ≡ take 16 bytes → take len copied ≡ take len bytes
same_prefix len bytes copied short is = ap (take len) is ∙ take-take len 16 bytes short
