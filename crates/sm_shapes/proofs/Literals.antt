-- The test of a literal pattern holds exactly of the texts of which it is a part.
use Rattle.std.proofs.Common.{◌≡◌, ◌↔◌, ◌++◌, ◌∷◌, ◌∙◌, ◌==◌, [], None, ℕ, Bool, true, false, cond, List, length, drop, refl, sym, ap}
use Rattle.std.specs.Bool.{MatchBool}
use Rattle.std.specs.List.{starts_with}
use Rattle.std.specs.Str.Pattern.{HasMatch, FindsText}
use Rattle.std.proofs.lemmas.Bool.Decides.{Decides-eqb}
use Rattle.std.proofs.lemmas.Slice.Eq.{starts_is}
use Rattle.std.proofs.lemmas.Str.Pattern.{contains_text}
use Rattle.sm_shapes.specs.Literals.{IsPart, is_part}

abbrev begins : List ℕ → List ℕ → Bool
begins pattern text = starts_with (λ a b. a == b) text pattern

-- a text that begins with the pattern has it as a part, and passes the test
part_at_start : (pattern text : List ℕ) → begins pattern text ≡ true → IsPart pattern text
part_at_start pattern text holds = ([], drop (length pattern) text, (starts_is Decides-eqb text pattern _ refl).0 holds)

start_is_part : (pattern text : List ℕ) → begins pattern text ≡ true → is_part pattern text ≡ true
start_is_part pattern [] holds = holds
start_is_part pattern (byte ∷ bytes) holds = rw holds refl

-- a part stays one behind one byte more
part_behind : (pattern bytes : List ℕ) (byte : ℕ) → IsPart pattern bytes → IsPart pattern (byte ∷ bytes)
part_behind pattern bytes byte part = (byte ∷ part.0, part.1, ap (λ rest. byte ∷ rest) part.2)

either_is : (holds rest : Bool) → rest ≡ true → cond holds true rest ≡ true
either_is true rest is = refl
either_is false rest is = is

start_or_behind : (pattern bytes : List ℕ) (byte : ℕ) (holds : Bool) → begins pattern (byte ∷ bytes) ≡ holds
    → cond holds true (is_part pattern bytes) ≡ true → (is_part pattern bytes ≡ true → IsPart pattern bytes) → IsPart pattern (byte ∷ bytes)
start_or_behind pattern bytes byte true at is behind = part_at_start pattern (byte ∷ bytes) at
start_or_behind pattern bytes byte false at is behind = part_behind pattern bytes byte (behind is)

-- what passes the test has the part
pub found_part : (pattern text : List ℕ) → is_part pattern text ≡ true → IsPart pattern text
found_part pattern [] is = part_at_start pattern [] is
found_part pattern (byte ∷ bytes) is = start_or_behind pattern bytes byte (begins pattern (byte ∷ bytes)) refl is (found_part pattern bytes)

-- what has the part passes the test
pub part_found : (pattern before behind : List ℕ) → is_part pattern (before ++ (pattern ++ behind)) ≡ true
part_found pattern [] behind = start_is_part pattern (pattern ++ behind)
    ((starts_is Decides-eqb (pattern ++ behind) pattern _ refl).1 behind refl)
part_found pattern (byte ∷ before) behind = either_is _ _ (part_found pattern before behind)

pub decides_part : (pattern text : List ℕ) → (is_part pattern text ≡ true) ↔ IsPart pattern text
decides_part pattern text = (found_part pattern text, λ part. ap (is_part pattern) part.2 ∙ part_found pattern part.0 part.1)

same_truth : (a b : Bool) → (a ≡ true → b ≡ true) → (b ≡ true → a ≡ true) → a ≡ b
same_truth true b there back = sym (there refl)
same_truth false true there back = back refl
same_truth false false there back = refl

-- `contains` at a text answers the test
pub contains_is_part : (found : Bool) (pattern text : List ℕ)
    → MatchBool found (HasMatch (FindsText pattern) text) (FindsText pattern text None) → found ≡ is_part pattern text
contains_is_part found pattern text matches =
    let part : (found ≡ true) ↔ IsPart pattern text = contains_text found pattern text matches in
    same_truth found (is_part pattern text) (λ is. (decides_part pattern text).1 (part.0 is)) (λ is. part.1 (found_part pattern text is))
