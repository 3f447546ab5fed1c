-- Texts that stand in fields and in targets as they are.
use Rattle.std.proofs.Common.{◌≡◌, ℕ, zero, suc, ◌<◌, ◌^◌, Bool, true, false, ◌&&◌, List, [], ◌∷◌, ◌++◌, length, reverse, refl, sym, ap, ◌∙◌, subst, arith}
use Rattle.std.specs.Prelude.{◌==◌, IsTrue, IsUtf8, decimal, get_or, if◌then◌else◌, nat_lt, not}
use Rattle.std.specs.Char.{digit_value, is_ascii_alphabetic, is_ascii_alphanumeric, is_ascii_digit}
use Rattle.std.specs.List.{list_all}
use Rattle.std.specs.Str.Parse.{AllDigits, digits_value}
use Rattle.std.proofs.lemmas.Bool.Decides.{nat_tests}
use Rattle.std.proofs.lemmas.Fmt.{decimal_is_IsNumeral}
use Rattle.std.proofs.lemmas.List.{length-reverse, reverse-append}
use Rattle.std.proofs.lemmas.List.Elements.{All-cons, All-nil}
use Rattle.std.proofs.lemmas.List.Folds.{list_all-append}
use Rattle.std.proofs.lemmas.Str.{IsUtf8-from_ascii}
use Rattle.std.proofs.lemmas.Str.Parse.{digit_at}
use Rattle.httparse.specs.Grammar.{AllPass, IsToken, is_ows, is_token, is_token_byte, is_uri_byte, is_value_byte, trim_ows}
use Rattle.sm_http.specs.BodyFields.{is_length}
use Rattle.sm_bytes.specs.Ascii.{underscore}
use Rattle.sm_ids.specs.Identifier.{IsIdentifier, is_behind_underscore, is_identifier_byte}
use Rattle.sm_parts.specs.Texts.{is_field_byte}
use Rattle.sm_part_laws.proofs.EdgedTexts.{edged_trim, starts}
use Rattle.sm_gateway.specs.GatewayData.{is_visible}

pub and_left : (a b : Bool) → (a && b) ≡ true → a ≡ true
and_left true b h = refl
and_left false b h = h

pub and_right : (a b : Bool) → (a && b) ≡ true → b ≡ true
and_right true b h = h
and_right false b h = absurd cc

pub pass_all : (p q : ℕ → Bool) → ((c : ℕ) → p c ≡ true → q c ≡ true) → (u : List ℕ) → list_all p u ≡ true → AllPass q u
pass_all p q gives [] h = All-nil (λ b. IsTrue (q b))
pass_all p q gives (c ∷ u) h =
    All-cons (λ b. IsTrue (q b)) c u (gives c (and_left (p c) (list_all p u) h)) (pass_all p q gives u (and_right (p c) (list_all p u) h))

visible_value : (c : ℕ) → is_visible c ≡ true → is_value_byte c ≡ true
visible_value c h = grind (arith, nat_tests)

visible_uri : (c : ℕ) → is_visible c ≡ true → is_uri_byte c ≡ true
visible_uri c h = grind (arith, nat_tests)

field_value : (c : ℕ) → is_field_byte c ≡ true → is_value_byte c ≡ true
field_value c h = grind (arith, nat_tests)

visible_dark : (c : ℕ) → is_visible c ≡ true → not (is_ows c) ≡ true
visible_dark c h = grind (arith, nat_tests)

pub visible_values : (u : List ℕ) → list_all is_visible u ≡ true → AllPass is_value_byte u
visible_values u h = pass_all is_visible is_value_byte visible_value u h

pub visible_uris : (u : List ℕ) → list_all is_visible u ≡ true → AllPass is_uri_byte u
visible_uris u h = pass_all is_visible is_uri_byte visible_uri u h

pub field_values : (u : List ℕ) → list_all is_field_byte u ≡ true → AllPass is_value_byte u
field_values u h = pass_all is_field_byte is_value_byte field_value u h

pub joined : (p : ℕ → Bool) (u v : List ℕ) → list_all p u ≡ true → list_all p v ≡ true → list_all p (u ++ v) ≡ true
joined p u v h g = list_all-append p u v ∙ ap (λ t. t && list_all p v) h ∙ g

-- the same bytes the other way round
turned : (p : ℕ → Bool) (u : List ℕ) → list_all p u ≡ true → list_all p (reverse u) ≡ true
turned p [] h = refl
turned p (c ∷ u) h =
    subst (λ v. list_all p v ≡ true) (sym (reverse-append (c ∷ []) u))
    (joined p (reverse u) (c ∷ []) (turned p u (and_right (p c) (list_all p u) h)) (ap (λ t. t && true) (and_left (p c) (list_all p u) h)))

-- digits are visible, and are a length
digit_is : (c : ℕ) → digit_value c < 10 → (is_ascii_digit c ≡ true) × (is_visible c ≡ true)
digit_is c h =
    let at = digit_at (c ∷ []) 0 (h, tt) (omega arith) in
    let low = at.0 in
    let high = at.1 in
    (grind (arith, nat_tests), grind (arith, nat_tests))

digits_are : (ds : List ℕ) → AllDigits 10 ds → (list_all is_ascii_digit ds ≡ true) × (list_all is_visible ds ≡ true)
digits_are [] h = (refl, refl)
digits_are (d ∷ ds) h =
    let one = digit_is d h.0 in
    let more = digits_are ds h.1 in
    (ap (λ t. t && list_all is_ascii_digit ds) one.0 ∙ more.0, ap (λ t. t && list_all is_visible ds) one.1 ∙ more.1)

length_of : (ds : List ℕ) → 0 < length ds → list_all is_ascii_digit ds ≡ true → is_length ds ≡ true
length_of [] some h = absurd (omega (arith, some))
length_of (d ∷ ds) some h = h

-- the text of a number
pub record IsNumberText (n : ℕ) : Type 0 where
  pub is_length : is_length (decimal n) ≡ true
  pub value : digits_value 10 (decimal n) ≡ n
  pub visible : list_all is_visible (decimal n) ≡ true

pub number_text : (n : ℕ) → n < 2 ^ 64 → IsNumberText n
number_text n small =
    let numeral = decimal_is_IsNumeral n small in
    let digits = digits_are (decimal n) numeral.0.1 in
    record { is_length = length_of (decimal n) numeral.0.0 digits.0; value = numeral.1; visible = digits.1 }

-- visible texts have no blanks at their ends
starts_of : (u : List ℕ) → 0 < length u → list_all is_visible u ≡ true → starts u ≡ true
starts_of [] some h = absurd (omega (arith, some))
starts_of (c ∷ u) some h = visible_dark c (and_left (is_visible c) (list_all is_visible u) h)

pub visible_trim : (u : List ℕ) → list_all is_visible u ≡ true → trim_ows u ≡ u
unfolding trim_ows
visible_trim [] h = refl
visible_trim (c ∷ u) h =
    edged_trim (c ∷ u) (record {
      front = starts_of (c ∷ u) (omega arith) h;
      back = starts_of (reverse (c ∷ u)) (omega (arith, length-reverse (c ∷ u))) (turned is_visible (c ∷ u) h);
    })

-- what passes as a token is one
pub token_is : (u : List ℕ) → is_token u ≡ true → IsToken u
token_is u h =
    let some = and_left (nat_lt 0 (length u)) (list_all is_token_byte u) h in
    (grind (arith, nat_tests), pass_all is_token_byte is_token_byte (λ c e. e) u (and_right (nat_lt 0 (length u)) (list_all is_token_byte u) h))

-- an identifier is visible
alphanumeric_visible : (c : ℕ) → is_ascii_alphanumeric c ≡ true → is_visible c ≡ true
alphanumeric_visible c h = grind (arith, nat_tests)

identifier_byte_visible : (c : ℕ) → is_identifier_byte c ≡ true → is_visible c ≡ true
identifier_byte_visible c h = grind (arith, nat_tests)

each_visible : (u : List ℕ) → list_all is_identifier_byte u ≡ true → list_all is_visible u ≡ true
each_visible [] h = refl
each_visible (c ∷ u) h =
    ap (λ t. t && list_all is_visible u) (identifier_byte_visible c (and_left (is_identifier_byte c) (list_all is_identifier_byte u) h))
    ∙ each_visible u (and_right (is_identifier_byte c) (list_all is_identifier_byte u) h)

mark_visible : (c : ℕ) → (c == underscore) ≡ true → is_visible c ≡ true
mark_visible c e = grind (arith, nat_tests)

-- a byte behind which either of two tests decides
module _ (c : ℕ) (u : List ℕ) (marked : Bool) (first : ℕ → Bool) (own : first c ≡ true → is_visible c ≡ true) where
  either_by : (t : Bool) → (c == underscore) ≡ t → (if t then marked else first c && list_all is_identifier_byte u) ≡ true
      → (marked ≡ true → list_all is_visible u ≡ true) → (is_visible c && list_all is_visible u) ≡ true
  either_by true e h rest = ap (λ t. t && list_all is_visible u) (mark_visible c e) ∙ rest h
  either_by false e h rest =
      ap (λ t. t && list_all is_visible u) (own (and_left (first c) (list_all is_identifier_byte u) h))
      ∙ each_visible u (and_right (first c) (list_all is_identifier_byte u) h)

behind_visible : (u : List ℕ) → is_behind_underscore u ≡ true → list_all is_visible u ≡ true
behind_visible [] h = refl
behind_visible (c ∷ u) h =
    either_by c u (is_behind_underscore u) is_ascii_alphanumeric (alphanumeric_visible c) (c == underscore) refl h (λ g. behind_visible u g)

alphabetic_visible : (c : ℕ) → is_ascii_alphabetic c ≡ true → is_visible c ≡ true
alphabetic_visible c h = grind (arith, nat_tests)

pub identifier_visible : (u : List ℕ) → IsIdentifier u → list_all is_visible u ≡ true
identifier_visible [] h = refl
identifier_visible (c ∷ u) h =
    either_by c u (is_behind_underscore u) is_ascii_alphabetic (alphabetic_visible c) (c == underscore) refl h (λ g. behind_visible u g)

-- visible bytes are a text
visible_ascii : (u : List ℕ) → list_all is_visible u ≡ true → (i : ℕ) → get_or u i 0 < 128
visible_ascii [] h i = omega arith
visible_ascii (c ∷ u) h zero =
    let seen = and_left (is_visible c) (list_all is_visible u) h in
    grind (arith, nat_tests)
visible_ascii (c ∷ u) h (suc i) = visible_ascii u (and_right (is_visible c) (list_all is_visible u) h) i

pub ascii_utf8 : (u : List ℕ) → list_all is_visible u ≡ true → IsUtf8 u
ascii_utf8 u h = IsUtf8-from_ascii u (visible_ascii u h)
