-- Texts that are escaped: which bytes stand in them, where they are cut, and that they are decoded again.
use Rattle.std.proofs.Common.{◌≡◌, ◌≢◌, ℕ, suc, ◌+◌, ◌<◌, List, [], ◌∷◌, ◌++◌, length, take, drop, Bool, true, false, cond, refl, ap, ◌∙◌}
use Rattle.std.proofs.Common.{subst, arith, take_all, drop_of_length-le}
use Rattle.std.specs.Prelude.{All, ◌==◌, if◌then◌else◌, not}
use Rattle.std.specs.List.{after_first, before_first, position_or_len}
use Rattle.std.proofs.Math.Seq.{drop-append-add, take-append_seam}
use Rattle.std.proofs.lemmas.Bool.{false_from_ne_true}
use Rattle.std.proofs.lemmas.Bool.Decides.{Decides-eqb, nat_tests}
use Rattle.std.proofs.lemmas.List.Elements.{All-append, All-cons, All-head, All-nil, All-tail, All-weaker}
use Rattle.percent_encoding.specs.Percent.{percent_decode, percent_encode_byte}
use Rattle.percent_encoding.proofs.PercentLemmas.{All-percent_encode_byte, IsByte, IsEscapeByte, percent_decode-nil}
use Rattle.percent_encoding.proofs.PercentLemmas.{percent_decode-percent_encode_byte}
use Rattle.percent_encoding.proofs.PercentLemmas.{percent_decode_not_percent}
use Rattle.sm_bytes.specs.Ascii.{equals, slash}
use Rattle.sm_uri.specs.UriPattern.{ampersand, question_mark}
use Rattle.sm_parts.specs.HeaderLists.{is_filled}
use Rattle.sm_parts.specs.Targets.{escaped, escaped_byte, escaped_path, escaped_path_byte, is_slash, is_unreserved}

clash : (t : Bool) → t ≡ false → t ≡ true → ⊥
clash t p q = cc

-- a mark that is escaped stands in no text that is
kept_no : (mark b : ℕ) → is_unreserved mark ≡ false → is_unreserved b ≡ true → (b == mark) ≡ false
kept_no mark b misses hits =
    false_from_ne_true (b == mark) (λ e. clash (is_unreserved mark) misses
    (subst (λ c. is_unreserved c ≡ true) ((Decides-eqb b mark).0 e) hits))

pub no_equals : (b : ℕ) → IsEscapeByte b → (b == equals) ≡ false
no_equals b h = grind (arith, nat_tests)

pub no_ampersand : (b : ℕ) → IsEscapeByte b → (b == ampersand) ≡ false
no_ampersand b h = grind (arith, nat_tests)

pub no_question_mark : (b : ℕ) → IsEscapeByte b → (b == question_mark) ≡ false
no_question_mark b h = grind (arith, nat_tests)

pub no_slash : (b : ℕ) → IsEscapeByte b → (b == slash) ≡ false
no_slash b h = grind (arith, nat_tests)

abbrev pub HasNo : ℕ → List ℕ → Type 0
HasNo mark u = All (λ c. (c == mark) ≡ false) u

module _ (mark : ℕ) (free : is_unreserved mark ≡ false) (no_escape : (b : ℕ) → IsEscapeByte b → (b == mark) ≡ false) where
  byte_no : (b : ℕ) (t : Bool) → is_unreserved b ≡ t → HasNo mark (if t then b ∷ [] else percent_encode_byte b)
  byte_no b true e = All-cons (λ c. (c == mark) ≡ false) b [] (kept_no mark b free e) (All-nil (λ c. (c == mark) ≡ false))
  byte_no b false e = All-weaker IsEscapeByte (λ c. (c == mark) ≡ false) no_escape (percent_encode_byte b) (All-percent_encode_byte b)

  pub escaped_no : (u : List ℕ) → HasNo mark (escaped u)
  escaped_no [] = All-nil (λ c. (c == mark) ≡ false)
  escaped_no (b ∷ u) =
      All-append (λ c. (c == mark) ≡ false) (escaped_byte b) (escaped u) (byte_no b (is_unreserved b) refl) (escaped_no u)

  path_byte_no : (slash == mark) ≡ false → (b : ℕ) (t : Bool) → is_slash b ≡ t → HasNo mark (if t then b ∷ [] else escaped_byte b)
  path_byte_no other b true e =
      All-cons (λ c. (c == mark) ≡ false) b [] (ap (λ c. c == mark) ((Decides-eqb b slash).0 e) ∙ other)
      (All-nil (λ c. (c == mark) ≡ false))
  path_byte_no other b false e = byte_no b (is_unreserved b) refl

  pub escaped_path_no : (slash == mark) ≡ false → (u : List ℕ) → HasNo mark (escaped_path u)
  escaped_path_no other [] = All-nil (λ c. (c == mark) ≡ false)
  escaped_path_no other (b ∷ u) =
      All-append (λ c. (c == mark) ≡ false) (escaped_path_byte b) (escaped_path u) (path_byte_no other b (is_slash b) refl)
      (escaped_path_no other u)

-- what is escaped is decoded again
kept_byte : (b : ℕ) → is_unreserved b ≡ true → b ≢ 37
kept_byte b h e = clash (is_unreserved 37) refl (subst (λ c. is_unreserved c ≡ true) e h)

slash_byte : (b : ℕ) → is_slash b ≡ true → b ≢ 37
slash_byte b h e = clash (is_slash 37) refl (subst (λ c. is_slash c ≡ true) e h)

byte_again : (b : ℕ) (u : List ℕ) (t : Bool) → is_unreserved b ≡ t → b < 256
    → percent_decode ((if t then b ∷ [] else percent_encode_byte b) ++ u) ≡ b ∷ percent_decode u
byte_again b u true e small = percent_decode_not_percent b u (kept_byte b e)
byte_again b u false e small = percent_decode-percent_encode_byte b u small

path_byte_again : (b : ℕ) (u : List ℕ) (t : Bool) → is_slash b ≡ t → b < 256
    → percent_decode ((if t then b ∷ [] else escaped_byte b) ++ u) ≡ b ∷ percent_decode u
path_byte_again b u true e small = percent_decode_not_percent b u (slash_byte b e)
path_byte_again b u false e small = byte_again b u (is_unreserved b) refl small

pub decoded_again : (u : List ℕ) → All IsByte u → percent_decode (escaped u) ≡ u
decoded_again [] h = percent_decode-nil
decoded_again (b ∷ u) h =
    byte_again b (escaped u) (is_unreserved b) refl (All-head IsByte b u h) ∙ ap (λ v. b ∷ v) (decoded_again u (All-tail IsByte b u h))

pub decoded_path : (u : List ℕ) → All IsByte u → percent_decode (escaped_path u) ≡ u
decoded_path [] h = percent_decode-nil
decoded_path (b ∷ u) h =
    path_byte_again b (escaped_path u) (is_slash b) refl (All-head IsByte b u h)
    ∙ ap (λ v. b ∷ v) (decoded_path u (All-tail IsByte b u h))

-- what isn't empty isn't empty escaped
byte_filled : (b : ℕ) (t : Bool) (v : List ℕ) → is_filled ((if t then b ∷ [] else percent_encode_byte b) ++ v) ≡ true
unfolding percent_encode_byte
byte_filled b true v = refl
byte_filled b false v = refl

path_byte_filled : (b : ℕ) (t : Bool) (v : List ℕ) → is_filled ((if t then b ∷ [] else escaped_byte b) ++ v) ≡ true
path_byte_filled b true v = refl
path_byte_filled b false v = byte_filled b (is_unreserved b) v

pub escaped_filled : (u : List ℕ) → is_filled u ≡ true → is_filled (escaped u) ≡ true
escaped_filled [] h = h
escaped_filled (b ∷ u) h = byte_filled b (is_unreserved b) (escaped u)

pub escaped_path_filled : (u : List ℕ) → is_filled u ≡ true → is_filled (escaped_path u) ≡ true
escaped_path_filled [] h = h
escaped_path_filled (b ∷ u) h = path_byte_filled b (is_slash b) (escaped_path u)

-- bytes cut at the first of a class, and such as have none
place_by : (p : ℕ → Bool) (b n : ℕ) → p b ≡ false → cond (not (p b)) (1 + n) 0 ≡ suc n
place_by p b n h = ap (λ t. cond (not t) (1 + n) 0) h ∙ omega arith

first_place : (p : ℕ → Bool) (u : List ℕ) (mark : ℕ) (v : List ℕ) → All (λ b. p b ≡ false) u → p mark ≡ true
    → position_or_len p (u ++ mark ∷ v) ≡ length u
first_place p [] mark v h e = ap (λ t. cond (not t) (1 + position_or_len p v) 0) e
first_place p (b ∷ u) mark v h e =
    place_by p b (position_or_len p (u ++ mark ∷ v)) (All-head (λ b. p b ≡ false) b u h)
    ∙ ap suc (first_place p u mark v (All-tail (λ b. p b ≡ false) b u h) e)

no_place : (p : ℕ → Bool) (u : List ℕ) → All (λ b. p b ≡ false) u → position_or_len p u ≡ length u
no_place p [] h = refl
no_place p (b ∷ u) h =
    place_by p b (position_or_len p u) (All-head (λ b. p b ≡ false) b u h) ∙ ap suc (no_place p u (All-tail (λ b. p b ≡ false) b u h))

pub cut_before : (p : ℕ → Bool) (u : List ℕ) (mark : ℕ) (v : List ℕ) → All (λ b. p b ≡ false) u → p mark ≡ true
    → before_first p (u ++ mark ∷ v) ≡ u
cut_before p u mark v h e = ap (λ n. take n (u ++ mark ∷ v)) (first_place p u mark v h e) ∙ take-append_seam u (mark ∷ v)

pub cut_behind : (p : ℕ → Bool) (u : List ℕ) (mark : ℕ) (v : List ℕ) → All (λ b. p b ≡ false) u → p mark ≡ true
    → after_first p (u ++ mark ∷ v) ≡ v
cut_behind p u mark v h e = ap (λ n. drop (n + 1) (u ++ mark ∷ v)) (first_place p u mark v h e) ∙ drop-append-add u (mark ∷ v) 1

pub whole_before : (p : ℕ → Bool) (u : List ℕ) → All (λ b. p b ≡ false) u → before_first p u ≡ u
whole_before p u h = ap (λ n. take n u) (no_place p u h) ∙ take_all (length u) u (omega arith)

pub none_behind : (p : ℕ → Bool) (u : List ℕ) → All (λ b. p b ≡ false) u → after_first p u ≡ []
none_behind p u h = ap (λ n. drop (n + 1) u) (no_place p u h) ∙ drop_of_length-le u (omega arith)
