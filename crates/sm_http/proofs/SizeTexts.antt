-- The text of a size line: a size line's bytes before its line end are one, a prefix of them is one, and one is a size line's.
use Rattle.std.proofs.Common.{◌≡◌, ℕ, suc, ◌+◌, ◌<◌, ◌≤◌, ◌⊎◌, inl, inr, Bool, true, false, cond, ◌||◌, not, List, [], ◌∷◌, ◌++◌, length}
use Rattle.std.proofs.Common.{take, drop, refl, sym, ap, subst, ◌∙◌, arith, append_assoc, append-nil, Option, Some, None}
use Rattle.std.proofs.Common.{true≢false}
use Rattle.std.specs.Prelude.{◌==◌, if◌then◌else◌}
use Rattle.std.specs.List.{prefix_len}
use Rattle.std.specs.Char.{is_ascii_hexdigit}
use Rattle.std.proofs.lemmas.Bool.{eqb-true}
use Rattle.std.proofs.lemmas.List.{length-append, take-append-drop}
use Rattle.std.proofs.lemmas.List.Elements.{All-head, All-tail, All-cons, All-nil, All-append}
use Rattle.std.proofs.lemmas.List.Folds.{length-prefix_len}
use Rattle.std.proofs.Math.Seq.{drop-append_seam}
use Rattle.httparse.specs.Ascii.{semicolon, tab, space, crlf_bytes}
use Rattle.httparse.specs.Grammar.{is_ows, is_extension_byte, AllPass, IsExtension, print_extension, ChunkLine, IsChunkLine}
use Rattle.httparse.specs.Grammar.{print_chunk_line}
use Rattle.sm_http.specs.Limits.{most_size_digits, size_line_limit}
use Rattle.sm_http.specs.Chunks.{IsSizeLine}
use Rattle.sm_http.specs.steps.SizeLines.{line_text, is_tail, digit_count, IsSizeText}
use Rattle.sm_http.proofs.LinesSeen.{run_passes}

abbrev Pass : (ℕ → Bool) → ℕ → Type 0
Pass test b = test b ≡ true

-- ---- how a line is printed

pub printed : (l : ChunkLine) (rest : List ℕ) → print_chunk_line l ++ rest ≡ line_text l ++ 13 ∷ 10 ∷ rest
unfolding print_chunk_line
printed l rest =
    append_assoc (l.digits ++ l.pad ++ print_extension l.extension) crlf_bytes rest
    ∙ ap (λ x. x ++ 13 ∷ 10 ∷ rest) (append_assoc l.digits l.pad (print_extension l.extension))

pub printed_alone : (l : ChunkLine) → print_chunk_line l ≡ line_text l ++ 13 ∷ 10 ∷ []
printed_alone l = sym (append-nil (print_chunk_line l)) ∙ printed l []

-- ---- cuts of one list

pub two_cuts : (t u d e : List ℕ) → t ++ u ≡ d ++ e
    → ((w : List ℕ) × (d ≡ t ++ w) × (u ≡ w ++ e)) ⊎ ((w : List ℕ) × (t ≡ d ++ w) × (e ≡ w ++ u))
two_cuts [] u d e eq = inl (d, refl, eq)
two_cuts (x ∷ t) u [] e eq = inr (x ∷ t, refl, sym eq)
two_cuts (x ∷ t) u (y ∷ d) e eq = elim (two_cuts t u d e (cc)) [
  | inl w ↦ inl (w.0, let rest = w.1 in cc, w.2)
  | inr w ↦ inr (w.0, let rest = w.1 in cc, w.2)
]

pub all_front : (p : ℕ → Bool) (t w : List ℕ) → AllPass p (t ++ w) → AllPass p t
all_front p [] w all = All-nil (Pass p)
all_front p (x ∷ t) w all =
    All-cons (Pass p) x t (All-head (Pass p) x (t ++ w) all) (all_front p t w (All-tail (Pass p) x (t ++ w) all))

pub all_behind : (p : ℕ → Bool) (t w : List ℕ) → AllPass p (t ++ w) → AllPass p w
all_behind p [] w all = all
all_behind p (x ∷ t) w all = all_behind p t w (All-tail (Pass p) x (t ++ w) all)

-- ---- the tail

tail_step : (t : Bool) (e x y : Bool) → (x ≡ true → y ≡ true) → (if t then x else e) ≡ true → (if t then y else e) ≡ true
tail_step true e x y rest h = rest h
tail_step false e x y rest h = h

-- a prefix of a tail is one
tail_prefix : (xs ys : List ℕ) → is_tail (xs ++ ys) ≡ true → is_tail xs ≡ true
tail_prefix [] ys h = refl
tail_prefix (b ∷ xs) ys h =
    tail_step (is_ows b) (b == semicolon) (is_tail (xs ++ ys)) (is_tail xs) (tail_prefix xs ys) h

extension_tail : (e : Option (List ℕ)) → is_tail (print_extension e) ≡ true
extension_tail None = refl
extension_tail (Some text) = refl

pad_tail : (pad : List ℕ) (e : Option (List ℕ)) → AllPass is_ows pad → is_tail (pad ++ print_extension e) ≡ true
pad_tail [] e all = extension_tail e
pad_tail (b ∷ pad) e all =
    ap (λ t. if t then is_tail (pad ++ print_extension e) else b == semicolon) (All-head (Pass is_ows) b pad all)
    ∙ pad_tail pad e (All-tail (Pass is_ows) b pad all)

-- a tail begins with no digit
ows_no_digit : (b : ℕ) (t u : Bool) → (b == space) ≡ t → (b == tab) ≡ u → (t || u) ≡ true → is_ascii_hexdigit b ≡ false
ows_no_digit b true u e f h = ap is_ascii_hexdigit (eqb-true b 32 e)
ows_no_digit b false true e f h = ap is_ascii_hexdigit (eqb-true b 9 f)
ows_no_digit b false false e f h = absurd (true≢false (sym h))

tail_no_digit : (b : ℕ) (bs : List ℕ) (t : Bool) → is_ows b ≡ t → is_tail (b ∷ bs) ≡ true → is_ascii_hexdigit b ≡ false
tail_no_digit b bs true e h = ows_no_digit b (b == space) (b == tab) refl refl e
tail_no_digit b bs false e h =
    let semi : (b == semicolon) ≡ true = sym (ap (λ t. if t then is_tail bs else b == semicolon) e) ∙ h in
    ap is_ascii_hexdigit (eqb-true b 59 semi)

tail_none : (tail : List ℕ) → is_tail tail ≡ true → digit_count tail ≡ 0
tail_none [] h = refl
tail_none (b ∷ bs) h = ap (λ t. cond t (1 + digit_count bs) 0) (tail_no_digit b bs (is_ows b) refl h)

-- ---- digits and a tail are such a text

run_at : (p : ℕ → Bool) (ds tail : List ℕ) → AllPass p ds → prefix_len p tail ≡ 0 → prefix_len p (ds ++ tail) ≡ length ds
run_at p [] tail all none = none
run_at p (x ∷ ds) tail all none =
    let rest = run_at p ds tail (All-tail (Pass p) x ds all) none in
    let next : 1 + prefix_len p (ds ++ tail) ≡ suc (length ds) = omega arith in
    ap (λ b. cond b (1 + prefix_len p (ds ++ tail)) 0) (All-head (Pass p) x ds all) ∙ next

pub size_text : (ds tail : List ℕ) → 0 < length ds → length ds ≤ most_size_digits → AllPass is_ascii_hexdigit ds
    → is_tail tail ≡ true → IsSizeText (ds ++ tail)
size_text ds tail some few all h =
    let count = run_at is_ascii_hexdigit ds tail all (tail_none tail h) in
    record {
      some = omega arith;
      few = omega arith;
      tail = ap is_tail (ap (λ k. drop k (ds ++ tail)) count ∙ drop-append_seam ds tail) ∙ h;
    }

-- ---- a line's text

pub text_of_line : (l : ChunkLine) → IsSizeLine l → IsSizeText (line_text l)
text_of_line l line =
    size_text l.digits (l.pad ++ print_extension l.extension) line.form.digits.0 line.digits line.form.digits.2
    (pad_tail l.pad l.extension line.form.pad)

pub short_text : (l : ChunkLine) → IsSizeLine l → length (line_text l) ≤ size_line_limit
short_text l line =
    let whole = ap length (printed_alone l) in
    let parts = length-append (line_text l) (13 ∷ 10 ∷ []) in
    let short = line.short in
    omega arith

-- a byte of a class without CR and LF
other_byte : (p : ℕ → Bool) (b : ℕ) (t u : Bool) → p 13 ≡ false → p 10 ≡ false → p b ≡ true → (b == 13) ≡ t → (b == 10) ≡ u
    → is_extension_byte b ≡ true
other_byte p b true u n m h e f = absurd (true≢false (sym h ∙ ap p (eqb-true b 13 e) ∙ n))
other_byte p b false true n m h e f = absurd (true≢false (sym h ∙ ap p (eqb-true b 10 f) ∙ m))
other_byte p b false false n m h e f = ap (λ t. not (t || (b == 10))) e ∙ ap not f

other_bytes : (p : ℕ → Bool) (bs : List ℕ) → p 13 ≡ false → p 10 ≡ false → AllPass p bs → AllPass is_extension_byte bs
other_bytes p [] n m all = All-nil (Pass is_extension_byte)
other_bytes p (b ∷ bs) n m all =
    All-cons (Pass is_extension_byte) b bs (other_byte p b (b == 13) (b == 10) n m (All-head (Pass p) b bs all) refl refl)
    (other_bytes p bs n m (All-tail (Pass p) b bs all))

extension_bytes : (e : Option (List ℕ)) → IsExtension e → AllPass is_extension_byte (print_extension e)
extension_bytes None is = All-nil (Pass is_extension_byte)
extension_bytes (Some text) is = All-cons (Pass is_extension_byte) 59 text refl is

pub line_passes : (l : ChunkLine) → IsSizeLine l → AllPass is_extension_byte (line_text l)
line_passes l line =
    All-append (Pass is_extension_byte) l.digits (l.pad ++ print_extension l.extension)
    (other_bytes is_ascii_hexdigit l.digits refl refl line.form.digits.2)
    (All-append (Pass is_extension_byte) l.pad (print_extension l.extension) (other_bytes is_ows l.pad refl refl line.form.pad)
    (extension_bytes l.extension line.form.extension))

-- what the text of a line begins with is such a text, unless it is nothing
pub text_front : (l : ChunkLine) (t u : List ℕ) → IsSizeLine l → line_text l ≡ t ++ u → 0 < length t → IsSizeText t
text_front l t u line e some = elim (two_cuts t u l.digits (l.pad ++ print_extension l.extension) (sym e)) [
  | inl w ↦
      let digits = subst (λ ds. AllPass is_ascii_hexdigit ds) w.1 line.form.digits.2 in
      let whole = ap length w.1 ∙ length-append t w.0 in
      let few = line.digits in
      subst IsSizeText (append-nil t) (size_text t [] some (omega arith) (all_front is_ascii_hexdigit t w.0 digits) refl)
  | inr w ↦
      let tail = ap is_tail (sym w.2) ∙ pad_tail l.pad l.extension line.form.pad in
      subst IsSizeText (sym w.1) (size_text l.digits w.0 line.form.digits.0 line.digits line.form.digits.2 (tail_prefix w.0 u tail))
]

-- ---- such a text is a line's

-- spaces and tabs, and then nothing or an extension
record TailParts (bs : List ℕ) : Type 0 where
  pad : List ℕ
  extension : Option (List ℕ)
  are_blank : AllPass is_ows pad
  is_extension : IsExtension extension
  is : bs ≡ pad ++ print_extension extension

tail_parts_step : (b : ℕ) (bs : List ℕ) (t : Bool) → is_ows b ≡ t → is_tail (b ∷ bs) ≡ true → AllPass is_extension_byte (b ∷ bs)
    → (is_tail bs ≡ true → TailParts bs) → TailParts (b ∷ bs)
tail_parts_step b bs true e h all rest =
    let more = rest (sym (ap (λ t. if t then is_tail bs else b == semicolon) e) ∙ h) in
    record {
      pad = b ∷ more.pad;
      extension = more.extension;
      are_blank = All-cons (Pass is_ows) b more.pad e more.are_blank;
      is_extension = more.is_extension;
      is = ap (λ x. b ∷ x) more.is;
    }
tail_parts_step b bs false e h all rest =
    let semi : (b == semicolon) ≡ true = sym (ap (λ t. if t then is_tail bs else b == semicolon) e) ∙ h in
    record {
      pad = [];
      extension = Some bs;
      are_blank = All-nil (Pass is_ows);
      is_extension = All-tail (Pass is_extension_byte) b bs all;
      is = ap (λ x. x ∷ bs) (eqb-true b 59 semi);
    }

tail_parts : (bs : List ℕ) → is_tail bs ≡ true → AllPass is_extension_byte bs → TailParts bs
tail_parts [] h all = record { pad = []; extension = None; are_blank = All-nil (Pass is_ows); is_extension = tt; is = refl }
tail_parts (b ∷ bs) h all =
    tail_parts_step b bs (is_ows b) refl h all (λ more. tail_parts bs more (All-tail (Pass is_extension_byte) b bs all))

-- the line of a text
pub record LineOf (text : List ℕ) : Type 0 where
  pub line : ChunkLine
  pub is_line : IsSizeLine line
  pub is : line_text line ≡ text
  pub digits : line.digits ≡ take (digit_count text) text

line_is : (l : ChunkLine) → IsChunkLine l → length l.digits ≤ most_size_digits → length (line_text l) ≤ size_line_limit → IsSizeLine l
line_is l form few short =
    let whole = ap length (printed_alone l) in
    let parts = length-append (line_text l) (13 ∷ 10 ∷ []) in
    record { form = form; digits = few; short = omega arith }

pub line_of : (text : List ℕ) → IsSizeText text → AllPass is_extension_byte text → length text ≤ size_line_limit → LineOf text
line_of text says all short =
    let n = digit_count text in
    let cut = take-append-drop n text in
    let count = length-prefix_len is_ascii_hexdigit text in
    let some = says.some in
    let few = says.few in
    let parts = tail_parts (drop n text) says.tail (all_behind is_extension_byte (take n text) (drop n text)
    (subst (λ t. AllPass is_extension_byte t) (sym cut) all)) in
    let line : ChunkLine = record { digits = take n text; pad = parts.pad; extension = parts.extension } in
    let is : line_text line ≡ text = ap (λ t. take n text ++ t) (sym parts.is) ∙ cut in
    record {
      line = line;
      is_line = line_is line
          (record {
            digits = (omega arith, omega arith, run_passes is_ascii_hexdigit text n refl);
            pad = parts.are_blank;
            extension = parts.is_extension;
          })
          (omega arith) (omega (arith, ap length is));
      is = is;
      digits = refl;
    }
