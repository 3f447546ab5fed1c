-- Each token is the text between its places, which are cuts between characters, and has its kind's shape.
use Rattle.std.proofs.Common.{◌≡◌, ℕ, zero, suc, ◌+◌, ◌-◌, ◌≤◌, ◌<◌, List, [], ◌∷◌, length, get_or, take, drop, refl, sym, ap, subst, ◌∙◌}
use Rattle.std.proofs.Common.{arith, length-take-le, length-drop}
use Rattle.std.specs.Prelude.{Option, Some, None, IsOk, IsUtf8, All, true, false}
use Rattle.std.specs.Option.{option_map}
use Rattle.std.specs.Str.{IsCharBoundary}
use Rattle.std.proofs.lemmas.List.{get_or-take, get_or-drop, drop-drop}
use Rattle.std.proofs.lemmas.List.Elements.{All-nil, All-cons}
use Rattle.std.proofs.lemmas.Str.{IsCharBoundary-from_drop, IsUtf8-drop}
use Rattle.sm_lex.specs.declared.token.TokenKind.{TokenKind}
use Rattle.sm_lex.specs.declared.token.TokenKind.TheVariants.{Word, Number, Text, Block, Mark}
use Rattle.sm_lex.specs.declared.byte.First.TheVariants.{Quote as a_quote}
use Rattle.sm_lex.specs.Bytes.{FirstIs}
use Rattle.sm_tree.specs.Numbers.{IsNumber}
use Rattle.sm_lex.specs.Lines.{line_end_len}
use Rattle.sm_lex.specs.Values.{opener_len, string_value, block_value}
use Rattle.sm_lex.specs.Tokens.{first_end, one_quote, three_quotes, TokenAt, Lexeme, IsNextToken, TokensLead}
use Rattle.sm_lex.specs.Shapes.{IsQuoted, IsStringText, IsBlockText, HasShape}
use Rattle.sm_lex.specs.Answers.{IsWhole}
use Rattle.sm_lex.proofs.Classes.{quote_is}
use Rattle.sm_lex.proofs.Ends.{three_are}
use Rattle.sm_lex.proofs.Measured.{found_word, found_number, found_mark}
use Rattle.sm_lex.proofs.Strings.{IsString, string_within, string_quote, string_ends}
use Rattle.sm_lex.proofs.Blocks.{IsBlock, closing, block_within, line_end_within, opener_is, block_ends}
use Rattle.sm_lex.proofs.Leading.{space_utf8}

-- a length that was counted on by k
counted_on : (k n : ℕ) (o : Option ℕ) → option_map (λ m. m + k) o ≡ Some n → (m : ℕ) × (o ≡ Some m) × (m + k ≡ n)
counted_on k n None e = absurd (let wrong : None ≡ Some n = e in cc)
counted_on k n (Some m) e = (m, refl, cc)

first_quote : (s : List ℕ) → FirstIs a_quote s → get_or s 0 0 ≡ 34
first_quote [] h = absurd h
first_quote (c ∷ s) h = quote_is c h

string_shape : (s behind inside : List ℕ) (m : ℕ) → IsString s behind inside m → IsQuoted 1 1 (take (m + 2) s)
string_shape s behind inside m it =
    let within = string_within it in
    let len : length (take (m + 2) s) ≡ m + 2 = length-take-le (m + 2) s within in
    let place : length (take (m + 2) s) - 1 ≡ m + 1 = omega arith in record {
      long = omega arith;
      opens = λ i lt. let zeroth : 0 ≡ i = omega arith in subst (λ k. get_or (take (m + 2) s) k 0 ≡ 34) zeroth
          (get_or-take (m + 2) s 0 0 (omega arith) ∙ first_quote s it.opens.first);
      closes = ap (λ k. get_or (take (m + 2) s) k 0) place ∙ get_or-take (m + 2) s (m + 1) 0 (omega arith) ∙ string_quote it;
    }

three_first : (s : List ℕ) (i : ℕ) → three_quotes s ≡ true → i < 3 → get_or s i 0 ≡ 34
three_first s zero e lt = ap (λ t. get_or t 0 0) (three_are s e).1
three_first s (suc zero) e lt = ap (λ t. get_or t 1 0) (three_are s e).1
three_first s (suc (suc zero)) e lt = ap (λ t. get_or t 2 0) (three_are s e).1
three_first s (suc (suc (suc i))) e lt = absurd (omega arith)

block_shape : (s behind inside : List ℕ) (m e : ℕ) → IsBlock s behind inside m e → IsQuoted (opener_len (take (m + 6) s)) 3 (take (m + 6) s)
block_shape s behind inside m e it =
    let within = block_within it in
    let fits = line_end_within it in
    let len : length (take (m + 6) s) ≡ m + 6 = length-take-le (m + 6) s within in
    let place : length (take (m + 6) s) - 3 ≡ 3 + m = omega arith in record {
      long = omega (arith, opener_is it);
      opens = λ i lt. get_or-take (m + 6) s i 0 (omega arith) ∙ three_first s i it.opens.three lt;
      closes = ap (λ k. get_or (take (m + 6) s) k 0) place ∙ get_or-take (m + 6) s (3 + m) 0 (omega arith) ∙ sym (get_or-drop 3 s m 0)
          ∙ ap (λ t. get_or t m 0) (sym it.behind_is) ∙ (closing it).1;
    }

-- what stands at the start of s ends between characters, and is what its kind says
pub cut_and_shape : (k : TokenKind) (start n : ℕ) (s t : List ℕ) → IsUtf8 s → TokenAt k start s n → t ≡ take n s
    → IsCharBoundary s n × HasShape k start t
cut_and_shape Word start n s t u (first, e) text = ((found_word start n s u first e).2, tt)
cut_and_shape Number start n s t u (first, longest, number)
    text = ((found_number start n s u first longest number).2, subst IsNumber (sym text) number)
cut_and_shape Mark start n s t u (first, e) text = ((found_mark start n s u first e).2, tt)
cut_and_shape Text start n s t u (opens, e, fine) text =
    let h = counted_on 2 n (first_end one_quote false (drop 1 s)) e in
    let it : IsString s (drop 1 s) (take h.0 (drop 1 s)) h.0 = record
    { opens = opens; behind_is = refl; closes = sym h.1; inside_is = refl } in
    let shape = string_shape s (drop 1 s) (take h.0 (drop 1 s)) h.0 it in (
      subst (IsCharBoundary s) h.2 (string_ends it u),
      record {
        quoted = subst (IsQuoted 1 1) (ap (λ k. take k s) h.2 ∙ sym text) shape;
        value = subst (λ x. IsOk (string_value start x)) (sym text) fine;
      },
    )
cut_and_shape Block start n s t u (opens, e, fine) text =
    let h = counted_on 6 n (first_end three_quotes false (drop 3 s)) e in
    let it : IsBlock s (drop 3 s) (take h.0 (drop 3 s)) h.0 (line_end_len (drop 3 s)) =
    record { opens = opens; behind_is = refl; closes = sym h.1; inside_is = refl; line_end_is = refl }
    in
    let shape = block_shape s (drop 3 s) (take h.0 (drop 3 s)) h.0 (line_end_len (drop 3 s)) it in (
      subst (IsCharBoundary s) h.2 (block_ends it u),
      record {
        quoted = subst (λ x. IsQuoted (opener_len x) 3 x) (ap (λ k. take k s) h.2 ∙ sym text) shape;
        value = subst (λ x. IsOk (block_value start x)) (sym text) fine;
      },
    )

pub text_shape : (k : TokenKind) (start : ℕ) (t : List ℕ) → HasShape k start t → k ≡ Text → IsStringText start t
text_shape k start t h e = subst (λ j. HasShape j start t) e h

pub text_block_shape : (k : TokenKind) (start : ℕ) (t : List ℕ) → HasShape k start t → k ≡ Block → IsBlockText start t
text_block_shape k start t h e = subst (λ j. HasShape j start t) e h

whole_next : (text : List ℕ) (at : ℕ) (x : Lexeme) → IsUtf8 (drop at text) → IsNextToken text at x
    → IsWhole text x × IsUtf8 (drop x.end text)
whole_next text at x u h =
    let s = drop x.start text in
    let some = h.some_bytes in
    let inside = h.inside in
    let v : IsUtf8 s = space_utf8 h.between.0 (drop at text) s h.between.1 u in
    let n = x.end - x.start in
    let few : n ≤ length s = omega (arith, length-drop x.start text) in
    let len : length x.text ≡ n = ap length h.slice ∙ length-take-le n s few in
    let span : x.end ≡ x.start + length x.text = omega arith in
    let found = cut_and_shape x.kind x.start n s x.text v h.token h.slice in
    let order : x.start + n ≡ x.end = omega arith in
    let behind : IsUtf8 (drop x.end text) = subst IsUtf8 (drop-drop n x.start text
    ∙ ap (λ k. drop k text) order) (IsUtf8-drop s n v found.0) in (
      record {
        slice = h.slice;
        span = span;
        start = IsCharBoundary-from_drop text x.start (omega arith) v;
        end = IsCharBoundary-from_drop text x.end inside behind;
        shape = found.1;
      },
      behind,
    )

pub all_whole : (text : List ℕ) (at to : ℕ) (xs : List Lexeme) → IsUtf8 (drop at text) → TokensLead text at xs to → All (IsWhole text) xs
all_whole text at to [] u h = All-nil (IsWhole text)
all_whole text at to (x ∷ xs) u (first, more) =
    let here = whole_next text at x u first in
    All-cons (IsWhole text) x xs here.0 (all_whole text x.end to xs here.1 more)
