-- A string as JSON writes it is a string of the IDL with the same text, byte by byte: what is written for a byte is read as this byte,
-- no quotation mark ends the string in it, and no line ends.
use Rattle.std.proofs.Common.{◌≡◌, ◌≤◌, ◌<◌, ℕ, suc, ◌+◌, ◌-◌, inl, inr, Bool, true, false, List, [], ◌∷◌, ◌++◌, length, take}
use Rattle.std.proofs.Common.{refl, sym, ap, subst, ◌∙◌, append_assoc, arith, ne_eqb, eqb-true}
use Rattle.std.specs.List.{starts_with}
use Rattle.std.specs.Prelude.{◌==◌, ◌&&◌, ◌||◌, nat_eq, Option, Some, None, Ok, IsOk}
use Rattle.std.specs.Option.{option_map}
use Rattle.std.proofs.Math.Seq.{take-append_seam}
use Rattle.std.proofs.lemmas.Bool.{cond-false, cases_lt, eqb-false}
use Rattle.std.proofs.lemmas.List.{length-append}
use Rattle.std.proofs.lemmas.Str.{encode_ascii}
use Rattle.sm_json.specs.Written.{written_byte, written_bytes, written_text}
use Rattle.sm_json.proofs.WrittenStrings.{plain_byte}
use Rattle.sm_lex.specs.declared.token.TokenKind.TheVariants.{Text}
use Rattle.sm_lex.specs.Escapes.{escape}
use Rattle.sm_lex.specs.Lines.{Line, lines_at, line_text, is_line_end, onto, put_before, behind_backslash, lines_text}
use Rattle.sm_lex.specs.Values.{string_value, string_inside}
use Rattle.sm_lex.specs.Tokens.{Lexeme, TokenAt, first_end, one_quote, three_quotes}
use Rattle.sm_idl.specs.Productions.{Tokens, one}
use Rattle.sm_idl.specs.Words.{IsString}
use Rattle.sm_idl.proofs.TextTokens.{Goes, Spells, goes_one}
use Rattle.sm_idl.proofs.WrittenTokens.{Closed, no_quote}

-- bytes in which no line ends are one line
abbrev NoEnds : List ℕ → Type 0
NoEnds [] = Unit {0}
NoEnds (c ∷ s) = (is_line_end c ≡ false) × NoEnds s

abbrev line_of : ℕ → List ℕ → Line
line_of at s = record { at = at; bytes = s }

one_line : (at : ℕ) (s : List ℕ) → NoEnds s → lines_at at s ≡ line_of at s ∷ []
one_line at [] h = refl
one_line at (c ∷ []) h = cond-false (is_line_end c) _ _ h.0
one_line at (c ∷ (d ∷ s)) h = cond-false (is_line_end c) _ _ h.0 ∙ ap (onto at c) (one_line (at + 1) (d ∷ s) h.1)

-- these bytes in a string stand for the byte b
record ReadsAs (w : List ℕ) (b : ℕ) : Type 0 where
  text : (s u : List ℕ) → ((at : ℕ) → line_text at 0 s None ≡ Ok u) → (at : ℕ) → line_text at 0 (w ++ s) None ≡ Ok (b ∷ u)
  finds : (s : List ℕ) (n : ℕ) → first_end one_quote false s ≡ Some n → first_end one_quote false (w ++ s) ≡ Some (length w + n)
  line : (s : List ℕ) → NoEnds s → NoEnds (w ++ s)
  first : (s : List ℕ) → one_quote (w ++ s) ≡ false

-- neither a quotation mark nor a backslash nor an end of a line
abbrev IsPlain : ℕ → Type 0
IsPlain c = ((c == 34) ≡ false) × ((c == 92) ≡ false) × (is_line_end c ≡ false)

abbrev one_on : Option ℕ → Option ℕ
one_on o = option_map (λ k. k + 1) o

plain_step : (c : ℕ) (s : List ℕ) (n : ℕ) → IsPlain c → first_end one_quote false s ≡ Some n
    → first_end one_quote false (c ∷ s) ≡ Some (n + 1)
plain_step c s n h e =
    cond-false (c == 34) _ _ h.0 ∙ ap (λ b. one_on (first_end one_quote b s)) h.1 ∙ ap one_on e

plain_reads : (b : ℕ) → IsPlain b → ReadsAs (b ∷ []) b
plain_reads b h = record {
  text = λ s u e at. cond-false (b == 92) _ _ h.1 ∙ ap (put_before (b ∷ [])) (e (at + 1));
  finds = λ s n e. let m : n + 1 ≡ 1 + n = omega arith in plain_step b s n h e ∙ ap Some m;
  line = λ s k. (h.2, k);
  first = λ s. h.0;
}

short_reads : (b e : ℕ) → b < 128 → ((s : List ℕ) → escape (e ∷ s) ≡ Some (record { character = b; count = 1 })) → is_line_end e ≡ false
    → ReadsAs (92 ∷ (e ∷ [])) b
short_reads b e low is fine = record {
  text = λ s u h at.
      ap (λ o. behind_backslash at (e ∷ s) o None (λ skip. line_text (at + 1) skip (e ∷ s) None)) (is s)
      ∙ ap (λ k. put_before k (line_text (at + 1 + 1) 0 s None)) (encode_ascii b low) ∙ ap (put_before (b ∷ [])) (h (at + 1 + 1));
  finds = λ s n h. let m : n + 1 + 1 ≡ 2 + n = omega arith in ap (λ o. one_on (one_on o)) h ∙ ap Some m;
  line = λ s k. (refl, (fine, k));
  first = λ s. refl;
}

long_reads : (b x y : ℕ) → b < 128
    → ((s : List ℕ) → escape (117 ∷ (48 ∷ (48 ∷ (x ∷ (y ∷ s))))) ≡ Some (record { character = b; count = 5 })) → IsPlain x → IsPlain y
    → ReadsAs (92 ∷ (117 ∷ (48 ∷ (48 ∷ (x ∷ (y ∷ [])))))) b
long_reads b x y low is hx hy = record {
  text = λ s u h at.
      let t : List ℕ = 117 ∷ (48 ∷ (48 ∷ (x ∷ (y ∷ s)))) in
      ap (λ o. behind_backslash at t o None (λ skip. line_text (at + 1) skip t None)) (is s)
      ∙ ap (λ k. put_before k (line_text (at + 1 + 1 + 1 + 1 + 1 + 1) 0 s None)) (encode_ascii b low)
      ∙ ap (put_before (b ∷ [])) (h (at + 1 + 1 + 1 + 1 + 1 + 1));
  finds = λ s n h.
      let m : n + 1 + 1 + 1 + 1 + 1 + 1 ≡ 6 + n = omega arith in
      ap (λ o. one_on (one_on (one_on (one_on o)))) (plain_step x (y ∷ s) (n + 1) hx (plain_step y s n hy h)) ∙ ap Some m;
  line = λ s k. (refl, (refl, (refl, (refl, (hx.2, (hy.2, k))))));
  first = λ s. refl;
}

-- the bytes below 32, one by one
record Below (P : ℕ → Type 0) (n : ℕ) : Type 0 where
  at : (b : ℕ) → b < n → P b

none_below : (P : ℕ → Type 0) → Below P 0
none_below P = record { at = λ b lt. absurd (omega arith) }

one_more : (P : ℕ → Type 0) (n : ℕ) → Below P n → P n → Below P (suc n)
one_more P n all here = record {
  at = λ b lt. elim (cases_lt b n) [
    | inl low ↦ all.at b low
    | inr high ↦ let same : n ≡ b = omega arith in subst P same here
  ];
}

abbrev Good : ℕ → Type 0
Good b = ReadsAs (written_byte b) b

long_good : (b x y : ℕ) → b < 128 → written_byte b ≡ 92 ∷ (117 ∷ (48 ∷ (48 ∷ (x ∷ (y ∷ [])))))
    → ((s : List ℕ) → escape (117 ∷ (48 ∷ (48 ∷ (x ∷ (y ∷ s))))) ≡ Some (record { character = b; count = 5 })) → IsPlain x → IsPlain y
    → Good b
long_good b x y low e is hx hy = subst (λ w. ReadsAs w b) (sym e) (long_reads b x y low is hx hy)

short_good : (b e : ℕ) → b < 128 → written_byte b ≡ 92 ∷ (e ∷ [])
    → ((s : List ℕ) → escape (e ∷ s) ≡ Some (record { character = b; count = 1 })) → is_line_end e ≡ false → Good b
short_good b e low w is fine = subst (λ u. ReadsAs u b) (sym w) (short_reads b e low is fine)

below_8 : Below Good 8
below_8 =
    let b0 : Below Good 1 =
    one_more Good 0 (none_below Good) (long_good 0 48 48 (omega arith) refl (λ s. refl) (refl, refl, refl) (refl, refl, refl)) in
    let b1 : Below Good 2 =
    one_more Good 1 b0 (long_good 1 48 49 (omega arith) refl (λ s. refl) (refl, refl, refl) (refl, refl, refl)) in
    let b2 : Below Good 3 =
    one_more Good 2 b1 (long_good 2 48 50 (omega arith) refl (λ s. refl) (refl, refl, refl) (refl, refl, refl)) in
    let b3 : Below Good 4 =
    one_more Good 3 b2 (long_good 3 48 51 (omega arith) refl (λ s. refl) (refl, refl, refl) (refl, refl, refl)) in
    let b4 : Below Good 5 =
    one_more Good 4 b3 (long_good 4 48 52 (omega arith) refl (λ s. refl) (refl, refl, refl) (refl, refl, refl)) in
    let b5 : Below Good 6 =
    one_more Good 5 b4 (long_good 5 48 53 (omega arith) refl (λ s. refl) (refl, refl, refl) (refl, refl, refl)) in
    let b6 : Below Good 7 =
    one_more Good 6 b5 (long_good 6 48 54 (omega arith) refl (λ s. refl) (refl, refl, refl) (refl, refl, refl)) in
    one_more Good 7 b6 (long_good 7 48 55 (omega arith) refl (λ s. refl) (refl, refl, refl) (refl, refl, refl))

below_16 : Below Good 16
below_16 =
    let b8 : Below Good 9 =
    one_more Good 8 below_8 (short_good 8 98 (omega arith) refl (λ s. refl) refl) in
    let b9 : Below Good 10 =
    one_more Good 9 b8 (short_good 9 116 (omega arith) refl (λ s. refl) refl) in
    let b10 : Below Good 11 =
    one_more Good 10 b9 (short_good 10 110 (omega arith) refl (λ s. refl) refl) in
    let b11 : Below Good 12 =
    one_more Good 11 b10 (long_good 11 48 98 (omega arith) refl (λ s. refl) (refl, refl, refl) (refl, refl, refl)) in
    let b12 : Below Good 13 =
    one_more Good 12 b11 (short_good 12 102 (omega arith) refl (λ s. refl) refl) in
    let b13 : Below Good 14 =
    one_more Good 13 b12 (short_good 13 114 (omega arith) refl (λ s. refl) refl) in
    let b14 : Below Good 15 =
    one_more Good 14 b13 (long_good 14 48 101 (omega arith) refl (λ s. refl) (refl, refl, refl) (refl, refl, refl)) in
    one_more Good 15 b14 (long_good 15 48 102 (omega arith) refl (λ s. refl) (refl, refl, refl) (refl, refl, refl))

below_24 : Below Good 24
below_24 =
    let b16 : Below Good 17 =
    one_more Good 16 below_16 (long_good 16 49 48 (omega arith) refl (λ s. refl) (refl, refl, refl) (refl, refl, refl)) in
    let b17 : Below Good 18 =
    one_more Good 17 b16 (long_good 17 49 49 (omega arith) refl (λ s. refl) (refl, refl, refl) (refl, refl, refl)) in
    let b18 : Below Good 19 =
    one_more Good 18 b17 (long_good 18 49 50 (omega arith) refl (λ s. refl) (refl, refl, refl) (refl, refl, refl)) in
    let b19 : Below Good 20 =
    one_more Good 19 b18 (long_good 19 49 51 (omega arith) refl (λ s. refl) (refl, refl, refl) (refl, refl, refl)) in
    let b20 : Below Good 21 =
    one_more Good 20 b19 (long_good 20 49 52 (omega arith) refl (λ s. refl) (refl, refl, refl) (refl, refl, refl)) in
    let b21 : Below Good 22 =
    one_more Good 21 b20 (long_good 21 49 53 (omega arith) refl (λ s. refl) (refl, refl, refl) (refl, refl, refl)) in
    let b22 : Below Good 23 =
    one_more Good 22 b21 (long_good 22 49 54 (omega arith) refl (λ s. refl) (refl, refl, refl) (refl, refl, refl)) in
    one_more Good 23 b22 (long_good 23 49 55 (omega arith) refl (λ s. refl) (refl, refl, refl) (refl, refl, refl))

below_32 : Below Good 32
below_32 =
    let b24 : Below Good 25 =
    one_more Good 24 below_24 (long_good 24 49 56 (omega arith) refl (λ s. refl) (refl, refl, refl) (refl, refl, refl)) in
    let b25 : Below Good 26 =
    one_more Good 25 b24 (long_good 25 49 57 (omega arith) refl (λ s. refl) (refl, refl, refl) (refl, refl, refl)) in
    let b26 : Below Good 27 =
    one_more Good 26 b25 (long_good 26 49 97 (omega arith) refl (λ s. refl) (refl, refl, refl) (refl, refl, refl)) in
    let b27 : Below Good 28 =
    one_more Good 27 b26 (long_good 27 49 98 (omega arith) refl (λ s. refl) (refl, refl, refl) (refl, refl, refl)) in
    let b28 : Below Good 29 =
    one_more Good 28 b27 (long_good 28 49 99 (omega arith) refl (λ s. refl) (refl, refl, refl) (refl, refl, refl)) in
    let b29 : Below Good 30 =
    one_more Good 29 b28 (long_good 29 49 100 (omega arith) refl (λ s. refl) (refl, refl, refl) (refl, refl, refl)) in
    let b30 : Below Good 31 =
    one_more Good 30 b29 (long_good 30 49 101 (omega arith) refl (λ s. refl) (refl, refl, refl) (refl, refl, refl)) in
    one_more Good 31 b30 (long_good 31 49 102 (omega arith) refl (λ s. refl) (refl, refl, refl) (refl, refl, refl))

byte_reads : (b : ℕ) → Good b
byte_reads b = elim (cases_lt b 32) [
  | inl low ↦ below_32.at b low
  | inr high ↦ by_test (b == 34) (b == 92) refl refl high
]
  where
    by_test : (q s : Bool) → (b == 34) ≡ q → (b == 92) ≡ s → 32 ≤ b → Good b
    by_test true s e f high = subst Good (sym (eqb-true b 34 e)) (short_good 34 34 (omega arith) refl (λ s. refl) refl)
    by_test false true e f high = subst Good (sym (eqb-true b 92 f)) (short_good 92 92 (omega arith) refl (λ s. refl) refl)
    by_test false false e f high =
        let line_feed : (b == 10) ≡ false = ne_eqb b 10 (λ k. omega arith) in
        let carriage : (b == 13) ≡ false = ne_eqb b 13 (λ k. omega arith) in
        let no_end : is_line_end b ≡ false = ap (λ k. k || (b == 13)) line_feed ∙ carriage in
        subst (λ w. ReadsAs w b) (sym (plain_byte b high (eqb-false b 34 e) (eqb-false b 92 f))) (plain_reads b (e, f, no_end))

-- the whole inside of a string
inside_text : (t : List ℕ) (at : ℕ) → line_text at 0 (written_bytes t) None ≡ Ok t
inside_text [] at = refl
inside_text (b ∷ t) at = (byte_reads b).text (written_bytes t) t (inside_text t) at

inside_line : (t : List ℕ) → NoEnds (written_bytes t)
inside_line [] = tt
inside_line (b ∷ t) = (byte_reads b).line (written_bytes t) (inside_line t)

inside_end : (t s : List ℕ) → first_end one_quote false (written_bytes t ++ 34 ∷ s) ≡ Some (length (written_bytes t))
inside_end [] s = refl
inside_end (b ∷ t) s =
    let w : List ℕ = written_byte b in
    let u : List ℕ = written_bytes t in
    ap (first_end one_quote false) (append_assoc w u (34 ∷ s)) ∙ (byte_reads b).finds (u ++ 34 ∷ s) (length u) (inside_end t s)
    ∙ ap Some (sym (length-append w u))

-- its value
whole_inside : (t : List ℕ) → string_inside (written_text t) ≡ written_bytes t
whole_inside t =
    let u : List ℕ = written_bytes t in
    let few : length (written_text t) - 2 ≡ length u = omega (arith, length-append u (34 ∷ [])) in
    ap (λ n. take n (u ++ 34 ∷ [])) few ∙ take-append_seam u (34 ∷ [])

pub text_value : (start : ℕ) (t : List ℕ) → string_value start (written_text t) ≡ Ok t
text_value start t =
    ap (λ u. lines_text (lines_at (start + 1) u)) (whole_inside t)
    ∙ ap lines_text (one_line (start + 1) (written_bytes t) (inside_line t)) ∙ inside_text t (start + 1)

-- three quotation marks don't begin it
quote_test : (c : ℕ) → (c == 34) ≡ false → nat_eq 34 c ≡ false
quote_test c h = ne_eqb 34 c (λ e. eqb-false c 34 h (sym e))

opens_no_more : (c : ℕ) (s : List ℕ) → (c == 34) ≡ false → three_quotes (34 ∷ (34 ∷ (c ∷ s))) ≡ false
opens_no_more c s h = ap (λ b. b && true) (quote_test c h)

opens_once : (s : List ℕ) → one_quote s ≡ false → three_quotes (34 ∷ s) ≡ false
opens_once [] h = refl
opens_once (c ∷ s) h = ap (λ b. b && starts_with nat_eq s (34 ∷ [])) (quote_test c h)

no_three : (t s : List ℕ) → Closed s → three_quotes (written_text t ++ s) ≡ false
no_three [] [] closed = refl
no_three [] (c ∷ s) closed = opens_no_more c s (no_quote c closed)
no_three (b ∷ t) s closed =
    subst (λ u. three_quotes (34 ∷ u) ≡ false)
    (sym (ap (λ u. u ++ s) (append_assoc (written_byte b) (written_bytes t) (34 ∷ []))
    ∙ append_assoc (written_byte b) (written_bytes t ++ 34 ∷ []) s))
    (opens_once (written_byte b ++ ((written_bytes t ++ 34 ∷ []) ++ s)) ((byte_reads b).first ((written_bytes t ++ 34 ∷ []) ++ s)))

text_token : (t s : List ℕ) → Closed s → (start : ℕ) → TokenAt Text start (written_text t ++ s) (length (written_text t))
text_token t s closed start =
    let u : List ℕ = written_bytes t in
    let long : length u + 2 ≡ length (written_text t) = omega (arith, length-append u (34 ∷ [])) in
    let ends : first_end one_quote false ((u ++ 34 ∷ []) ++ s) ≡ Some (length u) =
    ap (first_end one_quote false) (append_assoc u (34 ∷ []) s) ∙ inside_end t s in (
      record { first = refl; not_three = no_three t s closed },
      ap (option_map (λ n. n + 2)) ends ∙ ap Some long,
      subst (λ w. IsOk (string_value start w)) (sym (take-append_seam (written_text t) s))
          (subst (λ r. IsOk r) (sym (text_value start t)) refl),
    )

pub goes_text : {X : Type 0} (Says : Lexeme → X → Type 0) (x : X) (t : List ℕ) {s : List ℕ} {Q : Tokens → Type 0} → Closed s
    → ((u : Lexeme) → u.kind ≡ Text → IsString t u → Says u x) → Goes Q s → Goes (Spells (one Says) x Q) (written_text t ++ s)
goes_text Says x t {s = s} closed says h =
    goes_one Says x Text (written_text t) (omega arith) (λ start. text_token t s closed start)
    (λ u kind text. says u kind (kind, ap (string_value u.start) text ∙ text_value u.start t)) h
