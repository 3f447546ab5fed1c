-- What stands at a place of a text: a token, or a reason for which none does. It is one alone.
use Rattle.std.proofs.Common.{◌≡◌, ℕ, zero, suc, ◌+◌, ◌≤◌, ◌<◌, ◌⊎◌, inl, inr, Bool, true, false, cond, List, [], ◌∷◌, ◌++◌, length, take}
use Rattle.std.proofs.Common.{drop, refl, sym, ap, subst, ◌∙◌, arith, append_assoc, take-append-drop}
use Rattle.std.specs.Prelude.{Option, Some, None, Result, Ok, Err, IsOk, codes}
use Rattle.std.specs.List.{prefix_len}
use Rattle.std.proofs.lemmas.List.{take-take}
use Rattle.sm_tree.specs.Numbers.{IsNumber}
use Rattle.sm_lex.specs.declared.byte.First.{First}
use Rattle.sm_lex.specs.declared.byte.First.TheVariants.{White, Slash, Word as a_word, Number as a_number, Quote as a_quote}
use Rattle.sm_lex.specs.declared.byte.First.TheVariants.{Mark as a_mark, Stray as a_stray}
use Rattle.sm_lex.specs.declared.token.TokenKind.{TokenKind}
use Rattle.sm_lex.specs.declared.token.TokenKind.TheVariants.{Word, Number, Text, Block, Mark}
use Rattle.sm_lex.specs.declared.token.LexRefusal.{LexRefusal}
use Rattle.sm_lex.specs.declared.token.LexRefusal.TheVariants.{Bad, UnclosedString, UnclosedBlock, BadEscape, NoMemory}
use Rattle.sm_lex.specs.Bytes.{FirstIs, is_word_byte, opens_with}
use Rattle.sm_lex.specs.Lines.{line_end_len}
use Rattle.sm_lex.specs.Values.{string_value, block_value}
use Rattle.sm_lex.specs.Tokens.{BeginsNumber, LongestNumber, three_quotes, string_len, block_len, OpensString, OpensBlock, OpensNothing}
use Rattle.sm_lex.specs.Tokens.{TokenAt, LexRefusedAt}
use Rattle.sm_lex.specs.Space.{EndsSpace}
use Rattle.sm_lex.proofs.Classes.{class_ends, slash_ends}
use Rattle.sm_lex.proofs.Ends.{three_are}

-- a prefix of what begins a number begins one
begins_shorter : (s : List ℕ) (a b : ℕ) → a ≤ b → BeginsNumber (take b s) → BeginsNumber (take a s)
begins_shorter s a b le (more, number) =
    let split : take a s ++ drop a (take b s) ≡ take b s = ap (λ t. t ++ drop a (take b s)) (sym (take-take a b s le))
    ∙ take-append-drop a (take b s) in
    (drop a (take b s) ++ more, subst IsNumber (ap (λ t. t ++ more) (sym split) ∙ append_assoc (take a s) (drop a (take b s)) more) number)

not_longer : (s : List ℕ) (n m : ℕ) → LongestNumber s n → LongestNumber s m → n < m → ⊥
not_longer s n m longest other lt = longest.stops (omega (arith, other.within)) (begins_shorter s (n + 1) m (omega arith) other.begins)

one_run : (s : List ℕ) (n m : ℕ) → LongestNumber s n → LongestNumber s m → n ≡ m
one_run s n m longest other = let up = not_longer s n m longest other in let down = not_longer s m n other longest in omega arith

-- a token with its length, or a reason
pub data Verdict : Type 0 where
  token : TokenKind → ℕ → Verdict
  refused : LexRefusal → Verdict

abbrev pub Stands : ℕ → List ℕ → Verdict → Type 0
Stands start s (token k n) = TokenAt k start s n
Stands start s (refused e) = LexRefusedAt e start s

abbrev value_verdict : TokenKind → ℕ → Result (List ℕ) ℕ → Verdict
value_verdict k n (Ok t) = token k n
value_verdict k n (Err p) = refused (BadEscape p)

abbrev string_verdict : ℕ → List ℕ → Option ℕ → Verdict
string_verdict start s None = refused (UnclosedString start)
string_verdict start s (Some n) = value_verdict Text n (string_value start (take n s))

abbrev block_verdict : ℕ → List ℕ → Option ℕ → Verdict
block_verdict start s None = refused (UnclosedBlock start)
block_verdict start s (Some n) = value_verdict Block n (block_value start (take n s))

abbrev opener_verdict : ℕ → List ℕ → ℕ → Verdict
opener_verdict start s zero = refused (Bad (start + 3))
opener_verdict start s (suc e) = block_verdict start s (block_len s)

abbrev quote_verdict : ℕ → List ℕ → Bool → Verdict
quote_verdict start s true = opener_verdict start s (line_end_len (drop 3 s))
quote_verdict start s false = string_verdict start s (string_len s)

-- by the class of the first byte
abbrev Formed : First → ℕ → List ℕ → Verdict → Type 0
Formed White start s v = ⊥
Formed Slash start s v = v ≡ refused (Bad start)
Formed a_word start s v = v ≡ token Word (prefix_len is_word_byte s)
Formed a_number start s v =
    (n : ℕ) × LongestNumber s n × ((IsNumber (take n s) × (v ≡ token Number n)) ⊎
    ((IsNumber (take n s) → ⊥) × (v ≡ refused (Bad (start + n)))))
Formed a_quote start s v = v ≡ quote_verdict start s (three_quotes s)
Formed a_mark start s v = v ≡ token Mark (cond (opens_with s (codes ":=")) 2 1)
Formed a_stray start s v = v ≡ refused (Bad start)

value_ok : (k : TokenKind) (n : ℕ) (r : Result (List ℕ) ℕ) → IsOk r → token k n ≡ value_verdict k n r
value_ok k n (Ok t) h = refl
value_ok k n (Err p) h = absurd (let wrong : false ≡ true = h in cc)

value_bad : (k : TokenKind) (n p : ℕ) (r : Result (List ℕ) ℕ) → r ≡ Err p → refused (BadEscape p) ≡ value_verdict k n r
value_bad k n p r e = ap (value_verdict k n) (sym e)

as_string : (start : ℕ) (s : List ℕ) (v : Verdict) → OpensString s → v ≡ string_verdict start s (string_len s)
    → v ≡ quote_verdict start s (three_quotes s)
as_string start s v h e = e ∙ ap (quote_verdict start s) (sym h.not_three)

opener_some : (start e : ℕ) (s : List ℕ) → 0 < e → opener_verdict start s e ≡ block_verdict start s (block_len s)
opener_some start zero s h = absurd (omega arith)
opener_some start (suc e) s h = refl

as_block : (start : ℕ) (s : List ℕ) (v : Verdict) → OpensBlock s → v ≡ block_verdict start s (block_len s)
    → v ≡ quote_verdict start s (three_quotes s)
as_block start s v h e = e ∙ sym (opener_some start (line_end_len (drop 3 s)) s h.line_end) ∙ ap (quote_verdict start s) (sym h.three)

as_opener : (start : ℕ) (s : List ℕ) → OpensNothing s → refused (Bad (start + 3)) ≡ quote_verdict start s (three_quotes s)
as_opener start s h = ap (opener_verdict start s) (sym h.no_line_end) ∙ ap (quote_verdict start s) (sym h.three)

three_begin : (s : List ℕ) → three_quotes s ≡ true → FirstIs a_quote s
three_begin s e = let h = three_are s e in subst (FirstIs a_quote) (sym h.1) refl

bad_at : (at k : ℕ) → at ≡ k → refused (Bad at) ≡ refused (Bad k)
bad_at at k e = ap (λ p. refused (Bad p)) e

pub formed : (start : ℕ) (s : List ℕ) (v : Verdict) → Stands start s v → (f : First) × FirstIs f s × Formed f start s v
formed start s (token Word n) (first, e) = (a_word, first, ap (token Word) e)
formed start s (token Number n) (first, longest, number) = (a_number, first, (n, longest, inl (number, refl)))
formed start s (token Text n) (h, e, fine) = (
  a_quote,
  h.first,
  as_string start s (token Text n) h
      (value_ok Text n (string_value start (take n s)) fine ∙ ap (string_verdict start s) (sym e)),
)
formed start s (token Block n) (h, e, fine) = (
  a_quote,
  three_begin s h.three,
  as_block start s (token Block n) h
      (value_ok Block n (block_value start (take n s)) fine ∙ ap (block_verdict start s) (sym e)),
)
formed start s (token Mark n) (first, e) = (a_mark, first, ap (token Mark) e)
formed start s (refused (Bad at)) (inl (inl first, e)) = (a_stray, first, bad_at at start e)
formed start s (refused (Bad at)) (inl (inr (first, opens_none), e)) = (Slash, first, bad_at at start e)
formed start s (refused (Bad at)) (inr (inl (n, h, e))) = (a_number, h.first, (n, h.longest, inr (h.no_number, bad_at at (start + n) e)))
formed start s (refused (Bad at)) (inr (inr (h, e))) = (a_quote, three_begin s h.three, bad_at at (start + 3) e ∙ as_opener start s h)
formed start s (refused (UnclosedString at)) (h, e, place) = (
  a_quote,
  h.first,
  as_string start s (refused (UnclosedString at)) h
      (ap (λ p. refused (UnclosedString p)) place ∙ ap (string_verdict start s) (sym e)),
)
formed start s (refused (UnclosedBlock at)) (h, e, place) = (
  a_quote,
  three_begin s h.three,
  as_block start s
      (refused (UnclosedBlock at)) h (ap (λ p. refused (UnclosedBlock p)) place ∙ ap (block_verdict start s) (sym e)),
)
formed start s (refused (BadEscape at)) (n, inl (h, e, bad)) = (
  a_quote,
  h.first,
  as_string start s (refused (BadEscape at)) h
      (value_bad Text n at (string_value start (take n s)) bad ∙ ap (string_verdict start s) (sym e)),
)
formed start s (refused (BadEscape at)) (n, inr (h, e, bad)) = (
  a_quote,
  three_begin s h.three,
  as_block start s
      (refused (BadEscape at)) h (value_bad Block n at (block_value start (take n s)) bad ∙ ap (block_verdict start s) (sym e)),
)
formed start s (refused NoMemory) h = absurd h

one_class : (f g : First) (s : List ℕ) → FirstIs f s → FirstIs g s → f ≡ g
one_class f g [] h k = absurd h
one_class f g (c ∷ s) h k = sym h ∙ k

one_number : (start : ℕ) (s : List ℕ) (v w : Verdict) → Formed a_number start s v → Formed a_number start s w → v ≡ w
one_number start s v w (n, longest, inl (number, e)) (m, other, inl (number_too, f)) = e
    ∙ ap (token Number) (one_run s n m longest other) ∙ sym f
one_number start s v w (n, longest, inl (number, e)) (m, other, inr (none, f)) = absurd
    (none (subst (λ k. IsNumber (take k s)) (one_run s n m longest other) number))
one_number start s v w (n, longest, inr (none, e)) (m, other, inl (number, f)) = absurd
    (none (subst (λ k. IsNumber (take k s)) (one_run s m n other longest) number))
one_number start s v w (n, longest, inr (none, e)) (m, other, inr (none_too, f)) = e
    ∙ ap (λ k. refused (Bad (start + k))) (one_run s n m longest other) ∙ sym f

one_formed : (f : First) (start : ℕ) (s : List ℕ) (v w : Verdict) → Formed f start s v → Formed f start s w → v ≡ w
one_formed White start s v w h k = absurd h
one_formed Slash start s v w h k = h ∙ sym k
one_formed a_word start s v w h k = h ∙ sym k
one_formed a_number start s v w h k = one_number start s v w h k
one_formed a_quote start s v w h k = h ∙ sym k
one_formed a_mark start s v w h k = h ∙ sym k
one_formed a_stray start s v w h k = h ∙ sym k

pub one_verdict : (start : ℕ) (s : List ℕ) (v w : Verdict) → Stands start s v → Stands start s w → v ≡ w
one_verdict start s v w h k =
    let left = formed start s v h in
    let right = formed start s w k in
    one_formed left.0 start s v w left.2 (subst (λ f. Formed f start s w) (one_class right.0 left.0 s right.1 left.1) right.2)

-- what stands somewhere has a byte, and whitespace ends before it
pub some_stands : (start : ℕ) (s : List ℕ) (v : Verdict) → Stands start s v → 0 < length s
some_stands start [] v h = absurd (formed start [] v h).1
some_stands start (c ∷ s) v h = omega arith

pub stands_ends : (start : ℕ) (s : List ℕ) (v : Verdict) → Stands start s v → EndsSpace s
stands_ends start s (refused (Bad at)) (inl (inr (first, opens_none), e)) = slash_ends s first opens_none
stands_ends start s (refused (Bad at)) (inl (inl first, e)) = class_ends a_stray s first (λ e. cc) (λ e. cc)
stands_ends start s (refused (Bad at)) (inr (inl (n, h, e))) = class_ends a_number s h.first (λ e. cc) (λ e. cc)
stands_ends start s (refused (Bad at)) (inr (inr (h, e))) = class_ends a_quote s (three_begin s h.three) (λ e. cc) (λ e. cc)
stands_ends start s (refused (UnclosedString at)) (h, e, place) = class_ends a_quote s h.first (λ e. cc) (λ e. cc)
stands_ends start s (refused (UnclosedBlock at)) (h, e, place) = class_ends a_quote s (three_begin s h.three) (λ e. cc) (λ e. cc)
stands_ends start s (refused (BadEscape at)) (n, inl (h, e, bad)) = class_ends a_quote s h.first (λ e. cc) (λ e. cc)
stands_ends start s (refused (BadEscape at)) (n, inr (h, e, bad)) = class_ends a_quote s (three_begin s h.three) (λ e. cc) (λ e. cc)
stands_ends start s (refused NoMemory) h = absurd h
stands_ends start s (token Word n) (first, e) = class_ends a_word s first (λ e. cc) (λ e. cc)
stands_ends start s (token Number n) (first, longest, number) = class_ends a_number s first (λ e. cc) (λ e. cc)
stands_ends start s (token Text n) (h, e, fine) = class_ends a_quote s h.first (λ e. cc) (λ e. cc)
stands_ends start s (token Block n) (h, e, fine) = class_ends a_quote s (three_begin s h.three) (λ e. cc) (λ e. cc)
stands_ends start s (token Mark n) (first, e) = class_ends a_mark s first (λ e. cc) (λ e. cc)
