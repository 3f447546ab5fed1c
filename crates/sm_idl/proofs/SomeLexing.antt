-- A text that is UTF-8 has tokens, or a reason why it has none: it can't be that there is neither.
use Rattle.std.proofs.Common.{◌≡◌, ℕ, zero, suc, ◌+◌, ◌-◌, ◌≤◌, ◌<◌, inl, inr, Bool, true, false, cond, List, [], ◌∷◌, length, take, drop}
use Rattle.std.proofs.Common.{refl, sym}
use Rattle.std.proofs.Common.{ap, subst, ◌∙◌, ◌&&◌, arith, length-drop, eqb, nat_eq, true≢false}
use Rattle.std.specs.Prelude.{Option, Some, None, Result, Ok, Err, IsOk, IsUtf8, codes, slice_range}
use Rattle.std.specs.List.{before_first, position_or_len, prefix_len}
use Rattle.std.specs.Option.{option_map}
use Rattle.std.specs.Str.{IsCharBoundary}
use Rattle.std.proofs.lemmas.Bool.Decides.{nat_tests}
use Rattle.std.proofs.lemmas.List.{drop-drop}
use Rattle.std.proofs.lemmas.List.Elements.{All-head}
use Rattle.std.proofs.lemmas.List.Folds.{length-prefix_len}
use Rattle.std.proofs.lemmas.List.Sums.{prefix_len-le-length}
use Rattle.std.proofs.lemmas.Str.{IsUtf8-drop, IsCharBoundary-start}
use Rattle.sm_lex.specs.declared.byte.First.{First}
use Rattle.sm_lex.specs.declared.byte.First.TheVariants.{White, Slash, Word as a_word, Number as a_number, Quote as a_quote, Mark as a_mark}
use Rattle.sm_lex.specs.declared.byte.First.TheVariants.{Stray as a_stray}
use Rattle.sm_lex.specs.declared.token.TokenKind.{TokenKind}
use Rattle.sm_lex.specs.declared.token.TokenKind.TheVariants.{Word, Number, Text, Block, Mark}
use Rattle.sm_lex.specs.declared.token.LexRefusal.{LexRefusal}
use Rattle.sm_lex.specs.declared.token.LexRefusal.TheVariants.{Bad, UnclosedString, UnclosedBlock, BadEscape}
use Rattle.sm_lex.specs.Answers.{IsWhole}
use Rattle.sm_lex.specs.Bytes.{first_of, FirstIs, is_idl_white, begins_word, begins_number, begins_mark, is_word_byte, opens_with}
use Rattle.sm_lex.specs.Lines.{line_end_len}
use Rattle.sm_lex.specs.Space.{white, comment, SpacePieces, SkipsSpace, EndsSpace, is_line_feed}
use Rattle.sm_lex.specs.Tokens.{BeginsNumber, LongestNumber, three_quotes, string_len, block_len, OpensString, OpensBlock, TokenAt}
use Rattle.sm_lex.specs.Tokens.{LexRefusedAt}
use Rattle.sm_lex.specs.Tokens.{Lexeme, IsNextToken, TokensLead, TokensSpell, LexRefused, first_end, one_quote}
use Rattle.sm_lex.specs.Values.{string_value, block_value}
use Rattle.sm_lex.proofs.Leading.{space_utf8}
use Rattle.sm_lex.proofs.Measured.{IsFound, found_word, found_number, broken_number, found_mark}
use Rattle.sm_lex.proofs.Wholes.{cut_and_shape, all_whole}

-- white space and comments that stand first
record Behind (s : List ℕ) : Type 0 where
  skip : ℕ
  within : skip ≤ length s
  skips : SkipsSpace s (drop skip s)
  ends : EndsSpace (drop skip s)

white_behind : (c : ℕ) (s : List ℕ) → is_idl_white c ≡ true → Behind s → Behind (c ∷ s)
white_behind c s w b = record {
  skip = suc b.skip;
  within = omega (arith, b.within);
  skips = (white c ∷ b.skips.0, (s, refl, w, b.skips.1));
  ends = b.ends;
}

comment_behind : (s : List ℕ) → Behind (drop (length (before_first is_line_feed s)) s) → Behind (47 ∷ (47 ∷ s))
comment_behind s b =
    let t = before_first is_line_feed s in
    let n = length t in
    let len : n ≡ position_or_len is_line_feed s = length-prefix_len _ s in
    let most : position_or_len is_line_feed s ≤ length s = prefix_len-le-length _ s in
    let few : n ≤ length s = omega (arith, len, most) in
    let same : drop b.skip (drop n s) ≡ drop (n + b.skip) s = drop-drop b.skip n s in
    record {
      skip = suc (suc (n + b.skip));
      within = omega (arith, b.within, few, length-drop n s);
      skips = (comment t ∷ b.skips.0, (s, refl, refl, subst (λ r. SpacePieces b.skips.0 (drop n s) r) same b.skips.1));
      ends = subst EndsSpace same b.ends;
    }

none_behind : (s : List ℕ) → EndsSpace s → Behind s
none_behind s e = record { skip = 0; within = omega arith; skips = ([], refl); ends = e }

and_nothing : (b : Bool) → (b && false) ≡ false
and_nothing true = refl
and_nothing false = refl

slashes : (c d : ℕ) (s : List ℕ) → opens_with (c ∷ (d ∷ s)) (codes "//") ≡ true → c ∷ (d ∷ s) ≡ 47 ∷ (47 ∷ s)
slashes c d s h =
    let first : c ≡ 47 = grind (arith, nat_tests) in
    let second : d ≡ 47 = grind (arith, nat_tests) in
    ap (λ x. x ∷ (d ∷ s)) first ∙ ap (λ x. 47 ∷ (x ∷ s)) second

behind : (fuel : ℕ) (s : List ℕ) → length s ≤ fuel → Behind s
behind fuel [] few = none_behind [] tt
behind zero (c ∷ s) few = absurd (omega (arith, few))
behind (suc fuel) (c ∷ s) few =
    by_white (is_idl_white c) refl (λ r le. behind fuel r le)
  where
    by_slashes : (s : List ℕ) (b : Bool) → opens_with (c ∷ s) (codes "//") ≡ b → length (c ∷ s) ≤ suc fuel → is_idl_white c ≡ false
        → ((r : List ℕ) → length r ≤ fuel → Behind r) → Behind (c ∷ s)
    by_slashes s false e le w rec = none_behind (c ∷ s) (w, e)
    by_slashes [] true e le w rec = absurd (true≢false (sym e ∙ and_nothing (nat_eq 47 c)))
    by_slashes (d ∷ s) true e le w rec =
        subst Behind (sym (slashes c d s e))
        (comment_behind s (rec (drop (length (before_first is_line_feed s)) s) (omega (
          arith,
          le,
          length-drop (length
              (before_first is_line_feed s)) s,
        ))))

    by_white : (b : Bool) → is_idl_white c ≡ b → ((r : List ℕ) → length r ≤ fuel → Behind r) → Behind (c ∷ s)
    by_white true w rec = white_behind c s w (rec s (omega (arith, few)))
    by_white false w rec = by_slashes s (opens_with (c ∷ s) (codes "//")) refl few w rec

-- one number is the longest
some_number : BeginsNumber []
some_number = (
  48 ∷ [],
  record {
    minus = [];
    whole = 48 ∷ [];
    fraction = [];
    exponent = [];
    parts = refl;
    is_minus = inl refl;
    is_int = inl refl;
    is_fraction = inl refl;
    is_exponent = inl refl;
  },
)

longest_from : (s : List ℕ) → ((n : ℕ) → LongestNumber s n → ⊥) → (k n : ℕ) → n + k ≡ length s → BeginsNumber (take n s) → ⊥
longest_from s none zero n same begins =
    none n (record { within = omega (arith, same); begins = begins; stops = λ lt b. absurd (omega (arith, same, lt)) })
longest_from s none (suc k) n same begins =
    none n (record {
      within = omega (arith, same);
      begins = begins;
      stops = λ lt b. longest_from s none k (n + 1) (omega (arith, same)) b;
    })

-- a token or a reason
module _ (start : ℕ) (s : List ℕ) (u : IsUtf8 s) (found : (k : TokenKind) (n : ℕ) → IsFound s n (TokenAt k start s n) → ⊥)
    (refused : (e : LexRefusal) → LexRefusedAt e start s → ⊥) where
  counted : (k n : ℕ) (o : Option ℕ) → 0 < k → option_map (λ m. m + k) o ≡ Some n → 0 < n
  counted k n None some e = absurd (none_there n e)
    where
      none_there : (n : ℕ) → None ≡ Some n → ⊥
      none_there n e = cc
  counted k n (Some m) some e = let same : m + k ≡ n = cc in omega (arith, same, some)

  take_token : (k : TokenKind) (n : ℕ) → 0 < n → TokenAt k start s n → ⊥
  take_token k n some token =
      let cut = (cut_and_shape k start n s (take n s) u token refl).0 in
      found k n (some, cut.0, cut, token)

  by_block : OpensBlock s → (o : Option ℕ) → block_len s ≡ o → ⊥
  by_block opens None e = refused (UnclosedBlock start) (opens, e, refl)
  by_block opens (Some n) e = by_value (block_value start (take n s)) refl
    where
      by_value : (r : Result (List ℕ) ℕ) → block_value start (take n s) ≡ r → ⊥
      by_value (Ok t) v = take_token Block n (counted 6 n (first_end three_quotes false (drop 3 s)) (omega arith) e)
          (opens, e, subst (λ r. IsOk r) (sym v) refl)
      by_value (Err p) v = refused (BadEscape p) (n, inr (opens, e, v))

  by_string : OpensString s → (o : Option ℕ) → string_len s ≡ o → ⊥
  by_string opens None e = refused (UnclosedString start) (opens, e, refl)
  by_string opens (Some n) e = by_value (string_value start (take n s)) refl
    where
      by_value : (r : Result (List ℕ) ℕ) → string_value start (take n s) ≡ r → ⊥
      by_value (Ok t) v = take_token Text n (counted 2 n (first_end one_quote false (drop 1 s)) (omega arith) e)
          (opens, e, subst (λ r. IsOk r) (sym v) refl)
      by_value (Err p) v = refused (BadEscape p) (n, inl (opens, e, v))

  by_opener : three_quotes s ≡ true → (e : ℕ) → line_end_len (drop 3 s) ≡ e → ⊥
  by_opener three zero is = refused (Bad (start + 3)) (inr (inr (record { three = three; no_line_end = is }, refl)))
  by_opener three (suc e) is = by_block (record { three = three; line_end = omega (arith, is) }) (block_len s) refl

  by_quotes : FirstIs a_quote s → (b : Bool) → three_quotes s ≡ b → ⊥
  by_quotes first true e = by_opener e (line_end_len (drop 3 s)) refl
  by_quotes first false e = by_string (record { first = first; not_three = e }) (string_len s) refl

  by_number : FirstIs a_number s → (n : ℕ) → LongestNumber s n → ⊥
  by_number first n longest =
      refused (Bad (start + n)) (inr (inl (
        n,
        broken_number n s first longest (λ number.
            found Number n (found_number start n s u first longest number)),
        refl,
      )))

  by_class : (f : First) → FirstIs f s → (FirstIs White s → ⊥) → (FirstIs Slash s → opens_with s (codes "//") ≡ false) → ⊥
  by_class White first no_white slash = no_white first
  by_class Slash first no_white slash = refused (Bad start) (inl (inr (first, slash first), refl))
  by_class a_word first no_white slash = found Word (prefix_len is_word_byte s) (found_word start
      (prefix_len is_word_byte s) s u first refl)
  by_class a_number first no_white slash = longest_from s (by_number first) (length s) 0 (omega arith) some_number
  by_class a_quote first no_white slash = by_quotes first (three_quotes s) refl
  by_class a_mark first no_white slash =
      found Mark (cond (opens_with s (codes ":=")) 2 1) (found_mark start (cond (opens_with s (codes ":=")) 2 1) s u first refl)
  by_class a_stray first no_white slash = refused (Bad start) (inl (inl first, refl))

not_white : (a b d e f : Bool) → cond a Slash (cond b a_word (cond d a_number (cond e a_quote (cond f a_mark a_stray)))) ≡ White → ⊥
not_white true b d e f h = cc
not_white false true d e f h = cc
not_white false false true e f h = cc
not_white false false false true f h = cc
not_white false false false false true h = cc
not_white false false false false false h = cc

white_is : (c : ℕ) → is_idl_white c ≡ false → first_of c ≡ White → ⊥
white_is c w h =
    not_white (eqb c 47) (begins_word c) (begins_number c) (eqb c 34) (begins_mark c)
    (sym (ap (λ b. cond b White (cond (eqb c 47) Slash (cond (begins_word c) a_word (cond (begins_number c) a_number
    (cond (eqb c 34) a_quote (cond (begins_mark c) a_mark a_stray)))))) w) ∙ h)

some_verdict : (start : ℕ) (s : List ℕ) → IsUtf8 s → 0 < length s → EndsSpace s
    → ((k : TokenKind) (n : ℕ) → IsFound s n (TokenAt k start s n) → ⊥) → ((e : LexRefusal) → LexRefusedAt e start s → ⊥) → ⊥
some_verdict start [] u some ends found refused = absurd (omega (arith, some))
some_verdict start (c ∷ s) u some ends found refused =
    by_class start (c ∷ s) u found refused (first_of c) refl (white_is c ends.0) (λ first. ends.1)

-- from a place of the text
module _ (text : List ℕ) (u : IsUtf8 text) where
  next_token : (at start n : ℕ) (k : TokenKind) → at ≤ start → SkipsSpace (drop at text) (drop start text)
      → IsFound (drop start text) n (TokenAt k start (drop start text) n)
      → IsNextToken text at (record { kind = k; text = slice_range text start (start + n); start = start; end = start + n })
  next_token at start n k order skips (some, within, cut, token) =
      let count : n ≡ start + n - start = omega arith in
      record {
        between = skips;
        in_order = order;
        some_bytes = omega (arith, some);
        inside = omega (arith, some, within, length-drop start text);
        token = subst (λ m. TokenAt k start (drop start text) m) count token;
        slice = refl;
      }

  next_cut : (at : ℕ) (x : Lexeme) → IsCharBoundary text at → IsNextToken text at x → IsCharBoundary text x.end
  next_cut at x cut next =
      (All-head (IsWhole text) x [] (all_whole text at x.end (x ∷ []) (IsUtf8-drop text at u cut) (next, refl))).end

  from : (fuel at : ℕ) → length text < at + fuel → IsCharBoundary text at
      → ((xs : List Lexeme) (to : ℕ) → TokensLead text at xs to → SkipsSpace (drop to text) [] → ⊥)
      → ((e : LexRefusal) (xs : List Lexeme) (to start : ℕ) → TokensLead text at xs to → SkipsSpace (drop to text) (drop start text)
      → start ≤ length text → LexRefusedAt e start (drop start text) → ⊥) → ⊥
  from zero at few cut spelled refused = absurd (omega (arith, few, cut.0))
  from (suc fuel) at few cut spelled refused =
      let b = behind (length (drop at text)) (drop at text) (omega arith) in
      let start = at + b.skip in
      let here : drop b.skip (drop at text) ≡ drop start text = drop-drop b.skip at text in
      let skips : SkipsSpace (drop at text) (drop start text) = subst (SkipsSpace (drop at text)) here b.skips in
      let within : start ≤ length text = omega (arith, b.within, length-drop at text, cut.0) in
      by_rest start (drop start text) refl (omega arith) skips within (subst EndsSpace here b.ends)
      (λ x next. from fuel x.end (omega (arith, few, next.in_order, next.some_bytes)) (next_cut at x cut next)
      (λ xs to leads ends. spelled (x ∷ xs) to (next, leads) ends)
      (λ e xs to start leads skips within reason. refused e (x ∷ xs) to start (next, leads) skips within reason))
    where
      by_rest : (start : ℕ) (r : List ℕ) → r ≡ drop start text → at ≤ start → SkipsSpace (drop at text) (drop start text)
          → start ≤ length text
          → EndsSpace (drop start text) → ((x : Lexeme) → IsNextToken text at x → ⊥) → ⊥
      by_rest start [] is order skips within ends more = spelled [] at refl (subst (SkipsSpace (drop at text)) (sym is) skips)
      by_rest start (c ∷ r) is order skips within ends more =
          let some : 0 < length (drop start text) = omega (arith, ap length is) in
          some_verdict start (drop start text) (space_utf8 skips.0 (drop at text) (drop start text) skips.1
          (IsUtf8-drop text at u cut)) some
          ends (λ k n found. more _ (next_token at start n k order skips found))
          (λ e reason. refused e [] at start refl skips within reason)

-- a text that is UTF-8 has tokens, or a reason why it has none
pub some_lexing : (text : List ℕ) → IsUtf8 text → ((xs : List Lexeme) → TokensSpell xs text → ⊥)
    → ((e : LexRefusal) → LexRefused e text → ⊥) → ⊥
some_lexing text u spelled refused =
    from text u (suc (length text)) 0 (omega arith) (IsCharBoundary-start text u) (λ xs to leads ends. spelled xs (to, leads, ends))
    (λ e xs to start leads skips within reason. refused e (xs, to, start, leads, skips, within, reason))
