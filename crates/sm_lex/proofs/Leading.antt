-- From token to token: what is said of the tokens so far, and of what comes next.
use Rattle.std.proofs.Common.{◌≡◌, ℕ, ◌+◌, ◌-◌, ◌≤◌, ◌<◌, true, List, [], ◌∷◌, ◌++◌, length, take, drop, refl, sym, ap, subst, ◌∙◌, arith}
use Rattle.std.proofs.Common.{length-drop}
use Rattle.std.specs.Prelude.{IsUtf8, Err, map}
use Rattle.std.specs.Str.{IsCharBoundary}
use Rattle.std.specs.List.{position_or_len}
use Rattle.std.proofs.lemmas.List.{drop-drop}
use Rattle.std.proofs.lemmas.List.Folds.{length-prefix_len}
use Rattle.std.proofs.lemmas.Str.{IsCharBoundary-after_ascii, IsCharBoundary-from_drop, IsUtf8-drop}
use Rattle.std.proofs.lemmas.Bool.Decides.{nat_tests}
use Rattle.sm_lex.specs.declared.token.TokenKind.{TokenKind}
use Rattle.sm_lex.specs.declared.token.Token.{Token}
use Rattle.sm_lex.specs.declared.token.LexRefusal.{LexRefusal}
use Rattle.sm_lex.specs.declared.token.LexRefusal.TheVariants.{Bad, UnclosedString, UnclosedBlock, BadEscape, NoMemory}
use Rattle.sm_lex.specs.Bytes.{is_idl_white}
use Rattle.sm_lex.specs.Space.{Piece, white, comment, SpacePieces, SkipsSpace, is_line_feed}
use Rattle.sm_lex.specs.Tokens.{Lexeme, lexeme_of, IsNextToken, TokensLead, LexRefused, LexRefusedAt, TokenAt}
use Rattle.sm_lex.specs.Answers.{Lexes}
use Rattle.sm_lex.proofs.LineCuts.{boundary_before}

-- one token more
leads_push : (text : List ℕ) (at to : ℕ) (xs : List Lexeme) (x : Lexeme) → TokensLead text at xs to → IsNextToken text to x
    → TokensLead text at (xs ++ x ∷ []) x.end
leads_push text at to [] x e next = (subst (λ k. IsNextToken text k x) (sym e) next, refl)
leads_push text at to (y ∷ ys) x (first, more) next = (first, leads_push text y.end to ys x more next)

map_push : (ts : List Token) (t : Token) → map lexeme_of (ts ++ t ∷ []) ≡ map lexeme_of ts ++ lexeme_of t ∷ []
map_push [] t = refl
map_push (u ∷ ts) t = ap (λ xs. lexeme_of u ∷ xs) (map_push ts t)

pub leads_on : (text : List ℕ) (to : ℕ) (ts us : List Token) (t : Token) → us ≡ ts ++ t ∷ [] → TokensLead text 0 (map lexeme_of ts) to
    → IsNextToken text to (lexeme_of t) → TokensLead text 0 (map lexeme_of us) t.end
leads_on text to ts us t pushed leads next = subst (λ xs. TokensLead text 0 xs t.end) (sym (ap (map lexeme_of) pushed ∙ map_push ts t))
    (leads_push text 0 to (map lexeme_of ts) (lexeme_of t) leads next)

-- what stands behind whitespace, in the text
pub behind_space : (text rest behind : List ℕ) (at space : ℕ) → rest ≡ drop at text → behind ≡ drop space rest
    → behind ≡ drop (at + space) text
behind_space text rest behind at space rest_is behind_is = behind_is ∙ ap (drop space) rest_is ∙ drop-drop space at text

pub is_next : (text rest behind slice : List ℕ) (at space len : ℕ) (kind : TokenKind) → rest ≡ drop at text → at ≤ length text
    → space ≤ length rest → SkipsSpace rest (drop space rest) → behind ≡ drop space rest
    → 0 < len → len ≤ length behind → TokenAt kind (at + space) behind len → slice ≡ take len behind
    → IsNextToken text at (record { kind = kind; text = slice; start = at + space; end = at + space + len })
is_next text rest behind slice at space len kind rest_is within few skips behind_is some fits token slice_is =
    let here = behind_space text rest behind at space rest_is behind_is in
    let count : at + space + len - (at + space) ≡ len = omega arith in
    record {
      between = subst (λ t. SkipsSpace t (drop (at + space) text)) rest_is (subst (SkipsSpace rest) (sym behind_is ∙ here) skips);
      in_order = omega arith;
      some_bytes = omega arith;
      inside = omega (arith, ap length rest_is, length-drop at text, ap length behind_is, length-drop space rest);
      token = subst (λ n. TokenAt kind (at + space) (drop (at + space) text) n) (sym count)
          (subst (λ t. TokenAt kind (at + space) t len) here token);
      slice = slice_is ∙ ap (take len) here ∙ ap (λ n. take n (drop (at + space) text)) (sym count);
    }

-- a token whose fields are these
pub same_lexeme : (t : Token) (kind : TokenKind) (slice : List ℕ) (start end : ℕ) → t.kind ≡ kind → t.text.now ≡ slice
    → t.start ≡ start → t.end ≡ end → record { kind = kind; text = slice; start = start; end = end } ≡ lexeme_of t
same_lexeme t kind slice start end k s a b i = record { kind = sym k i; text = sym s i; start = sym a i; end = sym b i }

white_is_ascii : (c : ℕ) → is_idl_white c ≡ true → c < 128
white_is_ascii c e = grind (arith, nat_tests)

-- whitespace and comments leave whole characters behind
pub space_utf8 : (ps : List Piece) (s r : List ℕ) → SpacePieces ps s r → IsUtf8 s → IsUtf8 r
space_utf8 [] s r e u = subst (λ t. IsUtf8 t) e u
space_utf8 (white c ∷ ps) s r (s1, e, w, more) u =
    let v : IsUtf8 (c ∷ s1) = subst (λ t. IsUtf8 t) e u in
    space_utf8 ps s1 r more (IsUtf8-drop (c ∷ s1) 1 v (IsCharBoundary-after_ascii (c ∷ s1) 0 v (omega arith) (white_is_ascii c w)))
space_utf8 (comment t ∷ ps) s r (s1, e, t_is, more) u =
    let v : IsUtf8 (47 ∷ (47 ∷ s1)) = subst (λ t. IsUtf8 t) e u in
    let w : IsUtf8 s1 = IsUtf8-drop (47 ∷ (47 ∷ s1)) 2 v (IsCharBoundary-after_ascii (47 ∷ (47 ∷ s1)) 1 v (omega arith) (omega arith)) in
    let len : length t ≡ position_or_len is_line_feed s1 = ap length t_is ∙ length-prefix_len _ s1 in
    let cut : IsCharBoundary s1 (length t) = subst (IsCharBoundary s1) (sym len)
    (boundary_before is_line_feed s1 (λ c h. let line_feed : c ≡ 10 = grind (arith, nat_tests) in omega arith)) in
    space_utf8 ps (drop (length t) s1) r more (IsUtf8-drop s1 (length t) w cut)

pub space_cut : (s : List ℕ) (n : ℕ) → n ≤ length s → SkipsSpace s (drop n s) → IsUtf8 s → IsCharBoundary s n
space_cut s n within (ps, h) u = IsCharBoundary-from_drop s n within (space_utf8 ps s (drop n s) h u)

pub refused_here : (text rest behind : List ℕ) (at space : ℕ) (xs : List Lexeme) (e : LexRefusal) → rest ≡ drop at text → at ≤ length text
    → space ≤ length rest → SkipsSpace rest (drop space rest) → behind ≡ drop space rest
    → TokensLead text 0 xs at → LexRefusedAt e (at + space) behind → LexRefused e text
refused_here text rest behind at space xs e rest_is within few skips behind_is leads refused =
    let here = behind_space text rest behind at space rest_is behind_is in (
      xs,
      at,
      at + space,
      leads,
      subst (λ t. SkipsSpace t (drop (at + space) text)) rest_is (subst (SkipsSpace rest) (sym behind_is ∙ here) skips),
      omega (arith, ap length rest_is, length-drop at text),
      subst (LexRefusedAt e (at + space)) here refused,
    )

pub lexes : (text : List ℕ) (e : LexRefusal) → LexRefused e text → Lexes text (Err e)
lexes text (Bad at) h = h
lexes text (UnclosedString at) h = h
lexes text (UnclosedBlock at) h = h
lexes text (BadEscape at) h = h
lexes text NoMemory h = tt
