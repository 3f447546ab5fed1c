-- A text, wherever it stands and whatever whitespace is before it, has tokens of which something holds. Texts that are put together
-- are taken from their end: what holds of the tokens behind a part is known before that of the part's own.
use Rattle.std.proofs.Common.{◌≡◌, ◌≤◌, ◌<◌, ℕ, ◌+◌, ◌-◌, true, List, [], ◌∷◌, ◌++◌, length, take, drop, None, refl, sym, ap, ap₂}
use Rattle.std.proofs.Common.{inl, inr, subst, ◌∙◌, append_assoc, append-nil, arith, length-drop}
use Rattle.std.specs.Prelude.{slice_range}
use Rattle.std.proofs.Math.Seq.{drop-append_seam, take-append_seam}
use Rattle.std.proofs.lemmas.List.{drop-drop, length-append}
use Rattle.sm_lex.specs.Bytes.{is_idl_white}
use Rattle.sm_lex.specs.Space.{Piece, white, SpacePieces, SkipsSpace, Documents, doc_texts, docs_joined}
use Rattle.sm_lex.specs.Tokens.{Lexeme, TokenAt, TokensLead}
use Rattle.sm_lex.specs.declared.token.TokenKind.{TokenKind}
use Rattle.sm_idl.specs.Productions.{Spaced, Tokens, spaced_from, Production, one, gives, ◌>>=◌, ◌or◌, maybe, each_behind}
use Rattle.sm_idl.specs.Traits.{DocsBefore, documented}
use Rattle.sm_model.specs.Said.{TraitSaid}
use Rattle.std.specs.Prelude.{Some}

-- whitespace without comments
abbrev pub AreWhite : List ℕ → Type 0
AreWhite [] = Unit {0}
AreWhite (c ∷ s) = (is_idl_white c ≡ true) × AreWhite s

white_joined : (a b : List ℕ) → AreWhite a → AreWhite b → AreWhite (a ++ b)
white_joined [] b h k = k
white_joined (c ∷ a) b h k = (h.0, white_joined a b h.1 k)

abbrev whites : List ℕ → List Piece
whites [] = []
whites (c ∷ s) = white c ∷ whites s

white_pieces : (w s : List ℕ) → AreWhite w → SpacePieces (whites w) (w ++ s) s
white_pieces [] s h = refl
white_pieces (c ∷ w) s h = (w ++ s, refl, h.0, white_pieces w s h.1)

skips_white : (w s : List ℕ) → AreWhite w → SkipsSpace (w ++ s) s
skips_white w s h = (whites w, white_pieces w s h)

no_comments : (w : List ℕ) → doc_texts (whites w) ≡ []
no_comments [] = refl
no_comments (c ∷ w) = no_comments w

undocumented : (w : List ℕ) → AreWhite w → Documents w None
undocumented w h = (
  whites w,
  [],
  subst (λ s. SpacePieces (whites w) s []) (append-nil w) (white_pieces w [] h),
  tt,
  sym (ap (docs_joined None) (no_comments w)),
)

-- s, which stands at the place `at`, begins with this token, and then comes the rest
pub record IsAhead (at : ℕ) (s : List ℕ) (t : Spaced) (rest : List ℕ) : Type 0 where
  pub cut : s ≡ t.space ++ (t.token.text ++ rest)
  pub skips : SkipsSpace s (t.token.text ++ rest)
  pub some : 0 < length t.token.text
  pub start : t.token.start ≡ at + length t.space
  pub end : t.token.end ≡ t.token.start + length t.token.text
  pub token : TokenAt t.token.kind t.token.start (t.token.text ++ rest) (length t.token.text)

abbrev pub HasTokens : ℕ → List ℕ → Tokens → Type 0
HasTokens at s [] = SkipsSpace s []
HasTokens at s (t ∷ ts) = (rest : List ℕ) × IsAhead at s t rest × HasTokens t.token.end rest ts

abbrev pub lexemes : Tokens → List Lexeme
lexemes [] = []
lexemes (t ∷ ts) = t.token ∷ lexemes ts

abbrev put_token : List ℕ → Lexeme → Tokens → Tokens
put_token gap x ts = record { space = gap; token = x } ∷ ts

-- in the whole text they stand there
pub record AreThere (text : List ℕ) (at : ℕ) (ts : Tokens) : Type 0 where
  pub to : ℕ
  pub leads : TokensLead text at (lexemes ts) to
  pub ends : SkipsSpace (drop to text) []
  pub same : spaced_from text at (lexemes ts) ≡ ts

pub are_there : (text : List ℕ) (at : ℕ) (s : List ℕ) (ts : Tokens) → at ≤ length text → drop at text ≡ s → HasTokens at s ts
    → AreThere text at ts
are_there text at s [] within e h = record { to = at; leads = refl; ends = subst (λ u. SkipsSpace u []) (sym e) h; same = refl }
are_there text at s (t ∷ ts) within e (rest, h, more) =
    let x : Lexeme = t.token in
    let behind : List ℕ = x.text ++ rest in
    let cut : drop at text ≡ t.space ++ behind = e ∙ h.cut in
    let first : drop (at + length t.space) text ≡ behind =
    sym (drop-drop (length t.space) at text) ∙ ap (drop (length t.space)) cut ∙ drop-append_seam t.space behind in
    let second : drop (at + length t.space + length x.text) text ≡ rest =
    sym (drop-drop (length x.text) (at + length t.space) text) ∙ ap (drop (length x.text)) first ∙ drop-append_seam x.text rest in
    let start : drop x.start text ≡ behind = ap (λ n. drop n text) h.start ∙ first in
    let place : x.end ≡ at + length t.space + length x.text = h.end ∙ ap (λ n. n + length x.text) h.start in
    let end : drop x.end text ≡ rest = ap (λ n. drop n text) place ∙ second in
    let long : length text - at ≡ length t.space + (length x.text + length rest) =
    sym (length-drop at text) ∙ ap length cut ∙ length-append t.space behind ∙ ap (λ n. length t.space + n) (length-append x.text rest) in
    let wide : x.end - x.start ≡ length x.text = omega (arith, h.end) in
    let apart : x.start - at ≡ length t.space = omega (arith, h.start) in
    let inside : x.end ≤ length text = omega (arith, place, long, within) in
    let gap : slice_range text at x.start ≡ t.space =
    ap (λ n. take n (drop at text)) apart ∙ ap (take (length t.space)) cut ∙ take-append_seam t.space behind in
    let tail = are_there text x.end rest ts inside end more in record {
      to = tail.to;
      leads = (
        record {
          between = subst (λ u. SkipsSpace u (drop x.start text)) (sym e) (subst (λ u. SkipsSpace s u) (sym start) h.skips);
          in_order = omega (arith, h.start);
          some_bytes = omega (arith, h.end, h.some);
          inside = inside;
          token = subst (λ u. TokenAt x.kind x.start u (x.end - x.start)) (sym start)
              (subst (λ n. TokenAt x.kind x.start behind n) (sym wide) h.token);
          slice = sym (ap (λ n. take n (drop x.start text)) wide ∙ ap (take (length x.text)) start ∙ take-append_seam x.text rest);
        },
        tail.leads,
      );
      ends = tail.ends;
      same = ap₂ (λ (g : List ℕ) (us : Tokens). put_token g x us) gap tail.same;
    }

-- behind any whitespace, at any place, s has tokens of which Q holds; and no documentation stands before them
pub record Goes (Q : Tokens → Type 0) (s : List ℕ) : Type 0 where
  pub tokens : (gap : List ℕ) → AreWhite gap → (at : ℕ) → (ts : Tokens) × HasTokens at (gap ++ s) ts × DocsBefore ts None × Q ts

pub goes_end : Goes (λ ts. ts ≡ []) []
goes_end = record { tokens = λ gap w at. ([], skips_white gap [] w, refl, refl) }

pub goes_as : {Q R : Tokens → Type 0} {s : List ℕ} → ((ts : Tokens) → Q ts → R ts) → Goes Q s → Goes R s
goes_as f h = record { tokens = λ gap w at. let it = h.tokens gap w at in (it.0, it.1, it.2, f it.0 it.3) }

-- whitespace before it
pub goes_whites : {Q : Tokens → Type 0} {s : List ℕ} (w : List ℕ) → AreWhite w → Goes Q s → Goes Q (w ++ s)
goes_whites {Q = Q} {s = s} w is h = record {
  tokens = λ gap g at. subst (λ u. (ts : Tokens) × HasTokens at u ts × DocsBefore ts None × Q ts) (append_assoc gap w s)
      (h.tokens (gap ++ w) (white_joined gap w g is) at);
}

pub goes_white : {Q : Tokens → Type 0} {s : List ℕ} (c : ℕ) → is_idl_white c ≡ true → Goes Q s → Goes Q (c ∷ s)
goes_white c is h = goes_whites (c ∷ []) (is, tt) h

-- texts that are joined the other way
pub goes_joined : {Q : Tokens → Type 0} (a b c : List ℕ) → Goes Q (a ++ (b ++ c)) → Goes Q ((a ++ b) ++ c)
goes_joined {Q = Q} a b c h = subst (Goes Q) (sym (append_assoc a b c)) h

-- texts of several parts
pub flat_two : (a b c d : List ℕ) → a ++ b ++ c ++ d ≡ a ++ (b ++ (c ++ d))
flat_two a b c d = append_assoc (a ++ b) c d ∙ append_assoc a b (c ++ d)

pub flat_three : (a b c d e : List ℕ) → a ++ b ++ c ++ d ++ e ≡ a ++ (b ++ (c ++ (d ++ e)))
flat_three a b c d e = append_assoc (a ++ b ++ c) d e ∙ flat_two a b c (d ++ e)

pub flat_four : (a b c d e f : List ℕ) → a ++ b ++ c ++ d ++ e ++ f ≡ a ++ (b ++ (c ++ (d ++ (e ++ f))))
flat_four a b c d e f = append_assoc (a ++ b ++ c ++ d) e f ∙ flat_three a b c d (e ++ f)

pub flat_five : (a b c d e f g : List ℕ) → a ++ b ++ c ++ d ++ e ++ f ++ g ≡ a ++ (b ++ (c ++ (d ++ (e ++ (f ++ g)))))
flat_five a b c d e f g = append_assoc (a ++ b ++ c ++ d ++ e) f g ∙ flat_four a b c d e (f ++ g)

pub goes_flat : {Q : Tokens → Type 0} {s t : List ℕ} → s ≡ t → Goes Q t → Goes Q s
goes_flat {Q = Q} e h = subst (Goes Q) (sym e) h

-- the tokens begin with a spelling of x, and Q holds of those behind it
pub record Spells {X : Type 0} (P : Production X) (x : X) (Q : Tokens → Type 0) (s : Tokens) : Type 0 where
  pub rest : Tokens
  pub whole : P.whole x s rest
  pub behind : Q rest

pub goes_value : {X : Type 0} (P : Production X) {x y : X} {Q : Tokens → Type 0} {s : List ℕ} → x ≡ y → Goes (Spells P x Q) s
    → Goes (Spells P y Q) s
goes_value P {Q = Q} {s = s} e h = subst (λ v. Goes (Spells P v Q) s) e h

-- a token
pub goes_one : {X : Type 0} (Says : Lexeme → X → Type 0) (x : X) (kind : TokenKind) (token : List ℕ) {rest : List ℕ} {Q : Tokens → Type 0}
    → 0 < length token → ((start : ℕ) → TokenAt kind start (token ++ rest) (length token))
    → ((t : Lexeme) → t.kind ≡ kind → t.text ≡ token → Says t x) → Goes Q rest → Goes (Spells (one Says) x Q) (token ++ rest)
goes_one Says x kind token {rest = rest} {Q = Q} some is says h = record {
  tokens = λ gap w at.
      let start : ℕ = at + length gap in
      let t : Spaced = record { space = gap; token = record { kind = kind; text = token; start = start; end = start + length token } } in
      let more = h.tokens [] tt (start + length token) in (
        t ∷ more.0,
        (
          rest,
          record {
            cut = refl;
            skips = skips_white gap (token ++ rest) w;
            some = some;
            start = refl;
            end = refl;
            token = is start;
          },
          more.1,
        ),
        undocumented gap w,
        record { rest = more.0; whole = (t, refl, says t.token refl refl); behind = more.3 },
      );
}

-- no token
pub goes_gives : {X : Type 0} (x : X) {Q : Tokens → Type 0} {s : List ℕ} → Goes Q s → Goes (Spells (gives x) x Q) s
goes_gives x h = goes_as (λ ts q. record { rest = ts; whole = (refl, refl); behind = q }) h

-- one production behind the other
pub goes_both : {X Y : Type 0} (p : Production X) (q : X → Production Y) (x : X) {y : Y} {Q : Tokens → Type 0} {s : List ℕ}
    → Goes (Spells p x (Spells (q x) y Q)) s → Goes (Spells (p >>= q) y Q) s
goes_both p q x h = goes_as (λ ts k.
    record { rest = k.behind.rest; whole = (x, k.rest, k.whole, k.behind.whole); behind = k.behind.behind }) h

-- either
pub goes_left : {X : Type 0} (p q : Production X) {x : X} {Q : Tokens → Type 0} {s : List ℕ} → Goes (Spells p x Q) s
    → Goes (Spells (p or q) x Q) s
goes_left p q h = goes_as (λ ts k. record { rest = k.rest; whole = inl k.whole; behind = k.behind }) h

pub goes_right : {X : Type 0} (p q : Production X) {x : X} {Q : Tokens → Type 0} {s : List ℕ} → Goes (Spells q x Q) s
    → Goes (Spells (p or q) x Q) s
goes_right p q h = goes_as (λ ts k. record { rest = k.rest; whole = inr k.whole; behind = k.behind }) h

-- what may be missing
pub goes_missing : {X : Type 0} (p : Production X) {Q : Tokens → Type 0} {s : List ℕ} → Goes Q s → Goes (Spells (maybe p) None Q) s
goes_missing p h = goes_as (λ ts q. record { rest = ts; whole = refl; behind = q }) h

pub goes_there : {X : Type 0} (p : Production X) {x : X} {Q : Tokens → Type 0} {s : List ℕ} → Goes (Spells p x Q) s
    → Goes (Spells (maybe p) (Some x) Q) s
goes_there p h = goes_as (λ ts k. record { rest = k.rest; whole = k.whole; behind = k.behind }) h

-- any number
pub goes_none : {X : Type 0} (p : List X → Production X) (before : List X) {Q : Tokens → Type 0} {s : List ℕ} → Goes Q s
    → Goes (Spells (each_behind p before) [] Q) s
goes_none p before h = goes_as (λ ts q. record { rest = ts; whole = refl; behind = q }) h

pub goes_next : {X : Type 0} (p : List X → Production X) (before : List X) (x : X) (xs : List X) {Q : Tokens → Type 0} {s : List ℕ}
    → Goes (Spells (p before) x (Spells (each_behind p (before ++ x ∷ [])) xs Q)) s → Goes (Spells (each_behind p before) (x ∷ xs) Q) s
goes_next p before x xs h = goes_as (λ ts k.
    record { rest = k.behind.rest; whole = (k.rest, k.whole, k.behind.whole); behind = k.behind.behind }) h

-- without documentation
pub goes_documented : {X : Type 0} (p : List TraitSaid → Production X) {x : X} {Q : Tokens → Type 0} {s : List ℕ}
    → Goes (Spells (p []) x Q) s → Goes (Spells (documented p) x Q) s
goes_documented p h = record {
  tokens = λ gap w at.
      let it = h.tokens gap w at in
      (it.0, it.1, it.2, record { rest = it.3.rest; whole = (None, it.2, it.3.whole); behind = it.3.behind });
}
