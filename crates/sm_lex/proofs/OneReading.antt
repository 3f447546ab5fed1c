-- A text is spelled by one list of tokens, or refused for one reason.
use Rattle.std.proofs.Common.{◌≡◌, ℕ, ◌-◌, ◌≤◌, List, [], ◌∷◌, length, drop, refl, sym, ap, subst, ◌∙◌, arith, length-drop}
use Rattle.std.specs.Prelude.{slice_range}
use Rattle.sm_lex.specs.declared.token.LexRefusal.{LexRefusal}
use Rattle.sm_lex.specs.Space.{SkipsSpace}
use Rattle.sm_lex.specs.Tokens.{Lexeme, IsNextToken, TokensLead, LexRefused}
use Rattle.sm_lex.specs.Laws.{OneReading, OneRefusal, SpelledOrRefused}
use Rattle.sm_lex.proofs.OneSpace.{one_space}
use Rattle.sm_lex.proofs.OneVerdict.{Verdict, token, refused, Stands, one_verdict, some_stands, stands_ends}

-- behind whitespace, at the place `start`, this comes
pub record Comes (text : List ℕ) (at start : ℕ) (v : Verdict) : Type 0 where
  pub between : SkipsSpace (drop at text) (drop start text)
  pub inside : start ≤ length text
  pub stands : Stands start (drop start text) v

same_start : (text : List ℕ) (a b : ℕ) → a ≤ length text → b ≤ length text → drop a text ≡ drop b text → a ≡ b
same_start text a b h k e = omega (arith, length-drop a text, length-drop b text, ap length e)

one_start : (text : List ℕ) (at a b : ℕ) (v w : Verdict) → Comes text at a v → Comes text at b w → a ≡ b
one_start text at a b v w h k =
    same_start text a b h.inside k.inside
    (one_space h.between.0 k.between.0 (drop at text) (drop a text) (drop b text) h.between.1 k.between.1
    (stands_ends a (drop a text) v h.stands) (stands_ends b (drop b text) w k.stands)).1

one_comes : (text : List ℕ) (at a b : ℕ) (v w : Verdict) → Comes text at a v → Comes text at b w → v ≡ w
one_comes text at a b v w h k = one_verdict a (drop a text) v w h.stands
    (subst (λ n. Stands n (drop n text) w) (sym (one_start text at a b v w h k)) k.stands)

-- at the end of the text nothing comes
none_comes : (text : List ℕ) (at start : ℕ) (v : Verdict) → Comes text at start v → SkipsSpace (drop at text) [] → ⊥
none_comes text at start v h k =
    let empty : drop start text ≡ [] = (one_space h.between.0 k.0 (drop at text) (drop start text) [] h.between.1 k.1
    (stands_ends start (drop start text) v h.stands) tt).1 in
    let some = some_stands start (drop start text) v h.stands in
    absurd (omega (arith, ap length empty))

next_comes : (text : List ℕ) (at : ℕ) (x : Lexeme) → IsNextToken text at x → Comes text at x.start (token x.kind (x.end - x.start))
next_comes text at x h = record { between = h.between; inside = omega (arith, h.some_bytes, h.inside); stands = h.token }

-- how tokens go on: to the end of the text, or to a reason
data End : Type 0 where
  spelled : End
  stopped : LexRefusal → End

abbrev EndsAt : List ℕ → ℕ → End → Type 0
EndsAt text to spelled = SkipsSpace (drop to text) []
EndsAt text to (stopped e) = (start : ℕ) × Comes text to start (refused e)

token_kind : (k l : Verdict) (a b : Lexeme) → k ≡ l → k ≡ token a.kind (a.end - a.start) → l ≡ token b.kind (b.end - b.start)
    → (a.kind ≡ b.kind) × (a.end - a.start ≡ b.end - b.start)
token_kind k l a b e f g = let both : token a.kind (a.end - a.start) ≡ token b.kind (b.end - b.start) = sym f ∙ e ∙ g in (cc, cc)

one_token : (text : List ℕ) (at : ℕ) (x y : Lexeme) → IsNextToken text at x → IsNextToken text at y → x ≡ y
one_token text at x y h k =
    let left = next_comes text at x h in
    let right = next_comes text at y k in
    let starts = one_start text at x.start y.start (token x.kind (x.end - x.start)) (token y.kind (y.end - y.start)) left right in
    let tokens = token_kind (token x.kind (x.end - x.start)) (token y.kind (y.end - y.start)) x y
    (one_comes text at x.start y.start (token x.kind (x.end - x.start)) (token y.kind (y.end - y.start)) left right) refl refl in
    let ends : x.end ≡ y.end = omega (arith, starts, tokens.1, h.some_bytes, k.some_bytes) in
    let texts : x.text ≡ y.text = h.slice ∙ (λ i. slice_range text (starts i) (ends i)) ∙ sym k.slice in
    λ i. record { kind = tokens.0 i; text = texts i; start = starts i; end = ends i }

one_way : (text : List ℕ) (xs ys : List Lexeme) (at to go : ℕ) (v w : End) → TokensLead text at xs to → EndsAt text to v
    → TokensLead text at ys go → EndsAt text go w → (xs ≡ ys) × (v ≡ w)
one_way text [] [] at to go spelled spelled e h f k = (refl, refl)
one_way text [] [] at to go spelled (stopped r) e h f (start, k) = absurd
    (none_comes text go start (refused r) k (subst (λ n. SkipsSpace (drop n text) []) (sym e ∙ f) h))
one_way text [] [] at to go (stopped r) spelled e (start, h) f k = absurd
    (none_comes text to start (refused r) h (subst (λ n. SkipsSpace (drop n text) []) (sym f ∙ e) k))
one_way text [] [] at to go (stopped r) (stopped q) e (start, h) f (begin, k) =
    let both : refused r ≡ refused q = one_comes text to start begin (refused r) (refused q) h
    (subst (λ n. Comes text n begin (refused q)) (sym f ∙ e) k) in
    let same : r ≡ q = cc in
    (refl, ap stopped same)
one_way text [] (y ∷ ys) at to go spelled w e h (k, more) l = absurd
    (none_comes text at y.start (token y.kind (y.end - y.start)) (next_comes text at y k)
    (subst (λ n. SkipsSpace (drop n text) []) (sym e) h))
one_way text [] (y ∷ ys) at to go (stopped r) w e (start, h) (k, more) l =
    let both : refused r ≡ token y.kind (y.end - y.start) = one_comes text at start y.start (refused r)
    (token y.kind (y.end - y.start)) (subst (λ n. Comes text n start (refused r)) (sym e) h) (next_comes text at y k) in
    absurd cc
one_way text (x ∷ xs) [] at to go v spelled (h, more) l e k = absurd
    (none_comes text at x.start (token x.kind (x.end - x.start)) (next_comes text at x h)
    (subst (λ n. SkipsSpace (drop n text) []) (sym e) k))
one_way text (x ∷ xs) [] at to go v (stopped r) (h, more) l e (start, k) =
    let both : refused r ≡ token x.kind (x.end - x.start) = one_comes text at start x.start (refused r)
    (token x.kind (x.end - x.start)) (subst (λ n. Comes text n start (refused r)) (sym e) k) (next_comes text at x h) in
    absurd cc
one_way text (x ∷ xs) (y ∷ ys) at to go v w (h, more) l (k, others) m =
    let same = one_token text at x y h k in
    let rest = one_way text xs ys x.end to go v w more l (subst (λ z. TokensLead text z.end ys go) (sym same) others) m in
    ((λ i. same i ∷ rest.0 i), rest.1)

refused_end : (text : List ℕ) (e : LexRefusal) → LexRefused e text
    → (xs : List Lexeme) × (to : ℕ) × TokensLead text 0 xs to × EndsAt text to (stopped e)
refused_end text e (xs, to, start, leads, skips, within, reason) = (
  xs,
  to,
  leads,
  (start, record { between = skips; inside = within; stands = reason }),
)

pub one_reading : OneReading
one_reading text xs ys (to, leads, ends) (go, others, finish) = (one_way text xs ys 0 to go spelled spelled leads ends others finish).0

pub one_refusal : OneRefusal
one_refusal text e f h k =
    let left = refused_end text e h in
    let right = refused_end text f k in
    let same : stopped e ≡ stopped f = (one_way text left.0 right.0 0 left.1 right.1 (stopped e) (stopped f) left.2 left.3 right.2
    right.3).1 in
    cc

pub spelled_or_refused : SpelledOrRefused
spelled_or_refused text xs e (to, leads, ends) k =
    let right = refused_end text e k in
    let same : spelled ≡ stopped e = (one_way text xs right.0 0 to right.1 spelled (stopped e) leads ends right.2 right.3).1 in
    absurd cc
