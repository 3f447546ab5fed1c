-- What is said by whatever tokens of UTF-8 a production takes, put together as productions are.
use Rattle.std.proofs.Common.{◌≤◌, ℕ, inl, inr, List, [], ◌∷◌, ◌++◌, Option, Some, None, append-nil, append_assoc}
use Rattle.std.proofs.Common.{sym, subst}
use Rattle.std.proofs.Common.{All, arith}
use Rattle.std.specs.Prelude.{IsUtf8}
use Rattle.std.specs.Str.{IsCharBoundary}
use Rattle.std.proofs.lemmas.List.Elements.{All-head, All-tail}
use Rattle.std.proofs.lemmas.Str.{IsUtf8-between, IsCharBoundary-start}
use Rattle.sm_lex.specs.Answers.{IsWhole}
use Rattle.sm_lex.specs.Shapes.{HasShape}
use Rattle.sm_lex.specs.Tokens.{Lexeme, TokensLead}
use Rattle.sm_lex.proofs.Wholes.{all_whole}
use Rattle.sm_idl.specs.Productions.{Spaced, Tokens, spaced_from, Production, one, gives, ◌>>=◌, ◌or◌, maybe, EachSpells, each_behind, many}
use Rattle.sm_idl.specs.Words.{mark, the_word, word_that}

-- a token of a text that is UTF-8
pub record IsFine (t : Spaced) : Type 0 where
  pub space : IsUtf8 t.space
  pub text : IsUtf8 t.token.text
  pub shape : HasShape t.token.kind t.token.start t.token.text

abbrev pub AreFine : Tokens → Type 0
AreFine [] = Unit {0}
AreFine (t ∷ s) = IsFine t × AreFine s

pub fine_behind : (taken r : Tokens) → AreFine (taken ++ r) → AreFine r
fine_behind [] r h = h
fine_behind (t ∷ s) r h = fine_behind s r h.1

tokens_from : (text : List ℕ) (at to : ℕ) (xs : List Lexeme) → IsUtf8 text → IsCharBoundary text at → All (IsWhole text) xs
    → TokensLead text at xs to → AreFine (spaced_from text at xs)
tokens_from text at to [] u cut whole leads = tt
tokens_from text at to (x ∷ xs) u cut whole (next, more) =
    let here : IsWhole text x = All-head (IsWhole text) x xs whole in
    let order : x.start ≤ x.end = omega (arith, next.some_bytes) in (
      record {
        space = IsUtf8-between text at x.start u next.in_order cut here.start;
        text = subst IsUtf8 (sym here.slice) (IsUtf8-between text x.start x.end u order here.start here.end);
        shape = here.shape;
      },
      tokens_from text x.end to xs u here.end (All-tail (IsWhole text) x xs whole) more,
    )

-- the tokens of a text that is UTF-8
pub tokens_fine : (text : List ℕ) (to : ℕ) (xs : List Lexeme) → IsUtf8 text → TokensLead text 0 xs to → AreFine (spaced_from text 0 xs)
tokens_fine text to xs u leads = tokens_from text 0 to xs u (IsCharBoundary-start text u) (all_whole text 0 to xs u leads) leads

-- whatever is spelled by tokens of such a text is good
pub record Yields {X : Type 0} (P : Production X) (Good : X → Type 0) : Type 0 where
  pub good : (x : X) (s r : Tokens) → AreFine s → P.whole x s r → Good x × AreFine r

one_good : {X : Type 0} (Says : Lexeme → X → Type 0) (Good : X → Type 0) → ((t : Spaced) (x : X) → IsFine t → Says t.token x → Good x)
    → (x : X) (s r : Tokens) → AreFine s → (one Says).whole x s r → Good x × AreFine r
one_good Says Good h x s r fine (t, e, says) = let f : AreFine (t ∷ r) = subst AreFine e fine in (h t x f.0 says, f.1)

pub yields_one : {X : Type 0} (Says : Lexeme → X → Type 0) (Good : X → Type 0) → ((t : Spaced) (x : X) → IsFine t → Says t.token x → Good x)
    → Yields (one Says) Good
yields_one Says Good h = record { good = one_good Says Good h }

pub yields_gives : {X : Type 0} (value : X) (Good : X → Type 0) → Good value → Yields (gives value) Good
yields_gives value Good h = record { good = λ x s r fine k. (subst Good (sym k.0) h, subst AreFine k.1 fine) }

both_good : {X Y : Type 0} (p : Production X) (q : X → Production Y) (G : X → Type 0) (H : Y → Type 0) → Yields p G
    → ((x : X) → G x → Yields (q x) H) → (y : Y) (s r : Tokens) → AreFine s → (p >>= q).whole y s r → H y × AreFine r
both_good p q G H h k y s r fine (x, t, a, b) = let f = h.good x s t fine a in (k x f.0).good y t r f.1 b

pub yields_both : {X Y : Type 0} (p : Production X) (q : X → Production Y) (G : X → Type 0) (H : Y → Type 0) → Yields p G
    → ((x : X) → G x → Yields (q x) H) → Yields (p >>= q) H
yields_both p q G H h k = record { good = both_good p q G H h k }

or_good : {X : Type 0} (p q : Production X) (G : X → Type 0) → Yields p G → Yields q G → (x : X) (s r : Tokens) → AreFine s
    → (p or q).whole x s r → G x × AreFine r
or_good p q G h k x s r fine (inl a) = h.good x s r fine a
or_good p q G h k x s r fine (inr b) = k.good x s r fine b

pub yields_or : {X : Type 0} (p q : Production X) (G : X → Type 0) → Yields p G → Yields q G → Yields (p or q) G
yields_or p q G h k = record { good = or_good p q G h k }

pub yields_as : {X : Type 0} (p : Production X) (G H : X → Type 0) → Yields p G → ((x : X) → G x → H x) → Yields p H
yields_as p G H h k = record { good = λ x s r fine a. let f = h.good x s r fine a in (k x f.0, f.1) }

abbrev pub IfThere : {X : Type 0} → (X → Type 0) → Option X → Type 0
IfThere G None = Unit {0}
IfThere G (Some x) = G x

maybe_good : {X : Type 0} (p : Production X) (G : X → Type 0) → Yields p G → (o : Option X) (s r : Tokens) → AreFine s
    → (maybe p).whole o s r → IfThere G o × AreFine r
maybe_good p G h None s r fine e = (tt, subst AreFine e fine)
maybe_good p G h (Some x) s r fine a = h.good x s r fine a

pub yields_maybe : {X : Type 0} (p : Production X) (G : X → Type 0) → Yields p G → Yields (maybe p) (IfThere G)
yields_maybe p G h = record { good = maybe_good p G h }

-- one after the other, with what holds of those so far
each_good : {X : Type 0} (p : List X → Production X) (Inv : List X → Type 0)
    → ((before : List X) → Inv before → Yields (p before) (λ x. Inv (before ++ x ∷ [])))
    → (before : List X) → Inv before → (xs : List X) (s r : Tokens) → AreFine s → EachSpells p before xs s r
    → Inv (before ++ xs) × AreFine r
each_good p Inv h before good [] s r fine e = (subst Inv (sym (append-nil before)) good, subst AreFine e fine)
each_good p Inv h before good (x ∷ xs) s r fine (t, a, b) =
    let f = (h before good).good x s t fine a in
    let g = each_good p Inv h (before ++ x ∷ []) f.0 xs t r f.1 b in
    (subst Inv (append_assoc before (x ∷ []) xs) g.0, g.1)

pub yields_each : {X : Type 0} (p : List X → Production X) (Inv : List X → Type 0)
    → ((before : List X) → Inv before → Yields (p before) (λ x. Inv (before ++ x ∷ [])))
    → (before : List X) → Inv before → Yields (each_behind p before) (λ xs. Inv (before ++ xs))
yields_each p Inv h before good = record { good = each_good p Inv h before good }

abbrev pub Each : {X : Type 0} → (X → Type 0) → List X → Type 0
Each G [] = Unit {0}
Each G (x ∷ xs) = G x × Each G xs

pub each_more : {X : Type 0} (G : X → Type 0) (before : List X) (x : X) → Each G before → G x → Each G (before ++ x ∷ [])
each_more G [] x h g = (g, tt)
each_more G (y ∷ before) x h g = (h.0, each_more G before x h.1 g)

pub yields_many : {X : Type 0} (p : Production X) (G : X → Type 0) → Yields p G → Yields (many p) (Each G)
yields_many p G h =
    yields_each (λ _. p) (Each G) (λ before are. yields_as p G (λ x. Each G (before ++ x ∷ [])) h (λ x good. each_more G before x are good))
    [] tt

-- marks and words
pub yields_mark : (m : List ℕ) → Yields (mark m) (λ _. Unit {0})
yields_mark m = yields_one _ (λ _. Unit {0}) (λ t x fine says. tt)

pub yields_the_word : (w : List ℕ) → Yields (the_word w) (λ _. Unit {0})
yields_the_word w = yields_one _ (λ _. Unit {0}) (λ t x fine says. tt)

pub yields_word : (Is : List ℕ → Type 0) → Yields (word_that Is) Is
yields_word Is = yields_one _ Is (λ t x fine says. says.1)

-- behind a mark, and behind a value
pub yields_marked : {Y : Type 0} (m : List ℕ) (q : Unit → Production Y) (H : Y → Type 0) → ((x : Unit) → Yields (q x) H)
    → Yields (mark m >>= q) H
yields_marked m q H h = yields_both (mark m) q (λ _. Unit {0}) H (yields_mark m) (λ x _. h x)

pub yields_worded : {Y : Type 0} (w : List ℕ) (q : Unit → Production Y) (H : Y → Type 0) → ((x : Unit) → Yields (q x) H)
    → Yields (the_word w >>= q) H
yields_worded w q H h = yields_both (the_word w) q (λ _. Unit {0}) H (yields_the_word w) (λ x _. h x)

pub yields_given : {X Y : Type 0} (p : Production X) (f : X → Y) (G : X → Type 0) (H : Y → Type 0) → Yields p G
    → ((x : X) → G x → H (f x)) → Yields (p >>= (λ x. gives (f x))) H
yields_given p f G H h k = yields_both p (λ x. gives (f x)) G H h (λ x good. yields_gives (f x) H (k x good))
