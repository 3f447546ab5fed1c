-- The places of a text's tokens are cuts between its characters, one behind the other.
use Rattle.std.proofs.Common.{◌≡◌, ◌≤◌, ℕ, zero, suc, List, [], ◌∷◌, All, map, drop, subst, arith}
use Rattle.std.proofs.lemmas.List.Elements.{All-tail}
use Rattle.sm_lex.specs.Answers.{IsWhole}
use Rattle.sm_lex.specs.Tokens.{Lexeme, lexeme_of, TokensLead}
use Rattle.sm_lex.specs.declared.token.Token.{Token}
use Rattle.sm_idl.specs.steps.Cuts.{AreCuts}

first_of : (x t : Token) (xs r : List Token) → x ∷ xs ≡ t ∷ r → x ≡ t
first_of x t xs r e = cc

rest_of : (x t : Token) (xs r : List Token) → x ∷ xs ≡ t ∷ r → xs ≡ r
rest_of x t xs r e = cc

none_of : (t : Token) (r : List Token) → [] ≡ t ∷ r → ⊥
none_of t r e = cc

held_at : (P : Lexeme → Type 0) (xs : List Token) (i : ℕ) (t : Token) (r : List Token) → drop i xs ≡ t ∷ r → All P (map lexeme_of xs)
    → P (lexeme_of t)
held_at P [] zero t r e h = absurd (none_of t r e)
held_at P [] (suc i) t r e h = absurd (none_of t r e)
held_at P (x ∷ xs) zero t r e h = subst (λ z. P (lexeme_of z)) (first_of x t xs r e) (h 0 (lexeme_of x) (omega arith))
held_at P (x ∷ xs) (suc i) t r e h = held_at P xs i t r e (All-tail P (lexeme_of x) (map lexeme_of xs) h)

next_start : (text : List ℕ) (at to : ℕ) (xs : List Token) (u : Token) (r : List Token) → xs ≡ u ∷ r
    → TokensLead text at (map lexeme_of xs) to → at ≤ u.start
next_start text at to [] u r e h = absurd (none_of u r e)
next_start text at to (x ∷ xs) u r e h = subst (λ z. at ≤ z.start) (first_of x u xs r e) h.0.in_order

in_order : (text : List ℕ) (at to : ℕ) (xs : List Token) (i : ℕ) (t u : Token) (r : List Token) → drop i xs ≡ t ∷ (u ∷ r)
    → TokensLead text at (map lexeme_of xs) to → t.end ≤ u.start
in_order text at to [] zero t u r e h = absurd (none_of t (u ∷ r) e)
in_order text at to [] (suc i) t u r e h = absurd (none_of t (u ∷ r) e)
in_order text at to (x ∷ xs) zero t u r e h =
    subst (λ z. z.end ≤ u.start) (first_of x t xs (u ∷ r) e) (next_start text x.end to xs u r (rest_of x t xs (u ∷ r) e) h.1)
in_order text at to (x ∷ xs) (suc i) t u r e h = in_order text x.end to xs i t u r e h.1

pub are_cuts : (text : List ℕ) (xs : List Token) (to : ℕ) → All (IsWhole text) (map lexeme_of xs) → TokensLead text 0 (map lexeme_of xs) to
    → AreCuts text xs
are_cuts text xs to whole leads = record {
  start = λ i t r e. (held_at (IsWhole text) xs i t r e whole).start;
  end = λ i t r e. (held_at (IsWhole text) xs i t r e whole).end;
  order = λ i t u r e. in_order text 0 to xs i t u r e leads;
}
