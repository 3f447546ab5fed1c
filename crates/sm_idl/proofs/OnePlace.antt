-- What is begun is begun cut anywhere, so tokens stop at one place.
use Rattle.std.proofs.Common.{◌≡◌, ◌⊎◌, inl, inr, ℕ, [], ◌∷◌, ◌++◌, length, Some, sym, ap, subst, ◌∙◌, append-nil, append_assoc}
use Rattle.sm_idl.specs.Productions.{Spaced, Tokens}
use Rattle.sm_idl.specs.Idl.{Begun}
use Rattle.sm_idl.specs.Answers.{StopsAt}
use Rattle.sm_idl.specs.Laws.{BegunIsClosed, OnePlace}
use Rattle.sm_idl.proofs.TokenLists.{heads, cuts, beyond, within}
use Rattle.sm_idl.proofs.FirmFiles.{file_firm}

pub begun_is_closed : BegunIsClosed
begun_is_closed ts [] h = subst Begun (append-nil ts) h
begun_is_closed ts (u ∷ us) (home, h) = (home, (file_firm (Some home)).closed ts u us h)

-- tokens that are begun don't go through one at which they stop
not_through : (ts : Tokens) (a : ℕ) → StopsAt ts a → Begun ts → ⊥
not_through ts a s h =
    s.stops (begun_is_closed (s.before ++ s.token ∷ []) s.behind
    (subst Begun (s.cut ∙ sym (append_assoc s.before (s.token ∷ []) s.behind)) h))

-- the second place isn't behind the first
not_behind : (before : Tokens) (t : Spaced) (d : Tokens) → (Begun (before ++ t ∷ []) → ⊥) → Begun (before ++ t ∷ d) → ⊥
not_behind before t d stops h =
    stops (begun_is_closed (before ++ t ∷ []) d (subst Begun (sym (append_assoc before (t ∷ []) d)) h))

same_stop : (ts : Tokens) (a b : ℕ) → StopsAt ts a → StopsAt ts b → a ≡ b
same_stop ts a b s t =
    elim (cuts s.before s.token s.behind t.before (t.token ∷ t.behind) (sym s.cut ∙ t.cut)) [
      | beyond d e f ↦ absurd (not_behind s.before s.token d s.stops (subst Begun e t.begun))
      | within d e f ↦ within_stop d e f
    ]
  where
    within_stop : (d : Tokens) → s.before ≡ t.before ++ d → t.token ∷ t.behind ≡ d ++ s.token ∷ s.behind → a ≡ b
    within_stop [] e f = s.place ∙ ap (λ u. u.token.start) (sym (heads t.token s.token t.behind s.behind f)) ∙ sym t.place
    within_stop (u ∷ d) e f =
        absurd (not_behind t.before t.token d t.stops
        (subst (λ w. Begun (t.before ++ w ∷ d)) (sym (heads t.token u t.behind (d ++ s.token ∷ s.behind) f)) (subst Begun e s.begun)))

pub one_place : OnePlace
one_place bytes ts a b h k = of_places h.place k.place
  where
    of_places : StopsAt ts a ⊎ (Begun ts × (a ≡ length bytes)) → StopsAt ts b ⊎ (Begun ts × (b ≡ length bytes)) → a ≡ b
    of_places (inl s) (inl t) = same_stop ts a b s t
    of_places (inl s) (inr t) = absurd (not_through ts a s t.0)
    of_places (inr s) (inl t) = absurd (not_through ts b t s.0)
    of_places (inr s) (inr t) = s.1 ∙ sym t.1
