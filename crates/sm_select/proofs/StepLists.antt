-- Elements of lists, and what holds of one of some links.
use Rattle.std.proofs.Common.{◌≡◌, ◌≢◌, ◌⊎◌, inl, inr, ℕ, ◌<◌, zero, suc, List, [], ◌∷◌, length, get_or, refl}
use Rattle.std.proofs.Common.{sym, subst, arith}
use Rattle.std.specs.List.{Contains}
use Rattle.std.proofs.lemmas.Bool.{cases_lt}
use Rattle.std.proofs.lemmas.List.Elements.{Contains-append_cases, Contains-append_left, Contains-append_right, Contains-push}
use Rattle.std.proofs.lemmas.List.Elements.{Contains-push_cases}
use Rattle.sm_model.specs.declared.link.Link.{Link}
use Rattle.sm_select.specs.steps.Reaching.{AnyOf}

pub same_or_not : (m n : ℕ) → (m ≡ n) ⊎ (m ≢ n)
same_or_not m n = elim (cases_lt m n) [
  | inl less ↦ inr (λ e. omega (arith, less, e))
  | inr ge ↦ elim (cases_lt n m) [ inl more ↦ inr (λ e. omega (arith, more, e)) | inr le ↦ inl (omega (arith, ge, le)) ]
]

-- a list's first element, or one of the others
pub cons_cases : {X : Type 0} (x : X) (xs : List X) (y : X) → Contains (x ∷ xs) y → (x ≡ y) ⊎ Contains xs y
cons_cases x xs y h = elim (Contains-append_cases (x ∷ []) xs y h) [
  | inl one ↦ elim (Contains-push_cases [] x y one) [ inl none ↦ absurd (omega (arith, none.1)) | inr is ↦ inl is ]
  | inr later ↦ inr later
]

-- what holds of one of some links, one link after the other
pub any_in : (P : Link → Type 0) (ls : List Link) → AnyOf P ls → (l : Link) × Contains ls l × P l
any_in P [] h = absurd h
any_in P (l ∷ ls) (inl here) = (l, Contains-append_left (l ∷ []) ls l (Contains-push [] l), here)
any_in P (l ∷ ls) (inr later) = let rest = any_in P ls later in (rest.0, Contains-append_right (l ∷ []) ls rest.0 rest.1, rest.2)

pub in_any : (P : Link → Type 0) (ls : List Link) (l : Link) → Contains ls l → P l → AnyOf P ls
in_any P [] l among is = absurd (omega (arith, among.1))
in_any P (k ∷ ls) l among is = elim (cons_cases k ls l among) [
  | inl same ↦ inl (subst P (sym same) is)
  | inr later ↦ inr (in_any P ls l later is)
]

-- what stands at a place, whatever is given for no place
pub any_default : {X : Type 0} (xs : List X) (i : ℕ) (d e : X) → i < length xs → get_or xs i d ≡ get_or xs i e
any_default [] i d e lt = absurd (omega (arith, lt))
any_default (x ∷ xs) zero d e lt = refl
any_default (x ∷ xs) (suc i) d e lt = any_default xs i d e (omega (arith, lt))
