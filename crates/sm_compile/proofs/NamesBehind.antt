-- Names of members, cut out of their ids.
use Rattle.std.proofs.Common.{◌≡◌, inl, inr, ℕ, ◌+◌, List, [], ◌∷◌, ◌++◌, map, length, drop, Option, Some, None, refl, sym, ap, ◌∙◌, subst}
use Rattle.std.proofs.Common.{arith}
use Rattle.std.specs.Prelude.{MatchOption}
use Rattle.std.specs.List.{Contains}
use Rattle.std.specs.Str.Pattern.{FindsTextPrefix}
use denote.Ref.{Bor}
use Rattle.sm_bytes.specs.Ascii.{dollar}
use Rattle.sm_model.specs.Graphs.{member_id}
use Rattle.sm_model.proofs.LinkedEntries.{cons_cases}

-- what is behind the same is the same
pub behind_one : (a x y : List ℕ) → a ++ x ≡ a ++ y → x ≡ y
behind_one [] x y h = h
behind_one (c ∷ a) x y h = behind_one a x y cc

pub behind_told : (before s : List ℕ) (r : Option (Bor (List ℕ)))
    → MatchOption r (FindsTextPrefix before s None)
    (λ x. (n : ℕ) × FindsTextPrefix before s (Some n) × (x.now ≡ drop n s) × (length x.now + n ≡ length s))
    → MatchOption r ((rest : List ℕ) → s ≡ before ++ rest → ⊥) (λ rest. s ≡ before ++ rest.now)
behind_told before s None h = h
behind_told before s (Some x) h = h.1.1 ∙ ap (λ t. before ++ t) (sym h.2)

-- a member's name
pub name_told : (m s rest : List ℕ) (r : Option (Bor (List ℕ))) → m ≡ s ++ rest
    → MatchOption r ((x : List ℕ) → rest ≡ dollar ∷ x → ⊥) (λ x. rest ≡ dollar ∷ x.now)
    → MatchOption r ((name : List ℕ) → m ≡ member_id s name → ⊥) (λ name. m ≡ member_id s name.now)
name_told m s rest None is told = λ name h. told name (behind_one s rest (dollar ∷ name) (sym is ∙ h))
name_told m s rest (Some x) is told = is ∙ ap (λ t. s ++ t) told

-- each of the ids of members has a name
pub one_named : (s : List ℕ) (names ids : List (List ℕ)) (id : List ℕ) → ids ≡ map (member_id s) names → Contains ids id
    → (name : List ℕ) × (id ≡ member_id s name)
one_named s [] ids id is among = let none : Contains [] id = subst (λ xs. Contains xs id) is among in absurd (omega (arith, none.1))
one_named s (n ∷ names) ids id is among =
    elim (cons_cases (member_id s n) (map (member_id s) names) id (subst (λ xs. Contains xs id) is among)) [
      | inl here ↦ (n, sym here)
      | inr later ↦ one_named s names (map (member_id s) names) id refl later
    ]
