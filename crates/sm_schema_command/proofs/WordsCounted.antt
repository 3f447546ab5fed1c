-- Words by their number.
use Rattle.std.proofs.Common.{◌≡◌, ℕ, Bool, true, false, List, [], ◌∷◌, length, get_or, Option, Some, None, refl, sym, ap, ◌∙◌, subst, arith}
use Rattle.std.specs.Prelude.{MatchOption}
use Rattle.sm_schema_command.specs.SchemaForm.{IsSchemaForm}

-- four words, and five
pub record FourWords (ws behind : List (List ℕ)) : Type 0 where
  pub schema : List ℕ
  pub model : List ℕ
  pub shape : List ℕ
  pub names : List ℕ
  pub are : ws ≡ schema ∷ model ∷ shape ∷ names ∷ behind

pub four_words : (ws : List (List ℕ)) → length ws ≡ 4 → FourWords ws []
four_words [] e = absurd (omega (arith, e))
four_words (a ∷ []) e = absurd (omega (arith, e))
four_words (a ∷ b ∷ []) e = absurd (omega (arith, e))
four_words (a ∷ b ∷ c ∷ []) e = absurd (omega (arith, e))
four_words (a ∷ b ∷ c ∷ d ∷ []) e = record { schema = a; model = b; shape = c; names = d; are = refl }
four_words (a ∷ b ∷ c ∷ d ∷ w ∷ ws) e = absurd (omega (arith, e))

pub five_words : (ws : List (List ℕ)) (w d u : List ℕ) → length ws ≡ 5 → w ≡ get_or ws 4 d → w ≡ u → FourWords ws (u ∷ [])
five_words [] w d u e is same = absurd (omega (arith, e))
five_words (a ∷ []) w d u e is same = absurd (omega (arith, e))
five_words (a ∷ b ∷ []) w d u e is same = absurd (omega (arith, e))
five_words (a ∷ b ∷ c ∷ []) w d u e is same = absurd (omega (arith, e))
five_words (a ∷ b ∷ c ∷ f ∷ []) w d u e is same = absurd (omega (arith, e))
five_words (a ∷ b ∷ c ∷ f ∷ v ∷ []) w d u e is same =
    record { schema = a; model = b; shape = c; names = f; are = ap (λ x. a ∷ b ∷ c ∷ f ∷ x ∷ []) (sym is ∙ same) }
five_words (a ∷ b ∷ c ∷ f ∷ v ∷ x ∷ ws) w d u e is same = absurd (omega (arith, e))

-- where the words of the form are five, they ask for what people read
five_described : (ws : List (List ℕ)) (model shape : List ℕ) (json_names described : Bool)
    → IsSchemaForm ws model shape json_names described → length ws ≡ 5 → described ≡ true
five_described ws model shape json_names true h e = refl
five_described ws model shape json_names false h e = let four : length ws ≡ 4 = ap length h in absurd (omega (arith, e, four))

pub not_other : {A : Type 0} (ws : List (List ℕ)) (Q : A → Type 0) → length ws ≡ 5 → (r : Option A)
    → MatchOption r ((model shape : List ℕ) (json_names : Bool) → IsSchemaForm ws model shape json_names true → ⊥) Q
    → MatchOption r ((model shape : List ℕ) (json_names described : Bool) → IsSchemaForm ws model shape json_names described → ⊥) Q
not_other ws Q five None h = λ model shape json_names described is.
    h model shape json_names
    (subst (λ b. IsSchemaForm ws model shape json_names b) (five_described ws model shape json_names described is five) is)
not_other ws Q five (Some form) h = h
