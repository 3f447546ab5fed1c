-- Words over model files: one reading of them, and words that aren't.
use Rattle.std.proofs.Common.{◌≡◌, ◌<◌, ℕ, List, [], ◌∷◌, ◌++◌, length, sym, ap, ◌∙◌, refl}
use Rattle.sm_asked.specs.Words.{AreModelsAlone, AreOverModels}

-- what stands before a last word, and that word
none_is_last : (xs : List (List ℕ)) (x : List ℕ) → xs ++ x ∷ [] ≡ [] → ⊥
none_is_last [] x e = cc
none_is_last (y ∷ xs) x e = cc

pub last_same : (xs ys : List (List ℕ)) (x y : List ℕ) → xs ++ x ∷ [] ≡ ys ++ y ∷ [] → (xs ≡ ys) × (x ≡ y)
last_same [] [] x y e = (refl, cc)
last_same [] (z ∷ ys) x y e = absurd (none_is_last ys y (cc))
last_same (z ∷ xs) [] x y e = absurd (none_is_last xs x (cc))
last_same (z ∷ xs) (w ∷ ys) x y e = let later = last_same xs ys x y (cc) in let first : z ≡ w = cc in
    (ap (λ k. k ∷ xs) first ∙ ap (λ ks. w ∷ ks) later.0, later.1)

pub over_same : (words : List (List ℕ)) (name : List ℕ) (models models1 : List (List ℕ)) (last last1 : List ℕ)
    → AreOverModels words name models last → AreOverModels words name models1 last1 → (models ≡ models1) × (last ≡ last1)
over_same words name models models1 last last1 h i =
    let e = sym h.are ∙ i.are in
    let rest : models ++ last ∷ [] ≡ models1 ++ last1 ∷ [] = cc in last_same models models1 last last1 rest

pub alone_same : (words : List (List ℕ)) (name : List ℕ) (models models1 : List (List ℕ)) → AreModelsAlone words name models
    → AreModelsAlone words name models1 → models ≡ models1
alone_same words name models models1 h i = let e = sym h.are ∙ i.are in cc

pub other_name : (words rest : List (List ℕ)) (command name : List ℕ) (models : List (List ℕ)) (last : List ℕ) → words ≡ command ∷ rest
    → (command ≡ name → ⊥) → AreOverModels words name models last → ⊥
other_name words rest command name models last is other h = let e = sym is ∙ h.are in other (cc)

pub models_alone : (words rest : List (List ℕ)) (command name : List ℕ) → words ≡ command ∷ rest → command ≡ name → 0 < length rest
    → AreModelsAlone words name rest
models_alone words rest command name is named some = record { some = some; are = is ∙ ap (λ c. c ∷ rest) named }
