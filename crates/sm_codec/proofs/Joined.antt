-- Functions of lists that join what each element gives: of two lists joined, and of two functions that give the same for each.
use Rattle.std.proofs.Common.{◌≡◌, List, [], ◌∷◌, ◌++◌, append_assoc, sym, ap, ◌∙◌}

-- two functions give the same for each of these
abbrev pub Agree : {K B : Type 0} → (K → B) → (K → B) → List K → Type 0
Agree s r [] = Unit {0}
Agree s r (k ∷ ks) = (s k ≡ r k) × Agree s r ks

module _ {K B : Type 0} (s r : K → B) where
  pub agree_front : (ks js : List K) → Agree s r (ks ++ js) → Agree s r ks
  agree_front [] js h = tt
  agree_front (k ∷ ks) js h = (h.0, agree_front ks js h.1)

-- all that is given for a list is what each gives, one after another
abbrev pub Joins : {K A : Type 0} → (K → List A) → (List K → List A) → Type 0
Joins {K} own all = (all [] ≡ []) × ((k : K) (ks : List K) → all (k ∷ ks) ≡ own k ++ all ks)

pub joined_two : {K A : Type 0} (own : K → List A) (all : List K → List A) → Joins own all → (ks js : List K)
    → all (ks ++ js) ≡ all ks ++ all js
joined_two own all h [] js = ap (λ xs. xs ++ all js) (sym h.0)
joined_two own all h (k ∷ ks) js =
    h.1 k (ks ++ js) ∙ ap (λ xs. own k ++ xs) (joined_two own all h ks js) ∙ sym (append_assoc (own k) (all ks) (all js))
    ∙ ap (λ xs. xs ++ all js) (sym (h.1 k ks))

pub joined_agree : {K B A : Type 0} (part : K → B → List A) (s r : K → B) (all others : List K → List A) → Joins (λ k. part k (s k)) all
    → Joins (λ k. part k (r k)) others → (ks : List K) → Agree s r ks → all ks ≡ others ks
joined_agree part s r all others h g [] a = h.0 ∙ sym g.0
joined_agree part s r all others h g (k ∷ ks) a =
    h.1 k ks ∙ ap (λ b. part k b ++ all ks) a.0 ∙ ap (λ xs. part k (r k) ++ xs) (joined_agree part s r all others h g ks a.1)
    ∙ sym (g.1 k ks)
