-- Lists of bytes cut where a run of bytes of one kind ends. A list has one such cut.
use Rattle.std.proofs.Common.{◌≡◌, ℕ, ◌<◌, ◌⊎◌, inl, inr, Bool, true, false, cond, ◌&&◌, List, [], ◌∷◌, ◌++◌, refl, sym, subst, ◌∙◌, arith}
use Rattle.std.specs.List.{list_all}
use Rattle.sm_ids.specs.steps.Ahead.{EndsRun}

pub both : (a b : Bool) → (a && b) ≡ true → (a ≡ true) × (b ≡ true)
both true b h = (refl, h)
both false b h = cc

pub and_also : (a b : Bool) → a ≡ true → b ≡ true → (a && b) ≡ true
and_also true b h k = k
and_also false b h k = cc

pub list_all_weaker : {X : Type 0} (p q : X → Bool) → ((x : X) → p x ≡ true → q x ≡ true) → (xs : List X) → list_all p xs ≡ true
    → list_all q xs ≡ true
list_all_weaker p q weaker [] h = refl
list_all_weaker p q weaker (x ∷ xs) h = let k = both (p x) (list_all p xs) h in
    and_also (q x) (list_all q xs) (weaker x k.0) (list_all_weaker p q weaker xs k.1)

pub pick : (b x y : Bool) → cond b x y ≡ true → ((b ≡ true) × (x ≡ true)) ⊎ ((b ≡ false) × (y ≡ true))
pick true x y h = inl (refl, h)
pick false x y h = inr (refl, h)

pub heads : (c d : ℕ) (s r : List ℕ) → c ∷ s ≡ d ∷ r → c ≡ d
heads c d s r e = cc

pub above : (a b : ℕ) → b < a → a ≡ b → ⊥
above a b h e = omega arith

pub tails : (c d : ℕ) (s r : List ℕ) → c ∷ s ≡ d ∷ r → s ≡ r
tails c d s r e = cc

pub clash : (b : Bool) → b ≡ true → b ≡ false → ⊥
clash b h k = let e : true ≡ false = sym h ∙ k in cc

run_head : (p : ℕ → Bool) (d : ℕ) (x r : List ℕ) → EndsRun p x → p d ≡ true → x ≡ d ∷ r → ⊥
run_head p d [] r o t e = cc
run_head p d (c ∷ x) r o t e = clash (p d) t (subst (λ y. p y ≡ false) (heads c d x r e) o)

-- a run of bytes that pass, and then what doesn't go on with it: one cut
pub one_cut : (p : ℕ → Bool) (a b x y : List ℕ) → list_all p a ≡ true → list_all p b ≡ true → EndsRun p x → EndsRun p y → a ++ x ≡ b ++ y
    → (a ≡ b) × (x ≡ y)
one_cut p [] [] x y ha hb ox oy e = (refl, e)
one_cut p [] (d ∷ b) x y ha hb ox oy e = absurd (run_head p d x (b ++ y) ox (both (p d) (list_all p b) hb).0 e)
one_cut p (c ∷ a) [] x y ha hb ox oy e = absurd (run_head p c y (a ++ x) oy (both (p c) (list_all p a) ha).0 (sym e))
one_cut p (c ∷ a) (d ∷ b) x y ha hb ox oy e =
    let rest = one_cut p a b x y (both (p c) (list_all p a) ha).1 (both (p d) (list_all p b) hb).1 ox oy (tails c d (a ++ x) (b ++ y) e) in
    (same_cons c d a b (heads c d (a ++ x) (b ++ y) e) rest.0, rest.1)
  where
    same_cons : (c d : ℕ) (a b : List ℕ) → c ≡ d → a ≡ b → c ∷ a ≡ d ∷ b
    same_cons c d a b h k = cc
