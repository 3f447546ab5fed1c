-- Members one after the other, each name once: one more, when the names before were seen.
use Rattle.std.proofs.Common.{◌≡◌, ℕ, Bool, true, false, cond, List, [], ◌∷◌, ◌++◌, filter, map, refl, sym, ap, ◌∙◌}
use Rattle.std.proofs.Common.{append_assoc, bytes_eq}
use Rattle.std.proofs.lemmas.Slice.Eq.{bytes_eq-Decides}
use Rattle.std.specs.Prelude.{◌&&◌, ◌||◌, not}
use Rattle.sm_merge.specs.Meaning.{Defined}
use Rattle.sm_merge.specs.Mixins.{each_once}
use Rattle.sm_merge.specs.steps.Firsts.{NamesAndTargets, firsts, unseen}
use Rattle.sm_merge.proofs.NamesKnown.{seen_by}

with_true : (x : Bool) → (x && true) ≡ x
with_true true = refl
with_true false = refl

with_false : (x : Bool) → (x && false) ≡ false
with_false true = refl
with_false false = refl

neither : (x y : Bool) → (not x && not y) ≡ not (x || y)
neither true y = refl
neither false y = refl

-- what two tests keep, one test keeps that asks both
both_tests : (a b c : List ℕ × List ℕ → Bool) → ((p : List ℕ × List ℕ) → (a p && b p) ≡ c p) → (ps : NamesAndTargets)
    → filter a (filter b ps) ≡ filter c ps
both_tests a b c same [] = refl
both_tests a b c same (p ∷ ps) = by_second (both_tests a b c same ps) (b p) (same p)
  where
    by_second : filter a (filter b ps) ≡ filter c ps → (y : Bool) → (a p && y) ≡ c p
        → filter a (cond y (p ∷ filter b ps) (filter b ps)) ≡ cond (c p) (p ∷ filter c ps) (filter c ps)
    by_second rest true e = λ i. cond ((sym (with_true (a p)) ∙ e) i) (p ∷ rest i) (rest i)
    by_second rest false e = rest ∙ sym (ap (λ z. cond z (p ∷ filter c ps) (filter c ps)) (sym e ∙ with_false (a p)))

-- one member, and then the rest, when its name was seen too
pub unseen_more : (seen now : Defined) (p : List ℕ × List ℕ) (ps : NamesAndTargets)
    → ((id : List ℕ) → now id ≡ (seen id || bytes_eq p.0 id))
    → unseen seen (firsts (p ∷ ps)) ≡ unseen seen (p ∷ []) ++ unseen now (firsts ps)
unseen_more seen now p ps h = by_test (not (seen p.0))
  where
    rest : unseen seen (filter (λ q. not (bytes_eq p.0 q.0)) (firsts ps)) ≡ unseen now (firsts ps)
    rest =
        both_tests (λ q. not (seen q.0)) (λ q. not (bytes_eq p.0 q.0)) (λ q. not (now q.0))
        (λ q. neither (seen q.0) (bytes_eq p.0 q.0) ∙ sym (ap not (h q.0))) (firsts ps)

    by_test : (b : Bool) → cond b (p ∷ unseen seen (filter (λ q. not (bytes_eq p.0 q.0)) (firsts ps)))
        (unseen seen (filter (λ q. not (bytes_eq p.0 q.0)) (firsts ps)))
        ≡ cond b (p ∷ []) [] ++ unseen now (firsts ps)
    by_test true = ap (λ l. p ∷ l) rest
    by_test false = rest

-- what has come with one more, and then the rest
pub firsts_step : (before after all : NamesAndTargets) (seen now : Defined) (p : List ℕ × List ℕ) (ps : NamesAndTargets)
    → after ≡ before ++ unseen seen (p ∷ []) → ((id : List ℕ) → now id ≡ (seen id || bytes_eq p.0 id))
    → before ++ unseen seen (firsts (p ∷ ps)) ≡ all → after ++ unseen now (firsts ps) ≡ all
firsts_step before after all seen now p ps put h step =
    ap (λ l. l ++ unseen now (firsts ps)) put ∙ append_assoc before (unseen seen (p ∷ [])) (unseen now (firsts ps))
    ∙ ap (λ l. before ++ l) (sym (unseen_more seen now p ps h)) ∙ step

-- the names are those of the definition
kept_names : (t : List ℕ → Bool) (ps : NamesAndTargets) → map (λ p. p.0) (filter (λ p. t p.0) ps) ≡ filter t (map (λ p. p.0) ps)
kept_names t [] = refl
kept_names t (p ∷ ps) = by_test (kept_names t ps) (t p.0)
  where
    by_test : map (λ q. q.0) (filter (λ q. t q.0) ps) ≡ filter t (map (λ q. q.0) ps) → (b : Bool)
        → map (λ q. q.0) (cond b (p ∷ filter (λ q. t q.0) ps) (filter (λ q. t q.0) ps))
        ≡ cond b (p.0 ∷ filter t (map (λ q. q.0) ps)) (filter t (map (λ q. q.0) ps))
    by_test rest true = ap (λ l. p.0 ∷ l) rest
    by_test rest false = rest

pub names_once : (ps : NamesAndTargets) → map (λ p. p.0) (firsts ps) ≡ each_once (map (λ p. p.0) ps)
names_once [] = refl
names_once (p ∷ ps) =
    ap (λ l. p.0 ∷ l) (kept_names (λ name. not (bytes_eq p.0 name)) (firsts ps)
    ∙ ap (filter (λ name. not (bytes_eq p.0 name))) (names_once ps))

-- a name that was seen adds nothing
pub seen_before : (seen : Defined) (name : List ℕ) → seen name ≡ true → (id : List ℕ) → seen id ≡ (seen id || bytes_eq name id)
seen_before seen name is id = seen_by bytes_eq (λ k l same. (bytes_eq-Decides k l).0 same) seen name is id
