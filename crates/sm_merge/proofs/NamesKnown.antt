-- Sets of ids, as ids come.
use Rattle.std.proofs.Common.{◌≡◌, ℕ, Bool, true, false, cond, List, refl, sym, ap, subst, ◌∙◌}
use Rattle.std.specs.Prelude.{◌||◌}
use Rattle.std.specs.BTreeSet as sorted
use Rattle.std.specs.BTreeSet.{BTreeSet}
use Rattle.std.specs.Cmp.Lexicographic.{slice_cmp}
use Rattle.std.specs.Ordering.{nat_cmp}
use Rattle.std.specs.Str.{bytes_eq}
use Rattle.std.proofs.lemmas.Map.Text.{is_eq-slice_cmp}
use denote.Ref.{Bor}
use Rattle.sm_merge.specs.steps.Known.{has_text}

pub or_other : (a b : Bool) → cond a true b ≡ (b || a)
or_other true true = refl
or_other true false = refl
or_other false true = refl
or_other false false = refl

-- with one id more
pub one_more : (old new : BTreeSet (Bor (List ℕ))) (key : List ℕ)
    → sorted.UpdatesBy (λ x y. slice_cmp nat_cmp x.now y.now) (λ k. slice_cmp nat_cmp key k.now) old new true
    → (id : List ℕ) → has_text new id ≡ (has_text old id || bytes_eq key id)
one_more old new key u id =
    u.0 (record { ref_ptr = (0, 0); now = id }) ∙ ap (λ b. cond b true (has_text old id)) (is_eq-slice_cmp key id)
    ∙ or_other (bytes_eq key id) (has_text old id)

pub or_none : (a : Bool) → a ≡ (a || false)
or_none true = refl
or_none false = refl

pub or_true : (a : Bool) → (a || true) ≡ true
or_true true = refl
or_true false = refl

pub regroup : (a b c : Bool) → ((a || b) || c) ≡ (a || (b || c))
regroup true b c = refl
regroup false b c = refl

-- what was seen is nothing new
pub seen_by : {K : Type 0} (same : K → K → Bool) → ((k l : K) → same k l ≡ true → k ≡ l) → (seen : K → Bool) (k : K) → seen k ≡ true
    → (l : K) → seen l ≡ (seen l || same k l)
seen_by same one seen k is l = by (same k l) refl
  where
    by : (b : Bool) → same k l ≡ b → seen l ≡ (seen l || b)
    by true e = let there : seen l ≡ true = subst (λ j. seen j ≡ true) (one k l e) is in there ∙ sym (or_true (seen l))
    by false e = or_none (seen l)

-- what is held and what is still to come
pub held : (had has here rest whole : Bool) → has ≡ (had || here) → (had || (here || rest)) ≡ whole → (has || rest) ≡ whole
held had has here rest whole now before = ap (λ b. b || rest) now ∙ regroup had here rest ∙ before
