-- Lists as runs of one list of numbers, sums of counts, and steps that are put at the next free place of their number.
use Rattle.std.proofs.Common.{◌≡◌, ◌≢◌, inl, inr, ℕ, ◌<◌, ◌≤◌, ◌+◌, ◌-◌, ◌^◌, zero, suc, Bool, true, false, List, [], ◌∷◌, cond}
use Rattle.std.proofs.Common.{drop, eqb, get_or, length, refl, take, sym, ap, ◌∙◌, subst, arith}
use Rattle.std.specs.Prelude.{◌↔◌}
use Rattle.std.specs.List.{Contains}
use Rattle.std.proofs.lemmas.Bool.{cases_lt}
use Rattle.std.proofs.lemmas.Bool.Decides.{eqb_tells}
use Rattle.std.proofs.lemmas.List.{get_or-drop, get_or-take, length-drop, length-take-le}
use Rattle.sm_model.specs.declared.link.Link.{Link}
use Rattle.sm_model.specs.declared.relation.Relation.{Relation}
use Rattle.sm_model.specs.declared.relation.Relation.TheVariants.{Container, Error, Identifier, Input, Member, Operation}
use Rattle.sm_model.specs.declared.relation.Relation.TheVariants.{Output, Property, Resource, Target}
use Rattle.sm_select.specs.Followed.{end_of, start_of}
use Rattle.sm_select.specs.Neighbors.{IsStepOf}
use Rattle.sm_select.specs.steps.Runs.{RiseFrom, followed, runs_from, steps_at, sums, takes}
use Rattle.sm_select.proofs.StepLists.{any_default, same_or_not}

-- a run, by its place
pub run_at : (numbers : List ℕ) (start : ℕ) (ends : List ℕ) (k : ℕ) → k < length ends
    → get_or (runs_from numbers start ends) k []
    ≡ take (get_or ends k 0 - get_or (start ∷ ends) k 0) (drop (get_or (start ∷ ends) k 0) numbers)
run_at numbers start [] k lt = absurd (omega (arith, lt))
run_at numbers start (e ∷ es) zero lt = refl
run_at numbers start (e ∷ es) (suc k) lt = run_at numbers e es k (omega (arith, lt))

pub count_runs : (numbers : List ℕ) (start : ℕ) (ends : List ℕ) → length (runs_from numbers start ends) ≡ length ends
count_runs numbers start [] = refl
count_runs numbers start (e ∷ es) = ap suc (count_runs numbers e es)

-- where runs start and end, where they rise
pub rise_last : (start : ℕ) (ends : List ℕ) (last : ℕ) → RiseFrom start ends last → start ≤ last
rise_last start [] last r = r
rise_last start (e ∷ es) last r = omega (arith, r.0, rise_last e es last r.1)

pub rise_at : (start : ℕ) (ends : List ℕ) (last k : ℕ) → RiseFrom start ends last → k < length ends
    → (get_or (start ∷ ends) k 0 ≤ get_or ends k 0) × (get_or ends k 0 ≤ last)
rise_at start [] last k r lt = absurd (omega (arith, lt))
rise_at start (e ∷ es) last zero r lt = (r.0, rise_last e es last r.1)
rise_at start (e ∷ es) last (suc k) r lt = rise_at e es last k r.1 (omega (arith, lt))

-- sums of equal numbers, and of more of them
pub sums_same : (f g : ℕ → ℕ) (n : ℕ) → ((k : ℕ) → k < n → f k ≡ g k) → sums f n ≡ sums g n
sums_same f g zero same = refl
sums_same f g (suc n) same = omega (arith, sums_same f g n (λ k lt. same k (omega (arith, lt))), same n (omega arith))

pub sums_rise : (f : ℕ → ℕ) (m n : ℕ) → m ≤ n → sums f m ≤ sums f n
sums_rise f m zero le = subst (λ k. sums f k ≤ 0) (sym (none m le)) (omega arith)
  where
    none : (k : ℕ) → k ≤ 0 → k ≡ 0
    none k h = omega (arith, h)
sums_rise f m (suc n) le = elim (cases_lt n m) [
  | inl past ↦ subst (λ k. sums f m ≤ sums f k) (same m n past le) (omega arith)
  | inr within ↦ omega (arith, sums_rise f m n within)
]
  where
    same : (a b : ℕ) → b < a → a ≤ suc b → a ≡ suc b
    same a b h j = omega (arith, h, j)

-- sums that stand one after the other rise
pub rise_sums : (f : ℕ → ℕ) (k : ℕ) (ends : List ℕ) (last : ℕ) → ((i : ℕ) → i < length ends → get_or ends i 0 ≡ sums f (suc (k + i)))
    → sums f (k + length ends) ≤ last → RiseFrom (sums f k) ends last
rise_sums f k [] last is fits = subst (λ n. sums f n ≤ last) (with_none k) fits
  where
    with_none : (n : ℕ) → n + 0 ≡ n
    with_none n = omega arith
rise_sums f k (e ∷ es) last is fits =
    let here : e ≡ sums f (suc k) = is 0 (omega arith) ∙ ap (λ n. sums f n) (first k) in (
      omega (arith, here),
      subst (λ s. RiseFrom s es last) (sym here) (rise_sums f (suc k) es last
          (λ i lt. is (suc i) (omega (arith, lt)) ∙ ap (λ n. sums f n) (later k i))
          (subst (λ n. sums f n ≤ last) (whole k (length es)) fits)),
    )
  where
    first : (n : ℕ) → suc (n + 0) ≡ suc n
    first n = omega arith

    later : (n i : ℕ) → suc (n + suc i) ≡ suc (suc n + i)
    later n i = omega arith

    whole : (n m : ℕ) → n + suc m ≡ suc n + m
    whole n m = omega arith

-- a link is a step from one number at most
followed_but : (r : Relation) → (r ≡ Container → ⊥) → followed r ≡ true
followed_but Container h = absurd (h refl)
followed_but Member h = refl
followed_but Target h = refl
followed_but Input h = refl
followed_but Output h = refl
followed_but Error h = refl
followed_but Operation h = refl
followed_but Resource h = refl
followed_but Identifier h = refl
followed_but Property h = refl

pub takes_none : (back : Bool) (l : Link) (k : ℕ) → l.relation ≡ Container → takes back l k ≡ 0
takes_none back l k is = ap (λ r. cond (followed r) (cond (eqb (start_of back l) k) 1 0) 0) is

pub takes_here : (back : Bool) (l : Link) (k : ℕ) → (l.relation ≡ Container → ⊥) → start_of back l ≡ k → takes back l k ≡ 1
takes_here back l k other is =
    ap (λ b. cond b (cond (eqb (start_of back l) k) 1 0) 0) (followed_but l.relation other)
    ∙ ap (λ b. cond b 1 0) (elim (eqb_tells (start_of back l) k) [ inl h ↦ h.0 | inr h ↦ absurd (h.1 is) ])

pub takes_other : (back : Bool) (l : Link) (k : ℕ) → (start_of back l ≢ k) → takes back l k ≡ 0
takes_other back l k other =
    let differs : eqb (start_of back l) k ≡ false =
    elim (eqb_tells (start_of back l) k) [ inl h ↦ absurd (other h.1) | inr h ↦ h.0 ] in
    ap (λ b. cond (followed l.relation) (cond b 1 0) 0) differs ∙ neither (followed l.relation) 0
  where
    neither : (b : Bool) (n : ℕ) → cond b n n ≡ n
    neither true n = refl
    neither false n = refl

takes_most : (back : Bool) (l : Link) (k : ℕ) → takes back l k ≤ 1
takes_most back l k = most (followed l.relation) (eqb (start_of back l) k)
  where
    most : (b c : Bool) → cond b (cond c 1 0) 0 ≤ 1
    most true true = omega arith
    most true false = omega arith
    most false c = omega arith

-- links have no more steps than they are
takes_sum : (back : Bool) (l : Link) (n : ℕ) → (sums (takes back l) n ≤ 1) × (n ≤ start_of back l → sums (takes back l) n ≡ 0)
takes_sum back l zero = (omega arith, λ h. refl)
takes_sum back l (suc n) =
    let before = takes_sum back l n in
    elim (same_or_not (start_of back l) n) [
      | inl here ↦ (
        omega (arith, before.1 (omega (arith, here)), takes_most back l n),
        λ h. absurd (omega (arith, h, here)),
      )
      | inr other ↦ (
        omega (arith, before.0, takes_other back l n other),
        λ h. omega (arith, before.1 (omega (arith, h)), takes_other back l n other),
      )
    ]

sums_apart : (back : Bool) (l : Link) (ls : List Link) (n : ℕ)
    → sums (steps_at back (l ∷ ls)) n ≡ sums (takes back l) n + sums (steps_at back ls) n
sums_apart back l ls zero = refl
sums_apart back l ls (suc n) = omega (arith, sums_apart back l ls n)

sums_none : (back : Bool) (n : ℕ) → sums (steps_at back []) n ≡ 0
sums_none back zero = refl
sums_none back (suc n) = omega (arith, sums_none back n)

pub sums_few : (back : Bool) (ls : List Link) (n : ℕ) → sums (steps_at back ls) n ≤ length ls
sums_few back [] n = omega (arith, sums_none back n)
sums_few back (l ∷ ls) n = omega (arith, sums_apart back l ls n, (takes_sum back l n).0, sums_few back ls n)

pub steps_few : (back : Bool) (ls : List Link) (k : ℕ) → steps_at back ls k ≤ length ls
steps_few back [] k = omega arith
steps_few back (l ∷ ls) k = omega (arith, takes_most back l k, steps_few back ls k)

-- the numbers of a run, by their places
pub in_run : (numbers : List ℕ) (from to b : ℕ) → to ≤ length numbers
    → Contains (take (to - from) (drop from numbers)) b ↔ ((p : ℕ) × (from ≤ p) × (p < to) × (get_or numbers p 0 ≡ b))
in_run numbers from to b fits = (
  λ h.
      let short : h.0 < to - from = omega (arith, h.1, long) in (
        from + h.0,
        omega arith,
        omega (arith, short),
        sym (any_default numbers (from + h.0) b 0 (omega (arith, short, fits))) ∙ sym (at_place h.0 b short) ∙ h.2,
      ),
  λ h.
      let short : h.0 - from < to - from = omega (arith, h.1, h.2) in (
        h.0 - from,
        omega (arith, short, long),
        at_place (h.0 - from) b short ∙ ap (λ p. get_or numbers p b) (back h.0 from h.1)
            ∙ any_default numbers h.0 b 0 (omega (arith, h.2, fits)) ∙ h.3,
      ),
)
  where
    long : length (take (to - from) (drop from numbers)) ≡ to - from
    long = length-take-le (to - from) (drop from numbers) (omega (arith, fits, length-drop from numbers))

    back : (p f : ℕ) → f ≤ p → f + (p - f) ≡ p
    back p f le = omega (arith, le)

    at_place : (i d : ℕ) → i < to - from → get_or (take (to - from) (drop from numbers)) i d ≡ get_or numbers (from + i) d
    at_place i d lt = get_or-take (to - from) (drop from numbers) i d lt ∙ get_or-drop from numbers i d

-- what step a link is
pub no_step : (back : Bool) (l : Link) (a b : ℕ) → l.relation ≡ Container → IsStepOf back l a b → ⊥
no_step false l a b is h = h.0 is
no_step true l a b is h = h.0 is

pub one_step : (back : Bool) (l : Link) (a b : ℕ) → (l.relation ≡ Container → ⊥)
    → IsStepOf back l a b ↔ ((start_of back l ≡ a) × (end_of back l ≡ b))
one_step false l a b other = (λ h. (h.1, h.2), λ h. (other, h.0, h.1))
one_step true l a b other = (λ h. (h.1, h.2), λ h. (other, h.0, h.1))

-- counts of steps sum up to a number that fits, since the links are a list that fits
pub sums_fit : (back : Bool) (links : List Link) (counts : List ℕ)
    → ((k : ℕ) → k < length counts → get_or counts k 0 ≡ steps_at back links k) → length links < 2 ^ 64
    → sums (λ j. get_or counts j 0) (length counts) < 2 ^ 64
sums_fit back links counts are few =
    omega (
      arith,
      sums_same (λ j. get_or counts j 0) (steps_at back links) (length counts) are,
      sums_few back links (length counts),
      few,
    )
