-- Numbers of a graph and the ids that stand at them: an id has one number.
use Rattle.std.proofs.Common.{◌≡◌, ◌<◌, inl, inr, ℕ, List, [], ◌∷◌, length, get_or, Some, None, Option, refl, sym, ap, ◌∙◌, subst, arith}
use Rattle.std.specs.Prelude.{IsSomeAnd, cond, slice_get}
use Rattle.std.specs.FinMap.{is_sorted}
use Rattle.std.specs.declared.cmp.Ordering.TheVariants.{Less, Equal}
use Rattle.std.specs.Ordering.{is_lt}
use Rattle.std.specs.Cmp.{tied_itself as tied_order}
use Rattle.std.specs.Cmp.Lexicographic.{nat_list_cmp_total}
use Rattle.std.proofs.lemmas.Bool.{cases_lt}
use Rattle.std.proofs.lemmas.Option.{slice_get_within, get_or_from_slice_get, slice_get-get_or}
use Rattle.sm_model.specs.Graphs.{text_cmp, Entry}
use Rattle.sm_model.specs.GraphView.{At, IsShapeNumber, entries_of}
use Rattle.sm_model.specs.declared.graph.Graph.{Graph}
use Rattle.sm_model.proofs.Searching.{and_left, keys_rise}

-- what stands at a number, opened
pub record Opened (g : Graph) (n : ℕ) (Is : List ℕ → Entry → Type 0) : Type 0 where
  pub id : List ℕ
  pub entry : Entry
  pub there : slice_get (entries_of g) n ≡ Some (id, entry)
  pub is : Is id entry

pub at_opened : (g : Graph) (n : ℕ) (Is : List ℕ → Entry → Type 0) → At g n Is → Opened g n Is
at_opened g n Is h = by (slice_get (entries_of g) n) refl h
  where
    by : (o : Option (List ℕ × Entry)) → slice_get (entries_of g) n ≡ o → IsSomeAnd o (λ e. Is e.0 e.1) → Opened g n Is
    by None e h = absurd h
    by (Some x) e h = record { id = x.0; entry = x.1; there = e; is = h }

pub at_closed : (g : Graph) (n : ℕ) (Is : List ℕ → Entry → Type 0) → Opened g n Is → At g n Is
at_closed g n Is o = subst (λ x. IsSomeAnd x (λ e. Is e.0 e.1)) (sym o.there) o.is

pub at_from : (g : Graph) (n : ℕ) (Is : List ℕ → Entry → Type 0) (id : List ℕ) (e : Entry)
    → slice_get (entries_of g) n ≡ Some (id, e) → Is id e → At g n Is
at_from g n Is id e there is = at_closed g n Is (record { id = id; entry = e; there = there; is = is })

pub within : (g : Graph) (n : ℕ) (id : List ℕ) (e : Entry) → slice_get (entries_of g) n ≡ Some (id, e) → IsShapeNumber g n
within g n id e there = slice_get_within (entries_of g) n (id, e) there

-- what stands at a number that is one
pub stands_at : (g : Graph) (n : ℕ) → IsShapeNumber g n → (id : List ℕ) × (e : Entry) × (slice_get (entries_of g) n ≡ Some (id, e))
stands_at g n lt = by (entries_of g) n lt
  where
    by : (es : List (List ℕ × Entry)) (k : ℕ) → k < length es → (id : List ℕ) × (e : Entry) × (slice_get es k ≡ Some (id, e))
    by [] k lt = absurd (omega (arith, lt))
    by (x ∷ es) k lt = let there = slice_get-get_or (x ∷ es) k x lt in ((get_or (x ∷ es) k x).0, (get_or (x ∷ es) k x).1, there)

-- an id has one number
less_apart : (g : Graph) (m n : ℕ) (id : List ℕ) (e f : Entry) → slice_get (entries_of g) m ≡ Some (id, e)
    → slice_get (entries_of g) n ≡ Some (id, f)
    → m < n → ⊥
less_apart g m n id e f first second less =
    let es = entries_of g in
    let sorted = and_left (is_sorted text_cmp es) _ g.sound in
    let rise = keys_rise es sorted (id, e) m n less (slice_get_within es n (id, f) second) in
    let one : text_cmp id id ≡ Less =
    ap (λ (x : List ℕ × Entry). text_cmp x.0 id) (sym (get_or_from_slice_get es m (id, e) (id, e) first))
    ∙ ap (λ (x : List ℕ × Entry). text_cmp (get_or es m (id, e)).0 x.0) (sym (get_or_from_slice_get es n (id, f) (id, e) second)) ∙ rise in
    differ (sym one ∙ tied_order nat_list_cmp_total id)
  where
    differ : Less ≡ Equal → ⊥
    differ e = absurd (subst (λ b. cond b (Unit {0}) ⊥) (ap is_lt e) tt)

pub one_number : (g : Graph) (m n : ℕ) (id : List ℕ) (e f : Entry) → slice_get (entries_of g) m ≡ Some (id, e)
    → slice_get (entries_of g) n ≡ Some (id, f)
    → m ≡ n
one_number g m n id e f first second = elim (cases_lt m n) [
  | inl less ↦ absurd (less_apart g m n id e f first second less)
  | inr ge ↦ elim (cases_lt n m) [
    | inl more ↦ absurd (less_apart g n m id f e second first more)
    | inr le ↦ omega (arith, ge, le)
  ]
]
