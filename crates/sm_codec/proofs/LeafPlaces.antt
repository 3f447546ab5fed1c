-- A leaf at a place: by the place's simple type, and by the first constraint that its value breaks.
use Rattle.std.proofs.Common.{◌≡◌, Bool, false, [], ◌∷◌, refl, sym, ap, ◌∙◌, subst}
use Rattle.std.specs.Prelude.{Some, None, Ok, Err}
use Rattle.sm_tree.specs.Node.{Node}
use Rattle.sm_shapes.specs.Values.{Val}
use Rattle.sm_shapes.specs.Places.{Place}
use Rattle.sm_shapes.specs.declared.fault.FaultKind.{FaultKind}
use Rattle.sm_shapes.specs.declared.fault.FaultKind.TheVariants.{WrongType}
use Rattle.sm_codec.specs.declared.simple.Simple.{Simple}
use Rattle.sm_codec.specs.Sorts.{Sort, simple, a_list, a_map, a_structure, a_union, left_out, simple_in}
use Rattle.sm_codec.specs.Codec.{Codec, broken_at}
use Rattle.sm_codec.specs.FaultLists.{Reading, here, settled}
use Rattle.sm_codec.specs.Readings.{one_here, leaf_by, leaf_reading}
use Rattle.sm_codec.specs.Decoding.{Outcome, good, bad}
use Rattle.sm_codec.specs.Kept.{IsOutcome}
use Rattle.sm_codec.specs.steps.Arrivals.{IsArrival, comes}

-- a fault of the leaf itself
pub bad_here : (kind : FaultKind) → IsOutcome (Err (one_here kind)) (bad ([], kind))
bad_here kind = (([], kind), [], refl, refl)

module _ (c : Codec) (p : Place) (n : Node) where
  -- at a place of no simple type
  pub no_leaf : (s : Sort) → simple_in s ≡ None → leaf_by s c p n ≡ Err (one_here WrongType)
  no_leaf (simple x) h = absurd cc
  no_leaf a_list h = refl
  no_leaf a_map h = refl
  no_leaf a_structure h = refl
  no_leaf a_union h = refl
  no_leaf left_out h = refl

  -- at one of a simple type
  pub leaf_read : (s : Sort) (x : Simple) → simple_in s ≡ Some x → leaf_by s c p n ≡ leaf_reading c p (c.convention.read x n)
  leaf_read (simple y) x h = let same : y ≡ x = cc in ap (λ z. leaf_reading c p (c.convention.read z n)) same
  leaf_read a_list x h = absurd cc
  leaf_read a_map x h = absurd cc
  leaf_read a_structure x h = absurd cc
  leaf_read a_union x h = absurd cc
  leaf_read left_out x h = absurd cc

  pub wrong_leaf : (s : Sort) → None ≡ simple_in s → IsOutcome (leaf_by s c p n) (bad ([], WrongType))
  wrong_leaf s h = subst (λ r. IsOutcome r (bad ([], WrongType))) (sym (no_leaf s (sym h))) (bad_here WrongType)

  pub faulty_leaf : (s : Sort) (x : Simple) (kind : FaultKind) → Some x ≡ simple_in s → c.convention.read x n ≡ Err kind
      → IsOutcome (leaf_by s c p n) (bad ([], kind))
  faulty_leaf s x kind h read =
      subst (λ r. IsOutcome r (bad ([], kind))) (sym (leaf_read s x (sym h) ∙ ap (leaf_reading c p) read)) (bad_here kind)

  pub judged_leaf : (s : Sort) (x : Simple) (v : Val) (o : Outcome) → Some x ≡ simple_in s → c.convention.read x n ≡ Ok v
      → IsOutcome (settled (here (broken_at c p v)) v) o → IsOutcome (leaf_by s c p n) o
  judged_leaf s x v o h read is = subst (λ r. IsOutcome r o) (sym (leaf_read s x (sym h) ∙ ap (leaf_reading c p) read)) is

-- a tree that isn't null arrives as its outcome
pub outcome_arrives : (r : Reading) (o : Outcome) (null : Bool) → null ≡ false → IsOutcome r o → IsArrival null r (comes o)
outcome_arrives (Ok v) (good w) null e h = (e, (let same : w ≡ v = good_same w v h in ap (λ x. Ok x) (sym same)))
  where
    good_same : (a b : Val) → good a ≡ good b → a ≡ b
    good_same a b i = cc
outcome_arrives (Ok v) (bad f) null e h = let is : bad f ≡ good v = h in absurd cc
outcome_arrives (Err fs) (good w) null e h = let is : good w ≡ bad h.0 = h.3 in absurd cc
outcome_arrives (Err fs) (bad f) null e h =
    let is : bad f ≡ bad h.0 = h.3 in
    let same : h.0 ≡ f = cc in
    (e, (h.1, ap (λ xs. Err xs) (h.2 ∙ ap (λ g. g ∷ h.1) same)))
