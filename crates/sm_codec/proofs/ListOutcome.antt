-- What a list's frame comes to where the list ends is the list's outcome.
use Rattle.std.proofs.Common.{◌≡◌, Bool, true, false, ◌&&◌, cond, List, [], ◌∷◌, ◌++◌, refl, sym, subst}
use Rattle.std.specs.Prelude.{Option, Some, None}
use Rattle.sm_tree.specs.Node.{Node}
use Rattle.sm_shapes.specs.Values.{Val, list_val, vals_of}
use Rattle.sm_shapes.specs.Places.{Place, constraints_of, unique_of}
use Rattle.sm_shapes.specs.Broken.{length_broken, has_twice}
use Rattle.sm_shapes.specs.declared.fault.FaultKind.{FaultKind}
use Rattle.sm_shapes.specs.declared.fault.FaultKind.TheVariants.{Unique}
use Rattle.sm_codec.specs.Codec.{Codec}
use Rattle.sm_codec.specs.FaultLists.{FaultAt, here, settled}
use Rattle.sm_codec.specs.Readings.{children_of, one_here, list_reading}
use Rattle.sm_codec.specs.Decoding.{bad, EntryFrame}
use Rattle.sm_codec.specs.Kept.{HoldsEntries, IsOutcome}
use Rattle.sm_codec.specs.steps.EntrySteps.{list_ended, list_end}
use Rattle.sm_codec.proofs.EntryArrives.{list_fault, list_ends}

-- without a fault of an entry
clean_outcome : (kinds : List FaultKind) (twice : Bool) (vs : List Val)
    → IsOutcome (settled (here kinds ++ cond twice (one_here Unique) []) (list_val (vals_of vs))) (list_ended None kinds twice vs)
clean_outcome (k ∷ ks) twice vs = (([], k), here ks ++ cond twice (one_here Unique) [], refl, refl)
clean_outcome [] true vs = (([], Unique), [], refl, refl)
clean_outcome [] false vs = refl

module _ (c : Codec) (p : Place) (ns : List Node) (f : EntryFrame) (h : HoldsEntries c p ns f) where
  abbrev Ends : Option FaultAt → Type 0
  Ends o =
      IsOutcome (list_reading c p (children_of c ns))
      (list_ended o (length_broken (constraints_of c.table p) f.count) (unique_of c.table p && has_twice f.items) f.items)

  by_fault : (o : Option FaultAt) → f.fault ≡ o → Ends o
  by_fault (Some g) e =
      let faulty = list_fault c p ns f g h e in
      subst (λ r. IsOutcome r (bad g)) (sym faulty.1) (g, faulty.0, refl, refl)
  by_fault None e =
      let kinds = length_broken (constraints_of c.table p) f.count in
      let twice = unique_of c.table p && has_twice f.items in
      subst (λ r. IsOutcome r (list_ended None kinds twice f.items)) (sym (list_ends c p ns f h e)) (clean_outcome kinds twice f.items)

  pub list_outcome : IsOutcome (list_reading c p (children_of c ns)) (list_end (constraints_of c.table p) (unique_of c.table p) f)
  list_outcome = by_fault f.fault refl
