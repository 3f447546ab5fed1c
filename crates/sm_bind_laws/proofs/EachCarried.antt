-- What is known of each member of a structure whose value fits and is carried, and of each of its fields.
use Rattle.std.proofs.Common.{◌≡◌, inl, inr, ℕ, List, [], ◌∷◌, sym, subst}
use Rattle.std.specs.Prelude.{Some}
use Rattle.std.specs.List.{AllByRecursion}
use Rattle.sm_tree.specs.declared.path.Step.TheVariants.{Member}
use Rattle.sm_shapes.specs.Fitting.{FitFields, Fits, Test}
use Rattle.sm_shapes.specs.Places.{member_place}
use Rattle.sm_shapes.specs.TableData.{name_at}
use Rattle.sm_shapes.specs.Values.{FieldVals, Val, field, fields_of, no_fields}
use Rattle.sm_shapes.proofs.NamedMembers.{IsAmong}
use Rattle.sm_codec.specs.Written.{paths_under}
use Rattle.sm_codec.proofs.NoFaults.{none_behind, none_first}
use Rattle.sm_codec.proofs.WrittenValues.{none_of_paths}
use Rattle.sm_bind_read.specs.bind.Roles.{Bound, binding_on, bound_members}
use Rattle.sm_bind_write.specs.CarriedParts.{uncarried_bound, uncarried_member, uncarried_members}
use Rattle.sm_bind_write.specs.WrittenParts.{value_of}
use Rattle.sm_bind_write.proofs.ReadyFields.{rising}
use Rattle.sm_bind_laws.specs.BoundRight.{IsBoundRight}
use Rattle.sm_bind_laws.proofs.FieldsEach.{EachField, FieldsApart, FitsMaybe, all_meet, are_met, fields_among, values_here}

-- a field of one of the members, whose value fits there and is carried
pub record IsReady (b : Bound) (test : Test) (k : ℕ) (v : Val) : Type 0 where
  pub among : IsAmong k (bound_members b)
  pub fits : Fits b.table test (member_place k) v
  pub carried : uncarried_bound (binding_on b k) b k v ≡ []

-- a structure to be read again
pub record CanBeRead (b : Bound) (test : Test) (labels : List (List ℕ)) (fs : FieldVals) : Type 0 where
  pub right : IsBoundRight b test labels
  pub apart : FieldsApart fs
  pub each : EachField (IsReady b test) fs
  pub maybe : AllByRecursion (λ k. FitsMaybe b.table test k (value_of k fs)) (bound_members b)
  pub carried : AllByRecursion (λ k. uncarried_member b k (value_of k fs) ≡ []) (bound_members b)
  pub again : fields_of (fields_among (bound_members b) fs) ≡ fs

pub all_at : (P : ℕ → Type 0) (k : ℕ) (ks : List ℕ) → AllByRecursion P ks → IsAmong k ks → P k
all_at P k [] h i = absurd i
all_at P k (j ∷ js) h (inl e) = subst P (sym e) h.0
all_at P k (j ∷ js) h (inr i) = all_at P k js h.1 i

pub among_all : (P : ℕ → Type 0) (ks : List ℕ) → ((k : ℕ) → IsAmong k ks → P k) → AllByRecursion P ks
among_all P [] h = tt
among_all P (k ∷ ks) h = (h k (inl refl_of), among_all P ks (λ j i. h j (inr i)))
  where
    refl_of : k ≡ k
    refl_of = cc

each_carried : (b : Bound) (fs : FieldVals) (ks : List ℕ) → uncarried_members b fs ks ≡ []
    → AllByRecursion (λ k. uncarried_member b k (value_of k fs) ≡ []) ks
each_carried b fs [] h = tt
each_carried b fs (k ∷ ks) h =
    let own = uncarried_member b k (value_of k fs) in
    let here = paths_under (Member (name_at b.table k)) own in
    let rest = uncarried_members b fs ks in
    (none_of_paths (Member (name_at b.table k)) own (none_first here rest h), each_carried b fs ks (none_behind here rest h))

module _ (b : Bound) (test : Test) (all : FieldVals)
    (maybe : AllByRecursion (λ k. FitsMaybe b.table test k (value_of k all)) (bound_members b))
    (carried : AllByRecursion (λ k. uncarried_member b k (value_of k all) ≡ []) (bound_members b)) where
  ready : (k : ℕ) (v : Val) → IsAmong k (bound_members b) → value_of k all ≡ Some v → IsReady b test k v
  ready k v i e = record {
    among = i;
    fits = subst (FitsMaybe b.table test k) e (all_at (λ j. FitsMaybe b.table test j (value_of j all)) k (bound_members b) maybe i);
    carried = subst (λ o. uncarried_member b k o ≡ []) e
        (all_at (λ j. uncarried_member b j (value_of j all) ≡ []) k (bound_members b) carried i);
  }

  all_ready : (fs : FieldVals) → EachField (λ j w. IsAmong j (bound_members b)) fs → EachField (λ j w. value_of j all ≡ Some w) fs
      → EachField (IsReady b test) fs
  all_ready no_fields inside here = tt
  all_ready (field k v fs) inside here = (ready k v inside.0 here.0, all_ready fs inside.1 here.1)

pub can_be_read : (b : Bound) (test : Test) (labels : List (List ℕ)) (fs : FieldVals) → IsBoundRight b test labels
    → FitFields b.table test (bound_members b) fs → uncarried_members b fs (bound_members b) ≡ [] → CanBeRead b test labels fs
can_be_read b test labels fs right fits none =
    let ks = bound_members b in
    let rise = rising ks (right.shaped.rises b.shape right.within) in
    let met = are_met b.table test ks fs rise (all_meet b.table test ks fs rise fits) in
    let carried = each_carried b fs ks none in
    record {
      right = right;
      apart = met.apart;
      each = all_ready b test fs met.maybe carried fs met.inside (values_here fs met.apart);
      maybe = met.maybe;
      carried = carried;
      again = met.again;
    }
