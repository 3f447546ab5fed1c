-- The status of a response is that of the member that is bound to it.
use Rattle.std.proofs.Common.{◌≡◌, ℕ, ℤ, pos, Bool, true, false, ◌&&◌, not, cond, List, [], ◌∷◌, refl, sym, ap, ◌∙◌, subst}
use Rattle.std.specs.Prelude.{◌==◌, IfSome, None, Option, Some, int_le, unsigned_abs, unwrap_or}
use Rattle.std.proofs.lemmas.Bool.Decides.{Decides-eqb}
use Rattle.sm_time.proofs.StampForms.{and_first, and_second}
use Rattle.sm_shapes.specs.Fitting.{Fits, Test}
use Rattle.sm_shapes.specs.Places.{member_place}
use Rattle.sm_shapes.specs.TableData.{BindingData, response_code}
use Rattle.sm_shapes.specs.Values.{FieldVals, Val, field, int_val, no_fields}
use Rattle.sm_shapes.proofs.NamedMembers.{IsAmong}
use Rattle.sm_part_texts.proofs.TextsHad.{passed_here}
use Rattle.sm_bind_read.specs.bind.Roles.{Bound, binding_on, bound_members}
use Rattle.sm_bind_read.specs.PartFaults.{bound_codec}
use Rattle.sm_bind_read.specs.Parts.{status_child}
use Rattle.sm_bind_write.specs.CarriedParts.{has_body, is_bodiless, is_status, uncarried_absent, uncarried_bound, uncarried_member}
use Rattle.sm_bind_write.specs.WrittenParts.{member_status, status_among, value_of}
use Rattle.sm_part_laws.specs.Coming.{ComeTo}
use Rattle.sm_part_laws.specs.Laws.{StatusRead}
use Rattle.sm_bind_laws.proofs.EachCarried.{CanBeRead, IsReady, all_at}
use Rattle.sm_bind_laws.proofs.FieldsEach.{EachField, value_held}
use Rattle.sm_bind_laws.proofs.MembersRead.{StandFor}
use Rattle.sm_bind_laws.proofs.OwnParts.{one_code}

-- a status that is carried is a number of success
pub record IsCarriedStatus (v : Val) : Type 0 where
  pub number : ℤ
  pub is_number : v ≡ int_val number
  pub least : int_le (pos 200) number ≡ true
  pub most : int_le number (pos 299) ≡ true

status_number : (b : Bound) (v : Val) → is_status b v ≡ true → IsCarriedStatus v
status_number b (int_val z) h =
    let rest = int_le z (pos 299) && not (is_bodiless z && has_body b) in
    record {
      number = z;
      is_number = refl;
      least = and_first (int_le (pos 200) z) rest h;
      most = and_first (int_le z (pos 299)) (not (is_bodiless z && has_body b)) (and_second (int_le (pos 200) z) rest h);
    }
status_number b v h = absurd cc

never : uncarried_absent (Some response_code) ≡ [] → ⊥
never h = cc

same_value : (v w : Val) → Some v ≡ Some w → v ≡ w
same_value v w e = cc

module _ (b : Bound) (test : Test) (labels : List (List ℕ)) (all : FieldVals) (can : CanBeRead b test labels all) where
  abbrev members : List ℕ
  members = bound_members b

  module _ (k : ℕ) (there : IsAmong k members) (bound : binding_on b k ≡ Some response_code) (usual : ℕ) where
    no_status : (j : ℕ) (w : Val) → IsAmong j members → (j ≡ k → ⊥) → (o : Option BindingData) → binding_on b j ≡ o
        → member_status o w ≡ None
    no_status j w i other (Some response_code) e = absurd (other (one_code b test labels can.right j k i there e bound))
    no_status j w i other o e = refl

    status_by : (z : ℤ) (j : ℕ) (w : Val) (fs : FieldVals) (t : Bool) → (j == k) ≡ t → IsReady b test j w
        → cond t (Some w) (value_of k fs) ≡ Some (int_val z)
        → (value_of k fs ≡ Some (int_val z) → status_among b usual fs ≡ unsigned_abs z)
        → unwrap_or (member_status (binding_on b j) w) (status_among b usual fs) ≡ unsigned_abs z
    status_by z j w fs true e ready here rest =
        let same = (Decides-eqb j k).0 e in
        ap (λ o. unwrap_or (member_status o w) (status_among b usual fs))
        (subst (λ n. binding_on b n ≡ Some response_code) (sym same) bound)
        ∙ ap (λ v. unwrap_or (member_status (Some response_code) v) (status_among b usual fs)) (same_value w (int_val z) here)
    status_by z j w fs false e ready here rest =
        ap (λ o. unwrap_or o (status_among b usual fs))
        (no_status j w ready.among (λ same. not_like (j == k) ((Decides-eqb j k).1 same) e) (binding_on b j) refl)
        ∙ rest here
      where
        not_like : (t : Bool) → t ≡ true → t ≡ false → ⊥
        not_like t h g = cc

    status_found : (z : ℤ) (fs : FieldVals) → EachField (IsReady b test) fs → value_of k fs ≡ Some (int_val z)
        → status_among b usual fs ≡ unsigned_abs z
    status_found z no_fields each here = absurd cc
    status_found z (field j w fs) each here =
        status_by z j w fs (j == k) refl each.0 here (λ later. status_found z fs each.1 later)

    present : (o : Option Val) → value_of k all ≡ o → uncarried_member b k o ≡ [] → IfSome o (IsReady b test k)
        → (v : Val) × (value_of k all ≡ Some v) × IsReady b test k v
    present None e carried ready = absurd (never (subst (λ x. uncarried_absent x ≡ []) bound carried))
    present (Some v) e carried ready = (v, e, ready)

    pub status_read : StatusRead → (status : ℕ) → status ≡ status_among b usual all
        → StandFor k (value_of k all) (status_child (bound_codec b test) status ∷ [])
    status_read law status e =
        let c = bound_codec b test in
        let here = present (value_of k all) refl (all_at (λ j. uncarried_member b j (value_of j all) ≡ []) k members can.carried there)
        (value_held (IsReady b test) k all can.each) in
        let v = here.0 in
        let own = status_number b v (passed_here (is_status b v) (subst (λ o. uncarried_bound o b k v ≡ []) bound here.2.carried)) in
        let z = own.number in
        let told = e ∙ status_found z all can.each (here.1 ∙ ap (λ w. Some w) own.is_number) in
        let read = law c (member_place k) z (subst (Fits b.table test (member_place k)) own.is_number here.2.fits) own.least own.most in
        subst (λ o. StandFor k o (status_child c status ∷ [])) (sym here.1)
        (subst (λ n. ComeTo (member_place k) v (status_child c n ∷ [])) (sym told)
        (subst (λ w. ComeTo (member_place k) w (status_child c (unsigned_abs z) ∷ [])) (sym own.is_number) (refl, read)))
