-- Of a value whose parts are all carried each field is ready to be written.
use Rattle.std.proofs.Common.{◌≡◌, ℕ, ◌<◌, Bool, true, false, cond, List, [], ◌∷◌, ◌++◌, refl, sym, ap, ◌∙◌, subst}
use Rattle.std.specs.Prelude.{◌==◌, Some, None, IfSome}
use Rattle.std.specs.List.{AllByRecursion}
use Rattle.std.specs.List.Sorted.{IsStrictlySortedBy}
use Rattle.std.specs.Ordering.{nat_cmp}
use Rattle.std.specs.declared.cmp.Ordering.TheVariants.{Less}
use Rattle.std.proofs.lemmas.Bool.Decides.{Decides-eqb}
use Rattle.std.proofs.lemmas.Cmp.{ranked}
use Rattle.std.proofs.lemmas.Map.Keys.{sorted_head, sorted_tail}
use Rattle.sm_tree.specs.declared.path.Step.TheVariants.{Member}
use Rattle.sm_shapes.specs.Fitting.{Fits, any_text}
use Rattle.sm_shapes.specs.InOrder.{AreMembersOf}
use Rattle.sm_shapes.specs.Places.{member_place, root_place}
use Rattle.sm_shapes.specs.TableData.{TableData, member_count, members_at, name_at}
use Rattle.sm_shapes.specs.Values.{FieldVals, Val, blob_val, bool_val, field, int_val, list_val, map_val, no_fields, null_val}
use Rattle.sm_shapes.specs.Values.{structure_val, text_val, time_val, union_val}
use Rattle.sm_codec.specs.Written.{paths_under}
use Rattle.sm_codec.proofs.NoFaults.{none_behind, none_first}
use Rattle.sm_codec.proofs.WrittenValues.{none_of_paths}
use Rattle.sm_messages.specs.TreeBodies.{fields_in}
use Rattle.sm_bind.specs.Roles.{Bound, binding_on}
use Rattle.sm_bind_write.specs.CarriedParts.{uncarried_bound, uncarried_member, uncarried_members}
use Rattle.sm_bind_write.specs.WrittenParts.{value_of}
use Rattle.sm_bind_write.specs.steps.FieldsMet.{AllAbove, FieldsIn, FieldsReady, Rising, fields_behind, first_value}
use Rattle.sm_bind_write.proofs.MetFields.{fields_in_fit, members_behind, met}

all_above : (k : ℕ) (ks : List ℕ) → AllByRecursion (λ j. nat_cmp k j ≡ Less) ks → AllAbove k ks
all_above k [] h = tt
all_above k (j ∷ js) h = (ranked k j Less (sym h.0), all_above k js h.1)

pub rising : (ks : List ℕ) → IsStrictlySortedBy nat_cmp ks → Rising ks
rising [] h = tt
rising (k ∷ ks) h = (all_above k ks (sorted_head nat_cmp k ks h), rising ks (sorted_tail nat_cmp k ks h))

with_field : (b : Bound) (k j : ℕ) (v : Val) (fs : FieldVals) (same : Bool) → (j == k) ≡ same → k < member_count b.table
    → IfSome (cond same (Some v) None) (λ w. Fits b.table any_text (member_place k) w)
    → uncarried_member b k (cond same (Some v) None) ≡ [] → FieldsReady b (cond same fs (field j v fs)) → FieldsReady b (field j v fs)
with_field b k j v fs true e inside fits carried rest =
    let e2 = (Decides-eqb j k).0 e in (
      subst (λ n. n < member_count b.table) (sym e2) inside,
      subst (λ n. Fits b.table any_text (member_place n) v) (sym e2) fits,
      subst (λ n. uncarried_bound (binding_on b n) b n v ≡ []) (sym e2) carried,
      rest,
    )
with_field b k j v fs false e inside fits carried rest = rest

put_before : (b : Bound) (k : ℕ) (fs : FieldVals) → k < member_count b.table
    → IfSome (first_value k fs) (λ w. Fits b.table any_text (member_place k) w)
    → uncarried_member b k (first_value k fs) ≡ [] → FieldsReady b (fields_behind k fs) → FieldsReady b fs
put_before b k no_fields inside fits carried rest = tt
put_before b k (field j v fs) inside fits carried rest = with_field b k j v fs (j == k) refl inside fits carried rest

pub ready : (b : Bound) (s : ℕ) (ks : List ℕ) (fs : FieldVals) → AreMembersOf b.table s ks → Rising ks → FieldsIn b.table ks fs
    → uncarried_members b fs ks ≡ [] → FieldsReady b fs
ready b s [] no_fields stand rise h carried = tt
ready b s [] (field k v fs) stand rise h carried = absurd (none h.0 h.2)
  where
    none : (before : List ℕ) → [] ≡ before ++ k ∷ h.1 → ⊥
    none [] e = cc
    none (i ∷ before) e = cc
ready b s (k ∷ ks) fs stand rise h carried =
    let step = met b.table k ks fs rise.0 h in
    let here = paths_under (Member (name_at b.table k)) (uncarried_member b k (value_of k fs)) in
    let rest = uncarried_members b fs ks in
    let own = none_of_paths (Member (name_at b.table k)) (uncarried_member b k (value_of k fs)) (none_first here rest carried) in
    put_before b k fs stand.0 step.1 (ap (uncarried_member b k) step.0 ∙ own)
    (ready b s ks (fields_behind k fs) stand.2 rise.1 step.2 (sym (members_behind b k ks fs rise.0) ∙ none_behind here rest carried))

-- the fields of a value that fits, if it has some
pub fields_met : (t : TableData) (s : ℕ) (v : Val) → Fits t any_text (root_place s) v → FieldsIn t (members_at t s) (fields_in v)
fields_met t s null_val h = tt
fields_met t s (bool_val b) h = tt
fields_met t s (int_val z) h = tt
fields_met t s (text_val u) h = tt
fields_met t s (blob_val u) h = tt
fields_met t s (time_val ms) h = tt
fields_met t s (list_val vs) h = tt
fields_met t s (map_val es) h = tt
fields_met t s (structure_val fs) h = fields_in_fit t (members_at t s) fs h.1
fields_met t s (union_val k v) h = tt
