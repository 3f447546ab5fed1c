-- What calls of sm_codec ask of parts of a structure.
use Rattle.std.proofs.Common.{◌≡◌, ◌<◌, ◌≤◌, ℕ, Bool, true, false, cond, Option, Some, None, List, [], ◌∷◌, ◌++◌, length, get_or}
use Rattle.std.proofs.Common.{refl, sym, ap, ◌∙◌, subst, arith}
use Rattle.sm_tree.specs.Events.{NodeEvent}
use Rattle.sm_tree.specs.Streams.{Takes, TakesEvery, TakesEach}
use Rattle.sm_tree.specs.declared.path.Step.TheVariants.{Member}
use Rattle.sm_shapes.specs.Values.{Val, FieldVals, structure_val, no_fields, field, fields_of}
use Rattle.sm_shapes.specs.ValueView.{value_step, entries_step, fields_step, items_step, val_of, fields_view, each_field_view}
use Rattle.sm_shapes.specs.declared.values.Value.{Value}
use Rattle.sm_shapes.specs.declared.values.Value.TheVariants.{Structure, rolls-Structure}
use Rattle.sm_shapes.specs.declared.values.Value.TheFolds.{fold-roll-Value}
use Rattle.sm_shapes.specs.declared.values.Fields.{Fields}
use Rattle.sm_shapes.specs.TableData.{TableData, shape_count, member_count, name_at}
use Rattle.sm_shapes.specs.Places.{Place, root_place, member_place}
use Rattle.sm_shapes.specs.Fitting.{Fits, any_text}
use Rattle.sm_shapes.specs.InOrder.{Shaped}
use Rattle.sm_codec.specs.Convention.{Convention}
use Rattle.sm_codec.specs.Written.{uncarried, uncarried_fields, paths_under}
use Rattle.sm_codec.specs.WrittenObjects.{fields_among, is_written}
use Rattle.sm_codec.proofs.NoFaults.{none_first, none_behind}
use Rattle.sm_codec.proofs.PartsFit.{parts_fit}

-- a sink that takes every event takes each of some
pub every_taken : (takes : Takes) → TakesEvery takes → (es : List NodeEvent) → TakesEach takes es
every_taken takes every [] = tt
every_taken takes every (e ∷ es) = (every e, every_taken takes every es)

structure_value : (v : Fields) → val_of (Structure v) ≡ structure_val (fields_of (fields_view v))
structure_value v = ap val_of (sym (rolls-Structure v))
    ∙ fold-roll-Value Val (List (List ℕ × Val)) (List (ℕ × Val)) (List Val) value_step entries_step fields_step items_step _

-- the value of a structure, by its fields
structure_is : (value : Value) (fields : Fields) (fs : List (ℕ × Val)) → value ≡ Structure fields → fs ≡ fields_view fields
    → val_of value ≡ structure_val (fields_of fs)
structure_is value fields fs is view = ap val_of is ∙ structure_value fields ∙ ap (λ all. structure_val (fields_of all)) (sym view)

-- of fields that are all carried, those of some members are
among_carried : (t : TableData) (l : Convention) (o : Option (List ℕ)) (fs : FieldVals) → uncarried_fields t l fs ≡ []
    → uncarried_fields t l (fields_among o fs) ≡ []
among_carried t l None fs g = g
among_carried t l (Some ks) no_fields g = refl
among_carried t l (Some ks) (field k v fs) g =
    let first = paths_under (Member (name_at t k)) (uncarried t l (member_place k) v) in
    let rest = uncarried_fields t l fs in
    by (is_written (Some ks) k) (none_first first rest g) (among_carried t l (Some ks) fs (none_behind first rest g))
  where
    by : (b : Bool) → paths_under (Member (name_at t k)) (uncarried t l (member_place k) v) ≡ []
        → uncarried_fields t l (fields_among (Some ks) fs) ≡ []
        → uncarried_fields t l (cond b (field k v (fields_among (Some ks) fs)) (fields_among (Some ks) fs)) ≡ []
    by true h more = ap (λ xs. xs ++ uncarried_fields t l (fields_among (Some ks) fs)) h ∙ more
    by false h more = more

-- where all of a structure is carried, so are the fields of some members
pub among_structure : (t : TableData) (l : Convention) (p : Place) (o : Option (List ℕ)) (value : Value) (fields : Fields)
    (fs : List (ℕ × Val)) → value ≡ Structure fields → fs ≡ fields_view fields → uncarried t l p (val_of value) ≡ []
    → uncarried_fields t l (fields_among o (fields_of fs)) ≡ []
among_structure t l p o value fields fs is view none =
    among_carried t l o (fields_of fs) (subst (λ v. uncarried t l p v ≡ []) (structure_is value fields fs is view) none)

field_fits : (t : TableData) (s k : ℕ) (v : Val) (fs : FieldVals) → Shaped t → s < shape_count t
    → Fits t any_text (root_place s) (structure_val (field k v fs)) → (k < member_count t) × Fits t any_text (member_place k) v
field_fits t s k v fs shaped shape fits =
    ((parts_fit t any_text shaped (structure_val (field k v fs)) (root_place s) shape fits).1.0, fits.1.4)

-- the first field of a structure fits at the place of its member
pub first_fits : (t : TableData) (s : ℕ) (value : Value) (fields : Fields) (parts : List (ℕ × Value)) (first : ℕ × Value) → Shaped t
    → s < shape_count t → Fits t any_text (root_place s) (val_of value) → value ≡ Structure fields
    → each_field_view parts ≡ fields_view fields → 1 ≤ length parts → first ≡ get_or parts 0 first
    → (first.0 < member_count t) × Fits t any_text (member_place first.0) (val_of first.1)
first_fits t s value fields [] first shaped shape fits is view some at = absurd (omega arith)
first_fits t s value fields (part ∷ parts) first shaped shape fits is view some at =
    let all = each_field_view (part ∷ parts) in
    subst (λ f. (f.0 < member_count t) × Fits t any_text (member_place f.0) (val_of f.1)) (sym at)
    (field_fits t s part.0 (val_of part.1) (fields_of (each_field_view parts)) shaped shape
    (subst (Fits t any_text (root_place s)) (structure_is value fields all is view) fits))
