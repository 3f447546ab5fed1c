-- The fields that a frame keeps stand in model order; and the defaults of a table are of simple types, or empty lists and maps.
use Rattle.std.proofs.Common.{◌≡◌, inl, inr, ℕ, Bool, true, false, not, ◌&&◌, cond, List, [], ◌∷◌, ◌++◌, refl, sym, ap, ◌∙◌, subst}
use Rattle.std.specs.Prelude.{Option, Some, None}
use Rattle.std.specs.List.Sorted.{IsStrictlySortedBy}
use Rattle.std.specs.Ordering.{nat_cmp}
use Rattle.sm_shapes.specs.Values.{Val, Vals, EntryVals, null_val, bool_val, int_val, text_val, blob_val, time_val, list_val, map_val}
use Rattle.sm_shapes.specs.Values.{structure_val, union_val, no_vals, no_entries}
use Rattle.sm_shapes.specs.TableData.{TableData, kind_at, target_at, required_at, default_at}
use Rattle.sm_shapes.specs.InOrder.{Shaped, MayHaveDefault}
use Rattle.sm_shapes.specs.Fitting.{any_text, Fits}
use Rattle.sm_shapes.specs.Places.{Place, member_place, shape_of, members_of_place}
use Rattle.sm_shapes.specs.FieldPuts.{put_field, has_field, FieldsFrom, FieldsRise}
use Rattle.sm_shapes.proofs.FieldPlaces.{put_rises}
use Rattle.sm_codec.specs.Codec.{Codec, InTable}
use Rattle.sm_codec.specs.Readings.{Child, ByMember, under_names, absent_with}
use Rattle.sm_codec.specs.Decoding.{MemberFrame, structure_frame}
use Rattle.sm_codec.specs.Kept.{AreOf, each_field, spelled_fields, closed_faults, HoldsPairs}
use Rattle.sm_codec.specs.steps.ClosingSteps.{IsPlain, must_stand, lacks, missing_by, missing, put_default}
use Rattle.sm_codec.proofs.PlacesIn.{shape_in}
use Rattle.sm_codec.proofs.MembersKept.{kept_of, from_above, from_of}
use Rattle.sm_codec.proofs.MemberParts.{FieldsOf, of_each, from_each, from_both, spelled_above, above_from}

rises_joined : (k : ℕ) (fs gs : List (ℕ × Val)) → FieldsOf k fs → FieldsFrom k gs → FieldsRise gs → FieldsRise (fs ++ gs)
rises_joined k [] gs h from g = g
rises_joined k (f ∷ fs) gs h from g = (
  subst (λ j. FieldsFrom j (fs ++ gs)) (sym h.0) (from_both k fs gs (from_each k fs h.1) from),
  rises_joined k fs gs h.1 from g,
)

spelled_rises : (s : ByMember) (ks : List ℕ) → IsStrictlySortedBy nat_cmp ks → FieldsRise (spelled_fields s ks)
unfolding IsStrictlySortedBy
spelled_rises s [] h = tt
spelled_rises s (k ∷ ks) h =
    rises_joined k (each_field k (s k)) (spelled_fields s ks) (of_each k (s k))
    (from_above k (spelled_fields s ks) (spelled_above s k ks (above_from k ks h.0))) (spelled_rises s ks h.1)

of_rises : (fs gs : List (ℕ × Val)) → AreOf fs gs → FieldsRise gs → FieldsRise fs
of_rises [] gs h g = tt
of_rises (f ∷ fs) [] h g = absurd h
of_rises (f ∷ fs) (e ∷ gs) (inl h) g =
    (subst (λ j. FieldsFrom j fs) (ap (λ x. x.0) (sym h.0)) (from_of e.0 fs gs h.1 g.0), of_rises fs gs h.1 g.1)
of_rises (f ∷ fs) (e ∷ gs) (inr h) g = of_rises (f ∷ fs) gs h g.1

pub fields_rise : (c : Codec) (p : Place) (ps : List (List ℕ × Child)) (pending : Option (List ℕ)) (f : MemberFrame) → Shaped c.table
    → InTable c.table p → HoldsPairs c p ps pending (structure_frame f) → FieldsRise f.fields
fields_rise c p ps pending f shaped inside h =
    let ks = members_of_place c.table p in
    let s = under_names c p ps in
    of_rises f.fields (spelled_fields s ks) (kept_of (closed_faults c.table s ks) f.fields (spelled_fields s ks) h.1.fields)
    (spelled_rises s ks (shaped.rises (shape_of c.table p) (shape_in c.table p shaped inside)))

-- a default
no_more_vals : (vs : Vals) → list_val vs ≡ list_val no_vals → vs ≡ no_vals
no_more_vals vs h = cc

no_more_entries : (es : EntryVals) → map_val es ≡ map_val no_entries → es ≡ no_entries
no_more_entries es h = cc

plain_by : (t : TableData) (k : ℕ) (v : Val) → Fits t any_text (member_place k) v → MayHaveDefault (kind_at t (target_at t k)) v → IsPlain v
plain_by t k null_val fits may = tt
plain_by t k (bool_val b) fits may = tt
plain_by t k (int_val z) fits may = tt
plain_by t k (text_val u) fits may = tt
plain_by t k (blob_val u) fits may = tt
plain_by t k (time_val ms) fits may = tt
plain_by t k (list_val vs) fits may = no_more_vals vs (subst (λ kind. MayHaveDefault kind (list_val vs)) fits.0 may)
plain_by t k (map_val es) fits may = no_more_entries es (subst (λ kind. MayHaveDefault kind (map_val es)) fits.0 may)
plain_by t k (structure_val fs) fits may = subst (λ kind. MayHaveDefault kind (structure_val fs)) fits.0 may
plain_by t k (union_val j v) fits may = subst (λ kind. MayHaveDefault kind (union_val j v)) fits.0 may

pub plain_default : (t : TableData) (k : ℕ) (v : Val) → Shaped t → default_at t k ≡ Some v → IsPlain v
plain_default t k v shaped e = plain_by t k v (shaped.fit k v e) (shaped.values k v e).1

-- fields rise behind a default
default_by : (k : ℕ) (v : Val) (fs : List (ℕ × Val)) (b : Bool) → FieldsRise fs → FieldsRise (cond b fs (put_field k v fs))
default_by k v fs true h = h
default_by k v fs false h = put_rises k v fs h

pub default_rises : (k : ℕ) (o : Option Val) (fs : List (ℕ × Val)) → FieldsRise fs → FieldsRise (put_default k o fs)
default_rises k None fs h = h
default_rises k (Some v) fs h = default_by k v fs (has_field k fs) h

-- the first that is missing, step by step
missed_by : (d : Option Val) (r : Bool) (k : ℕ) (more : Option ℕ)
    → missing_by (absent_with d r) k more ≡ cond (must_stand d r) (Some k) more
missed_by (Some v) r k more = refl
missed_by None true k more = refl
missed_by None false k more = refl

lacks_by : (h m : Bool) (k : ℕ) (more : Option ℕ) → cond h more (cond m (Some k) more) ≡ cond (not h && m) (Some k) more
lacks_by true m k more = refl
lacks_by false true k more = refl
lacks_by false false k more = refl

pub missing_step : (t : TableData) (fs : List (ℕ × Val)) (k : ℕ) (ks : List ℕ)
    → missing t fs (k ∷ ks) ≡ cond (lacks t fs k) (Some k) (missing t fs ks)
missing_step t fs k ks =
    ap (λ o. cond (has_field k fs) (missing t fs ks) o) (missed_by (default_at t k) (required_at t k) k (missing t fs ks))
    ∙ lacks_by (has_field k fs) (must_stand (default_at t k) (required_at t k)) k (missing t fs ks)
