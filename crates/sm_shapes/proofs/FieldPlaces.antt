-- Where a binary search among fields in model order comes to: the place at which a member's field goes, or stands.
use Rattle.std.proofs.Common.{◌≡◌, ℕ, zero, suc, ◌<◌, ◌≤◌, nat_lt, nat_eq, Bool, true, false, ◌||◌, cond, List, [], ◌∷◌, length, get_or}
use Rattle.std.proofs.Common.{refl, sym, ap, ◌∙◌, subst, arith}
use Rattle.std.specs.Prelude.{Some, None, slice_get}
use Rattle.std.specs.List.{insert}
use Rattle.std.specs.List.Sorted.{IsNonDecreasingBy, IsPartitionPoint, IsPartitionedBy}
use Rattle.std.proofs.lemmas.List.Sorted.{IsPartitionedBy-leb}
use Rattle.sm_shapes.specs.Values.{Val}
use Rattle.sm_shapes.specs.ValueView.{val_of, fields_view, each_field_view}
use Rattle.sm_shapes.specs.declared.values.Fields.{Fields}
use Rattle.sm_shapes.specs.declared.values.Value.{Value}
use Rattle.sm_shapes.specs.FieldPuts.{put_field, has_field, FieldsFrom, FieldsRise, IsPlaceOf}
use Rattle.sm_shapes.proofs.ValueViews.{view_fields}

-- numbers that rise, by place
from_at : (k : ℕ) (fs : List (ℕ × Value)) → FieldsFrom k (each_field_view fs) → (j : ℕ) (d : ℕ × Value) → j < length fs
    → k ≤ (get_or fs j d).0
from_at k [] h j d lt = absurd (omega (arith, lt))
from_at k (f ∷ fs) h zero d lt = h.0
from_at k (f ∷ fs) h (suc j) d lt = from_at k fs h.1 j d (omega (arith, lt))

pub rises_at : (fs : List (ℕ × Value)) → FieldsRise (each_field_view fs) → IsNonDecreasingBy (λ f. suc f.0) fs
rises_at [] h i j d le lt = absurd (omega (arith, lt))
rises_at (f ∷ fs) h zero zero d le lt = omega arith
rises_at (f ∷ fs) h zero (suc j) d le lt = let up = from_at f.0 fs h.0 j d (omega (arith, lt)) in omega (arith, up)
rises_at (f ∷ fs) h (suc i) zero d le lt = absurd (omega (arith, le))
rises_at (f ∷ fs) h (suc i) (suc j) d le lt = rises_at fs h.1 i j d (omega (arith, le)) (omega (arith, lt))

abbrev Lower : ℕ → List (ℕ × Value) → ℕ → Type 0
Lower k fs i = (j : ℕ) (d : ℕ × Value) → j < i → nat_lt (get_or fs j d).0 k ≡ true

abbrev Higher : ℕ → List (ℕ × Value) → ℕ → Type 0
Higher k fs i = (j : ℕ) (d : ℕ × Value) → i ≤ j → j < length fs → nat_lt (get_or fs j d).0 k ≡ false

abbrev Parts : ℕ → List (ℕ × Value) → ℕ → Type 0
Parts k fs i = IsPartitionPoint (λ f. nat_lt f.0 k ≡ true) (λ f. nat_lt f.0 k ≡ false) fs i

-- what a search by halves among them says
pub parts_at : (k : ℕ) (fs : List (ℕ × Value)) (i : ℕ) → FieldsRise (each_field_view fs)
    → (IsPartitionedBy (λ f. nat_lt f.0 k) fs → Parts k fs i) → IsPlaceOf k fs i
parts_at k fs i rise parted =
    let parts = parted (IsPartitionedBy-leb (λ f. suc f.0) fs k (rises_at fs rise)) in
    (λ j d lt. parts.0 j d (omega arith) lt, parts.1)

put_low : (k : ℕ) (v : Val) (f : ℕ × Val) (fs : List (ℕ × Val)) → nat_lt f.0 k ≡ true → put_field k v (f ∷ fs) ≡ f ∷ put_field k v fs
put_low k v f fs e = ap (λ b. cond b (f ∷ put_field k v fs) ((k, v) ∷ f ∷ fs)) e

put_high : (k : ℕ) (v : Val) (f : ℕ × Val) (fs : List (ℕ × Val)) → nat_lt f.0 k ≡ false → put_field k v (f ∷ fs) ≡ (k, v) ∷ f ∷ fs
put_high k v f fs e = ap (λ b. cond b (f ∷ put_field k v fs) ((k, v) ∷ f ∷ fs)) e

-- a field that is put at the place
pub put_at : (k : ℕ) (v : Value) (fs : List (ℕ × Value)) (i : ℕ) → i ≤ length fs → Lower k fs i → Higher k fs i
    → each_field_view (insert fs i (k, v)) ≡ put_field k (val_of v) (each_field_view fs)
put_at k v [] zero le low high = refl
put_at k v [] (suc i) le low high = absurd (omega (arith, le))
put_at k v (f ∷ fs) zero le low high = sym (put_high k (val_of v) (f.0, val_of f.1) (each_field_view fs)
    (high 0 f (omega arith) (omega arith)))
put_at k v (f ∷ fs) (suc i) le low high =
    let more = put_at k v fs i (omega (arith, le)) (λ j d lt. low (suc j) d (omega (arith, lt)))
    (λ j d at lt. high (suc j) d (omega (arith, at)) (omega (arith, lt))) in
    ap (λ gs. (f.0, val_of f.1) ∷ gs) more
    ∙ sym (put_low k (val_of v) (f.0, val_of f.1) (each_field_view fs) (low 0 f (omega arith)))

-- and the one that is there
abbrev number_at : ℕ → List (ℕ × Value) → ℕ → Bool
number_at k [] i = false
number_at k (f ∷ fs) zero = nat_eq f.0 k
number_at k (f ∷ fs) (suc i) = number_at k fs i

apart_low : (j k : ℕ) → nat_lt j k ≡ true → nat_eq j k ≡ false
apart_low j k e = grind (arith, e)

none_from : (k j : ℕ) (fs : List (ℕ × Val)) → k < j → FieldsFrom j fs → has_field k fs ≡ false
none_from k j [] lt h = refl
none_from k j (f ∷ fs) lt h = ap (λ b. b || has_field k fs) (apart k f.0 (omega (arith, lt, h.0))) ∙ none_from k j fs lt h.1
  where
    apart : (k j : ℕ) → k < j → nat_eq j k ≡ false
    apart k j lt = grind (arith, lt)

has_here : (k : ℕ) (f : ℕ × Val) (fs : List (ℕ × Val)) (b : Bool) → nat_eq f.0 k ≡ b → nat_lt f.0 k ≡ false → FieldsFrom f.0 fs
    → (b || has_field k fs) ≡ b
has_here k f fs true e high h = refl
has_here k f fs false e high h = none_from k f.0 fs (grind (arith, e, high)) h

has_at : (k : ℕ) (fs : List (ℕ × Value)) (i : ℕ) → Lower k fs i → Higher k fs i → FieldsRise (each_field_view fs)
    → has_field k (each_field_view fs) ≡ number_at k fs i
has_at k [] i low high rise = refl
has_at k (f ∷ fs) zero low high rise =
    has_here k (f.0, val_of f.1) (each_field_view fs) (nat_eq f.0 k) refl (high 0 f (omega arith) (omega arith)) rise.0
has_at k (f ∷ fs) (suc i) low high rise =
    ap (λ b. b || has_field k (each_field_view fs)) (apart_low f.0 k (low 0 f (omega arith)))
    ∙ has_at k fs i (λ j d lt. low (suc j) d (omega (arith, lt)))
    (λ j d at lt. high (suc j) d (omega (arith, at)) (omega (arith, lt))) rise.1

-- among the fields of a structure, which are seen where the place was looked for, and where a field is looked up
pub has_place : (k : ℕ) (all : Fields) (fs gs : List (ℕ × Value)) (i : ℕ) → fs ≡ all.fields.items → gs ≡ all.fields.items
    → FieldsRise (fields_view all) → IsPlaceOf k fs i → has_field k (fields_view all) ≡ number_at k gs i
has_place k all fs gs i e same rise place =
    let there = subst (λ xs. IsPlaceOf k xs i) e place in
    ap (has_field k) (view_fields all)
    ∙ has_at k all.fields.items i there.0 there.1 (subst FieldsRise (view_fields all) rise)
    ∙ sym (ap (λ xs. number_at k xs i) same)

pub number_some : (k : ℕ) (fs : List (ℕ × Value)) (i : ℕ) (f : ℕ × Value) → slice_get fs i ≡ Some f → number_at k fs i ≡ nat_eq f.0 k
number_some k [] i f h = absurd cc
number_some k (g ∷ fs) zero f h = let same : g ≡ f = cc in ap (λ x. nat_eq x.0 k) same
number_some k (g ∷ fs) (suc i) f h = number_some k fs i f h

pub number_past : (k : ℕ) (fs : List (ℕ × Value)) (i : ℕ) → slice_get fs i ≡ None → number_at k fs i ≡ false
number_past k [] i h = refl
number_past k (f ∷ fs) zero h = absurd cc
number_past k (f ∷ fs) (suc i) h = number_past k fs i h

-- the numbers rise behind a field that is put
from_by : (j k : ℕ) (v : Val) (f : ℕ × Val) (fs rest : List (ℕ × Val)) (b : Bool) → j ≤ k → FieldsFrom j (f ∷ fs) → FieldsFrom j rest
    → FieldsFrom j (cond b (f ∷ rest) ((k, v) ∷ f ∷ fs))
from_by j k v f fs rest true le h more = (h.0, more)
from_by j k v f fs rest false le h more = (le, (h.0, h.1))

from_put : (j k : ℕ) (v : Val) (fs : List (ℕ × Val)) → j ≤ k → FieldsFrom j fs → FieldsFrom j (put_field k v fs)
from_put j k v [] le h = (le, tt)
from_put j k v (f ∷ fs) le h = from_by j k v f fs (put_field k v fs) (nat_lt f.0 k) le h (from_put j k v fs le h.1)

from_lower : (j k : ℕ) (fs : List (ℕ × Val)) → j ≤ k → FieldsFrom k fs → FieldsFrom j fs
from_lower j k [] le h = tt
from_lower j k (f ∷ fs) le h = (omega (arith, le, h.0), from_lower j k fs le h.1)

at_most : (j k : ℕ) → nat_lt j k ≡ true → j ≤ k
at_most j k e = grind (arith, e)

pub at_least : (j k : ℕ) → nat_lt j k ≡ false → k ≤ j
at_least j k e = grind (arith, e)

rises_by : (k : ℕ) (v : Val) (f : ℕ × Val) (fs : List (ℕ × Val)) (b : Bool) → nat_lt f.0 k ≡ b → FieldsRise (f ∷ fs)
    → FieldsRise (put_field k v fs) → FieldsRise (cond b (f ∷ put_field k v fs) ((k, v) ∷ f ∷ fs))
rises_by k v f fs true e h more = (from_put f.0 k v fs (at_most f.0 k e) h.0, more)
rises_by k v f fs false e h more = let le = at_least f.0 k e in ((le, from_lower k f.0 fs le h.0), (h.0, h.1))

pub put_rises : (k : ℕ) (v : Val) (fs : List (ℕ × Val)) → FieldsRise fs → FieldsRise (put_field k v fs)
put_rises k v [] h = (tt, tt)
put_rises k v (f ∷ fs) h = rises_by k v f fs (nat_lt f.0 k) refl h (put_rises k v fs h.1)
