-- The document of the fields that stand there, as the writer of objects sees it.
use Rattle.std.proofs.Common.{◌≡◌, ℕ, ◌<◌, nat_eq, Bool, true, false, ◌||◌, cond, List, [], ◌∷◌, ◌++◌, refl, sym, ap, ◌∙◌, subst, append_assoc}
use Rattle.std.specs.Prelude.{not, is_some, Option, None, Some}
use Rattle.std.specs.List.{filter, list_any}
use Rattle.std.specs.List.Sorted.{IsNonDecreasing}
use Rattle.std.specs.Ordering.{nat_cmp}
use Rattle.std.proofs.lemmas.Bool.{false_from_ne_true}
use Rattle.std.proofs.lemmas.Bool.Decides.{Decides-eqb}
use Rattle.std.proofs.lemmas.List.Kept.{IsStrictlySortedBy-filter}
use Rattle.std.proofs.lemmas.Map.Keys.{non_decreasing_from_sorted}
use Rattle.sm_tree.specs.Json.{AreJsonMembers, IsJson}
use Rattle.sm_tree.specs.Node.{Members, member, object}
use Rattle.sm_tree.specs.declared.path.Step.TheVariants.{Member}
use Rattle.sm_shapes.specs.Fitting.{Fits, any_text}
use Rattle.sm_shapes.specs.InOrder.{Shaped}
use Rattle.sm_shapes.specs.Places.{Place, member_place, root_place}
use Rattle.sm_shapes.specs.TableData.{BindingData, json_name_at, member_count, name_at, shape_count}
use Rattle.sm_shapes.specs.Values.{FieldVals, Val, field, no_fields}
use Rattle.sm_codec.specs.Conventions.{json_convention}
use Rattle.sm_codec.specs.Written.{paths_under, uncarried, uncarried_fields, written, written_fields}
use Rattle.sm_codec.specs.WrittenObjects.{fields_among, fields_of_members, is_written, written_object}
use Rattle.sm_codec.proofs.JsonWrites.{json_writes}
use Rattle.sm_codec.proofs.NoFaults.{none_joined}
use Rattle.sm_codec.proofs.WrittenForms.{written_is_json}
use Rattle.sm_bind_write.specs.bind.Roles.{Bound, binding_on, bound_members, document_members, is_in_document}
use Rattle.sm_bind_write.specs.CarriedParts.{uncarried_bound}
use Rattle.sm_bind_write.specs.WrittenParts.{document_pairs}
use Rattle.sm_bind_write.specs.steps.FieldsMet.{FieldsIn, FieldsReady}

either_true : (a b : Bool) → b ≡ true → (a || b) ≡ true
either_true true b h = refl
either_true false b h = h

kept_more : (k i : ℕ) (js : List ℕ) (t : Bool) → list_any (λ j. nat_eq j k) js ≡ true → list_any (λ j. nat_eq j k) (cond t (i ∷ js) js) ≡ true
kept_more k i js true more = either_true (nat_eq i k) (list_any (λ j. nat_eq j k) js) more
kept_more k i js false more = more

same_number : (n : ℕ) → nat_eq n n ≡ true
same_number n = (Decides-eqb n n).1 refl

-- a number is among those that are kept of a list where the test holds of it
kept_there : (p : ℕ → Bool) (k : ℕ) (before behind : List ℕ) → p k ≡ true
    → list_any (λ j. nat_eq j k) (filter p (before ++ k ∷ behind)) ≡ true
kept_there p k [] behind h =
    ap (λ t. list_any (λ j. nat_eq j k) (cond t (k ∷ filter p behind) (filter p behind))) h
    ∙ ap (λ t. t || list_any (λ j. nat_eq j k) (filter p behind)) (same_number k)
kept_there p k (i ∷ before) behind h = kept_more k i (filter p (before ++ k ∷ behind)) (p i) (kept_there p k before behind h)

no_both : (t : Bool) → t ≡ true → t ≡ false → ⊥
no_both t holds fails = cc

apart : (p : ℕ → Bool) (j k : ℕ) → p j ≡ true → p k ≡ false → nat_eq j k ≡ false
apart p j k h g =
    false_from_ne_true (nat_eq j k) (λ e. no_both (p k) (subst (λ n. p n ≡ true) ((Decides-eqb j k).0 e) h) g)

out_more : (p : ℕ → Bool) (k j : ℕ) (js : List ℕ) (t : Bool) → p j ≡ t → p k ≡ false → list_any (λ i. nat_eq i k) js ≡ false
    → list_any (λ i. nat_eq i k) (cond t (j ∷ js) js) ≡ false
out_more p k j js true e h rest = ap (λ t. t || list_any (λ i. nat_eq i k) js) (apart p j k e h) ∙ rest
out_more p k j js false e h rest = rest

left_out : (p : ℕ → Bool) (k : ℕ) (js : List ℕ) → p k ≡ false → list_any (λ j. nat_eq j k) (filter p js) ≡ false
left_out p k [] h = refl
left_out p k (j ∷ js) h = out_more p k j (filter p js) (p j) refl h (left_out p k js h)

pub kept_where : (p : ℕ → Bool) (k : ℕ) (before behind : List ℕ) → list_any (λ j. nat_eq j k) (filter p (before ++ k ∷ behind)) ≡ p k
kept_where p k before behind = by (p k) refl
  where
    by : (t : Bool) → p k ≡ t → list_any (λ j. nat_eq j k) (filter p (before ++ k ∷ behind)) ≡ t
    by true e = kept_there p k before behind e
    by false e = left_out p k (before ++ k ∷ behind) e

-- the fields that stand in the document
abbrev kept : Bound → FieldVals → FieldVals
kept b no_fields = no_fields
kept b (field k v fs) = cond (is_in_document b k) (field k v (kept b fs)) (kept b fs)

among_kept : (b : Bound) (front ks : List ℕ) (fs : FieldVals) → bound_members b ≡ front ++ ks → FieldsIn b.table ks fs
    → fields_of_members (document_members b) fs ≡ kept b fs
among_kept b front ks no_fields whole h = refl
among_kept b front ks (field k v fs) whole h =
    let at : bound_members b ≡ (front ++ h.0) ++ k ∷ h.1 = whole ∙ ap (λ js. front ++ js) h.2 ∙ sym (append_assoc front h.0 (k ∷ h.1)) in
    let is : is_written (Some (document_members b)) k ≡ is_in_document b k =
    ap (λ js. list_any (λ j. nat_eq j k) (filter (is_in_document b) js)) at ∙ kept_where (is_in_document b) k (front ++ h.0) h.1 in
    let behind : bound_members b ≡ ((front ++ h.0) ++ k ∷ []) ++ h.1 = at ∙ sym (append_assoc (front ++ h.0) (k ∷ []) h.1) in
    ap (λ t. cond t (field k v (fields_of_members (document_members b) fs)) (fields_of_members (document_members b) fs)) is
    ∙ ap (λ gs. cond (is_in_document b k) (field k v gs) gs) (among_kept b ((front ++ h.0) ++ k ∷ []) h.1 fs behind h.4)

pairs_by : (b : Bound) (p : Place) (k : ℕ) (v : Val) (gs : FieldVals) (ms : Members) (t : Bool)
    → written_fields b.table (json_convention true) p gs ≡ ms
    → written_fields b.table (json_convention true) p (cond t (field k v gs) gs)
    ≡ cond t (member (json_name_at b.table k) (written b.table (json_convention true) (member_place k) v) ms) ms
pairs_by b p k v gs ms true h = ap (λ xs. member (json_name_at b.table k) (written b.table (json_convention true) (member_place k) v) xs) h
pairs_by b p k v gs ms false h = h

pairs_kept : (b : Bound) (p : Place) (fs : FieldVals) → written_fields b.table (json_convention true) p (kept b fs) ≡ document_pairs b fs
pairs_kept b p no_fields = refl
pairs_kept b p (field k v fs) = pairs_by b p k v (kept b fs) (document_pairs b fs) (is_in_document b k) (pairs_kept b p fs)

-- no binding counts for a member there
unbound : (o : Option BindingData) → not (is_some o) ≡ true → o ≡ None
unbound None h = refl
unbound (Some b) h = absurd cc

own_carried : (b : Bound) (k : ℕ) (v : Val) → is_in_document b k ≡ true → uncarried_bound (binding_on b k) b k v ≡ []
    → uncarried b.table (json_convention true) (member_place k) v ≡ []
own_carried b k v there h = subst (λ o. uncarried_bound o b k v ≡ []) (unbound (binding_on b k) there) h

carried_by : (b : Bound) (k : ℕ) (v : Val) (gs : FieldVals) (t : Bool) → is_in_document b k ≡ t → uncarried_bound (binding_on b k) b k v ≡ []
    → uncarried_fields b.table (json_convention true) gs ≡ [] → uncarried_fields b.table (json_convention true) (cond t (field k v gs) gs) ≡ []
carried_by b k v gs true e own rest =
    none_joined (paths_under (Member (name_at b.table k)) (uncarried b.table (json_convention true) (member_place k) v))
    (uncarried_fields b.table (json_convention true) gs) (ap (paths_under (Member (name_at b.table k))) (own_carried b k v e own)) rest
carried_by b k v gs false e own rest = rest

carried_kept : (b : Bound) (fs : FieldVals) → FieldsReady b fs → uncarried_fields b.table (json_convention true) (kept b fs) ≡ []
carried_kept b no_fields h = refl
carried_kept b (field k v fs) h = carried_by b k v (kept b fs) (is_in_document b k) refl h.2 (carried_kept b fs h.3)

json_by : (b : Bound) (k : ℕ) (v : Val) (ms : Members) (t : Bool) → is_in_document b k ≡ t → Shaped b.table → k < member_count b.table
    → Fits b.table any_text (member_place k) v → uncarried_bound (binding_on b k) b k v ≡ [] → AreJsonMembers ms
    → AreJsonMembers (cond t (member (json_name_at b.table k) (written b.table (json_convention true) (member_place k) v) ms) ms)
json_by b k v ms true e shaped inside fits own rest = (
  (shaped.utf8 k inside).1,
  written_is_json b.table (json_convention true) any_text (member_place k) v shaped (json_writes true) inside fits (own_carried b k v e own),
  rest,
)
json_by b k v ms false e shaped inside fits own rest = rest

json_kept : (b : Bound) (fs : FieldVals) → Shaped b.table → FieldsReady b fs → AreJsonMembers (document_pairs b fs)
json_kept b no_fields shaped h = tt
json_kept b (field k v fs) shaped h =
    json_by b k v (document_pairs b fs) (is_in_document b k) refl shaped h.0 h.1 h.2 (json_kept b fs shaped h.3)

-- what is asked of these fields, and what they come to
pub document_is : (b : Bound) (fs : FieldVals) → FieldsIn b.table (bound_members b) fs
    → written_object b.table (json_convention true) (root_place b.shape) None (Some (document_members b)) fs ≡ object (document_pairs b fs)
document_is b fs h =
    ap object (ap (written_fields b.table (json_convention true) (root_place b.shape)) (among_kept b [] (bound_members b) fs refl h)
    ∙ pairs_kept b (root_place b.shape) fs)

pub document_carried : (b : Bound) (fs : FieldVals) → FieldsIn b.table (bound_members b) fs → FieldsReady b fs
    → uncarried_fields b.table (json_convention true) (fields_among (Some (document_members b)) fs) ≡ []
document_carried b fs h ready =
    ap (uncarried_fields b.table (json_convention true)) (among_kept b [] (bound_members b) fs refl h) ∙ carried_kept b fs ready

pub document_json : (b : Bound) (fs : FieldVals) → Shaped b.table → FieldsReady b fs → IsJson (object (document_pairs b fs))
document_json b fs shaped ready = json_kept b fs shaped ready

pub document_rises : (b : Bound) → Shaped b.table → b.shape < shape_count b.table → IsNonDecreasing (document_members b)
document_rises b shaped inside =
    non_decreasing_from_sorted (document_members b)
    (IsStrictlySortedBy-filter nat_cmp (is_in_document b) (bound_members b) (shaped.rises b.shape inside))
