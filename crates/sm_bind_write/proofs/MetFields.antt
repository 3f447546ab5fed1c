-- Fields met member by member: the next field is the next member's, or the member is absent.
use Rattle.std.proofs.Common.{◌≡◌, ℕ, ◌<◌, Bool, true, false, cond, List, [], ◌∷◌, ◌++◌, refl, sym, ap, ◌∙◌, subst, arith}
use Rattle.std.specs.Prelude.{◌==◌, Option, Some, None, IfSome}
use Rattle.std.proofs.lemmas.Bool.{false_from_ne_true}
use Rattle.std.proofs.lemmas.Bool.Decides.{Decides-eqb}
use Rattle.sm_shapes.specs.Fitting.{Fits, FitFields, any_text}
use Rattle.sm_shapes.specs.Places.{member_place}
use Rattle.sm_shapes.specs.TableData.{TableData, name_at}
use Rattle.sm_shapes.specs.Values.{FieldVals, Val, field, no_fields}
use Rattle.sm_tree.specs.declared.path.Step.TheVariants.{Member}
use Rattle.sm_codec.specs.Written.{paths_under}
use Rattle.sm_bind.specs.Roles.{Bound}
use Rattle.sm_bind_write.specs.CarriedParts.{uncarried_member, uncarried_members}
use Rattle.sm_bind_write.specs.WrittenParts.{value_of}
use Rattle.sm_bind_write.specs.steps.FieldsMet.{AllAbove, FieldsIn, fields_behind, first_value}

-- what fits has its fields so
pub fields_in_fit : (t : TableData) (ks : List ℕ) (fs : FieldVals) → FitFields t any_text ks fs → FieldsIn t ks fs
fields_in_fit t ks no_fields h = tt
fields_in_fit t ks (field k v fs) h = (h.0, h.1, h.2, h.4, fields_in_fit t h.1 fs h.5)

above_at : (k j : ℕ) (before behind : List ℕ) → AllAbove k (before ++ j ∷ behind) → (k < j) × AllAbove k behind
above_at k j [] behind h = h
above_at k j (i ∷ before) behind h = above_at k j before behind h.1

unlike : (j k : ℕ) → k < j → (j == k) ≡ false
unlike j k lt = false_from_ne_true (j == k) (λ e. let same = (Decides-eqb j k).0 e in absurd (omega (arith, lt, same)))

like : (j k : ℕ) → (j == k) ≡ true → j ≡ k
like j k e = (Decides-eqb j k).0 e

-- a member before all others of the fields is absent
absent_before : (t : TableData) (k : ℕ) (ks : List ℕ) (fs : FieldVals) → AllAbove k ks → FieldsIn t ks fs → value_of k fs ≡ None
absent_before t k ks no_fields above h = refl
absent_before t k ks (field j v fs) above h =
    let at = above_at k j h.0 h.1 (subst (AllAbove k) h.2 above) in
    ap (λ b. cond b (Some v) (value_of k fs)) (unlike j k at.0) ∙ absent_before t k h.1 fs at.1 h.4

head_is : (i j : ℕ) (is js : List ℕ) → i ∷ is ≡ j ∷ js → i ≡ j
head_is i j is js e = cc

tail_is : (i j : ℕ) (is js : List ℕ) → i ∷ is ≡ j ∷ js → is ≡ js
tail_is i j is js e = cc

-- the first field is that of the first member
there : (t : TableData) (k j : ℕ) (ks before behind : List ℕ) (v : Val) (fs : FieldVals) → j ≡ k → AllAbove k ks
    → k ∷ ks ≡ before ++ j ∷ behind → Fits t any_text (member_place j) v → FieldsIn t behind fs
    → Fits t any_text (member_place k) v × FieldsIn t ks fs
there t k j ks [] behind v fs same above e fits h =
    (subst (λ n. Fits t any_text (member_place n) v) same fits, subst (λ ns. FieldsIn t ns fs) (sym (tail_is k j ks behind e)) h)
there t k j ks (i ∷ before) behind v fs same above e fits h =
    let at = above_at k j before behind (subst (AllAbove k) (tail_is k i ks (before ++ j ∷ behind) e) above) in
    absurd (omega (arith, at.0, same))

-- or it is another's
elsewhere : (t : TableData) (k j : ℕ) (ks before behind : List ℕ) (v : Val) (fs : FieldVals) → (j == k) ≡ false
    → k ∷ ks ≡ before ++ j ∷ behind → Fits t any_text (member_place j) v → FieldsIn t behind fs → FieldsIn t ks (field j v fs)
elsewhere t k j ks [] behind v fs other e fits h =
    absurd (no (j == k) ((Decides-eqb j k).1 (sym (head_is k j ks behind e))) other)
  where
    no : (b : Bool) → b ≡ true → b ≡ false → ⊥
    no b holds fails = cc
elsewhere t k j ks (i ∷ before) behind v fs other e fits h =
    (before, behind, tail_is k i ks (before ++ j ∷ behind) e, fits, h)

-- the value of the next member, and the fields behind it
abbrev Meets : TableData → ℕ → List ℕ → FieldVals → Option Val → FieldVals → Type 0
Meets t k ks fs value rest = (value ≡ value_of k fs) × IfSome value (λ v. Fits t any_text (member_place k) v) × FieldsIn t ks rest

met_by : (t : TableData) (k j : ℕ) (ks : List ℕ) (v : Val) (fs : FieldVals) (same : Bool) → (j == k) ≡ same → AllAbove k ks
    → FieldsIn t (k ∷ ks) (field j v fs)
    → Meets t k ks (field j v fs) (cond same (Some v) None) (cond same fs (field j v fs))
met_by t k j ks v fs true e above h =
    let at = there t k j ks h.0 h.1 v fs (like j k e) above h.2 h.3 h.4 in
    (sym (ap (λ b. cond b (Some v) (value_of k fs)) e), at.0, at.1)
met_by t k j ks v fs false e above h =
    let rest = elsewhere t k j ks h.0 h.1 v fs e h.2 h.3 h.4 in
    (sym (absent_before t k ks (field j v fs) above rest), tt, rest)

pub met : (t : TableData) (k : ℕ) (ks : List ℕ) (fs : FieldVals) → AllAbove k ks → FieldsIn t (k ∷ ks) fs
    → Meets t k ks fs (first_value k fs) (fields_behind k fs)
met t k ks no_fields above h = (refl, tt, tt)
met t k ks (field j v fs) above h = met_by t k j ks v fs (j == k) refl above h

-- members behind don't look at that field
value_behind : (k i : ℕ) (fs : FieldVals) → k < i → value_of i fs ≡ value_of i (fields_behind k fs)
value_behind k i no_fields lt = refl
value_behind k i (field j v fs) lt = by (j == k) refl
  where
    by : (same : Bool) → (j == k) ≡ same → value_of i (field j v fs) ≡ value_of i (cond same fs (field j v fs))
    by true e = ap (λ b. cond b (Some v) (value_of i fs)) (apart (like j k e))
      where
        apart : j ≡ k → (j == i) ≡ false
        apart same = false_from_ne_true (j == i) (λ e. let also = (Decides-eqb j i).0 e in absurd (omega (arith, lt, same, also)))
    by false e = refl

pub members_behind : (b : Bound) (k : ℕ) (ks : List ℕ) (fs : FieldVals) → AllAbove k ks
    → uncarried_members b fs ks ≡ uncarried_members b (fields_behind k fs) ks
members_behind b k [] fs above = refl
members_behind b k (i ∷ ks) fs above =
    ap (λ o. paths_under (Member (name_at b.table i)) (uncarried_member b i o) ++ uncarried_members b fs ks) (value_behind k i fs above.0)
    ∙ ap (λ ps. paths_under (Member (name_at b.table i)) (uncarried_member b i (value_of i (fields_behind k fs))) ++ ps)
    (members_behind b k ks fs above.1)
