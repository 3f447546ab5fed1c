-- The fields of a structure that fits, one for each member that is present, and what they give together where one alone gives something.
use Rattle.std.proofs.Common.{◌≡◌, inl, inr, ℕ, ◌<◌, Bool, true, false, cond, List, [], ◌∷◌, ◌++◌, refl, sym, ap, ◌∙◌, subst, arith}
use Rattle.std.proofs.Common.{append-nil}
use Rattle.std.specs.Prelude.{◌==◌, IfSome, None, Ok, Option, Some}
use Rattle.std.specs.List.{AllByRecursion}
use Rattle.std.proofs.lemmas.Bool.{false_from_ne_true}
use Rattle.std.proofs.lemmas.Bool.Decides.{Decides-eqb}
use Rattle.sm_shapes.specs.Fitting.{FitFields, Fits, MayBeAbsent, Test}
use Rattle.sm_shapes.specs.Places.{member_place}
use Rattle.sm_shapes.specs.TableData.{TableData, default_at, required_at}
use Rattle.sm_shapes.specs.Values.{FieldVals, Val, field, fields_of, no_fields}
use Rattle.sm_shapes.proofs.NamedMembers.{IsAmong}
use Rattle.sm_codec.specs.Readings.{member_fields}
use Rattle.sm_bind_write.specs.WrittenParts.{over_fields, value_of}
use Rattle.sm_bind_write.specs.steps.FieldsMet.{AllAbove, Rising, fields_behind, first_value}

-- what holds of each field
abbrev pub EachField : (ℕ → Val → Type 0) → FieldVals → Type 0
EachField P no_fields = Unit {0}
EachField P (field k v fs) = P k v × EachField P fs

pub each_map : (P Q : ℕ → Val → Type 0) → ((k : ℕ) (v : Val) → P k v → Q k v) → (fs : FieldVals) → EachField P fs → EachField Q fs
each_map P Q f no_fields h = tt
each_map P Q f (field k v fs) h = (f k v h.0, each_map P Q f fs h.1)

-- the fields are of different members
abbrev pub FieldsApart : FieldVals → Type 0
FieldsApart no_fields = Unit {0}
FieldsApart (field k v fs) = EachField (λ j w. j ≡ k → ⊥) fs × FieldsApart fs

unlike : (j k : ℕ) → (j ≡ k → ⊥) → (j == k) ≡ false
unlike j k other = false_from_ne_true (j == k) (λ e. other ((Decides-eqb j k).0 e))

like : (j k : ℕ) → (j == k) ≡ true → j ≡ k
like j k e = (Decides-eqb j k).0 e

differ : (j k : ℕ) → (j == k) ≡ false → j ≡ k → ⊥
differ j k e same = no (j == k) ((Decides-eqb j k).1 same) e
  where
    no : (b : Bool) → b ≡ true → b ≡ false → ⊥
    no b holds fails = cc

-- the value of a member is that of its field
pub value_held : (P : ℕ → Val → Type 0) (k : ℕ) (fs : FieldVals) → EachField P fs → IfSome (value_of k fs) (P k)
value_held P k no_fields h = tt
value_held P k (field j v fs) h = by (j == k) refl (value_held P k fs h.1)
  where
    by : (t : Bool) → (j == k) ≡ t → IfSome (value_of k fs) (P k) → IfSome (cond t (Some v) (value_of k fs)) (P k)
    by true e rest = subst (λ n. P n v) (like j k e) h.0
    by false e rest = rest

pub value_none : (k : ℕ) (fs : FieldVals) → EachField (λ j w. j ≡ k → ⊥) fs → value_of k fs ≡ None
value_none k no_fields h = refl
value_none k (field j v fs) h = ap (λ t. cond t (Some v) (value_of k fs)) (unlike j k h.0) ∙ value_none k fs h.1

value_here : (j : ℕ) (v : Val) (fs : FieldVals) → value_of j (field j v fs) ≡ Some v
value_here j v fs = ap (λ t. cond t (Some v) (value_of j fs)) ((Decides-eqb j j).1 refl)

value_later : (k i : ℕ) (v : Val) (fs : FieldVals) (o : Option Val) → (i ≡ k → ⊥) → value_of i fs ≡ o → value_of i (field k v fs) ≡ o
value_later k i v fs o other e = ap (λ t. cond t (Some v) (value_of i fs)) (unlike k i (λ same. other (sym same))) ∙ e

values_later : (k : ℕ) (v : Val) (all fs : FieldVals) → EachField (λ j w. j ≡ k → ⊥) fs → EachField (λ j w. value_of j all ≡ Some w) fs
    → EachField (λ j w. value_of j (field k v all) ≡ Some w) fs
values_later k v all no_fields others h = tt
values_later k v all (field j w fs) others h =
    (value_later k j v all (Some w) others.0 h.0, values_later k v all fs others.1 h.1)

pub values_here : (fs : FieldVals) → FieldsApart fs → EachField (λ j w. value_of j fs ≡ Some w) fs
values_here no_fields apart = tt
values_here (field k v fs) apart = (value_here k v fs, values_later k v fs fs apart.0 (values_here fs apart.1))

-- what one field alone gives
abbrev pub at_most : {A : Type 0} → (Val → List A) → Option Val → List A
at_most f None = []
at_most f (Some v) = f v

pub over_none : {A : Type 0} (f : ℕ → Val → List A) (fs : FieldVals) → EachField (λ j w. f j w ≡ []) fs → over_fields f fs ≡ []
over_none f no_fields h = refl
over_none f (field k v fs) h = ap (λ xs. xs ++ over_fields f fs) h.0 ∙ over_none f fs h.1

none_else : {A : Type 0} (f : ℕ → Val → List A) (k : ℕ) (fs : FieldVals) → EachField (λ j w. j ≡ k → ⊥) fs
    → EachField (λ j w. (j ≡ k → ⊥) → f j w ≡ []) fs → EachField (λ j w. f j w ≡ []) fs
none_else f k no_fields others none = tt
none_else f k (field j v fs) others none = (none.0 others.0, none_else f k fs others.1 none.1)

only_by : {A : Type 0} (f : ℕ → Val → List A) (k j : ℕ) (v : Val) (fs : FieldVals) (t : Bool) → (j == k) ≡ t
    → EachField (λ i w. i ≡ j → ⊥) fs → ((j ≡ k → ⊥) → f j v ≡ []) → EachField (λ i w. (i ≡ k → ⊥) → f i w ≡ []) fs
    → over_fields f fs ≡ at_most (f k) (value_of k fs)
    → f j v ++ over_fields f fs ≡ at_most (f k) (cond t (Some v) (value_of k fs))
only_by f k j v fs true e others none more rest =
    let same = like j k e in
    ap (λ xs. f j v ++ xs) (over_none f fs (none_else f k fs (subst (λ n. EachField (λ i w. i ≡ n → ⊥) fs) same others) more))
    ∙ append-nil (f j v) ∙ ap (λ n. f n v) same
only_by f k j v fs false e others none more rest = ap (λ xs. xs ++ over_fields f fs) (none (differ j k e)) ∙ rest

pub over_only : {A : Type 0} (f : ℕ → Val → List A) (k : ℕ) (fs : FieldVals) → FieldsApart fs
    → EachField (λ j w. (j ≡ k → ⊥) → f j w ≡ []) fs → over_fields f fs ≡ at_most (f k) (value_of k fs)
over_only f k no_fields apart none = refl
over_only f k (field j v fs) apart none =
    only_by f k j v fs (j == k) refl apart.0 none.0 none.1 (over_only f k fs apart.1 none.1)

-- what is found in all is what is found in each
pub over_through : {A B : Type 0} (h : List A → List B) → h [] ≡ [] → ((xs ys : List A) → h (xs ++ ys) ≡ h xs ++ h ys)
    → (f : ℕ → Val → List A) (fs : FieldVals) → h (over_fields f fs) ≡ over_fields (λ k v. h (f k v)) fs
over_through h none both f no_fields = none
over_through h none both f (field k v fs) =
    both (f k v) (over_fields f fs) ∙ ap (λ xs. h (f k v) ++ xs) (over_through h none both f fs)

-- a value of the member, or none where it may be left out
abbrev pub FitsMaybe : TableData → Test → ℕ → Option Val → Type 0
FitsMaybe t test k None = (required_at t k ≡ false) × (default_at t k ≡ None)
FitsMaybe t test k (Some v) = Fits t test (member_place k) v

abbrev pub fields_among : List ℕ → FieldVals → List (ℕ × Val)
fields_among [] fs = []
fields_among (k ∷ ks) fs = member_fields k (Ok (value_of k fs)) ++ fields_among ks fs

above_at : (k j : ℕ) (before behind : List ℕ) → AllAbove k (before ++ j ∷ behind) → k < j
above_at k j [] behind h = h.0
above_at k j (i ∷ before) behind h = above_at k j before behind h.1

head_is : (i j : ℕ) (is js : List ℕ) → i ∷ is ≡ j ∷ js → i ≡ j
head_is i j is js e = cc

tail_is : (i j : ℕ) (is js : List ℕ) → i ∷ is ≡ j ∷ js → is ≡ js
tail_is i j is js e = cc

no_middle : (k : ℕ) (before behind : List ℕ) → [] ≡ before ++ k ∷ behind → ⊥
no_middle k [] behind e = cc
no_middle k (i ∷ before) behind e = cc

module _ (t : TableData) (test : Test) where
  -- member by member: the next field is the next member's, or the member may be absent
  abbrev Meet : List ℕ → FieldVals → Type 0
  Meet [] no_fields = Unit {0}
  Meet [] (field k v fs) = ⊥
  Meet (k ∷ ks) fs = FitsMaybe t test k (first_value k fs) × Meet ks (fields_behind k fs)

  split_by : (k j : ℕ) (ks before behind : List ℕ) (v : Val) (fs : FieldVals) (b : Bool) → (j == k) ≡ b → AllAbove k ks
      → k ∷ ks ≡ before ++ j ∷ behind → MayBeAbsent t before → Fits t test (member_place j) v → FitFields t test behind fs
      → FitsMaybe t test k (cond b (Some v) None) × FitFields t test ks (cond b fs (field j v fs))
  split_by k j ks [] behind v fs true e above is absent fits h = (
    subst (λ n. Fits t test (member_place n) v) (like j k e) fits,
    subst (λ ns. FitFields t test ns fs) (sym (tail_is k j ks behind is)) h,
  )
  split_by k j ks [] behind v fs false e above is absent fits h = absurd (differ j k e (sym (head_is k j ks behind is)))
  split_by k j ks (i ∷ before) behind v fs true e above is absent fits h =
      let higher = above_at k j before behind (subst (AllAbove k) (tail_is k i ks (before ++ j ∷ behind) is) above) in
      let same = like j k e in
      absurd (omega (arith, higher, same))
  split_by k j ks (i ∷ before) behind v fs false e above is absent fits h =
      let same = head_is k i ks (before ++ j ∷ behind) is in (
        (subst (λ n. required_at t n ≡ false) (sym same) absent.0, subst (λ n. default_at t n ≡ None) (sym same) absent.1),
        (before, behind, tail_is k i ks (before ++ j ∷ behind) is, absent.2, fits, h),
      )

  pub all_meet : (ks : List ℕ) (fs : FieldVals) → Rising ks → FitFields t test ks fs → Meet ks fs
  all_meet [] no_fields rise h = tt
  all_meet [] (field j v fs) rise h = absurd (no_middle j h.0 h.1 h.2)
  all_meet (k ∷ ks) no_fields rise h = ((h.0, h.1), all_meet ks no_fields rise.1 h.2)
  all_meet (k ∷ ks) (field j v fs) rise h =
      let step = split_by k j ks h.0 h.1 v fs (j == k) refl rise.0 h.2 h.3 h.4 h.5 in
      (step.0, all_meet ks (cond (j == k) fs (field j v fs)) rise.1 step.1)

-- what holds of the first field, where it is the member's, and of those behind it, holds of all
put_by : (P : ℕ → Val → Type 0) (k j : ℕ) (v : Val) (fs : FieldVals) (b : Bool) → (j == k) ≡ b → ((w : Val) → P k w)
    → EachField P (cond b fs (field j v fs)) → EachField P (field j v fs)
put_by P k j v fs true e here h = (subst (λ n. P n v) (sym (like j k e)) (here v), h)
put_by P k j v fs false e here h = h

put_back : (P : ℕ → Val → Type 0) (k : ℕ) (fs : FieldVals) → ((w : Val) → P k w) → EachField P (fields_behind k fs) → EachField P fs
put_back P k no_fields here h = tt
put_back P k (field j v fs) here h = put_by P k j v fs (j == k) refl here h

-- the value of the first member is that of the first field, and others don't look there
first_by : (k j : ℕ) (v : Val) (fs : FieldVals) (b : Bool) → EachField (λ i w. i ≡ k → ⊥) (cond b fs (field j v fs))
    → cond b (Some v) (value_of k fs) ≡ cond b (Some v) None
first_by k j v fs true h = refl
first_by k j v fs false h = value_none k fs h.1

value_first : (k : ℕ) (fs : FieldVals) → EachField (λ j w. j ≡ k → ⊥) (fields_behind k fs) → value_of k fs ≡ first_value k fs
value_first k no_fields h = refl
value_first k (field j v fs) h = first_by k j v fs (j == k) h

behind_by : (k i j : ℕ) (v : Val) (fs : FieldVals) (b : Bool) → (j == k) ≡ b → (i ≡ k → ⊥)
    → value_of i (field j v fs) ≡ value_of i (cond b fs (field j v fs))
behind_by k i j v fs true e other = value_later j i v fs (value_of i fs) (λ same. other (same ∙ like j k e)) refl
behind_by k i j v fs false e other = refl

value_behind : (k i : ℕ) (fs : FieldVals) → (i ≡ k → ⊥) → value_of i fs ≡ value_of i (fields_behind k fs)
value_behind k i no_fields other = refl
value_behind k i (field j v fs) other = behind_by k i j v fs (j == k) refl other

apart_by : (k j : ℕ) (v : Val) (fs : FieldVals) (b : Bool) → (j == k) ≡ b → EachField (λ i w. k < i) (cond b fs (field j v fs))
    → FieldsApart (cond b fs (field j v fs)) → FieldsApart (field j v fs)
apart_by k j v fs true e above apart =
    (each_map (λ i w. k < i) (λ i w. i ≡ j → ⊥) (λ i w lt same. absurd (below i lt same)) fs above, apart)
  where
    below : (i : ℕ) → k < i → i ≡ j → ⊥
    below i lt same = let also = like j k e in omega (arith, lt, same, also)
apart_by k j v fs false e above apart = apart

again_by : (k j : ℕ) (v : Val) (fs : FieldVals) (b : Bool) → (j == k) ≡ b → (xs : List (ℕ × Val)) → fields_of xs ≡ cond b fs (field j v fs)
    → fields_of (member_fields k (Ok (cond b (Some v) None)) ++ xs) ≡ field j v fs
again_by k j v fs true e xs h = ap (field k v) h ∙ ap (λ n. field n v fs) (sym (like j k e))
again_by k j v fs false e xs h = h

fields_again : (k : ℕ) (fs : FieldVals) (xs : List (ℕ × Val)) → fields_of xs ≡ fields_behind k fs
    → fields_of (member_fields k (Ok (first_value k fs)) ++ xs) ≡ fs
fields_again k no_fields xs h = h
fields_again k (field j v fs) xs h = again_by k j v fs (j == k) refl xs h

among_behind : (k : ℕ) (ks : List ℕ) (fs : FieldVals) → AllAbove k ks → fields_among ks fs ≡ fields_among ks (fields_behind k fs)
among_behind k [] fs above = refl
among_behind k (i ∷ ks) fs above =
    let lower = above.0 in
    ap (λ o. member_fields i (Ok o) ++ fields_among ks fs) (value_behind k i fs (λ same. absurd (omega (arith, lower, same))))
    ∙ ap (λ xs. member_fields i (Ok (value_of i (fields_behind k fs))) ++ xs) (among_behind k ks fs above.1)

maybe_behind : (t : TableData) (test : Test) (k : ℕ) (ks : List ℕ) (fs : FieldVals) → AllAbove k ks
    → AllByRecursion (λ i. FitsMaybe t test i (value_of i (fields_behind k fs))) ks
    → AllByRecursion (λ i. FitsMaybe t test i (value_of i fs)) ks
maybe_behind t test k [] fs above h = tt
maybe_behind t test k (i ∷ ks) fs above h =
    let lower = above.0 in (
      subst (FitsMaybe t test i) (sym (value_behind k i fs (λ same. absurd (omega (arith, lower, same))))) h.0,
      maybe_behind t test k ks fs above.1 h.1,
    )

-- all of it of a structure that fits
pub record AreMet (t : TableData) (test : Test) (ks : List ℕ) (fs : FieldVals) : Type 0 where
  pub inside : EachField (λ j w. IsAmong j ks) fs
  pub apart : FieldsApart fs
  pub maybe : AllByRecursion (λ k. FitsMaybe t test k (value_of k fs)) ks
  pub again : fields_of (fields_among ks fs) ≡ fs

-- numbers above one
above_each : (k : ℕ) (ks : List ℕ) (fs : FieldVals) → AllAbove k ks → EachField (λ j w. IsAmong j ks) fs → EachField (λ j w. k < j) fs
above_each k ks no_fields above h = tt
above_each k ks (field j v fs) above h = (one j ks above h.0, above_each k ks fs above h.1)
  where
    one : (j : ℕ) (ks : List ℕ) → AllAbove k ks → IsAmong j ks → k < j
    one j [] above i = absurd i
    one j (i ∷ is) above (inl e) = subst (λ n. k < n) (sym e) above.0
    one j (i ∷ is) above (inr more) = one j is above.1 more

apart_first : (k : ℕ) (fs : FieldVals) → EachField (λ i w. k < i) (fields_behind k fs) → FieldsApart (fields_behind k fs) → FieldsApart fs
apart_first k no_fields above apart = tt
apart_first k (field j v fs) above apart = apart_by k j v fs (j == k) refl above apart

module _ (t : TableData) (test : Test) where
  pub are_met : (ks : List ℕ) (fs : FieldVals) → Rising ks → Meet t test ks fs → AreMet t test ks fs
  are_met [] no_fields rise h = record { inside = tt; apart = tt; maybe = tt; again = refl }
  are_met [] (field k v fs) rise h = absurd h
  are_met (k ∷ ks) fs rise h =
      let rest = are_met ks (fields_behind k fs) rise.1 h.1 in
      let above = above_each k ks (fields_behind k fs) rise.0 rest.inside in
      let others = each_map (λ j w. k < j) (λ j w. j ≡ k → ⊥) (λ j w lt same. absurd (omega (arith, lt, same)))
      (fields_behind k fs) above in
      let first = value_first k fs others in
      record {
        inside = put_back (λ j w. IsAmong j (k ∷ ks)) k fs (λ w. inl refl)
            (each_map (λ j w. IsAmong j ks) (λ j w. IsAmong j (k ∷ ks)) (λ j w i. inr i) (fields_behind k fs) rest.inside);
        apart = apart_first k fs above rest.apart;
        maybe = (subst (FitsMaybe t test k) (sym first) h.0, maybe_behind t test k ks fs rise.0 rest.maybe);
        again = ap (λ o. fields_of (member_fields k (Ok o) ++ fields_among ks fs)) first
            ∙ ap (λ xs. fields_of (member_fields k (Ok (first_value k fs)) ++ xs)) (among_behind k ks fs rise.0)
            ∙ fields_again k fs (fields_among ks (fields_behind k fs)) rest.again;
      }
