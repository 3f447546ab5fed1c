-- Where a structure ends: what its frame comes to, by the members that are absent, is what the object comes to.
use Rattle.std.proofs.Common.{◌≡◌, ◌⊎◌, inl, inr, ℕ, ◌<◌, nat_eq, Bool, true, false, ◌||◌, cond, List, [], ◌∷◌, ◌++◌, append_assoc}
use Rattle.std.proofs.Common.{append-nil, refl, sym, ap, ◌∙◌, subst, arith}
use Rattle.std.specs.Prelude.{Option, Some, None, Result, Ok, Err}
use Rattle.sm_tree.specs.declared.path.Step.TheVariants.{Member}
use Rattle.sm_shapes.specs.Values.{Val}
use Rattle.sm_shapes.specs.TableData.{TableData, name_at, required_at, default_at}
use Rattle.sm_shapes.specs.Places.{member_place}
use Rattle.sm_shapes.specs.declared.fault.FaultKind.{FaultKind}
use Rattle.sm_shapes.specs.declared.fault.FaultKind.TheVariants.{Missing}
use Rattle.sm_shapes.specs.FieldPuts.{put_field, has_field}
use Rattle.sm_codec.specs.FaultLists.{FaultAt, Reading, under, first_fault}
use Rattle.sm_codec.specs.Readings.{Child, ByMember, absent_with, when_closed, so_far_absent, absent_reading, present_reading}
use Rattle.sm_codec.specs.Readings.{member_reading, member_faults, member_fields, members_faults, members_fields}
use Rattle.sm_codec.specs.Kept.{each_field, spelled_fields, closed_faults}
use Rattle.sm_codec.specs.steps.MemberSteps.{at_member}
use Rattle.sm_codec.specs.steps.ClosingSteps.{missing_by, missing, missing_fault, put_default, defaults_put}
use Rattle.sm_codec.proofs.NoFaults.{none_first, none_behind, none_under}
use Rattle.sm_codec.proofs.MembersKept.{FieldsBelow, FieldsAbove, below_joined, above_joined, put_between}
use Rattle.sm_codec.proofs.MemberNamed.{itself}
use Rattle.sm_codec.proofs.MemberParts.{AllAbove, own_faults, spelled_above, each_below}

-- a member without a fault so far is absent, or stands once with a value
abbrev pub IsAbsent : List Child → Type 0
IsAbsent [] = Unit {0}
IsAbsent (child ∷ []) = child.null ≡ true
IsAbsent (child ∷ more ∷ children) = ⊥

abbrev pub IsPresent : ℕ → List Child → Val → Type 0
IsPresent k children v =
    (child : Child) × (children ≡ child ∷ []) × (child.null ≡ false) × (child.reading (member_place k) ≡ Ok v)

abbrev pub Stood : ℕ → List Child → Type 0
Stood k children = IsAbsent children ⊎ ((v : Val) × IsPresent k children v)

one_stood : (k : ℕ) (child : Child) (null : Bool) (r : Reading) → child.null ≡ null → child.reading (member_place k) ≡ r
    → member_faults (cond null (Ok None) (present_reading r)) ≡ []
    → (IsAbsent (child ∷ []) ⊎ ((v : Val) × IsPresent k (child ∷ []) v)) ⊎ (r ≡ Err [])
one_stood k child true r e g h = inl (inl e)
one_stood k child false (Ok v) e g h = inl (inr (v, (child, refl, e, g)))
one_stood k child false (Err []) e g h = inr refl
one_stood k child false (Err (f ∷ fs)) e g h = absurd cc

-- no child comes to a fault that isn't one
abbrev pub AreReadings : List Child → Type 0
AreReadings [] = Unit {0}
AreReadings (child ∷ children) = ((k : ℕ) → child.reading (member_place k) ≡ Err [] → ⊥) × AreReadings children

pub stood : (k : ℕ) (children : List Child) → AreReadings children → member_faults (member_reading so_far_absent k children) ≡ []
    → Stood k children
stood k [] is h = inl tt
stood k (child ∷ []) is h =
    elim (one_stood k child child.null (child.reading (member_place k)) refl refl h) [ inl s ↦ s | inr e ↦ absurd (is.0 k e) ]
stood k (child ∷ more ∷ children) is h = absurd cc

-- what such a member comes to at the end
absent_ends : (t : TableData) (k : ℕ) (children : List Child) → IsAbsent children
    → member_reading (when_closed t) k children ≡ absent_reading (when_closed t k)
absent_ends t k [] h = refl
absent_ends t k (child ∷ []) h = ap (λ b. cond b (absent_reading (when_closed t k)) (present_reading (child.reading (member_place k)))) h
absent_ends t k (child ∷ more ∷ children) h = absurd h

absent_fields : (k : ℕ) (children : List Child) → IsAbsent children → each_field k children ≡ []
absent_fields k [] h = refl
absent_fields k (child ∷ []) h = ap (λ b. cond b [] (member_fields k (present_reading (child.reading (member_place k)))) ++ []) h
absent_fields k (child ∷ more ∷ children) h = absurd h

present_ends : (t : TableData) (k : ℕ) (children : List Child) (v : Val) → IsPresent k children v
    → member_reading (when_closed t) k children ≡ Ok (Some v)
present_ends t k children v h =
    ap (member_reading (when_closed t) k) h.1
    ∙ ap (λ b. cond b (absent_reading (when_closed t k)) (present_reading (h.0.reading (member_place k)))) h.2
    ∙ ap present_reading h.3

present_fields : (k : ℕ) (children : List Child) (v : Val) → IsPresent k children v → each_field k children ≡ (k, v) ∷ []
present_fields k children v h =
    ap (each_field k) h.1
    ∙ ap (λ b. cond b [] (member_fields k (present_reading (h.0.reading (member_place k)))) ++ []) h.2
    ∙ ap (λ r. member_fields k (present_reading r) ++ []) h.3

-- fields below and above a number aren't its
apart : (f k : ℕ) → f < k → nat_eq f k ≡ false
apart f k h = grind (arith, h)

apart_above : (f k : ℕ) → k < f → nat_eq f k ≡ false
apart_above f k h = grind (arith, h)

pub none_below : (k : ℕ) (fs gs : List (ℕ × Val)) → FieldsBelow k fs → has_field k (fs ++ gs) ≡ has_field k gs
none_below k [] gs h = refl
none_below k (f ∷ fs) gs h = ap (λ b. b || has_field k (fs ++ gs)) (apart f.0 k h.0) ∙ none_below k fs gs h.1

pub none_above : (k : ℕ) (fs : List (ℕ × Val)) → FieldsAbove k fs → has_field k fs ≡ false
none_above k [] h = refl
none_above k (f ∷ fs) h = ap (λ b. b || has_field k fs) (apart_above f.0 k h.0) ∙ none_above k fs h.1

pub has_first : (k : ℕ) (v : Val) (fs : List (ℕ × Val)) → has_field k ((k, v) ∷ fs) ≡ true
has_first k v fs = ap (λ b. b || has_field k fs) (itself k)

-- defaults: what is put behind the fields of members before
put_absent : (k : ℕ) (d : Option Val) (done rest : List (ℕ × Val)) → FieldsBelow k done → FieldsAbove k rest
    → put_default k d (done ++ rest) ≡ (done ++ member_fields k (Ok d)) ++ rest
put_absent k None done rest low high = ap (λ fs. fs ++ rest) (sym (append-nil done))
put_absent k (Some v) done rest low high =
    ap (λ b. cond b (done ++ rest) (put_field k v (done ++ rest))) (none_below k done rest low ∙ none_above k rest high)
    ∙ put_between k v done rest low high ∙ sym (append_assoc done ((k, v) ∷ []) rest)

put_present : (k : ℕ) (d : Option Val) (v : Val) (done rest : List (ℕ × Val)) → FieldsBelow k done
    → put_default k d (done ++ (k, v) ∷ rest) ≡ (done ++ (k, v) ∷ []) ++ rest
put_present k None v done rest low = sym (append_assoc done ((k, v) ∷ []) rest)
put_present k (Some w) v done rest low =
    ap (λ b. cond b (done ++ (k, v) ∷ rest) (put_field k w (done ++ (k, v) ∷ rest)))
    (none_below k done ((k, v) ∷ rest) low ∙ has_first k v rest)
    ∙ sym (append_assoc done ((k, v) ∷ []) rest)

-- what an absent member comes to where it isn't missing
not_missing : (t : TableData) (k : ℕ) (d : Option Val) (r : Bool) → default_at t k ≡ d → required_at t k ≡ r
    → missing_by (absent_with d r) k None ≡ None → absent_with d r ≡ Ok d
not_missing t k (Some v) r e g h = refl
not_missing t k None true e g h = absurd cc
not_missing t k None false e g h = refl

-- the one fault of an absent member
abbrev IsMissing : Result (Option Val) FaultKind → Type 0
IsMissing (Ok v) = Unit {0}
IsMissing (Err kind) = kind ≡ Missing

is_missing : (d : Option Val) (r : Bool) → IsMissing (absent_with d r)
is_missing (Some v) r = tt
is_missing None true = refl
is_missing None false = tt

-- the members of a structure, by what stands for each
module _ (t : TableData) (s : ByMember) where
  abbrev pub AllStood : List ℕ → Type 0
  AllStood [] = Unit {0}
  AllStood (k ∷ ks) = Stood k (s k) × AllStood ks

  pub all_stood : (ks : List ℕ) → ((k : ℕ) → AreReadings (s k)) → closed_faults t s ks ≡ [] → AllStood ks
  all_stood [] is h = tt
  all_stood (k ∷ ks) is h = (
    stood k (s k) (is k) (none_under (Member (name_at t k)) (member_faults (member_reading so_far_absent k (s k)))
        (none_first (own_faults t s k) (closed_faults t s ks) h)),
    all_stood ks is (none_behind (own_faults t s k) (closed_faults t s ks) h),
  )

  -- a field is there exactly for a member that stands
  abbrev pub AreThere : List (ℕ × Val) → List ℕ → Type 0
  AreThere fs [] = Unit {0}
  AreThere fs (k ∷ ks) = ((IsAbsent (s k) → has_field k fs ≡ false) × ((v : Val) → IsPresent k (s k) v → has_field k fs ≡ true))
      × AreThere fs ks

  absent_faults : (k : ℕ) → IsAbsent (s k)
      → under (Member (name_at t k)) (member_faults (member_reading (when_closed t) k (s k)))
      ≡ under (Member (name_at t k)) (member_faults (absent_reading (when_closed t k)))
  absent_faults k h = ap (λ r. under (Member (name_at t k)) (member_faults r)) (absent_ends t k (s k) h)

  present_faults : (k : ℕ) (v : Val) → IsPresent k (s k) v
      → under (Member (name_at t k)) (member_faults (member_reading (when_closed t) k (s k))) ≡ []
  present_faults k v h = ap (λ r. under (Member (name_at t k)) (member_faults r)) (present_ends t k (s k) v h)

  -- the first fault of members that had none is that of the first that is missing
  first_by : (k : ℕ) (ks : List ℕ) (fs : List (ℕ × Val)) (a : Result (Option Val) FaultKind) (rest : List FaultAt) → IsMissing a
      → first_fault rest ≡ missing_fault t (missing t fs ks)
      → first_fault (under (Member (name_at t k)) (member_faults (absent_reading a)) ++ rest) ≡ missing_fault t
      (missing_by a k (missing t fs ks))
  first_by k ks fs (Ok v) rest is h = h
  first_by k ks fs (Err kind) rest is h = ap (λ x. Some (at_member t k ([], x))) is

  missing_step : (fs : List (ℕ × Val)) (k : ℕ) (ks : List ℕ) → Stood k (s k) → (IsAbsent (s k) → has_field k fs ≡ false)
      → ((v : Val) → IsPresent k (s k) v → has_field k fs ≡ true)
      → first_fault (members_faults t (when_closed t) s ks) ≡ missing_fault t (missing t fs ks)
      → first_fault (members_faults t (when_closed t) s (k ∷ ks)) ≡ missing_fault t (missing t fs (k ∷ ks))
  missing_step fs k ks (inl absent) gone there more =
      ap (λ xs. first_fault (xs ++ members_faults t (when_closed t) s ks)) (absent_faults k absent)
      ∙ first_by k ks fs (when_closed t k) (members_faults t (when_closed t) s ks) (is_missing (default_at t k) (required_at t k)) more
      ∙ ap (λ b. missing_fault t (cond b (missing t fs ks) (missing_by (when_closed t k) k (missing t fs ks)))) (sym (gone absent))
  missing_step fs k ks (inr present) gone there more =
      ap (λ xs. first_fault (xs ++ members_faults t (when_closed t) s ks)) (present_faults k present.0 present.1) ∙ more
      ∙ ap (λ b. missing_fault t (cond b (missing t fs ks) (missing_by (when_closed t k) k (missing t fs ks))))
      (sym (there present.0 present.1))

  pub first_missing : (fs : List (ℕ × Val)) (ks : List ℕ) → AllStood ks → AreThere fs ks
      → first_fault (members_faults t (when_closed t) s ks) ≡ missing_fault t (missing t fs ks)
  first_missing fs [] h there = refl
  first_missing fs (k ∷ ks) h there = missing_step fs k ks h.0 there.0.0 there.0.1 (first_missing fs ks h.1 there.1)

  -- which fields are there, where those of all members are
  lower_there : (k : ℕ) (ks : List ℕ) (done rest : List (ℕ × Val)) → FieldsBelow k done → FieldsAbove k (spelled_fields s ks ++ rest)
      → (IsAbsent (s k) → has_field k (done ++ (spelled_fields s (k ∷ ks) ++ rest)) ≡ false)
      × ((v : Val) → IsPresent k (s k) v → has_field k (done ++ (spelled_fields s (k ∷ ks) ++ rest)) ≡ true)
  lower_there k ks done rest low high = (
    λ absent. none_below k done (spelled_fields s (k ∷ ks) ++ rest) low
        ∙ ap (λ xs. has_field k ((xs ++ spelled_fields s ks) ++ rest)) (absent_fields k (s k) absent)
        ∙ none_above k (spelled_fields s ks ++ rest) high,
    λ v present. none_below k done (spelled_fields s (k ∷ ks) ++ rest) low
        ∙ ap (λ xs. has_field k ((xs ++ spelled_fields s ks) ++ rest)) (present_fields k (s k) v present)
        ∙ has_first k v (spelled_fields s ks ++ rest),
  )

  -- members whose numbers rise, behind these fields
  abbrev pub Rising : List ℕ → Type 0
  Rising [] = Unit {0}
  Rising (k ∷ ks) = AllAbove k ks × Rising ks

  abbrev pub LowFor : List (ℕ × Val) → List ℕ → Type 0
  LowFor done [] = Unit {0}
  LowFor done (k ∷ ks) = FieldsBelow k done × LowFor done ks

  low_more : (done own : List (ℕ × Val)) (ks : List ℕ) → LowFor done ks → LowFor own ks → LowFor (done ++ own) ks
  low_more done own [] h g = tt
  low_more done own (k ∷ ks) h g = (below_joined k done own h.0 g.0, low_more done own ks h.1 g.1)

  low_one : (k : ℕ) (v : Val) (ks : List ℕ) → AllAbove k ks → LowFor ((k, v) ∷ []) ks
  low_one k v [] h = tt
  low_one k v (j ∷ ks) h = ((h.0, tt), low_one k v ks h.1)

  pub low_none : (ks : List ℕ) → LowFor [] ks
  low_none [] = tt
  low_none (k ∷ ks) = (tt, low_none ks)

  low_own : (k : ℕ) (d : Option Val) (ks : List ℕ) → AllAbove k ks → LowFor (member_fields k (Ok d)) ks
  low_own k None ks h = low_none ks
  low_own k (Some v) ks h = low_one k v ks h

  -- no member that is absent is missing
  abbrev pub NoneMissing : List ℕ → Type 0
  NoneMissing [] = Unit {0}
  NoneMissing (k ∷ ks) = (IsAbsent (s k) → when_closed t k ≡ Ok (default_at t k)) × NoneMissing ks

  put_step : (k : ℕ) (ks : List ℕ) (done own : List (ℕ × Val))
      → put_default k (default_at t k) (done ++ spelled_fields s (k ∷ ks)) ≡ (done ++ own) ++ spelled_fields s ks
      → member_fields k (member_reading (when_closed t) k (s k)) ≡ own
      → defaults_put t ks ((done ++ own) ++ spelled_fields s ks) ≡ (done ++ own) ++ members_fields (when_closed t) s ks
      → defaults_put t (k ∷ ks) (done ++ spelled_fields s (k ∷ ks)) ≡ done ++ members_fields (when_closed t) s (k ∷ ks)
  put_step k ks done own put is more =
      ap (defaults_put t ks) put ∙ more ∙ append_assoc done own (members_fields (when_closed t) s ks)
      ∙ ap (λ xs. done ++ (xs ++ members_fields (when_closed t) s ks)) (sym is)

  put_by : (k : ℕ) (ks : List ℕ) (done : List (ℕ × Val)) → Stood k (s k) → (IsAbsent (s k) → when_closed t k ≡ Ok (default_at t k))
      → FieldsBelow k done → AllAbove k ks → LowFor done ks
      → ((own : List (ℕ × Val)) → LowFor (done ++ own) ks
      → defaults_put t ks ((done ++ own) ++ spelled_fields s ks) ≡ (done ++ own) ++ members_fields (when_closed t) s ks)
      → defaults_put t (k ∷ ks) (done ++ spelled_fields s (k ∷ ks)) ≡ done ++ members_fields (when_closed t) s (k ∷ ks)
  put_by k ks done (inl absent) kept low high lows more =
      let own = member_fields k (Ok (default_at t k)) in
      let put : put_default k (default_at t k) (done ++ spelled_fields s (k ∷ ks)) ≡ (done ++ own) ++ spelled_fields s ks =
      ap (λ xs. put_default k (default_at t k) (done ++ (xs ++ spelled_fields s ks))) (absent_fields k (s k) absent)
      ∙ put_absent k (default_at t k) done (spelled_fields s ks) low (spelled_above s k ks high) in
      let is = ap (member_fields k) (absent_ends t k (s k) absent) ∙ ap (λ a. member_fields k (absent_reading a)) (kept absent) in
      put_step k ks done own put is (more own (low_more done own ks lows (low_own k (default_at t k) ks high)))
  put_by k ks done (inr present) kept low high lows more =
      let v = present.0 in
      let own : List (ℕ × Val) = (k, v) ∷ [] in
      let put : put_default k (default_at t k) (done ++ spelled_fields s (k ∷ ks)) ≡ (done ++ own) ++ spelled_fields s ks =
      ap (λ xs. put_default k (default_at t k) (done ++ (xs ++ spelled_fields s ks))) (present_fields k (s k) v present.1)
      ∙ put_present k (default_at t k) v done (spelled_fields s ks) low in
      let is = ap (member_fields k) (present_ends t k (s k) v present.1) in
      put_step k ks done own put is (more own (low_more done own ks lows (low_one k v ks high)))

  pub fields_put : (done : List (ℕ × Val)) (ks : List ℕ) → AllStood ks → NoneMissing ks → Rising ks → LowFor done ks
      → defaults_put t ks (done ++ spelled_fields s ks) ≡ done ++ members_fields (when_closed t) s ks
  fields_put done [] stand none rise low = refl
  fields_put done (k ∷ ks) stand none rise low =
      put_by k ks done stand.0 none.0 low.0 rise.0 low.1 (λ own lows. fields_put (done ++ own) ks stand.1 none.1 rise.1 lows)

  -- the fields of members, in those of all
  abbrev pub HighFor : List (ℕ × Val) → List ℕ → Type 0
  HighFor rest [] = Unit {0}
  HighFor rest (k ∷ ks) = FieldsAbove k rest × HighFor rest ks

  low_each : (k : ℕ) (ks : List ℕ) → AllAbove k ks → LowFor (each_field k (s k)) ks
  low_each k [] h = tt
  low_each k (j ∷ ks) h = (each_below k j (s k) h.0, low_each k ks h.1)

  moved : (done own mid rest : List (ℕ × Val)) → done ++ ((own ++ mid) ++ rest) ≡ (done ++ own) ++ (mid ++ rest)
  moved done own mid rest = ap (λ xs. done ++ xs) (append_assoc own mid rest) ∙ sym (append_assoc done own (mid ++ rest))

  pub all_there : (done : List (ℕ × Val)) (ks : List ℕ) (rest : List (ℕ × Val)) → Rising ks → LowFor done ks → HighFor rest ks
      → AreThere (done ++ (spelled_fields s ks ++ rest)) ks
  all_there done [] rest rise low high = tt
  all_there done (k ∷ ks) rest rise low high =
      let own = each_field k (s k) in
      let more = all_there (done ++ own) ks rest rise.1 (low_more done own ks low.1 (low_each k ks rise.0)) high.1 in (
        lower_there k ks done rest low.0 (above_joined k (spelled_fields s ks) rest (spelled_above s k ks rise.0) high.0),
        subst (λ fs. AreThere fs ks) (sym (moved done own (spelled_fields s ks) rest)) more,
      )

  high_none : (js : List ℕ) → HighFor [] js
  high_none [] = tt
  high_none (j ∷ js) = (tt, high_none js)

  -- no member before the first fault is missing, or one is: where none has a fault so far
  pub clean_ends : (fs : List (ℕ × Val)) (ks : List ℕ) → ((k : ℕ) → AreReadings (s k)) → closed_faults t s ks ≡ [] → Rising ks
      → fs ≡ spelled_fields s ks
      → first_fault (members_faults t (when_closed t) s ks) ≡ missing_fault t (missing t fs ks)
  clean_ends fs ks is clean rise e =
      let there = all_there [] ks [] rise (low_none ks) (high_none ks) in
      first_missing fs ks (all_stood ks is clean) (subst (λ xs. AreThere xs ks) (append-nil (spelled_fields s ks) ∙ sym e) there)

  -- none missing: what absent members come to
  none_missing : (fs : List (ℕ × Val)) (ks : List ℕ) → AreThere fs ks → missing t fs ks ≡ None → NoneMissing ks
  none_missing fs [] there h = tt
  none_missing fs (k ∷ ks) there h = (
    λ absent. not_missing t k (default_at t k) (required_at t k) refl refl
        (no_more (when_closed t k) (missing t fs ks) (sym (ap
        (λ b. cond b (missing t fs ks) (missing_by (when_closed t k) k (missing t fs ks))) (there.0.0 absent)) ∙ h)),
    none_missing fs ks there.1 (rest_none (has_field k fs) (when_closed t k) h),
  )
    where
      no_more : (a : Result (Option Val) FaultKind) (more : Option ℕ) → missing_by a k more ≡ None → missing_by a k None ≡ None
      no_more (Ok v) more e = refl
      no_more (Err kind) more e = absurd cc

      rest_none : (b : Bool) (a : Result (Option Val) FaultKind) → cond b (missing t fs ks) (missing_by a k (missing t fs ks)) ≡ None
          → missing t fs ks ≡ None
      rest_none true a e = e
      rest_none false (Ok v) e = e
      rest_none false (Err kind) e = absurd cc

  pub fields_end : (fs : List (ℕ × Val)) (ks : List ℕ) → ((k : ℕ) → AreReadings (s k)) → closed_faults t s ks ≡ [] → Rising ks
      → fs ≡ spelled_fields s ks → missing t fs ks ≡ None → defaults_put t ks fs ≡ members_fields (when_closed t) s ks
  fields_end fs ks is clean rise e none =
      let there = subst (λ xs. AreThere xs ks) (append-nil (spelled_fields s ks) ∙ sym e)
      (all_there [] ks [] rise (low_none ks) (high_none ks)) in
      ap (defaults_put t ks) e ∙ fields_put [] ks (all_stood ks is clean) (none_missing fs ks there none) rise (low_none ks)
