-- A pair that is closed in a structure: the name finds one member, or none, and the frame takes its tree.
use Rattle.std.proofs.Common.{◌≡◌, ℕ, nat_eq, Bool, true, false, cond, MatchBool, ◌||◌, List, [], ◌∷◌, ◌++◌, map, append-nil, refl, sym}
use Rattle.std.proofs.Common.{ap, ◌∙◌, subst, subst₂, arith}
use Rattle.std.specs.Prelude.{Option, Some, None}
use Rattle.std.specs.Str.{bytes_eq}
use Rattle.std.specs.List.Sorted.{IsPermutation, IsStrictlySortedBy}
use Rattle.std.specs.Ordering.{nat_cmp}
use Rattle.std.proofs.lemmas.List.Sorted.{list_any-IsPermutation}
use Rattle.std.proofs.lemmas.Slice.Eq.{bytes_eq-Decides}
use Rattle.sm_shapes.specs.Names.{NoneIs, AllDiffer}
use Rattle.sm_shapes.specs.TableData.{TableData, name_at, members_at, member_with}
use Rattle.sm_shapes.specs.InOrder.{Shaped}
use Rattle.sm_shapes.specs.declared.fault.FaultKind.TheVariants.{Repeated}
use Rattle.sm_shapes.specs.Places.{Place, member_place, shape_of, members_of_place}
use Rattle.sm_codec.specs.Convention.{IsConvention}
use Rattle.sm_codec.specs.Codec.{Codec, wire_name, InTable}
use Rattle.sm_codec.specs.Named.{named}
use Rattle.sm_codec.specs.FaultLists.{FaultAt, first_fault}
use Rattle.sm_codec.specs.Readings.{Child, ByMember, under_names}
use Rattle.sm_codec.specs.Walk.{member_at}
use Rattle.sm_codec.specs.Decoding.{MemberFrame, structure_frame}
use Rattle.sm_codec.specs.Kept.{AreKept, has_one, closed_members, closed_faults, HoldsMembers, KeepsPrefix, HoldsPairs}
use Rattle.sm_codec.specs.steps.Arrivals.{Arrival, null_comes, value_comes, fault_comes, IsArrival}
use Rattle.sm_codec.specs.steps.MemberSteps.{is_seen, least_fault, at_member, TakesFirst, TakesAgain, TakesMember}
use Rattle.sm_codec.proofs.PlacesIn.{shape_in}
use Rattle.sm_codec.proofs.Joined.{Agree, agree_front}
use Rattle.sm_codec.proofs.MemberParts.{rises_before, rises_behind, faults_agree, spelled_agree, closed_agree}
use Rattle.sm_codec.proofs.MemberArrives.{AreHeld, Arrives, null_held, value_held, fault_held, again_held}

-- one pair more: what stands under its name, and under others
pub named_pair : (w name : List ℕ) (x : Child) (ps : List (List ℕ × Child))
    → named w (ps ++ (name, x) ∷ []) ≡ named w ps ++ cond (bytes_eq name w) (x ∷ []) []
named_pair w name x [] = refl
named_pair w name x (p ∷ ps) = by_name (bytes_eq p.0 w) (named_pair w name x ps)
  where
    by_name : (b : Bool) → named w (ps ++ (name, x) ∷ []) ≡ named w ps ++ cond (bytes_eq name w) (x ∷ []) []
        → cond b (p.1 ∷ named w (ps ++ (name, x) ∷ [])) (named w (ps ++ (name, x) ∷ []))
        ≡ cond b (p.1 ∷ named w ps) (named w ps) ++ cond (bytes_eq name w) (x ∷ []) []
    by_name true e = ap (λ cs. p.1 ∷ cs) e
    by_name false e = e

not_equal : (u w : List ℕ) (b : Bool) → bytes_eq u w ≡ b → (u ≡ w → ⊥) → b ≡ false
not_equal u w true e h = absurd (h ((bytes_eq-Decides u w).0 e))
not_equal u w false e h = refl

module _ (c : Codec) (p : Place) (name : List ℕ) (x : Child) (ps : List (List ℕ × Child)) where
  abbrev before_it : ByMember
  before_it = under_names c p ps

  abbrev now : ByMember
  now = under_names c p (ps ++ (name, x) ∷ [])

  pub under_it : (k : ℕ) → wire_name c p k ≡ name → now k ≡ before_it k ++ x ∷ []
  under_it k e =
      named_pair (wire_name c p k) name x ps
      ∙ ap (λ b. before_it k ++ cond b (x ∷ []) []) ((bytes_eq-Decides name (wire_name c p k)).1 (sym e))

  pub under_other : (k : ℕ) → (wire_name c p k ≡ name → ⊥) → now k ≡ before_it k
  under_other k other =
      named_pair (wire_name c p k) name x ps
      ∙ ap (λ b. before_it k ++ cond b (x ∷ []) [])
      (not_equal name (wire_name c p k) (bytes_eq name (wire_name c p k)) refl (λ e. other (sym e)))
      ∙ append-nil (before_it k)

  pub agree_before : (before : List ℕ) (k : ℕ) (behind : List ℕ) → wire_name c p k ≡ name
      → AllDiffer (map (wire_name c p) (before ++ k ∷ behind)) → Agree now before_it before
  agree_before [] k behind e h = tt
  agree_before (j ∷ before) k behind e h =
      (under_other j (λ same. none_in j before k behind h.0 (e ∙ sym same)), agree_before before k behind e h.1)
    where
      none_in : (j : ℕ) (before : List ℕ) (k : ℕ) (behind : List ℕ) → NoneIs (wire_name c p j) (map (wire_name c p) (before ++ k ∷ behind))
          → wire_name c p k ≡ wire_name c p j → ⊥
      none_in j [] k behind h same = h.0 same
      none_in j (i ∷ before) k behind h same = none_in j before k behind h.1 same

  agree_none : (k : ℕ) (behind : List ℕ) → wire_name c p k ≡ name → NoneIs (wire_name c p k) (map (wire_name c p) behind)
      → Agree now before_it behind
  agree_none k [] e h = tt
  agree_none k (j ∷ behind) e h = (under_other j (λ same. h.0 (same ∙ sym e)), agree_none k behind e h.1)

  pub agree_behind : (before : List ℕ) (k : ℕ) (behind : List ℕ) → wire_name c p k ≡ name
      → AllDiffer (map (wire_name c p) (before ++ k ∷ behind)) → Agree now before_it behind
  agree_behind [] k behind e h = agree_none k behind e h.0
  agree_behind (j ∷ before) k behind e h = agree_behind before k behind e h.1

  -- the member that a name finds
  abbrev FoundAt : ℕ → List ℕ → Type 0
  FoundAt k ks = (before behind : List ℕ) × (ks ≡ before ++ k ∷ behind) × (wire_name c p k ≡ name)

  found_by : (j k : ℕ) (ks : List ℕ) (b : Bool) → bytes_eq (wire_name c p j) name ≡ b
      → (member_with (wire_name c p) name ks ≡ Some k → FoundAt k ks) → cond b (Some j) (member_with (wire_name c p) name ks) ≡ Some k
      → FoundAt k (j ∷ ks)
  found_by j k ks true e more h =
      let same : j ≡ k = cc in
      ([], ks, ap (λ i. i ∷ ks) same, ap (wire_name c p) (sym same) ∙ (bytes_eq-Decides (wire_name c p j) name).0 e)
  found_by j k ks false e more h =
      let rest = more h in (j ∷ rest.0, rest.1, ap (λ is. j ∷ is) rest.2, rest.3)

  pub found_at : (k : ℕ) (ks : List ℕ) → member_with (wire_name c p) name ks ≡ Some k → FoundAt k ks
  found_at k [] h = absurd cc
  found_at k (j ∷ ks) h = found_by j k ks (bytes_eq (wire_name c p j) name) refl (λ g. found_at k ks g) h

  -- a name that finds none changes nothing
  unknown_by : (j : ℕ) (ks : List ℕ) (b : Bool) → bytes_eq (wire_name c p j) name ≡ b
      → (member_with (wire_name c p) name ks ≡ None → Agree now before_it ks)
      → cond b (Some j) (member_with (wire_name c p) name ks) ≡ None → Agree now before_it (j ∷ ks)
  unknown_by j ks true e more h = absurd cc
  unknown_by j ks false e more h = (under_other j (λ same. differs ((bytes_eq-Decides (wire_name c p j) name).1 same)), more h)
    where
      differs : bytes_eq (wire_name c p j) name ≡ true → ⊥
      differs same = cc

  pub unknown : (ks : List ℕ) → member_with (wire_name c p) name ks ≡ None → Agree now before_it ks
  unknown [] h = tt
  unknown (j ∷ ks) h = unknown_by j ks (bytes_eq (wire_name c p j) name) refl (λ g. unknown ks g) h

-- the member is among those seen exactly where something stands for it
equal_number : (j k : ℕ) → nat_eq j k ≡ true → j ≡ k
equal_number j k h = grind (arith, h)

pub itself : (k : ℕ) → nat_eq k k ≡ true
itself k = grind (arith)

seen_by : (s : ByMember) (k j : ℕ) (js : List ℕ) (b : Bool) → has_one (s j) ≡ b → (is_seen k js ≡ true → has_one (s k) ≡ true)
    → is_seen k (cond b (j ∷ js) js) ≡ true → has_one (s k) ≡ true
seen_by s k j js true e more h = by_number (nat_eq j k) refl h
  where
    by_number : (d : Bool) → nat_eq j k ≡ d → (d || is_seen k js) ≡ true → has_one (s k) ≡ true
    by_number true g i = ap (λ i. has_one (s i)) (sym (equal_number j k g)) ∙ e
    by_number false g i = more i
seen_by s k j js false e more h = more h

pub seen_stands : (s : ByMember) (k : ℕ) (ks : List ℕ) → is_seen k (closed_members s ks) ≡ true → has_one (s k) ≡ true
seen_stands s k [] h = absurd cc
seen_stands s k (j ∷ ks) h = seen_by s k j (closed_members s ks) (has_one (s j)) refl (λ g. seen_stands s k ks g) h

is_first : (k : ℕ) (js : List ℕ) → is_seen k (k ∷ js) ≡ true
is_first k js = ap (λ b. b || is_seen k js) (itself k)

is_later : (k j : ℕ) (js : List ℕ) → is_seen k js ≡ true → is_seen k (j ∷ js) ≡ true
is_later k j js h = by_number (nat_eq j k)
  where
    by_number : (d : Bool) → (d || is_seen k js) ≡ true
    by_number true = refl
    by_number false = h

stands_by : (k j : ℕ) (js : List ℕ) (b : Bool) → is_seen k js ≡ true → is_seen k (cond b (j ∷ js) js) ≡ true
stands_by k j js true h = is_later k j js h
stands_by k j js false h = h

pub stands_seen : (s : ByMember) (before : List ℕ) (k : ℕ) (behind : List ℕ) → has_one (s k) ≡ true
    → is_seen k (closed_members s (before ++ k ∷ behind)) ≡ true
stands_seen s [] k behind h = ap (λ b. is_seen k (cond b (k ∷ closed_members s behind) (closed_members s behind))) h
    ∙ is_first k (closed_members s behind)
stands_seen s (j ∷ before) k behind h =
    stands_by k j (closed_members s (before ++ k ∷ behind)) (has_one (s j)) (stands_seen s before k behind h)

pub never_both : (b : Bool) → b ≡ true → b ≡ false → ⊥
never_both true e h = cc
never_both false e h = cc

pub nothing_yet : (children : List Child) → has_one children ≡ false → children ≡ []
nothing_yet [] h = refl
nothing_yet (x ∷ xs) h = absurd cc

pub something : (children : List Child) → has_one children ≡ true → (x : Child) × (xs : List Child) × (children ≡ x ∷ xs)
something [] h = absurd cc
something (x ∷ xs) h = (x, xs, refl)

-- a frame that takes the tree
module _ (t : TableData) (before : List ℕ) (k : ℕ) (behind : List ℕ) (s r : ByMember) (child : Child) where
  abbrev ms : List ℕ
  ms = before ++ k ∷ behind

  takes_first : (x : Arrival) (f g : MemberFrame) → members_at t f.shape ≡ ms → Arrives t before k behind s r child → s k ≡ []
      → IsArrival child.null (child.reading (member_place k)) x → TakesFirst t k x f g
      → AreHeld t ms s f.seen f.fault f.fields → AreHeld t ms r g.seen g.fault g.fields
  takes_first null_comes f g e a none is takes h =
      subst₂ (λ o fs. AreHeld t ms r g.seen o fs) (sym takes.2) (sym takes.1)
      (null_held t before k behind s r child f.seen g.seen f.fault f.fields a none is takes.0 h)
  takes_first (value_comes v) f g e a none is takes h =
      subst₂ (λ o fs. AreHeld t ms r g.seen o fs) (sym takes.2) (sym takes.1)
      (value_held t before k behind s r child f.seen g.seen v f.fault f.fields a none is takes.0 h)
  takes_first (fault_comes w) f g e a none is takes h =
      subst₂ (λ o fs. AreHeld t ms r g.seen o fs) (sym (takes.2 ∙ ap (λ ks. least_fault t ks k (at_member t k w) f.fault) e)) (sym takes.1)
      (fault_held t before k behind s r child f.seen g.seen w is.1.0 f.fault f.fields a none (is.0, is.1.1) takes.0 h)

  takes_again : (f g : MemberFrame) (b : Child) (bs : List Child) → members_at t f.shape ≡ ms → Arrives t before k behind s r child
      → s k ≡ b ∷ bs → TakesAgain t k f g → AreHeld t ms s f.seen f.fault f.fields → AreHeld t ms r g.seen g.fault g.fields
  takes_again f g b bs e a stood takes h =
      subst (λ ks. AreHeld t ms r ks g.fault g.fields) (sym takes.0)
      (subst₂ (λ o fs. AreHeld t ms r f.seen o fs)
      (sym (takes.2 ∙ ap (λ ks. least_fault t ks k (at_member t k ([], Repeated)) f.fault) e)) (sym takes.1)
      (again_held t before k behind s r child f.seen b bs f.fault f.fields a stood h))

  takes_by : (x : Arrival) (f g : MemberFrame) (b : Bool) → is_seen k f.seen ≡ b → members_at t f.shape ≡ ms
      → Arrives t before k behind s r child → IsArrival child.null (child.reading (member_place k)) x
      → MatchBool b (TakesAgain t k f g) (TakesFirst t k x f g) → AreHeld t ms s f.seen f.fault f.fields
      → AreHeld t ms r g.seen g.fault g.fields
  takes_by x f g true seen e a is takes h =
      let stands = seen_stands s k ms (sym (list_any-IsPermutation (λ j. nat_eq j k) f.seen (closed_members s ms) h.0) ∙ seen) in
      let one = something (s k) stands in
      takes_again f g one.0 one.1 e a one.2 takes h
  takes_by x f g false seen e a is takes h =
      let absent : has_one (s k) ≡ false =
      no_one (has_one (s k)) refl
      (sym (list_any-IsPermutation (λ j. nat_eq j k) f.seen (closed_members s ms) h.0) ∙ seen) in
      takes_first x f g e a (nothing_yet (s k) absent) is takes h
    where
      no_one : (d : Bool) → has_one (s k) ≡ d → is_seen k (closed_members s ms) ≡ false → d ≡ false
      no_one true one none = absurd (never_both (is_seen k (closed_members s ms)) (stands_seen s before k behind one) none)
      no_one false one none = refl

-- so a structure's frame holds the pairs with this one
held_of : (t : TableData) (p : Place) (s : ByMember) (pending : Option ℕ) (f : MemberFrame)
    → HoldsMembers t p s pending (closed_faults t s (members_of_place t p)) f → KeepsPrefix t p s f
    → AreHeld t (members_of_place t p) s f.seen f.fault f.fields
held_of t p s pending f h g = (h.seen, h.fault, h.fields, g)

-- the tree under a name arrives at the member that the name finds
pub arrives_at : (c : Codec) (p : Place) (ps : List (List ℕ × Child)) (name : List ℕ) (child : Child) (k : ℕ) → IsConvention c.convention
    → Shaped c.table → InTable c.table p → member_at c p name ≡ Some k
    → (before behind : List ℕ) × (members_of_place c.table p ≡ before ++ k ∷ behind)
    × Arrives c.table before k behind (under_names c p ps) (under_names c p (ps ++ (name, child) ∷ [])) child
arrives_at c p ps name child k laws shaped inside at =
    let t = c.table in
    let shape = shape_in t p shaped inside in
    let found = found_at c p name child ps k (members_of_place t p) at in
    let wires = subst (λ ks. AllDiffer (map (wire_name c p) ks)) found.2 (laws.names t shaped (shape_of t p) shape) in
    let rises = subst (λ ks. IsStrictlySortedBy nat_cmp ks) found.2 (shaped.rises (shape_of t p) shape) in (
      found.0,
      found.1,
      found.2,
      record {
        differ = subst (λ ks. AllDiffer (map (name_at t) ks)) found.2 (shaped.names (shape_of t p) shape);
        below = rises_before found.0 k found.1 rises;
        above = rises_behind found.0 k found.1 rises;
        front = agree_before c p name child ps found.0 k found.1 found.3 wires;
        back = agree_behind c p name child ps found.0 k found.1 found.3 wires;
        here = under_it c p name child ps k found.3;
      },
    )

pub member_held : (c : Codec) (p : Place) (ps : List (List ℕ × Child)) (name : List ℕ) (child : Child) (k : ℕ) (x : Arrival)
    (f g : MemberFrame)
    → IsConvention c.convention → Shaped c.table → InTable c.table p → member_at c p name ≡ Some k
    → IsArrival child.null (child.reading (member_place k)) x → TakesMember c.table k x f g
    → HoldsPairs c p ps (Some name) (structure_frame f)
    → HoldsPairs c p (ps ++ (name, child) ∷ []) None (structure_frame g)
member_held c p ps name child k x f g laws shaped inside at is takes h =
    let t = c.table in
    let s = under_names c p ps in
    let r = under_names c p (ps ++ (name, child) ∷ []) in
    let found = arrives_at c p ps name child k laws shaped inside at in
    let old = subst (λ ks. AreHeld t ks s f.seen f.fault f.fields) found.2 (held_of t p s (member_at c p name) f h.1 h.2) in
    let new = takes_by t found.0 k found.1 s r child x f g (is_seen k f.seen) refl
    (ap (members_at t) h.1.shape ∙ found.2) found.3 is takes.2 old in
    let back = subst (λ ks. AreHeld t ks r g.seen g.fault g.fields) (sym found.2) new in (
      h.0,
      record { shape = takes.0 ∙ h.1.shape; seen = back.0; current = takes.1; fault = back.1; fields = back.2 },
      back.3,
    )

-- a name that finds no member leaves the frame as it is
pub unknown_members : (c : Codec) (p : Place) (ps : List (List ℕ × Child)) (name : List ℕ) (child : Child) (f : MemberFrame)
    (fs gs : List FaultAt)
    → gs ≡ fs → member_at c p name ≡ None → HoldsMembers c.table p (under_names c p ps) (member_at c p name) fs f
    → HoldsMembers c.table p (under_names c p (ps ++ (name, child) ∷ [])) None gs f
unknown_members c p ps name child f fs gs same at h =
    let t = c.table in
    let s = under_names c p ps in
    let r = under_names c p (ps ++ (name, child) ∷ []) in
    let ks = members_of_place t p in
    let agree = unknown c p name child ps ks at in
    record {
      shape = h.shape;
      seen = subst (λ xs. IsPermutation f.seen xs) (sym (closed_agree t r s ks agree)) h.seen;
      current = h.current ∙ at;
      fault = h.fault ∙ ap first_fault (sym same);
      fields = subst₂ (λ xs ys. AreKept xs f.fields ys) (sym same) (sym (spelled_agree t r s ks agree)) h.fields;
    }

pub unknown_held : (c : Codec) (p : Place) (ps : List (List ℕ × Child)) (name : List ℕ) (child : Child) (f : MemberFrame)
    → member_at c p name ≡ None → HoldsPairs c p ps (Some name) (structure_frame f)
    → HoldsPairs c p (ps ++ (name, child) ∷ []) None (structure_frame f)
unknown_held c p ps name child f at h =
    let t = c.table in
    let s = under_names c p ps in
    let r = under_names c p (ps ++ (name, child) ∷ []) in
    let ks = members_of_place t p in
    let same = unknown c p name child ps ks at in
    let faults = faults_agree t r s ks same in (
      h.0,
      unknown_members c p ps name child f (closed_faults t s ks) (closed_faults t r ks) faults at h.1,
      λ before behind e clean.
          let part = agree_front r s before behind (subst (λ ks. Agree r s ks) e same) in
          let kept = h.2 before behind e (sym (faults_agree t r s before part) ∙ clean) in
          (kept.0, kept.1 ∙ ap (λ fs. fs ++ kept.0) (sym (spelled_agree t r s before part))),
    )
