-- A list or an object that ends: its frame goes, and the tree that it was comes where it tree_due; or what is passed over is one level less.
use Rattle.std.proofs.Common.{◌≡◌, ℕ, zero, suc, ◌<◌, ◌-◌, true, false, List, [], ◌∷◌, ◌++◌, map, refl, sym, ap, ◌∙◌, subst, subst₂, arith}
use Rattle.std.specs.Prelude.{Option, Some, None, Err}
use Rattle.std.proofs.lemmas.List.{append_cancel_left}
use Rattle.sm_tree.specs.Node.{Node, list, object, nodes_of, members_of}
use Rattle.sm_tree.specs.Building.{within, Inner, in_list, in_object, in_pair, Around, awaits_value}
use Rattle.sm_tree.specs.steps.BuilderSteps.{after_value, after_end, ended}
use Rattle.sm_tree.proofs.Building.{MayEnd, back_inside_awaits}
use Rattle.sm_shapes.specs.TableData.{shape_count, unique_at}
use Rattle.sm_shapes.specs.InOrder.{Shaped}
use Rattle.sm_shapes.specs.Places.{Place, root_place, constraints_of}
use Rattle.sm_shapes.specs.declared.fault.FaultKind.{FaultKind}
use Rattle.sm_shapes.specs.declared.fault.FaultKind.TheVariants.{WrongType}
use Rattle.sm_codec.specs.Convention.{IsConvention, nested_fault}
use Rattle.sm_codec.specs.Sorts.{Sort, simple, a_list, a_map, a_structure, a_union, left_out}
use Rattle.sm_codec.specs.Codec.{Codec, sort_at, InTable}
use Rattle.sm_codec.specs.Named.{is_null}
use Rattle.sm_codec.specs.Readings.{one_here, children, children_of, named_children, named_children_of, list_by, object_by, reading}
use Rattle.sm_codec.specs.Decoding.{Frame, structure_frame, union_frame, list_frame, map_frame, tagged_frame, skip_frame, Decoding}
use Rattle.sm_codec.specs.Walk.{Due, due_at, due_tagged, due_passed, due_nowhere, Opened, opened_at, opened_passed, Level, list_level}
use Rattle.sm_codec.specs.Walk.{object_level, pair_level, inner_level, around_level, list_by_sort, object_by_sort, opened_where, opened}
use Rattle.sm_codec.specs.Walk.{behind_name, due_member, due_within, due_in, kept_levels, member_at}
use Rattle.sm_codec.specs.Kept.{IsOutcome, due_frames, FrameHolds, Holds}
use Rattle.sm_codec.specs.steps.Arrivals.{fault_comes, comes, IsArrival, null_where, read_where}
use Rattle.sm_codec.specs.steps.ClosingSteps.{structure_end}
use Rattle.sm_codec.specs.steps.DecoderSteps.{place_among, FirstCanTake, TakenBy, PassedBy, CanPass, frame_end, CanEnd, FirstCanEnd}
use Rattle.sm_codec.specs.steps.DecoderSteps.{EndedBy}
use Rattle.sm_codec.specs.steps.EntrySteps.{list_end}
use Rattle.sm_codec.specs.steps.Standing.{StandsIn}
use Rattle.sm_codec.proofs.ChildLists.{entries_are, pairs_are, nodes_each, pairs_each}
use Rattle.sm_codec.proofs.Closing.{before_opener, before_is, Ends, kept_ends, passed_ends}
use Rattle.sm_codec.proofs.DuePlaces.{IsSimpleDue, simple_due, passed_list, passed_object}
use Rattle.sm_codec.proofs.FieldsRising.{fields_rise}
use Rattle.sm_codec.proofs.LeafPlaces.{outcome_arrives}
use Rattle.sm_codec.proofs.ListOutcome.{list_outcome}
use Rattle.sm_codec.proofs.MapClosing.{map_outcome}
use Rattle.sm_codec.proofs.PlacesHeld.{due_held, place_in_table}
use Rattle.sm_codec.proofs.PlacesIn.{shape_in}
use Rattle.sm_codec.proofs.Stepping.{due_next}
use Rattle.sm_codec.proofs.TreeDue.{IsShallow, IsLoud, NotNowhere, TreeDue, tree_due}
use Rattle.sm_codec.proofs.StructureOutcome.{structure_outcome}
use Rattle.sm_codec.proofs.TreeComes.{tree_comes}
use Rattle.sm_codec.proofs.TreePasses.{silent_passes, deep_passes, same_holds}
use Rattle.sm_codec.proofs.UnionNamed.{union_ends}

-- the tree that ends comes where its opener came
after_is : (ts : List ℕ) (i : Inner) (outer : List Around) → after_value (ended i) (before_opener ts outer) ≡ after_end (within ts i outer)
after_is ts i [] = refl
after_is ts i (a ∷ outer) = refl

before_awaits : (ts : List ℕ) (outer : List Around) → awaits_value (before_opener ts outer) ≡ true
before_awaits ts [] = refl
before_awaits ts (a ∷ outer) = back_inside_awaits a

-- no tree is due in what ends
none_due : (c : Codec) (p : Place) (i : Inner) → MayEnd i → due_frames c (due_within c (opened_at p) (inner_level i)) ≡ []
none_due c p (in_list ns []) h = refl
none_due c p (in_list ns (t ∷ ts)) h = let no : t ∷ ts ≡ [] = h in absurd cc
none_due c p (in_object ms) h = refl
none_due c p (in_pair ms name ts) h = absurd h

pub not_null : (i : Inner) → is_null (ended i) ≡ false
not_null (in_list ns ts) = refl
not_null (in_object ms) = refl
not_null (in_pair ms name ts) = refl

-- under tags stands a simple type
simple_member : (c : Codec) (o : Option ℕ) → IsSimpleDue c (due_member o)
simple_member c None = tt
simple_member c (Some k) = tt

simple_name : (c : Codec) (p : Place) (name : List ℕ) (s : Sort) → IsSimpleDue c (behind_name s c p name)
simple_name c p name (simple x) = simple_member c (member_at c p name)
simple_name c p name a_list = simple_member c (member_at c p name)
simple_name c p name a_map = tt
simple_name c p name a_structure = simple_member c (member_at c p name)
simple_name c p name a_union = simple_member c (member_at c p name)
simple_name c p name left_out = simple_member c (member_at c p name)

simple_within : (c : Codec) (o : Opened) (l : Level) → IsSimpleDue c (due_within c o l)
simple_within c (opened_at p) (list_level ns ts) = simple_due c (due_within c (opened_at p) (list_level ns [])) ts tt
simple_within c (opened_at p) (object_level ms) = tt
simple_within c (opened_at p) (pair_level ms name ts) = simple_due c (behind_name (sort_at c p) c p name) ts
    (simple_name c p name (sort_at c p))
simple_within c (opened_passed depth report) l = tt

pub simple_in_all : (c : Codec) (root : ℕ) (ts : List ℕ) (ls : List Level) → IsSimpleDue c (due_in c root ts ls)
simple_in_all c root ts [] = simple_due c (due_at (root_place root)) ts tt
simple_in_all c root ts (l ∷ outer) = simple_within c (opened c l (due_in c root ts outer)) l

-- what the list or object comes to
module _ (c : Codec) (p : Place) (shaped : Shaped c.table) (inside : InTable c.table p) where
  list_tree : (ns : List Node) → children c (nodes_of ns) ≡ children_of c ns
  list_tree ns = entries_are c (nodes_of ns) ∙ ap (children_of c) (nodes_each ns)

  object_tree : (ms : List (List ℕ × Node)) → named_children c (members_of ms) ≡ named_children_of c ms
  object_tree ms = pairs_are c (members_of ms) ∙ ap (named_children_of c) (pairs_each ms)

  abbrev OutcomeOf : Inner → Frame → Type 0
  OutcomeOf i f = IsOutcome (reading c (ended i) p) (frame_end c.table p f)

  pub outcome_by : (i : Inner) (f : Frame) → MayEnd i → FrameHolds c p (inner_level i) f → OutcomeOf i f
  outcome_by (in_list ns ts) (list_frame f) may h =
      let read : reading c (ended (in_list ns ts)) p ≡ list_by a_list c p (list (nodes_of ns)) (children_of c ns) =
      ap (λ s. list_by s c p (list (nodes_of ns)) (children c (nodes_of ns))) h.sort
      ∙ ap (λ cs. list_by a_list c p (list (nodes_of ns)) cs) (list_tree ns) in
      subst₂ (λ r o. IsOutcome r o) (sym read) (ap (λ s. list_end (constraints_of c.table p) (unique_at c.table s) f) (sym h.shape))
      (list_outcome c p ns f h)
  outcome_by (in_list ns ts) (structure_frame f) may h = absurd h
  outcome_by (in_list ns ts) (union_frame f) may h = absurd h
  outcome_by (in_list ns ts) (map_frame f) may h = absurd h
  outcome_by (in_list ns ts) (tagged_frame s k) may h = absurd h
  outcome_by (in_list ns ts) (skip_frame depth report) may h = absurd h
  outcome_by (in_object ms) (structure_frame f) may h =
      let read : reading c (ended (in_object ms)) p ≡ object_by a_structure c p (object (members_of ms)) (named_children_of c ms) =
      ap (λ s. object_by s c p (object (members_of ms)) (named_children c (members_of ms))) h.0
      ∙ ap (λ cs. object_by a_structure c p (object (members_of ms)) cs) (object_tree ms) in
      subst (λ r. IsOutcome r (structure_end c.table f)) (sym read) (structure_outcome c p ms f shaped inside h)
  outcome_by (in_object ms) (union_frame f) may h =
      let read : reading c (ended (in_object ms)) p ≡ object_by a_union c p (object (members_of ms)) (named_children_of c ms) =
      ap (λ s. object_by s c p (object (members_of ms)) (named_children c (members_of ms))) h.0
      ∙ ap (λ cs. object_by a_union c p (object (members_of ms)) cs) (object_tree ms) in
      subst (λ r. IsOutcome r (frame_end c.table p (union_frame f))) (sym read) (union_ends c p (named_children_of c ms) f h)
  outcome_by (in_object ms) (map_frame f) may h =
      let read : reading c (ended (in_object ms)) p ≡ object_by a_map c p (object (members_of ms)) (named_children_of c ms) =
      ap (λ s. object_by s c p (object (members_of ms)) (named_children c (members_of ms))) h.0
      ∙ ap (λ cs. object_by a_map c p (object (members_of ms)) cs) (object_tree ms) in
      subst (λ r. IsOutcome r (frame_end c.table p (map_frame f))) (sym read) (map_outcome c p (named_children_of c ms) f h)
  outcome_by (in_object ms) (list_frame f) may h = absurd h
  outcome_by (in_object ms) (tagged_frame s k) may h = absurd h
  outcome_by (in_object ms) (skip_frame depth report) may h = absurd h
  outcome_by (in_pair ms name ts) f may h = absurd may

  pub end_able : (i : Inner) (f : Frame) → MayEnd i → FrameHolds c p (inner_level i) f → CanEnd c.table f
  end_able (in_list ns ts) (list_frame f) may h = subst (λ n. n < shape_count c.table) (sym h.shape) (shape_in c.table p shaped inside)
  end_able (in_list ns ts) (structure_frame f) may h = absurd h
  end_able (in_list ns ts) (union_frame f) may h = absurd h
  end_able (in_list ns ts) (map_frame f) may h = absurd h
  end_able (in_list ns ts) (tagged_frame s k) may h = absurd h
  end_able (in_list ns ts) (skip_frame depth report) may h = absurd h
  end_able (in_object ms) (structure_frame f) may h = (
    subst (λ n. n < shape_count c.table) (sym h.1.shape) (shape_in c.table p shaped inside),
    fields_rise c p (named_children_of c ms) None f shaped inside h,
  )
  end_able (in_object ms) (union_frame f) may h = tt
  end_able (in_object ms) (map_frame f) may h = tt
  end_able (in_object ms) (list_frame f) may h = absurd h
  end_able (in_object ms) (tagged_frame s k) may h = absurd h
  end_able (in_object ms) (skip_frame depth report) may h = absurd h
  end_able (in_pair ms name ts) f may h = absurd may

-- by the frame that stands first
pub first_ends : (c : Codec) (s : ℕ) (f : Frame) (fs : List Frame) → CanEnd c.table f → InTable c.table (place_among c.table s fs)
    → FirstCanTake c.table fs → FirstCanEnd c.table s (f ∷ fs)
first_ends c s (structure_frame f) fs can inside below = (can, inside, below)
first_ends c s (union_frame f) fs can inside below = (can, inside, below)
first_ends c s (list_frame f) fs can inside below = (can, inside, below)
first_ends c s (map_frame f) fs can inside below = (can, inside, below)
first_ends c s (tagged_frame n k) fs can inside below = absurd can
first_ends c s (skip_frame depth report) fs can inside below = absurd can

pub taken_end : (c : Codec) (s : ℕ) (f : Frame) (fs : List Frame) (e : Decoding) → CanEnd c.table f → EndedBy c.table c.test s (f ∷ fs) e
    → TakenBy c.table c.test (comes (frame_end c.table (place_among c.table s fs) f)) fs e
taken_end c s (structure_frame f) fs e can h = h
taken_end c s (union_frame f) fs e can h = h
taken_end c s (list_frame f) fs e can h = h
taken_end c s (map_frame f) fs e can h = h
taken_end c s (tagged_frame n k) fs e can h = absurd can
taken_end c s (skip_frame depth report) fs e can h = absurd can

-- by where the opener of what is passed over came: how deep it is, and the fault to give
abbrev ByDue : Due → ℕ → Option FaultKind → Type 0
ByDue (due_at p) depth report = (kind : FaultKind) × (report ≡ Some kind) × (depth ≡ 1)
ByDue (due_tagged p x k) depth report = (kind : FaultKind) × (report ≡ Some kind) × (depth ≡ 1)
ByDue (due_passed m r) depth report = (report ≡ r) × (depth ≡ suc m)
ByDue due_nowhere depth report = Unit {0}

passed_same : (m depth : ℕ) (r report : Option FaultKind) → opened_passed m r ≡ opened_passed depth report → (report ≡ r) × (depth ≡ m)
passed_same m depth r report e = let first : m ≡ depth = cc in let second : r ≡ report = cc in (sym second, sym first)

kind_same : (m depth : ℕ) (kind : FaultKind) (report : Option FaultKind) → opened_passed m (Some kind) ≡ opened_passed depth report
    → (k : FaultKind) × (report ≡ Some k) × (depth ≡ m)
kind_same m depth kind report e = let same = passed_same m depth (Some kind) report e in (kind, same.0, same.1)

list_deep : (p : Place) (s : Sort) (depth : ℕ) (report : Option FaultKind) → list_by_sort s p ≡ opened_passed depth report
    → ByDue (due_at p) depth report
list_deep p (simple x) depth report e = kind_same 1 depth WrongType report e
list_deep p a_list depth report e = absurd cc
list_deep p a_map depth report e = kind_same 1 depth WrongType report e
list_deep p a_structure depth report e = kind_same 1 depth WrongType report e
list_deep p a_union depth report e = kind_same 1 depth WrongType report e
list_deep p left_out depth report e = kind_same 1 depth WrongType report e

object_deep : (p : Place) (s : Sort) (depth : ℕ) (report : Option FaultKind) → object_by_sort s p ≡ opened_passed depth report
    → ByDue (due_at p) depth report
object_deep p (simple x) depth report e = kind_same 1 depth WrongType report e
object_deep p a_list depth report e = kind_same 1 depth WrongType report e
object_deep p a_map depth report e = absurd cc
object_deep p a_structure depth report e = absurd cc
object_deep p a_union depth report e = absurd cc
object_deep p left_out depth report e = kind_same 1 depth WrongType report e

where_deep : (c : Codec) (by_sort : Sort → Place → Opened) (due : Due) (depth : ℕ) (report : Option FaultKind)
    → ((p : Place) (s : Sort) (d : ℕ) (r : Option FaultKind) → by_sort s p ≡ opened_passed d r → ByDue (due_at p) d r)
    → opened_where c by_sort due ≡ opened_passed depth report → ByDue due depth report
where_deep c by_sort (due_at p) depth report h e = h p (sort_at c p) depth report e
where_deep c by_sort (due_tagged p x k) depth report h e = kind_same 1 depth (nested_fault c.convention x k) report e
where_deep c by_sort (due_passed m r) depth report h e = passed_same (suc m) depth r report e
where_deep c by_sort due_nowhere depth report h e = tt

level_deep : (c : Codec) (i : Inner) (due : Due) (depth : ℕ) (report : Option FaultKind) → MayEnd i
    → opened c (inner_level i) due ≡ opened_passed depth report → ByDue due depth report
level_deep c (in_list ns ts) due depth report may e = where_deep c list_by_sort due depth report list_deep e
level_deep c (in_object ms) due depth report may e = where_deep c object_by_sort due depth report object_deep e
level_deep c (in_pair ms name ts) due depth report may e = absurd may

-- it comes to that fault
read_passed : (c : Codec) (i : Inner) (due : Due) (depth : ℕ) (kind : FaultKind) → IsConvention c.convention → IsSimpleDue c due → MayEnd i
    → opened c (inner_level i) due ≡ opened_passed depth (Some kind) → read_where c due (ended i) ≡ Err (one_here kind)
read_passed c (in_list ns ts) due depth kind laws is may e = passed_list c due (nodes_of ns) depth kind laws is e
read_passed c (in_object ms) due depth kind laws is may e = passed_object c due (members_of ms) depth kind laws is e
read_passed c (in_pair ms name ts) due depth kind laws is may e = absurd may

null_passed : (due : Due) (i : Inner) → null_where due (ended i) ≡ false
null_passed (due_at p) i = not_null i
null_passed (due_tagged p x k) i = refl
null_passed (due_passed depth report) i = refl
null_passed due_nowhere i = refl

module _ (c : Codec) (d : Decoding) (ts : List ℕ) (i : Inner) (outer : List Around) (laws : IsConvention c.convention)
    (shaped : Shaped c.table) (inside : InTable c.table (root_place d.shape)) (may : MayEnd i) where
  abbrev Ended : Type 0
  Ended =
      FirstCanEnd c.table d.shape d.frames
      × ((e : Decoding) → e.shape ≡ d.shape → EndedBy c.table c.test d.shape d.frames e → Holds c (after_end (within ts i outer)) e)

  abbrev due_around : Due
  due_around = due_in c d.shape ts (map around_level outer)

  abbrev with_rest : List Frame → Decoding
  with_rest fs = record { shape = d.shape; frames = fs; result = None }

  -- a level that is kept
  kept_ended : (p : Place) → opened c (inner_level i) due_around ≡ opened_at p → Ends c d ts (inner_level i) outer p → Ended
  kept_ended p at ends =
      let f = ends.0 in
      let fs = ends.1 in
      let here = place_in_table c (inner_level i) due_around p (due_held c d.shape ts (map around_level outer) shaped inside) at in
      let frames : d.frames ≡ f ∷ fs = ends.2 ∙ ap (λ xs. xs ++ f ∷ fs) (none_due c p i may) in
      let before = ends.4 (with_rest fs) refl refl refl in
      let awaits = before_awaits ts outer in
      let stand : TreeDue c (with_rest fs) (due_at p) = subst (TreeDue c (with_rest fs)) ends.5
      (tree_due c (with_rest fs) (before_opener ts outer) shaped inside awaits before) in
      let below : fs ≡ stand.rest = stand.frames in
      let place : place_among c.table d.shape fs ≡ p = ap (place_among c.table d.shape) below ∙ stand.place p refl in
      let can = end_able c p shaped here i f may ends.3 in
      let outcome = outcome_by c p shaped here i f may ends.3 in
      let first : FirstCanEnd c.table d.shape (f ∷ fs) =
      first_ends c d.shape f fs can (subst (InTable c.table) (sym place) here)
      (subst (FirstCanTake c.table) (sym below) (stand.can tt)) in (
        subst (FirstCanEnd c.table d.shape) (sym frames) first,
        λ e root by.
            let taken = taken_end c d.shape f fs e can (subst (λ xs. EndedBy c.table c.test d.shape xs e) frames by) in
            let took = subst (λ q. TakenBy c.table c.test (comes (frame_end c.table q f)) fs e) place taken in
            let is : IsArrival (null_where (due_at p) (ended i)) (read_where c (due_at p) (ended i)) (comes (frame_end c.table p f)) =
            outcome_arrives (reading c (ended i) p) (frame_end c.table p f) (is_null (ended i)) (not_null i) outcome in
            let now = tree_comes c (with_rest fs) e (ended i) (comes (frame_end c.table p f)) laws shaped inside root
            (before_opener ts outer) fs awaits before
            (ap (λ x. due_frames c x ++ fs) (sym ends.5)) (subst IsShallow (sym ends.5) tt)
            (subst (λ x. IsArrival (null_where x (ended i)) (read_where c x (ended i)) (comes (frame_end c.table p f))) (sym ends.5) is)
            took in
            subst (λ b. Holds c b e) (after_is ts i outer) now,
      )

  -- one that is passed over: what the frames were where its opener came
  module _ (depth : ℕ) (report : Option FaultKind) (at : opened c (inner_level i) due_around ≡ opened_passed depth report)
      (fs : List Frame) (frames : d.frames ≡ skip_frame depth report ∷ fs) (h : Holds c (within ts i outer) d) where
    abbrev again : Decoding
    again = with_rest (due_frames c due_around ++ fs)

    one_rest : (gs : List Frame) → d.frames ≡ skip_frame depth report ∷ gs → due_frames c due_around ++ fs ≡ due_frames c due_around ++ gs
    one_rest gs e = let both : skip_frame depth report ∷ fs ≡ skip_frame depth report ∷ gs = sym frames ∙ e in
        let same : fs ≡ gs = cc in ap (λ xs. due_frames c due_around ++ xs) same

    before : Holds c (before_opener ts outer) again
    before = passed_ends c d again ts i outer depth report at refl one_rest refl h

    due_before : due_next c d.shape (before_opener ts outer) ≡ due_around
    due_before = before_is c d.shape ts outer

    stand : TreeDue c again (due_next c d.shape (before_opener ts outer))
    stand = tree_due c again (before_opener ts outer) shaped inside (before_awaits ts outer) before

    rest_is : (due : Due) → due_next c d.shape (before_opener ts outer) ≡ due → due_around ≡ due → stand.rest ≡ fs
    rest_is due e around =
        append_cancel_left (due_frames c due) stand.rest fs
        (ap (λ x. due_frames c x ++ stand.rest) (sym e) ∙ sym stand.frames ∙ ap (λ x. due_frames c x ++ fs) around)

    -- the fault to give comes where the opener came
    loud : (kind : FaultKind) → report ≡ Some kind → IsShallow due_around → (e : Decoding) → e.shape ≡ d.shape
        → TakenBy c.table c.test (fault_comes ([], kind)) fs e → Holds c (after_end (within ts i outer)) e
    loud kind is shallow e root taken =
        let opens : opened c (inner_level i) due_around ≡ opened_passed depth (Some kind) = at ∙ ap (opened_passed depth) is in
        let read = read_passed c i due_around depth kind laws (simple_in_all c d.shape ts (map around_level outer)) may opens in
        let arrives : IsArrival (null_where due_around (ended i)) (read_where c due_around (ended i)) (fault_comes ([], kind)) =
        (null_passed due_around i, ([], read)) in
        let now = tree_comes c again e (ended i) (fault_comes ([], kind)) laws shaped inside root (before_opener ts outer) fs
        (before_awaits ts outer) before
        (ap (λ x. due_frames c x ++ fs) (sym due_before)) (subst IsShallow (sym due_before) shallow)
        (subst (λ x. IsArrival (null_where x (ended i)) (read_where c x (ended i)) (fault_comes ([], kind))) (sym due_before) arrives)
        taken in
        subst (λ b. Holds c b e) (after_is ts i outer) now

    quiet : due_around ≡ due_passed 0 None → (e : Decoding) → e.shape ≡ d.shape → e.result ≡ None → e.frames ≡ fs
        → Holds c (after_end (within ts i outer)) e
    quiet is e root none now =
        subst (λ b. Holds c b e) (after_is ts i outer)
        (silent_passes c again e (ended i) root none (before_opener ts outer) fs (before_awaits ts outer) before (due_before ∙ is)
        (ap (λ x. due_frames c x ++ fs) (sym due_before)) now)

    deeper : (m : ℕ) (r : Option FaultKind) → due_around ≡ due_passed (suc m) r → (e : Decoding) → e.shape ≡ d.shape → e.result ≡ None
        → e.frames ≡ skip_frame (suc m) r ∷ fs → Holds c (after_end (within ts i outer)) e
    deeper m r is e root none now =
        let same = same_holds c again e (before_opener ts outer) root (now ∙ ap (λ x. due_frames c x ++ fs) (sym is)) none before in
        subst (λ b. Holds c b e) (after_is ts i outer)
        (deep_passes c e (ended i) (before_opener ts outer) m r (before_awaits ts outer) same
        (ap (λ s. due_next c s (before_opener ts outer)) root ∙ due_before ∙ is))

    abbrev Passed : Type 0
    Passed =
        (0 < depth) × CanPass c.table (depth - 1) report fs
        × ((e : Decoding) → e.shape ≡ d.shape → PassedBy c.table c.test (depth - 1) report fs e → Holds c (after_end (within ts i outer)) e)

    -- by how deep it is, and the fault to give
    by_less : (m : ℕ) (r : Option FaultKind) → depth ≡ suc m → report ≡ r → CanPass c.table m r fs
        → ((e : Decoding) → e.shape ≡ d.shape → PassedBy c.table c.test m r fs e → Holds c (after_end (within ts i outer)) e) → Passed
    by_less m r long is can holds =
        let less : depth - 1 ≡ m = omega (arith, long) in (
          omega (arith, long),
          subst₂ (λ n s. CanPass c.table n s fs) (sym less) (sym is) can,
          λ e root by. holds e root (subst₂ (λ n s. PassedBy c.table c.test n s fs e) less is by),
        )

    can_below : (due : Due) → due_around ≡ due → IsLoud due → FirstCanTake c.table fs
    can_below due e is =
        subst (FirstCanTake c.table) (rest_is due (due_before ∙ e) e) (stand.can (subst IsLoud (sym (due_before ∙ e)) is))

    -- by where it came
    by_due : (due : Due) → due_around ≡ due → ByDue due depth report → Passed
    by_due (due_at p) e by =
        by_less 0 (Some by.0) by.2 by.1 (can_below (due_at p) e tt) (loud by.0 by.1 (subst IsShallow (sym e) tt))
    by_due (due_tagged p x k) e by =
        by_less 0 (Some by.0) by.2 by.1 (can_below (due_tagged p x k) e tt) (loud by.0 by.1 (subst IsShallow (sym e) tt))
    by_due (due_passed zero (Some kind)) e by =
        by_less 0 (Some kind) by.1 by.0 (can_below (due_passed zero (Some kind)) e tt) (loud kind by.0 (subst IsShallow (sym e) tt))
    by_due (due_passed zero None) e by = by_less 0 None by.1 by.0 tt (λ f root now. quiet e f root now.0 now.1)
    by_due (due_passed (suc m) r) e by = by_less (suc m) r by.1 by.0 tt (λ f root now. deeper m r e f root now.0 now.1)
    by_due due_nowhere e by = absurd (subst NotNowhere (due_before ∙ e) stand.due_is)

    passed_ended : Ended
    passed_ended =
        let all = by_due due_around refl (level_deep c i due_around depth report may at) in (
          subst (FirstCanEnd c.table d.shape) (sym frames) (all.0, all.1),
          λ e root by. all.2 e root (subst (λ xs. EndedBy c.table c.test d.shape xs e) frames by),
        )

  by_level : (o : Opened) → opened c (inner_level i) due_around ≡ o → Holds c (within ts i outer) d → Ended
  by_level (opened_at p) at h = kept_ended p at (kept_ends c d ts i outer p at h)
  by_level (opened_passed depth report) at h =
      let was : StandsIn c (opened_passed depth report) (inner_level i) (kept_levels c d.shape ts (map around_level outer)) d =
      subst (λ o. StandsIn c o (inner_level i) (kept_levels c d.shape ts (map around_level outer)) d) at h in
      passed_ended depth report at was.1.0 was.1.1 h

  pub tree_ends : Holds c (within ts i outer) d → Ended
  tree_ends h = by_level (opened c (inner_level i) due_around) refl h
