-- A tree that is closed, as a decoder takes it: the innermost frame, or the root; and in what is passed over.
use Rattle.std.proofs.Common.{◌≡◌, ℕ, zero, suc, true, List, [], ◌∷◌, ◌++◌, map, refl, sym, ap, ◌∙◌, subst}
use Rattle.std.proofs.lemmas.List.{append_cancel_left}
use Rattle.std.specs.Prelude.{Option, Some, None, Err}
use Rattle.sm_tree.specs.Node.{Node, null}
use Rattle.sm_tree.specs.Building.{Building, nothing, whole, within, Inner, Around, tagged, awaits_value}
use Rattle.sm_tree.specs.steps.BuilderSteps.{after_value, with_tree}
use Rattle.sm_shapes.specs.TableData.{sparse_at}
use Rattle.sm_shapes.specs.InOrder.{Shaped}
use Rattle.sm_shapes.specs.Places.{Place, root_place}
use Rattle.sm_shapes.specs.declared.fault.FaultKind.TheVariants.{WrongType}
use Rattle.sm_codec.specs.Convention.{IsConvention}
use Rattle.sm_codec.specs.Sorts.{Sort, simple, a_list, a_map, a_structure, a_union, left_out}
use Rattle.sm_codec.specs.Codec.{Codec, sort_at, InTable}
use Rattle.sm_codec.specs.Readings.{one_here, leaf_by, leaf_reading, reading}
use Rattle.sm_codec.specs.Decoding.{good, bad, MemberFrame, EntryFrame, Frame, structure_frame, union_frame, list_frame, map_frame}
use Rattle.sm_codec.specs.Decoding.{tagged_frame, skip_frame, Decoding}
use Rattle.sm_codec.specs.Walk.{Level, list_level, object_level, pair_level, Due, due_at, due_tagged, due_passed, due_nowhere, Opened}
use Rattle.sm_codec.specs.Walk.{opened_at, opened_passed, inner_level, around_level, opened, due_within, due_in, kept_levels, member_at}
use Rattle.sm_codec.specs.Kept.{IsOutcome, due_frames, FrameHolds, FramesHold, Holds}
use Rattle.sm_codec.specs.steps.Arrivals.{Arrival, null_comes, value_comes, fault_comes, IsArrival, null_where, read_where, level_with}
use Rattle.sm_codec.specs.steps.DecoderSteps.{ForCurrent, FrameTakes, root_outcome, TakenBy}
use Rattle.sm_codec.specs.steps.EntrySteps.{TakesEntry}
use Rattle.sm_codec.specs.steps.MapSteps.{TakesPair}
use Rattle.sm_codec.specs.steps.MemberSteps.{TakesMember}
use Rattle.sm_codec.specs.steps.Standing.{StandsIn, AwaitsTree}
use Rattle.sm_codec.specs.steps.UnionSteps.{ChoosesMember}
use Rattle.sm_codec.proofs.ChildLists.{null_is}
use Rattle.sm_codec.proofs.Closing.{root_taken, structure_takes, list_takes}
use Rattle.sm_codec.proofs.MapClosing.{map_takes}
use Rattle.sm_codec.proofs.PlacesHeld.{due_held, place_in_table}
use Rattle.sm_codec.proofs.Stepping.{due_next, tree_taken}
use Rattle.sm_codec.proofs.TreeDue.{IsShallow, IsDeep, deep_opened}
use Rattle.sm_codec.proofs.UnionClosing.{union_takes}
use Rattle.sm_codec.proofs.Walking.{in_frame, level_awaits}

-- by the member that the name before the tree is of
module _ (c : Codec) (p : Place) (ms : List (List ℕ × Node)) (name : List ℕ) (us : List ℕ) (n : Node) (x : Arrival)
    (laws : IsConvention c.convention) (shaped : Shaped c.table) (inside : InTable c.table p)
    (is : IsArrival (null_where (due_within c (opened_at p) (pair_level ms name us)) n)
    (read_where c (due_within c (opened_at p) (pair_level ms name us)) n) x) where
  structure_by : (f h : MemberFrame) (o : Option ℕ) → member_at c p name ≡ o → ForCurrent o (λ k. TakesMember c.table k x f h)
      → FrameHolds c p (pair_level ms name us) (structure_frame f)
      → FrameHolds c p (level_with n (pair_level ms name us)) (structure_frame h)
  structure_by f h None e takes holds = absurd takes
  structure_by f h (Some k) e takes holds = structure_takes c p ms name us n k x f h laws shaped inside e is takes holds

  union_by : (f h : MemberFrame) (o : Option ℕ) → member_at c p name ≡ o → ForCurrent o (λ k. ChoosesMember c.table k x f h)
      → FrameHolds c p (pair_level ms name us) (union_frame f) → FrameHolds c p (level_with n (pair_level ms name us)) (union_frame h)
  union_by f h None e takes holds = absurd takes
  union_by f h (Some k) e takes holds = union_takes c p ms name us n k x f h laws shaped inside e is takes holds

module _ (c : Codec) (p : Place) (n : Node) (x : Arrival) (laws : IsConvention c.convention) (shaped : Shaped c.table)
    (inside : InTable c.table p) where
  abbrev Comes : Level → Type 0
  Comes l = IsArrival (null_where (due_within c (opened_at p) l) n) (read_where c (due_within c (opened_at p) l) n) x

  abbrev pub Takes : Level → Frame → Type 0
  Takes l f = (g : Frame) → AwaitsTree l → Comes l → FrameTakes c.table c.test x f g → FrameHolds c p l f
      → FrameHolds c p (level_with n l) g

  list_by : (ns : List Node) (us : List ℕ) (f : EntryFrame) → Takes (list_level ns us) (list_frame f)
  list_by ns us f g awaits is takes holds =
      let sparse = ap (sparse_at c.table) holds.shape in
      let took = subst (λ b. TakesEntry b x f takes.0) sparse takes.2 in
      subst (λ g. FrameHolds c p (level_with n (list_level ns us)) g) (sym takes.1) (list_takes c p ns us n x f takes.0 laws is took holds)

  pub frame_takes : (l : Level) (f : Frame) → Takes l f
  frame_takes (list_level ns us) (list_frame f) g awaits is takes holds = list_by ns us f g awaits is takes holds
  frame_takes (list_level ns us) (structure_frame f) g awaits is takes holds = absurd holds
  frame_takes (list_level ns us) (union_frame f) g awaits is takes holds = absurd holds
  frame_takes (list_level ns us) (map_frame f) g awaits is takes holds = absurd holds
  frame_takes (list_level ns us) (tagged_frame s k) g awaits is takes holds = absurd holds
  frame_takes (list_level ns us) (skip_frame depth report) g awaits is takes holds = absurd holds
  frame_takes (object_level ms) f g awaits is takes holds = absurd awaits
  frame_takes (pair_level ms name us) (structure_frame f) g awaits is takes holds =
      let took = subst (λ o. ForCurrent o (λ k. TakesMember c.table k x f takes.0)) holds.1.current takes.2 in
      subst (λ g. FrameHolds c p (level_with n (pair_level ms name us)) g) (sym takes.1)
      (structure_by c p ms name us n x laws shaped inside is f takes.0 (member_at c p name) refl took holds)
  frame_takes (pair_level ms name us) (union_frame f) g awaits is takes holds =
      let took = subst (λ o. ForCurrent o (λ k. ChoosesMember c.table k x f takes.0)) holds.1.current takes.2 in
      subst (λ g. FrameHolds c p (level_with n (pair_level ms name us)) g) (sym takes.1)
      (union_by c p ms name us n x laws shaped inside is f takes.0 (member_at c p name) refl took holds)
  frame_takes (pair_level ms name us) (map_frame f) g awaits is takes holds =
      let took = subst (λ b. TakesPair b takes.1 x f takes.0) (ap (sparse_at c.table) holds.1.shape) takes.4 in
      subst (λ g. FrameHolds c p (level_with n (pair_level ms name us)) g) (sym takes.2)
      (map_takes c p ms name us n takes.1 x f takes.0 laws is takes.3 took holds)
  frame_takes (pair_level ms name us) (list_frame f) g awaits is takes holds = absurd holds
  frame_takes (pair_level ms name us) (tagged_frame s k) g awaits is takes holds = absurd holds
  frame_takes (pair_level ms name us) (skip_frame depth report) g awaits is takes holds = absurd holds

-- the root
null_leaf : (c : Codec) (p : Place) (s : Sort) → IsConvention c.convention → leaf_by s c p null ≡ Err (one_here WrongType)
null_leaf c p (simple x) laws = ap (leaf_reading c p) (laws.no_null x)
null_leaf c p a_list laws = refl
null_leaf c p a_map laws = refl
null_leaf c p a_structure laws = refl
null_leaf c p a_union laws = refl
null_leaf c p left_out laws = refl

null_due : (c : Codec) (due : Due) (n : Node) → IsConvention c.convention → null_where due n ≡ true
    → IsOutcome (read_where c due n) (bad ([], WrongType))
null_due c (due_at p) n laws h =
    subst (λ r. IsOutcome r (bad ([], WrongType))) (sym (ap (λ m. reading c m p) (null_is n h) ∙ null_leaf c p (sort_at c p) laws))
    (([], WrongType), [], refl, refl)
null_due c (due_tagged p x k) n laws h = absurd cc
null_due c (due_passed depth report) n laws h = absurd cc
null_due c due_nowhere n laws h = absurd cc

pub root_is : (c : Codec) (due : Due) (n : Node) (x : Arrival) → IsConvention c.convention
    → IsArrival (null_where due n) (read_where c due n) x → IsOutcome (read_where c due n) (root_outcome x)
root_is c due n null_comes laws h = null_due c due n laws h
root_is c due n (value_comes v) laws h = subst (λ r. IsOutcome r (good v)) (sym h.1) refl
root_is c due n (fault_comes f) laws h = subst (λ r. IsOutcome r (bad f)) (sym h.1.1) (f, h.1.0, refl, refl)

-- a tree that comes at a place, in tags or not, or that ends what is passed over with a fault
module _ (c : Codec) (d e : Decoding) (n : Node) (x : Arrival) (laws : IsConvention c.convention) (shaped : Shaped c.table)
    (inside : InTable c.table (root_place d.shape)) (root : e.shape ≡ d.shape) where
  abbrev ComesAt : Due → Type 0
  ComesAt due = IsArrival (null_where due n) (read_where c due n) x

  at_root : (ts : List ℕ) (fs rest : List Frame) → FramesHold c [] rest → rest ≡ fs → ComesAt (due_in c d.shape ts [])
      → TakenBy c.table c.test x fs e
      → Holds c (whole (tagged ts n)) e
  at_root ts [] rest holds same is taken =
      root_taken c d e n ts (root_outcome x) laws root taken.0 taken.1 (root_is c (due_in c d.shape ts []) n x laws is)
  at_root ts (f ∷ fs) [] holds same is taken = absurd cc
  at_root ts (f ∷ fs) (g ∷ gs) holds same is taken = absurd holds

  module _ (ts : List ℕ) (i : Inner) (outer : List Around) (awaits : AwaitsTree (inner_level i)) where
    abbrev around : List (Place × Level)
    around = kept_levels c d.shape ts (map around_level outer)

    abbrev due_around : Due
    due_around = due_in c d.shape ts (map around_level outer)

    by_frame : (p : Place) (f : Frame) (rest fs : List Frame) → opened c (inner_level i) due_around ≡ opened_at p
        → FrameHolds c p (inner_level i) f → FramesHold c around rest → f ∷ rest ≡ fs → ComesAt (due_within c (opened_at p) (inner_level i))
        → TakenBy c.table c.test x fs e → Holds c (within ts (with_tree n i) outer) e
    by_frame p f rest [] at holds below same is taken = absurd cc
    by_frame p f rest (g ∷ fs) at holds below same is taken =
        let first : f ≡ g = cc in
        let others : rest ≡ fs = cc in
        let took = subst (λ y. FrameTakes c.table c.test x y taken.1.0) (sym first) taken.1.2 in
        let here = place_in_table c (inner_level i) due_around p (due_held c d.shape ts (map around_level outer) shaped inside) at in
        let now = frame_takes c p n x laws shaped here (inner_level i) f taken.1.0 awaits is took holds in
        tree_taken c d e n ts i outer p taken.1.0 fs at root taken.0 taken.1.1 now (subst (FramesHold c around) others below)

    by_level : (o : Opened) (fs : List Frame) → opened c (inner_level i) due_around ≡ o → IsDeep o → StandsIn c o (inner_level i) around d
        → d.frames ≡ due_frames c (due_within c o (inner_level i)) ++ fs → IsShallow (due_within c o (inner_level i))
        → ComesAt (due_within c o (inner_level i)) → TakenBy c.table c.test x fs e → Holds c (within ts (with_tree n i) outer) e
    by_level (opened_at p) fs at deep h frames shallow is taken =
        let stand = in_frame c p (inner_level i) around d h in
        by_frame p stand.0 stand.1 fs at stand.3 stand.4
        (append_cancel_left (due_frames c (due_within c (opened_at p) (inner_level i))) (stand.0 ∷ stand.1) fs (sym stand.2 ∙ frames)) is
        taken
    by_level (opened_passed zero report) fs at deep h frames shallow is taken = absurd deep
    by_level (opened_passed (suc depth) report) fs at deep h frames shallow is taken = absurd shallow

  pub tree_comes : (b : Building) (fs : List Frame) → awaits_value b ≡ true → Holds c b d
      → d.frames ≡ due_frames c (due_next c d.shape b) ++ fs → IsShallow (due_next c d.shape b) → ComesAt (due_next c d.shape b)
      → TakenBy c.table c.test x fs e → Holds c (after_value n b) e
  tree_comes (nothing ts) fs awaits h frames shallow is taken =
      at_root ts fs h.1.0 h.1.2
      (append_cancel_left (due_frames c (due_in c d.shape ts [])) h.1.0 fs (sym h.1.1 ∙ frames)) is taken
  tree_comes (whole m) fs awaits h frames shallow is taken = absurd cc
  tree_comes (within ts i outer) fs awaits h frames shallow is taken =
      by_level ts i outer (level_awaits i awaits) (opened c (inner_level i) (due_in c d.shape ts (map around_level outer))) fs refl
      (deep_opened c (inner_level i) (due_in c d.shape ts (map around_level outer))) h frames shallow is taken
