-- A decoder's frames behind a leaf, a tag and an opener are those that it is to hold there, whatever it held before.
use Rattle.std.proofs.Common.{◌≡◌, ℕ, zero, suc, true, List, [], ◌∷◌, ◌++◌, map, refl, sym, ap, ◌∙◌, subst}
use Rattle.std.specs.Prelude.{Option, Some, None}
use Rattle.sm_tree.specs.Node.{Node, null, bool, int, number, text, bytes, tag, opaque, list, object}
use Rattle.sm_tree.specs.Building.{Building, nothing, whole, within, in_list, in_object, awaits_value}
use Rattle.sm_tree.specs.steps.BuilderSteps.{after_value, after_tag, after_start}
use Rattle.sm_shapes.specs.InOrder.{Shaped}
use Rattle.sm_shapes.specs.Places.{Place, root_place, shape_of}
use Rattle.sm_shapes.specs.declared.fault.FaultKind.{FaultKind}
use Rattle.sm_shapes.specs.declared.fault.FaultKind.TheVariants.{WrongType}
use Rattle.sm_codec.specs.declared.simple.Simple.{Simple}
use Rattle.sm_codec.specs.Convention.{IsConvention, nested_fault}
use Rattle.sm_codec.specs.Sorts.{Sort, simple, a_list, a_map, a_structure, a_union, left_out}
use Rattle.sm_codec.specs.Codec.{Codec, sort_at, InTable}
use Rattle.sm_codec.specs.Named.{is_null}
use Rattle.sm_codec.specs.Readings.{leaf_by, reading}
use Rattle.sm_codec.specs.Decoding.{Frame, structure_frame, union_frame, list_frame, map_frame, tagged_frame, skip_frame, Decoding}
use Rattle.sm_codec.specs.Walk.{Level, list_level, object_level, inner_level, around_level, Due, due_at, due_tagged, due_passed, Opened}
use Rattle.sm_codec.specs.Walk.{list_by_sort, object_by_sort, opened_where, tagged_by}
use Rattle.sm_codec.specs.Kept.{due_frames, Holds}
use Rattle.sm_codec.specs.steps.Arrivals.{Arrival, fault_comes, IsArrival, null_where, read_where}
use Rattle.sm_codec.specs.steps.DecoderSteps.{Told, told_at, told_tagged, told_passed, due_told, Tells, FirstCanTake, TakenBy, CanPass}
use Rattle.sm_codec.specs.steps.DecoderSteps.{PassedBy}
use Rattle.sm_codec.specs.steps.EventsHanded.{IsPlain}
use Rattle.sm_codec.specs.steps.OpeningSteps.{below, ToldIn, CanRead, LeafBy, nested_in, tag_frame, TagBy, list_start, object_start}
use Rattle.sm_codec.specs.steps.OpeningSteps.{new_members, new_entries, new_keys, StartBy}
use Rattle.sm_codec.proofs.DuePlaces.{IsSimpleDue}
use Rattle.sm_codec.proofs.MapClosing.{map_starts}
use Rattle.sm_codec.proofs.Starting.{Starts, start_holds, structure_starts, list_starts}
use Rattle.sm_codec.proofs.Stepping.{Tags, due_next, tag_holds}
use Rattle.sm_codec.proofs.TreeDue.{IsShallow, TreeDue, tree_due, due_tells}
use Rattle.sm_codec.proofs.TreeComes.{tree_comes}
use Rattle.sm_codec.proofs.TreePasses.{silent_passes, deep_passes, same_holds}
use Rattle.sm_codec.proofs.TreeEnds.{simple_in_all}
use Rattle.sm_codec.proofs.UnionClosing.{union_starts}

-- a leaf is read as one
pub plain_read : (c : Codec) (p : Place) (n : Node) → IsPlain n → reading c n p ≡ leaf_by (sort_at c p) c p n
plain_read c p null h = refl
plain_read c p (bool b) h = refl
plain_read c p (int z) h = refl
plain_read c p (number u) h = refl
plain_read c p (text u) h = refl
plain_read c p (bytes u) h = refl
plain_read c p (opaque b) h = refl
plain_read c p (tag k n) h = absurd (h tt)
plain_read c p (list ns) h = absurd (h tt)
plain_read c p (object ms) h = absurd (h tt)

pub simple_next : (c : Codec) (root : ℕ) (b : Building) → IsSimpleDue c (due_next c root b)
simple_next c root (nothing ts) = simple_in_all c root ts []
simple_next c root (whole n) = tt
simple_next c root (within ts i outer) = simple_in_all c root ts (inner_level i ∷ map around_level outer)

nested_is : (c : Codec) (p : Place) (k : ℕ) (s : Sort) (x : Simple) → s ≡ simple x
    → nested_in c.convention s k ≡ nested_fault c.convention x k
nested_is c p k s x e = ap (λ r. nested_in c.convention r k) e

tag_frames : (c : Codec) (p : Place) (k : ℕ) (s : Sort) → due_frames c (tagged_by s p k) ≡ tag_frame s (shape_of c.table p) k ∷ []
tag_frames c p k (simple x) = refl
tag_frames c p k a_list = refl
tag_frames c p k a_map = refl
tag_frames c p k a_structure = refl
tag_frames c p k a_union = refl
tag_frames c p k left_out = refl

-- the frames below one that goes
below_is : (f : Frame) (xs fs : List Frame) → xs ≡ f ∷ fs → below xs ≡ fs
below_is f xs fs e = ap below e

-- what opens at a place of this sort
list_opens : (c : Codec) (d e : Decoding) (p : Place) (s : Sort) → sort_at c p ≡ s
    → e.frames ≡ list_start s (shape_of c.table p) ∷ d.frames → Starts c d e (list_level [] []) (due_at p) (list_by_sort s p)
list_opens c d e p a_list sort now = λ fs is. (
  list_frame (new_entries (shape_of c.table p)),
  now
      ∙ ap (λ xs. list_frame (new_entries (shape_of c.table p)) ∷ xs) is,
  list_starts c p sort,
)
list_opens c d e p (simple x) sort now = λ fs is. now ∙ ap (λ xs. skip_frame 1 (Some WrongType) ∷ xs) is
list_opens c d e p a_map sort now = λ fs is. now ∙ ap (λ xs. skip_frame 1 (Some WrongType) ∷ xs) is
list_opens c d e p a_structure sort now = λ fs is. now ∙ ap (λ xs. skip_frame 1 (Some WrongType) ∷ xs) is
list_opens c d e p a_union sort now = λ fs is. now ∙ ap (λ xs. skip_frame 1 (Some WrongType) ∷ xs) is
list_opens c d e p left_out sort now = λ fs is. now ∙ ap (λ xs. skip_frame 1 (Some WrongType) ∷ xs) is

object_opens : (c : Codec) (d e : Decoding) (p : Place) (s : Sort) → sort_at c p ≡ s
    → e.frames ≡ object_start s (shape_of c.table p) ∷ d.frames → Starts c d e (object_level []) (due_at p) (object_by_sort s p)
object_opens c d e p a_map sort now = λ fs is. (
  map_frame (new_keys (shape_of c.table p)),
  now
      ∙ ap (λ xs. map_frame (new_keys (shape_of c.table p)) ∷ xs) is,
  map_starts c p sort,
)
object_opens c d e p a_structure sort now = λ fs is. (
  structure_frame (new_members (shape_of c.table p)),
  now
      ∙ ap (λ xs. structure_frame (new_members (shape_of c.table p)) ∷ xs) is,
  structure_starts c p sort,
)
object_opens c d e p a_union sort now = λ fs is. (
  union_frame (new_members (shape_of c.table p)),
  now
      ∙ ap (λ xs. union_frame (new_members (shape_of c.table p)) ∷ xs) is,
  union_starts c p sort,
)
object_opens c d e p a_list sort now = λ fs is. now ∙ ap (λ xs. skip_frame 1 (Some WrongType) ∷ xs) is
object_opens c d e p (simple x) sort now = λ fs is. now ∙ ap (λ xs. skip_frame 1 (Some WrongType) ∷ xs) is
object_opens c d e p left_out sort now = λ fs is. now ∙ ap (λ xs. skip_frame 1 (Some WrongType) ∷ xs) is

module _ (c : Codec) (d : Decoding) (b : Building) (shaped : Shaped c.table) (inside : InTable c.table (root_place d.shape))
    (awaits : awaits_value b ≡ true) (h : Holds c b d) where
  abbrev due : Due
  due = due_next c d.shape b

  abbrev told : Told
  told = due_told c.table d.shape d.frames

  stand : TreeDue c d due
  stand = tree_due c d b shaped inside awaits h

  tells : Tells told due
  tells = due_tells c d due stand

  at_due : (x : Due) → due ≡ x → TreeDue c d x
  at_due x e = subst (TreeDue c d) e stand

  pub no_result : d.result ≡ None
  no_result = stand.none

  -- what the methods ask
  in_by : (t : Told) → Tells t due → ToldIn c.table t
  in_by (told_at p) e = (at_due (due_at p) e).inside
  in_by (told_tagged p k) e = (at_due (due_tagged p e.0 k) e.1).inside
  in_by (told_passed depth report) e = tt

  pub told_in : ToldIn c.table told
  told_in = in_by told tells

  passed_can : (depth : ℕ) (report : Option FaultKind) → due ≡ due_passed depth report → CanPass c.table depth report (below d.frames)
  passed_can zero None e = tt
  passed_can zero (Some kind) e =
      let at = at_due (due_passed zero (Some kind)) e in
      subst (FirstCanTake c.table) (sym (below_is (skip_frame 0 (Some kind)) d.frames at.rest at.frames)) (at.can tt)
  passed_can (suc depth) report e = tt

  can_by : (t : Told) → Tells t due → CanRead c.table t d.frames
  can_by (told_at p) e = let at = at_due (due_at p) e in subst (FirstCanTake c.table) (sym at.frames) (at.can tt)
  can_by (told_tagged p k) e =
      let at = at_due (due_tagged p e.0 k) e.1 in
      subst (FirstCanTake c.table) (sym (below_is (tagged_frame (shape_of c.table p) k) d.frames at.rest at.frames)) (at.can tt)
  can_by (told_passed depth report) e = passed_can depth report e

  pub can_read : CanRead c.table told d.frames
  can_read = can_by told tells

  -- the frames that are due, and those below
  split_at : (x : Due) (fs : List Frame) → due ≡ x → d.frames ≡ due_frames c x ++ fs → d.frames ≡ due_frames c due ++ fs
  split_at x fs e is = is ∙ ap (λ y. due_frames c y ++ fs) (sym e)

  module _ (e : Decoding) (n : Node) (laws : IsConvention c.convention) (plain : IsPlain n) (root : e.shape ≡ d.shape) where
    comes_by : (x : Due) (fs : List Frame) (y : Arrival) → due ≡ x → d.frames ≡ due_frames c x ++ fs → IsShallow x
        → IsArrival (null_where x n) (read_where c x n) y → TakenBy c.table c.test y fs e → Holds c (after_value n b) e
    comes_by x fs y is frames shallow arrives taken =
        tree_comes c d e n y laws shaped inside root b fs awaits h (split_at x fs is frames) (subst IsShallow (sym is) shallow)
        (subst (λ w. IsArrival (null_where w n) (read_where c w n) y) (sym is) arrives) taken

    passed_by : (depth : ℕ) (report : Option FaultKind) → due ≡ due_passed depth report
        → PassedBy c.table c.test depth report (below d.frames) e → Holds c (after_value n b) e
    passed_by zero None is by =
        let at = at_due (due_passed 0 None) is in
        let rest = below_is (skip_frame 0 None) d.frames at.rest at.frames in
        silent_passes c d e n root by.0 b at.rest awaits h is (split_at (due_passed 0 None) at.rest is at.frames) (by.1 ∙ rest)
    passed_by zero (Some kind) is by =
        let at = at_due (due_passed 0 (Some kind)) is in
        let rest = below_is (skip_frame 0 (Some kind)) d.frames at.rest at.frames in
        comes_by (due_passed 0 (Some kind)) at.rest (fault_comes ([], kind)) is at.frames tt (refl, ([], refl))
        (subst (λ fs. TakenBy c.table c.test (fault_comes ([], kind)) fs e) rest by)
    passed_by (suc depth) report is by =
        let at = at_due (due_passed (suc depth) report) is in
        let rest = below_is (skip_frame (suc depth) report) d.frames at.rest at.frames in
        same_holds c d e (after_value n b) root
        (by.1 ∙ ap (λ fs. skip_frame (suc depth) report ∷ fs) rest ∙ sym at.frames) (by.0 ∙ sym stand.none)
        (deep_passes c d n b depth report awaits h is)

    leaf_by_told : (t : Told) → Tells t due → LeafBy c.table c.convention c.test t n d.frames e → Holds c (after_value n b) e
    leaf_by_told (told_at p) is by =
        comes_by (due_at p) d.frames by.0 is refl tt
        (subst (λ r. IsArrival (is_null n) r by.0) (sym (plain_read c p n plain)) by.1) by.2
    leaf_by_told (told_tagged p k) is by =
        let at = at_due (due_tagged p is.0 k) is.1 in
        let rest = below_is (tagged_frame (shape_of c.table p) k) d.frames at.rest at.frames in
        comes_by (due_tagged p is.0 k) at.rest by.0 is.1 at.frames tt by.1 (subst (λ fs. TakenBy c.table c.test by.0 fs e) rest by.2)
    leaf_by_told (told_passed depth report) is by = passed_by depth report is by

    pub leaf_holds : LeafBy c.table c.convention c.test told n d.frames e → Holds c (after_value n b) e
    leaf_holds by = leaf_by_told told tells by

  module _ (e : Decoding) (root : e.shape ≡ d.shape) (same : e.result ≡ d.result) where
    -- a tag
    module _ (k : ℕ) where
      tag_by : (t : Told) → Tells t due → TagBy c.table c.convention t k d.frames e.frames → Tags c d k due e
      tag_by (told_at p) is by =
          subst (λ x. Tags c d k x e) (sym is)
          (λ fs at. by ∙ ap (λ xs. tag_frame (sort_at c p) (shape_of c.table p) k ∷ xs) at
          ∙ ap (λ xs. xs ++ fs) (sym (tag_frames c p k (sort_at c p))))
      tag_by (told_tagged p j) is by =
          let sort : sort_at c p ≡ simple is.0 = subst (IsSimpleDue c) is.1 (simple_next c d.shape b) in
          subst (λ x. Tags c d k x e) (sym is.1)
          (λ fs at. by ∙ ap (λ kind. skip_frame 0 (Some kind) ∷ below d.frames) (nested_is c p j (sort_at c p) is.0 sort)
          ∙ ap (λ xs. skip_frame 0 (Some (nested_fault c.convention is.0 j)) ∷ xs)
          (below_is (tagged_frame (shape_of c.table p) j) d.frames fs at))
      tag_by (told_passed depth report) is by = subst (λ x. Tags c d k x e) (sym is) (λ fs at. by ∙ at)

      pub tag_moves : TagBy c.table c.convention told k d.frames e.frames → Holds c (after_tag k b) e
      tag_moves by = tag_holds c d e k b awaits root same (tag_by told tells by) h

    -- an opener
    start_by : (start : Sort → ℕ → Frame) (by_sort : Sort → Place → Opened) (l : Level)
        → ((p : Place) → e.frames ≡ start (sort_at c p) (shape_of c.table p) ∷ d.frames
        → Starts c d e l (due_at p) (by_sort (sort_at c p) p))
        → (t : Told) → Tells t due → StartBy start c.table c.convention t d.frames e.frames
        → Starts c d e l due (opened_where c by_sort due)
    start_by start by_sort l at_place (told_at p) is by = subst (λ x. Starts c d e l x (opened_where c by_sort x)) (sym is) (at_place p by)
    start_by start by_sort l at_place (told_tagged p j) is by =
        let sort : sort_at c p ≡ simple is.0 = subst (IsSimpleDue c) is.1 (simple_next c d.shape b) in
        subst (λ x. Starts c d e l x (opened_where c by_sort x)) (sym is.1)
        (λ fs at. by ∙ ap (λ kind. skip_frame 1 (Some kind) ∷ below d.frames) (nested_is c p j (sort_at c p) is.0 sort)
        ∙ ap (λ xs. skip_frame 1 (Some (nested_fault c.convention is.0 j)) ∷ xs)
        (below_is (tagged_frame (shape_of c.table p) j) d.frames fs at))
    start_by start by_sort l at_place (told_passed depth report) is by =
        subst (λ x. Starts c d e l x (opened_where c by_sort x)) (sym is)
        (λ fs at. by ∙ ap (λ xs. skip_frame (suc depth) report ∷ xs) (below_is (skip_frame depth report) d.frames fs at))

    pub list_moves : StartBy list_start c.table c.convention told d.frames e.frames → Holds c (after_start (in_list [] []) b) e
    list_moves by =
        start_holds c d e (in_list [] []) b awaits (refl, refl) root same
        (start_by list_start list_by_sort (list_level [] []) (λ p now. list_opens c d e p (sort_at c p) refl now) told tells by) h

    pub object_moves : StartBy object_start c.table c.convention told d.frames e.frames → Holds c (after_start (in_object []) b) e
    object_moves by =
        start_holds c d e (in_object []) b awaits refl root same
        (start_by object_start object_by_sort (object_level []) (λ p now. object_opens c d e p (sort_at c p) refl now) told tells by) h
