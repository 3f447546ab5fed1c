-- What the frames of a decoder tell where a tree may come: where it is due, and that the innermost of the frames below can take it.
use Rattle.std.proofs.Common.{◌≡◌, ℕ, zero, suc, ◌<◌, true, List, [], ◌∷◌, ◌++◌, map, refl, sym, ap, ◌∙◌, subst}
use Rattle.std.specs.Prelude.{Option, Some, None, unwrap_or}
use Rattle.sm_tree.specs.Node.{Node}
use Rattle.sm_tree.specs.Building.{Building, nothing, whole, within, awaits_value}
use Rattle.sm_shapes.specs.TableData.{TableData, shape_count, kind_at}
use Rattle.sm_shapes.specs.InOrder.{Shaped}
use Rattle.sm_shapes.specs.Places.{Place, root_place, shape_of, entry_place}
use Rattle.sm_shapes.specs.declared.fault.FaultKind.{FaultKind}
use Rattle.sm_codec.specs.Sorts.{Sort, simple, a_list, a_map, a_structure, a_union, left_out}
use Rattle.sm_codec.specs.Codec.{Codec, sort_at, InTable}
use Rattle.sm_codec.specs.Readings.{Child, named_children_of}
use Rattle.sm_codec.specs.Decoding.{Frame, structure_frame, union_frame, list_frame, map_frame, tagged_frame, skip_frame, Decoding}
use Rattle.sm_codec.specs.Walk.{Level, list_level, object_level, pair_level, Due, due_at, due_tagged, due_passed, due_nowhere, Opened}
use Rattle.sm_codec.specs.Walk.{opened_at, opened_passed, inner_level, around_level, list_by_sort, object_by_sort, opened_where, opened}
use Rattle.sm_codec.specs.Walk.{tagged_by, behind_tag, behind_tags, behind_name, due_member, due_within, due_in, kept_levels, member_at}
use Rattle.sm_codec.specs.Kept.{due_frames, HoldsPairs, HoldsList, FrameHolds, FramesHold, HoldsOpen, Holds}
use Rattle.sm_codec.specs.steps.DecoderSteps.{place_among, told_at, due_told, Tells, HasMember, CanTake, FirstCanTake}
use Rattle.sm_codec.specs.steps.Standing.{StandsIn, AwaitsTree, IsDueAt}
use Rattle.sm_codec.proofs.Arriving.{passed_stays}
use Rattle.sm_codec.proofs.DuePlaces.{before_tags, place_known}
use Rattle.sm_codec.proofs.FieldsRising.{fields_rise}
use Rattle.sm_codec.proofs.PlacesHeld.{DueIn, due_held, place_in_table, member_in}
use Rattle.sm_codec.proofs.PlacesIn.{shape_in, kind_of_sort}
use Rattle.sm_codec.proofs.Stepping.{due_next}
use Rattle.sm_codec.proofs.Walking.{in_frame, level_awaits}

-- a tree is due, and what is passed over has just begun
abbrev pub IsShallow : Due → Type 0
IsShallow (due_at p) = Unit {0}
IsShallow (due_tagged p x k) = Unit {0}
IsShallow (due_passed zero report) = Unit {0}
IsShallow (due_passed (suc depth) report) = ⊥
IsShallow due_nowhere = ⊥

shallow_by : (p : Place) (k : ℕ) (s : Sort) → IsShallow (tagged_by s p k)
shallow_by p k (simple x) = tt
shallow_by p k a_list = tt
shallow_by p k a_map = tt
shallow_by p k a_structure = tt
shallow_by p k a_union = tt
shallow_by p k left_out = tt

shallow_tag : (c : Codec) (due : Due) (k : ℕ) → IsShallow due → IsShallow (behind_tag c due k)
shallow_tag c (due_at p) k h = shallow_by p k (sort_at c p)
shallow_tag c (due_tagged p x j) k h = tt
shallow_tag c (due_passed zero report) k h = tt
shallow_tag c (due_passed (suc depth) report) k h = absurd h
shallow_tag c due_nowhere k h = absurd h

pub shallow_tags : (c : Codec) (due : Due) (ks : List ℕ) → IsShallow due → IsShallow (behind_tags c due ks)
shallow_tags c due [] h = h
shallow_tags c due (k ∷ ks) h = shallow_tags c (behind_tag c due k) ks (shallow_tag c due k h)

shallow_member : (o : Option ℕ) → IsShallow (due_member o)
shallow_member None = tt
shallow_member (Some k) = tt

shallow_name : (c : Codec) (p : Place) (name : List ℕ) (s : Sort) → IsShallow (behind_name s c p name)
shallow_name c p name (simple x) = shallow_member (member_at c p name)
shallow_name c p name a_list = shallow_member (member_at c p name)
shallow_name c p name a_map = tt
shallow_name c p name a_structure = shallow_member (member_at c p name)
shallow_name c p name a_union = shallow_member (member_at c p name)
shallow_name c p name left_out = shallow_member (member_at c p name)

pub shallow_within : (c : Codec) (p : Place) (l : Level) → AwaitsTree l → IsShallow (due_within c (opened_at p) l)
shallow_within c p (list_level ns ts) h = shallow_tags c (due_at (entry_place c.table p)) ts tt
shallow_within c p (object_level ms) h = absurd h
shallow_within c p (pair_level ms name ts) h =
    shallow_tags c (behind_name (sort_at c p) c p name) ts (shallow_name c p name (sort_at c p))

-- a level that is passed over is one deep at least
abbrev pub IsDeep : Opened → Type 0
IsDeep (opened_at p) = Unit {0}
IsDeep (opened_passed zero report) = ⊥
IsDeep (opened_passed (suc depth) report) = Unit {0}

deep_list : (p : Place) (s : Sort) → IsDeep (list_by_sort s p)
deep_list p (simple x) = tt
deep_list p a_list = tt
deep_list p a_map = tt
deep_list p a_structure = tt
deep_list p a_union = tt
deep_list p left_out = tt

deep_object : (p : Place) (s : Sort) → IsDeep (object_by_sort s p)
deep_object p (simple x) = tt
deep_object p a_list = tt
deep_object p a_map = tt
deep_object p a_structure = tt
deep_object p a_union = tt
deep_object p left_out = tt

deep_where : (c : Codec) (by_sort : Sort → Place → Opened) (due : Due) → ((s : Sort) (p : Place) → IsDeep (by_sort s p))
    → IsDeep (opened_where c by_sort due)
deep_where c by_sort (due_at p) h = h (sort_at c p) p
deep_where c by_sort (due_tagged p x k) h = tt
deep_where c by_sort (due_passed depth report) h = tt
deep_where c by_sort due_nowhere h = tt

pub deep_opened : (c : Codec) (l : Level) (due : Due) → IsDeep (opened c l due)
deep_opened c (list_level ns ts) due = deep_where c list_by_sort due (λ s p. deep_list p s)
deep_opened c (object_level ms) due = deep_where c object_by_sort due (λ s p. deep_object p s)
deep_opened c (pair_level ms name ts) due = deep_where c object_by_sort due (λ s p. deep_object p s)

-- the frame of a level is one of a list or an object
abbrev IsKept : Frame → Type 0
IsKept (structure_frame f) = Unit {0}
IsKept (union_frame f) = Unit {0}
IsKept (list_frame f) = Unit {0}
IsKept (map_frame f) = Unit {0}
IsKept (tagged_frame s k) = ⊥
IsKept (skip_frame depth report) = ⊥

list_kept : (c : Codec) (p : Place) (ns : List Node) (f : Frame) → HoldsList c p ns f → IsKept f
list_kept c p ns (structure_frame f) h = tt
list_kept c p ns (union_frame f) h = tt
list_kept c p ns (list_frame f) h = tt
list_kept c p ns (map_frame f) h = tt
list_kept c p ns (tagged_frame s k) h = absurd h
list_kept c p ns (skip_frame depth report) h = absurd h

pairs_kept : (c : Codec) (p : Place) (ps : List (List ℕ × Child)) (name : Option (List ℕ)) (f : Frame) → HoldsPairs c p ps name f → IsKept f
pairs_kept c p ps name (structure_frame f) h = tt
pairs_kept c p ps name (union_frame f) h = tt
pairs_kept c p ps name (list_frame f) h = tt
pairs_kept c p ps name (map_frame f) h = tt
pairs_kept c p ps name (tagged_frame s k) h = absurd h
pairs_kept c p ps name (skip_frame depth report) h = absurd h

frame_kept : (c : Codec) (p : Place) (l : Level) (f : Frame) → FrameHolds c p l f → IsKept f
frame_kept c p (list_level ns ts) f h = list_kept c p ns f h
frame_kept c p (object_level ms) f h = pairs_kept c p (named_children_of c ms) None f h
frame_kept c p (pair_level ms name ts) f h = pairs_kept c p (named_children_of c ms) (Some name) f h

told_kept : (t : TableData) (s : ℕ) (f : Frame) (fs : List Frame) → IsKept f → due_told t s (f ∷ fs) ≡ told_at (place_among t s (f ∷ fs))
told_kept t s (structure_frame f) fs h = refl
told_kept t s (union_frame f) fs h = refl
told_kept t s (list_frame f) fs h = refl
told_kept t s (map_frame f) fs h = refl
told_kept t s (tagged_frame n k) fs h = absurd h
told_kept t s (skip_frame depth report) fs h = absurd h

pub told_below : (c : Codec) (kept : List (Place × Level)) (fs : List Frame) (s : ℕ) → FramesHold c kept fs
    → due_told c.table s fs ≡ told_at (place_among c.table s fs)
told_below c [] [] s h = refl
told_below c [] (f ∷ fs) s h = absurd h
told_below c (l ∷ ls) [] s h = absurd h
told_below c (l ∷ ls) (f ∷ fs) s h = told_kept c.table s f fs (frame_kept c l.0 l.1 f h.0)

-- what comes is told to a frame: a tree at a place, in tags or not, or the fault of what is passed over
abbrev pub IsLoud : Due → Type 0
IsLoud (due_at p) = Unit {0}
IsLoud (due_tagged p x k) = Unit {0}
IsLoud (due_passed zero (Some kind)) = Unit {0}
IsLoud (due_passed zero None) = ⊥
IsLoud (due_passed (suc depth) report) = ⊥
IsLoud due_nowhere = ⊥

silent : (c : Codec) (ts : List ℕ) → IsLoud (behind_tags c (due_passed 0 None) ts) → ⊥
silent c ts h = subst IsLoud (passed_stays c 0 None ts) h

member_loud : (c : Codec) (p : Place) (name : List ℕ) (ts : List ℕ) (o : Option ℕ) → Shaped c.table → InTable c.table p
    → member_at c p name ≡ o → IsLoud (behind_tags c (due_member o) ts) → HasMember c.table o
member_loud c p name ts None shaped inside e h = absurd (silent c ts h)
member_loud c p name ts (Some k) shaped inside e h = member_in c p name k shaped inside e

structure_loud : (c : Codec) (p : Place) (name : List ℕ) (ts : List ℕ) (s : Sort) → Shaped c.table → InTable c.table p → s ≡ a_structure
    → IsLoud (behind_tags c (behind_name s c p name) ts) → HasMember c.table (member_at c p name)
structure_loud c p name ts s shaped inside e h =
    member_loud c p name ts (member_at c p name) shaped inside refl
    (subst (λ x. IsLoud (behind_tags c (behind_name x c p name) ts)) e h)

union_loud : (c : Codec) (p : Place) (name : List ℕ) (ts : List ℕ) (s : Sort) → Shaped c.table → InTable c.table p → s ≡ a_union
    → IsLoud (behind_tags c (behind_name s c p name) ts) → HasMember c.table (member_at c p name)
union_loud c p name ts s shaped inside e h =
    member_loud c p name ts (member_at c p name) shaped inside refl
    (subst (λ x. IsLoud (behind_tags c (behind_name x c p name) ts)) e h)

module _ (c : Codec) (p : Place) (shaped : Shaped c.table) (inside : InTable c.table p) where
  shape_is : (s : ℕ) → s ≡ shape_of c.table p → s < shape_count c.table
  shape_is s e = subst (λ n. n < shape_count c.table) (sym e) (shape_in c.table p shaped inside)

  pub can_take : (l : Level) (f : Frame) → FrameHolds c p l f → AwaitsTree l → IsLoud (due_within c (opened_at p) l) → CanTake c.table f
  can_take (list_level ns ts) (list_frame f) h awaits loud = shape_is f.shape h.shape
  can_take (list_level ns ts) (structure_frame f) h awaits loud = absurd h
  can_take (list_level ns ts) (union_frame f) h awaits loud = absurd h
  can_take (list_level ns ts) (map_frame f) h awaits loud = absurd h
  can_take (list_level ns ts) (tagged_frame s k) h awaits loud = absurd h
  can_take (list_level ns ts) (skip_frame depth report) h awaits loud = absurd h
  can_take (object_level ms) f h awaits loud = absurd awaits
  can_take (pair_level ms name ts) (structure_frame f) h awaits loud = (
    shape_is f.shape h.1.shape,
    fields_rise c p (named_children_of c ms) (Some name) f shaped inside h,
    subst (HasMember c.table) (sym h.1.current) (structure_loud c p name ts (sort_at c p) shaped inside h.0 loud),
  )
  can_take (pair_level ms name ts) (union_frame f) h awaits loud = (
    shape_is f.shape h.1.shape,
    subst (HasMember c.table) (sym h.1.current) (union_loud c p name ts (sort_at c p) shaped inside h.0 loud),
  )
  can_take (pair_level ms name ts) (map_frame f) h awaits loud = (
    shape_is f.shape h.1.shape,
    ap (kind_at c.table) h.1.shape ∙ kind_of_sort c.table p a_map h.0,
  )
  can_take (pair_level ms name ts) (list_frame f) h awaits loud = absurd h
  can_take (pair_level ms name ts) (tagged_frame s k) h awaits loud = absurd h
  can_take (pair_level ms name ts) (skip_frame depth report) h awaits loud = absurd h

-- where a tree may come
abbrev pub NotNowhere : Due → Type 0
NotNowhere (due_at p) = Unit {0}
NotNowhere (due_tagged p x k) = Unit {0}
NotNowhere (due_passed depth report) = Unit {0}
NotNowhere due_nowhere = ⊥

somewhere : (due : Due) → IsShallow due → NotNowhere due
somewhere (due_at p) h = tt
somewhere (due_tagged p x k) h = tt
somewhere (due_passed depth report) h = tt
somewhere due_nowhere h = h

pub record TreeDue (c : Codec) (d : Decoding) (due : Due) : Type 0 where
  -- the frames below those of what is due
  pub rest : List Frame
  pub frames : d.frames ≡ due_frames c due ++ rest
  pub none : d.result ≡ None
  pub place : (q : Place) → IsDueAt q due → place_among c.table d.shape rest ≡ q
  pub told : due_told c.table d.shape rest ≡ told_at (place_among c.table d.shape rest)
  pub can : IsLoud due → FirstCanTake c.table rest
  pub due_is : NotNowhere due
  pub inside : DueIn c.table due

no_place : (q : Place) (depth : ℕ) (report : Option FaultKind) → IsDueAt q (due_passed depth report) → ⊥
no_place q depth report h = h

deep_silent : (o : Opened) (l : Level) (c : Codec) (depth : ℕ) (report : Option FaultKind) → o ≡ opened_passed depth report → IsDeep o
    → IsLoud (due_passed depth report) → ⊥
deep_silent o l c zero report e deep loud = subst IsDeep e deep
deep_silent o l c (suc depth) report e deep loud = loud

at_root : (c : Codec) (d : Decoding) (ts : List ℕ) → Shaped c.table → InTable c.table (root_place d.shape) → HoldsOpen c ts [] d
    → TreeDue c d (due_in c d.shape ts [])
at_root c d ts shaped inside h =
    let no_frames : h.1.0 ≡ [] = none_left h.1.0 h.1.2 in
    record {
      rest = [];
      frames = h.1.1 ∙ ap (λ fs. due_frames c (due_in c d.shape ts []) ++ fs) no_frames;
      none = h.0;
      place = λ q due. before_tags c q (due_at (root_place d.shape)) ts due;
      told = refl;
      can = λ loud. tt;
      due_is = somewhere (due_in c d.shape ts []) (shallow_tags c (due_at (root_place d.shape)) ts tt);
      inside = due_held c d.shape ts [] shaped inside;
    }
  where
    none_left : (fs : List Frame) → FramesHold c [] fs → fs ≡ []
    none_left [] i = refl
    none_left (f ∷ fs) i = absurd i

module _ (c : Codec) (d : Decoding) (ts : List ℕ) (l : Level) (outer : List Level) (shaped : Shaped c.table)
    (inside : InTable c.table (root_place d.shape)) (awaits : AwaitsTree l) where
  abbrev due_around : Due
  due_around = due_in c d.shape ts outer

  in_level : (o : Opened) → opened c l due_around ≡ o → StandsIn c o l (kept_levels c d.shape ts outer) d → TreeDue c d (due_within c o l)
  in_level (opened_at p) e h =
      let stand = in_frame c p l (kept_levels c d.shape ts outer) d h in
      let f = stand.0 in
      let here = place_in_table c l due_around p (due_held c d.shape ts outer shaped inside) e in
      let dues = due_held c d.shape ts (l ∷ outer) shaped inside in
      record {
        rest = f ∷ stand.1;
        frames = stand.2;
        none = h.0;
        place = λ q due. ap (λ o. unwrap_or o (root_place d.shape)) (place_known c p q l f stand.3 due);
        told = told_kept c.table d.shape f stand.1 (frame_kept c p l f stand.3);
        can = λ loud. can_take c p shaped here l f stand.3 awaits loud;
        due_is = somewhere (due_within c (opened_at p) l) (shallow_within c p l awaits);
        inside = subst (λ o. DueIn c.table (due_within c o l)) e dues;
      }
  in_level (opened_passed depth report) e h =
      record {
        rest = h.1.0;
        frames = h.1.1;
        none = h.0;
        place = λ q due. absurd due;
        told = told_below c (kept_levels c d.shape ts outer) h.1.0 d.shape h.1.2;
        can = λ loud. absurd (deep_silent (opened c l due_around) l c depth report e (deep_opened c l due_around) loud);
        due_is = tt;
        inside = tt;
      }

  pub in_open : HoldsOpen c ts (l ∷ outer) d → TreeDue c d (due_in c d.shape ts (l ∷ outer))
  in_open h = in_level (opened c l due_around) refl h

pub tree_due : (c : Codec) (d : Decoding) (b : Building) → Shaped c.table → InTable c.table (root_place d.shape) → awaits_value b ≡ true
    → Holds c b d → TreeDue c d (due_next c d.shape b)
tree_due c d (nothing ts) shaped inside awaits h = at_root c d ts shaped inside h
tree_due c d (whole n) shaped inside awaits h = absurd cc
tree_due c d (within ts i outer) shaped inside awaits h =
    in_open c d ts (inner_level i) (map around_level outer) shaped inside (level_awaits i awaits) h

-- what the frames tell is where the tree is due
tells_by : (c : Codec) (d : Decoding) (due : Due) (s : TreeDue c d due) → Tells (due_told c.table d.shape (due_frames c due ++ s.rest)) due
tells_by c d (due_at p) s = subst (λ x. Tells x (due_at p)) (sym s.told) (ap (λ q. due_at q) (sym (s.place p refl)))
tells_by c d (due_tagged p x k) s = (x, ap (λ q. due_tagged q x k) (sym (s.place p refl)))
tells_by c d (due_passed depth report) s = refl
tells_by c d due_nowhere s = absurd s.due_is

pub due_tells : (c : Codec) (d : Decoding) (due : Due) → TreeDue c d due → Tells (due_told c.table d.shape d.frames) due
due_tells c d due s = subst (λ fs. Tells (due_told c.table d.shape fs) due) (sym s.frames) (tells_by c d due s)
