-- A tree that is closed in what is passed over: of a name that finds no member nothing is told, and within a list or an object that is passed
-- over nothing changes.
use Rattle.std.proofs.Common.{◌≡◌, ℕ, zero, suc, true, List, [], ◌∷◌, ◌++◌, map, refl, sym, ◌∙◌, subst, arith}
use Rattle.std.proofs.lemmas.List.{append_cancel_left}
use Rattle.std.specs.Prelude.{Option, Some, None}
use Rattle.sm_tree.specs.Node.{Node}
use Rattle.sm_tree.specs.Building.{Building, nothing, whole, within, Inner, Around, awaits_value}
use Rattle.sm_tree.specs.steps.BuilderSteps.{after_value, with_tree}
use Rattle.sm_shapes.specs.Places.{Place, root_place, entry_place, value_place}
use Rattle.sm_shapes.specs.declared.fault.FaultKind.{FaultKind}
use Rattle.sm_codec.specs.Sorts.{Sort, simple, a_list, a_map, a_structure, a_union, left_out}
use Rattle.sm_codec.specs.Codec.{Codec, sort_at}
use Rattle.sm_codec.specs.Decoding.{Frame, structure_frame, union_frame, list_frame, map_frame, tagged_frame, skip_frame, Decoding}
use Rattle.sm_codec.specs.Walk.{Level, list_level, object_level, pair_level, Due, due_at, due_tagged, due_passed, due_nowhere, Opened}
use Rattle.sm_codec.specs.Walk.{opened_at, opened_passed, inner_level, around_level, opened, tagged_by, behind_tag, behind_tags}
use Rattle.sm_codec.specs.Walk.{behind_name, due_member, due_within, due_in, kept_levels, member_at}
use Rattle.sm_codec.specs.Kept.{due_frames, FrameHolds, Holds}
use Rattle.sm_codec.specs.steps.Arrivals.{level_with}
use Rattle.sm_codec.specs.steps.Standing.{StandsIn, AwaitsTree}
use Rattle.sm_codec.proofs.Closing.{structure_passes}
use Rattle.sm_codec.proofs.Stepping.{due_next, tree_passed, tree_taken}
use Rattle.sm_codec.proofs.TreeDue.{IsShallow, IsDeep, deep_opened, shallow_tags, shallow_within}
use Rattle.sm_codec.proofs.UnionClosing.{union_passes}
use Rattle.sm_codec.proofs.Walking.{in_frame, level_awaits}

-- tags lead to no silence
abbrev Tells : Due → Type 0
Tells (due_at p) = Unit {0}
Tells (due_tagged p x k) = Unit {0}
Tells (due_passed depth None) = ⊥
Tells (due_passed depth (Some kind)) = Unit {0}
Tells due_nowhere = ⊥

tells_tagged : (p : Place) (k : ℕ) (s : Sort) → Tells (tagged_by s p k)
tells_tagged p k (simple x) = tt
tells_tagged p k a_list = tt
tells_tagged p k a_map = tt
tells_tagged p k a_structure = tt
tells_tagged p k a_union = tt
tells_tagged p k left_out = tt

tells_tag : (c : Codec) (due : Due) (k : ℕ) → Tells due → Tells (behind_tag c due k)
tells_tag c (due_at p) k h = tells_tagged p k (sort_at c p)
tells_tag c (due_tagged p x j) k h = tt
tells_tag c (due_passed depth None) k h = absurd h
tells_tag c (due_passed depth (Some kind)) k h = tt
tells_tag c due_nowhere k h = absurd h

tells_tags : (c : Codec) (due : Due) (ks : List ℕ) → Tells due → Tells (behind_tags c due ks)
tells_tags c due [] h = h
tells_tags c due (k ∷ ks) h = tells_tags c (behind_tag c due k) ks (tells_tag c due k h)

-- silence comes of a name that finds no member
no_member : (c : Codec) (ts : List ℕ) (o : Option ℕ) → (Tells (behind_tags c (due_member o) ts) → ⊥) → o ≡ None
no_member c ts None h = refl
no_member c ts (Some k) h = absurd (h (tells_tags c (due_member (Some k)) ts tt))

name_silent : (c : Codec) (p : Place) (name : List ℕ) (ts : List ℕ) (s : Sort) → (Tells (behind_tags c (behind_name s c p name) ts) → ⊥)
    → member_at c p name ≡ None
name_silent c p name ts (simple x) h = no_member c ts (member_at c p name) h
name_silent c p name ts a_list h = no_member c ts (member_at c p name) h
name_silent c p name ts a_map h = absurd (h (tells_tags c (due_at (value_place c.table p)) ts tt))
name_silent c p name ts a_structure h = no_member c ts (member_at c p name) h
name_silent c p name ts a_union h = no_member c ts (member_at c p name) h
name_silent c p name ts left_out h = no_member c ts (member_at c p name) h

map_tells : (c : Codec) (p : Place) (name : List ℕ) (ts : List ℕ) (s : Sort) → s ≡ a_map → Tells (behind_tags c (behind_name s c p name) ts)
map_tells c p name ts s e =
    subst (λ x. Tells (behind_tags c (behind_name x c p name) ts)) (sym e) (tells_tags c (due_at (value_place c.table p)) ts tt)

-- the frame of the level stays as it is
pub frame_passes : (c : Codec) (p : Place) (l : Level) (n : Node) (f : Frame) → AwaitsTree l → (Tells (due_within c (opened_at p) l) → ⊥)
    → FrameHolds c p l f → FrameHolds c p (level_with n l) f
frame_passes c p (list_level ns us) n f awaits quiet h = absurd (quiet (tells_tags c (due_at (entry_place c.table p)) us tt))
frame_passes c p (object_level ms) n f awaits quiet h = absurd awaits
frame_passes c p (pair_level ms name us) n (structure_frame f) awaits quiet h =
    structure_passes c p ms name us n f (name_silent c p name us (sort_at c p) quiet) h
frame_passes c p (pair_level ms name us) n (union_frame f) awaits quiet h =
    union_passes c p ms name us n f (name_silent c p name us (sort_at c p) quiet) h
frame_passes c p (pair_level ms name us) n (map_frame f) awaits quiet h = absurd (quiet (map_tells c p name us (sort_at c p) h.0))
frame_passes c p (pair_level ms name us) n (list_frame f) awaits quiet h = absurd h
frame_passes c p (pair_level ms name us) n (tagged_frame s k) awaits quiet h = absurd h
frame_passes c p (pair_level ms name us) n (skip_frame depth report) awaits quiet h = absurd h

pub quiet_due : (due : Due) (depth : ℕ) → due ≡ due_passed depth None → Tells due → ⊥
quiet_due due depth e h = subst Tells e h

shallow_due : (due : Due) (depth : ℕ) (report : Option FaultKind) → due ≡ due_passed (suc depth) report → IsShallow due → ⊥
shallow_due due depth report e h = subst IsShallow e h

module _ (c : Codec) (d e : Decoding) (n : Node) (root : e.shape ≡ d.shape) (none : e.result ≡ None) where
  module _ (ts : List ℕ) (i : Inner) (outer : List Around) (awaits : AwaitsTree (inner_level i)) where
    abbrev around : List (Place × Level)
    around = kept_levels c d.shape ts (map around_level outer)

    abbrev due_around : Due
    due_around = due_in c d.shape ts (map around_level outer)

    -- the tree of a name that finds no member
    silent_by : (o : Opened) (fs : List Frame) → opened c (inner_level i) due_around ≡ o → IsDeep o → StandsIn c o (inner_level i) around d
        → due_within c o (inner_level i) ≡ due_passed 0 None → d.frames ≡ due_frames c (due_within c o (inner_level i)) ++ fs
        → e.frames ≡ fs → Holds c (within ts (with_tree n i) outer) e
    silent_by (opened_at p) fs at deep h due frames now =
        let stand = in_frame c p (inner_level i) around d h in
        let same = append_cancel_left (due_frames c (due_within c (opened_at p) (inner_level i))) fs (stand.0 ∷ stand.1)
        (sym frames ∙ stand.2) in
        tree_taken c d e n ts i outer p stand.0 stand.1 at root none (now ∙ same)
        (frame_passes c p (inner_level i) n stand.0 awaits (quiet_due (due_within c (opened_at p) (inner_level i)) 0 due) stand.3) stand.4
    silent_by (opened_passed zero report) fs at deep h due frames now = absurd deep
    silent_by (opened_passed (suc depth) report) fs at deep h due frames now = absurd (two_depths due)
      where
        two_depths : due_passed (suc depth) report ≡ due_passed 0 None → ⊥
        two_depths k = let bad : suc depth ≡ 0 = cc in absurd (omega (arith, bad))

  pub silent_passes : (b : Building) (fs : List Frame) → awaits_value b ≡ true → Holds c b d → due_next c d.shape b ≡ due_passed 0 None
      → d.frames ≡ due_frames c (due_next c d.shape b) ++ fs → e.frames ≡ fs → Holds c (after_value n b) e
  silent_passes (nothing ts) fs awaits h due frames now =
      absurd (quiet_due (due_in c d.shape ts []) 0 due (tells_tags c (due_at (root_place d.shape)) ts tt))
  silent_passes (whole m) fs awaits h due frames now = absurd cc
  silent_passes (within ts i outer) fs awaits h due frames now =
      silent_by ts i outer (level_awaits i awaits) (opened c (inner_level i) (due_in c d.shape ts (map around_level outer))) fs refl
      (deep_opened c (inner_level i) (due_in c d.shape ts (map around_level outer))) h due frames now

module _ (c : Codec) (d : Decoding) (n : Node) where
  -- a tree within what is passed over
  deep_by : (ts : List ℕ) (i : Inner) (outer : List Around) → AwaitsTree (inner_level i)
      → (o : Opened) (depth : ℕ) (report : Option FaultKind)
      → opened c (inner_level i) (due_in c d.shape ts (map around_level outer)) ≡ o
      → due_within c o (inner_level i) ≡ due_passed (suc depth) report → Holds c (within ts i outer) d
      → Holds c (within ts (with_tree n i) outer) d
  deep_by ts i outer awaits (opened_at p) depth report at due h =
      absurd (shallow_due (due_within c (opened_at p) (inner_level i)) depth report due (shallow_within c p (inner_level i) awaits))
  deep_by ts i outer awaits (opened_passed k r) depth report at due h = tree_passed c d n ts i outer k r at h

  pub deep_passes : (b : Building) (depth : ℕ) (report : Option FaultKind) → awaits_value b ≡ true → Holds c b d
      → due_next c d.shape b ≡ due_passed (suc depth) report → Holds c (after_value n b) d
  deep_passes (nothing ts) depth report awaits h due =
      absurd (shallow_due (due_in c d.shape ts []) depth report due (shallow_tags c (due_at (root_place d.shape)) ts tt))
  deep_passes (whole m) depth report awaits h due = absurd cc
  deep_passes (within ts i outer) depth report awaits h due =
      deep_by ts i outer (level_awaits i awaits) (opened c (inner_level i) (due_in c d.shape ts (map around_level outer))) depth report
      refl due h

-- the root's shape, the frames and the outcome are all that a decoder holds
same_decoding : (d e : Decoding) → e.shape ≡ d.shape → e.frames ≡ d.frames → e.result ≡ d.result → e ≡ d
same_decoding d e a b r = λ i. record { shape = a i; frames = b i; result = r i }

pub same_holds : (c : Codec) (d e : Decoding) (b : Building) → e.shape ≡ d.shape → e.frames ≡ d.frames → e.result ≡ d.result → Holds c b d
    → Holds c b e
same_holds c d e b a f r h = subst (λ x. Holds c b x) (sym (same_decoding d e a f r)) h
