-- What an event changes in where the events stand: the innermost level alone, and an opener and an end one more and one less.
use Rattle.std.proofs.Common.{◌≡◌, ℕ, true, List, [], ◌∷◌, ◌++◌, refl, sym, ap, ◌∙◌}
use Rattle.std.specs.Prelude.{Option, None}
use Rattle.sm_tree.specs.Node.{Node}
use Rattle.sm_tree.specs.Building.{Inner, in_list, in_object, in_pair, Around, around_list}
use Rattle.sm_tree.specs.Building.{around_object, inner_awaits}
use Rattle.sm_tree.specs.steps.BuilderSteps.{with_tree, with_tag, put_around, back_inside}
use Rattle.sm_shapes.specs.Places.{Place, entry_place}
use Rattle.sm_shapes.specs.declared.fault.FaultKind.{FaultKind}
use Rattle.sm_codec.specs.Sorts.{Sort, simple, a_list, a_map, a_structure, a_union, left_out}
use Rattle.sm_codec.specs.Codec.{Codec, sort_at}
use Rattle.sm_codec.specs.Decoding.{Frame, Decoding}
use Rattle.sm_codec.specs.Walk.{Level, list_level, object_level, pair_level, Due, due_at, due_tagged, due_passed, due_nowhere, Opened}
use Rattle.sm_codec.specs.Walk.{opened_at, opened_passed, inner_level, around_level, behind_tag, behind_name, list_by_sort}
use Rattle.sm_codec.specs.Walk.{object_by_sort, opened, opened_where, due_within, with_level}
use Rattle.sm_codec.specs.Kept.{due_frames, FrameHolds, FramesHold}
use Rattle.sm_codec.specs.steps.Arrivals.{level_with, level_tagged}
use Rattle.sm_codec.specs.steps.Standing.{StandsIn, AwaitsTree}
use Rattle.sm_codec.proofs.Arriving.{behind_more}

-- the levels of a builder's parts
pub level_of_tree : (n : Node) (i : Inner) → inner_level (with_tree n i) ≡ level_with n (inner_level i)
level_of_tree n (in_list ns ts) = refl
level_of_tree n (in_object ms) = refl
level_of_tree n (in_pair ms name ts) = refl

pub level_of_tag : (k : ℕ) (i : Inner) → inner_level (with_tag k i) ≡ level_tagged k (inner_level i)
level_of_tag k (in_list ns ts) = refl
level_of_tag k (in_object ms) = refl
level_of_tag k (in_pair ms name ts) = refl

pub level_around : (i : Inner) → inner_awaits i ≡ true → around_level (put_around i) ≡ inner_level i
level_around (in_list ns ts) h = refl
level_around (in_object ms) h = absurd cc
level_around (in_pair ms name ts) h = refl

pub level_inside : (a : Around) → inner_level (back_inside a) ≡ around_level a
level_inside (around_list ns ts) = refl
level_inside (around_object ms name ts) = refl

pub level_awaits : (i : Inner) → inner_awaits i ≡ true → AwaitsTree (inner_level i)
level_awaits (in_list ns ts) h = tt
level_awaits (in_object ms) h = absurd cc
level_awaits (in_pair ms name ts) h = tt

-- how a level opened is told by its kind alone
pub opened_tagged : (c : Codec) (k : ℕ) (l : Level) (due : Due) → opened c (level_tagged k l) due ≡ opened c l due
opened_tagged c k (list_level ns ts) due = refl
opened_tagged c k (object_level ms) due = refl
opened_tagged c k (pair_level ms name ts) due = refl

pub opened_with : (c : Codec) (n : Node) (l : Level) (due : Due) → opened c (level_with n l) due ≡ opened c l due
opened_with c n (list_level ns ts) due = refl
opened_with c n (object_level ms) due = refl
opened_with c n (pair_level ms name ts) due = refl

-- a tag in a level
pub due_tag : (c : Codec) (o : Opened) (l : Level) (k : ℕ) → AwaitsTree l
    → due_within c o (level_tagged k l) ≡ behind_tag c (due_within c o l) k
due_tag c (opened_at p) (list_level ns ts) k h = behind_more c (due_at (entry_place c.table p)) ts k
due_tag c (opened_at p) (object_level ms) k h = absurd h
due_tag c (opened_at p) (pair_level ms name ts) k h = behind_more c (behind_name (sort_at c p) c p name) ts k
due_tag c (opened_passed depth report) l k h = refl

-- no frame of a level knows its tags
pub frame_tagged : (c : Codec) (p : Place) (l : Level) (k : ℕ) (f : Frame) → FrameHolds c p l f → FrameHolds c p (level_tagged k l) f
frame_tagged c p (list_level ns ts) k f h = h
frame_tagged c p (object_level ms) k f h = h
frame_tagged c p (pair_level ms name ts) k f h = h

pub frames_tagged : (c : Codec) (o : Opened) (l : Level) (k : ℕ) (around : List (Place × Level)) (fs : List Frame)
    → FramesHold c (with_level o l around) fs → FramesHold c (with_level o (level_tagged k l) around) fs
frames_tagged c (opened_at p) l k around [] h = absurd h
frames_tagged c (opened_at p) l k around (f ∷ fs) h = (frame_tagged c p l k f h.0, h.1)
frames_tagged c (opened_passed depth report) l k around fs h = h

-- behind a tree no frame is due
pub none_due : (c : Codec) (p : Place) (l : Level) (n : Node) → due_frames c (due_within c (opened_at p) (level_with n l)) ≡ []
none_due c p (list_level ns ts) n = refl
none_due c p (object_level ms) n = refl
none_due c p (pair_level ms name ts) n = refl

-- the frame of the innermost level, where it is kept
abbrev pub InFrame : Codec → Place → Level → List (Place × Level) → Decoding → Type 0
InFrame c p l around d =
    (f : Frame) × (fs : List Frame) × (d.frames ≡ due_frames c (due_within c (opened_at p) l) ++ f ∷ fs) × FrameHolds c p l f
    × FramesHold c around fs

frame_of : (c : Codec) (p : Place) (l : Level) (around : List (Place × Level)) (d : Decoding) (fs : List Frame)
    → d.frames ≡ due_frames c (due_within c (opened_at p) l) ++ fs → FramesHold c ((p, l) ∷ around) fs → InFrame c p l around d
frame_of c p l around d [] e h = absurd h
frame_of c p l around d (f ∷ fs) e h = (f, fs, e, h.0, h.1)

pub in_frame : (c : Codec) (p : Place) (l : Level) (around : List (Place × Level)) (d : Decoding) → StandsIn c (opened_at p) l around d
    → InFrame c p l around d
in_frame c p l around d h = frame_of c p l around d h.1.0 h.1.1 h.1.2

-- a tree that the frame took
pub frame_took : (c : Codec) (p : Place) (l : Level) (n : Node) (around : List (Place × Level)) (d : Decoding) (g : Frame) (fs : List Frame)
    → d.result ≡ None → d.frames ≡ g ∷ fs → FrameHolds c p (level_with n l) g → FramesHold c around fs
    → StandsIn c (opened_at p) (level_with n l) around d
frame_took c p l n around d g fs none e holds rest =
    (none, (g ∷ fs, e ∙ ap (λ xs. xs ++ g ∷ fs) (sym (none_due c p l n)), (holds, rest)))

-- in what is passed over a tree changes nothing
pub passed_with : (c : Codec) (depth : ℕ) (report : Option FaultKind) (l : Level) (n : Node) (around : List (Place × Level)) (d : Decoding)
    → StandsIn c (opened_passed depth report) l around d → StandsIn c (opened_passed depth report) (level_with n l) around d
passed_with c depth report l n around d h = h

-- a level is kept only where a place of its sort is due
list_sort : (s : Sort) (q p : Place) → list_by_sort s q ≡ opened_at p → (q ≡ p) × (s ≡ a_list)
list_sort (simple x) q p e = absurd cc
list_sort a_list q p e = let same : q ≡ p = cc in (same, refl)
list_sort a_map q p e = absurd cc
list_sort a_structure q p e = absurd cc
list_sort a_union q p e = absurd cc
list_sort left_out q p e = absurd cc

object_sort : (s : Sort) (q p : Place) → object_by_sort s q ≡ opened_at p → q ≡ p
object_sort (simple x) q p e = absurd cc
object_sort a_list q p e = absurd cc
object_sort a_map q p e = cc
object_sort a_structure q p e = cc
object_sort a_union q p e = cc
object_sort left_out q p e = absurd cc

list_opens : (c : Codec) (due : Due) (p : Place) → opened_where c list_by_sort due ≡ opened_at p → due ≡ due_at p
list_opens c (due_at q) p e = ap due_at (list_sort (sort_at c q) q p e).0
list_opens c (due_tagged q x k) p e = absurd cc
list_opens c (due_passed depth report) p e = absurd cc
list_opens c due_nowhere p e = absurd cc

object_opens : (c : Codec) (due : Due) (p : Place) → opened_where c object_by_sort due ≡ opened_at p → due ≡ due_at p
object_opens c (due_at q) p e = ap due_at (object_sort (sort_at c q) q p e)
object_opens c (due_tagged q x k) p e = absurd cc
object_opens c (due_passed depth report) p e = absurd cc
object_opens c due_nowhere p e = absurd cc

pub opens_at : (c : Codec) (l : Level) (due : Due) (p : Place) → opened c l due ≡ opened_at p → due ≡ due_at p
opens_at c (list_level ns ts) due p h = list_opens c due p h
opens_at c (object_level ms) due p h = object_opens c due p h
opens_at c (pair_level ms name ts) due p h = object_opens c due p h
