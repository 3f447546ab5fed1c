-- What a decoder holds behind an event, by what it held before: a tag, a tree that is closed in a level, and an opener.
use Rattle.std.proofs.Common.{◌≡◌, ℕ, true, List, [], ◌∷◌, ◌++◌, map, sym, ◌∙◌, subst}
use Rattle.std.specs.Prelude.{Option, None}
use Rattle.sm_tree.specs.Node.{Node}
use Rattle.sm_tree.specs.Building.{Building, nothing, whole, within, Inner, Around, awaits_value}
use Rattle.sm_tree.specs.steps.BuilderSteps.{with_tree, after_tag}
use Rattle.sm_shapes.specs.Places.{Place, root_place}
use Rattle.sm_shapes.specs.declared.fault.FaultKind.{FaultKind}
use Rattle.sm_codec.specs.Codec.{Codec}
use Rattle.sm_codec.specs.Decoding.{Frame, Decoding}
use Rattle.sm_codec.specs.Walk.{Level, Due, due_at, opened_at, opened_passed, inner_level, around_level, behind_tag, opened, due_within}
use Rattle.sm_codec.specs.Walk.{due_in, with_level, kept_levels}
use Rattle.sm_codec.specs.Kept.{due_frames, FrameHolds, FramesHold, HoldsOpen, Holds}
use Rattle.sm_codec.specs.steps.Arrivals.{level_with, level_tagged}
use Rattle.sm_codec.specs.steps.Standing.{Stands, StandsIn, AwaitsTree}
use Rattle.sm_codec.proofs.Arriving.{behind_more}
use Rattle.sm_codec.proofs.Walking.{level_of_tree, level_of_tag, level_awaits, opened_tagged, opened_with, due_tag, frames_tagged}
use Rattle.sm_codec.proofs.Walking.{passed_with, frame_took}

-- the same with other frames, where the root's shape stays
abbrev pub with_frames : Decoding → List Frame → Decoding
with_frames d fs = record { shape = d.shape; frames = fs; result = d.result }

-- a tag in a level, and before the root
module _ (c : Codec) (d : Decoding) (k : ℕ) where
  -- the frames behind a tag, from those before it
  abbrev pub Tags : Due → Decoding → Type 0
  Tags due e = (fs : List Frame) → d.frames ≡ due_frames c due ++ fs → e.frames ≡ due_frames c (behind_tag c due k) ++ fs

  tag_stands : (due : Due) (kept now : List (Place × Level)) (e : Decoding) → e.result ≡ d.result → Tags due e
      → ((fs : List Frame) → FramesHold c kept fs → FramesHold c now fs) → Stands c due kept d → Stands c (behind_tag c due k) now e
  tag_stands due kept now e same tags carry h = (same ∙ h.0, (h.1.0, tags h.1.0 h.1.1, carry h.1.0 h.1.2))

  tag_in_level : (ts : List ℕ) (l : Level) (outer : List Level) (e : Decoding) → AwaitsTree l → e.shape ≡ d.shape → e.result ≡ d.result
      → Tags (due_in c d.shape ts (l ∷ outer)) e → HoldsOpen c ts (l ∷ outer) d → HoldsOpen c ts (level_tagged k l ∷ outer) e
  tag_in_level ts l outer e awaits root same tags h =
      let around = kept_levels c d.shape ts outer in
      let due = due_in c d.shape ts outer in
      let o = opened c l due in
      let stands = tag_stands (due_within c o l) (with_level o l around) (with_level o (level_tagged k l) around) e same tags
      (λ fs held. frames_tagged c o l k around fs held) h in
      let in_due = subst (λ x. Stands c x (with_level o (level_tagged k l) around) e) (sym (due_tag c o l k awaits)) stands in
      let in_level = subst (λ x. StandsIn c x (level_tagged k l) around e) (sym (opened_tagged c k l due)) in_due in
      subst (λ s. Stands c (due_in c s ts (level_tagged k l ∷ outer)) (kept_levels c s ts (level_tagged k l ∷ outer)) e) (sym root) in_level

  tag_at_root : (ts : List ℕ) (e : Decoding) → e.shape ≡ d.shape → e.result ≡ d.result → Tags (due_in c d.shape ts []) e
      → HoldsOpen c ts [] d → HoldsOpen c (ts ++ k ∷ []) [] e
  tag_at_root ts e root same tags h =
      let stands = tag_stands (due_in c d.shape ts []) [] [] e same tags (λ fs held. held) h in
      let in_due = subst (λ x. Stands c x [] e) (sym (behind_more c (due_at (root_place d.shape)) ts k)) stands in
      subst (λ s. Stands c (due_in c s (ts ++ k ∷ []) []) [] e) (sym root) in_due

-- where the next tree is due
abbrev pub due_next : Codec → ℕ → Building → Due
due_next c root (nothing ts) = due_in c root ts []
due_next c root (whole n) = due_at (root_place root)
due_next c root (within ts i outer) = due_in c root ts (inner_level i ∷ map around_level outer)

pub tag_holds : (c : Codec) (d e : Decoding) (k : ℕ) (b : Building) → awaits_value b ≡ true → e.shape ≡ d.shape → e.result ≡ d.result
    → Tags c d k (due_next c d.shape b) e → Holds c b d → Holds c (after_tag k b) e
tag_holds c d e k (nothing ts) awaits root same tags h = tag_at_root c d k ts e root same tags h
tag_holds c d e k (whole n) awaits root same tags h = absurd cc
tag_holds c d e k (within ts i outer) awaits root same tags h =
    subst (λ l. HoldsOpen c ts (l ∷ map around_level outer) e) (sym (level_of_tag k i))
    (tag_in_level c d k ts (inner_level i) (map around_level outer) e (level_awaits i awaits) root same tags h)

-- a tree that is closed in a level that is passed over changes nothing
pub tree_passed : (c : Codec) (d : Decoding) (n : Node) (ts : List ℕ) (i : Inner) (outer : List Around) (depth : ℕ)
    (report : Option FaultKind)
    → opened c (inner_level i) (due_in c d.shape ts (map around_level outer)) ≡ opened_passed depth report
    → Holds c (within ts i outer) d → Holds c (within ts (with_tree n i) outer) d
tree_passed c d n ts i outer depth report e h =
    let due = due_in c d.shape ts (map around_level outer) in
    let around = kept_levels c d.shape ts (map around_level outer) in
    let was = subst (λ o. StandsIn c o (inner_level i) around d) e h in
    let now = passed_with c depth report (inner_level i) n around d was in
    let back = subst (λ o. StandsIn c o (level_with n (inner_level i)) around d) (sym (opened_with c n (inner_level i) due ∙ e)) now in
    subst (λ l. HoldsOpen c ts (l ∷ map around_level outer) d) (sym (level_of_tree n i)) back

-- in a level that is kept its frame takes the tree
pub tree_taken : (c : Codec) (d e : Decoding) (n : Node) (ts : List ℕ) (i : Inner) (outer : List Around) (p : Place) (g : Frame)
    (fs : List Frame)
    → opened c (inner_level i) (due_in c d.shape ts (map around_level outer)) ≡ opened_at p → e.shape ≡ d.shape → e.result ≡ None
    → e.frames ≡ g ∷ fs → FrameHolds c p (level_with n (inner_level i)) g
    → FramesHold c (kept_levels c d.shape ts (map around_level outer)) fs
    → Holds c (within ts (with_tree n i) outer) e
tree_taken c d e n ts i outer p g fs at root none frames holds rest =
    let due = due_in c d.shape ts (map around_level outer) in
    let around = kept_levels c d.shape ts (map around_level outer) in
    let took = frame_took c p (inner_level i) n around e g fs none frames holds rest in
    let back = subst (λ o. StandsIn c o (level_with n (inner_level i)) around e) (sym (opened_with c n (inner_level i) due ∙ at)) took in
    let here : Stands c (due_in c d.shape ts (level_with n (inner_level i) ∷ map around_level outer))
    (kept_levels c d.shape ts (level_with n (inner_level i) ∷ map around_level outer)) e = back in
    let rooted = subst (λ s. Stands c (due_in c s ts (level_with n (inner_level i) ∷ map around_level outer))
    (kept_levels c s ts (level_with n (inner_level i) ∷ map around_level outer)) e) (sym root) here in
    subst (λ l. HoldsOpen c ts (l ∷ map around_level outer) e) (sym (level_of_tree n i)) rooted
