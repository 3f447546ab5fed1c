-- A name that comes in an object: the innermost frame knows it, and what stands under a name of no member is passed over.
use Rattle.std.proofs.Common.{◌≡◌, ℕ, ◌<◌, append_assoc, Bool, List, [], ◌∷◌, ◌++◌, map, refl, sym, ap, ◌∙◌, subst}
use Rattle.std.specs.Prelude.{Option, Some, None, is_some}
use Rattle.sm_tree.specs.Node.{Node}
use Rattle.sm_tree.specs.Events.{NodeEvent, start_object, key_event}
use Rattle.sm_tree.specs.Building.{within, in_object, in_pair, Around, so_far, tag_events, outer_events, each_pair_events}
use Rattle.sm_shapes.specs.TableData.{shape_count}
use Rattle.sm_shapes.specs.InOrder.{Shaped}
use Rattle.sm_shapes.specs.Places.{Place, root_place}
use Rattle.sm_codec.specs.Sorts.{Sort, a_structure, a_union}
use Rattle.sm_codec.specs.Codec.{Codec, sort_at, InTable}
use Rattle.sm_codec.specs.Readings.{named_children_of}
use Rattle.sm_codec.specs.Decoding.{Frame, structure_frame, union_frame, list_frame, map_frame, tagged_frame, skip_frame, Decoding}
use Rattle.sm_codec.specs.Walk.{Level, object_level, pair_level, around_level, Due, Opened, opened_at, opened_passed, opened, behind_name}
use Rattle.sm_codec.specs.Walk.{due_member, due_in, kept_levels, member_at}
use Rattle.sm_codec.specs.Kept.{due_frames, FrameHolds, Holds}
use Rattle.sm_codec.specs.steps.MemberSteps.{IsNamed}
use Rattle.sm_codec.specs.steps.OpeningSteps.{CanName, FirstCanName, member_named, FrameNames, FirstNames, with_silence, NameBy}
use Rattle.sm_codec.specs.steps.Standing.{Stands, StandsIn}
use Rattle.sm_codec.proofs.MapClosing.{key_named}
use Rattle.sm_codec.proofs.PlacesHeld.{due_held, place_in_table}
use Rattle.sm_codec.proofs.PlacesIn.{shape_in}
use Rattle.sm_codec.proofs.Starting.{name_held}
use Rattle.sm_codec.proofs.UnionClosing.{choice_named}
use Rattle.sm_codec.proofs.Walking.{in_frame}

silence_is : (c : Codec) (o : Option ℕ) (fs : List Frame) → with_silence (is_some o) fs ≡ due_frames c (due_member o) ++ fs
silence_is c None fs = refl
silence_is c (Some k) fs = refl

module _ (c : Codec) (p : Place) (ms : List (List ℕ × Node)) (name : List ℕ) where
  abbrev pub Named : Bool → Frame → Type 0
  Named known g =
      FrameHolds c p (pair_level ms name []) g
      × ((fs : List Frame) → with_silence known fs ≡ due_frames c (behind_name (sort_at c p) c p name) ++ fs)

  silent_by : (known : Bool) (o : Option ℕ) (s : Sort) → known ≡ is_some o → behind_name s c p name ≡ due_member o → sort_at c p ≡ s
      → (fs : List Frame) → with_silence known fs ≡ due_frames c (behind_name (sort_at c p) c p name) ++ fs
  silent_by known o s is at sort fs =
      ap (λ b. with_silence b fs) is ∙ silence_is c o fs ∙ ap (λ due. due_frames c due ++ fs) (sym at)
      ∙ ap (λ x. due_frames c (behind_name x c p name) ++ fs) (sym sort)

  pub named_by : (known : Bool) (f g : Frame) → FrameHolds c p (object_level ms) f → FrameNames c.table c.convention name known f g
      → Named known g
  named_by known (structure_frame f) g h is =
      let named : IsNamed (member_at c p name) f is.0 = subst
      (λ s. IsNamed (member_named c.table c.convention s name) f is.0) h.1.shape is.2 in (
        subst (FrameHolds c p (pair_level ms name [])) (sym is.1) (name_held c p (named_children_of c ms) name f is.0 named h),
        silent_by known (member_at c p name) a_structure (is.3 ∙ ap is_some named.4) refl h.0,
      )
  named_by known (union_frame f) g h is =
      let named : IsNamed (member_at c p name) f is.0 = subst
      (λ s. IsNamed (member_named c.table c.convention s name) f is.0) h.1.shape is.2 in (
        subst (FrameHolds c p (pair_level ms name [])) (sym is.1) (choice_named c p (named_children_of c ms) name f is.0 named h),
        silent_by known (member_at c p name) a_union (is.3 ∙ ap is_some named.4) refl h.0,
      )
  named_by known (map_frame f) g h is = (
    subst (FrameHolds c p (pair_level ms name [])) (sym is.1) (key_named c p (named_children_of c ms) name f is.0 is.2 h),
    λ fs. ap (λ b. with_silence b fs) is.3 ∙ ap (λ s. due_frames c (behind_name s c p name) ++ fs) (sym h.0),
  )
  named_by known (list_frame f) g h is = absurd is
  named_by known (tagged_frame s k) g h is = absurd is
  named_by known (skip_frame depth report) g h is = absurd h

  pub can_name : (f : Frame) → Shaped c.table → InTable c.table p → FrameHolds c p (object_level ms) f → CanName c.table f
  can_name (structure_frame f) shaped inside h = subst (λ n. n < shape_count c.table) (sym h.1.shape) (shape_in c.table p shaped inside)
  can_name (union_frame f) shaped inside h = subst (λ n. n < shape_count c.table) (sym h.1.shape) (shape_in c.table p shaped inside)
  can_name (map_frame f) shaped inside h = tt
  can_name (list_frame f) shaped inside h = absurd h
  can_name (tagged_frame s k) shaped inside h = absurd h
  can_name (skip_frame depth report) shaped inside h = absurd h

module _ (c : Codec) (d : Decoding) (ts : List ℕ) (ms : List (List ℕ × Node)) (outer : List Around) (name : List ℕ)
    (shaped : Shaped c.table) (inside : InTable c.table (root_place d.shape)) where
  abbrev around : List (Place × Level)
  around = kept_levels c d.shape ts (map around_level outer)

  abbrev due_around : Due
  due_around = due_in c d.shape ts (map around_level outer)

  -- what may be asked, and what then holds
  abbrev pub NameTaken : Type 0
  NameTaken =
      FirstCanName c.table d.frames
      × ((e : Decoding) → e.shape ≡ d.shape → e.result ≡ d.result → NameBy c.table c.convention name d.frames e.frames
      → Holds c (within ts (in_pair ms name []) outer) e)

  back_held : (o : Opened) (e : Decoding) → opened c (object_level ms) due_around ≡ o → e.shape ≡ d.shape
      → StandsIn c o (pair_level ms name []) around e → Holds c (within ts (in_pair ms name []) outer) e
  back_held o e at root h =
      let here : StandsIn c (opened c (pair_level ms name []) due_around) (pair_level ms name []) around e =
      subst (λ x. StandsIn c x (pair_level ms name []) around e) (sym at) h in
      subst (λ s. Stands c (due_in c s ts (pair_level ms name [] ∷ map around_level outer))
      (kept_levels c s ts (pair_level ms name [] ∷ map around_level outer)) e) (sym root) here

  name_by : (o : Opened) → opened c (object_level ms) due_around ≡ o → StandsIn c o (object_level ms) around d → NameTaken
  name_by (opened_at p) at h =
      let stand = in_frame c p (object_level ms) around d h in
      let f = stand.0 in
      let here = place_in_table c (object_level ms) due_around p (due_held c d.shape ts (map around_level outer) shaped inside) at in (
        subst (FirstCanName c.table) (sym stand.2) (can_name c p ms name f shaped here stand.3),
        λ e root same by.
            let by_first = subst (λ fs. FirstNames c.table c.convention name by.0 fs by.1) stand.2 by.2 in
            let named = named_by c p ms name by.0 f by_first.0 stand.3 by_first.2 in
            let frames : e.frames ≡ due_frames c (behind_name (sort_at c p) c p name) ++ by_first.0 ∷ stand.1 =
            by.3 ∙ ap (with_silence by.0) by_first.1 ∙ named.1 (by_first.0 ∷ stand.1) in
            back_held (opened_at p) e at root (same ∙ h.0, (by_first.0 ∷ stand.1, frames, (named.0, stand.4))),
      )
  name_by (opened_passed depth report) at h = (
    subst (FirstCanName c.table) (sym h.1.1) tt,
    λ e root same by.
        let by_first = subst (λ fs. FirstNames c.table c.convention name by.0 fs by.1) h.1.1 by.2 in
        let frames : e.frames ≡ skip_frame depth report ∷ h.1.0 =
        by.3 ∙ ap (λ b. with_silence b by.1) by_first.2.1 ∙ by_first.1 ∙ ap (λ g. g ∷ h.1.0) by_first.2.0 in
        back_held (opened_passed depth report) e at root (same ∙ h.0, (h.1.0, frames, h.1.2)),
  )

  pub name_taken : Holds c (within ts (in_object ms) outer) d → NameTaken
  name_taken h = name_by (opened c (object_level ms) due_around) refl h

-- a name comes where an object awaits one
pub key_so_far : (name : List ℕ) (ts : List ℕ) (ms : List (List ℕ × Node)) (outer : List Around)
    → so_far (within ts (in_pair ms name []) outer) ≡ so_far (within ts (in_object ms) outer) ++ key_event name ∷ []
key_so_far name ts ms outer =
    let inside : List NodeEvent = start_object None ∷ each_pair_events ms in
    ap (λ es. tag_events ts ++ es) (sym (append_assoc (outer_events outer) inside (key_event name ∷ [])))
    ∙ sym (append_assoc (tag_events ts) (outer_events outer ++ inside) (key_event name ∷ []))
