-- A tree that is closed, as the level takes it in which it stands, or the root; and an end, which leaves what was held before the opener.
use Rattle.std.proofs.Common.{◌≡◌, ℕ, List, [], ◌∷◌, ◌++◌, map, refl, sym, ap, ◌∙◌, subst, subst₂}
use Rattle.std.specs.Prelude.{Option, Some, None}
use Rattle.std.proofs.lemmas.List.{map-append}
use Rattle.sm_tree.specs.Node.{Node}
use Rattle.sm_tree.specs.Building.{Building, nothing, whole, within, Inner, Around, tagged}
use Rattle.sm_tree.specs.steps.BuilderSteps.{back_inside}
use Rattle.sm_shapes.specs.InOrder.{Shaped}
use Rattle.sm_shapes.specs.Places.{Place, root_place, member_place, entry_place, sparse_of}
use Rattle.sm_shapes.specs.declared.fault.FaultKind.{FaultKind}
use Rattle.sm_codec.specs.Convention.{IsConvention}
use Rattle.sm_codec.specs.Codec.{Codec, InTable}
use Rattle.sm_codec.specs.Named.{is_null}
use Rattle.sm_codec.specs.Readings.{child_of, named_children_of, reading}
use Rattle.sm_codec.specs.Decoding.{Outcome, MemberFrame, EntryFrame, Frame, structure_frame, list_frame, skip_frame, Decoding}
use Rattle.sm_codec.specs.Walk.{Level, list_level, pair_level, Due, due_at, opened_at, opened_passed, inner_level, around_level}
use Rattle.sm_codec.specs.Walk.{behind_tags, behind_name, due_member, opened, due_within, due_in, kept_levels, member_at}
use Rattle.sm_codec.specs.Kept.{IsOutcome, due_frames, HoldsPairs, FrameHolds, FramesHold, HoldsOpen, Holds}
use Rattle.sm_codec.specs.steps.Arrivals.{Arrival, IsArrival, null_where, read_where, level_with}
use Rattle.sm_codec.specs.steps.EntrySteps.{TakesEntry}
use Rattle.sm_codec.specs.steps.MemberSteps.{TakesMember}
use Rattle.sm_codec.specs.steps.Standing.{Stands, StandsIn}
use Rattle.sm_codec.proofs.Arriving.{null_arrives, read_arrives}
use Rattle.sm_codec.proofs.Walking.{level_inside, opens_at, in_frame}
use Rattle.sm_codec.proofs.Stepping.{due_next}
use Rattle.sm_codec.proofs.MemberNamed.{member_held, unknown_held}
use Rattle.sm_codec.proofs.EntryArrives.{entry_held}

-- the root
pub root_taken : (c : Codec) (d e : Decoding) (n : Node) (ts : List ℕ) (o : Outcome) → IsConvention c.convention → e.shape ≡ d.shape
    → e.frames ≡ [] → e.result ≡ Some o → IsOutcome (read_where c (due_in c d.shape ts []) n) o → Holds c (whole (tagged ts n)) e
root_taken c d e n ts o laws root none result is =
    let read : read_where c (due_in c d.shape ts []) n ≡ reading c (tagged ts n) (root_place e.shape) =
    sym (read_arrives c (root_place d.shape) ts n laws) ∙ ap (λ s. reading c (tagged ts n) (root_place s)) (sym root) in
    (none, (o, result, subst (λ r. IsOutcome r o) read is))

-- what comes at a place in tags is what the tree in them is
pub arrives_in : (c : Codec) (q : Place) (us : List ℕ) (n : Node) (x : Arrival) (due : Due) → IsConvention c.convention
    → due ≡ behind_tags c (due_at q) us
    → IsArrival (null_where due n) (read_where c due n) x → IsArrival (is_null (tagged us n)) (reading c (tagged us n) q) x
arrives_in c q us n x due laws e h =
    let at = subst (λ y. IsArrival (null_where y n) (read_where c y n) x) e h in
    subst₂ (λ b r. IsArrival b r x) (sym (null_arrives c q us n)) (sym (read_arrives c q us n laws)) at

-- a structure's frame takes a member's tree
pub structure_takes : (c : Codec) (p : Place) (ms : List (List ℕ × Node)) (name : List ℕ) (us : List ℕ) (n : Node) (k : ℕ) (x : Arrival)
    → (f g : MemberFrame) → IsConvention c.convention → Shaped c.table → InTable c.table p → member_at c p name ≡ Some k
    → IsArrival (null_where (due_within c (opened_at p) (pair_level ms name us)) n)
    (read_where c (due_within c (opened_at p) (pair_level ms name us)) n) x
    → TakesMember c.table k x f g → FrameHolds c p (pair_level ms name us) (structure_frame f)
    → FrameHolds c p (level_with n (pair_level ms name us)) (structure_frame g)
structure_takes c p ms name us n k x f g laws shaped inside at is takes h =
    let due : due_within c (opened_at p) (pair_level ms name us) ≡ behind_tags c (due_at (member_place k)) us =
    ap (λ s. behind_tags c (behind_name s c p name) us) h.0 ∙ ap (λ o. behind_tags c (due_member o) us) at in
    let come = arrives_in c (member_place k) us n x (due_within c (opened_at p) (pair_level ms name us)) laws due is in
    let held = member_held c p (named_children_of c ms) name (child_of c (tagged us n)) k x f g laws shaped inside at come takes h in
    subst (λ ps. HoldsPairs c p ps None (structure_frame g)) (sym
    (map-append (λ m. (m.0, child_of c m.1)) ms ((name, tagged us n) ∷ []))) held

pub structure_passes : (c : Codec) (p : Place) (ms : List (List ℕ × Node)) (name : List ℕ) (us : List ℕ) (n : Node) (f : MemberFrame)
    → member_at c p name ≡ None → FrameHolds c p (pair_level ms name us) (structure_frame f)
    → FrameHolds c p (level_with n (pair_level ms name us)) (structure_frame f)
structure_passes c p ms name us n f at h =
    let held = unknown_held c p (named_children_of c ms) name (child_of c (tagged us n)) f at h in
    subst (λ ps. HoldsPairs c p ps None (structure_frame f)) (sym
    (map-append (λ m. (m.0, child_of c m.1)) ms ((name, tagged us n) ∷ []))) held

-- a list's frame takes an entry
pub list_takes : (c : Codec) (p : Place) (ns : List Node) (us : List ℕ) (n : Node) (x : Arrival) (f g : EntryFrame)
    → IsConvention c.convention
    → IsArrival (null_where (due_within c (opened_at p) (list_level ns us)) n)
    (read_where c (due_within c (opened_at p) (list_level ns us)) n) x
    → TakesEntry (sparse_of c.table p) x f g → FrameHolds c p (list_level ns us) (list_frame f)
    → FrameHolds c p (level_with n (list_level ns us)) (list_frame g)
list_takes c p ns us n x f g laws is takes h =
    entry_held c p ns (tagged us n) x f g (arrives_in c (entry_place c.table p) us n x
    (due_within c (opened_at p) (list_level ns us)) laws refl is) takes h

-- what stood before what is open innermost was opened
abbrev pub before_opener : List ℕ → List Around → Building
before_opener ts [] = nothing ts
before_opener ts (a ∷ outer) = within ts (back_inside a) outer

-- where a level that is kept ends: its frame goes, and the rest is what was held before its opener
abbrev pub Ends : Codec → Decoding → List ℕ → Level → List Around → Place → Type 0
Ends c d ts l outer p =
    (f : Frame) × (fs : List Frame) × (d.frames ≡ due_frames c (due_within c (opened_at p) l) ++ f ∷ fs) × FrameHolds c p l f
    × ((e : Decoding) → e.shape ≡ d.shape → e.result ≡ None → e.frames ≡ fs → Holds c (before_opener ts outer) e)
    × (due_next c d.shape (before_opener ts outer) ≡ due_at p)

pub before_is : (c : Codec) (root : ℕ) (ts : List ℕ) (outer : List Around)
    → due_next c root (before_opener ts outer) ≡ due_in c root ts (map around_level outer)
before_is c root ts [] = refl
before_is c root ts (a ∷ outer) = ap (λ l. due_in c root ts (l ∷ map around_level outer)) (level_inside a)

held_before : (c : Codec) (e : Decoding) (ts : List ℕ) (outer : List Around) → HoldsOpen c ts (map around_level outer) e
    → Holds c (before_opener ts outer) e
held_before c e ts [] h = h
held_before c e ts (a ∷ outer) h = subst (λ l. HoldsOpen c ts (l ∷ map around_level outer) e) (sym (level_inside a)) h

stood_before : (c : Codec) (d e : Decoding) (ts : List ℕ) (outer : List Around) (fs : List Frame) → e.shape ≡ d.shape → e.result ≡ None
    → e.frames ≡ due_frames c (due_in c d.shape ts (map around_level outer)) ++ fs
    → FramesHold c (kept_levels c d.shape ts (map around_level outer)) fs → Holds c (before_opener ts outer) e
stood_before c d e ts outer fs root none frames rest =
    let here : Stands c (due_in c d.shape ts (map around_level outer)) (kept_levels c d.shape ts (map around_level outer)) e =
    (none, (fs, frames, rest)) in
    held_before c e ts outer
    (subst (λ s. Stands c (due_in c s ts (map around_level outer)) (kept_levels c s ts (map around_level outer)) e) (sym root) here)

pub kept_ends : (c : Codec) (d : Decoding) (ts : List ℕ) (i : Inner) (outer : List Around) (p : Place)
    → opened c (inner_level i) (due_in c d.shape ts (map around_level outer)) ≡ opened_at p → Holds c (within ts i outer) d
    → Ends c d ts (inner_level i) outer p
kept_ends c d ts i outer p at h =
    let due = due_in c d.shape ts (map around_level outer) in
    let around = kept_levels c d.shape ts (map around_level outer) in
    let inside = in_frame c p (inner_level i) around d (subst (λ o. StandsIn c o (inner_level i) around d) at h) in
    let place = opens_at c (inner_level i) due p at in (
      inside.0,
      inside.1,
      inside.2,
      inside.3,
      (λ e root none frames.
          stood_before c d e ts outer inside.1 root none (frames ∙ ap (λ x. due_frames c x ++ inside.1) (sym place)) inside.4),
      before_is c d.shape ts outer ∙ place,
    )

-- where one ends that is passed over: the frame of what was due before its opener stands again
pub passed_ends : (c : Codec) (d e : Decoding) (ts : List ℕ) (i : Inner) (outer : List Around) (depth : ℕ) (report : Option FaultKind)
    → opened c (inner_level i) (due_in c d.shape ts (map around_level outer)) ≡ opened_passed depth report → e.shape ≡ d.shape
    → ((fs : List Frame) → d.frames ≡ skip_frame depth report ∷ fs
    → e.frames ≡ due_frames c (due_in c d.shape ts (map around_level outer)) ++ fs)
    → e.result ≡ None → Holds c (within ts i outer) d → Holds c (before_opener ts outer) e
passed_ends c d e ts i outer depth report at root frames none h =
    let around = kept_levels c d.shape ts (map around_level outer) in
    let was : StandsIn c (opened_passed depth report) (inner_level i) around d =
    subst (λ o. StandsIn c o (inner_level i) around d) at h in
    stood_before c d e ts outer was.1.0 root none (frames was.1.0 was.1.1) was.1.2
