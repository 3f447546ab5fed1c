-- A list or an object that opens: it adds a level, which is kept at a place of its sort and passed over at any other.
use Rattle.std.proofs.Common.{◌≡◌, ℕ, true, List, [], ◌∷◌, ◌++◌, map, append-nil, refl, sym, ap, ◌∙◌, subst, subst₂}
use Rattle.std.specs.Prelude.{Some, None}
use Rattle.std.specs.List.Sorted.{IsPermutation}
use Rattle.std.proofs.lemmas.List.Sorted.{IsPermutation-refl}
use Rattle.sm_tree.specs.Building.{Building, nothing, whole, within, Inner, awaits_value}
use Rattle.sm_tree.specs.steps.BuilderSteps.{after_start}
use Rattle.sm_shapes.specs.Places.{Place, shape_of, members_of_place}
use Rattle.sm_codec.specs.Sorts.{a_list, a_structure}
use Rattle.sm_codec.specs.Codec.{Codec, sort_at}
use Rattle.sm_codec.specs.FaultLists.{FaultAt, first_fault}
use Rattle.sm_codec.specs.Readings.{Child, under_names}
use Rattle.sm_codec.specs.Decoding.{MemberFrame, Frame, structure_frame, list_frame, skip_frame, Decoding}
use Rattle.sm_codec.specs.Walk.{Level, list_level, object_level, pair_level, Due, Opened, opened_at, opened_passed, inner_level}
use Rattle.sm_codec.specs.Walk.{around_level, opened, due_within, due_in, kept_levels, member_at}
use Rattle.sm_codec.specs.Kept.{HoldsMembers, AreKept, spelled_fields, closed_members, closed_faults, due_frames, FrameHolds, HoldsPairs}
use Rattle.sm_codec.specs.Kept.{HoldsList, HoldsOpen, Holds}
use Rattle.sm_codec.specs.steps.Standing.{Stands, StandsIn}
use Rattle.sm_codec.specs.steps.MemberSteps.{IsNamed}
use Rattle.sm_codec.specs.steps.OpeningSteps.{new_members, new_entries}
use Rattle.sm_codec.proofs.Walking.{level_around}
use Rattle.sm_codec.proofs.Stepping.{due_next}

-- a level that has just opened
abbrev pub IsNew : Level → Type 0
IsNew (list_level ns ts) = (ns ≡ []) × (ts ≡ [])
IsNew (object_level ms) = ms ≡ []
IsNew (pair_level ms name ts) = ⊥

new_due : (c : Codec) (p : Place) (l : Level) → IsNew l → due_frames c (due_within c (opened_at p) l) ≡ []
new_due c p (list_level [] []) h = refl
new_due c p (list_level [] (t ∷ ts)) h = let none : t ∷ ts ≡ [] = h.1 in absurd cc
new_due c p (list_level (n ∷ ns) ts) h = let none : n ∷ ns ≡ [] = h.0 in absurd cc
new_due c p (object_level ms) h = refl
new_due c p (pair_level ms name ts) h = absurd h

module _ (c : Codec) (d e : Decoding) (l : Level) where
  -- the frames behind an opener, from those before it
  abbrev pub Starts : Due → Opened → Type 0
  Starts due (opened_at p) =
      (fs : List Frame) → d.frames ≡ due_frames c due ++ fs → (f : Frame) × (e.frames ≡ f ∷ fs) × FrameHolds c p l f
  Starts due (opened_passed depth report) =
      (fs : List Frame) → d.frames ≡ due_frames c due ++ fs → e.frames ≡ skip_frame depth report ∷ fs

  starts_by : (due : Due) (o : Opened) (kept : List (Place × Level)) → IsNew l → e.result ≡ d.result → Starts due o → Stands c due kept d
      → StandsIn c o l kept e
  starts_by due (opened_at p) kept new same starts h =
      let f = starts h.1.0 h.1.1 in
      (same ∙ h.0, (f.0 ∷ h.1.0, f.1 ∙ ap (λ xs. xs ++ f.0 ∷ h.1.0) (sym (new_due c p l new)), (f.2, h.1.2)))
  starts_by due (opened_passed depth report) kept new same starts h = (same ∙ h.0, (h.1.0, starts h.1.0 h.1.1, h.1.2))

  start_level : (ts : List ℕ) (ls : List Level) → IsNew l → e.shape ≡ d.shape → e.result ≡ d.result
      → Starts (due_in c d.shape ts ls) (opened c l (due_in c d.shape ts ls)) → HoldsOpen c ts ls d → HoldsOpen c ts (l ∷ ls) e
  start_level ts ls new root same starts h =
      let due = due_in c d.shape ts ls in
      let held = starts_by due (opened c l due) (kept_levels c d.shape ts ls) new same starts h in
      subst (λ s. Stands c (due_in c s ts (l ∷ ls)) (kept_levels c s ts (l ∷ ls)) e) (sym root) held

pub start_holds : (c : Codec) (d e : Decoding) (new : Inner) (b : Building) → awaits_value b ≡ true → IsNew (inner_level new)
    → e.shape ≡ d.shape → e.result ≡ d.result
    → Starts c d e (inner_level new) (due_next c d.shape b) (opened c (inner_level new) (due_next c d.shape b))
    → Holds c b d → Holds c (after_start new b) e
start_holds c d e new (nothing ts) awaits is root same starts h = start_level c d e (inner_level new) ts [] is root same starts h
start_holds c d e new (whole n) awaits is root same starts h = absurd cc
start_holds c d e new (within ts i outer) awaits is root same starts h =
    subst (λ l. HoldsOpen c ts (inner_level new ∷ l ∷ map around_level outer) e) (sym (level_around i awaits))
    (start_level c d e (inner_level new) ts (inner_level i ∷ map around_level outer) is root same starts h)

-- the frame of a structure, and of a list, that has just opened
pub none_closed : (c : Codec) (p : Place) (ks : List ℕ) → closed_members (under_names c p []) ks ≡ []
none_closed c p [] = refl
none_closed c p (k ∷ ks) = none_closed c p ks

none_faulty : (c : Codec) (p : Place) (ks : List ℕ) → closed_faults c.table (under_names c p []) ks ≡ []
none_faulty c p [] = refl
none_faulty c p (k ∷ ks) = none_faulty c p ks

pub none_spelled : (c : Codec) (p : Place) (ks : List ℕ) → spelled_fields (under_names c p []) ks ≡ []
none_spelled c p [] = refl
none_spelled c p (k ∷ ks) = none_spelled c p ks

pub members_start : (c : Codec) (p : Place) (faults : List FaultAt) → faults ≡ []
    → HoldsMembers c.table p (under_names c p []) None faults (new_members (shape_of c.table p))
members_start c p faults none =
    let ks = members_of_place c.table p in
    record {
      shape = refl;
      seen = subst (λ xs. IsPermutation [] xs) (sym (none_closed c p ks)) (IsPermutation-refl []);
      current = refl;
      fault = ap first_fault (sym none);
      fields = subst₂ (λ fs xs. AreKept fs [] xs) (sym none) (sym (none_spelled c p ks)) refl;
    }

pub structure_starts : (c : Codec) (p : Place) → sort_at c p ≡ a_structure
    → HoldsPairs c p [] None (structure_frame (new_members (shape_of c.table p)))
structure_starts c p sort = (
  sort,
  members_start c p (closed_faults c.table (under_names c p []) (members_of_place c.table p))
      (none_faulty c p (members_of_place c.table p)),
  λ before behind e clean. ([], sym (none_spelled c p before) ∙ sym (append-nil (spelled_fields (under_names c p []) before))),
)

pub list_starts : (c : Codec) (p : Place) → sort_at c p ≡ a_list → HoldsList c p [] (list_frame (new_entries (shape_of c.table p)))
list_starts c p sort = record { sort = sort; shape = refl; count = refl; fault = refl; items = refl }

-- a name in a structure
pub members_named : (c : Codec) (p : Place) (ps : List (List ℕ × Child)) (name : List ℕ) (f g : MemberFrame) (faults : List FaultAt)
    → IsNamed (member_at c p name) f g → HoldsMembers c.table p (under_names c p ps) None faults f
    → HoldsMembers c.table p (under_names c p ps) (member_at c p name) faults g
members_named c p ps name f g faults named h =
    let ks = members_of_place c.table p in
    let s = under_names c p ps in
    record {
      shape = named.0 ∙ h.shape;
      seen = subst (λ xs. IsPermutation xs (closed_members s ks)) (sym named.2) h.seen;
      current = named.4;
      fault = named.3 ∙ h.fault;
      fields = subst (λ fs. AreKept faults fs (spelled_fields s ks)) (sym named.1) h.fields;
    }

pub name_held : (c : Codec) (p : Place) (ps : List (List ℕ × Child)) (name : List ℕ) (f g : MemberFrame) → IsNamed (member_at c p name) f g
    → HoldsPairs c p ps None (structure_frame f) → HoldsPairs c p ps (Some name) (structure_frame g)
name_held c p ps name f g named h = (
  h.0,
  members_named c p ps name f g (closed_faults c.table (under_names c p ps) (members_of_place c.table p)) named h.1,
  λ before behind e clean. let kept = h.2 before behind e clean in (kept.0, named.1 ∙ kept.1),
)
