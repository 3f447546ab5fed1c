-- A union's frame in its level: where it opens, where a name comes, and where a member's tree is closed.
use Rattle.std.proofs.Common.{◌≡◌, ℕ, List, [], ◌∷◌, refl, sym, ap, ◌∙◌, subst}
use Rattle.std.specs.Prelude.{Some, None}
use Rattle.std.proofs.lemmas.List.{map-append}
use Rattle.sm_tree.specs.Node.{Node}
use Rattle.sm_tree.specs.Building.{tagged}
use Rattle.sm_shapes.specs.InOrder.{Shaped}
use Rattle.sm_shapes.specs.Places.{Place, member_place, shape_of, members_of_place}
use Rattle.sm_codec.specs.Convention.{IsConvention}
use Rattle.sm_codec.specs.Sorts.{a_union}
use Rattle.sm_codec.specs.Codec.{Codec, sort_at, InTable}
use Rattle.sm_codec.specs.Readings.{Child, child_of, named_children_of, under_names, repeats, all_standing, union_faults}
use Rattle.sm_codec.specs.Decoding.{MemberFrame, union_frame}
use Rattle.sm_codec.specs.Walk.{pair_level, due_at, opened_at, behind_tags, behind_name, due_member, due_within, member_at}
use Rattle.sm_codec.specs.Kept.{closed_union_faults, HoldsPairs, FrameHolds}
use Rattle.sm_codec.specs.steps.Arrivals.{Arrival, IsArrival, null_where, read_where, level_with}
use Rattle.sm_codec.specs.steps.MemberSteps.{IsNamed}
use Rattle.sm_codec.specs.steps.UnionSteps.{ChoosesMember}
use Rattle.sm_codec.proofs.Closing.{arrives_in}
use Rattle.sm_codec.proofs.OwnFaults.{all_sound}
use Rattle.sm_codec.specs.steps.OpeningSteps.{new_members}
use Rattle.sm_codec.proofs.Starting.{members_start, members_named}
use Rattle.sm_codec.proofs.UnionNamed.{choice_held, other_held}

-- one that has just opened
none_repeated : (c : Codec) (p : Place) (ks : List ℕ) → repeats c.table (under_names c p []) ks ≡ []
none_repeated c p [] = refl
none_repeated c p (k ∷ ks) = none_repeated c p ks

none_standing : (c : Codec) (p : Place) (ks : List ℕ) → all_standing (under_names c p []) ks ≡ []
none_standing c p [] = refl
none_standing c p (k ∷ ks) = none_standing c p ks

pub union_starts : (c : Codec) (p : Place) → sort_at c p ≡ a_union → HoldsPairs c p [] None (union_frame (new_members (shape_of c.table p)))
union_starts c p sort =
    let ks = members_of_place c.table p in
    let faults : closed_union_faults c.table (under_names c p []) ks ≡ [] =
    ap (λ rs. union_faults c.table [] rs (all_standing (under_names c p []) ks)) (none_repeated c p ks)
    ∙ ap (union_faults c.table [] []) (none_standing c p ks) in
    (sort, members_start c p (closed_union_faults c.table (under_names c p []) ks) faults)

-- a name
pub choice_named : (c : Codec) (p : Place) (ps : List (List ℕ × Child)) (name : List ℕ) (f g : MemberFrame)
    → IsNamed (member_at c p name) f g
    → HoldsPairs c p ps None (union_frame f) → HoldsPairs c p ps (Some name) (union_frame g)
choice_named c p ps name f g named h =
    (h.0, members_named c p ps name f g (closed_union_faults c.table (under_names c p ps) (members_of_place c.table p)) named h.1)

-- a member's tree
pub union_takes : (c : Codec) (p : Place) (ms : List (List ℕ × Node)) (name : List ℕ) (us : List ℕ) (n : Node) (k : ℕ) (x : Arrival)
    → (f g : MemberFrame) → IsConvention c.convention → Shaped c.table → InTable c.table p → member_at c p name ≡ Some k
    → IsArrival (null_where (due_within c (opened_at p) (pair_level ms name us)) n)
    (read_where c (due_within c (opened_at p) (pair_level ms name us)) n) x
    → ChoosesMember c.table k x f g → FrameHolds c p (pair_level ms name us) (union_frame f)
    → FrameHolds c p (level_with n (pair_level ms name us)) (union_frame g)
union_takes c p ms name us n k x f g laws shaped inside at is takes h =
    let due : due_within c (opened_at p) (pair_level ms name us) ≡ behind_tags c (due_at (member_place k)) us =
    ap (λ s. behind_tags c (behind_name s c p name) us) h.0 ∙ ap (λ o. behind_tags c (due_member o) us) at in
    let come = arrives_in c (member_place k) us n x (due_within c (opened_at p) (pair_level ms name us)) laws due is in
    let held = choice_held c p (named_children_of c ms) name (child_of c (tagged us n)) k x f g laws shaped inside at come
    (all_sound c p ms laws) takes h in
    subst (λ ps. HoldsPairs c p ps None (union_frame g)) (sym (map-append (λ m. (m.0, child_of c m.1)) ms ((name, tagged us n) ∷ []))) held

pub union_passes : (c : Codec) (p : Place) (ms : List (List ℕ × Node)) (name : List ℕ) (us : List ℕ) (n : Node) (f : MemberFrame)
    → member_at c p name ≡ None → FrameHolds c p (pair_level ms name us) (union_frame f)
    → FrameHolds c p (level_with n (pair_level ms name us)) (union_frame f)
union_passes c p ms name us n f at h =
    let held = other_held c p (named_children_of c ms) name (child_of c (tagged us n)) f at h in
    subst (λ ps. HoldsPairs c p ps None (union_frame f)) (sym (map-append (λ m. (m.0, child_of c m.1)) ms ((name, tagged us n) ∷ []))) held
