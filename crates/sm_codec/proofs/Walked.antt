-- A tree that is walked where it is due comes to what it is read as there: its entries and pairs one after another, and what stands under a
-- name of no member is skipped.
use Rattle.std.proofs.Common.{◌≡◌, ◌⊎◌, inl, inr, append_assoc, append-nil, ℕ, Bool, true, false, List, [], ◌∷◌, ◌++◌, refl, sym, ap, ◌∙◌}
use Rattle.std.proofs.Common.{subst}
use Rattle.std.specs.Prelude.{Option, Some, None, unwrap_or}
use Rattle.sm_tree.specs.Node.{Node, null, bool, int, number, text, bytes, tag, opaque, list, object, members_of}
use Rattle.sm_tree.specs.Building.{Inner, in_object}
use Rattle.sm_tree.specs.steps.BuilderSteps.{ended}
use Rattle.sm_tree.proofs.Building.{MayEnd}
use Rattle.sm_shapes.specs.InOrder.{Shaped}
use Rattle.sm_shapes.specs.Places.{Place, root_place, member_place, shape_of, entry_place, value_place}
use Rattle.sm_codec.specs.Convention.{IsConvention}
use Rattle.sm_codec.specs.Sorts.{Sort, simple, a_list, a_map, a_structure, a_union, left_out}
use Rattle.sm_codec.specs.Codec.{Codec, sort_at, InTable}
use Rattle.sm_codec.specs.Decoding.{Frame, skip_frame, Decoding}
use Rattle.sm_codec.specs.Kept.{due_frames, FrameHolds}
use Rattle.sm_codec.specs.Named.{is_null}
use Rattle.sm_codec.specs.Readings.{Child, leaf_by, list_by, object_by, reading, children, named_children}
use Rattle.sm_codec.specs.Walk.{Level, list_level, object_level, pair_level, Due, due_at, due_passed, opened_at, inner_level, behind_name}
use Rattle.sm_codec.specs.Walk.{due_member, due_within, member_at}
use Rattle.sm_codec.specs.steps.Arrivals.{Arrival, comes, IsArrival, null_where, read_where, level_with}
use Rattle.sm_codec.specs.steps.DecoderSteps.{place_among, FirstCanTake, TakenBy, frame_end, FirstCanEnd, EndedBy}
use Rattle.sm_codec.specs.steps.OpeningSteps.{FirstNames, LeafTaken, with_silence, list_start, object_start}
use Rattle.sm_codec.specs.steps.Standing.{AwaitsTree, IsDueAt}
use Rattle.sm_codec.specs.steps.WalkSteps.{is_list, is_object, IsLeafAt, next_place, WalkReady, TreeTaken, LevelAt, ListSoFar, PairsSoFar}
use Rattle.sm_codec.specs.steps.WalkSteps.{PairReady, PairTaken}
use Rattle.sm_codec.proofs.DuePlaces.{place_known}
use Rattle.sm_codec.proofs.LeafPlaces.{outcome_arrives}
use Rattle.sm_codec.proofs.MapClosing.{map_starts}
use Rattle.sm_codec.proofs.NameMoves.{named_by}
use Rattle.sm_codec.proofs.PlacesHeld.{member_in}
use Rattle.sm_codec.proofs.PlacesIn.{kind_of_sort, entry_in, value_in}
use Rattle.sm_codec.proofs.Starting.{structure_starts, list_starts}
use Rattle.sm_codec.proofs.TreeComes.{frame_takes}
use Rattle.sm_codec.proofs.TreeDue.{IsLoud, can_take}
use Rattle.sm_codec.proofs.TreeEnds.{not_null, outcome_by, end_able, first_ends, taken_end}
use Rattle.sm_codec.proofs.TreePasses.{quiet_due, frame_passes}
use Rattle.sm_codec.proofs.UnionClosing.{union_starts}

-- a tree that is no list at a place of lists, and no object at one of objects, is read as a leaf
list_leaf : (s : Sort) (c : Codec) (p : Place) (n : Node) (ks : List Child) → is_list s ≡ false → list_by s c p n ks ≡ leaf_by s c p n
list_leaf (simple x) c p n ks h = refl
list_leaf a_list c p n ks h = absurd cc
list_leaf a_map c p n ks h = refl
list_leaf a_structure c p n ks h = refl
list_leaf a_union c p n ks h = refl
list_leaf left_out c p n ks h = refl

object_leaf : (s : Sort) (c : Codec) (p : Place) (n : Node) (ps : List (List ℕ × Child)) → is_object s ≡ false
    → object_by s c p n ps ≡ leaf_by s c p n
object_leaf (simple x) c p n ps h = refl
object_leaf a_list c p n ps h = refl
object_leaf a_map c p n ps h = absurd cc
object_leaf a_structure c p n ps h = absurd cc
object_leaf a_union c p n ps h = absurd cc
object_leaf left_out c p n ps h = refl

leaf_reads : (c : Codec) (n : Node) (q : Place) → IsLeafAt (sort_at c q) n → reading c n q ≡ leaf_by (sort_at c q) c q n
leaf_reads c null q h = refl
leaf_reads c (bool b) q h = refl
leaf_reads c (int z) q h = refl
leaf_reads c (number u) q h = refl
leaf_reads c (text u) q h = refl
leaf_reads c (bytes u) q h = refl
leaf_reads c (tag k n) q h = refl
leaf_reads c (opaque b) q h = refl
leaf_reads c (list ns) q h = list_leaf (sort_at c q) c q (list ns) (children c ns) h
leaf_reads c (object ms) q h = object_leaf (sort_at c q) c q (object ms) (named_children c ms) h

-- so it is taken as one
pub leaf_walked : (c : Codec) (n : Node) (d e : Decoding) (p : Place) → p ≡ next_place c.table d → IsLeafAt (sort_at c p) n
    → LeafTaken c.table c.convention c.test p n d.frames e → TreeTaken c n d e
leaf_walked c n d e p at is taken =
    subst (λ q. (x : Arrival) × IsArrival (is_null n) (reading c n q) x × TakenBy c.table c.test x d.frames e) at
    (taken.0, subst (λ r. IsArrival (is_null n) r taken.0) (sym (leaf_reads c n p is)) taken.1, taken.2)

-- a tree in a level whose next one is due at a place
module _ (c : Codec) (p q : Place) (l : Level) (fs : List Frame) (d : Decoding) (laws : IsConvention c.convention) (shaped : Shaped c.table)
    (inside : InTable c.table p) (awaits : AwaitsTree l) (due : due_within c (opened_at p) l ≡ due_at q) (at : LevelAt c p l fs d) where
  place_is : next_place c.table d ≡ q
  place_is =
      ap (place_among c.table d.shape) at.1.1
      ∙ ap (λ o. unwrap_or o (root_place d.shape))
      (place_known c p q l at.1.0 at.1.2 (subst (λ x. IsDueAt q x) (sym due) refl))

  pub level_ready : InTable c.table q → WalkReady c.table d
  level_ready there = (
    subst (InTable c.table) (sym place_is) there,
    subst (FirstCanTake c.table) (sym at.1.1) (can_take c p shaped inside l at.1.0 at.1.2 awaits (subst IsLoud (sym due) tt)),
    at.0,
  )

  pub level_took : (n : Node) (e : Decoding) → TreeTaken c n d e → LevelAt c p (level_with n l) fs e
  level_took n e taken =
      let x = taken.0 in
      let read : IsArrival (is_null n) (reading c n q) x = subst (λ r. IsArrival (is_null n) (reading c n r) x) place_is taken.1 in
      let arrives : IsArrival (null_where (due_within c (opened_at p) l) n) (read_where c (due_within c (opened_at p) l) n) x
      = subst (λ y. IsArrival (null_where y n) (read_where c y n) x) (sym due) read in
      let by = subst (λ gs. TakenBy c.table c.test x gs e) at.1.1 taken.2 in
      (by.0, (by.1.0, by.1.1, frame_takes c p n x laws shaped inside l at.1.0 by.1.0 awaits arrives by.1.2 at.1.2))

-- a level that ends, in a decoder that had these frames before it opened
module _ (c : Codec) (i : Inner) (d now e : Decoding) (shaped : Shaped c.table) (may : MayEnd i) (ready : WalkReady c.table d)
    (root : now.shape ≡ d.shape) (at : LevelAt c (next_place c.table d) (inner_level i) d.frames now) where
  abbrev p : Place
  p = next_place c.table d

  same_place : place_among c.table now.shape d.frames ≡ p
  same_place = ap (λ s. place_among c.table s d.frames) root

  pub level_can_end : FirstCanEnd c.table now.shape now.frames
  level_can_end =
      subst (FirstCanEnd c.table now.shape) (sym at.1.1)
      (first_ends c now.shape at.1.0 d.frames (end_able c p shaped ready.0 i at.1.0 may at.1.2)
      (subst (InTable c.table) (sym same_place) ready.0) ready.1)

  pub level_ended : EndedBy c.table c.test now.shape now.frames e → TreeTaken c (ended i) d e
  level_ended by =
      let f = at.1.0 in
      let can = end_able c p shaped ready.0 i f may at.1.2 in
      let taken = taken_end c now.shape f d.frames e can (subst (λ gs. EndedBy c.table c.test now.shape gs e) at.1.1 by) in
      let here = subst (λ q. TakenBy c.table c.test (comes (frame_end c.table q f)) d.frames e) same_place taken in (
        comes (frame_end c.table p f),
        outcome_arrives (reading c (ended i) p) (frame_end c.table p f) (is_null (ended i)) (not_null i)
            (outcome_by c p shaped ready.0 i f may at.1.2),
        here,
      )

-- a list: it opens, each entry comes, and it ends
list_sort : (s : Sort) → is_list s ≡ true → s ≡ a_list
list_sort a_list h = refl
list_sort (simple x) h = absurd cc
list_sort a_map h = absurd cc
list_sort a_structure h = absurd cc
list_sort a_union h = absurd cc
list_sort left_out h = absurd cc

pub list_opens : (c : Codec) (d now : Decoding) (p : Place) (all : List Node) → is_list (sort_at c (next_place c.table d)) ≡ true
    → p ≡ next_place c.table d → d.result ≡ None → now.result ≡ d.result
    → now.frames ≡ list_start (sort_at c p) (shape_of c.table p) ∷ d.frames → ListSoFar c (next_place c.table d) d.frames all all now
list_opens c d now p all is at none same frames =
    let q = next_place c.table d in
    let sort = list_sort (sort_at c q) is in
    let opened : now.frames ≡ list_start a_list (shape_of c.table q) ∷ d.frames
    = frames ∙ ap (λ x. list_start (sort_at c x) (shape_of c.table x) ∷ d.frames) at
    ∙ ap (λ s. list_start s (shape_of c.table q) ∷ d.frames) sort in
    ([], refl, (same ∙ none, (list_start a_list (shape_of c.table q), opened, list_starts c q sort)))

module _ (c : Codec) (p : Place) (fs : List Frame) (all rest : List Node) (d : Decoding) (laws : IsConvention c.convention)
    (shaped : Shaped c.table) (inside : InTable c.table p) (is : is_list (sort_at c p) ≡ true) (sofar : ListSoFar c p fs all rest d) where
  pub entry_ready : WalkReady c.table d
  entry_ready =
      level_ready c p (entry_place c.table p) (list_level sofar.0 []) fs d laws shaped inside tt refl sofar.2
      (entry_in c.table p shaped inside (kind_of_sort c.table p a_list (list_sort (sort_at c p) is)))

  pub entry_took : (n : Node) (more : List Node) (e : Decoding) → rest ≡ n ∷ more → TreeTaken c n d e → ListSoFar c p fs all more e
  entry_took n more e split taken = (
    sofar.0 ++ n ∷ [],
    append_assoc sofar.0 (n ∷ []) more ∙ ap (λ xs. sofar.0 ++ xs) (sym split) ∙ sofar.1,
    level_took c p (entry_place c.table p) (list_level sofar.0 []) fs d laws shaped inside tt refl sofar.2 n e taken,
  )

  pub all_entries : rest ≡ [] → LevelAt c p (list_level all []) fs d
  all_entries none =
      subst (λ ns. LevelAt c p (list_level ns []) fs d) (sym (append-nil sofar.0) ∙ ap (λ xs. sofar.0 ++ xs) (sym none) ∙ sofar.1) sofar.2

-- an object
starts_by : (c : Codec) (q : Place) (s : Sort) → sort_at c q ≡ s → is_object s ≡ true
    → FrameHolds c q (object_level []) (object_start s (shape_of c.table q))
starts_by c q (simple x) e h = absurd cc
starts_by c q a_list e h = absurd cc
starts_by c q a_map e h = map_starts c q e
starts_by c q a_structure e h = structure_starts c q e
starts_by c q a_union e h = union_starts c q e
starts_by c q left_out e h = absurd cc

pub object_opens : (c : Codec) (d now : Decoding) (p : Place) (all : List (List ℕ × Node))
    → is_object (sort_at c (next_place c.table d)) ≡ true
    → p ≡ next_place c.table d → d.result ≡ None → now.result ≡ d.result
    → now.frames ≡ object_start (sort_at c p) (shape_of c.table p) ∷ d.frames → PairsSoFar c (next_place c.table d) d.frames all all now
object_opens c d now p all is at none same frames =
    let q = next_place c.table d in
    let opened : now.frames ≡ object_start (sort_at c q) (shape_of c.table q) ∷ d.frames
    = frames ∙ ap (λ x. object_start (sort_at c x) (shape_of c.table x) ∷ d.frames) at in
    ([], refl, (same ∙ none, (object_start (sort_at c q) (shape_of c.table q), opened, starts_by c q (sort_at c q) refl is)))

module _ (c : Codec) (p : Place) (fs : List Frame) (all rest : List (List ℕ × Node)) (d : Decoding) (inside : InTable c.table p)
    (sofar : PairsSoFar c p fs all rest d) where
  pub pair_ready : PairReady c d
  pair_ready = (p, sofar.0, fs, inside, sofar.2)

  pub pair_took : (name : List ℕ) (n : Node) (more : List (List ℕ × Node)) (e : Decoding) → rest ≡ (name, n) ∷ more → PairTaken c name n d e
      → PairsSoFar c p fs all more e
  pair_took name n more e split taken = (
    sofar.0 ++ (name, n) ∷ [],
    append_assoc sofar.0 ((name, n) ∷ []) more ∙ ap (λ xs. sofar.0 ++ xs) (sym split) ∙ sofar.1,
    taken p sofar.0 fs inside sofar.2,
  )

  pub all_pairs : rest ≡ [] → LevelAt c p (object_level all) fs d
  all_pairs none =
      subst (λ ms. LevelAt c p (object_level ms) fs d) (sym (append-nil sofar.0) ∙ ap (λ xs. sofar.0 ++ xs) (sym none) ∙ sofar.1) sofar.2

-- an object whose pairs have all come ends
module _ (c : Codec) (d now : Decoding) (all rest : List (List ℕ × Node)) (shaped : Shaped c.table) (ready : WalkReady c.table d)
    (root : now.shape ≡ d.shape) (sofar : PairsSoFar c (next_place c.table d) d.frames all rest now) (none : rest ≡ []) where
  whole : LevelAt c (next_place c.table d) (object_level all) d.frames now
  whole = all_pairs c (next_place c.table d) d.frames all rest now ready.0 sofar none

  pub object_can_end : FirstCanEnd c.table now.shape now.frames
  object_can_end = level_can_end c (in_object all) d now now shaped tt ready root whole

  pub object_ended : (e : Decoding) → EndedBy c.table c.test now.shape now.frames e → TreeTaken c (object (members_of all)) d e
  object_ended e by = level_ended c (in_object all) d now e shaped tt ready root whole by

abbrev BehindName : Codec → Place → Due → Type 0
BehindName c p due = ((q : Place) × (due ≡ due_at q) × InTable c.table q) ⊎ (due ≡ due_passed 0 None)

member_behind : (c : Codec) (p : Place) (name : List ℕ) (o : Option ℕ) → Shaped c.table → InTable c.table p → member_at c p name ≡ o
    → BehindName c p (due_member o)
member_behind c p name None shaped inside e = inr refl
member_behind c p name (Some k) shaped inside e = inl (member_place k, refl, member_in c p name k shaped inside e)

name_behind : (c : Codec) (p : Place) (name : List ℕ) (s : Sort) → Shaped c.table → InTable c.table p → sort_at c p ≡ s
    → BehindName c p (behind_name s c p name)
name_behind c p name (simple x) shaped inside e = member_behind c p name (member_at c p name) shaped inside refl
name_behind c p name a_list shaped inside e = member_behind c p name (member_at c p name) shaped inside refl
name_behind c p name a_map shaped inside e = inl (
  value_place c.table p,
  refl,
  value_in c.table p shaped inside
      (kind_of_sort c.table p a_map e),
)
name_behind c p name a_structure shaped inside e = member_behind c p name (member_at c p name) shaped inside refl
name_behind c p name a_union shaped inside e = member_behind c p name (member_at c p name) shaped inside refl
name_behind c p name left_out shaped inside e = member_behind c p name (member_at c p name) shaped inside refl

module _ (c : Codec) (p : Place) (ms : List (List ℕ × Node)) (name : List ℕ) (fs : List Frame) (d now : Decoding)
    (laws : IsConvention c.convention) (shaped : Shaped c.table) (inside : InTable c.table p) (known : Bool) (same : now.result ≡ d.result)
    (names : FirstNames c.table c.convention name known d.frames now.frames) (at : LevelAt c p (object_level ms) fs d) where
  abbrev due : Due
  due = behind_name (sort_at c p) c p name

  named_at : LevelAt c p (pair_level ms name []) fs now × ((gs : List Frame) → with_silence known gs ≡ due_frames c due ++ gs)
  named_at =
      let by = subst (λ gs. FirstNames c.table c.convention name known gs now.frames) at.1.1 names in
      let named = named_by c p ms name known at.1.0 by.0 at.1.2 by.2 in
      ((same ∙ at.0, (by.0, by.1, named.0)), named.1)

  behind : BehindName c p due
  behind = name_behind c p name (sort_at c p) shaped inside refl

  -- where it is known
  pub known_at : known ≡ true → (q : Place) × (due ≡ due_at q) × InTable c.table q
  known_at h =
      elim behind [
        | inl x ↦ x
        | inr e ↦ absurd (no_frame (sym (ap (λ b. with_silence b []) h) ∙ named_at.1 [] ∙ ap (λ y. due_frames c y ++ []) e))
      ]
    where
      no_frame : [] ≡ skip_frame 0 None ∷ [] → ⊥
      no_frame k = cc

  pub unknown_at : known ≡ false → due ≡ due_passed 0 None
  unknown_at h =
      elim behind [
        | inl x ↦ absurd (a_frame (sym (ap (λ b. with_silence b []) h) ∙ named_at.1 [] ∙ ap (λ y. due_frames c y ++ []) x.1))
        | inr e ↦ e
      ]
    where
      a_frame : skip_frame 0 None ∷ [] ≡ [] → ⊥
      a_frame k = cc

  pub known_ready : known ≡ true → WalkReady c.table now
  known_ready h =
      let there = known_at h in
      level_ready c p there.0 (pair_level ms name []) fs now laws shaped inside tt there.1 named_at.0 there.2

  pub known_took : known ≡ true → (n : Node) (e : Decoding) → TreeTaken c n now e → LevelAt c p (object_level (ms ++ (name, n) ∷ [])) fs e
  known_took h n e taken =
      let there = known_at h in
      level_took c p there.0 (pair_level ms name []) fs now laws shaped inside tt there.1 named_at.0 n e taken

  pub unknown_took : known ≡ false → (n : Node) → LevelAt c p (object_level (ms ++ (name, n) ∷ [])) fs now
  unknown_took h n = (
    named_at.0.0,
    (
      named_at.0.1.0,
      named_at.0.1.1,
      frame_passes c p (pair_level ms name []) n named_at.0.1.0 tt
          (quiet_due due 0 (unknown_at h)) named_at.0.1.2,
    ),
  )
