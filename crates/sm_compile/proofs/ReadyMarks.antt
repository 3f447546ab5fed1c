-- Marked shapes of a graph that are in order, and are closed under steps, are ready to have rows.
use Rattle.std.proofs.Common.{◌≡◌, inl, inr, ℕ, ◌<◌, Bool, true, false, not, cond, List, [], ◌∷◌, length, get_or, Some, refl, sym, ap, ◌∙◌}
use Rattle.std.proofs.Common.{subst, arith}
use Rattle.std.specs.Prelude.{◌^◌}
use Rattle.std.specs.List.{Contains}
use Rattle.std.proofs.lemmas.Option.{same_Some}
use Rattle.sm_model.specs.Graphs.{shape_entry, member_entry, GraphMaps, ShapeEntry}
use Rattle.sm_model.specs.GraphView.{IsShapeNumber, entries_of, maps_of}
use Rattle.sm_model.specs.Reaching.{AreMarks, IsMarked, id_of_number}
use Rattle.sm_model.specs.Relations.{HasEntry}
use Rattle.sm_model.specs.declared.graph.Graph.{Graph}
use Rattle.sm_model.specs.declared.kind.Kind.{Kind}
use Rattle.sm_model.specs.declared.kind.Kind.TheVariants as model
use Rattle.sm_model.proofs.LinkedEntries.{cons_cases, cons_here}
use Rattle.sm_model.proofs.NumberedIds.{number_of}
use Rattle.sm_model.proofs.OneRising.{contains_none}
use Rattle.sm_model.proofs.Worklist.{apart}
use Rattle.sm_compile.specs.Compiled.{CarriesPattern}
use Rattle.sm_compile.specs.Kinds.{has_value_members, has_values, may_target, members_of_kind, value_members}
use Rattle.sm_compile.specs.Reached.{IsReached, LeadsBy, LeadsTo}
use Rattle.sm_compile.specs.Sound.{IsSoundShape, IsValueShape, Sound}
use Rattle.sm_compile.specs.Tabling.{has_values_where, tabled_below}
use Rattle.sm_compile.specs.steps.Carrying.{IsMarkedId}
use Rattle.sm_compile.specs.steps.Looked.{IsReachedFrom, kind_under, listed_in, target_in, target_under}
use Rattle.sm_compile.specs.steps.Numbered.{AreClosed, AreReady, IsReadyMember}
use Rattle.sm_compile.specs.steps.Soundness.{AreSoundBelow}
use Rattle.sm_compile.proofs.ReachedNumbers.{to_member, to_target}
use Rattle.sm_compile.proofs.ReadyRows.{sound_among, value_among}
use Rattle.sm_compile.proofs.SoundTests.{both_of, first_of, second_of}
use Rattle.sm_compile.proofs.TabledShapes.{in_tabled, tabled_few, tabled_in, tabled_numbers_rise, value_where}

-- a shape with members at which values stand
pub value_some : (kind : Kind) (ms : List (List ℕ)) (id : List ℕ) → Contains (members_of_kind kind ms) id → has_value_members kind ≡ true
value_some kind ms id h = by (has_value_members kind) h
  where
    by : (b : Bool) → Contains (cond b ms []) id → b ≡ true
    by true there = refl
    by false there = absurd (contains_none id there)

-- the target of such a member has values
pub target_values : (kind : Kind) (unit : Bool) (target : Kind) → has_value_members kind ≡ true → may_target kind unit target ≡ true
    → has_values target ≡ true
target_values model.List unit target h may = first_of (has_values target) (not unit) may
target_values model.Map unit target h may = first_of (has_values target) (not unit) may
target_values model.Structure unit target h may = first_of (has_values target) (not unit) may
target_values model.Union unit target h may = may
target_values model.Blob unit target h may = absurd (apart h)
target_values model.Boolean unit target h may = absurd (apart h)
target_values model.Text unit target h may = absurd (apart h)
target_values model.Enum unit target h may = absurd (apart h)
target_values model.Byte unit target h may = absurd (apart h)
target_values model.Short unit target h may = absurd (apart h)
target_values model.Integer unit target h may = absurd (apart h)
target_values model.IntEnum unit target h may = absurd (apart h)
target_values model.Long unit target h may = absurd (apart h)
target_values model.Float unit target h may = absurd (apart h)
target_values model.Double unit target h may = absurd (apart h)
target_values model.BigInteger unit target h may = absurd (apart h)
target_values model.BigDecimal unit target h may = absurd (apart h)
target_values model.Timestamp unit target h may = absurd (apart h)
target_values model.Document unit target h may = absurd (apart h)
target_values model.Service unit target h may = absurd (apart h)
target_values model.Operation unit target h may = absurd (apart h)
target_values model.Resource unit target h may = absurd (apart h)

module _ (g : Graph) (marks : List Bool) (texts : List (List ℕ)) (whole : length marks ≡ length (entries_of g))
    (sound : AreSoundBelow g marks (length marks)) (closed : AreClosed g marks)
    (all : (u id : List ℕ) → IsMarkedId g marks id → CarriesPattern (maps_of g) id u → Contains texts u) where
  abbrev shapes : List ℕ
  shapes = tabled_below g marks (length marks)

  tabled_there : (k : ℕ) → k < length marks → IsMarked marks k → IsValueShape (maps_of g) (id_of_number g k) → Contains shapes k
  tabled_there k lt marked value =
      in_tabled g marks (length marks) k lt
      (both_of (get_or marks k false) (has_values_where (kind_under (maps_of g) (id_of_number g k))) marked
      ((value_where (maps_of g) (id_of_number g k)).1 value))

  -- a member of a marked shape
  member_ready : (k : ℕ) (s : ShapeEntry) → IsShapeNumber g k → IsMarked marks k → HasEntry (maps_of g) (id_of_number g k) (shape_entry s)
      → IsSoundShape (maps_of g) (id_of_number g k) s → (j : ℕ) → Contains (value_members s) (id_of_number g j)
      → IsReadyMember g (tabled_below g marks (length marks)) texts j
  member_ready k s lt marked there right j among =
      let maps = maps_of g in
      let id = id_of_number g j in
      let listed = value_among s.kind s.members id among in
      let member = sound_among maps s.kind s.members id right.each listed in
      let x = number_of g id (member_entry member.m, member.there) in
      let step : LeadsTo maps (id_of_number g k) (id_of_number g x.0) =
      to_member g k x.0 lt x.1
      (subst (λ ids. Contains ids (id_of_number g x.0)) (sym (ap listed_in there)) (subst (Contains s.members) (sym x.2) listed)) in
      let here = closed k x.0 marked (x.1, step) in
      record {
        carried = λ u h. all u id (x.0, x.1, here, x.2) h;
        target = λ t gt is.
            let is2 : target_under maps (id_of_number g x.0) ≡ Some (id_of_number g t) = ap (target_under maps) x.2 ∙ is in
            let there2 = closed x.0 t here (gt, to_target g x.0 t x.1 gt is2) in
            let same : member.m.target ≡ id_of_number g t = same_Some member.m.target (id_of_number g t)
            (sym (ap target_in member.there) ∙ is) in
            tabled_there t (subst (λ n. t < n) (sym whole) gt) there2 (
              member.target,
              subst (λ i. HasEntry maps i (shape_entry member.target)) same member.found,
              target_values s.kind _ member.target.kind (value_some s.kind s.members id among) member.may_target,
            );
      }

  pub ready_told : length (entries_of g) < 2 ^ 32 → AreReady g (tabled_below g marks (length marks)) texts
  ready_told few = record {
    few = let le = tabled_few g marks (length marks) in omega (arith, few, le, whole);
    rise = tabled_numbers_rise g marks (length marks);
    each = λ k there.
        let r = tabled_in g marks (length marks) k there in
        let marked = first_of (get_or marks k false) (has_values_where (kind_under (maps_of g) (id_of_number g k))) r.1 in
        let value = (value_where (maps_of g) (id_of_number g k)).0
        (second_of (get_or marks k false) (has_values_where (kind_under (maps_of g) (id_of_number g k))) r.1) in
        let lt : IsShapeNumber g k = subst (λ n. k < n) whole r.0 in
        let right = sound k r.0 marked value.0 value.1 in
        record {
          number = lt;
          s = value.0;
          there = value.1;
          sound = right;
          carried = λ u h. all u (id_of_number g k) (k, lt, marked, refl) h;
          members = member_ready k value.0 lt marked value.1 right;
        };
  }

-- marks of what one shape reaches
pub by_more : (g : GraphMaps) (from mid to : List ℕ) (by : List (List ℕ)) → LeadsBy g from by mid → LeadsTo g mid to
    → (more : List (List ℕ)) × LeadsBy g from more to
by_more g from mid to [] h step = (to ∷ [], (subst (λ i. LeadsTo g i to) (sym h) step, refl))
by_more g from mid to (next ∷ by) h step = let r = by_more g next mid to by h.1 step in (next ∷ r.0, (h.0, r.1))

module _ (g : Graph) where
  pub closed_told : (roots : List ℕ) (marks : List Bool)
      → AreMarks (length (entries_of g)) (λ k. IsReachedFrom g roots (id_of_number g k)) marks → AreClosed g marks
  closed_told roots marks are a b marked step =
      let r = ((are.marked a).0 marked).1 in
      (are.marked b).1
      (step.0, (r.0, r.1, by_more (maps_of g) (id_of_number g r.0) (id_of_number g a) (id_of_number g b) r.2.0 r.2.1 step.1))

  pub one_root : (root : ℕ) (marks : List Bool)
      → AreMarks (length (entries_of g)) (λ k. IsReachedFrom g (root ∷ []) (id_of_number g k)) marks
      → AreMarks (length (entries_of g)) (λ k. IsReached (maps_of g) (id_of_number g root) (id_of_number g k)) marks
  one_root root marks are = record {
    whole = are.whole;
    marked = λ k. (
      λ h. let r = (are.marked k).0 h in (
        r.0,
        subst (λ j. IsReached (maps_of g) (id_of_number g j) (id_of_number g k))
            (only r.1.0 r.1.1) r.1.2,
      ),
      λ h. (are.marked k).1 (h.0, (root, cons_here root [], h.1)),
    );
  }
    where
      only : (r : ℕ) → Contains (root ∷ []) r → r ≡ root
      only r h = elim (cons_cases root [] r h) [ inl is ↦ sym is | inr none ↦ absurd (omega (arith, none.1)) ]

  pub sound_marks : (root : List ℕ) (marks : List Bool) → AreMarks (length (entries_of g))
      (λ k. IsReached (maps_of g) root (id_of_number g k)) marks
      → IsValueShape (maps_of g) root → Sound (maps_of g) root → AreSoundBelow g marks (length marks)
  sound_marks root marks are value sound k less marked s has = sound value (id_of_number g k) s ((are.marked k).0 marked).1 has

  -- the root is among them
  pub root_tabled : (root : ℕ) (marks : List Bool)
      → AreMarks (length (entries_of g)) (λ k. IsReachedFrom g (root ∷ []) (id_of_number g k)) marks → IsShapeNumber g root
      → IsValueShape (maps_of g) (id_of_number g root) → Contains (tabled_below g marks (length marks)) root
  root_tabled root marks are lt value =
      in_tabled g marks (length marks) root (subst (λ n. root < n) (sym are.whole) lt)
      (both_of (get_or marks root false) (has_values_where (kind_under (maps_of g) (id_of_number g root)))
      ((are.marked root).1 (lt, (root, cons_here root [], ([], refl))))
      ((value_where (maps_of g) (id_of_number g root)).1 value))
