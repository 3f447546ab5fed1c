-- Marks of faulty shapes, the links between values, and the marks of checked shapes that follow from them.
use Rattle.std.proofs.Common.{◌≡◌, inl, inr, ℕ, ◌<◌, ◌+◌, Bool, true, false, List, [], ◌∷◌, ◌++◌, length, get_or, take, Option, Some, None}
use Rattle.std.proofs.Common.{refl, sym, ap, ◌∙◌, subst}
use Rattle.std.specs.Prelude.{◌↔◌, ◌&&◌, not}
use Rattle.std.specs.FinMap as fin
use Rattle.std.specs.List.{Contains}
use Rattle.std.proofs.lemmas.List.{take_more}
use Rattle.std.proofs.lemmas.List.Elements.{Contains-append_left, Contains-push, Contains-push_cases}
use Rattle.sm_model.specs.Graphs.{Entry, GraphMaps, member_entry, shape_entry}
use Rattle.sm_model.specs.GraphView.{IsShapeNumber, entries_of, maps_of}
use Rattle.sm_model.specs.Links.{AreLinks}
use Rattle.sm_model.specs.Reaching.{AreMarks, id_of_number}
use Rattle.sm_model.specs.declared.graph.Graph.{Graph}
use Rattle.sm_model.specs.declared.link.Link.{Link}
use Rattle.sm_model.proofs.OneRising.{contains_none}
use Rattle.sm_model.proofs.Searching.{and_left, and_right}
use Rattle.sm_model.proofs.Worklist.{apart}
use Rattle.sm_shapes.specs.declared.kinds.ShapeKind.{ShapeKind}
use Rattle.sm_shapes.specs.declared.kinds.ShapeKind.TheVariants.{LeftOut}
use Rattle.sm_select.specs.Neighbors.{AreBelow, AreNeighbors, AreReached, StayBelow}
use Rattle.sm_select.proofs.MarkedNumbers.{marks_same, unset}
use Rattle.sm_compile.specs.Kinds.{is_left_out, table_kind}
use Rattle.sm_compile.specs.Looked.{kind_in, kind_under}
use Rattle.sm_compile.specs.Served.{IsLeftOut}
use Rattle.sm_compile.proofs.TabledShapes.{value_where}
use Rattle.sm_passes.proofs.OwnShapes.{not_so}
use Rattle.sm_rules.specs.NodeChecks.{IsChecked}
use Rattle.sm_value_rules.specs.steps.Checking.{AreFaultMarks, AreOfValues, AreValueLinks, IsOfValues, TellsFault, has_values_at}
use Rattle.sm_value_rules.specs.steps.Checking.{is_checked_at, is_type_left_out}
use Rattle.sm_value_rules.proofs.CheckedShapes.{checked_where, no_way_marked, none_marked}

left_out_is : (kind : ShapeKind) → is_left_out kind ≡ true → kind ≡ LeftOut
left_out_is LeftOut h = refl
left_out_is kind h = absurd (apart h)

-- a shape of a type left out, by its type
pub left_out_seen : (g : GraphMaps) (id : List ℕ) → is_type_left_out (kind_under g id) ≡ true → IsLeftOut g id
left_out_seen g id h = by (fin.get g.shapes id) refl h
  where
    by : (o : Option Entry) → fin.get g.shapes id ≡ o → is_type_left_out (kind_in o) ≡ true → IsLeftOut g id
    by None is h = absurd (apart h)
    by (Some (shape_entry s)) is h = (s, is, left_out_is (table_kind s.kind) h)
    by (Some (member_entry m)) is h = absurd (apart h)

-- marks that are made one after the other
pub faults_marked : (g : Graph) (marks : List Bool) (n : ℕ) → n ≡ length (entries_of g) → length marks ≡ n
    → ((k : ℕ) → k < n → TellsFault g k (get_or marks k false)) → AreFaultMarks g marks
faults_marked g marks n all long each = record { whole = long ∙ all; each = λ k small. each k (subst (λ m. k < m) long small) }

-- links by these relations, one after the other
pub none_of_values : AreOfValues [] []
none_of_values l = (λ c. absurd (contains_none l c), λ h. absurd (contains_none l h.0))

module _ (all links : List Link) (l : Link) (are : AreOfValues all links) where
  pub value_more : IsOfValues l.relation → AreOfValues (all ++ l ∷ []) (links ++ l ∷ [])
  value_more is x = (
    λ c. elim (Contains-push_cases links l x c) [
      | inl old ↦ let h = (are x).0 old in (Contains-append_left all (l ∷ []) x h.0, h.1)
      | inr same ↦ (subst (Contains (all ++ l ∷ [])) same (Contains-push all l), subst (λ (y : Link). IsOfValues y.relation) same is)
    ],
    λ h. elim (Contains-push_cases all l x h.0) [
      | inl old ↦ Contains-append_left links (l ∷ []) x ((are x).1 (old, h.1))
      | inr same ↦ subst (Contains (links ++ l ∷ [])) same (Contains-push links l)
    ],
  )

  pub other_more : (IsOfValues l.relation → ⊥) → AreOfValues (all ++ l ∷ []) links
  other_more not_is x = (
    λ c. let h = (are x).0 c in (Contains-append_left all (l ∷ []) x h.0, h.1),
    λ h. elim (Contains-push_cases all l x h.0) [
      | inl old ↦ (are x).1 (old, h.1)
      | inr same ↦ absurd (not_is (subst (λ (y : Link). IsOfValues y.relation) (sym same) h.1))
    ],
  )

pub values_next : (all old now : List Link) (i : ℕ) (d : Link) → i < length all
    → ((xs : List Link) → AreOfValues xs old → AreOfValues (xs ++ get_or all i d ∷ []) now) → AreOfValues (take i all) old
    → AreOfValues (take (i + 1) all) now
values_next all old now i d within put are = subst (λ xs. AreOfValues xs now) (sym (take_more all i d within)) (put (take i all) are)

pub value_links_told : (g : Graph) (all links : List Link) → AreLinks g all → AreOfValues all links → AreValueLinks g links
value_links_told g all links are of l = (
  λ c. let h = (of l).0 c in ((are l).0 h.0, h.1),
  λ h. (of l).1 ((are l).1 h.0, h.1),
)

-- they lead between the numbers of the graph, and so do the steps back
pub links_below : (g : Graph) (count : ℕ) (links : List Link) → AreValueLinks g links → count ≡ length (entries_of g) → AreBelow count links
links_below g count links are long l among =
    let at = ((are l).0 among).0 in (subst (λ n. l.from < n) (sym long) at.from, subst (λ n. l.to < n) (sym long) at.to)

pub stay_below : (count : ℕ) (links : List Link) (rows : List (List ℕ)) → AreBelow count links → AreNeighbors count links true rows
    → StayBelow (length rows) rows
stay_below count links rows below near a b h =
    let l = (near.steps a b).0 h in
    subst (λ n. b < n) (sym near.whole) (subst (λ x. x < count) l.2.2 (below l.0 l.1).0)

module _ (g : Graph) (faulty : List Bool) (are : AreFaultMarks g faulty) (links : List Link) (value : AreValueLinks g links)
    (rows : List (List ℕ)) (near : AreNeighbors (length (entries_of g)) links true rows) (before : List Bool)
    (reached : AreReached rows faulty before) where
  checked_told : (k : ℕ) → IsShapeNumber g k → (is_checked_at g faulty before k ≡ true) ↔ IsChecked (maps_of g) (id_of_number g k)
  checked_told k lt =
      let f = get_or faulty k false in
      let b = get_or before k false in (
        λ h.
            let has = and_left (has_values_at g k) (not f && not b) h in
            let rest = and_right (has_values_at g k) (not f && not b) h in
            let fine = not_so f (and_left (not f) (not b) rest) in
            let no_way = not_so b (and_right (not f) (not b) rest) in
            checked_where g faulty are links value rows near before reached k lt ((value_where (maps_of g) (id_of_number g k)).0 has)
            (λ marked. apart (sym fine ∙ marked)) (λ marked. apart (sym no_way ∙ marked)),
        λ is.
            let has = (value_where (maps_of g) (id_of_number g k)).1 is.has_values in
            let fine = unset f (none_marked g faulty are links value rows near before reached k lt is) in
            let no_way = unset b (no_way_marked g faulty are links value rows near before reached k lt is) in
            ap (λ x. x && (not f && not b)) has ∙ ap (λ x. not x && not b) fine ∙ ap not no_way,
      )

  pub all_checked : (marks : List Bool) → AreMarks (length (entries_of g)) (λ k. is_checked_at g faulty before k ≡ true) marks
      → AreMarks (length (entries_of g)) (λ k. IsChecked (maps_of g) (id_of_number g k)) marks
  all_checked marks h =
      marks_same (λ k. is_checked_at g faulty before k ≡ true) (λ k. IsChecked (maps_of g) (id_of_number g k))
      (length (entries_of g)) marks checked_told h
