-- Files that state a graph's metadata and those of its shapes whose ids pass a test, each as it is said: each such shape is stated
-- once in them.
use Rattle.std.proofs.Common.{◌≡◌, inl, inr, ℕ, Bool, true, false, List, [], ◌∷◌, ◌++◌, map, Option, Some, None, refl, sym, ap}
use Rattle.std.proofs.Common.{subst, ◌∙◌}
use Rattle.std.proofs.Common.{append_assoc, bytes_eq}
use Rattle.std.specs.Prelude.{◌&&◌, not, if◌then◌else◌}
use Rattle.std.specs.List.{cons_option}
use Rattle.std.specs.FinMap as fin
use Rattle.std.proofs.lemmas.Bool.{cases_Bool}
use Rattle.std.proofs.lemmas.Slice.Eq.{bytes_eq-Decides}
use Rattle.sm_tree.specs.Node.{Node, Nodes, Members, null, bool, int, number, text, bytes, tag, opaque, list, object, no_nodes, node}
use Rattle.sm_tree.specs.Node.{no_members, member}
use Rattle.sm_model.specs.Formed.{DifferInNames, StandsAmong}
use Rattle.sm_model.specs.GraphView.{IsShapeEntry}
use Rattle.sm_model.specs.Graphs.{Entry, GraphMaps, ShapeEntry, member_entry, shape_entry}
use Rattle.sm_model.specs.PreludeShapes.{is_prelude_id}
use Rattle.sm_model.specs.Raw.{raw_of, raws_of, raw_members_of, node_raws, member_raws}
use Rattle.sm_model.specs.Said.{Said, ShapeSaid, metadata_said, shape_said}
use Rattle.sm_model.proofs.MapFacts.{Each, keys, keys_differ}
use Rattle.sm_merge.specs.Meaning.{Defined, meanings, members_meant, node_meant, nodes_meant}
use Rattle.sm_merge.specs.Places.{defined_by, metadata_values, shapes_under}
use Rattle.sm_merge.specs.Stated.{ShapeStated, shape_with_ids, stated}
use Rattle.sm_merge.specs.Restated.{AllStateOf, IsShapeIn}
use Rattle.sm_merge.proofs.EntriesFound.{Has, each_has, get_has, has_get, has_key}
use Rattle.sm_merge.proofs.PreludeGiven.{clash}
use Rattle.sm_merge.proofs.RegularGraphs.{IsRegular, IsRegularShape}
use Rattle.sm_merge.proofs.Restating.{prelude_id}

-- a node in which no bare id stands means itself
module _ (defined : Defined) where
  mutual
    pub meant_itself : (n : Node) → node_meant defined (raw_of n) ≡ n
    meant_itself null = refl
    meant_itself (bool b) = refl
    meant_itself (int z) = refl
    meant_itself (number t) = refl
    meant_itself (text t) = refl
    meant_itself (bytes t) = refl
    meant_itself (tag k n) = refl
    meant_itself (opaque b) = refl
    meant_itself (list ns) = ap list (entries_itself ns)
    meant_itself (object ms) = ap object (pairs_itself ms)

    entries_itself : (ns : Nodes) → nodes_meant defined (raws_of (node_raws ns)) ≡ ns
    entries_itself no_nodes = refl
    entries_itself (node n ns) = λ i. node (meant_itself n i) (entries_itself ns i)

    pairs_itself : (ms : Members) → members_meant defined (raw_members_of (member_raws ms)) ≡ ms
    pairs_itself no_members = refl
    pairs_itself (member k n ms) = λ i. member k (meant_itself n i) (pairs_itself ms i)

-- what such a file says
abbrev pub SaysShape : Type 0
SaysShape = List ℕ → ShapeEntry → ShapeSaid

abbrev pub pairs_said : List (List ℕ × Node) → List Said
pairs_said ps = map (λ p. metadata_said p.0 (raw_of p.1)) ps

abbrev pub shape_if : (List ℕ → Bool) → SaysShape → List ℕ → Entry → List Said
shape_if passes said id (shape_entry s) = if passes id then shape_said (said id s) ∷ [] else []
shape_if passes said id (member_entry m) = []

abbrev pub shapes_if : (List ℕ → Bool) → SaysShape → List (List ℕ × Entry) → List Said
shapes_if passes said [] = []
shapes_if passes said (e ∷ es) = shape_if passes said e.0 e.1 ++ shapes_if passes said es

abbrev pub file_if : (List ℕ → Bool) → SaysShape → GraphMaps → List Said
file_if passes said g = pairs_said (fin.entries g.metadata) ++ shapes_if passes said (fin.entries g.shapes)

cons_joined : {A : Type 0} (o : Option A) (xs ys : List A) → cons_option o (xs ++ ys) ≡ cons_option o xs ++ ys
cons_joined None xs ys = refl
cons_joined (Some x) xs ys = refl

module _ (defined : Defined) (id : List ℕ) where
  abbrev pub stated_under : List Said → List ShapeStated
  stated_under ss = shapes_under id (map (stated defined) ss)

  pub under_joined : (xs ys : List Said) → stated_under (xs ++ ys) ≡ stated_under xs ++ stated_under ys
  under_joined [] ys = refl
  under_joined (x ∷ xs) ys =
      ap (cons_option (defined_by id (stated defined x))) (under_joined xs ys)
      ∙ cons_joined (defined_by id (stated defined x)) (stated_under xs) (stated_under ys)

  no_pairs : (ps : List (List ℕ × Node)) → stated_under (pairs_said ps) ≡ []
  no_pairs [] = refl
  no_pairs (p ∷ ps) = no_pairs ps

  module _ (passes : List ℕ → Bool) (said : SaysShape) (ids : (k : List ℕ) (t : ShapeEntry) → (said k t).id ≡ k) where
    abbrev one_if : List ℕ → ShapeEntry → List ShapeStated → Bool → List ShapeStated
    one_if k t more b = cons_option (if b then Some (shape_with_ids defined (said k t)) else None) more

    -- a shape with another id
    passed : (k : List ℕ) (t : ShapeEntry) (more : List Said) → bytes_eq k id ≡ false
        → stated_under (shape_if passes said k (shape_entry t) ++ more) ≡ stated_under more
    passed k t more apart = by_test (passes k)
      where
        by_test : (b : Bool) → stated_under ((if b then shape_said (said k t) ∷ [] else []) ++ more) ≡ stated_under more
        by_test true =
            ap (λ b. one_if k t (stated_under more) (b && not (is_prelude_id id))) (ap (λ j. bytes_eq j id) (ids k t) ∙ apart)
        by_test false = refl

    absent : (es : List (List ℕ × Entry)) → (StandsAmong id (keys es) → ⊥) → stated_under (shapes_if passes said es) ≡ []
    absent [] none = refl
    absent ((k, member_entry m) ∷ es) none = absent es (λ later. none (inr later))
    absent ((k, shape_entry t) ∷ es) none = elim (cases_Bool (bytes_eq k id)) [
      | inl same ↦ absurd (none (inl (sym ((bytes_eq-Decides k id).0 same))))
      | inr apart ↦ passed k t (shapes_if passes said es) apart ∙ absent es (λ later. none (inr later))
    ]

    unsaid : (es : List (List ℕ × Entry)) → passes id ≡ false → stated_under (shapes_if passes said es) ≡ []
    unsaid [] isnt = refl
    unsaid ((k, member_entry m) ∷ es) isnt = unsaid es isnt
    unsaid ((k, shape_entry t) ∷ es) isnt = elim (cases_Bool (bytes_eq k id)) [
      | inl same ↦
          ap (λ b. stated_under ((if b then shape_said (said k t) ∷ [] else []) ++ shapes_if passes said es))
          (ap passes ((bytes_eq-Decides k id).0 same) ∙ isnt)
          ∙ unsaid es isnt
      | inr apart ↦ passed k t (shapes_if passes said es) apart ∙ unsaid es isnt
    ]

    abbrev pub IsOne : List ShapeStated → Type 0
    IsOne ts = (t : ShapeStated) × (ts ≡ t ∷ [])

    one_there : (es : List (List ℕ × Entry)) → DifferInNames (keys es) → (s : ShapeEntry) → Has id (shape_entry s) es
        → passes id ≡ true → is_prelude_id id ≡ false → IsOne (stated_under (shapes_if passes said es))
    one_there [] d s has is own = absurd has
    one_there ((k, member_entry m) ∷ es) d s (inl (same, e)) is own = absurd (subst IsShapeEntry e tt)
    one_there ((k, member_entry m) ∷ es) d s (inr later) is own = one_there es d.1 s later is own
    one_there ((k, shape_entry t) ∷ es) d s (inl (same, e)) is own =
        let one : ShapeStated = shape_with_ids defined (said k t) in
        let rest : stated_under (shapes_if passes said es) ≡ [] =
        absent es (λ among. d.0 (subst (λ j. StandsAmong j (keys es)) same among)) in (
          one,
          ap (λ b. stated_under ((if b then shape_said (said k t) ∷ [] else []) ++ shapes_if passes said es))
              (ap passes (sym same) ∙ is)
              ∙ ap (λ b. cons_option (if b && not (is_prelude_id id) then Some one else None) (stated_under (shapes_if passes said es)))
              (ap (λ j. bytes_eq j id) (ids k t) ∙ (bytes_eq-Decides k id).1 (sym same))
              ∙ ap (λ b. cons_option (if not b then Some one else None) (stated_under (shapes_if passes said es))) own
              ∙ ap (λ ts. one ∷ ts) rest,
        )
    one_there ((k, shape_entry t) ∷ es) d s (inr later) is own = elim (cases_Bool (bytes_eq k id)) [
      | inl same ↦
          absurd (d.0 (subst (λ j. StandsAmong j (keys es)) (sym ((bytes_eq-Decides k id).0 same)) (has_key id (shape_entry s) es later)))
      | inr apart ↦ subst IsOne (sym (passed k t (shapes_if passes said es) apart)) (one_there es d.1 s later is own)
    ]

    module _ (g : GraphMaps) where
      under_shapes : stated_under (file_if passes said g) ≡ stated_under (shapes_if passes said (fin.entries g.shapes))
      under_shapes =
          under_joined (pairs_said (fin.entries g.metadata)) (shapes_if passes said (fin.entries g.shapes))
          ∙ ap (λ ts. ts ++ stated_under (shapes_if passes said (fin.entries g.shapes))) (no_pairs (fin.entries g.metadata))

      pub one_in_file : (s : ShapeEntry) → fin.get g.shapes id ≡ Some (shape_entry s) → passes id ≡ true → is_prelude_id id ≡ false
          → IsOne (stated_under (file_if passes said g))
      one_in_file s found is own =
          subst IsOne (sym under_shapes)
          (one_there (fin.entries g.shapes) (keys_differ g.shapes) s (get_has g.shapes id (shape_entry s) found) is own)

      pub none_in_file : passes id ≡ false → stated_under (file_if passes said g) ≡ []
      none_in_file isnt = under_shapes ∙ unsaid (fin.entries g.shapes) isnt

-- each statement is of the graph
module _ (g : GraphMaps) (regular : IsRegular g) (defined : Defined) (keeps : List ℕ → Bool) where
  abbrev pub AllStated : List Said → Type 0
  AllStated ss = AllStateOf keeps g (map (stated defined) ss)

  pub states_joined : (xs ys : List Said) → AllStated xs → AllStated ys → AllStated (xs ++ ys)
  states_joined [] ys h k = k
  states_joined (x ∷ xs) ys h k = (h.0, states_joined xs ys h.1 k)

  pairs_state : (ps : List (List ℕ × Node)) → Each (λ k n. fin.get g.metadata k ≡ Some n) ps → AllStated (pairs_said ps)
  pairs_state [] h = tt
  pairs_state (p ∷ ps) h = (h.0 ∙ ap (λ n. Some n) (sym (meant_itself defined p.1)), pairs_state ps h.1)

  module _ (passes : List ℕ → Bool) (said : SaysShape)
      (kept : (id : List ℕ) → passes id ≡ true → (is_prelude_id id ≡ false) × (keeps id ≡ true))
      (ids : (k : List ℕ) (t : ShapeEntry) → (said k t).id ≡ k) (plain : (k : List ℕ) (t : ShapeEntry) → (said k t).mixins ≡ [])
      (again : (id : List ℕ) (s : ShapeEntry) → fin.get g.shapes id ≡ Some (shape_entry s) → IsRegularShape g id s
      → IsShapeIn g.shapes (shape_with_ids defined (said id s)).shape) where
    states : (id : List ℕ) (s : ShapeEntry) → fin.get g.shapes id ≡ Some (shape_entry s) → (is_prelude_id id ≡ false) × (keeps id ≡ true)
        → AllStated (shape_said (said id s) ∷ [])
    states id s found k = elim (regular.entries id (shape_entry s) found) [
      | inl of ↦ clash (is_prelude_id id) (prelude_id id (shape_entry s) of) k.0
      | inr r ↦ (
        (
          ap (meanings defined) (plain id s),
          again id s found r,
          ap is_prelude_id (ids id s) ∙ k.0,
          ap keeps (ids id s) ∙ k.1,
        ),
        tt,
      )
    ]

    shape_states : (id : List ℕ) (e : Entry) → fin.get g.shapes id ≡ Some e → AllStated (shape_if passes said id e)
    shape_states id (member_entry m) found = tt
    shape_states id (shape_entry s) found = by_test (passes id) refl
      where
        by_test : (b : Bool) → passes id ≡ b → AllStated (if b then shape_said (said id s) ∷ [] else [])
        by_test true is = states id s found (kept id is)
        by_test false isnt = tt

    shapes_state : (es : List (List ℕ × Entry)) → Each (λ id e. fin.get g.shapes id ≡ Some e) es → AllStated (shapes_if passes said es)
    shapes_state [] h = tt
    shapes_state (e ∷ es) h =
        states_joined (shape_if passes said e.0 e.1) (shapes_if passes said es) (shape_states e.0 e.1 h.0) (shapes_state es h.1)

    pub file_states : AllStated (file_if passes said g)
    file_states =
        states_joined (pairs_said (fin.entries g.metadata)) (shapes_if passes said (fin.entries g.shapes))
        (pairs_state (fin.entries g.metadata)
        (each_has (λ k n. fin.get g.metadata k ≡ Some n) (fin.entries g.metadata) (λ k n there. has_get g.metadata k n there)))
        (shapes_state (fin.entries g.shapes)
        (each_has (λ k e. fin.get g.shapes k ≡ Some e) (fin.entries g.shapes) (λ k e there. has_get g.shapes k e there)))

-- a file states all metadata
abbrev IsFull : List Node → Type 0
IsFull [] = ⊥
IsFull (n ∷ ns) = Unit {0}

module _ (defined : Defined) (key : List ℕ) (n : Node) where
  abbrev pub stated_values : List Said → List Node
  stated_values ss = metadata_values (map (stated defined) ss) key

  some_pair : (ps : List (List ℕ × Node)) (more : List Said) → Has key n ps → IsFull (stated_values (pairs_said ps ++ more))
  some_pair [] more has = absurd has
  some_pair (p ∷ ps) more has = by_test (λ later. some_pair ps more later) (bytes_eq p.0 key) refl has
    where
      by_test : (Has key n ps → IsFull (stated_values (pairs_said ps ++ more))) → (b : Bool) → bytes_eq p.0 key ≡ b → Has key n (p ∷ ps)
          → IsFull (cons_option (if b then Some (node_meant defined (raw_of p.1)) else None) (stated_values (pairs_said ps ++ more)))
      by_test rest true same has = tt
      by_test rest false apart (inl (same, is)) = clash (bytes_eq p.0 key) ((bytes_eq-Decides p.0 key).1 (sym same)) apart
      by_test rest false apart (inr later) = rest later

  pub metadata_there : (passes : List ℕ → Bool) (said : SaysShape) (g : GraphMaps) (more : List Said) → fin.get g.metadata key ≡ Some n
      → stated_values (file_if passes said g ++ more) ≡ [] → ⊥
  metadata_there passes said g more found none =
      let shapes : List Said = shapes_if passes said (fin.entries g.shapes) in
      subst IsFull (ap stated_values (sym (append_assoc (pairs_said (fin.entries g.metadata)) shapes more)) ∙ none)
      (some_pair (fin.entries g.metadata) (shapes ++ more) (get_has g.metadata key n found))
