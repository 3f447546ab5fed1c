-- A graph that is made of entries, as those of given shapes, is what a change makes of a graph, where each of them comes of an entry that
-- stays, and each that stays is among them.
use Rattle.std.proofs.Common.{◌≡◌, ℕ, List, Some, sym, ap, subst, ◌∙◌}
use Rattle.std.specs.Cmp.Lexicographic.{nat_list_cmp_total}
use Rattle.std.specs.FinMap as fin
use Rattle.std.specs.FinMap.{get-from_entries}
use Rattle.std.proofs.lemmas.Option.{same_Some}
use Rattle.sm_tree.specs.Node.{Node}
use Rattle.sm_model.specs.Formed.{StandsAmong}
use Rattle.sm_model.specs.Graphs.{Entry, GraphMaps, NodeMap, ShapeGiven, given_entries, graph_of}
use Rattle.sm_model.specs.Relations.{HasEntry}
use Rattle.sm_model.proofs.MapFacts.{Each, found_among, keys}
use Rattle.sm_transform.specs.Changed.{IsMadeOf}
use Rattle.sm_transform.proofs.FoundEntries.{made_each, map_again}

module _ (Stays : List ℕ → Type 0) (moved : List ℕ → List ℕ) (after : Entry → Entry) (g : GraphMaps) where
  -- what comes of an entry that stays
  abbrev pub Comes : List ℕ → Entry → Type 0
  Comes id e = (old : List ℕ) × (f : Entry) × HasEntry g old f × Stays old × (id ≡ moved old) × Path Entry e (after f)

  abbrev pub AreApart : Type 0
  AreApart = (old other : List ℕ) (f k : Entry) → HasEntry g old f → HasEntry g other k → moved old ≡ moved other → old ≡ other

  abbrev pub AreCovered : List (List ℕ × Entry) → Type 0
  AreCovered es = (old : List ℕ) (f : Entry) → HasEntry g old f → Stays old → StandsAmong (moved old) (keys es)

  one_comes : AreApart → (id : List ℕ) (e x : Entry) → Comes id e → Comes id x → x ≡ e
  one_comes apart id e x a b =
      let old : b.0 ≡ a.0 = apart b.0 a.0 b.1 a.1 b.2 a.2 (sym b.4 ∙ a.4) in
      let same : b.1 ≡ a.1 = same_Some b.1 a.1 (sym b.2 ∙ ap (fin.get g.shapes) old ∙ a.2) in
      b.5 ∙ ap after same ∙ sym a.5

  pub made_by : (es : List (List ℕ × Entry)) (metadata : NodeMap) → AreApart → Each Comes es → AreCovered es
      → Path NodeMap metadata g.metadata → IsMadeOf Stays moved after g (record { shapes = fin.from_entries es; metadata = metadata })
  made_by es metadata apart each covered same = record {
    shapes = λ id e. (
      λ h. made_each Comes es each id e h,
      λ h.
          let among : StandsAmong id (keys es) = subst (λ k. StandsAmong k (keys es)) (sym h.4) (covered h.0 h.1 h.2 h.3) in
          let r = found_among Comes id es each among in
          get-from_entries nat_list_cmp_total es id ∙ r.1 ∙ ap (λ (x : Entry). Some x) (one_comes apart id e r.0 h r.2),
    );
    metadata = same;
  }

  pub made_of : (ss : List ShapeGiven) (metadata : List (List ℕ × Node)) → AreApart → Each Comes (given_entries ss)
      → AreCovered (given_entries ss) → metadata ≡ fin.entries g.metadata → IsMadeOf Stays moved after g (graph_of ss metadata)
  made_of ss metadata apart each covered same =
      made_by (given_entries ss) (fin.from_entries metadata) apart each covered
      (ap (λ (ps : List (List ℕ × Node)). fin.from_entries ps) same ∙ map_again g.metadata)
