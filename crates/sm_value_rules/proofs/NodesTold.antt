-- What a table of the shapes that a pass asks for tells of a node is what the definition tells.
use Rattle.std.proofs.Common.{◌≡◌, inl, inr, ℕ, ◌<◌, ◌≤◌, ◌+◌, Bool, true, false, List, [], ◌∷◌, ◌++◌, length, map, Option, Some, None}
use Rattle.std.proofs.Common.{refl, sym, ap, ◌∙◌, subst, arith}
use Rattle.std.specs.Prelude.{Ok, Err, slice_get}
use Rattle.std.specs.List.{Contains}
use Rattle.std.proofs.lemmas.Bool.{cases_lt}
use Rattle.std.proofs.lemmas.List.{length-map}
use Rattle.std.proofs.lemmas.List.Elements.{Contains-append_left, Contains-push, Contains-push_cases}
use Rattle.std.proofs.lemmas.Option.{slice_get-map, slice_get_within}
use Rattle.std.specs.Option.{option_map}
use Rattle.sm_tree.specs.Node.{Node}
use Rattle.sm_model.specs.GraphView.{AreShapeNumbers, maps_of}
use Rattle.sm_model.specs.Reaching.{id_of_number}
use Rattle.sm_model.specs.declared.graph.Graph.{Graph}
use Rattle.sm_model.proofs.OneRising.{contains_behind, contains_head, contains_none}
use Rattle.sm_model.proofs.Worklist.{apart}
use Rattle.sm_shapes.specs.Fitting.{any_text}
use Rattle.sm_shapes.specs.InOrder.{AreStored}
use Rattle.sm_shapes.specs.Places.{root_place}
use Rattle.sm_shapes.specs.TableData.{TableData, shape_count}
use Rattle.sm_shapes.specs.TableView.{table_data}
use Rattle.sm_shapes.specs.Values.{Val}
use Rattle.sm_shapes.specs.declared.fault.FaultKind.{FaultKind}
use Rattle.sm_shapes.specs.declared.tables.Table.{Table}
use Rattle.sm_codec.specs.Answers.{Decodes}
use Rattle.sm_codec.specs.CodecLaws.{IsCodec}
use Rattle.sm_codec.specs.Defaults.{filled, node_codec}
use Rattle.sm_codec.specs.FaultLists.{Reading}
use Rattle.sm_codec.specs.FilledLaws.{IsFilled}
use Rattle.sm_codec.specs.Readings.{reading}
use Rattle.sm_codec.proofs.NodeLaws.{node_laws}
use Rattle.sm_codec.proofs.ReadValues.{one_value}
use Rattle.sm_compile.specs.Answers.{StoreSeen}
use Rattle.sm_compile.specs.Compiled.{SaysShape}
use Rattle.sm_compile.specs.Roots.{AreSoundRoots, IsTableOfRoots}
use Rattle.sm_compile.specs.Sound.{IsValueShape, Sound}
use Rattle.sm_compile.specs.declared.tabled.Tabled.{Tabled}
use Rattle.sm_compile.proofs.RowsAlike.{each_length}
use Rattle.sm_compile.proofs.TabledShapes.{mapped_from, mapped_to}
use Rattle.sm_rules.specs.NodeChecks.{HasRow, IsChecked, node_reading}
use Rattle.sm_value_rules.specs.steps.Nodes.{AddsRoots, AreRoots, IsCheckedNumber, IsReadyTable, IsTableFor, TellsFaults, TellsReading}
use Rattle.sm_value_rules.specs.steps.Nodes.{TellsRow}
use Rattle.sm_value_rules.proofs.SameFaults.{faults_by_each}

-- roots, one number after the other
module _ (g : Graph) where
  pub no_roots : (Wants : ℕ → ℕ → Type 0) → AreRoots g Wants 0 []
  no_roots Wants = record { checked = λ k c. absurd (contains_none k c); wanted = λ j k small w. absurd (omega (arith, small)) }

  pub roots_next : (Wants : ℕ → ℕ → Type 0) (n : ℕ) (old now : List ℕ) → AreRoots g Wants n old → AddsRoots g (Wants n) old now
      → AreRoots g Wants (n + 1) now
  roots_next Wants n old now are adds = record {
    checked = adds.checked are.checked;
    wanted = λ j k small w. elim (cases_lt j n) [
      | inl less ↦ adds.kept k (are.wanted j k less w)
      | inr more ↦
          let same : j ≡ n = omega (arith, small, more) in
          adds.wanted k (subst (λ i. Wants i k) same w)
    ];
  }

  pub roots_all : (Wants : ℕ → ℕ → Type 0) (n m : ℕ) (roots : List ℕ) → m ≤ n → AreRoots g Wants n roots → AreRoots g Wants m roots
  roots_all Wants n m roots le are = record {
    checked = are.checked;
    wanted = λ j k small w. let less : j < n = omega (arith, small, le) in are.wanted j k less w;
  }

  pub adds_one : (Wanted : ℕ → Type 0) (old : List ℕ) (root : ℕ) → IsCheckedNumber g root → ((k : ℕ) → Wanted k → root ≡ k)
      → AddsRoots g Wanted old (old ++ root ∷ [])
  adds_one Wanted old root is one = record {
    kept = λ k c. Contains-append_left old (root ∷ []) k c;
    checked = λ all k c. elim (Contains-push_cases old root k c) [
      | inl before ↦ all k before
      | inr same ↦ subst (IsCheckedNumber g) same is
    ];
    wanted = λ k w. subst (Contains (old ++ root ∷ [])) (one k w) (Contains-push old root);
  }

  -- of such numbers a table can be made
  pub are_numbers : (roots : List ℕ) → ((k : ℕ) → Contains roots k → IsCheckedNumber g k) → AreShapeNumbers g roots
  are_numbers [] all = tt
  are_numbers (k ∷ roots) all =
      ((all k (contains_head k roots)).0, are_numbers roots (λ j c. all j (contains_behind k j roots c)))

  pub are_sound : (roots : List ℕ) → ((k : ℕ) → Contains roots k → IsCheckedNumber g k)
      → AreSoundRoots (maps_of g) (map (id_of_number g) roots)
  are_sound roots all root c =
      let k = mapped_from (id_of_number g) roots root c in
      let is = (all k.0 k.1).1 in (
        subst (IsValueShape (maps_of g)) k.2 is.has_values,
        subst (Sound (maps_of g)) k.2 is.sound,
      )

  -- the table, once its defaults are filled
  pub table_made : (roots : List ℕ) (before now : StoreSeen) (made : Tabled) (table : Table) (added : List (List ℕ))
      → IsTableOfRoots g roots any_text before now made → table_data table ≡ filled (table_data made.table) any_text
      → IsFilled (table_data table) any_text → added ≡ now.added
      → IsTableFor g (Contains roots) (record { table = table; shapes = made.shapes }) added
  table_made roots before now made table added is full fine same =
      let t = table_data made.table in record {
        ready = record {
          few = is.few;
          rise = is.rise;
          whole = ap shape_count full
              ∙ sym (each_length (SaysShape (maps_of g) t.patterns is.numbering) is.numbering.shapes t.shapes is.compiled.says_shapes)
              ∙ ap length is.named ∙ length-map made.shapes.items (id_of_number g);
          fine = fine;
          stored = subst (λ (d : TableData). AreStored d.patterns added) (sym full)
              (subst (AreStored t.patterns) (sym same) is.built.stored);
        };
        roots = roots;
        judged = λ k c. c;
        there = is.there;
        t = t;
        numbering = is.numbering;
        compiled = is.compiled;
        shaped = is.shaped;
        named = is.named;
        is_filled = full;
      }

  pub table_for : (Judged Other : ℕ → Type 0) (made : Tabled) (added : List (List ℕ)) → ((k : ℕ) → Other k → Judged k)
      → IsTableFor g Judged made added → IsTableFor g Other made added
  table_for Judged Other made added all is = record {
    ready = is.ready;
    roots = is.roots;
    judged = λ k o. is.judged k (all k o);
    there = is.there;
    t = is.t;
    numbering = is.numbering;
    compiled = is.compiled;
    shaped = is.shaped;
    named = is.named;
    is_filled = is.is_filled;
  }

-- what decoding answers, as what reading comes to
module _ (made : Tabled) (added : List (List ℕ)) (ready : IsReadyTable made added) (root row : ℕ)
    (at : slice_get made.shapes.items row ≡ Some root) where
  pub row_inside : row < shape_count (table_data made.table)
  row_inside = subst (λ n. row < n) (sym ready.whole) (slice_get_within made.shapes.items row root at)

  pub value_told : (n : Node) (v : Val) → Decodes (node_codec (table_data made.table) any_text) (root_place row) n (Ok v)
      → TellsRow made root n None
  value_told n v h =
      let c = node_codec (table_data made.table) any_text in
      let laws : IsCodec c = record { convention = node_laws false; table = ready.fine.shaped; defaults = ready.fine.pass } in
      (row, at, subst (λ r. TellsReading r None) (sym ((one_value c (root_place row) v n laws row_inside).0 h.0)) tt)

abbrev is_value : Reading → Bool
is_value (Ok v) = true
is_value (Err fs) = false

-- by the definition
module _ (g : Graph) (Judged : ℕ → Type 0) (made : Tabled) (added : List (List ℕ)) (is : IsTableFor g Judged made added) (root row : ℕ)
    (judged : Judged root) (at : slice_get made.shapes.items row ≡ Some root) where
  abbrev ids : List (List ℕ)
  ids = map (id_of_number g) is.roots

  has_row : HasRow (maps_of g) ids is.t (id_of_number g root) row
  has_row = record {
    among = mapped_to (id_of_number g) is.roots root (is.judged root judged);
    numbering = is.numbering;
    compiled = is.compiled;
    shaped = is.shaped;
    number = ap (λ ks. slice_get ks row) is.named ∙ slice_get-map (id_of_number g) made.shapes.items row
        ∙ ap (option_map (id_of_number g)) at;
  }

  reading_told : IsChecked (maps_of g) (id_of_number g root) → (n : Node) (r : Reading) → node_reading is.t any_text n row ≡ r
      → (found : Option FaultKind) → TellsReading r found → TellsFaults (maps_of g) (id_of_number g root) n found
  reading_told checked n (Ok v) e None h =
      λ faults has. apart (ap is_value (sym (faults_by_each (maps_of g) (id_of_number g root) n faults has ids is.t row has_row) ∙ e))
  reading_told checked n (Ok v) e (Some kind) h = absurd h
  reading_told checked n (Err faults) e None h = absurd h
  reading_told checked n (Err faults) e (Some kind) h =
      (faults, h.0, record { checked = checked; roots = ids; t = is.t; k = row; row = has_row; faulty = e }, h.1)

pub faults_told : (g : Graph) (Judged : ℕ → Type 0) (made : Tabled) (added : List (List ℕ)) → IsTableFor g Judged made added → (root : ℕ)
    → Judged root → IsChecked (maps_of g) (id_of_number g root) → (n : Node) (found : Option FaultKind) → TellsRow made root n found
    → TellsFaults (maps_of g) (id_of_number g root) n found
faults_told g Judged made added is root judged checked n found told =
    reading_told g Judged made added is root told.0 judged told.1 checked n (node_reading is.t any_text n told.0) refl found
    (subst (λ (d : TableData). TellsReading (reading (node_codec d any_text) n (root_place told.0)) found) is.is_filled told.2)
