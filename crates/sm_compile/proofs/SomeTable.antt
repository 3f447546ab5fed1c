-- A set of ids whose shapes are in order has a table, and a shape of which a table can be made has one, with a store that holds its
-- patterns: it can't be that there is none.
use Rattle.std.proofs.Common.{ℕ, List, [], ◌++◌, length, refl, sym, subst}
use Rattle.std.specs.Prelude.{◌↔◌}
use Rattle.std.specs.FinMap as fin
use Rattle.std.specs.List.{Contains}
use Rattle.std.specs.List.Sorted.{IsStrictlySortedBy}
use Rattle.std.proofs.lemmas.Option.{slice_get_read}
use Rattle.sm_model.specs.Graphs.{GraphMaps, shape_entry, text_cmp}
use Rattle.sm_shapes.specs.DefaultPuts.{HasNoDefault}
use Rattle.sm_shapes.specs.Fitting.{Test}
use Rattle.sm_shapes.specs.InOrder.{AreStored, Shaped}
use Rattle.sm_shapes.specs.TableData.{TableData}
use Rattle.sm_compile.specs.Answers.{IsTableSeen, StoreSeen, TableSeen, TellsServed}
use Rattle.sm_compile.specs.Compiled.{AreNumberedFrom, ArePatternsOf, IdSet, IsCompiled, IsTabled, texts_of}
use Rattle.sm_compile.specs.Laws.{IsSpelledGraph, SomeTable}
use Rattle.sm_compile.specs.Reached.{IsReached}
use Rattle.sm_compile.specs.Sound.{IsValueShape, Sound}
use Rattle.sm_compile.specs.declared.compiled.Served.{Served}
use Rattle.sm_compile.specs.steps.Making.{IsMadeBy}
use Rattle.sm_compile.specs.steps.Numbered.{AreRowShapes, numbered_by}
use Rattle.sm_compile.proofs.CarriedSets.{carrier_there}
use Rattle.sm_compile.proofs.CompiledShapes.{made_compiled, seen_compiled, stored_there}
use Rattle.sm_compile.proofs.KeptIds.{AreKept, among_graph, graph_ids_rise, some_kept}
use Rattle.sm_compile.proofs.MadeTables.{none_there, shaped_told}
use Rattle.sm_compile.proofs.ReadyMarks.{by_more}
use Rattle.sm_compile.proofs.SomePatterns.{IsFirstOfSome, rows_from, rows_numbered, rows_texts, some_patterns}
use Rattle.sm_compile.proofs.SomeRows.{IsClosedSet, IsSoundSet, rows_ready, some_rows}
use Rattle.sm_compile.proofs.SomeWay.{some_served}

-- a table of a set, whose patterns are numbered behind those that a store has
pub record IsTableOfSet (g : GraphMaps) (In : IdSet) (added : List (List ℕ)) (ids : List (List ℕ)) (t : TableData) : Type 0 where
  pub ready : AreRowShapes g ids
  pub made : IsMadeBy g ids t
  pub compiled : IsCompiled g In t (numbered_by g ids)
  pub numbered : AreNumberedFrom (length added) t.patterns
  pub stored : AreStored t.patterns (added ++ texts_of t.patterns)
  pub shaped : Shaped t
  pub no_default : HasNoDefault t

module _ (g : GraphMaps) (In : IdSet) (added : List (List ℕ)) (closed : IsClosedSet g In) (sound : IsSoundSet g In)
    (spelled : IsSpelledGraph g) where
  -- over the ids of its shapes, and its patterns
  made_of : (ids us : List (List ℕ)) → IsStrictlySortedBy text_cmp ids → ((id : List ℕ) → Contains ids id ↔ IsTabled g In id)
      → ArePatternsOf g In us → (t : TableData) × IsTableOfSet g In added ids t
  made_of ids us rise told patterns =
      let first = length added in
      let ps = rows_from first us in
      let numbered = rows_numbered first us in
      let ready = rows_ready g In ids closed sound told spelled in
      let here : ArePatternsOf g In (texts_of ps) = subst (ArePatternsOf g In) (sym (rows_texts first us)) patterns in
      let made = some_rows g In ids closed sound told spelled first ps numbered here.all in
      let t = made.0 in
      let behind : AreNumberedFrom first t.patterns = subst (λ rows. AreNumberedFrom first rows) (sym made.2) numbered in (
        t,
        record {
          ready = ready;
          made = made.1;
          compiled = made_compiled g In ids ready t made.1 told rise
              (subst (λ rows. ArePatternsOf g In (texts_of rows)) (sym made.2) here);
          numbered = behind;
          stored = stored_there added (added ++ texts_of t.patterns) t.patterns behind refl;
          shaped = shaped_told g ids ready t made.1;
          no_default = none_there g ids ready t made.1;
        },
      )

  pub some_table_of_set : ((ids : List (List ℕ)) (t : TableData) → IsTableOfSet g In added ids t → ⊥) → ⊥
  some_table_of_set none =
      some_kept In (fin.keys g.shapes) (graph_ids_rise g) (λ rs rise are.
      some_kept (IsValueShape g) rs rise (λ ids rises kept.
      some_kept (IsFirstOfSome g In) rs rise (λ fs firsts of_some. over rs ids fs rise are rises kept firsts of_some)))
    where
      over : (rs ids fs : List (List ℕ)) → IsStrictlySortedBy text_cmp rs → AreKept In (fin.keys g.shapes) rs
          → IsStrictlySortedBy text_cmp ids → AreKept (IsValueShape g) rs ids → IsStrictlySortedBy text_cmp fs
          → AreKept (IsFirstOfSome g In) rs fs → ⊥
      over rs ids fs rise are rises kept firsts of_some =
          let patterns = some_patterns g In rs fs rise
          (λ id u c. (are id).1 (among_graph g id (carrier_there g id u c.1), c.0)) (λ id there. ((are id).0 there).1) firsts of_some in
          let told : (id : List ℕ) → Contains ids id ↔ IsTabled g In id = λ id. (
            λ there. let v = (kept id).0 there in (((are id).0 v.0).1, v.1),
            λ h. (kept id).1 ((are id).1 (among_graph g id (shape_entry h.1.0, h.1.1), h.0), h.1),
          ) in
          let made = made_of ids patterns.0 rises told patterns.1 in
          none ids made.0 made.1

-- what a shape reaches is such a set
module _ (g : GraphMaps) (root : List ℕ) (test : Test) (before : StoreSeen) (spelled : IsSpelledGraph g) (value : IsValueShape g root)
    (sound : Sound g root) where
  seen_of : (ids : List (List ℕ)) (t : TableData) → IsTableOfSet g (IsReached g root) before.added ids t → (served : Served)
      → TellsServed g root served → (now : StoreSeen) × (one : TableSeen) × IsTableSeen g root test before now one
  seen_of ids t h served tells =
      let there = (h.compiled.shapes root).1 (([], refl), value) in
      let now : StoreSeen =
      record { added = before.added ++ texts_of t.patterns; refused = before.refused; refusals = before.refusals } in
      let one : TableSeen = record { table = t; shape = there.0; served = served } in (
        now,
        one,
        seen_compiled g root test before now ids h.ready one h.made h.compiled
            (slice_get_read ids (length ids) there.0 root refl there.1 (sym there.2)) tells h.numbered refl refl refl,
      )

  pub table_there : ((now : StoreSeen) (one : TableSeen) → IsTableSeen g root test before now one → ⊥) → ⊥
  table_there none =
      some_table_of_set g (IsReached g root) before.added (λ from to h step. by_more g root from to h.0 h.1 step)
      (λ id s reached there has. sound value id s reached there) spelled
      (λ ids t h. some_served g root (λ served tells.
      let seen = seen_of ids t h served tells in none seen.0 seen.1 seen.2))

pub some_table : SomeTable
some_table g root test before spelled value sound none = table_there g root test before spelled value sound none
