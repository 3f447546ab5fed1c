-- The table that is made of marked shapes.
use Rattle.std.specs.Prelude.{◌≡◌, ℕ, Bool, List, Result, Ok, Err, length}
use Rattle.sm_model.specs.Graphs.{GraphMaps}
use Rattle.sm_model.specs.GraphView.{maps_of}
use Rattle.sm_model.specs.declared.graph.Graph.{Graph}
use Rattle.sm_shapes.specs.TableData.{TableData}
use Rattle.sm_shapes.specs.TableView.{table_data}
use Rattle.sm_compile.specs.Answers.{IsLeftBehind, StoreSeen}
use Rattle.sm_compile.specs.Compiled.{PatternRows}
use Rattle.sm_compile.specs.Tabling.{tabled_below}
use Rattle.sm_compile.specs.declared.compiled.CompileRefusal.{CompileRefusal}
use Rattle.sm_compile.specs.declared.compiled.CompileRefusal.TheVariants.{NoShape, Pattern, NoMemory}
use Rattle.sm_compile.specs.declared.tabled.Tabled.{Tabled}
use Rattle.sm_compile.specs.declared.patterns.CarriedTexts.{CarriedTexts}
use Rattle.sm_compile.specs.steps.Carrying.{AreCarried, rows_in, texts_in}
use Rattle.sm_compile.specs.steps.Numbered.{AreMemberRows, AreReady, EachAt, IsShapeRow, numbered_by, numbering}
use Rattle.sm_compile.specs.steps.Storing.{AreTextsStored, IsRefusedAmong}

-- a table of these shapes of the graph, with these patterns
pub record IsMade (g : Graph) (numbers : List ℕ) (ps : PatternRows) (t : TableData) : Type 0 where
  pub patterns : t.patterns ≡ ps
  pub long : length t.shapes ≡ length numbers
  pub shapes : EachAt (IsShapeRow (maps_of g) ps (numbering g numbers) t.members) t.shapes
  pub members : AreMemberRows (maps_of g) ps (numbering g numbers) (length numbers) t.members

-- the same by ids, over the table's own patterns
pub record IsMadeBy (g : GraphMaps) (ids : List (List ℕ)) (t : TableData) : Type 0 where
  pub long : length t.shapes ≡ length ids
  pub shapes : EachAt (IsShapeRow g t.patterns (numbered_by g ids) t.members) t.shapes
  pub members : AreMemberRows g t.patterns (numbered_by g ids) (length ids) t.members

-- the table of the marked shapes, the patterns of which the store has
pub record IsMarkedTable (g : Graph) (marks : List Bool) (before now : StoreSeen) (made : Tabled) : Type 0 where
  pub c : CarriedTexts
  pub carried : AreCarried g marks c
  pub stored : AreTextsStored (texts_in c) before now (table_data made.table).patterns
  pub ready : AreReady g made.shapes.items (texts_in c)
  pub shapes : made.shapes.items ≡ tabled_below g marks (length marks)
  pub table : IsMade g made.shapes.items (table_data made.table).patterns (table_data made.table)

-- a pattern of a marked shape or member is refused
abbrev pub IsMarkedRefused : Graph → List Bool → StoreSeen → StoreSeen → List ℕ → Type 0
IsMarkedRefused g marks before now id = (c : CarriedTexts) × AreCarried g marks c × IsRefusedAmong g (rows_in c) before now id

abbrev pub TablesMarked : Graph → List Bool → StoreSeen → StoreSeen → Result Tabled CompileRefusal → Type 0
TablesMarked g marks before now (Ok made) = IsMarkedTable g marks before now made
TablesMarked g marks before now (Err NoShape) = ⊥
TablesMarked g marks before now (Err (Pattern id)) = IsMarkedRefused g marks before now id
TablesMarked g marks before now (Err NoMemory) = IsLeftBehind before now
