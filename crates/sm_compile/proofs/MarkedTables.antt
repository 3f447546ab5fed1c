-- The table of marked shapes, put together from what its parts tell.
use Rattle.std.proofs.Common.{◌≡◌, ℕ, ◌<◌, Bool, List, length, sym, ap, ◌∙◌, subst, arith}
use Rattle.std.specs.Prelude.{◌^◌, Err}
use Rattle.std.proofs.lemmas.List.{length-map}
use Rattle.sm_model.specs.GraphRows.{ids_of, row_entry}
use Rattle.sm_model.specs.GraphView.{entries_of, maps_of}
use Rattle.sm_model.specs.declared.graph.Graph.{Graph}
use Rattle.sm_shapes.specs.TableData.{MemberData, ShapeData, TableData}
use Rattle.sm_shapes.specs.TableView.{table_data}
use Rattle.sm_compile.specs.Answers.{StoreSeen}
use Rattle.sm_compile.specs.Compiled.{PatternRows}
use Rattle.sm_compile.specs.Tabling.{tabled_below}
use Rattle.sm_compile.specs.declared.compiled.CompileRefusal.{CompileRefusal}
use Rattle.sm_compile.specs.declared.compiled.CompileRefusal.TheVariants.{NoShape, Pattern, NoMemory}
use Rattle.sm_compile.specs.declared.patterns.CarriedTexts.{CarriedTexts}
use Rattle.sm_compile.specs.declared.tabled.Tabled.{Tabled}
use Rattle.sm_compile.specs.steps.Carrying.{AreCarried, rows_in, texts_in}
use Rattle.sm_compile.specs.steps.Making.{IsMade, IsMarkedTable, TablesMarked}
use Rattle.sm_compile.specs.steps.Numbered.{AreClosed, AreMemberRows, AreReady, EachAt, IsShapeRow, numbering}
use Rattle.sm_compile.specs.steps.Placing.{AreParts}
use Rattle.sm_compile.specs.steps.Soundness.{AreSoundBelow}
use Rattle.sm_compile.specs.steps.Storing.{AreTextsStored, StopsAmong}
use Rattle.sm_compile.proofs.CompiledShapes.{carried_among}
use Rattle.sm_compile.proofs.ReadyMarks.{ready_told}

pub made_from : (g : Graph) (numbers : List ℕ) (ps : PatternRows) (t : TableData) (shapes : List ShapeData) (members : List MemberData)
    → t.shapes ≡ shapes → t.members ≡ members → t.patterns ≡ ps → length shapes ≡ length numbers
    → EachAt (IsShapeRow (maps_of g) ps (numbering g numbers) members) shapes
    → AreMemberRows (maps_of g) ps (numbering g numbers) (length numbers) members → IsMade g numbers ps t
made_from g numbers ps t shapes members a b c long each rows = record {
  patterns = c;
  long = ap length a ∙ long;
  shapes = subst (λ ms. EachAt (IsShapeRow (maps_of g) ps (numbering g numbers) ms) t.shapes) (sym b)
      (subst (EachAt (IsShapeRow (maps_of g) ps (numbering g numbers) members)) (sym a) each);
  members = subst (AreMemberRows (maps_of g) ps (numbering g numbers) (length numbers)) (sym b) rows;
}

-- a graph has few rows
few_entries : (g : Graph) → length (entries_of g) < 2 ^ 32
few_entries g = let long = length-map g.rows.items (row_entry (ids_of g.rows.items)) in omega (arith, g.few, long)

module _ (g : Graph) (marks : List Bool) (whole : length marks ≡ length (entries_of g)) (sound : AreSoundBelow g marks (length marks))
    (closed : AreClosed g marks) (c : CarriedTexts) (are : AreCarried g marks c) (numbers : List ℕ)
    (is : numbers ≡ tabled_below g marks (length marks)) where
  pub ready_there : AreReady g numbers (texts_in c)
  ready_there = subst (λ ks. AreReady g ks (texts_in c)) (sym is)
      (ready_told g marks (texts_in c) whole sound closed (carried_among g marks c are) (few_entries g))

  module _ (before now : StoreSeen) (rows : PatternRows) (stored : AreTextsStored (texts_in c) before now rows) where
    pub parts_there : AreParts g numbers c rows
    parts_there = record { ready = ready_there; placed = are.placed; texts = stored.are; numbered = (length before.added, stored.numbered) }

    pub table_there : (made : Tabled) → made.shapes.items ≡ numbers → IsMade g numbers rows (table_data made.table)
        → IsMarkedTable g marks before now made
    table_there made same table = record {
      c = c;
      carried = are;
      stored = subst (AreTextsStored (texts_in c) before now) (sym table.patterns) stored;
      ready = subst (λ ks. AreReady g ks (texts_in c)) (sym same) ready_there;
      shapes = same ∙ is;
      table = subst (λ ks. IsMade g ks (table_data made.table).patterns (table_data made.table)) (sym same)
          (subst (λ ps. IsMade g numbers ps (table_data made.table)) (sym table.patterns) table);
    }

pub stopped_marked : (g : Graph) (marks : List Bool) (before now : StoreSeen) (c : CarriedTexts) → AreCarried g marks c
    → (refusal : CompileRefusal)
    → StopsAmong g (rows_in c) before now refusal → TablesMarked g marks before now (Err refusal)
stopped_marked g marks before now c are NoShape h = h
stopped_marked g marks before now c are (Pattern id) h = (c, are, h)
stopped_marked g marks before now c are NoMemory h = h
