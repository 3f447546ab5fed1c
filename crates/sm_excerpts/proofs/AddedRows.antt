-- The rows that the code puts together are those of a table with one structure more.
use Rattle.std.proofs.Common.{◌≡◌, ℕ, List, [], ◌∷◌, ◌++◌, map, length, sym, ap, ◌∙◌, subst}
use Rattle.sm_shapes.specs.TableData.{MemberData, ShapeData, TableData}
use Rattle.sm_shapes.specs.TableView.{member_data, shape_data}
use Rattle.sm_excerpts.specs.declared.excerpt.ExcerptRows.{ExcerptRows}
use Rattle.sm_excerpts.specs.steps.Added.{AreExcerptRows}
use Rattle.sm_excerpts.specs.steps.Rows.{AddsExcerpt, IsExcerptRow, copies_of}

pub added_is : (t d : TableData) (ks : List ℕ) (s : ℕ) (shapes : List ShapeData) (ms : List MemberData) (rows : ExcerptRows)
    → shapes ≡ t.shapes → ms ≡ t.members → s ≡ length t.shapes → AreExcerptRows ms s ks rows
    → d
    ≡ record { shapes = shapes ++ shape_data rows.row ∷ []; members = map member_data rows.members.items; patterns = t.patterns }
    → AddsExcerpt t d ks
added_is t d ks s shapes ms rows a b e are is = record {
  row = shape_data rows.row;
  shapes = ap (λ (x : TableData). x.shapes) is ∙ ap (λ xs. xs ++ shape_data rows.row ∷ []) a;
  members = ap (λ (x : TableData). x.members) is ∙ are.members ∙ (λ i. b i ++ copies_of (b i) (e i) ks);
  patterns = ap (λ (x : TableData). x.patterns) is;
  is = subst (λ rs. IsExcerptRow rs (length t.members) (length ks) (shape_data rows.row)) (sym (ap (λ (x : TableData). x.members) is))
      (subst (λ n. IsExcerptRow (map member_data rows.members.items) n (length ks) (shape_data rows.row)) (ap length b) are.is);
}
