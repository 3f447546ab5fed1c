use Rattle.std.proofs.Common.{◌≡◌, length, map, subst, sym, ◌∙◌, arith}
use Rattle.std.proofs.lemmas.List.{length-map}
use Rattle.sm_model.specs.GraphView.{maps_of}
use Rattle.sm_shapes.specs.TableView.{member_data, shape_data}
use Rattle.sm_compile.specs.steps.Numbered.{IsShapeRow, numbering}
use Rattle.sm_compile.proofs.RowsPut.{each_put, first_more, one_longer}
use Rattle.sm_compile.proofs.shapes.shape_rows.Goals as goal

pub loop-row-preserved : goal.loop-row-preserved
loop-row-preserved c =
    let g = c.args.parts.now.graph.now in
    let shapes = c.args.parts.now.shapes.now in
    let at = c.loop-row in
    let Says = IsShapeRow (maps_of g) c.args.parts.now.patterns.now (numbering g shapes) (map member_data c.args.members.now) in
    let put = c.in_ok-push.ensures.items in
    let longer = one_longer at.rows.items c.push.new.self.items c.in_ok-made.made put in
    let long : length (map shape_data at.rows.items) ≡ at.row = length-map at.rows.items shape_data ∙ at.invariant.long in
    let more = first_more g shapes at.row c.loop-row-test.true in
    record {
      first = omega (arith, more, at.invariant.first, c.count_of-count.ensures.count);
      long = omega (arith, longer, at.invariant.long);
      each = each_put shape_data Says at.rows.items c.push.new.self.items c.in_ok-made.made put at.invariant.each
          (subst (λ k. Says k (shape_data c.in_ok-made.made)) (sym long) c.in_ok-made.ensures);
    }
