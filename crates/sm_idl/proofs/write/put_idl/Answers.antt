use Rattle.std.proofs.Common.{[], ◌∷◌, ◌++◌, ap, codes, sym, ◌∙◌}
use Rattle.std.specs.FinMap as fin
use Rattle.sm_bytes.specs.Ascii.{line_feed}
use Rattle.sm_model.specs.GraphView.{maps_of}
use Rattle.sm_model.proofs.GraphFacts.{entries_are}
use Rattle.sm_idl.specs.Written.{metadata_lines, shape_lines}
use Rattle.sm_idl.proofs.WrittenIdl.{parts_put}
use Rattle.sm_idl.proofs.write.put_idl.Goals as goal

pub returns : goal.returns
returns c =
    let g = c.args.graph.now in
    let maps = maps_of g in
    let ns = c.args.namespace.now in
    let head = c.put.new.out.items in
    let lines = c.put_namespace.new.out.items in
    parts_put c.args.out.now.items (codes "$version: \"2.0\"\n") (metadata_lines (fin.entries maps.metadata)) (codes "namespace ") ns
    (line_feed ∷ []) (shape_lines maps.shapes ns (fin.entries maps.shapes)) head
    c.put_metadata.new.out.items lines c.put_shapes.new.out.items
    c.in_ok-put.ensures (c.in_ok-put_metadata.ensures ∙ ap (λ ms. head ++ metadata_lines ms) (sym c.metadata.ensures))
    c.in_ok-put_namespace.ensures
    (c.in_ok-put_shapes.ensures ∙ ap (λ es. lines ++ shape_lines maps.shapes ns es) (sym (entries_are g)))
