-- What is read of a field that refers to several shapes.
use Rattle.std.proofs.Common.{◌≡◌, ℕ, List, Option, sym, ap, ◌∙◌}
use Rattle.std.specs.Option.{option_and_then, unwrap_or}
use Rattle.sm_tree.specs.Node.{Node, no_nodes}
use Rattle.sm_tree.specs.Parts.{entries_in}
use Rattle.sm_model.specs.Graphs.{ShapeEntry, shape_entry}
use Rattle.sm_model.specs.GraphView.{At, HasBodyNode, maps_of}
use Rattle.sm_model.specs.Reaching.{id_of_number}
use Rattle.sm_model.specs.Relations.{HasEntry}
use Rattle.sm_model.specs.declared.graph.Graph.{Graph}
use Rattle.sm_model.proofs.NumberedIds.{of_entry}
use Rattle.sm_compile.specs.TraitNodes.{field_of}
use Rattle.sm_service.specs.References.{references_in, texts_among}

pub references_read : (g : Graph) (k : ℕ) (n : Node) (name : List ℕ) (o : Option Node) (ts : List (List ℕ))
    → At g k (λ id e. HasBodyNode n e) → o ≡ field_of name n → ts ≡ texts_among (unwrap_or (option_and_then entries_in o) no_nodes)
    → (s : ShapeEntry) → HasEntry (maps_of g) (id_of_number g k) (shape_entry s) → ts ≡ references_in name s
references_read g k n name o ts at field texts s has =
    let body = of_entry g k (λ id e. HasBodyNode n e) at (shape_entry s) has in
    texts ∙ ap (λ x. texts_among (unwrap_or (option_and_then entries_in x) no_nodes)) (field ∙ sym (ap (field_of name) body))
