-- What an operation and a service refer to, in order (Smithy 2.0, "Operation", "Service", members `input`, `output`, `errors`).
use Rattle.std.specs.Prelude.{ℕ, not, List, [], ◌∷◌, ◌++◌, Option, codes}
use Rattle.std.specs.List.{cons_option, filter}
use Rattle.std.specs.Option.{option_and_then, unwrap_or}
use Rattle.std.specs.Str.{bytes_eq}
use Rattle.sm_tree.specs.Node.{Nodes, no_nodes, node}
use Rattle.sm_tree.specs.Parts.{entries_in, text_in}
use Rattle.sm_model.specs.Graphs.{ShapeEntry}
use Rattle.sm_compile.specs.TraitNodes.{field_of, text_of}

-- a field that refers to one shape: the id that it names
abbrev pub reference_in : List ℕ → ShapeEntry → Option (List ℕ)
reference_in name s = text_of (field_of name s.properties)

-- a field that refers to several: the ids that it names, in order, none where the field isn't there
abbrev pub texts_among : Nodes → List (List ℕ)
texts_among no_nodes = []
texts_among (node n ns) = cons_option (text_in n) (texts_among ns)

abbrev pub references_in : List ℕ → ShapeEntry → List (List ℕ)
references_in name s = texts_among (unwrap_or (option_and_then entries_in (field_of name s.properties)) no_nodes)

-- each id once, at its first place
abbrev pub once : List (List ℕ) → List (List ℕ)
once [] = []
once (id ∷ ids) = id ∷ filter (λ other. not (bytes_eq other id)) (once ids)

-- the errors of an operation of a service: its own, then the service's ("an operation can return the errors of its service")
abbrev pub errors_said : ShapeEntry → ShapeEntry → List (List ℕ)
errors_said operation service = once (references_in (codes "errors") operation ++ references_in (codes "errors") service)
