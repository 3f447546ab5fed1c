-- Which events are suppressed: by the trait `suppress` of what they speak of, or by metadata (Smithy 2.0, "suppress trait", "Suppression
-- metadata"). A value of the trait that isn't a list of texts suppresses nothing, and so do metadata and entries of other forms.
use Rattle.std.specs.Prelude.{◌||◌, ◌&&◌, ℕ, Bool, false, List, [], ◌∷◌, ◌++◌, Option, Some, None, codes, nat_eq}
use Rattle.std.specs.FinMap as fin
use Rattle.std.specs.List.{starts_with}
use Rattle.std.specs.Option.{unwrap_or, option_and_then}
use Rattle.std.specs.Str.{bytes_eq}
use Rattle.sm_bytes.specs.Ascii.{full_stop}
use Rattle.sm_tree.specs.Node.{Node, Nodes, no_nodes, node}
use Rattle.sm_tree.specs.Parts.{entries_in, text_in}
use Rattle.sm_model.specs.Graphs.{GraphMaps}
use Rattle.sm_ids.specs.TextParts.{namespace_part}
use Rattle.sm_compile.specs.TraitIds.{suppress_id}
use Rattle.sm_compile.specs.TraitNodes.{field_of, text_of}
use Rattle.sm_rules.specs.Words.{read_trait}

-- an event's id, or what stands before one of its full stops
abbrev pub names_event : List ℕ → List ℕ → Bool
names_event event named = bytes_eq named event || starts_with nat_eq event (named ++ full_stop ∷ [])

abbrev pub text_names : List ℕ → Option (List ℕ) → Bool
text_names event None = false
text_names event (Some named) = names_event event named

abbrev pub text_is : List ℕ → Option (List ℕ) → Bool
text_is wanted None = false
text_is wanted (Some t) = bytes_eq t wanted

-- one of some nodes passes
abbrev pub some_node : (Node → Bool) → Nodes → Bool
some_node test no_nodes = false
some_node test (node n ns) = test n || some_node test ns

-- the entries of a list that may be there; none of anything else
abbrev pub nodes_in : Option Node → Nodes
nodes_in n = unwrap_or (option_and_then entries_in n) no_nodes

-- a text of the trait `suppress` names the event
abbrev pub node_names : List ℕ → Node → Bool
node_names event n = text_names event (text_in n)

abbrev pub is_suppressed_there : GraphMaps → List ℕ → List ℕ → Bool
is_suppressed_there g id event = some_node (node_names event) (nodes_in (read_trait g id suppress_id))

-- an entry of the metadata `suppressions` names the event, and this namespace
abbrev pub entry_names : List ℕ → List ℕ → Node → Bool
entry_names event namespace entry =
    text_names event (text_of (field_of (codes "id") entry)) && text_is namespace (text_of (field_of (codes "namespace") entry))

abbrev pub suppressions : GraphMaps → Nodes
suppressions g = nodes_in (fin.get g.metadata (codes "suppressions"))

abbrev pub is_suppressed_in : GraphMaps → List ℕ → List ℕ → Bool
is_suppressed_in g namespace event = some_node (entry_names event namespace) (suppressions g)

-- an event that speaks of this id: the trait there names it, or metadata does for every namespace or for that of the id
abbrev pub is_suppressed : GraphMaps → List ℕ → List ℕ → Bool
is_suppressed g id event =
    is_suppressed_there g id event || (is_suppressed_in g (codes "*") event || is_suppressed_in g (namespace_part id) event)
