-- What stands behind a text that an event's id begins with, and the texts of a value of the trait `suppress`.
use Rattle.std.specs.Prelude.{◌==◌, ◌&&◌, ℕ, Bool, true, false, List, [], ◌∷◌, Option, Some, None}
use Rattle.std.specs.Option.{unwrap_or}
use Rattle.sm_bytes.specs.Ascii.{full_stop}
use Rattle.sm_tree.specs.Node.{Node, no_nodes}
use Rattle.sm_tree.specs.Parts.{entries_in}
use Rattle.sm_rules.specs.TraitRows.{are_text_nodes}
use Rattle.sm_load.specs.Suppressions.{node_names, some_node}

-- nothing, or a full stop
abbrev pub ends_word : List ℕ → Bool
ends_word [] = true
ends_word (c ∷ cs) = c == full_stop

-- a value of the trait reads, and names the event
abbrev pub value_names : List ℕ → Node → Bool
value_names event n = are_text_nodes n && some_node (node_names event) (unwrap_or (entries_in n) no_nodes)

abbrev pub where_names : List ℕ → Option Node → Bool
where_names event None = false
where_names event (Some n) = value_names event n
