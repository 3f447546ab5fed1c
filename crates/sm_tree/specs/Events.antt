-- The events of a tree: the tree as a stream, in the order in which a text spells it. Readers hand them
-- on, and what builds trees takes them. An opener may tell the number of entries or pairs that follow; of
-- the streams of one tree, `events` is the one whose openers tell none.
use Rattle.std.specs.Prelude.{ℕ, ℤ, Bool, List, ◌∷◌, Option, None}
use Rattle.sm_tree.specs.Node.{Node, Nodes, Members, null, bool, int, number, text, bytes, tag, opaque, list, object, no_nodes, node}
use Rattle.sm_tree.specs.Node.{no_members, member}

pub data NodeEvent : Type 0 where
  null_event : NodeEvent
  bool_event : Bool → NodeEvent
  int_event : ℤ → NodeEvent
  number_event : List ℕ → NodeEvent
  text_event : List ℕ → NodeEvent
  bytes_event : List ℕ → NodeEvent
  tag_event : ℕ → NodeEvent
  opaque_event : ℕ → NodeEvent
  start_list : Option ℕ → NodeEvent
  end_list : NodeEvent
  start_object : Option ℕ → NodeEvent
  key_event : List ℕ → NodeEvent
  end_object : NodeEvent

abbrev mutual
  -- the events of a tree whose openers tell no number, and then es
  pub events : Node → List NodeEvent → List NodeEvent
  events null es = null_event ∷ es
  events (bool b) es = bool_event b ∷ es
  events (int z) es = int_event z ∷ es
  events (number t) es = number_event t ∷ es
  events (text t) es = text_event t ∷ es
  events (bytes t) es = bytes_event t ∷ es
  events (tag k n) es = tag_event k ∷ events n es
  events (opaque b) es = opaque_event b ∷ es
  events (list ns) es = start_list None ∷ entries_events ns es
  events (object ms) es = start_object None ∷ pairs_events ms es

  -- behind the opener of a list: the events of its entries and its end
  pub entries_events : Nodes → List NodeEvent → List NodeEvent
  entries_events no_nodes es = end_list ∷ es
  entries_events (node n ns) es = events n (entries_events ns es)

  -- behind the opener of an object: the events of its pairs and its end
  pub pairs_events : Members → List NodeEvent → List NodeEvent
  pairs_events no_members es = end_object ∷ es
  pairs_events (member k n ms) es = key_event k ∷ events n (pairs_events ms es)
