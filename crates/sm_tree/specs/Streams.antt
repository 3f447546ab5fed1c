-- The streams of a tree: its events in order, where each opener tells the right number of entries or pairs, or none. A
-- reader hands on the events of one, and a sink may be brought no others.
use Rattle.std.specs.Prelude.{◌≡◌, ℕ, suc, List, [], ◌∷◌, ◌++◌, Option, None, Some}
use Rattle.sm_tree.specs.Node.{Node, Nodes, Members, null, bool, int, number, text, bytes, tag, opaque, list, object, no_nodes, node}
use Rattle.sm_tree.specs.Node.{no_members, member}
use Rattle.sm_tree.specs.Events.{NodeEvent, null_event, bool_event, int_event, number_event, text_event, bytes_event, tag_event}
use Rattle.sm_tree.specs.Events.{opaque_event, start_list, end_list, start_object, key_event, end_object}

-- how many entries a list has, and how many pairs an object
abbrev pub entry_count : Nodes → ℕ
entry_count no_nodes = 0
entry_count (node n ns) = suc (entry_count ns)

abbrev pub pair_count : Members → ℕ
pair_count no_members = 0
pair_count (member k n ms) = suc (pair_count ms)

-- an opener has this number, or none
abbrev pub HasCount : Option ℕ → ℕ → Type 0
HasCount None size = Unit {0}
HasCount (Some count) size = count ≡ size

-- an event, its number forgotten if it is an opener
abbrev pub unnumbered_event : NodeEvent → NodeEvent
unnumbered_event null_event = null_event
unnumbered_event (bool_event b) = bool_event b
unnumbered_event (int_event z) = int_event z
unnumbered_event (number_event t) = number_event t
unnumbered_event (text_event t) = text_event t
unnumbered_event (bytes_event t) = bytes_event t
unnumbered_event (tag_event k) = tag_event k
unnumbered_event (opaque_event b) = opaque_event b
unnumbered_event (start_list count) = start_list None
unnumbered_event end_list = end_list
unnumbered_event (start_object count) = start_object None
unnumbered_event (key_event k) = key_event k
unnumbered_event end_object = end_object

abbrev mutual
  -- es begins with a stream of the tree, and fs is what follows it
  pub Streams : Node → List NodeEvent → List NodeEvent → Type 0
  Streams null es fs = es ≡ null_event ∷ fs
  Streams (bool b) es fs = es ≡ bool_event b ∷ fs
  Streams (int z) es fs = es ≡ int_event z ∷ fs
  Streams (number t) es fs = es ≡ number_event t ∷ fs
  Streams (text t) es fs = es ≡ text_event t ∷ fs
  Streams (bytes t) es fs = es ≡ bytes_event t ∷ fs
  Streams (tag k n) es fs = (gs : List NodeEvent) × (es ≡ tag_event k ∷ gs) × Streams n gs fs
  Streams (opaque b) es fs = es ≡ opaque_event b ∷ fs
  Streams (list ns) es fs =
      (count : Option ℕ) × (gs : List NodeEvent) × (es ≡ start_list count ∷ gs) × HasCount count (entry_count ns) × EntriesStream ns gs fs
  Streams (object ms) es fs =
      (count : Option ℕ) × (gs : List NodeEvent) × (es ≡ start_object count ∷ gs) × HasCount count (pair_count ms) × PairsStream ms gs fs

  -- behind the opener of a list: the streams of its entries, and its end
  pub EntriesStream : Nodes → List NodeEvent → List NodeEvent → Type 0
  EntriesStream no_nodes es fs = es ≡ end_list ∷ fs
  EntriesStream (node n ns) es fs = (gs : List NodeEvent) × Streams n es gs × EntriesStream ns gs fs

  -- behind the opener of an object: the names and streams of its pairs, and its end
  pub PairsStream : Members → List NodeEvent → List NodeEvent → Type 0
  PairsStream no_members es fs = es ≡ end_object ∷ fs
  PairsStream (member k n ms) es fs =
      (gs hs : List NodeEvent) × (es ≡ key_event k ∷ gs) × Streams n gs hs × PairsStream ms hs fs

-- a tree's stream begins with these events
abbrev pub BeginsStream : List NodeEvent → Type 0
BeginsStream es = (n : Node) × (more : List NodeEvent) × Streams n (es ++ more) []

-- which streams a sink stands for, and which events it takes
abbrev pub StandsFor : Type 1
StandsFor = List NodeEvent → Type 0

abbrev pub Takes : Type 1
Takes = NodeEvent → Type 0

-- the event may come next: with it, a stream that the sink stands for still begins a tree's
abbrev pub MayTake : StandsFor → NodeEvent → Type 0
MayTake S e = (es : List NodeEvent) × S es × BeginsStream (es ++ e ∷ [])

-- each such stream, with the event added, is one that the sink then stands for
abbrev pub TakesOn : StandsFor → NodeEvent → StandsFor → Type 0
TakesOn S e T = (es : List NodeEvent) → S es → BeginsStream (es ++ e ∷ []) → T (es ++ e ∷ [])

-- what is taken before is taken after
abbrev pub TakesSame : Takes → Takes → Type 0
TakesSame T U = (e : NodeEvent) → T e → U e

abbrev pub TakesEvery : Takes → Type 0
TakesEvery T = (e : NodeEvent) → T e

abbrev pub TakesEach : Takes → List NodeEvent → Type 0
TakesEach T [] = Unit {0}
TakesEach T (e ∷ es) = T e × TakesEach T es

-- the stream in which no opener tells a number
abbrev pub unnumbered : List NodeEvent → List NodeEvent
unnumbered [] = []
unnumbered (e ∷ es) = unnumbered_event e ∷ unnumbered es

abbrev mutual
  -- the stream of a tree whose every opener tells its number, and then es
  pub numbered : Node → List NodeEvent → List NodeEvent
  numbered null es = null_event ∷ es
  numbered (bool b) es = bool_event b ∷ es
  numbered (int z) es = int_event z ∷ es
  numbered (number t) es = number_event t ∷ es
  numbered (text t) es = text_event t ∷ es
  numbered (bytes t) es = bytes_event t ∷ es
  numbered (tag k n) es = tag_event k ∷ numbered n es
  numbered (opaque b) es = opaque_event b ∷ es
  numbered (list ns) es = start_list (Some (entry_count ns)) ∷ numbered_entries ns es
  numbered (object ms) es = start_object (Some (pair_count ms)) ∷ numbered_pairs ms es

  -- behind the opener of a list
  pub numbered_entries : Nodes → List NodeEvent → List NodeEvent
  numbered_entries no_nodes es = end_list ∷ es
  numbered_entries (node n ns) es = numbered n (numbered_entries ns es)

  -- behind the opener of an object
  pub numbered_pairs : Members → List NodeEvent → List NodeEvent
  numbered_pairs no_members es = end_object ∷ es
  numbered_pairs (member k n ms) es = key_event k ∷ numbered n (numbered_pairs ms es)
