-- Streams of trees: forgetting the numbers of openers gives a tree's events, and what comes next in a stream is what a builder
-- that took the events before awaits.
use Rattle.sm_tree.proofs.Events.{events_injective}
use Rattle.std.proofs.Common.{sym, ◌≡◌, List, [], ◌∷◌, ◌++◌, refl, ap, ◌∙◌, Some, None}
use Rattle.sm_tree.specs.Node.{Node, Nodes, Members, null, bool, int, number, text, bytes, tag, opaque, list, object, no_nodes, node}
use Rattle.sm_tree.specs.Node.{no_members, member}
use Rattle.sm_tree.specs.Events.{NodeEvent, tag_event, start_list, start_object, key_event, events, entries_events, pairs_events}
use Rattle.sm_tree.specs.EventLaws.{HasStreams}
use Rattle.sm_tree.specs.Streams.{Streams, EntriesStream, PairsStream, unnumbered_event, unnumbered, entry_count, pair_count, numbered}
use Rattle.sm_tree.specs.Streams.{numbered_entries, numbered_pairs}

pub unnumbered_append : (es fs : List NodeEvent) → unnumbered (es ++ fs) ≡ unnumbered es ++ unnumbered fs
unnumbered_append [] fs = refl
unnumbered_append (e ∷ es) fs = ap (λ gs. unnumbered_event e ∷ gs) (unnumbered_append es fs)

mutual
  -- a stream without its numbers is the events of its tree
  pub stream_events : (n : Node) (es fs : List NodeEvent) → Streams n es fs → unnumbered es ≡ events n (unnumbered fs)
  stream_events null es fs h = ap unnumbered h
  stream_events (bool b) es fs h = ap unnumbered h
  stream_events (int z) es fs h = ap unnumbered h
  stream_events (number t) es fs h = ap unnumbered h
  stream_events (text t) es fs h = ap unnumbered h
  stream_events (bytes t) es fs h = ap unnumbered h
  stream_events (tag k n) es fs (gs, is, rest) = ap unnumbered is ∙ ap (λ hs. tag_event k ∷ hs) (stream_events n gs fs rest)
  stream_events (opaque b) es fs h = ap unnumbered h
  stream_events (list ns) es fs (count, gs, is, right, rest) =
      ap unnumbered is ∙ ap (λ hs. start_list None ∷ hs) (entries_stream_events ns gs fs rest)
  stream_events (object ms) es fs (count, gs, is, right, rest) =
      ap unnumbered is ∙ ap (λ hs. start_object None ∷ hs) (pairs_stream_events ms gs fs rest)

  entries_stream_events : (ns : Nodes) (es fs : List NodeEvent) → EntriesStream ns es fs → unnumbered es ≡ entries_events ns (unnumbered fs)
  entries_stream_events no_nodes es fs h = ap unnumbered h
  entries_stream_events (node n ns) es fs (gs, first, rest) =
      stream_events n es gs first ∙ ap (λ hs. events n hs) (entries_stream_events ns gs fs rest)

  pairs_stream_events : (ms : Members) (es fs : List NodeEvent) → PairsStream ms es fs → unnumbered es ≡ pairs_events ms (unnumbered fs)
  pairs_stream_events no_members es fs h = ap unnumbered h
  pairs_stream_events (member k n ms) es fs (gs, hs, is, first, rest) =
      ap unnumbered is ∙ ap (λ xs. key_event k ∷ xs) (stream_events n gs hs first
      ∙ ap (λ xs. events n xs) (pairs_stream_events ms hs fs rest))

mutual
  -- the events of a tree, whose openers tell no number, are a stream of it
  pub events_stream : (n : Node) (fs : List NodeEvent) → Streams n (events n fs) fs
  events_stream null fs = refl
  events_stream (bool b) fs = refl
  events_stream (int z) fs = refl
  events_stream (number t) fs = refl
  events_stream (text t) fs = refl
  events_stream (bytes t) fs = refl
  events_stream (tag k n) fs = (events n fs, refl, events_stream n fs)
  events_stream (opaque b) fs = refl
  events_stream (list ns) fs = (None, entries_events ns fs, refl, tt, entries_events_stream ns fs)
  events_stream (object ms) fs = (None, pairs_events ms fs, refl, tt, pairs_events_stream ms fs)

  entries_events_stream : (ns : Nodes) (fs : List NodeEvent) → EntriesStream ns (entries_events ns fs) fs
  entries_events_stream no_nodes fs = refl
  entries_events_stream (node n ns) fs = (entries_events ns fs, events_stream n (entries_events ns fs), entries_events_stream ns fs)

  pairs_events_stream : (ms : Members) (fs : List NodeEvent) → PairsStream ms (pairs_events ms fs) fs
  pairs_events_stream no_members fs = refl
  pairs_events_stream (member k n ms) fs =
      (events n (pairs_events ms fs), pairs_events ms fs, refl, events_stream n (pairs_events ms fs), pairs_events_stream ms fs)

mutual
  -- and so is the one whose openers all tell theirs
  pub numbered_stream : (n : Node) (fs : List NodeEvent) → Streams n (numbered n fs) fs
  numbered_stream null fs = refl
  numbered_stream (bool b) fs = refl
  numbered_stream (int z) fs = refl
  numbered_stream (number t) fs = refl
  numbered_stream (text t) fs = refl
  numbered_stream (bytes t) fs = refl
  numbered_stream (tag k n) fs = (numbered n fs, refl, numbered_stream n fs)
  numbered_stream (opaque b) fs = refl
  numbered_stream (list ns) fs = (Some (entry_count ns), numbered_entries ns fs, refl, refl, numbered_entries_stream ns fs)
  numbered_stream (object ms) fs = (Some (pair_count ms), numbered_pairs ms fs, refl, refl, numbered_pairs_stream ms fs)

  numbered_entries_stream : (ns : Nodes) (fs : List NodeEvent) → EntriesStream ns (numbered_entries ns fs) fs
  numbered_entries_stream no_nodes fs = refl
  numbered_entries_stream (node n ns) fs = (
    numbered_entries ns fs,
    numbered_stream n
        (numbered_entries ns fs),
    numbered_entries_stream ns fs,
  )

  numbered_pairs_stream : (ms : Members) (fs : List NodeEvent) → PairsStream ms (numbered_pairs ms fs) fs
  numbered_pairs_stream no_members fs = refl
  numbered_pairs_stream (member k n ms) fs =
      (numbered n (numbered_pairs ms fs), numbered_pairs ms fs, refl, numbered_stream n (numbered_pairs ms fs), numbered_pairs_stream ms fs)

-- a stream is that of one tree
pub one_tree_of_stream : (n m : Node) (es : List NodeEvent) → Streams n es [] → Streams m es [] → n ≡ m
one_tree_of_stream n m es h g = (events_injective n m [] [] (sym (stream_events n es [] h) ∙ stream_events m es [] g)).0

pub has_streams : HasStreams
has_streams = record { without = λ n. events_stream n []; with_counts = λ n. numbered_stream n [] }
