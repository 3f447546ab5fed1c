-- A writer takes exactly the events that stand in the stream of some tree that is written as CBOR, where openers tell their
-- numbers.
use Rattle.std.proofs.Common.{ℕ, zero, suc, List, [], ◌∷◌, ◌++◌, refl, sym, subst, Some, None, Option, IsUtf8}
use Rattle.sm_tree.specs.Node.{Node, Nodes, Members, null, bool, int, number, text, bytes, tag, opaque, list, object, no_nodes, node}
use Rattle.sm_tree.specs.Node.{no_members, member}
use Rattle.sm_tree.specs.Events.{NodeEvent, null_event, bool_event, int_event, number_event, text_event, bytes_event, tag_event}
use Rattle.sm_tree.specs.Events.{opaque_event, start_list, end_list, start_object, key_event, end_object}
use Rattle.sm_tree.specs.Streams.{Streams, EntriesStream, PairsStream, TakesEach, numbered_entries, numbered_pairs}
use Rattle.sm_tree.specs.Json.{IsCbor, AreCbor, AreCborMembers}
use Rattle.sm_tree.proofs.Counted.{nulls, nulls_stream, null_pairs, null_pairs_stream}
use Rattle.sm_cbor.specs.WrittenEvents.{IsCounted, AreCounted, StandsInCbor, IsCborEvent, CborEventsStand, CborStreamsAreTaken}

nulls_cbor : (k : ℕ) → AreCbor (nulls k)
nulls_cbor zero = tt
nulls_cbor (suc k) = (tt, nulls_cbor k)

nulls_counted : (k : ℕ) → AreCounted (numbered_entries (nulls k) [])
nulls_counted zero = (tt, tt)
nulls_counted (suc k) = (tt, nulls_counted k)

null_pairs_cbor : (k : ℕ) → AreCborMembers (null_pairs k)
null_pairs_cbor zero = tt
null_pairs_cbor (suc k) = (([], (refl, refl)), tt, null_pairs_cbor k)

null_pairs_counted : (k : ℕ) → AreCounted (numbered_pairs (null_pairs k) [])
null_pairs_counted zero = (tt, tt)
null_pairs_counted (suc k) = (tt, (tt, null_pairs_counted k))

-- an opener stands in a stream of some list or object, whatever number it tells
list_stands : (counted : Option ℕ) → IsCborEvent (start_list counted) → StandsInCbor (start_list counted)
list_stands None taken = absurd taken
list_stands (Some k) taken =
    (list (nulls k), [], numbered_entries (nulls k) [], nulls_cbor k, nulls_stream k, (tt, nulls_counted k))

object_stands : (counted : Option ℕ) → IsCborEvent (start_object counted) → StandsInCbor (start_object counted)
object_stands None taken = absurd taken
object_stands (Some k) taken =
    (object (null_pairs k), [], numbered_pairs (null_pairs k) [], null_pairs_cbor k, null_pairs_stream k, (tt, null_pairs_counted k))

key_stands : (k : List ℕ) → IsUtf8 k → StandsInCbor (key_event k)
key_stands k utf8 = (
  object (member k null no_members),
  start_object (Some 1) ∷ [],
  null_event ∷ end_object ∷ [],
  (utf8, tt, tt),
  (
    Some 1,
    key_event k ∷ null_event ∷ end_object ∷ [],
    refl,
    refl,
    (null_event ∷ end_object ∷ [], end_object ∷ [], refl, refl, refl),
  ),
  (tt, (tt, (tt, (tt, tt)))),
)

stands : (e : NodeEvent) → IsCborEvent e → StandsInCbor e
stands null_event taken = (null, [], [], tt, refl, (tt, tt))
stands (bool_event b) taken = (bool b, [], [], tt, refl, (tt, tt))
stands (int_event z) taken = (int z, [], [], taken, refl, (tt, tt))
stands (number_event t) taken = absurd taken
stands (text_event t) taken = (text t, [], [], taken, refl, (tt, tt))
stands (bytes_event t) taken = (bytes t, [], [], taken, refl, (tt, tt))
stands (tag_event k) taken =
    (tag k null, [], null_event ∷ [], (taken, tt), (null_event ∷ [], refl, refl), (tt, (tt, tt)))
stands (opaque_event b) taken = absurd taken
stands (start_list counted) taken = list_stands counted taken
stands end_list taken = (
  list no_nodes,
  start_list (Some 0) ∷ [],
  [],
  tt,
  (Some 0, end_list ∷ [], refl, refl, refl),
  (tt, (tt, tt)),
)
stands (start_object counted) taken = object_stands counted taken
stands (key_event k) taken = key_stands k taken
stands end_object taken = (
  object no_members,
  start_object (Some 0) ∷ [],
  [],
  tt,
  (Some 0, end_object ∷ [], refl, refl, refl),
  (tt, (tt, tt)),
)

list_taken : (counted : Option ℕ) → IsCounted (start_list counted) → IsCborEvent (start_list counted)
list_taken None is_counted = absurd is_counted
list_taken (Some k) is_counted = tt

object_taken : (counted : Option ℕ) → IsCounted (start_object counted) → IsCborEvent (start_object counted)
object_taken None is_counted = absurd is_counted
object_taken (Some k) is_counted = tt

mutual
  -- the events of a tree are taken, and then what follows, whose openers tell their numbers too
  tree_taken : (n : Node) (es fs : List NodeEvent) → IsCbor n → Streams n es fs → AreCounted es
      → (AreCounted fs → TakesEach IsCborEvent fs)
      → TakesEach IsCborEvent es
  tree_taken null es fs cbor h counted rest = subst (TakesEach IsCborEvent) (sym h) (tt, rest (subst AreCounted h counted).1)
  tree_taken (bool b) es fs cbor h counted rest = subst (TakesEach IsCborEvent) (sym h) (tt, rest (subst AreCounted h counted).1)
  tree_taken (int z) es fs cbor h counted rest = subst (TakesEach IsCborEvent) (sym h) (cbor, rest (subst AreCounted h counted).1)
  tree_taken (number t) es fs cbor h counted rest = absurd cbor
  tree_taken (text t) es fs cbor h counted rest = subst (TakesEach IsCborEvent) (sym h) (cbor, rest (subst AreCounted h counted).1)
  tree_taken (bytes t) es fs cbor h counted rest = subst (TakesEach IsCborEvent) (sym h) (cbor, rest (subst AreCounted h counted).1)
  tree_taken (tag k n) es fs cbor (gs, is, stream) counted rest =
      subst (TakesEach IsCborEvent) (sym is)
      (cbor.0, tree_taken n gs fs cbor.1 stream (subst AreCounted is counted).1 rest)
  tree_taken (opaque b) es fs cbor h counted rest = absurd cbor
  tree_taken (list ns) es fs cbor (says, gs, is, tells, stream) counted rest =
      subst (TakesEach IsCborEvent) (sym is)
      (list_taken says (subst AreCounted is counted).0, entries_taken ns gs fs cbor stream (subst AreCounted is counted).1 rest)
  tree_taken (object ms) es fs cbor (says, gs, is, tells, stream) counted rest =
      subst (TakesEach IsCborEvent) (sym is)
      (object_taken says (subst AreCounted is counted).0, pairs_taken ms gs fs cbor stream (subst AreCounted is counted).1 rest)

  entries_taken : (ns : Nodes) (es fs : List NodeEvent) → AreCbor ns → EntriesStream ns es fs → AreCounted es
      → (AreCounted fs → TakesEach IsCborEvent fs)
      → TakesEach IsCborEvent es
  entries_taken no_nodes es fs cbor h counted rest = subst (TakesEach IsCborEvent) (sym h) (tt, rest (subst AreCounted h counted).1)
  entries_taken (node n ns) es fs cbor (gs, first, more) counted rest =
      tree_taken n es gs cbor.0 first counted (λ behind. entries_taken ns gs fs cbor.1 more behind rest)

  pairs_taken : (ms : Members) (es fs : List NodeEvent) → AreCborMembers ms → PairsStream ms es fs → AreCounted es
      → (AreCounted fs → TakesEach IsCborEvent fs)
      → TakesEach IsCborEvent es
  pairs_taken no_members es fs cbor h counted rest = subst (TakesEach IsCborEvent) (sym h) (tt, rest (subst AreCounted h counted).1)
  pairs_taken (member k n ms) es fs cbor (gs, hs, is, first, more) counted rest =
      subst (TakesEach IsCborEvent) (sym is) (
        cbor.0,
        tree_taken n gs hs cbor.1 first (subst AreCounted is counted).1 (λ behind. pairs_taken ms hs fs cbor.2 more behind rest),
      )

one_taken : (ds : List NodeEvent) (e : NodeEvent) (es : List NodeEvent) → TakesEach IsCborEvent (ds ++ e ∷ es) → IsCborEvent e
one_taken [] e es taken = taken.0
one_taken (d ∷ ds) e es taken = one_taken ds e es taken.1

pub events_stand : CborEventsStand
events_stand e = (stands e, λ s. one_taken s.1 e s.2 (tree_taken s.0 (s.1 ++ e ∷ s.2) [] s.3 s.4 s.5 (λ t. tt)))

pub streams_taken : CborStreamsAreTaken
streams_taken n es cbor stream counted = tree_taken n es [] cbor stream counted (λ t. tt)
