-- A writer takes exactly the events that stand in the stream of some tree that JSON can spell.
use Rattle.std.proofs.Common.{ℕ, zero, suc, List, [], ◌∷◌, ◌++◌, refl, sym, subst, Some, None, Option, IsUtf8}
use Rattle.sm_tree.specs.Node.{Node, Nodes, Members, null, bool, int, number, text, bytes, tag, opaque, list, object, no_nodes, node}
use Rattle.sm_tree.specs.Node.{no_members, member}
use Rattle.sm_tree.specs.Events.{NodeEvent, null_event, bool_event, int_event, number_event, text_event, bytes_event, tag_event}
use Rattle.sm_tree.specs.Events.{opaque_event, start_list, end_list, start_object, key_event, end_object}
use Rattle.sm_tree.specs.Streams.{Streams, EntriesStream, PairsStream, TakesEach, numbered_entries, numbered_pairs}
use Rattle.sm_tree.specs.Json.{IsJson, AreJson, AreJsonMembers}
use Rattle.sm_tree.proofs.Counted.{nulls, nulls_stream, null_pairs, null_pairs_stream}
use Rattle.sm_json.specs.WrittenEvents.{StandsInJson, IsJsonEvent, JsonEventsStand, JsonStreamsAreTaken}

nulls_json : (k : ℕ) → AreJson (nulls k)
nulls_json zero = tt
nulls_json (suc k) = (tt, nulls_json k)

null_pairs_json : (k : ℕ) → AreJsonMembers (null_pairs k)
null_pairs_json zero = tt
null_pairs_json (suc k) = (([], (refl, refl)), tt, null_pairs_json k)

-- an opener stands in a stream of some list or object, whatever it tells
list_stands : (told : Option ℕ) → StandsInJson (start_list told)
list_stands None = (list no_nodes, [], end_list ∷ [], tt, (None, end_list ∷ [], refl, tt, refl))
list_stands (Some k) = (list (nulls k), [], numbered_entries (nulls k) [], nulls_json k, nulls_stream k)

object_stands : (told : Option ℕ) → StandsInJson (start_object told)
object_stands None = (object no_members, [], end_object ∷ [], tt, (None, end_object ∷ [], refl, tt, refl))
object_stands (Some k) = (object (null_pairs k), [], numbered_pairs (null_pairs k) [], null_pairs_json k, null_pairs_stream k)

key_stands : (k : List ℕ) → IsUtf8 k → StandsInJson (key_event k)
key_stands k utf8 = (
  object (member k null no_members),
  start_object None ∷ [],
  null_event ∷ end_object ∷ [],
  (utf8, tt, tt),
  (
    None,
    key_event k ∷ null_event ∷ end_object ∷ [],
    refl,
    tt,
    (null_event ∷ end_object ∷ [], end_object ∷ [], refl, refl, refl),
  ),
)

stands : (e : NodeEvent) → IsJsonEvent e → StandsInJson e
stands null_event taken = (null, [], [], tt, refl)
stands (bool_event b) taken = (bool b, [], [], tt, refl)
stands (int_event z) taken = (int z, [], [], taken, refl)
stands (number_event t) taken = (number t, [], [], taken, refl)
stands (text_event t) taken = (text t, [], [], taken, refl)
stands (bytes_event t) taken = absurd taken
stands (tag_event k) taken = absurd taken
stands (opaque_event b) taken = absurd taken
stands (start_list told) taken = list_stands told
stands end_list taken = (list no_nodes, start_list None ∷ [], [], tt, (None, end_list ∷ [], refl, tt, refl))
stands (start_object told) taken = object_stands told
stands (key_event k) taken = key_stands k taken
stands end_object taken = (object no_members, start_object None ∷ [], [], tt, (None, end_object ∷ [], refl, tt, refl))

mutual
  tree_taken : (n : Node) (es fs : List NodeEvent) → IsJson n → Streams n es fs → TakesEach IsJsonEvent fs → TakesEach IsJsonEvent es
  tree_taken null es fs json h rest = subst (TakesEach IsJsonEvent) (sym h) (tt, rest)
  tree_taken (bool b) es fs json h rest = subst (TakesEach IsJsonEvent) (sym h) (tt, rest)
  tree_taken (int z) es fs json h rest = subst (TakesEach IsJsonEvent) (sym h) (json, rest)
  tree_taken (number t) es fs json h rest = subst (TakesEach IsJsonEvent) (sym h) (json, rest)
  tree_taken (text t) es fs json h rest = subst (TakesEach IsJsonEvent) (sym h) (json, rest)
  tree_taken (bytes t) es fs json h rest = absurd json
  tree_taken (tag k n) es fs json h rest = absurd json
  tree_taken (opaque b) es fs json h rest = absurd json
  tree_taken (list ns) es fs json (told, gs, is, tells, stream) rest =
      subst (TakesEach IsJsonEvent) (sym is) (tt, entries_taken ns gs fs json stream rest)
  tree_taken (object ms) es fs json (told, gs, is, tells, stream) rest =
      subst (TakesEach IsJsonEvent) (sym is) (tt, pairs_taken ms gs fs json stream rest)

  entries_taken : (ns : Nodes) (es fs : List NodeEvent) → AreJson ns → EntriesStream ns es fs → TakesEach IsJsonEvent fs
      → TakesEach IsJsonEvent es
  entries_taken no_nodes es fs json h rest = subst (TakesEach IsJsonEvent) (sym h) (tt, rest)
  entries_taken (node n ns) es fs json (gs, first, more) rest =
      tree_taken n es gs json.0 first (entries_taken ns gs fs json.1 more rest)

  pairs_taken : (ms : Members) (es fs : List NodeEvent) → AreJsonMembers ms → PairsStream ms es fs → TakesEach IsJsonEvent fs
      → TakesEach IsJsonEvent es
  pairs_taken no_members es fs json h rest = subst (TakesEach IsJsonEvent) (sym h) (tt, rest)
  pairs_taken (member k n ms) es fs json (gs, hs, is, first, more) rest =
      subst (TakesEach IsJsonEvent) (sym is)
      (json.0, tree_taken n gs hs json.1 first (pairs_taken ms hs fs json.2 more rest))

one_taken : (ds : List NodeEvent) (e : NodeEvent) (es : List NodeEvent) → TakesEach IsJsonEvent (ds ++ e ∷ es) → IsJsonEvent e
one_taken [] e es taken = taken.0
one_taken (d ∷ ds) e es taken = one_taken ds e es taken.1

pub events_stand : JsonEventsStand
events_stand e = (stands e, λ s. one_taken s.1 e s.2 (tree_taken s.0 (s.1 ++ e ∷ s.2) [] s.3 s.4 tt))

pub streams_taken : JsonStreamsAreTaken
streams_taken n es json stream = tree_taken n es [] json stream tt
