-- The events of a tree that is written: a writer of its format takes them, and then holds what is written for the tree.
use Rattle.std.proofs.Common.{◌≡◌, List, []}
use Rattle.sm_tree.specs.Node.{Node, Nodes, Members, null, bool, int, number, text, bytes, tag, opaque, list, object, no_nodes, node}
use Rattle.sm_tree.specs.Node.{no_members, member}
use Rattle.sm_tree.specs.Json.{IsJson, IsCbor}
use Rattle.sm_tree.specs.Events.{NodeEvent}
use Rattle.sm_tree.specs.Streams.{TakesEach, numbered, numbered_entries, numbered_pairs}
use Rattle.sm_tree.proofs.Streams.{numbered_stream}
use Rattle.sm_json.specs.Written as json
use Rattle.sm_json.specs.WrittenEvents.{IsJsonEvent, written_events}
use Rattle.sm_json.proofs.EventTexts.{tree_written}
use Rattle.sm_json.proofs.TakenEvents.{streams_taken}
use Rattle.sm_cbor.specs.Written.{written_item}
use Rattle.sm_cbor.specs.WrittenEvents.{IsCborEvent, AreCounted, written_item_events}
use Rattle.sm_cbor.proofs.EventItems.{item_written}
use Rattle.sm_cbor.proofs.TakenEvents as cbor

pub text_taken : (n : Node) → IsJson n → TakesEach IsJsonEvent (numbered n [])
text_taken n json = streams_taken n (numbered n []) json (numbered_stream n [])

pub text_written : (n : Node) → IsJson n → written_events (numbered n []) ≡ json.written n
text_written n json = tree_written n (numbered n []) json (numbered_stream n [])

mutual
  counted : (n : Node) (es : List NodeEvent) → AreCounted es → AreCounted (numbered n es)
  counted null es rest = (tt, rest)
  counted (bool b) es rest = (tt, rest)
  counted (int z) es rest = (tt, rest)
  counted (number t) es rest = (tt, rest)
  counted (text t) es rest = (tt, rest)
  counted (bytes t) es rest = (tt, rest)
  counted (tag k n) es rest = (tt, counted n es rest)
  counted (opaque b) es rest = (tt, rest)
  counted (list ns) es rest = (tt, entries_counted ns es rest)
  counted (object ms) es rest = (tt, pairs_counted ms es rest)

  entries_counted : (ns : Nodes) (es : List NodeEvent) → AreCounted es → AreCounted (numbered_entries ns es)
  entries_counted no_nodes es rest = (tt, rest)
  entries_counted (node n ns) es rest = counted n (numbered_entries ns es) (entries_counted ns es rest)

  pairs_counted : (ms : Members) (es : List NodeEvent) → AreCounted es → AreCounted (numbered_pairs ms es)
  pairs_counted no_members es rest = (tt, rest)
  pairs_counted (member k n ms) es rest = (tt, counted n (numbered_pairs ms es) (pairs_counted ms es rest))

pub item_taken : (n : Node) → IsCbor n → TakesEach IsCborEvent (numbered n [])
item_taken n is = cbor.streams_taken n (numbered n []) is (numbered_stream n []) (counted n [] tt)

pub item_is : (n : Node) → written_item_events (numbered n []) ≡ written_item n
item_is n = item_written n (numbered n []) (numbered_stream n []) (counted n [] tt)
