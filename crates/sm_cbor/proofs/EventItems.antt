-- What is written for the events of a tree is its written item, and one event more adds its own bytes.
use Rattle.std.proofs.Common.{◌≡◌, true, false, Option, None, Some, ℕ, List, [], ◌∷◌, ◌++◌, refl, sym, ap, subst, ◌∙◌, append_assoc}
use Rattle.std.proofs.Common.{append-nil}
use Rattle.sm_tree.specs.Node.{Node, Nodes, Members, null, bool, int, number, text, bytes, tag, opaque, list, object, no_nodes, node}
use Rattle.sm_tree.specs.Node.{no_members, member}
use Rattle.sm_tree.specs.Events.{NodeEvent, start_list, start_object}
use Rattle.sm_tree.specs.Streams.{Streams, EntriesStream, PairsStream, HasCount, TakesOn, entry_count, pair_count}
use Rattle.sm_cbor.specs.Written.{written_head, written_item, written_item_entries, written_item_pairs, written_text_item}
use Rattle.sm_cbor.specs.WrittenEvents.{event_item, written_item_events, IsCounted, AreCounted, WrittenEventsAreItem}
use Rattle.sm_cbor.specs.WrittenEvents.{WrittenEventsBeginItem}

-- the events begin with bytes, and those that follow tell their numbers too
abbrev Follow : List ℕ → List NodeEvent → List NodeEvent → Type 0
Follow w es fs = (written_item_events es ≡ w ++ written_item_events fs) × AreCounted fs

-- one event, and then what follows
first_event : (e : NodeEvent) (es fs : List NodeEvent) → es ≡ e ∷ fs → AreCounted es → Follow (event_item e) es fs
first_event e es fs is counted = (ap written_item_events is, (subst AreCounted is counted).1)

-- two parts, one after the other
both_follow : (p q : List ℕ) (es fs gs : List NodeEvent) → written_item_events es ≡ p ++ written_item_events fs → Follow q fs gs
    → Follow (p ++ q) es gs
both_follow p q es fs gs first rest = (first ∙ ap (λ s. p ++ s) rest.0 ∙ sym (append_assoc p q (written_item_events gs)), rest.1)

-- an opener's head
list_head : (says : Option ℕ) (count : ℕ) → HasCount says count → IsCounted (start_list says)
    → event_item (start_list says) ≡ written_head 4 count
list_head None count tells is_counted = absurd is_counted
list_head (Some k) count tells is_counted = ap (λ n. written_head 4 n) tells

map_head : (says : Option ℕ) (count : ℕ) → HasCount says count → IsCounted (start_object says)
    → event_item (start_object says) ≡ written_head 5 count
map_head None count tells is_counted = absurd is_counted
map_head (Some k) count tells is_counted = ap (λ n. written_head 5 n) tells

mutual
  tree_events : (n : Node) (es fs : List NodeEvent) → Streams n es fs → AreCounted es → Follow (written_item n) es fs
  tree_events null es fs h counted = first_event _ es fs h counted
  tree_events (bool true) es fs h counted = first_event _ es fs h counted
  tree_events (bool false) es fs h counted = first_event _ es fs h counted
  tree_events (int z) es fs h counted = first_event _ es fs h counted
  tree_events (number t) es fs h counted = first_event _ es fs h counted
  tree_events (text t) es fs h counted = first_event _ es fs h counted
  tree_events (bytes t) es fs h counted = first_event _ es fs h counted
  tree_events (tag k n) es fs (gs, is, stream) counted =
      let head : Follow (written_head 6 k) es gs = first_event _ es gs is counted in
      both_follow (written_head 6 k) (written_item n) es gs fs head.0 (tree_events n gs fs stream head.1)
  tree_events (opaque b) es fs h counted = first_event _ es fs h counted
  tree_events (list ns) es fs (says, gs, is, tells, stream) counted =
      let head : Follow (event_item (start_list says)) es gs = first_event _ es gs is counted in
      let same : event_item (start_list says) ≡ written_head 4 (entry_count ns) =
      list_head says (entry_count ns) tells (subst AreCounted is counted).0 in
      both_follow (written_head 4 (entry_count ns)) (written_item_entries ns) es gs fs
      (head.0 ∙ ap (λ s. s ++ written_item_events gs) same) (entries_events ns gs fs stream head.1)
  tree_events (object ms) es fs (says, gs, is, tells, stream) counted =
      let head : Follow (event_item (start_object says)) es gs = first_event _ es gs is counted in
      let same : event_item (start_object says) ≡ written_head 5 (pair_count ms) =
      map_head says (pair_count ms) tells (subst AreCounted is counted).0 in
      both_follow (written_head 5 (pair_count ms)) (written_item_pairs ms) es gs fs
      (head.0 ∙ ap (λ s. s ++ written_item_events gs) same) (pairs_events ms gs fs stream head.1)

  entries_events : (ns : Nodes) (es fs : List NodeEvent) → EntriesStream ns es fs → AreCounted es → Follow (written_item_entries ns) es fs
  entries_events no_nodes es fs h counted = first_event _ es fs h counted
  entries_events (node n ns) es fs (gs, first, rest) counted =
      let one : Follow (written_item n) es gs = tree_events n es gs first counted in
      both_follow (written_item n) (written_item_entries ns) es gs fs one.0 (entries_events ns gs fs rest one.1)

  pairs_events : (ms : Members) (es fs : List NodeEvent) → PairsStream ms es fs → AreCounted es → Follow (written_item_pairs ms) es fs
  pairs_events no_members es fs h counted = first_event _ es fs h counted
  pairs_events (member k n ms) es fs (gs, hs, is, first, rest) counted =
      let key : Follow (written_text_item k) es gs = first_event _ es gs is counted in
      let one : Follow (written_item n) gs hs = tree_events n gs hs first key.1 in
      let more : Follow (written_item n ++ written_item_pairs ms) gs fs =
      both_follow (written_item n) (written_item_pairs ms) gs hs fs one.0 (pairs_events ms hs fs rest one.1) in
      both_follow (written_text_item k) (written_item n ++ written_item_pairs ms) es gs fs key.0 more

pub item_written : WrittenEventsAreItem
item_written n es stream counted = (tree_events n es [] stream counted).0 ∙ append-nil (written_item n)

pub events_joined : (es more : List NodeEvent) → written_item_events (es ++ more) ≡ written_item_events es ++ written_item_events more
events_joined [] more = refl
events_joined (e ∷ es) more =
    ap (λ s. event_item e ++ s) (events_joined es more)
    ∙ sym (append_assoc (event_item e) (written_item_events es) (written_item_events more))

pub prefix_written : WrittenEventsBeginItem
prefix_written n es more stream counted =
    (written_item_events more, sym (item_written n (es ++ more) stream counted) ∙ events_joined es more)

-- a writer whose bytes have an event's behind them stands for the longer stream
pub written_on : (before after : List ℕ) (e : NodeEvent) → after ≡ before ++ event_item e
    → TakesOn (λ es. before ≡ written_item_events es) e (λ es. after ≡ written_item_events es)
written_on before after e appended es stands begins =
    appended ∙ ap (λ s. s ++ event_item e) stands
    ∙ ap (λ s. written_item_events es ++ s) (sym (append-nil (event_item e)))
    ∙ sym (events_joined es (e ∷ []))
