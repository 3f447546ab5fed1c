-- What is written for the events of a tree is its written text, and one event more adds its own text behind a comma or none.
use Rattle.std.proofs.Common.{◌≡◌, true, ℕ, List, [], ◌∷◌, ◌++◌, refl, sym, ap, subst, ◌∙◌, append_assoc, append-nil, None}
use Rattle.sm_tree.specs.Node.{Node, Nodes, Members, null, bool, int, number, text, bytes, tag, opaque, list, object, no_nodes, node}
use Rattle.sm_tree.specs.Node.{no_members, member}
use Rattle.sm_tree.specs.Events.{NodeEvent, null_event, bool_event, int_event, number_event, text_event, start_list, end_list}
use Rattle.sm_tree.specs.Events.{start_object, key_event, end_object}
use Rattle.sm_tree.specs.Streams.{Streams, EntriesStream, PairsStream}
use Rattle.sm_tree.specs.Json.{IsJson, AreJson, AreJsonMembers}
use Rattle.sm_json.specs.Written.{written, written_entries, more_written_entries, written_pairs, more_written_pairs, written_text}
use Rattle.sm_json.specs.WrittenEvents.{comma_before, ends_value, value_ended, ended_behind, event_text, written_behind, written_events}
use Rattle.sm_json.specs.WrittenEvents.{WrittenEventsAreTree, WrittenEventsBegin}

-- nothing stands before the first event, as behind an opener
pub at_first : (es : List NodeEvent) → written_behind (start_list None) es ≡ written_events es
at_first [] = refl
at_first (e ∷ es) = refl

-- behind a value, another one has a comma before it
comma_first : (n : Node) (es fs : List NodeEvent) → IsJson n → Streams n es fs
    → written_behind null_event es ≡ 44 ∷ written_behind (start_list None) es
comma_first null es fs json h = subst (λ xs. written_behind null_event xs ≡ 44 ∷ written_behind (start_list None) xs) (sym h) refl
comma_first (bool b) es fs json h = subst (λ xs. written_behind null_event xs ≡ 44 ∷ written_behind (start_list None) xs) (sym h) refl
comma_first (int z) es fs json h = subst (λ xs. written_behind null_event xs ≡ 44 ∷ written_behind (start_list None) xs) (sym h) refl
comma_first (number t) es fs json h = subst (λ xs. written_behind null_event xs ≡ 44 ∷ written_behind (start_list None) xs) (sym h) refl
comma_first (text t) es fs json h = subst (λ xs. written_behind null_event xs ≡ 44 ∷ written_behind (start_list None) xs) (sym h) refl
comma_first (bytes t) es fs json h = absurd json
comma_first (tag k n) es fs json h = absurd json
comma_first (opaque b) es fs json h = absurd json
comma_first (list ns) es fs json (told, gs, is, tells, rest) =
    subst (λ xs. written_behind null_event xs ≡ 44 ∷ written_behind (start_list None) xs) (sym is) refl
comma_first (object ms) es fs json (told, gs, is, tells, rest) =
    subst (λ xs. written_behind null_event xs ≡ 44 ∷ written_behind (start_list None) xs) (sym is) refl

-- of the event before, only whether it ends a value counts
same_behind : (c d : NodeEvent) (es : List NodeEvent) → ends_value c ≡ ends_value d → written_behind c es ≡ written_behind d es
same_behind c d [] same = refl
same_behind c d (e ∷ es) same = ap (λ ended. comma_before ended e ++ (event_text e ++ written_behind e es)) same

-- an event that ends a value, and then what follows
one_event : (d e : NodeEvent) (es fs : List NodeEvent) → es ≡ e ∷ fs → ends_value e ≡ true
    → written_behind d es ≡ (comma_before (ends_value d) e ++ event_text e) ++ written_behind null_event fs
one_event d e es fs is ends =
    ap (λ xs. written_behind d xs) is
    ∙ ap (λ s. comma_before (ends_value d) e ++ (event_text e ++ s)) (same_behind e null_event fs ends)
    ∙ sym (append_assoc (comma_before (ends_value d) e) (event_text e) (written_behind null_event fs))

-- a tree's text, with what comes behind it
with_rest : (p q r s : List ℕ) → q ≡ r ++ s → p ++ q ≡ (p ++ r) ++ s
with_rest p q r s is = ap (λ x. p ++ x) is ∙ sym (append_assoc p r s)

-- a name with its colon, the value, and the pairs behind it
pair_events : (k : List ℕ) (n : Node) (ms : Members) (gs hs fs : List NodeEvent)
    → written_behind (start_list None) gs ≡ written n ++ written_behind null_event hs
    → written_behind null_event hs ≡ more_written_pairs ms ++ written_behind null_event fs
    → event_text (key_event k) ++ written_behind (key_event k) gs
    ≡ (written_text k ++ 58 ∷ (written n ++ more_written_pairs ms)) ++ written_behind null_event fs
pair_events k n ms gs hs fs first rest =
    append_assoc (written_text k) (58 ∷ []) (written_behind (key_event k) gs)
    ∙ ap (λ s. written_text k ++ 58 ∷ s) (same_behind (key_event k) (start_list None) gs refl
    ∙ first
    ∙ with_rest (written n) (written_behind null_event hs) (more_written_pairs ms) (written_behind null_event fs) rest)
    ∙ sym (append_assoc (written_text k) (58 ∷ (written n ++ more_written_pairs ms)) (written_behind null_event fs))

mutual
  -- the events of a tree, and then what follows
  pub tree_events : (n : Node) (es fs : List NodeEvent) → IsJson n → Streams n es fs
      → written_behind (start_list None) es ≡ written n ++ written_behind null_event fs
  tree_events null es fs json h = one_event (start_list None) null_event es fs h refl
  tree_events (bool b) es fs json h = one_event (start_list None) (bool_event b) es fs h refl
  tree_events (int z) es fs json h = one_event (start_list None) (int_event z) es fs h refl
  tree_events (number t) es fs json h = one_event (start_list None) (number_event t) es fs h refl
  tree_events (text t) es fs json h = one_event (start_list None) (text_event t) es fs h refl
  tree_events (bytes t) es fs json h = absurd json
  tree_events (tag k n) es fs json h = absurd json
  tree_events (opaque b) es fs json h = absurd json
  tree_events (list ns) es fs json (told, gs, is, tells, rest) =
      ap (λ xs. written_behind (start_list None) xs) is
      ∙ ap (λ s. 91 ∷ s) (same_behind (start_list told) (start_list None) gs refl ∙ entries_events ns gs fs json rest)
  tree_events (object ms) es fs json (told, gs, is, tells, rest) =
      ap (λ xs. written_behind (start_list None) xs) is
      ∙ ap (λ s. 123 ∷ s) (same_behind (start_object told) (start_list None) gs refl ∙ pairs_events ms gs fs json rest)

  entries_events : (ns : Nodes) (es fs : List NodeEvent) → AreJson ns → EntriesStream ns es fs
      → written_behind (start_list None) es ≡ written_entries ns ++ written_behind null_event fs
  entries_events no_nodes es fs json h = one_event (start_list None) end_list es fs h refl
  entries_events (node n ns) es fs json (gs, first, rest) =
      tree_events n es gs json.0 first
      ∙ with_rest (written n) (written_behind null_event gs) (more_written_entries ns) (written_behind null_event fs)
      (more_entries_events ns gs fs json.1 rest)

  more_entries_events : (ns : Nodes) (es fs : List NodeEvent) → AreJson ns → EntriesStream ns es fs
      → written_behind null_event es ≡ more_written_entries ns ++ written_behind null_event fs
  more_entries_events no_nodes es fs json h = one_event null_event end_list es fs h refl
  more_entries_events (node n ns) es fs json (gs, first, rest) =
      comma_first n es gs json.0 first
      ∙ ap (λ s. 44 ∷ s) (tree_events n es gs json.0 first
      ∙ with_rest (written n) (written_behind null_event gs) (more_written_entries ns) (written_behind null_event fs)
      (more_entries_events ns gs fs json.1 rest))

  pairs_events : (ms : Members) (es fs : List NodeEvent) → AreJsonMembers ms → PairsStream ms es fs
      → written_behind (start_list None) es ≡ written_pairs ms ++ written_behind null_event fs
  pairs_events no_members es fs json h = one_event (start_list None) end_object es fs h refl
  pairs_events (member k n ms) es fs json (gs, hs, is, first, rest) =
      ap (λ xs. written_behind (start_list None) xs) is
      ∙ pair_events k n ms gs hs fs (tree_events n gs hs json.1 first) (more_pairs_events ms hs fs json.2 rest)

  more_pairs_events : (ms : Members) (es fs : List NodeEvent) → AreJsonMembers ms → PairsStream ms es fs
      → written_behind null_event es ≡ more_written_pairs ms ++ written_behind null_event fs
  more_pairs_events no_members es fs json h = one_event null_event end_object es fs h refl
  more_pairs_events (member k n ms) es fs json (gs, hs, is, first, rest) =
      ap (λ xs. written_behind null_event xs) is
      ∙ ap (λ s. 44 ∷ s)
      (pair_events k n ms gs hs fs (tree_events n gs hs json.1 first) (more_pairs_events ms hs fs json.2 rest))

pub tree_written : WrittenEventsAreTree
tree_written n es json stream = sym (at_first es) ∙ tree_events n es [] json stream ∙ append-nil (written n)

-- the events before, and those behind them
behind_joined : (d : NodeEvent) (es more : List NodeEvent) → (rest : List ℕ) × (written_behind d (es ++ more) ≡ written_behind d es ++ rest)
behind_joined d [] more = (written_behind d more, refl)
behind_joined d (e ∷ es) more =
    let later : (rest : List ℕ) × (written_behind e (es ++ more) ≡ written_behind e es ++ rest) = behind_joined e es more in (
      later.0,
      with_rest (comma_before (ends_value d) e) (event_text e ++ written_behind e (es ++ more))
          (event_text e ++ written_behind e es) later.0
          (with_rest (event_text e) (written_behind e (es ++ more)) (written_behind e es) later.0 later.1),
    )

events_joined : (es more : List NodeEvent) → (rest : List ℕ) × (written_events (es ++ more) ≡ written_events es ++ rest)
events_joined [] more = (written_events more, refl)
events_joined (e ∷ es) more =
    let later : (rest : List ℕ) × (written_behind e (es ++ more) ≡ written_behind e es ++ rest) = behind_joined e es more in
    (later.0, with_rest (event_text e) (written_behind e (es ++ more)) (written_behind e es) later.0 later.1)

pub prefix_written : WrittenEventsBegin
prefix_written n es more json stream =
    let joined : (rest : List ℕ) × (written_events (es ++ more) ≡ written_events es ++ rest) = events_joined es more in
    (joined.0, sym (tree_written n (es ++ more) json stream) ∙ joined.1)

-- one event more: its own text, and what stands before it
behind_more : (d : NodeEvent) (es : List NodeEvent) (e : NodeEvent)
    → written_behind d (es ++ e ∷ []) ≡ written_behind d es ++ (comma_before (ended_behind d es) e ++ event_text e)
behind_more d [] e = ap (λ s. comma_before (ends_value d) e ++ s) (append-nil (event_text e))
behind_more d (x ∷ es) e =
    with_rest (comma_before (ends_value d) x) (event_text x ++ written_behind x (es ++ e ∷ [])) (event_text x ++ written_behind x es)
    (comma_before (ended_behind x es) e ++ event_text e)
    (with_rest (event_text x) (written_behind x (es ++ e ∷ [])) (written_behind x es) (comma_before (ended_behind x es) e ++ event_text e)
    (behind_more x es e))

pub events_more : (es : List NodeEvent) (e : NodeEvent)
    → written_events (es ++ e ∷ []) ≡ written_events es ++ (comma_before (value_ended es) e ++ event_text e)
events_more [] e = append-nil (event_text e)
events_more (x ∷ es) e =
    with_rest (event_text x) (written_behind x (es ++ e ∷ [])) (written_behind x es) (comma_before (ended_behind x es) e ++ event_text e)
    (behind_more x es e)

-- the last event tells whether a value has ended
ended_more : (d : NodeEvent) (es : List NodeEvent) (e : NodeEvent) → ended_behind d (es ++ e ∷ []) ≡ ends_value e
ended_more d [] e = refl
ended_more d (x ∷ es) e = ended_more x es e

pub last_ends : (es : List NodeEvent) (e : NodeEvent) → value_ended (es ++ e ∷ []) ≡ ends_value e
last_ends [] e = refl
last_ends (x ∷ es) e = ended_more x es e
