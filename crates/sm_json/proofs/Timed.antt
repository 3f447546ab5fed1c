-- Texts with times: each text has its times, a text with times is a text of its tree's events, and it has no more events than
-- bytes.
use Rattle.std.proofs.Common.{◌≡◌, ℕ, List, [], ◌∷◌, None, refl, ap, ◌∙◌, length}
use Rattle.sm_tree.specs.Node.{Node, Nodes, Members, null, bool, int, number, text, bytes, tag, opaque, list, object, no_nodes, node}
use Rattle.sm_tree.specs.Node.{no_members, member}
use Rattle.sm_tree.specs.Events.{NodeEvent, null_event, bool_event, int_event, number_event, text_event, start_list, end_list}
use Rattle.sm_tree.specs.Events.{start_object, key_event, end_object, events, entries_events, pairs_events}
use Rattle.sm_tree.specs.Timing.{TimedEvent, by_byte, untimed}
use Rattle.sm_json.specs.JsonText.{SpellsValue, Entries, MoreEntries, Pairs, MorePairs, JsonText}
use Rattle.sm_json.specs.Timing.{by_next, ValueTimed, EntriesTimed, MoreEntriesTimed, PairsTimed, MorePairsTimed, json_timing}
use Rattle.sm_json.proofs.Starts.{FirstByte, spells_first, spells_none}

-- each spelling has its times, whatever they are behind it
mutual
  pub value_timed : (n : Node) (s r : List ℕ) (us : List TimedEvent) → SpellsValue n s r → (ts : List TimedEvent) × ValueTimed n s r ts us
  value_timed null s r us h = (by_byte null_event (length r) ∷ us, (h, refl))
  value_timed (bool b) s r us h = (by_byte (bool_event b) (length r) ∷ us, (h, refl))
  value_timed (int z) s r us h = (by_next (int_event z) r ∷ us, (h, refl))
  value_timed (number t) s r us h = (by_next (number_event t) r ∷ us, (h, refl))
  value_timed (text t) s r us h = (by_byte (text_event t) (length r) ∷ us, (h, refl))
  value_timed (bytes t) s r us h = absurd h
  value_timed (tag k n) s r us h = absurd h
  value_timed (opaque b) s r us h = absurd h
  value_timed (list ns) s r us (s1, e, h) =
      let (vs, m) = entries_timed ns s1 r us h in (by_byte (start_list None) (length s1) ∷ vs, (s1, vs, e, refl, m))
  value_timed (object ms) s r us (s1, e, h) =
      let (vs, m) = pairs_timed ms s1 r us h in (by_byte (start_object None) (length s1) ∷ vs, (s1, vs, e, refl, m))

  entries_timed : (ns : Nodes) (s r : List ℕ) (us : List TimedEvent) → Entries ns s r → (ts : List TimedEvent) × EntriesTimed ns s r ts us
  entries_timed no_nodes s r us k = (by_byte end_list (length r) ∷ us, (k, refl))
  entries_timed (node n ns) s r us (s1, s2, k, h, more) =
      let (vs, m) = more_entries_timed ns s2 r us more in
      let (ts, v) = value_timed n s1 s2 vs h in (ts, (s1, s2, vs, k, v, m))

  more_entries_timed : (ns : Nodes) (s r : List ℕ) (us : List TimedEvent) → MoreEntries ns s r
      → (ts : List TimedEvent) × MoreEntriesTimed ns s r ts us
  more_entries_timed no_nodes s r us k = (by_byte end_list (length r) ∷ us, (k, refl))
  more_entries_timed (node n ns) s r us (s1, s2, k, h, more) =
      let (vs, m) = more_entries_timed ns s2 r us more in
      let (ts, v) = value_timed n s1 s2 vs h in (ts, (s1, s2, vs, k, v, m))

  pairs_timed : (ms : Members) (s r : List ℕ) (us : List TimedEvent) → Pairs ms s r → (ts : List TimedEvent) × PairsTimed ms s r ts us
  pairs_timed no_members s r us k = (by_byte end_object (length r) ∷ us, (k, refl))
  pairs_timed (member k n ms) s r us (s1, s2, s3, s4, white, name, sep, h, more) =
      let (ws, m) = more_pairs_timed ms s4 r us more in
      let (vs, v) = value_timed n s3 s4 ws h in
      (by_byte (key_event k) (length s2) ∷ vs, (s1, s2, s3, s4, vs, ws, white, name, refl, sep, v, m))

  more_pairs_timed : (ms : Members) (s r : List ℕ) (us : List TimedEvent) → MorePairs ms s r
      → (ts : List TimedEvent) × MorePairsTimed ms s r ts us
  more_pairs_timed no_members s r us k = (by_byte end_object (length r) ∷ us, (k, refl))
  more_pairs_timed (member k n ms) s r us (s1, s2, s3, s4, white, name, sep, h, more) =
      let (ws, m) = more_pairs_timed ms s4 r us more in
      let (vs, v) = value_timed n s3 s4 ws h in
      (by_byte (key_event k) (length s2) ∷ vs, (s1, s2, s3, s4, vs, ws, white, name, refl, sep, v, m))

-- what has times is a spelling
mutual
  pub value_spelt : (n : Node) (s r : List ℕ) (ts us : List TimedEvent) → ValueTimed n s r ts us → SpellsValue n s r
  value_spelt null s r ts us h = h.0
  value_spelt (bool b) s r ts us h = h.0
  value_spelt (int z) s r ts us h = h.0
  value_spelt (number t) s r ts us h = h.0
  value_spelt (text t) s r ts us h = h.0
  value_spelt (bytes t) s r ts us h = h
  value_spelt (tag k n) s r ts us h = h
  value_spelt (opaque b) s r ts us h = h
  value_spelt (list ns) s r ts us (s1, vs, e, e1, m) = (s1, e, entries_spelt ns s1 r vs us m)
  value_spelt (object ms) s r ts us (s1, vs, e, e1, m) = (s1, e, pairs_spelt ms s1 r vs us m)

  entries_spelt : (ns : Nodes) (s r : List ℕ) (ts us : List TimedEvent) → EntriesTimed ns s r ts us → Entries ns s r
  entries_spelt no_nodes s r ts us h = h.0
  entries_spelt (node n ns) s r ts us (s1, s2, vs, k, v, m) =
      (s1, s2, k, value_spelt n s1 s2 ts vs v, more_entries_spelt ns s2 r vs us m)

  more_entries_spelt : (ns : Nodes) (s r : List ℕ) (ts us : List TimedEvent) → MoreEntriesTimed ns s r ts us → MoreEntries ns s r
  more_entries_spelt no_nodes s r ts us h = h.0
  more_entries_spelt (node n ns) s r ts us (s1, s2, vs, k, v, m) =
      (s1, s2, k, value_spelt n s1 s2 ts vs v, more_entries_spelt ns s2 r vs us m)

  pairs_spelt : (ms : Members) (s r : List ℕ) (ts us : List TimedEvent) → PairsTimed ms s r ts us → Pairs ms s r
  pairs_spelt no_members s r ts us h = h.0
  pairs_spelt (member k n ms) s r ts us (s1, s2, s3, s4, vs, ws, white, name, e, sep, v, m) =
      (s1, s2, s3, s4, white, name, sep, value_spelt n s3 s4 vs ws v, more_pairs_spelt ms s4 r ws us m)

  more_pairs_spelt : (ms : Members) (s r : List ℕ) (ts us : List TimedEvent) → MorePairsTimed ms s r ts us → MorePairs ms s r
  more_pairs_spelt no_members s r ts us h = h.0
  more_pairs_spelt (member k n ms) s r ts us (s1, s2, s3, s4, vs, ws, white, name, e, sep, v, m) =
      (s1, s2, s3, s4, white, name, sep, value_spelt n s3 s4 vs ws v, more_pairs_spelt ms s4 r ws us m)

pub timed_first : (n : Node) (c : ℕ) (s r : List ℕ) (ts us : List TimedEvent) → ValueTimed n (c ∷ s) r ts us → FirstByte n c
timed_first n c s r ts us h = spells_first n c s r (value_spelt n (c ∷ s) r ts us h)

pub timed_none : (n : Node) (r : List ℕ) (ts us : List TimedEvent) → ValueTimed n [] r ts us → ⊥
timed_none n r ts us h = spells_none n r (value_spelt n [] r ts us h)

-- and its events are those of its tree
pub next_untimed : (e : NodeEvent) (r : List ℕ) (us : List TimedEvent) → untimed (by_next e r ∷ us) ≡ e ∷ untimed us
next_untimed e [] us = refl
next_untimed e (c ∷ r) us = refl

mutual
  pub value_events : (n : Node) (s r : List ℕ) (ts us : List TimedEvent) → ValueTimed n s r ts us → untimed ts ≡ events n (untimed us)
  value_events null s r ts us h = ap untimed h.1
  value_events (bool b) s r ts us h = ap untimed h.1
  value_events (int z) s r ts us h = ap untimed h.1 ∙ next_untimed (int_event z) r us
  value_events (number t) s r ts us h = ap untimed h.1 ∙ next_untimed (number_event t) r us
  value_events (text t) s r ts us h = ap untimed h.1
  value_events (bytes t) s r ts us h = absurd h
  value_events (tag k n) s r ts us h = absurd h
  value_events (opaque b) s r ts us h = absurd h
  value_events (list ns) s r ts us (s1, vs, e, e1, m) =
      ap untimed e1 ∙ ap (λ es. start_list None ∷ es) (entries_have_events ns s1 r vs us m)
  value_events (object ms) s r ts us (s1, vs, e, e1, m) =
      ap untimed e1 ∙ ap (λ es. start_object None ∷ es) (pairs_have_events ms s1 r vs us m)

  entries_have_events : (ns : Nodes) (s r : List ℕ) (ts us : List TimedEvent) → EntriesTimed ns s r ts us
      → untimed ts ≡ entries_events ns (untimed us)
  entries_have_events no_nodes s r ts us h = ap untimed h.1
  entries_have_events (node n ns) s r ts us (s1, s2, vs, k, v, m) =
      value_events n s1 s2 ts vs v ∙ ap (λ es. events n es) (more_entries_have_events ns s2 r vs us m)

  more_entries_have_events : (ns : Nodes) (s r : List ℕ) (ts us : List TimedEvent) → MoreEntriesTimed ns s r ts us
      → untimed ts ≡ entries_events ns (untimed us)
  more_entries_have_events no_nodes s r ts us h = ap untimed h.1
  more_entries_have_events (node n ns) s r ts us (s1, s2, vs, k, v, m) =
      value_events n s1 s2 ts vs v ∙ ap (λ es. events n es) (more_entries_have_events ns s2 r vs us m)

  pairs_have_events : (ms : Members) (s r : List ℕ) (ts us : List TimedEvent) → PairsTimed ms s r ts us
      → untimed ts ≡ pairs_events ms (untimed us)
  pairs_have_events no_members s r ts us h = ap untimed h.1
  pairs_have_events (member k n ms) s r ts us (s1, s2, s3, s4, vs, ws, white, name, e, sep, v, m) =
      ap untimed e
      ∙ ap (λ es. key_event k ∷ es)
      (value_events n s3 s4 vs ws v ∙ ap (λ es. events n es) (more_pairs_have_events ms s4 r ws us m))

  more_pairs_have_events : (ms : Members) (s r : List ℕ) (ts us : List TimedEvent) → MorePairsTimed ms s r ts us
      → untimed ts ≡ pairs_events ms (untimed us)
  more_pairs_have_events no_members s r ts us h = ap untimed h.1
  more_pairs_have_events (member k n ms) s r ts us (s1, s2, s3, s4, vs, ws, white, name, e, sep, v, m) =
      ap untimed e
      ∙ ap (λ es. key_event k ∷ es)
      (value_events n s3 s4 vs ws v ∙ ap (λ es. events n es) (more_pairs_have_events ms s4 r ws us m))

-- whole texts
pub text_timed : (n : Node) (bs : List ℕ) → JsonText n bs → (ts : List TimedEvent) × json_timing n bs ts
text_timed n bs (s, r, k, h, k1) = let (ts, v) = value_timed n s r [] h in (ts, (s, r, k, v, k1))

pub timed_text : (n : Node) (bs : List ℕ) (ts : List TimedEvent) → json_timing n bs ts → JsonText n bs × (untimed ts ≡ events n [])
timed_text n bs ts (s, r, k, v, k1) = ((s, r, k, value_spelt n s r ts [] v, k1), value_events n s r ts [] v)
