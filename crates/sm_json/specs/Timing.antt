-- When the bytes of a JSON text (RFC 8259) complete its events: the grammar of JsonText once more, with the same cases, where
-- beside each spelling stand its events with their times. A time counts the text's bytes behind the event's last byte. A
-- number's text goes on as long as bytes of a number come, so the byte after it completes it.
use Rattle.std.specs.Prelude.{◌≡◌, ℕ, List, [], ◌∷◌, ◌++◌, length, codes, None}
use Rattle.sm_bytes.specs.Ascii.{comma, colon, left_bracket, right_bracket, left_brace, right_brace}
use Rattle.sm_tree.specs.Node.{Node, Nodes, Members, null, bool, int, number, text, bytes, tag, opaque, list, object, no_nodes, node}
use Rattle.sm_tree.specs.Node.{no_members, member}
use Rattle.sm_tree.specs.Events.{NodeEvent, null_event, bool_event, int_event, number_event, text_event, start_list, end_list}
use Rattle.sm_tree.specs.Events.{start_object, key_event, end_object}
use Rattle.sm_tree.specs.Timing.{TimedEvent, by_byte, by_end, Timing}
use Rattle.sm_json.specs.Strings.{Whitespace, SpellsText}
use Rattle.sm_json.specs.JsonText.{bool_word, SpellsNumber, Separator}

-- complete with the next byte, if one stands there, else where the text ends
abbrev pub by_next : NodeEvent → List ℕ → TimedEvent
by_next e [] = by_end e
by_next e (c ∷ r) = by_byte e (length r)

abbrev mutual
  -- s begins with a spelling of n, and then comes r; ts begins with the events of n, each with its time, and then comes us
  pub ValueTimed : Node → List ℕ → List ℕ → List TimedEvent → List TimedEvent → Type 0
  ValueTimed null s r ts us = (s ≡ codes "null" ++ r) × (ts ≡ by_byte null_event (length r) ∷ us)
  ValueTimed (bool b) s r ts us = (s ≡ bool_word b ++ r) × (ts ≡ by_byte (bool_event b) (length r) ∷ us)
  ValueTimed (int z) s r ts us = SpellsNumber (int z) s r × (ts ≡ by_next (int_event z) r ∷ us)
  ValueTimed (number t) s r ts us = SpellsNumber (number t) s r × (ts ≡ by_next (number_event t) r ∷ us)
  ValueTimed (text t) s r ts us = SpellsText t s r × (ts ≡ by_byte (text_event t) (length r) ∷ us)
  ValueTimed (bytes t) s r ts us = ⊥
  ValueTimed (tag k n) s r ts us = ⊥
  ValueTimed (opaque b) s r ts us = ⊥
  ValueTimed (list ns) s r ts us =
      (s1 : List ℕ) × (vs : List TimedEvent) × (s ≡ left_bracket ∷ s1) × (ts ≡ by_byte (start_list None) (length s1) ∷ vs)
      × EntriesTimed ns s1 r vs us
  ValueTimed (object ms) s r ts us =
      (s1 : List ℕ) × (vs : List TimedEvent) × (s ≡ left_brace ∷ s1) × (ts ≡ by_byte (start_object None) (length s1) ∷ vs)
      × PairsTimed ms s1 r vs us

  -- behind `[`
  pub EntriesTimed : Nodes → List ℕ → List ℕ → List TimedEvent → List TimedEvent → Type 0
  EntriesTimed no_nodes s r ts us = Whitespace s (right_bracket ∷ r) × (ts ≡ by_byte end_list (length r) ∷ us)
  EntriesTimed (node n ns) s r ts us =
      (s1 s2 : List ℕ) × (vs : List TimedEvent) × Whitespace s s1 × ValueTimed n s1 s2 ts vs × MoreEntriesTimed ns s2 r vs us

  -- behind an entry
  pub MoreEntriesTimed : Nodes → List ℕ → List ℕ → List TimedEvent → List TimedEvent → Type 0
  MoreEntriesTimed no_nodes s r ts us = Whitespace s (right_bracket ∷ r) × (ts ≡ by_byte end_list (length r) ∷ us)
  MoreEntriesTimed (node n ns) s r ts us =
      (s1 s2 : List ℕ) × (vs : List TimedEvent) × Separator comma s s1 × ValueTimed n s1 s2 ts vs × MoreEntriesTimed ns s2 r vs us

  -- behind `{`
  pub PairsTimed : Members → List ℕ → List ℕ → List TimedEvent → List TimedEvent → Type 0
  PairsTimed no_members s r ts us = Whitespace s (right_brace ∷ r) × (ts ≡ by_byte end_object (length r) ∷ us)
  PairsTimed (member k n ms) s r ts us =
      (s1 s2 s3 s4 : List ℕ) × (vs ws : List TimedEvent) × Whitespace s s1 × SpellsText k s1 s2
      × (ts ≡ by_byte (key_event k) (length s2) ∷ vs) × Separator colon s2 s3 × ValueTimed n s3 s4 vs ws × MorePairsTimed ms s4 r ws us

  -- behind a pair
  pub MorePairsTimed : Members → List ℕ → List ℕ → List TimedEvent → List TimedEvent → Type 0
  MorePairsTimed no_members s r ts us = Whitespace s (right_brace ∷ r) × (ts ≡ by_byte end_object (length r) ∷ us)
  MorePairsTimed (member k n ms) s r ts us =
      (s1 s2 s3 s4 : List ℕ) × (vs ws : List TimedEvent) × Separator comma s s1 × SpellsText k s1 s2
      × (ts ≡ by_byte (key_event k) (length s2) ∷ vs) × Separator colon s2 s3 × ValueTimed n s3 s4 vs ws × MorePairsTimed ms s4 r ws us

-- the bytes are a text of n, and these are its events, each with its time
abbrev pub json_timing : Timing
json_timing n bs ts = (s r : List ℕ) × Whitespace bs s × ValueTimed n s r ts [] × Whitespace r []
