-- When the bytes of an item complete its events (RFC 8949, section 3): the grammar of CborItem with the events and their
-- times. A leaf, a key, a tag and an opener are complete with the last byte of their own text; what has an indefinite length
-- ends with its "break", and an array or a map of stated length with its last item, or with its head where it has none. The
-- opener of a stated length tells it. "s begins with an item of n, and then r; ts are its events with their times, and then us".
use Rattle.std.specs.Prelude.{◌≡◌, ◌⊎◌, ℕ, suc, List, [], ◌∷◌, length, Some, None}
use Rattle.sm_tree.specs.Node.{Node, Nodes, Members, null, bool, int, number, text, bytes, tag, opaque, list, object, no_nodes, node}
use Rattle.sm_tree.specs.Node.{no_members, member}
use Rattle.sm_tree.specs.Events.{NodeEvent, null_event, bool_event, int_event, number_event, text_event, bytes_event, tag_event}
use Rattle.sm_tree.specs.Events.{opaque_event, start_list, end_list, start_object, key_event, end_object}
use Rattle.sm_tree.specs.Timing.{TimedEvent, by_byte, Timing}
use Rattle.sm_cbor.specs.Heads.{Head, array_type, map_type, tag_type, Indefinite, Break}
use Rattle.sm_cbor.specs.CborItem.{KeyForm, TextString, Item}

-- the event is complete where r is still to come, and then us
abbrev pub CompleteAt : NodeEvent → List ℕ → List TimedEvent → List TimedEvent → Type 0
CompleteAt e r ts us = ts ≡ by_byte e (length r) ∷ us

abbrev mutual
  pub ItemTimed : KeyForm → Node → List ℕ → List ℕ → List TimedEvent → List TimedEvent → Type 0
  ItemTimed Key null s r ts us = Item Key null s r × CompleteAt null_event r ts us
  ItemTimed Key (bool b) s r ts us = Item Key (bool b) s r × CompleteAt (bool_event b) r ts us
  ItemTimed Key (int z) s r ts us = Item Key (int z) s r × CompleteAt (int_event z) r ts us
  ItemTimed Key (number t) s r ts us = Item Key (number t) s r × CompleteAt (number_event t) r ts us
  ItemTimed Key (text t) s r ts us = Item Key (text t) s r × CompleteAt (text_event t) r ts us
  ItemTimed Key (bytes t) s r ts us = Item Key (bytes t) s r × CompleteAt (bytes_event t) r ts us
  ItemTimed Key (tag k n) s r ts us =
      (s1 : List ℕ) × (vs : List TimedEvent) × Head tag_type k s s1 × CompleteAt (tag_event k) s1 ts vs × ItemTimed Key n s1 r vs us
  ItemTimed Key (opaque b) s r ts us = Item Key (opaque b) s r × CompleteAt (opaque_event b) r ts us
  ItemTimed Key (list ns) s r ts us =
      ((n : ℕ) × (s1 : List ℕ) × (vs : List TimedEvent) × Head array_type n s s1 × CompleteAt (start_list (Some n)) s1 ts vs
      × CountedEntriesTimed Key n ns s1 r vs us)
      ⊎ ((s1 : List ℕ) × (vs : List TimedEvent) × Indefinite array_type s s1 × CompleteAt (start_list None) s1 ts vs
      × EntriesToBreakTimed Key ns s1 r vs us)
  ItemTimed Key (object ms) s r ts us =
      ((n : ℕ) × (s1 : List ℕ) × (vs : List TimedEvent) × Head map_type n s s1 × CompleteAt (start_object (Some n)) s1 ts vs
      × CountedPairsTimed Key n ms s1 r vs us)
      ⊎ ((s1 : List ℕ) × (vs : List TimedEvent) × Indefinite map_type s s1 × CompleteAt (start_object None) s1 ts vs
      × PairsToBreakTimed Key ms s1 r vs us)

  pub CountedEntriesTimed : KeyForm → ℕ → Nodes → List ℕ → List ℕ → List TimedEvent → List TimedEvent → Type 0
  CountedEntriesTimed Key n no_nodes s r ts us = (n ≡ 0) × (s ≡ r) × CompleteAt end_list r ts us
  CountedEntriesTimed Key n (node x xs) s r ts us =
      (m : ℕ) × (n ≡ suc m) × (s1 : List ℕ) × (vs : List TimedEvent) × ItemTimed Key x s s1 ts vs × CountedEntriesTimed Key m xs s1 r vs us

  pub EntriesToBreakTimed : KeyForm → Nodes → List ℕ → List ℕ → List TimedEvent → List TimedEvent → Type 0
  EntriesToBreakTimed Key no_nodes s r ts us = Break s r × CompleteAt end_list r ts us
  EntriesToBreakTimed Key (node x xs) s r ts us =
      (s1 : List ℕ) × (vs : List TimedEvent) × ItemTimed Key x s s1 ts vs × EntriesToBreakTimed Key xs s1 r vs us

  pub CountedPairsTimed : KeyForm → ℕ → Members → List ℕ → List ℕ → List TimedEvent → List TimedEvent → Type 0
  CountedPairsTimed Key n no_members s r ts us = (n ≡ 0) × (s ≡ r) × CompleteAt end_object r ts us
  CountedPairsTimed Key n (member k x ms) s r ts us =
      (m : ℕ) × (n ≡ suc m) × (s1 s2 : List ℕ) × (vs ws : List TimedEvent) × Key k s s1 × CompleteAt (key_event k) s1 ts vs
      × ItemTimed Key x s1 s2 vs ws × CountedPairsTimed Key m ms s2 r ws us

  pub PairsToBreakTimed : KeyForm → Members → List ℕ → List ℕ → List TimedEvent → List TimedEvent → Type 0
  PairsToBreakTimed Key no_members s r ts us = Break s r × CompleteAt end_object r ts us
  PairsToBreakTimed Key (member k x ms) s r ts us =
      (s1 s2 : List ℕ) × (vs ws : List TimedEvent) × Key k s s1 × CompleteAt (key_event k) s1 ts vs × ItemTimed Key x s1 s2 vs ws
      × PairsToBreakTimed Key ms s2 r ws us

-- the bytes are one item of this tree, whose keys are texts, and these are its events with their times
abbrev pub cbor_timing : Timing
cbor_timing n bs ts = ItemTimed TextString n bs [] ts []
