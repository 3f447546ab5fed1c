-- What the reader does with a byte outside of strings. The answers of those steps cite these.
use Rattle.std.proofs.Common.{◌≡◌, ◌≢◌, ℕ, zero, suc, ◌+◌, ◌-◌, ◌*◌, ◌/◌, ◌%◌, ◌^◌, ◌≤◌, ◌<◌, ◌⊎◌, inl, inr, Bool, List, [], ◌∷◌, None}
use Rattle.std.proofs.Common.{refl, sym, subst, arith, length}
use Rattle.std.proofs.Common.{Global}
use Rattle.std.specs.Prelude.{Vec}
use Rattle.std.proofs.lemmas.Str.{IsUtf8-nil}
use Rattle.sm_tree.specs.Limits.{most_levels}
use Rattle.sm_tree.specs.Levels.{levels}
use Rattle.sm_tree.specs.Node.{Node, null, bool, int, number, text, bytes, tag, opaque, list, object}
use Rattle.sm_tree.specs.Events.{null_event, bool_event, start_list, start_object}
use Rattle.sm_tree.specs.Timing.{TimedEvent, by_byte}
use Rattle.sm_tree.specs.Streams.{StandsFor}
use Rattle.sm_tree.proofs.Handing.{takes_none}
use Rattle.sm_cbor.specs.steps.Sinks.{Reached, Owed}
use Rattle.sm_cbor.proofs.Reaching.{reached_by, owed_by}
use Rattle.sm_cbor.specs.CborItem.{TextString, Item as ItemBytes}
use Rattle.sm_cbor.specs.steps.Marks.{plain, marked}
use Rattle.sm_cbor.specs.Heads.{HasWidth}
use Rattle.sm_cbor.specs.Refusals.{IsNoText, BeginsOther}
use Rattle.sm_cbor.specs.steps.Reading.{StartsNumber, HeadIs, SubjectIs, IsOf, bound}
use Rattle.sm_cbor.specs.steps.Rest.{CborLeads}
use Rattle.sm_cbor.specs.steps.Machine.{levels_of, cbor_state_at, opened, opens_of, ArgumentLives, ChunksHeld, BehindItem, IsAt}
use Rattle.sm_cbor.specs.steps.Machine.{IsSoundReader, CborGoes, OpensLevel, IsBadByte, IsOtherKey, OpensTooDeep}
use Rattle.sm_cbor.specs.declared.head.Head.{Head}
use Rattle.sm_cbor.specs.declared.head.Head.TheVariants.{Argument as ArgumentHead, Chunks as ChunksHead, List as EntriesHead}
use Rattle.sm_cbor.specs.declared.head.Head.TheVariants.{Map as PairsHead, Null as NullHead, Bool as BoolHead, NoItem}
use Rattle.sm_cbor.specs.declared.place.StringKind.{StringKind}
use Rattle.sm_cbor.specs.declared.place.StringKind.TheVariants.{Bytes, Text, Key as KeyText}
use Rattle.sm_cbor.specs.declared.place.Span.TheVariants.{Whole, Chunk}
use Rattle.sm_cbor.specs.declared.place.Subject.{Subject}
use Rattle.sm_cbor.specs.declared.place.Subject.TheVariants.{Unsigned, Negative, String as StringHead, List as ListHead, Map as MapHead}
use Rattle.sm_cbor.specs.declared.place.Subject.TheVariants.{Tag as TagHead, Opaque}
use Rattle.sm_cbor.specs.declared.place.Level.{Level}
use Rattle.sm_cbor.specs.declared.place.Level.TheVariants.{ListToBreak as AListToBreak, MapToBreak as AMapToBreak}
use Rattle.sm_cbor.specs.declared.place.CborPlace.{CborPlace}
use Rattle.sm_cbor.specs.declared.place.CborPlace.TheVariants.{Item, Key, After, Argument as InArgument, Chunks}
use Rattle.sm_cbor.specs.declared.read.Reader.{Reader}
use Rattle.sm_cbor.proofs.Items.{at, HeadComes, item_onward, item_back, argument_leads, chunks_lead, list_leads, map_leads, null_leads}
use Rattle.sm_cbor.proofs.Items.{bool_leads, item_stops}
use Rattle.sm_cbor.proofs.KeySteps.{key_leads, key_chunks_lead, key_stops, key_mark}
use Rattle.sm_cbor.proofs.ArgumentSteps.{no_room}
use Rattle.sm_cbor.proofs.Endings.{goes_on as something_comes, ends_can, item_can}
use Rattle.sm_cbor.proofs.Readings.{goes_by, goes_with, goes_to}
use Rattle.sm_cbor.proofs.Timings.{item_timed, timed_item}

-- an argument that begins lives
pub head_lives : (c k v : ℕ) (j : Subject) → HeadIs c (ArgumentHead j k v) → ArgumentLives j k v
head_lives c k v Unsigned is = tt
head_lives c k v Negative is = tt
head_lives c k v (StringHead kind span) is = tt
head_lives c k v ListHead is = tt
head_lives c k v MapHead is = tt
head_lives c k v TagHead is = tt
head_lives c k v (Opaque b) ((e, seven, inl low), inl (small, k0, vi)) = inl (k0, inl (let f = e in omega arith))
head_lives c k v (Opaque b) ((e, seven, inl low), inr (wide, v0)) = absurd (opaque_wide c k wide low)
  where
    opaque_wide : (c k : ℕ) → HasWidth (c % 32) k → c % 32 < 20 → ⊥
    opaque_wide c k (inl h) low = omega arith
    opaque_wide c k (inr (inl h)) low = omega arith
    opaque_wide c k (inr (inr (inl h))) low = omega arith
    opaque_wide c k (inr (inr (inr h))) low = omega arith
head_lives c k v (Opaque b) ((e, seven, inr high), inl (small, k0, vi)) = absurd (omega arith)
head_lives c k v (Opaque b) ((e, seven, inr high), inr (inl (info, one), v0)) = inr (inl (let f = e in omega arith, one, v0))
head_lives c k v (Opaque b) ((e, seven, inr high), inr (inr (inl (info, one)), v0)) = inr (inr (let f = e in omega arith))
head_lives c k v (Opaque b) ((e, seven, inr high), inr (inr (inr (inl (info, one))), v0)) = inr (inr (let f = e in omega arith))
head_lives c k v (Opaque b) ((e, seven, inr high), inr (inr (inr (inr (info, one))), v0)) = inr (inr (let f = e in omega arith))

-- and its number is within its bound
bound_at : (k m v : ℕ) → k ≡ m → v < bound m → v < bound k
bound_at k m v e h = subst (λ x. v < bound x) (sym e) h

pub start_bound : (info k v : ℕ) → StartsNumber info k v → v < bound k
start_bound info k v (inl (small, k0, vi)) = bound_at k 0 v k0 (omega arith)
start_bound info k v (inr (inl (i, e), v0)) = bound_at k 1 v e (omega arith)
start_bound info k v (inr (inr (inl (i, e)), v0)) = bound_at k 2 v e (omega arith)
start_bound info k v (inr (inr (inr (inl (i, e))), v0)) = bound_at k 4 v e (omega arith)
start_bound info k v (inr (inr (inr (inr (i, e))), v0)) = bound_at k 8 v e (omega arith)

pub byte_bound : (k v b : ℕ) → 0 < k → v < bound k → b < 256 → v * 256 + b < bound (k - 1)
byte_bound zero v b some h small = absurd (omega arith)
byte_bound (suc k) v b some h small = let e : suc k - 1 ≡ k = omega arith in subst (λ x. v * 256 + b < bound x) (sym e) (omega arith)

pub bound_word : (k : ℕ) → bound k ≤ 2 ^ 64
bound_word zero = omega arith
bound_word (suc k) = let h = bound_word k in omega arith

-- nothing is held before it
head_held : (c : ℕ) (j : Subject) (t : List ℕ) → SubjectIs c j → ChunksHeld j t
head_held c Unsigned t is = tt
head_held c Negative t is = tt
head_held c (StringHead kind Whole) t is = tt
head_held c (StringHead Bytes Chunk) t is = absurd is
head_held c (StringHead Text Chunk) t is = absurd is
head_held c (StringHead KeyText Chunk) t is = absurd is
head_held c ListHead t is = tt
head_held c MapHead t is = tt
head_held c TagHead t is = tt
head_held c (Opaque b) t is = tt

opens_small : (j : Subject) → opens_of j ≤ 1
opens_small Unsigned = omega arith
opens_small Negative = omega arith
opens_small (StringHead kind span) = omega arith
opens_small ListHead = omega arith
opens_small MapHead = omega arith
opens_small TagHead = omega arith
opens_small (Opaque b) = omega arith

room_for : (n o : ℕ) → o ≤ 1 → n + 0 ≤ most_levels → (o ≡ 1 → n < most_levels) → n + o ≤ most_levels
room_for n zero small room more = room
room_for n (suc o) small room more = let e : suc o ≡ 1 = omega arith in let less = more e in omega arith

pub argument_there : (r : Reader) (c k v : ℕ) (j : Subject) → IsAt r Item → HeadIs c (ArgumentHead j k v)
    → (opens_of j ≡ 1 → length (levels_of r) < most_levels) → IsAt r (InArgument j k v)
argument_there r c k v j there is more = record {
  room = room_for (length (levels_of r)) (opens_of j) (opens_small j) there.room more;
  keeps = (head_lives c k v j is, start_bound (c % 32) k v is.1, head_held c j r.held.items is.0);
}

pub in_room : (r : Reader) (p : CborPlace) (limit : ℕ) → IsAt r p → most_levels ≤ limit → length (levels_of r) ≤ limit
in_room r p limit there high = let room = there.room in omega arith

pub argument_goes : (S T : StandsFor) (r q : Reader) (c k v : ℕ) (j : Subject) → IsAt r Item → HeadIs c (ArgumentHead j k v)
    → CborGoes S r [] (InArgument j k v) [] T q → CborGoes S r [] Item (c ∷ []) T q
argument_goes S T r q c k v j there is goes =
    goes_by S S T r r q Item (InArgument j k v) (c ∷ []) [] [] goes (takes_none S)
    (λ w limit high. argument_leads w limit c k v j r.held.items (levels_of r) (in_room r Item limit there high) is)

pub argument_reached : (S : StandsFor) (r : Reader) (c k v : ℕ) (j : Subject) → IsAt r Item → HeadIs c (ArgumentHead j k v)
    → Reached S (cbor_state_at r Item) → Reached S (cbor_state_at r (InArgument j k v))
argument_reached S r c k v j there is reached =
    reached_by S (cbor_state_at r Item) (cbor_state_at r (InArgument j k v)) (c ∷ []) reached
    (argument_leads plain most_levels c k v j r.held.items (levels_of r) (in_room r Item most_levels there (omega arith)) is)

-- an opener where no more levels may open
level_is : (j : Subject) → opens_of j ≡ 1 → (j ≡ ListHead) ⊎ ((j ≡ MapHead) ⊎ (j ≡ TagHead))
level_is Unsigned e = absurd (omega arith)
level_is Negative e = absurd (omega arith)
level_is (StringHead kind span) e = absurd (omega arith)
level_is ListHead e = inl refl
level_is MapHead e = inr (inl refl)
level_is TagHead e = inr (inr refl)
level_is (Opaque b) e = absurd (omega arith)

pub argument_deep : (r : Reader) (c k v : ℕ) (j : Subject) → HeadIs c (ArgumentHead j k v) → opens_of j ≡ 1
    → most_levels ≤ length (levels_of r) → OpensTooDeep (cbor_state_at r Item) c
argument_deep r c k v j is level full =
    let n = length (levels_of r) in
    let opens = opens_small j in
    let (s, es, rest) = something_comes plain (n + 1) (InArgument j k v) r.held.items (levels_of r) (omega arith) (head_lives c k v j is) in
    record {
      stops = λ s es h. no_room plain most_levels j k v r.held.items (levels_of r) s es full (level_is j level)
          (item_onward plain most_levels c (ArgumentHead j k v) r.held.items (levels_of r) s es is h);
      goes_on = (
        n + 1,
        omega arith,
        s,
        es,
        item_back plain (n + 1) c (ArgumentHead j k v) r.held.items (levels_of r) s es (omega arith) is
            rest,
      );
    }

pub list_deep : (r : Reader) (c : ℕ) → HeadIs c EntriesHead → most_levels ≤ length (levels_of r) → OpensTooDeep (cbor_state_at r Item) c
list_deep r c is full =
    let n = length (levels_of r) in
    let (s, es, en) = ends_can plain (n + 1) (AListToBreak ∷ levels_of r) (omega arith) in
    record {
      stops = λ s es h.
          let (fs, (ns, q, gs, more, room, en), e) = item_onward plain most_levels c EntriesHead r.held.items (levels_of r) s es is h in
          omega arith;
      goes_on = (
        n + 1,
        omega arith,
        s,
        by_byte (start_list None) (length s) ∷ es,
        item_back plain (n + 1) c EntriesHead r.held.items (levels_of r) s
            (by_byte (start_list None) (length s) ∷ es) (omega arith) is (es, en, refl),
      );
    }

pub map_deep : (r : Reader) (c : ℕ) → HeadIs c PairsHead → most_levels ≤ length (levels_of r) → OpensTooDeep (cbor_state_at r Item) c
map_deep r c is full =
    let n = length (levels_of r) in
    let (s, es, en) = ends_can plain (n + 1) (AMapToBreak ∷ levels_of r) (omega arith) in
    record {
      stops = λ s es h.
          let (fs, (ms, q, gs, more, room, en), e) = item_onward plain most_levels c PairsHead r.held.items (levels_of r) s es is h in
          omega arith;
      goes_on = (
        n + 1,
        omega arith,
        s,
        by_byte (start_object None) (length s) ∷ es,
        item_back plain (n + 1) c PairsHead r.held.items (levels_of r) s
            (by_byte (start_object None) (length s) ∷ es) (omega arith) is (es, en, refl),
      );
    }

-- an array or a map of indefinite length opens
after_sound : (r : Reader) (l : Level) (ls : List Level) → levels_of r ≡ l ∷ ls → BehindItem (l ∷ ls) → IsAt r After
    → IsSoundReader (record r { place = After })
after_sound r l ls e behind there =
    record { there = record { room = there.room; keeps = there.keeps }; begun = subst BehindItem (sym e) behind }

pub list_begins : (S T : StandsFor) (r mid : Reader) (c : ℕ) → IsAt r Item → HeadIs c EntriesHead → OpensLevel S r AListToBreak
    (start_list None) T mid
    → CborGoes S r [] Item (c ∷ []) T (record mid { place = After })
list_begins S T r mid c there is opens =
    goes_to S T r (record mid { place = After }) Item (c ∷ []) (start_list None ∷ [])
    (after_sound mid AListToBreak (levels_of r) opens.levels tt opens.there) opens.taken
    (λ w limit high. subst (λ ks. CborLeads w limit (cbor_state_at r Item) (c ∷ []) (start_list None ∷ []) (at After mid.held.items ks))
    (sym opens.levels)
    (list_leads w limit c r.held.items mid.held.items (levels_of r) (in_room r Item limit there high) is))

pub list_begins_owed : (S : StandsFor) (r : Reader) (c : ℕ) → IsAt r Item → HeadIs c EntriesHead → Reached S (cbor_state_at r Item)
    → Owed S (start_list None) (opened r AListToBreak)
list_begins_owed S r c there is reached =
    owed_by S (cbor_state_at r Item) (opened r AListToBreak) (c ∷ []) (start_list None) reached
    (list_leads plain most_levels c r.held.items r.held.items (levels_of r) (in_room r Item most_levels there (omega arith)) is)

pub map_begins : (S T : StandsFor) (r mid : Reader) (c : ℕ) → IsAt r Item → HeadIs c PairsHead → OpensLevel S r AMapToBreak
    (start_object None) T mid
    → CborGoes S r [] Item (c ∷ []) T (record mid { place = After })
map_begins S T r mid c there is opens =
    goes_to S T r (record mid { place = After }) Item (c ∷ []) (start_object None ∷ [])
    (after_sound mid AMapToBreak (levels_of r) opens.levels tt opens.there) opens.taken
    (λ w limit high. subst (λ ks. CborLeads w limit (cbor_state_at r Item) (c ∷ []) (start_object None ∷ []) (at After mid.held.items ks))
    (sym opens.levels)
    (map_leads w limit c r.held.items mid.held.items (levels_of r) (in_room r Item limit there high) is))

pub map_begins_owed : (S : StandsFor) (r : Reader) (c : ℕ) → IsAt r Item → HeadIs c PairsHead → Reached S (cbor_state_at r Item)
    → Owed S (start_object None) (opened r AMapToBreak)
map_begins_owed S r c there is reached =
    owed_by S (cbor_state_at r Item) (opened r AMapToBreak) (c ∷ []) (start_object None) reached
    (map_leads plain most_levels c r.held.items r.held.items (levels_of r) (in_room r Item most_levels there (omega arith)) is)

-- the chunks of a string begin
kind_nil : (kind : StringKind) → IsOf kind []
kind_nil Bytes = tt
kind_nil Text = IsUtf8-nil
kind_nil KeyText = IsUtf8-nil

chunks_sound : (r : Reader) (p : CborPlace) (kind : StringKind) (h : Vec ℕ Global) → h.items ≡ [] → IsAt r p
    → IsSoundReader (record r { place = Chunks kind; held = h })
chunks_sound r p kind h empty there = record {
  there = record { room = let room = there.room in omega arith; keeps = subst (IsOf kind) (sym empty) (kind_nil kind) };
  begun = tt;
}

pub chunks_begin : (S : StandsFor) (r : Reader) (c : ℕ) (kind : StringKind) (h : Vec ℕ Global) → h.items ≡ [] → IsAt r Item
    → HeadIs c (ChunksHead kind) → CborGoes S r [] Item (c ∷ []) S (record r { place = Chunks kind; held = h })
chunks_begin S r c kind h empty there is =
    goes_to S S r (record r { place = Chunks kind; held = h }) Item (c ∷ []) [] (chunks_sound r Item kind h empty there) (takes_none S)
    (λ w limit high. subst (λ t. CborLeads w limit (cbor_state_at r Item) (c ∷ []) [] (at (Chunks kind) t (levels_of r))) (sym empty)
    (chunks_lead w limit c kind r.held.items (levels_of r) (in_room r Item limit there high) is))

pub key_chunks_begin : (S : StandsFor) (r : Reader) (c : ℕ) (h : Vec ℕ Global) → h.items ≡ [] → IsAt r Key → c ≡ 0x7F
    → CborGoes S r [] Key (c ∷ []) S (record r { place = Chunks KeyText; held = h })
key_chunks_begin S r c h empty there is =
    goes_to S S r (record r { place = Chunks KeyText; held = h }) Key (c ∷ []) [] (chunks_sound r Key KeyText h empty there) (takes_none S)
    (λ w limit high. subst (λ t. CborLeads w limit (cbor_state_at r Key) (c ∷ []) [] (at (Chunks KeyText) t (levels_of r))) (sym empty)
    (key_chunks_lead w limit c r.held.items (levels_of r) is))

-- null, false and true
pub null_goes : (S T : StandsFor) (r q : Reader) (c : ℕ) → IsAt r Item → HeadIs c NullHead
    → CborGoes S r (null_event ∷ []) After [] T q → CborGoes S r [] Item (c ∷ []) T q
null_goes S T r q c there is goes =
    goes_with S T r r q Item After (c ∷ []) [] (null_event ∷ []) goes
    (λ w limit high. null_leads w limit c r.held.items r.held.items (levels_of r) (in_room r Item limit there high) is)

pub null_owed : (S : StandsFor) (r : Reader) (c : ℕ) → IsAt r Item → HeadIs c NullHead → Reached S (cbor_state_at r Item)
    → Owed S null_event (cbor_state_at r After)
null_owed S r c there is reached =
    owed_by S (cbor_state_at r Item) (cbor_state_at r After) (c ∷ []) null_event reached
    (null_leads plain most_levels c r.held.items r.held.items (levels_of r) (in_room r Item most_levels there (omega arith)) is)

pub bool_goes : (S T : StandsFor) (r q : Reader) (c : ℕ) (b : Bool) → IsAt r Item → HeadIs c (BoolHead b)
    → CborGoes S r (bool_event b ∷ []) After [] T q → CborGoes S r [] Item (c ∷ []) T q
bool_goes S T r q c b there is goes =
    goes_with S T r r q Item After (c ∷ []) [] (bool_event b ∷ []) goes
    (λ w limit high. bool_leads w limit c b r.held.items r.held.items (levels_of r) (in_room r Item limit there high) is)

pub bool_owed : (S : StandsFor) (r : Reader) (c : ℕ) (b : Bool) → IsAt r Item → HeadIs c (BoolHead b) → Reached S (cbor_state_at r Item)
    → Owed S (bool_event b) (cbor_state_at r After)
bool_owed S r c b there is reached =
    owed_by S (cbor_state_at r Item) (cbor_state_at r After) (c ∷ []) (bool_event b) reached
    (bool_leads plain most_levels c b r.held.items r.held.items (levels_of r) (in_room r Item most_levels there (omega arith)) is)

-- no item begins with the byte
pub none_begins : (c : ℕ) → HeadIs c NoItem → BeginsOther c → ⊥
none_begins c is (more, n, no_text, item) =
    let (ts, timed) = item_timed TextString n (c ∷ more) [] [] item in
    item_stops plain (levels n) c [] [] is more ts (n, [], [], timed, omega arith, (refl, refl))

pub item_bad : (r : Reader) (c : ℕ) → HeadIs c NoItem → IsBadByte (cbor_state_at r Item) c
item_bad r c is = record { stops = λ limit. item_stops plain limit c r.held.items (levels_of r) is; no_key = inr (none_begins c is) }

pub key_begins : (S T : StandsFor) (r q : Reader) (c k v : ℕ) → c / 32 ≡ 3 → StartsNumber (c % 32) k v
    → CborGoes S r [] (InArgument (StringHead KeyText Whole) k v) [] T q → CborGoes S r [] Key (c ∷ []) T q
key_begins S T r q c k v is starts goes =
    goes_by S S T r r q Key (InArgument (StringHead KeyText Whole) k v) (c ∷ []) [] [] goes (takes_none S)
    (λ w limit high. key_leads w limit c k v r.held.items (levels_of r) is starts)

pub key_reached : (S : StandsFor) (r : Reader) (c k v : ℕ) → c / 32 ≡ 3 → StartsNumber (c % 32) k v → Reached S (cbor_state_at r Key)
    → Reached S (cbor_state_at r (InArgument (StringHead KeyText Whole) k v))
key_reached S r c k v is starts reached =
    reached_by S (cbor_state_at r Key) (cbor_state_at r (InArgument (StringHead KeyText Whole) k v)) (c ∷ []) reached
    (key_leads plain most_levels c k v r.held.items (levels_of r) is starts)

pub text_bad : (r : Reader) (c : ℕ) → c / 32 ≡ 3 → 28 ≤ c % 32 → c ≢ 0x7F → IsBadByte (cbor_state_at r Key) c
text_bad r c is none no_chunks = record {
  stops = λ limit. key_stops limit c r.held.items (levels_of r) (λ e. none) no_chunks;
  no_key = inr (none_begins c (none, (λ e. omega arith), no_chunks, (λ e. omega arith), (λ e. omega arith)));
}

pub key_bad : (r : Reader) (c : ℕ) → c / 32 ≢ 3 → HeadIs c NoItem → IsBadByte (cbor_state_at r Key) c
key_bad r c other is = record {
  stops = λ limit. key_stops limit c r.held.items (levels_of r) (λ e. absurd (other e)) (λ e. other (omega arith));
  no_key = inr (none_begins c is);
}

-- and another item where a key stands
abbrev Can : (List ℕ → List TimedEvent → Type 0) → Type 0
Can P = (s : List ℕ) × (es : List TimedEvent) × P s es

head_can : (c : ℕ) (h : Head) → HeadIs c h → (h ≡ NoItem → ⊥) → Can (HeadComes plain 1 h [] [])
head_can c (ArgumentHead j k v) is some = let small = opens_small j in
    something_comes plain 1 (InArgument j k v) [] [] (omega arith) (head_lives c k v j is)
head_can c (ChunksHead kind) is some = something_comes plain 1 (Chunks kind) [] [] (omega arith) tt
head_can c EntriesHead is some = let (s, es, en) = ends_can plain 1 (AListToBreak ∷ []) (omega arith) in
    (s, by_byte (start_list None) (length s) ∷ es, (es, en, refl))
head_can c PairsHead is some = let (s, es, en) = ends_can plain 1 (AMapToBreak ∷ []) (omega arith) in
    (s, by_byte (start_object None) (length s) ∷ es, (es, en, refl))
head_can c NullHead is some = ([], by_byte null_event 0 ∷ [], ([], (refl, refl), refl))
head_can c (BoolHead b) is some = ([], by_byte (bool_event b) 0 ∷ [], ([], (refl, refl), refl))
head_can c NoItem is some = absurd (some refl)

no_text_node : (n : Node) (c : ℕ) (s r : List ℕ) → c / 32 ≢ 3 → ItemBytes TextString n (c ∷ s) r → IsNoText n
no_text_node null c s r other h = tt
no_text_node (bool b) c s r other h = tt
no_text_node (int z) c s r other h = tt
no_text_node (number t) c s r other h = tt
no_text_node (text t) c s r other (inl (s1, head, e, is)) = other head.0
no_text_node (text t) c s r other (inr (s1, ts, first, chunks, e)) = other (let f = first.0 in omega arith)
no_text_node (bytes t) c s r other h = tt
no_text_node (tag k n) c s r other h = tt
no_text_node (opaque b) c s r other h = tt
no_text_node (list ns) c s r other h = tt
no_text_node (object ms) c s r other h = tt

begins_other : (c : ℕ) (h : Head) → HeadIs c h → (h ≡ NoItem → ⊥) → c / 32 ≢ 3 → BeginsOther c
begins_other c h is some other =
    let (s, es, comes) = head_can c h is some in
    let (n, r, fs, timed, room, (none, nothing)) = item_back plain 1 c h [] [] s es (omega arith) is comes in
    let item = timed_item TextString n (c ∷ s) r es fs timed in
    (s, n, no_text_node n c s r other item, subst (λ x. ItemBytes TextString n (c ∷ s) x) none item)

pub other_key : (r : Reader) (c : ℕ) (h : Head) → IsAt r Key → HeadIs c h → (h ≡ NoItem → ⊥) → c / 32 ≢ 3
    → IsOtherKey (cbor_state_at r Key) c
other_key r c h there is some other =
    let (s, es, item) = item_can marked most_levels (levels_of r) (in_room r Key most_levels there (omega arith)) in
    record {
      stops = λ limit. key_stops limit c r.held.items (levels_of r) (λ e. absurd (other e)) (λ e. other (omega arith));
      key = (most_levels, omega arith, s, _, key_mark most_levels (levels_of r) s es item);
      other = begins_other c h is some other;
    }
