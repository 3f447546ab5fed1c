-- What the reader does with a head whose bytes are all at hand, and with a text behind it.
use Rattle.std.proofs.Common.{◌≡◌, ℕ, zero, suc, ◌+◌, ◌-◌, ◌*◌, ◌/◌, ◌%◌, ◌^◌, ◌≤◌, ◌<◌, List, [], ◌∷◌, ◌++◌, refl, sym, ap, subst, ◌∙◌}
use Rattle.std.proofs.Common.{arith, length, take, drop, get_or, append-nil, IsUtf8}
use Rattle.std.specs.Prelude.{slice_index, Ok}
use Rattle.std.proofs.Math.Seq.{take-add}
use Rattle.std.proofs.lemmas.List.{drop_more}
use Rattle.sm_tree.specs.Limits.{most_levels}
use Rattle.sm_tree.specs.Events.{NodeEvent, key_event, text_event}
use Rattle.sm_bytes.specs.declared.utf8.Utf8.TheVariants.{Between}
use Rattle.sm_tree.specs.Streams.{StandsFor, MayTake, TakesOn}
use Rattle.sm_tree.proofs.Handing.{takes_none}
use Rattle.sm_cbor.specs.steps.Sinks.{Reached, Owed}
use Rattle.sm_cbor.proofs.Reaching.{may_take, reached_by, owed_by}
use Rattle.sm_cbor.specs.Heads.{Number}
use Rattle.sm_cbor.specs.steps.Marks.{Keys, plain}
use Rattle.sm_cbor.specs.steps.Reading.{StartsNumber, HeadIs, IsBits, IsText, HasHead, IsBehind, bound}
use Rattle.sm_cbor.specs.steps.Rest.{CborState, CborLeads}
use Rattle.sm_cbor.specs.steps.Machine.{levels_of, cbor_state_at, opens_of, IsAt, CborGoes, OpensTooDeep, CborTakesPrefixAt}
use Rattle.sm_cbor.specs.declared.head.Head.TheVariants.{Argument as ArgumentHead}
use Rattle.sm_cbor.specs.declared.place.StringKind.TheVariants.{Bytes, Text, Key as KeyText}
use Rattle.sm_cbor.specs.declared.place.Span.TheVariants.{Whole, Chunk}
use Rattle.sm_cbor.specs.declared.place.Subject.{Subject}
use Rattle.sm_cbor.specs.declared.place.Subject.TheVariants.{Unsigned, Negative, String as StringHead, List as ListHead, Map as MapHead}
use Rattle.sm_cbor.specs.declared.place.Subject.TheVariants.{Tag as TagHead, Opaque}
use Rattle.sm_cbor.specs.declared.place.Level.{Level}
use Rattle.sm_cbor.specs.declared.place.CborPlace.{CborPlace}
use Rattle.sm_cbor.specs.declared.place.CborPlace.TheVariants.{Item, Key, After, Argument as InArgument, String}
use Rattle.sm_cbor.specs.declared.read.Reader.{Reader}
use Rattle.sm_cbor.proofs.Items.{at, argument_leads}
use Rattle.sm_cbor.proofs.KeySteps.{key_leads}
use Rattle.sm_cbor.proofs.ArgumentSteps.{argument_byte, string_begins}
use Rattle.sm_cbor.proofs.StringSteps.{text_run, text_end, key_end}
use Rattle.sm_cbor.proofs.Readings.{leads_none, leads_joined, goes_by, goes_with, goes_to}
use Rattle.sm_cbor.proofs.Arguments.{number_more}
use Rattle.sm_cbor.proofs.InitialSteps.{in_room, argument_deep, byte_bound, bound_word}
use Rattle.sm_cbor.proofs.ByteSteps.{argument_more}

less_one : (k : ℕ) → suc k - 1 ≡ k
less_one k = omega arith

-- the bytes of an argument, all of them
number_leads : (w : Keys) (limit k v n : ℕ) (j : Subject) (s t : List ℕ) (ls : List Level) → Number k v n s []
    → CborLeads w limit (at (InArgument j k v) t ls) s [] (at (InArgument j 0 n) t ls)
number_leads w limit zero v n j s t ls (e, f) =
    subst (λ x. CborLeads w limit (at (InArgument j 0 v) t ls) x [] (at (InArgument j 0 n) t ls)) (sym f)
    (subst (λ m. CborLeads w limit (at (InArgument j 0 v) t ls) [] [] (at (InArgument j 0 m) t ls)) (sym e)
    (leads_none w limit (at (InArgument j 0 v) t ls)))
number_leads w limit (suc k) v n j [] t ls h = absurd h
number_leads w limit (suc k) v n j (b ∷ s) t ls (small, h) =
    leads_joined w limit (at (InArgument j (suc k) v) t ls) (at (InArgument j k (v * 256 + b)) t ls) (at (InArgument j 0 n) t ls) (b ∷ []) s
    [] []
    (subst (λ x. CborLeads w limit (at (InArgument j (suc k) v) t ls) (b ∷ []) [] (at (InArgument j x (v * 256 + b)) t ls)) (less_one k)
    (argument_byte w limit j (suc k) v b t ls (omega arith) small))
    (number_leads w limit k (v * 256 + b) n j s t ls h)

no_byte_value : (j : Subject) → (IsBits j → ⊥) → j ≡ Opaque 0xF8 → ⊥
no_byte_value j none e = none (subst IsBits (sym e) tt)

number_there : (r : Reader) (k v n : ℕ) (j : Subject) (s : List ℕ) → (IsBits j → ⊥) → Number k v n s [] → IsAt r (InArgument j k v)
    → IsAt r (InArgument j 0 n)
number_there r zero v n j s none (e, f) there = subst (λ m. IsAt r (InArgument j 0 m)) (sym e) there
number_there r (suc k) v n j [] none h there = absurd h
number_there r (suc k) v n j (b ∷ s) none (small, h) there =
    number_there r k (v * 256 + b) n j s none h
    (subst (λ x. IsAt r (InArgument j x (v * 256 + b))) (less_one k)
    (argument_more r j (suc k) v b there (omega arith) small (λ e. absurd (no_byte_value j none e))))

-- a head is its initial byte, and then the bytes of its argument
head_bytes : (bs : List ℕ) (k len : ℕ) → len ≡ suc k → len ≤ length bs → take len bs ≡ slice_index bs 0 ∷ drop 1 (take len bs)
head_bytes [] k len e inside = absurd (omega arith)
head_bytes (c ∷ bs) k len e inside = subst (λ m. take m (c ∷ bs) ≡ c ∷ drop 1 (take m (c ∷ bs))) (sym e) refl

-- what a head leads to, where an item must come, and where a key stands
item_head_leads : (w : Keys) (limit : ℕ) (bs : List ℕ) (j : Subject) (n len : ℕ) (t : List ℕ) (ls : List Level) → HasHead bs j n len
    → length ls ≤ limit
    → CborLeads w limit (at Item t ls) (take len bs) [] (at (InArgument j 0 n) t ls)
item_head_leads w limit bs j n len t ls head room =
    subst (λ v. CborLeads w limit (at Item t ls) v [] (at (InArgument j 0 n) t ls)) (sym (head_bytes bs head.left len head.all head.inside))
    (leads_joined w limit (at Item t ls) (at (InArgument j head.left head.value) t ls) (at (InArgument j 0 n) t ls) (slice_index bs 0 ∷ [])
    (drop 1 (take len bs)) [] []
    (argument_leads w limit (slice_index bs 0) head.left head.value j t ls room head.initial)
    (number_leads w limit head.left head.value n j (drop 1 (take len bs)) t ls head.argument))

text_type_is : (c k v : ℕ) (j : Subject) → IsText j → HeadIs c (ArgumentHead j k v) → (c / 32 ≡ 3) × StartsNumber (c % 32) k v
text_type_is c k v Unsigned is h = absurd is
text_type_is c k v Negative is h = absurd is
text_type_is c k v (StringHead Bytes span) is h = absurd is
text_type_is c k v (StringHead Text Whole) is h = h
text_type_is c k v (StringHead Text Chunk) is h = absurd h.0
text_type_is c k v (StringHead KeyText span) is h = absurd is
text_type_is c k v ListHead is h = absurd is
text_type_is c k v MapHead is h = absurd is
text_type_is c k v TagHead is h = absurd is
text_type_is c k v (Opaque b) is h = absurd is

text_head_is : (c k v : ℕ) (j : Subject) → IsText j → HeadIs c (ArgumentHead j k v) → j ≡ StringHead Text Whole
text_head_is c k v Unsigned is h = absurd is
text_head_is c k v Negative is h = absurd is
text_head_is c k v (StringHead Bytes span) is h = absurd is
text_head_is c k v (StringHead Text Whole) is h = refl
text_head_is c k v (StringHead Text Chunk) is h = absurd h.0
text_head_is c k v (StringHead KeyText span) is h = absurd is
text_head_is c k v ListHead is h = absurd is
text_head_is c k v MapHead is h = absurd is
text_head_is c k v TagHead is h = absurd is
text_head_is c k v (Opaque b) is h = absurd is

key_head_leads : (w : Keys) (limit : ℕ) (bs : List ℕ) (j : Subject) (n len : ℕ) (t : List ℕ) (ls : List Level) → HasHead bs j n len
    → IsText j
    → CborLeads w limit (at Key t ls) (take len bs) [] (at (InArgument (StringHead KeyText Whole) 0 n) t ls)
key_head_leads w limit bs j n len t ls head is =
    let (type, starts) = text_type_is (slice_index bs 0) head.left head.value j is head.initial in
    subst (λ v. CborLeads w limit (at Key t ls) v [] (at (InArgument (StringHead KeyText Whole) 0 n) t ls))
    (sym (head_bytes bs head.left len head.all head.inside))
    (leads_joined w limit (at Key t ls) (at (InArgument (StringHead KeyText Whole) head.left head.value) t ls)
    (at (InArgument (StringHead KeyText Whole) 0 n) t ls) (slice_index bs 0 ∷ []) (drop 1 (take len bs)) [] []
    (key_leads w limit (slice_index bs 0) head.left head.value t ls type starts)
    (number_leads w limit head.left head.value n (StringHead KeyText Whole) (drop 1 (take len bs)) t ls head.argument))

-- and a text behind its head
no_more : (n : ℕ) (run : List ℕ) → length run ≡ n → n - length run ≡ 0
no_more n run e = omega arith

text_leads : (w : Keys) (limit n : ℕ) (run t u : List ℕ) (ls : List Level) → length run ≡ n → IsUtf8 run
    → CborLeads w limit (at (InArgument (StringHead Text Whole) 0 n) t ls) run (text_event run ∷ []) (at After u ls)
text_leads w limit n run t u ls len utf8 =
    leads_joined w limit (at (InArgument (StringHead Text Whole) 0 n) t ls) (at (String Text Whole n Between) [] ls) (at After u ls) [] run
    [] (text_event run ∷ [])
    (string_begins w limit n Text Whole t ls)
    (subst (λ v. CborLeads w limit (at (String Text Whole n Between) [] ls) v (text_event run ∷ []) (at After u ls)) (append-nil run)
    (leads_joined w limit (at (String Text Whole n Between) [] ls) (at (String Text Whole 0 Between) run ls) (at After u ls) run [] []
    (text_event run ∷ [])
    (subst (λ m. CborLeads w limit (at (String Text Whole n Between) [] ls) run [] (at (String Text Whole m Between) run ls))
    (no_more n run len)
    (text_run w limit Text Whole n [] run ls tt (omega arith) utf8))
    (text_end w limit run u ls)))

key_text_leads : (w : Keys) (limit n : ℕ) (run t u : List ℕ) (ls : List Level) → length run ≡ n → IsUtf8 run
    → CborLeads w limit (at (InArgument (StringHead KeyText Whole) 0 n) t ls) run (key_event run ∷ []) (at Item u ls)
key_text_leads w limit n run t u ls len utf8 =
    leads_joined w limit (at (InArgument (StringHead KeyText Whole) 0 n) t ls) (at (String KeyText Whole n Between) [] ls) (at Item u ls) []
    run [] (key_event run ∷ [])
    (string_begins w limit n KeyText Whole t ls)
    (subst (λ v. CborLeads w limit (at (String KeyText Whole n Between) [] ls) v (key_event run ∷ []) (at Item u ls)) (append-nil run)
    (leads_joined w limit (at (String KeyText Whole n Between) [] ls) (at (String KeyText Whole 0 Between) run ls) (at Item u ls) run [] []
    (key_event run ∷ [])
    (subst (λ m. CborLeads w limit (at (String KeyText Whole n Between) [] ls) run [] (at (String KeyText Whole m Between) run ls))
    (no_more n run len)
    (text_run w limit KeyText Whole n [] run ls tt (omega arith) utf8))
    (key_end w limit run u ls)))

both_leads : (w : Keys) (limit : ℕ) (bs run : List ℕ) (n len : ℕ) (x y z : CborState) (e : NodeEvent) → IsBehind bs len n run
    → CborLeads w limit x (take len bs) [] y → CborLeads w limit y run (e ∷ []) z
    → CborLeads w limit x (take (len + n) bs) (e ∷ []) z
both_leads w limit bs run n len x y z e behind h g =
    subst (λ v. CborLeads w limit x v (e ∷ []) z) (ap (λ v. take len bs ++ v) behind.0 ∙ sym (take-add len n bs))
    (leads_joined w limit x y z (take len bs) run [] (e ∷ []) h g)

pub head_goes : (S T : StandsFor) (r q : Reader) (bs : List ℕ) (j : Subject) (n len : ℕ) → IsAt r Item → HasHead bs j n len
    → CborGoes S r [] (InArgument j 0 n) [] T q → CborGoes S r [] Item (take len bs) T q
head_goes S T r q bs j n len there head goes =
    subst (λ v. CborGoes S r [] Item v T q) (append-nil (take len bs))
    (goes_by S S T r r q Item (InArgument j 0 n) (take len bs) [] [] goes (takes_none S)
    (λ w limit high. item_head_leads w limit bs j n len r.held.items (levels_of r) head (in_room r Item limit there high)))

pub head_reached : (S : StandsFor) (r : Reader) (bs : List ℕ) (j : Subject) (n len : ℕ) → IsAt r Item → HasHead bs j n len
    → Reached S (cbor_state_at r Item) → Reached S (cbor_state_at r (InArgument j 0 n))
head_reached S r bs j n len there head reached =
    reached_by S (cbor_state_at r Item) (cbor_state_at r (InArgument j 0 n)) (take len bs) reached
    (item_head_leads plain most_levels bs j n len r.held.items (levels_of r) head (in_room r Item most_levels there (omega arith)))

pub head_deep : (r : Reader) (bs : List ℕ) (j : Subject) (n len : ℕ) → HasHead bs j n len → opens_of j ≡ 1
    → most_levels ≤ length (levels_of r) → OpensTooDeep (cbor_state_at r Item) (slice_index bs 0)
head_deep r bs j n len head level full = argument_deep r (slice_index bs 0) head.left head.value j head.initial level full

-- a text
text_all : (w : Keys) (limit : ℕ) (r : Reader) (bs run : List ℕ) (j : Subject) (n len : ℕ) → IsAt r Item → HasHead bs j n len → IsText j
    → IsBehind bs len n run → IsUtf8 run → most_levels ≤ limit
    → CborLeads w limit (cbor_state_at r Item) (take (len + n) bs) (text_event run ∷ []) (cbor_state_at r After)
text_all w limit r bs run j n len there head is behind utf8 high =
    let head1 = subst (λ y. HasHead bs y n len) (text_head_is (slice_index bs 0) head.left head.value j is head.initial) head in
    both_leads w limit bs run n len (cbor_state_at r Item) (cbor_state_at r (InArgument (StringHead Text Whole) 0 n))
    (cbor_state_at r After) (text_event run) behind
    (item_head_leads w limit bs (StringHead Text Whole) n len r.held.items (levels_of r) head1 (in_room r Item limit there high))
    (text_leads w limit n run r.held.items r.held.items (levels_of r) behind.1 utf8)

pub text_goes : (S T : StandsFor) (r q : Reader) (bs run : List ℕ) (j : Subject) (n len : ℕ) (e : NodeEvent) → IsAt r Item
    → HasHead bs j n len → IsText j → IsBehind bs len n run → IsUtf8 run → e ≡ text_event run
    → CborGoes S r (e ∷ []) After [] T q → CborGoes S r [] Item (take (len + n) bs) T q
text_goes S T r q bs run j n len e there head is behind utf8 same goes =
    subst (λ v. CborGoes S r [] Item v T q) (append-nil (take (len + n) bs))
    (goes_with S T r r q Item After (take (len + n) bs) [] (text_event run ∷ [])
    (subst (λ x. CborGoes S r (x ∷ []) After [] T q) same goes)
    (λ w limit high. text_all w limit r bs run j n len there head is behind utf8 high))

pub text_owed : (S : StandsFor) (r : Reader) (bs run : List ℕ) (j : Subject) (n len : ℕ) → IsAt r Item → HasHead bs j n len → IsText j
    → IsBehind bs len n run → IsUtf8 run → Reached S (cbor_state_at r Item) → Owed S (text_event run) (cbor_state_at r After)
text_owed S r bs run j n len there head is behind utf8 reached =
    owed_by S (cbor_state_at r Item) (cbor_state_at r After) (take (len + n) bs) (text_event run) reached
    (text_all plain most_levels r bs run j n len there head is behind utf8 (omega arith))

-- and a key
key_all : (w : Keys) (limit : ℕ) (r : Reader) (bs run : List ℕ) (j : Subject) (n len : ℕ) → HasHead bs j n len → IsText j
    → IsBehind bs len n run → IsUtf8 run
    → CborLeads w limit (cbor_state_at r Key) (take (len + n) bs) (key_event run ∷ []) (cbor_state_at r Item)
key_all w limit r bs run j n len head is behind utf8 =
    both_leads w limit bs run n len (cbor_state_at r Key) (cbor_state_at r (InArgument (StringHead KeyText Whole) 0 n))
    (cbor_state_at r Item) (key_event run) behind
    (key_head_leads w limit bs j n len r.held.items (levels_of r) head is)
    (key_text_leads w limit n run r.held.items r.held.items (levels_of r) behind.1 utf8)

pub key_may : (S : StandsFor) (r : Reader) (bs run : List ℕ) (j : Subject) (n len : ℕ) → IsAt r Key → HasHead bs j n len → IsText j
    → IsBehind bs len n run → IsUtf8 run → Reached S (cbor_state_at r Key) → MayTake S (key_event run)
key_may S r bs run j n len there head is behind utf8 reached =
    may_take S (cbor_state_at r Key) (cbor_state_at r Item) (take (len + n) bs) (key_event run) reached
    (key_all plain most_levels r bs run j n len head is behind utf8) (tt, there.room)

pub key_goes : (S T : StandsFor) (r : Reader) (bs run : List ℕ) (j : Subject) (n len : ℕ) → IsAt r Key → HasHead bs j n len → IsText j
    → IsBehind bs len n run → IsUtf8 run → TakesOn S (key_event run) T
    → CborGoes S r [] Key (take (len + n) bs) T (record r { place = Item })
key_goes S T r bs run j n len there head is behind utf8 taken =
    goes_to S T r (record r { place = Item }) Key (take (len + n) bs) (key_event run ∷ [])
    (record { there = record { room = there.room; keeps = tt }; begun = tt })
    taken
    (λ w limit high. key_all w limit r bs run j n len head is behind utf8)

-- some bytes are taken
pub some_taken : (bs : List ℕ) (j : Subject) (n len : ℕ) → HasHead bs j n len → 0 < len
some_taken bs j n len head = let e = head.all in omega arith

-- what the reader makes of a prefix of its bytes
pub head_prefix : (S T : StandsFor) (r q : Reader) (bs : List ℕ) (j : Subject) (n len : ℕ) → IsAt r Item → HasHead bs j n len
    → CborGoes S r [] (InArgument j 0 n) [] T q → CborTakesPrefixAt S r Item bs T q (Ok len)
head_prefix S T r q bs j n len there head goes =
    (some_taken bs j n len head, head.inside, head_goes S T r q bs j n len there head goes)

prefix_of : (S T : StandsFor) (r q : Reader) (p : CborPlace) (bs run : List ℕ) (j : Subject) (n len : ℕ) → HasHead bs j n len
    → IsBehind bs len n run → CborGoes S r [] p (take (len + n) bs) T q → CborTakesPrefixAt S r p bs T q (Ok (len + length run))
prefix_of S T r q p bs run j n len head behind goes =
    let some = some_taken bs j n len head in
    (omega arith, omega (arith, behind.1, behind.2), subst (λ m. CborGoes S r [] p (take (len + m) bs) T q) (sym behind.1) goes)

pub text_prefix : (S T : StandsFor) (r q : Reader) (bs run : List ℕ) (j : Subject) (n len : ℕ) (e : NodeEvent) → IsAt r Item
    → HasHead bs j n len → IsText j → IsBehind bs len n run → IsUtf8 run → e ≡ text_event run
    → CborGoes S r (e ∷ []) After [] T q → CborTakesPrefixAt S r Item bs T q (Ok (len + length run))
text_prefix S T r q bs run j n len e there head is behind utf8 same goes =
    prefix_of S T r q Item bs run j n len head behind (text_goes S T r q bs run j n len e there head is behind utf8 same goes)

pub key_prefix : (S T : StandsFor) (r : Reader) (bs run : List ℕ) (j : Subject) (n len : ℕ) → IsAt r Key → HasHead bs j n len → IsText j
    → IsBehind bs len n run → IsUtf8 run → TakesOn S (key_event run) T
    → CborTakesPrefixAt S r Key bs T (record r { place = Item }) (Ok (len + length run))
key_prefix S T r bs run j n len there head is behind utf8 taken =
    prefix_of S T r (record r { place = Item }) Key bs run j n len head behind
    (key_goes S T r bs run j n len there head is behind utf8 taken)

-- a number grows by one byte more
one_left : (m i : ℕ) → (m - i) - 1 ≡ m - (i + 1)
one_left m i = omega arith

pub number_word : (bs : List ℕ) (i number b : ℕ) → i < length bs → b < 256 → number < bound (length bs - i) → number * 256 + b < 2 ^ 64
number_word bs i number b inside small below =
    let h = byte_bound (length bs - i) number b (omega arith) below small in
    let word = bound_word ((length bs - i) - 1) in
    omega arith

pub number_below : (bs : List ℕ) (i number b : ℕ) → i < length bs → b < 256 → number < bound (length bs - i)
    → number * 256 + b < bound (length bs - (i + 1))
number_below bs i number b inside small below =
    subst (λ k. number * 256 + b < bound k) (one_left (length bs) i) (byte_bound (length bs - i) number b (omega arith) below small)

pub number_carried : (bs : List ℕ) (i value number b n : ℕ) → i < length bs → b ≡ get_or bs i 0 → b < 256
    → ((m : ℕ) → Number (length bs - i) number m (drop i bs) [] → Number (length bs) value m bs [])
    → Number (length bs - (i + 1)) (number * 256 + b) n (drop (i + 1) bs) [] → Number (length bs) value n bs []
number_carried bs i value number b n inside e small carried h =
    let first = drop_more bs i 0 inside ∙ ap (λ c. c ∷ drop (i + 1) bs) (sym e) in
    carried n
    (subst (λ s. Number (length bs - i) number n s []) (sym first)
    (number_more (length bs - i) number n b (drop (i + 1) bs) [] (omega arith) small
    (subst (λ k. Number k (number * 256 + b) n (drop (i + 1) bs) []) (sym (one_left (length bs) i)) h)))
