-- What the reader does where something ends: whole items, strings, and arguments. The answers of those steps cite these.
use Rattle.std.proofs.Common.{◌≡◌, ℕ, pos, negsuc, ◌%◌, ◌≤◌, ◌<◌, inl, inr, List, [], ◌∷◌, ◌++◌, Some, sym, ap, subst, arith, length}
use Rattle.std.proofs.Common.{append-nil, IsUtf8}
use Rattle.std.proofs.Common.{Global}
use Rattle.std.specs.Prelude.{Vec}
use Rattle.std.proofs.lemmas.Str.{IsUtf8-append}
use Rattle.sm_tree.specs.Limits.{most_levels}
use Rattle.sm_tree.specs.Events.{NodeEvent, key_event, text_event, bytes_event, tag_event, opaque_event, start_list, start_object}
use Rattle.sm_tree.specs.Streams.{StandsFor, MayTake, TakesOn}
use Rattle.sm_tree.proofs.Handing.{takes_none, takes_both}
use Rattle.sm_bytes.specs.declared.utf8.Utf8.TheVariants.{Between}
use Rattle.sm_cbor.specs.CborItem.{IsOpaque}
use Rattle.sm_cbor.specs.steps.Marks.{Keys, plain}
use Rattle.sm_cbor.specs.steps.Reading.{IsOf, integer_event}
use Rattle.sm_cbor.specs.steps.Rest.{CborLeads, before_span}
use Rattle.sm_tree.specs.Nested.{nested_in}
use Rattle.sm_cbor.specs.steps.Machine.{levels_of, cbor_state_at, opened, ArgumentLives, CborHolds, Begun, IsAt, CborGoes, OpensLevel}
use Rattle.sm_cbor.specs.steps.Sinks.{Reached, Owed}
use Rattle.sm_cbor.specs.declared.place.StringKind.{StringKind}
use Rattle.sm_cbor.specs.declared.place.StringKind.TheVariants.{Bytes, Text, Key as KeyText}
use Rattle.sm_cbor.specs.declared.place.Span.{Span}
use Rattle.sm_cbor.specs.declared.place.Span.TheVariants.{Whole, Chunk}
use Rattle.sm_cbor.specs.declared.place.Subject.{Subject}
use Rattle.sm_cbor.specs.declared.place.Subject.TheVariants.{Unsigned, Negative, String as StringHead, List as ListHead, Map as MapHead}
use Rattle.sm_cbor.specs.declared.place.Subject.TheVariants.{Tag as TagHead, Opaque}
use Rattle.sm_cbor.specs.declared.place.Level.{Level}
use Rattle.sm_cbor.specs.declared.place.Level.TheVariants.{Tag, List as AList, Map as AMap}
use Rattle.sm_cbor.specs.declared.place.CborPlace.TheVariants.{Item, After, Argument as InArgument, String, Chunks}
use Rattle.sm_cbor.specs.declared.read.Reader.{Reader}
use Rattle.sm_cbor.proofs.Items.{at}
use Rattle.sm_cbor.proofs.StringSteps.{bytes_prefix, ends_nil, bytes_end, text_end, key_end, chunk_end, ends_are}
use Rattle.sm_cbor.proofs.ArgumentSteps.{unsigned_ends, negative_ends, string_begins, list_opens, map_opens, tag_opens, opaque_ends}
use Rattle.sm_cbor.proofs.Readings.{leads_none, goes_by, goes_with, goes_to}
use Rattle.sm_cbor.proofs.Reaching.{may_take, reached_by, owed_by, owed_may, owed_taken}
use Rattle.sm_cbor.proofs.Settling.{can_after}

-- its event was taken, and what ends with it has ended
pub leaf_goes : (S M T : StandsFor) (before behind : Reader) (e : NodeEvent) → CborGoes M before [] After [] T behind → TakesOn S e M
    → CborGoes S before (e ∷ []) After [] T behind
leaf_goes S M T before behind e goes taken = record {
  out = goes.out;
  leads = goes.leads;
  taken = takes_both S M T (e ∷ []) goes.out taken goes.taken;
  sound = goes.sound;
}

pub leaf_may : (S : StandsFor) (r : Reader) (e : NodeEvent) → IsAt r After → Owed S e (cbor_state_at r After) → MayTake S e
leaf_may S r e there owed = owed_may S (cbor_state_at r After) e owed (can_after r there)

pub leaf_reached : (S T : StandsFor) (r : Reader) (e : NodeEvent) → IsAt r After → Owed S e (cbor_state_at r After) → TakesOn S e T
    → Reached T (cbor_state_at r After)
leaf_reached S T r e there owed taken = owed_taken S T (cbor_state_at r After) e owed (can_after r there) taken

-- a string as an item
pub bytes_goes : (S T : StandsFor) (before behind : Reader) (h : Vec ℕ Global) (e : NodeEvent) → e ≡ bytes_event before.held.items
    → CborGoes S (record before { held = h }) (e ∷ []) After [] T behind → CborGoes S before [] (String Bytes Whole 0 Between) [] T behind
bytes_goes S T before behind h e is goes =
    goes_with S T before (record before { held = h }) behind (String Bytes Whole 0 Between) After [] [] (bytes_event before.held.items ∷ [])
    (subst (λ x. CborGoes S (record before { held = h }) (x ∷ []) After [] T behind) is goes)
    (λ w limit high. bytes_end w limit before.held.items h.items (levels_of before))

pub bytes_owed : (S : StandsFor) (r : Reader) (h : Vec ℕ Global) → Reached S (cbor_state_at r (String Bytes Whole 0 Between))
    → Owed S (bytes_event r.held.items) (cbor_state_at (record r { held = h }) After)
bytes_owed S r h reached =
    owed_by S (cbor_state_at r (String Bytes Whole 0 Between)) (cbor_state_at (record r { held = h }) After) [] (bytes_event r.held.items)
    reached (bytes_end plain most_levels r.held.items h.items (levels_of r))

pub text_goes : (S T : StandsFor) (before behind : Reader) (h : Vec ℕ Global) (e : NodeEvent) → e ≡ text_event before.held.items
    → CborGoes S (record before { held = h }) (e ∷ []) After [] T behind → CborGoes S before [] (String Text Whole 0 Between) [] T behind
text_goes S T before behind h e is goes =
    goes_with S T before (record before { held = h }) behind (String Text Whole 0 Between) After [] [] (text_event before.held.items ∷ [])
    (subst (λ x. CborGoes S (record before { held = h }) (x ∷ []) After [] T behind) is goes)
    (λ w limit high. text_end w limit before.held.items h.items (levels_of before))

pub text_owed : (S : StandsFor) (r : Reader) (h : Vec ℕ Global) → Reached S (cbor_state_at r (String Text Whole 0 Between))
    → Owed S (text_event r.held.items) (cbor_state_at (record r { held = h }) After)
text_owed S r h reached =
    owed_by S (cbor_state_at r (String Text Whole 0 Between)) (cbor_state_at (record r { held = h }) After) [] (text_event r.held.items)
    reached (text_end plain most_levels r.held.items h.items (levels_of r))

pub key_may : (S : StandsFor) (r : Reader) → IsAt r (String KeyText Whole 0 Between)
    → Reached S (cbor_state_at r (String KeyText Whole 0 Between)) → MayTake S (key_event r.held.items)
key_may S r there reached =
    may_take S (cbor_state_at r (String KeyText Whole 0 Between)) (cbor_state_at r Item) [] (key_event r.held.items) reached
    (key_end plain most_levels r.held.items r.held.items (levels_of r)) (tt, there.room)

pub key_goes : (S T : StandsFor) (before behind : Reader) → IsAt before (String KeyText Whole 0 Between) → behind.place ≡ Item
    → behind.levels ≡ before.levels → TakesOn S (key_event before.held.items) T
    → CborGoes S before [] (String KeyText Whole 0 Between) [] T behind
key_goes S T before behind there place levels taken =
    let same_levels : levels_of behind ≡ levels_of before = ap (λ n. nested_in n) levels in
    goes_to S T before behind (String KeyText Whole 0 Between) [] (key_event before.held.items ∷ [])
    (record {
      there = subst (IsAt behind) (sym place) (record {
        room = let room = there.room in let len = ap length same_levels in omega arith;
        keeps = tt;
      });
      begun = subst (λ p. Begun p (levels_of behind)) (sym place) tt;
    })
    taken
    (λ w limit high. subst (λ p. CborLeads w limit (cbor_state_at before (String KeyText Whole 0 Between)) []
    (key_event before.held.items ∷ []) (cbor_state_at behind p)) (sym place)
    (subst (λ ks. CborLeads w limit (cbor_state_at before (String KeyText Whole 0 Between)) [] (key_event before.held.items ∷ [])
    (at Item behind.held.items ks)) (sym same_levels)
    (key_end w limit before.held.items behind.held.items (levels_of before))))

-- what is held at the end is a string of its kind
pub held_is : (kind : StringKind) (t : List ℕ) → CborHolds kind Between t → IsOf kind t
held_is kind t h = subst (IsOf kind) (append-nil t) (h [] (ends_nil kind))

pub text_held : (r : Reader) → IsAt r (String Text Whole 0 Between) → IsUtf8 r.held.items
text_held r there = held_is Text r.held.items there.keeps.1

pub key_held : (r : Reader) → IsAt r (String KeyText Whole 0 Between) → IsUtf8 r.held.items
key_held r there = held_is KeyText r.held.items there.keeps.1

-- a chunk ends
pub chunk_goes : (S : StandsFor) (before : Reader) (kind : StringKind) → IsAt before (String kind Chunk 0 Between)
    → CborGoes S before [] (String kind Chunk 0 Between) [] S (record before { place = Chunks kind })
chunk_goes S before kind there =
    goes_to S S before (record before { place = Chunks kind }) (String kind Chunk 0 Between) [] []
    (record { there = record { room = there.room; keeps = held_is kind before.held.items there.keeps.1 }; begun = tt })
    (takes_none S)
    (λ w limit high. chunk_end w limit kind before.held.items (levels_of before))

-- a string begins
pub kind_append : (kind : StringKind) (t u : List ℕ) → IsOf kind t → IsOf kind u → IsOf kind (t ++ u)
kind_append Bytes t u a b = bytes_prefix t u a b
kind_append Text t u a b = IsUtf8-append t u a b
kind_append KeyText t u a b = IsUtf8-append t u a b

pub holds_first : (kind : StringKind) → CborHolds kind Between []
holds_first kind u h = ends_are kind u h

pub holds_more : (kind : StringKind) (t : List ℕ) → IsOf kind t → CborHolds kind Between t
holds_more kind t is u h = kind_append kind t u is (ends_are kind u h)

-- what is held where a string's or a chunk's bytes begin to come
before_holds : (r : Reader) (kind : StringKind) (span : Span) (n : ℕ) → IsAt r (InArgument (StringHead kind span) 0 n)
    → CborHolds kind Between (before_span span r.held.items)
before_holds r kind Whole n there = holds_first kind
before_holds r kind Chunk n there = holds_more kind r.held.items there.keeps.2

pub string_there : (r q : Reader) (kind : StringKind) (span : Span) (n : ℕ) → IsAt r (InArgument (StringHead kind span) 0 n)
    → q.held.items ≡ before_span span r.held.items → q.levels ≡ r.levels → IsAt q (String kind span n Between)
string_there r q kind span n there e levels =
    let same_levels : levels_of q ≡ levels_of r = ap (λ n. nested_in n) levels in
    record {
      room = let room = there.room in let len = ap length same_levels in omega arith;
      keeps = (omega arith, subst (CborHolds kind Between) (sym e) (before_holds r kind span n there));
    }

string_leads : (r q : Reader) (kind : StringKind) (span : Span) (n : ℕ) → IsAt r (InArgument (StringHead kind span) 0 n)
    → q.held.items ≡ before_span span r.held.items → q.levels ≡ r.levels
    → (w : Keys) (limit : ℕ) → most_levels ≤ limit
    → CborLeads w limit (cbor_state_at r (InArgument (StringHead kind span) 0 n)) [] [] (cbor_state_at q (String kind span n Between))
string_leads r q kind span n there e levels w limit high =
    let same_levels : levels_of q ≡ levels_of r = ap (λ n. nested_in n) levels in
    subst (λ ks. CborLeads w limit (cbor_state_at r (InArgument (StringHead kind span) 0 n)) [] []
    (record { place = String kind span n Between; held = q.held.items; levels = ks })) (sym same_levels)
    (subst (λ t. CborLeads w limit (cbor_state_at r (InArgument (StringHead kind span) 0 n)) [] []
    (record { place = String kind span n Between; held = t; levels = levels_of r })) (sym e)
    (string_begins w limit n kind span r.held.items (levels_of r)))

pub string_goes : (S : StandsFor) (r q : Reader) (kind : StringKind) (span : Span) (n : ℕ) → IsAt r (InArgument (StringHead kind span) 0 n)
    → q.held.items ≡ before_span span r.held.items → q.levels ≡ r.levels
    → q.place ≡ String kind span n Between → 0 < n → CborGoes S r [] (InArgument (StringHead kind span) 0 n) [] S q
string_goes S r q kind span n there e levels place some =
    goes_to S S r q (InArgument (StringHead kind span) 0 n) [] []
    (record {
      there = subst (IsAt q) (sym place) (string_there r q kind span n there e levels);
      begun = subst (λ p. Begun p (levels_of q)) (sym place) some;
    })
    (takes_none S)
    (λ w limit high. subst (λ p. CborLeads w limit (cbor_state_at r (InArgument (StringHead kind span) 0 n)) [] [] (cbor_state_at q p))
    (sym place) (string_leads r q kind span n there e levels w limit high))

pub empty_goes : (S T : StandsFor) (r q behind : Reader) (kind : StringKind) (span : Span) (n : ℕ) → n ≡ 0
    → IsAt r (InArgument (StringHead kind span) 0 n) → q.held.items ≡ before_span span r.held.items → q.levels ≡ r.levels
    → CborGoes S q [] (String kind span 0 Between) [] T behind → CborGoes S r [] (InArgument (StringHead kind span) 0 n) [] T behind
empty_goes S T r q behind kind span n none there e levels goes =
    goes_by S S T r q behind (InArgument (StringHead kind span) 0 n) (String kind span n Between) [] [] []
    (subst (λ m. CborGoes S q [] (String kind span m Between) [] T behind) (sym none) goes)
    (takes_none S)
    (string_leads r q kind span n there e levels)

pub empty_there : (r q : Reader) (kind : StringKind) (span : Span) (n : ℕ) → n ≡ 0 → IsAt r (InArgument (StringHead kind span) 0 n)
    → q.held.items ≡ before_span span r.held.items → q.levels ≡ r.levels → IsAt q (String kind span 0 Between)
empty_there r q kind span n none there e levels =
    subst (λ m. IsAt q (String kind span m Between)) none (string_there r q kind span n there e levels)

pub empty_reached : (S : StandsFor) (r q : Reader) (kind : StringKind) (span : Span) (n : ℕ) → n ≡ 0
    → IsAt r (InArgument (StringHead kind span) 0 n) → q.held.items ≡ before_span span r.held.items → q.levels ≡ r.levels
    → Reached S (cbor_state_at r (InArgument (StringHead kind span) 0 n)) → Reached S (cbor_state_at q (String kind span 0 Between))
empty_reached S r q kind span n none there e levels reached =
    subst (λ m. Reached S (cbor_state_at q (String kind span m Between))) none
    (reached_by S (cbor_state_at r (InArgument (StringHead kind span) 0 n)) (cbor_state_at q (String kind span n Between)) [] reached
    (string_leads r q kind span n there e levels plain most_levels (omega arith)))

-- an argument ends: an integer, or a simple value or a float
pub unsigned_goes : (S T : StandsFor) (r q : Reader) (n : ℕ) (e : NodeEvent) → e ≡ integer_event n (pos n)
    → CborGoes S r (e ∷ []) After [] T q → CborGoes S r [] (InArgument Unsigned 0 n) [] T q
unsigned_goes S T r q n e is goes =
    goes_with S T r r q (InArgument Unsigned 0 n) After [] [] (integer_event n (pos n) ∷ [])
    (subst (λ x. CborGoes S r (x ∷ []) After [] T q) is goes)
    (λ w limit high. unsigned_ends w limit n r.held.items r.held.items (levels_of r))

pub unsigned_owed : (S : StandsFor) (r : Reader) (n : ℕ) → Reached S (cbor_state_at r (InArgument Unsigned 0 n))
    → Owed S (integer_event n (pos n)) (cbor_state_at r After)
unsigned_owed S r n reached =
    owed_by S (cbor_state_at r (InArgument Unsigned 0 n)) (cbor_state_at r After) [] (integer_event n (pos n)) reached
    (unsigned_ends plain most_levels n r.held.items r.held.items (levels_of r))

pub negative_goes : (S T : StandsFor) (r q : Reader) (n : ℕ) (e : NodeEvent) → e ≡ integer_event n (negsuc n)
    → CborGoes S r (e ∷ []) After [] T q → CborGoes S r [] (InArgument Negative 0 n) [] T q
negative_goes S T r q n e is goes =
    goes_with S T r r q (InArgument Negative 0 n) After [] [] (integer_event n (negsuc n) ∷ [])
    (subst (λ x. CborGoes S r (x ∷ []) After [] T q) is goes)
    (λ w limit high. negative_ends w limit n r.held.items r.held.items (levels_of r))

pub negative_owed : (S : StandsFor) (r : Reader) (n : ℕ) → Reached S (cbor_state_at r (InArgument Negative 0 n))
    → Owed S (integer_event n (negsuc n)) (cbor_state_at r After)
negative_owed S r n reached =
    owed_by S (cbor_state_at r (InArgument Negative 0 n)) (cbor_state_at r After) [] (integer_event n (negsuc n)) reached
    (negative_ends plain most_levels n r.held.items r.held.items (levels_of r))

is_opaque : (b n : ℕ) → ArgumentLives (Opaque b) 0 n → IsOpaque (b % 32) n
is_opaque b n (inl h) = h.1
is_opaque b n (inr (inl h)) = absurd (let f = h.1 in omega arith)
is_opaque b n (inr (inr h)) = inr (inr h)

pub opaque_goes : (S T : StandsFor) (r q : Reader) (b n : ℕ) → IsAt r (InArgument (Opaque b) 0 n)
    → CborGoes S r (opaque_event b ∷ []) After [] T q → CborGoes S r [] (InArgument (Opaque b) 0 n) [] T q
opaque_goes S T r q b n there goes =
    goes_with S T r r q (InArgument (Opaque b) 0 n) After [] [] (opaque_event b ∷ []) goes
    (λ w limit high. opaque_ends w limit b n r.held.items r.held.items (levels_of r) (is_opaque b n there.keeps.0))

pub opaque_owed : (S : StandsFor) (r : Reader) (b n : ℕ) → IsAt r (InArgument (Opaque b) 0 n)
    → Reached S (cbor_state_at r (InArgument (Opaque b) 0 n)) → Owed S (opaque_event b) (cbor_state_at r After)
opaque_owed S r b n there reached =
    owed_by S (cbor_state_at r (InArgument (Opaque b) 0 n)) (cbor_state_at r After) [] (opaque_event b) reached
    (opaque_ends plain most_levels b n r.held.items r.held.items (levels_of r) (is_opaque b n there.keeps.0))

pub list_owed : (S : StandsFor) (r : Reader) (n : ℕ) → Reached S (cbor_state_at r (InArgument ListHead 0 n))
    → Owed S (start_list (Some n)) (opened r (AList n))
list_owed S r n reached =
    owed_by S (cbor_state_at r (InArgument ListHead 0 n)) (opened r (AList n)) [] (start_list (Some n)) reached
    (list_opens plain most_levels n r.held.items r.held.items (levels_of r))

pub list_goes : (S M T : StandsFor) (r mid q : Reader) (n : ℕ) → OpensLevel S r (AList n) (start_list (Some n)) M mid
    → CborGoes M mid [] After [] T q → CborGoes S r [] (InArgument ListHead 0 n) [] T q
list_goes S M T r mid q n opens goes =
    goes_by S M T r mid q (InArgument ListHead 0 n) After [] [] (start_list (Some n) ∷ []) goes opens.taken
    (λ w limit high. subst (λ ks. CborLeads w limit (cbor_state_at r (InArgument ListHead 0 n)) [] (start_list (Some n) ∷ [])
    (at After mid.held.items ks)) (sym opens.levels)
    (list_opens w limit n r.held.items mid.held.items (levels_of r)))

pub map_owed : (S : StandsFor) (r : Reader) (n : ℕ) → Reached S (cbor_state_at r (InArgument MapHead 0 n))
    → Owed S (start_object (Some n)) (opened r (AMap n))
map_owed S r n reached =
    owed_by S (cbor_state_at r (InArgument MapHead 0 n)) (opened r (AMap n)) [] (start_object (Some n)) reached
    (map_opens plain most_levels n r.held.items r.held.items (levels_of r))

pub map_goes : (S M T : StandsFor) (r mid q : Reader) (n : ℕ) → OpensLevel S r (AMap n) (start_object (Some n)) M mid
    → CborGoes M mid [] After [] T q → CborGoes S r [] (InArgument MapHead 0 n) [] T q
map_goes S M T r mid q n opens goes =
    goes_by S M T r mid q (InArgument MapHead 0 n) After [] [] (start_object (Some n) ∷ []) goes opens.taken
    (λ w limit high. subst (λ ks. CborLeads w limit (cbor_state_at r (InArgument MapHead 0 n)) [] (start_object (Some n) ∷ [])
    (at After mid.held.items ks)) (sym opens.levels)
    (map_opens w limit n r.held.items mid.held.items (levels_of r)))

-- a level that opens: its event may be taken, and then the sink has reached what is in it
pub opener_may : (S : StandsFor) (r : Reader) (l : Level) (e : NodeEvent) → length (levels_of r) < most_levels → Owed S e (opened r l)
    → MayTake S e
opener_may S r l e room owed = owed_may S (opened r l) e owed (tt, omega arith)

pub opener_reached : (S T : StandsFor) (r mid : Reader) (l : Level) (e : NodeEvent) → Owed S e (opened r l) → OpensLevel S r l e T mid
    → Reached T (cbor_state_at mid After)
opener_reached S T r mid l e owed opens =
    let room = opens.there.room in
    let len = ap length opens.levels in
    subst (λ (h : Vec ℕ Global). Reached T (record { place = After; held = h.items; levels = levels_of mid })) (sym opens.held)
    (subst (λ ks. Reached T (record { place = After; held = r.held.items; levels = ks })) (sym opens.levels)
    (owed_taken S T (opened r l) e owed (tt, omega arith) opens.taken))

pub tag_may : (S : StandsFor) (r : Reader) (n : ℕ) → IsAt r (InArgument TagHead 0 n) → Reached S (cbor_state_at r (InArgument TagHead 0 n))
    → MayTake S (tag_event n)
tag_may S r n there reached =
    let room = there.room in
    may_take S (cbor_state_at r (InArgument TagHead 0 n)) (at Item r.held.items (Tag ∷ levels_of r)) [] (tag_event n) reached
    (tag_opens plain most_levels n r.held.items r.held.items (levels_of r)) (tt, omega arith)

pub tag_goes : (S T : StandsFor) (r q : Reader) (n : ℕ) → IsAt r (InArgument TagHead 0 n) → q.place ≡ Item
    → levels_of q ≡ Tag ∷ levels_of r → TakesOn S (tag_event n) T → CborGoes S r [] (InArgument TagHead 0 n) [] T q
tag_goes S T r q n there place levels taken =
    goes_to S T r q (InArgument TagHead 0 n) [] (tag_event n ∷ [])
    (record {
      there = subst (IsAt q) (sym place) (record { room = let room = there.room in let len = ap length levels in omega arith; keeps = tt });
      begun = subst (λ p. Begun p (levels_of q)) (sym place) tt;
    })
    taken
    (λ w limit high. subst (λ p. CborLeads w limit (cbor_state_at r (InArgument TagHead 0 n)) [] (tag_event n ∷ []) (cbor_state_at q p))
    (sym place)
    (subst (λ ks. CborLeads w limit (cbor_state_at r (InArgument TagHead 0 n)) [] (tag_event n ∷ []) (at Item q.held.items ks)) (sym levels)
    (tag_opens w limit n r.held.items q.held.items (levels_of r))))

-- an argument of which bytes are to come, and one that has come
pub argument_begins : (S : StandsFor) (r : Reader) (j : Subject) (k v : ℕ) → IsAt r (InArgument j k v) → 0 < k
    → CborGoes S r [] (InArgument j k v) [] S (record r { place = InArgument j k v })
argument_begins S r j k v there some =
    goes_to S S r (record r { place = InArgument j k v }) (InArgument j k v) [] []
    (record { there = record { room = there.room; keeps = there.keeps }; begun = some })
    (takes_none S)
    (λ w limit high. leads_none w limit (cbor_state_at r (InArgument j k v)))

pub whole_goes : (S T : StandsFor) (r q : Reader) (j : Subject) (k v : ℕ) → k ≡ 0 → CborGoes S r [] (InArgument j 0 v) [] T q
    → CborGoes S r [] (InArgument j k v) [] T q
whole_goes S T r q j k v e goes = subst (λ x. CborGoes S r [] (InArgument j x v) [] T q) (sym e) goes
