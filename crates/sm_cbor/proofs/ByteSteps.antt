-- What the reader does with a byte of an argument or of a chunk's head, and where a break ends an array or a map.
use Rattle.std.proofs.Common.{◌≡◌, ◌≢◌, ℕ, ◌+◌, ◌-◌, ◌*◌, ◌/◌, ◌%◌, ◌^◌, ◌≤◌, ◌<◌, inl, inr, List, [], ◌∷◌, None, Some, Option, refl, sym}
use Rattle.std.proofs.Common.{ap, subst, ◌∙◌, arith, length}
use Rattle.sm_tree.specs.Events.{end_list, end_object}
use Rattle.sm_bytes.specs.declared.utf8.Utf8.TheVariants.{Between}
use Rattle.sm_tree.specs.Streams.{StandsFor, MayTake, TakesOn}
use Rattle.sm_tree.proofs.Handing.{takes_none}
use Rattle.sm_cbor.specs.steps.Sinks.{Reached}
use Rattle.sm_cbor.proofs.Reaching.{may_take, reached_by, reached_on}
use Rattle.sm_cbor.specs.Refusals.{mark}
use Rattle.sm_cbor.specs.steps.Marks.{plain, marked}
use Rattle.sm_tree.specs.Limits.{most_levels}
use Rattle.sm_cbor.specs.steps.Reading.{StartsNumber, major_of}
use Rattle.sm_cbor.specs.steps.Machine.{levels_of, cbor_state_at, ArgumentLives, IsAt, CborGoes, IsBadByte, IsFirstLevel}
use Rattle.sm_tree.specs.Nested.{innermost_of, LosesInnermost}
use Rattle.sm_cbor.specs.declared.place.StringKind.{StringKind}
use Rattle.sm_cbor.specs.declared.place.StringKind.TheVariants.{Bytes, Text, Key as KeyText}
use Rattle.sm_cbor.specs.declared.place.Span.TheVariants.{Whole, Chunk}
use Rattle.sm_cbor.specs.declared.place.Subject.{Subject}
use Rattle.sm_cbor.specs.declared.place.Subject.TheVariants.{Unsigned, Negative, String as StringHead, List as ListHead, Map as MapHead}
use Rattle.sm_cbor.specs.declared.place.Subject.TheVariants.{Tag as TagHead, Opaque}
use Rattle.sm_cbor.specs.declared.place.Level.{Level}
use Rattle.sm_cbor.specs.declared.place.Level.TheVariants.{ListToBreak as AListToBreak, MapToBreak as AMapToBreak}
use Rattle.sm_cbor.specs.declared.place.CborPlace.TheVariants.{After, Argument as InArgument, String, Chunks}
use Rattle.sm_cbor.specs.declared.read.Reader.{Reader}
use Rattle.sm_cbor.proofs.LevelSteps.{list_breaks, map_breaks}
use Rattle.sm_cbor.proofs.StringSteps.{break_leads, chunk_leads, chunks_stop, ends_are}
use Rattle.sm_cbor.proofs.ArgumentSteps.{argument_byte, simple_stops, argument_no_mark}
use Rattle.sm_cbor.proofs.Readings.{goes_by}
use Rattle.sm_cbor.proofs.EndSteps.{kind_append}
use Rattle.sm_cbor.proofs.Settling.{behind_level, can_after, from_levels}
use Rattle.sm_cbor.proofs.InitialSteps.{byte_bound, bound_word}

-- bytes of an argument
lives_on : (j : Subject) (k v c : ℕ) → 0 < k → (j ≡ Opaque 0xF8 → 32 ≤ c) → ArgumentLives j k v → ArgumentLives j (k - 1) (v * 256 + c)
lives_on Unsigned k v c some large h = tt
lives_on Negative k v c some large h = tt
lives_on (StringHead kind span) k v c some large h = tt
lives_on ListHead k v c some large h = tt
lives_on MapHead k v c some large h = tt
lives_on TagHead k v c some large h = tt
lives_on (Opaque b) k v c some large (inl h) = absurd (let f = h.0 in omega arith)
lives_on (Opaque b) k v c some large (inr (inl (is, one, none))) = let big = large (ap Opaque is) in
    inl (omega arith, inr (inl (omega arith, omega arith)))
lives_on (Opaque b) k v c some large (inr (inr high)) = inr (inr high)

pub argument_more : (r : Reader) (j : Subject) (k v c : ℕ) → IsAt r (InArgument j k v) → 0 < k → c < 256 → (j ≡ Opaque 0xF8 → 32 ≤ c)
    → IsAt r (InArgument j (k - 1) (v * 256 + c))
argument_more r j k v c there some small large = record {
  room = there.room;
  keeps = (lives_on j k v c some large there.keeps.0, byte_bound k v c some there.keeps.1 small, there.keeps.2);
}

pub argument_takes : (S T : StandsFor) (r q : Reader) (j : Subject) (k v c : ℕ) → 0 < k → c < 256
    → CborGoes S r [] (InArgument j (k - 1) (v * 256 + c)) [] T q → CborGoes S r [] (InArgument j k v) (c ∷ []) T q
argument_takes S T r q j k v c some small goes =
    goes_by S S T r r q (InArgument j k v) (InArgument j (k - 1) (v * 256 + c)) (c ∷ []) [] [] goes (takes_none S)
    (λ w limit high. argument_byte w limit j k v c r.held.items (levels_of r) some small)

pub argument_more_reached : (S : StandsFor) (r : Reader) (j : Subject) (k v c : ℕ) → 0 < k → c < 256
    → Reached S (cbor_state_at r (InArgument j k v)) → Reached S (cbor_state_at r (InArgument j (k - 1) (v * 256 + c)))
argument_more_reached S r j k v c some small reached =
    reached_by S (cbor_state_at r (InArgument j k v)) (cbor_state_at r (InArgument j (k - 1) (v * 256 + c))) (c ∷ []) reached
    (argument_byte plain most_levels j k v c r.held.items (levels_of r) some small)

-- a simple value's byte that is none
simple_is : (b k v : ℕ) → b ≡ 0xF8 → 0 < k → ArgumentLives (Opaque b) k v → (k ≡ 1) × (v ≡ 0)
simple_is b k v e some (inl h) = absurd (let f = h.0 in omega arith)
simple_is b k v e some (inr (inl h)) = (h.1, h.2)
simple_is b k v e some (inr (inr high)) = absurd (omega arith)

pub simple_bad : (r : Reader) (j : Subject) (k v c : ℕ) → IsAt r (InArgument j k v) → 0 < k → j ≡ Opaque 0xF8 → c < 32
    → IsBadByte (cbor_state_at r (InArgument j k v)) c
simple_bad r j k v c there some e small =
    let lives : ArgumentLives (Opaque 0xF8) k v = subst (λ x. ArgumentLives x k v) e there.keeps.0 in
    let (one, none) = simple_is 0xF8 k v refl some lives in
    subst (λ x. IsBadByte (cbor_state_at r (InArgument x k v)) c) (sym e)
    (subst (λ x. IsBadByte (cbor_state_at r (InArgument (Opaque 0xF8) x v)) c) (sym one)
    (subst (λ x. IsBadByte (cbor_state_at r (InArgument (Opaque 0xF8) 1 x)) c) (sym none) (record {
      stops = λ limit. simple_stops plain limit 0xF8 c r.held.items (levels_of r) (omega arith) small;
      no_key = inl (λ limit. argument_no_mark marked limit (Opaque 0xF8) 1 0 r.held.items (levels_of r) (omega arith));
    })))

-- the argument's sum fits a word
pub sum_fits : (r : Reader) (j : Subject) (k v c : ℕ) → IsAt r (InArgument j k v) → 0 < k → c < 256 → v * 256 + c < 2 ^ 64
sum_fits r j k v c there some small = let h = byte_bound k v c some there.keeps.1 small in let word = bound_word (k - 1) in omega arith

-- chunks
pub chunks_string : (r : Reader) (kind : StringKind) → IsAt r (Chunks kind) → IsAt r (String kind Whole 0 Between)
chunks_string r kind there = record {
  room = there.room;
  keeps = (omega arith, λ u h. kind_append kind r.held.items u there.keeps (ends_are kind u h));
}

pub break_goes : (S T : StandsFor) (r q : Reader) (kind : StringKind) (c : ℕ) → c ≡ 0xFF
    → CborGoes S r [] (String kind Whole 0 Between) [] T q → CborGoes S r [] (Chunks kind) (c ∷ []) T q
break_goes S T r q kind c is goes =
    goes_by S S T r r q (Chunks kind) (String kind Whole 0 Between) (c ∷ []) [] [] goes (takes_none S)
    (λ w limit high. break_leads w limit c kind r.held.items (levels_of r) is)

pub break_reached : (S : StandsFor) (r : Reader) (kind : StringKind) (c : ℕ) → c ≡ 0xFF → Reached S (cbor_state_at r (Chunks kind))
    → Reached S (cbor_state_at r (String kind Whole 0 Between))
break_reached S r kind c is reached =
    reached_by S (cbor_state_at r (Chunks kind)) (cbor_state_at r (String kind Whole 0 Between)) (c ∷ []) reached
    (break_leads plain most_levels c kind r.held.items (levels_of r) is)

pub chunk_begins : (S T : StandsFor) (r q : Reader) (kind : StringKind) (c k v : ℕ) → c / 32 ≡ major_of kind → StartsNumber (c % 32) k v
    → CborGoes S r [] (InArgument (StringHead kind Chunk) k v) [] T q → CborGoes S r [] (Chunks kind) (c ∷ []) T q
chunk_begins S T r q kind c k v is starts goes =
    goes_by S S T r r q (Chunks kind) (InArgument (StringHead kind Chunk) k v) (c ∷ []) [] [] goes (takes_none S)
    (λ w limit high. chunk_leads w limit c k v kind r.held.items (levels_of r) is starts)

pub chunk_reached : (S : StandsFor) (r : Reader) (kind : StringKind) (c k v : ℕ) → c / 32 ≡ major_of kind → StartsNumber (c % 32) k v
    → Reached S (cbor_state_at r (Chunks kind)) → Reached S (cbor_state_at r (InArgument (StringHead kind Chunk) k v))
chunk_reached S r kind c k v is starts reached =
    reached_by S (cbor_state_at r (Chunks kind)) (cbor_state_at r (InArgument (StringHead kind Chunk) k v)) (c ∷ []) reached
    (chunk_leads plain most_levels c k v kind r.held.items (levels_of r) is starts)

no_mark_chunk : (kind : StringKind) → 256 / 32 ≡ major_of kind → 28 ≤ 256 % 32
no_mark_chunk Bytes e = absurd (omega arith)
no_mark_chunk Text e = absurd (omega arith)
no_mark_chunk KeyText e = absurd (omega arith)

pub chunk_bad : (r : Reader) (kind : StringKind) (c : ℕ) → c ≢ 0xFF → (c / 32 ≡ major_of kind → 28 ≤ c % 32)
    → IsBadByte (cbor_state_at r (Chunks kind)) c
chunk_bad r kind c no_break no_head = record {
  stops = λ limit. chunks_stop plain limit c kind r.held.items (levels_of r) no_break no_head;
  no_key = inl (λ limit. chunks_stop marked limit mark kind r.held.items (levels_of r) (λ e. omega arith) (no_mark_chunk kind));
}

-- a break ends an array, or a map
pub list_break_may : (S : StandsFor) (r next : Reader) → IsAt r After → levels_of r ≡ AListToBreak ∷ levels_of next
    → Reached S (cbor_state_at r After) → MayTake S end_list
list_break_may S r next there e reached =
    let room = there.room in
    let len = ap length e in
    may_take S (cbor_state_at r After) (cbor_state_at next After) (255 ∷ []) end_list reached
    (from_levels plain most_levels r After (AListToBreak ∷ levels_of next) (255 ∷ []) (end_list ∷ []) (cbor_state_at next After) e
    (list_breaks plain most_levels 255 r.held.items next.held.items (levels_of next) (omega arith) refl))
    (can_after next (behind_level r next AListToBreak there e))

pub list_break_reached : (S T : StandsFor) (r next : Reader) → IsAt r After → levels_of r ≡ AListToBreak ∷ levels_of next
    → Reached S (cbor_state_at r After) → TakesOn S end_list T → Reached T (cbor_state_at next After)
list_break_reached S T r next there e reached taken =
    let room = there.room in
    let len = ap length e in
    reached_on S T (cbor_state_at r After) (cbor_state_at next After) (255 ∷ []) (end_list ∷ []) reached
    (from_levels plain most_levels r After (AListToBreak ∷ levels_of next) (255 ∷ []) (end_list ∷ []) (cbor_state_at next After) e
    (list_breaks plain most_levels 255 r.held.items next.held.items (levels_of next) (omega arith) refl))
    (can_after next (behind_level r next AListToBreak there e)) taken

pub list_break_goes : (S M T : StandsFor) (r next q : Reader) → IsAt r After → levels_of r ≡ AListToBreak ∷ levels_of next
    → TakesOn S end_list M → CborGoes M next [] After [] T q → CborGoes S r [] After (255 ∷ []) T q
list_break_goes S M T r next q there e taken goes =
    let room = there.room in
    let len = ap length e in
    goes_by S M T r next q After After (255 ∷ []) [] (end_list ∷ []) goes taken
    (λ w limit high. from_levels w limit r After (AListToBreak ∷ levels_of next) (255 ∷ []) (end_list ∷ []) (cbor_state_at next After) e
    (list_breaks w limit 255 r.held.items next.held.items (levels_of next) (omega arith) refl))

pub map_break_may : (S : StandsFor) (r next : Reader) → IsAt r After → levels_of r ≡ AMapToBreak ∷ levels_of next
    → Reached S (cbor_state_at r After) → MayTake S end_object
map_break_may S r next there e reached =
    let room = there.room in
    let len = ap length e in
    may_take S (cbor_state_at r After) (cbor_state_at next After) (255 ∷ []) end_object reached
    (from_levels plain most_levels r After (AMapToBreak ∷ levels_of next) (255 ∷ []) (end_object ∷ []) (cbor_state_at next After) e
    (map_breaks plain most_levels 255 r.held.items next.held.items (levels_of next) (omega arith) refl))
    (can_after next (behind_level r next AMapToBreak there e))

pub map_break_reached : (S T : StandsFor) (r next : Reader) → IsAt r After → levels_of r ≡ AMapToBreak ∷ levels_of next
    → Reached S (cbor_state_at r After) → TakesOn S end_object T → Reached T (cbor_state_at next After)
map_break_reached S T r next there e reached taken =
    let room = there.room in
    let len = ap length e in
    reached_on S T (cbor_state_at r After) (cbor_state_at next After) (255 ∷ []) (end_object ∷ []) reached
    (from_levels plain most_levels r After (AMapToBreak ∷ levels_of next) (255 ∷ []) (end_object ∷ []) (cbor_state_at next After) e
    (map_breaks plain most_levels 255 r.held.items next.held.items (levels_of next) (omega arith) refl))
    (can_after next (behind_level r next AMapToBreak there e)) taken

pub map_break_goes : (S M T : StandsFor) (r next q : Reader) → IsAt r After → levels_of r ≡ AMapToBreak ∷ levels_of next
    → TakesOn S end_object M → CborGoes M next [] After [] T q → CborGoes S r [] After (255 ∷ []) T q
map_break_goes S M T r next q there e taken goes =
    let room = there.room in
    let len = ap length e in
    goes_by S M T r next q After After (255 ∷ []) [] (end_object ∷ []) goes taken
    (λ w limit high. from_levels w limit r After (AMapToBreak ∷ levels_of next) (255 ∷ []) (end_object ∷ []) (cbor_state_at next After) e
    (map_breaks w limit 255 r.held.items next.held.items (levels_of next) (omega arith) refl))

-- the level that is left is the innermost
pub innermost_left : (before behind : List Level) (o : Option Level) (l : Level) → LosesInnermost before behind o → IsFirstLevel l before
    → before ≡ l ∷ behind
innermost_left before behind None l (none, same) first =
    absurd (let f : innermost_of [] ≡ Some l = sym (ap (λ ls. innermost_of ls) none) ∙ first in cc)
innermost_left before behind (Some m) l is first =
    let same : Some m ≡ Some l = sym (ap (λ ls. innermost_of ls) is) ∙ first in
    is ∙ ap (λ x. x ∷ behind) (let f : m ≡ l = cc in f)
