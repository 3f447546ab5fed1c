-- What a byte does behind a bracket, a brace, a comma, a name and a value: the laws of `JsonLeads` and `JsonStops` at
-- these places.
use Rattle.std.proofs.Common.{◌≡◌, ◌≢◌, ℕ, ◌≤◌, inr, true, false, max, List, [], ◌∷◌, ◌++◌, refl, sym, ap, subst, ◌∙◌, arith, lit<, length}
use Rattle.sm_tree.specs.Node.{Node, null, bool, int, number, text, bytes, tag, opaque, list, object, no_nodes, node, no_members, member}
use Rattle.sm_tree.specs.Levels.{levels, nodes_levels, members_levels}
use Rattle.sm_tree.specs.Events.{NodeEvent, end_list, end_object}
use Rattle.sm_tree.specs.Timing.{TimedEvent, by_byte}
use Rattle.sm_tree.specs.declared.build.OpenKind.{OpenKind}
use Rattle.sm_tree.specs.declared.build.OpenKind.TheVariants.{List as a_list, Object as an_object}
use Rattle.sm_json.specs.Strings.{is_whitespace, Whitespace}
use Rattle.sm_json.specs.Timing.{ValueTimed}
use Rattle.sm_json.specs.steps.Rest.{value, first_entry, first_key, next_key, colon, after, in_text, JsonState, JsonEnds, ValueComes}
use Rattle.sm_json.specs.steps.Rest.{NameNow, NameComes, FirstEntryComes, FirstKeyComes, JsonLeads, JsonStops}
use Rattle.sm_json.specs.declared.spot.Spot.TheVariants.{Plain}
use Rattle.sm_json.specs.declared.place.Role.TheVariants.{Key}
use Rattle.sm_json.proofs.Starts.{below, above, heads, tails, skips_none, skips_here, FirstByte}
use Rattle.sm_json.proofs.Timed.{timed_first}
use Rattle.sm_json.proofs.Whole.{silent_leads, spoken_leads}
use Rattle.sm_json.proofs.Opening.{at, digit_is_not}
use Rattle.sm_json.proofs.Leaves.{text_onward, text_back}

-- whitespace, or none, before a byte that isn't white: none
pub here_is : (c d : ℕ) (s r : List ℕ) → is_whitespace c ≡ false → Whitespace (c ∷ s) (d ∷ r) → c ≡ d
here_is c d s r w k = sym (heads d c r s (skips_here c s (d ∷ r) w k))

pub here_rest : (c d : ℕ) (s r : List ℕ) → is_whitespace c ≡ false → Whitespace (c ∷ s) (d ∷ r) → r ≡ s
here_rest c d s r w k = tails d c r s (skips_here c s (d ∷ r) w k)

-- an end whose bracket or brace stands before s
pub ended : (limit : ℕ) (ks : List OpenKind) (s : List ℕ) (ts : List TimedEvent) (r : List ℕ) (us : List TimedEvent) (e : NodeEvent)
    → r ≡ s → ts ≡ by_byte e (length r) ∷ us → JsonEnds limit ks r us
    → (vs : List TimedEvent) × (ts ≡ by_byte e (length s) ∷ vs) × JsonEnds limit ks s vs
ended limit ks s ts r us e same timed en =
    (us, timed ∙ ap (λ x. by_byte e (length x) ∷ us) same, subst (λ x. JsonEnds limit ks x us) same en)

-- a colon
pub colon_leads : (limit : ℕ) (ks : List OpenKind) → JsonLeads limit (at colon ks) (58 ∷ []) [] (at value ks)
colon_leads limit ks =
    silent_leads limit (at colon ks) (58 ∷ []) (at value ks)
    (λ s ts (s1, k, h). subst (λ x. ValueComes limit ks x ts) (here_rest 58 58 s s1 refl k) h)
    (λ s ts h. (s, skips_none (58 ∷ s), h))

pub colon_stops : (limit : ℕ) (c : ℕ) (ks : List OpenKind) → is_whitespace c ≡ false → c ≢ 58 → JsonStops limit (at colon ks) c
colon_stops limit c ks w f s ts (s1, k, h) = f (here_is c 58 s s1 w k)

-- the quotation mark of a name
pub key_here : (limit : ℕ) (ks : List OpenKind) (c : ℕ) (s : List ℕ) (ts : List TimedEvent) → is_whitespace c ≡ false
    → NameComes limit ks (c ∷ s) ts → NameNow limit ks (c ∷ s) ts
key_here limit ks c s ts w (t, k, h) = subst (λ x. NameNow limit ks x ts) (skips_here c s t w k) h

pub key_leads : (limit : ℕ) (ks : List OpenKind) → JsonLeads limit (at next_key ks) (34 ∷ []) [] (at (in_text Key Plain []) ks)
key_leads limit ks =
    silent_leads limit (at next_key ks) (34 ∷ []) (at (in_text Key Plain []) ks)
    (λ s ts h. let (t, r, us, sp, co, timed) = key_here limit ks 34 s ts refl h in (t, r, us, text_onward t s r sp, co, timed))
    (λ s ts (t, r, us, tr, co, timed). (34 ∷ s, skips_none (34 ∷ s), (t, r, us, text_back t s r tr, co, timed)))

pub key_stops : (limit : ℕ) (c : ℕ) (ks : List OpenKind) → is_whitespace c ≡ false → c ≢ 34 → JsonStops limit (at next_key ks) c
key_stops limit c ks w f s ts h =
    let (t, r, us, (cs, s1, e1, e2, x), co, timed) = key_here limit ks c s ts w h in f (heads c 34 s s1 e2)

-- behind a brace: a name, or the end
pub first_key_onward : (limit : ℕ) (c : ℕ) (ks : List OpenKind) (s : List ℕ) (ts : List TimedEvent) → is_whitespace c ≡ false → c ≢ 125
    → FirstKeyComes limit (an_object ∷ ks) (c ∷ s) ts → NameComes limit (an_object ∷ ks) (c ∷ s) ts
first_key_onward limit c ks s ts w f (no_members, r, us, (k, timed), room, en) = absurd (f (here_is c 125 s r w k))
first_key_onward limit c ks s ts w f (member name n ms, r, us, (s1, s2, s3, s4, vs, ws, k, sp, timed, (x, k1, k2), v, m), room, en) =
    let below : levels n ≤ max (levels n) (members_levels ms) = omega arith in
    let rest : members_levels ms ≤ max (levels n) (members_levels ms) = omega arith in
    (s1, k, (name, s2, vs, sp, (x, k1, (s3, k2, (n, s4, ws, v, omega arith, (ms, r, us, m, omega arith, en)))), timed))

pub first_key_back : (limit : ℕ) (ks : List OpenKind) (s : List ℕ) (ts : List TimedEvent) → NameComes limit (an_object ∷ ks) s ts
    → FirstKeyComes limit (an_object ∷ ks) s ts
first_key_back limit ks s ts (s1, k, (name, s2, vs, sp, (x, k1, (s3, k2, (n, s4, ws, v, room, (ms, r, us, m, room1, en)))), timed)) =
    (member name n ms, r, us, (s1, s2, s3, s4, vs, ws, k, sp, timed, (x, k1, k2), v, m), omega arith, en)

-- what a byte does behind a brace, if it does so where a name must come
pub first_key_leads : (limit : ℕ) (c : ℕ) (ks : List OpenKind) (out : List NodeEvent) (x : JsonState) → is_whitespace c ≡ false → c ≢ 125
    → JsonLeads limit (at next_key (an_object ∷ ks)) (c ∷ []) out x → JsonLeads limit (at first_key (an_object ∷ ks)) (c ∷ []) out x
first_key_leads limit c ks out x w f h = record {
  onward = λ s ts g. h.onward s ts (first_key_onward limit c ks s ts w f g);
  back = λ s us g. let (os, hands, rest) = h.back s us g in (os, hands, first_key_back limit ks (c ∷ s) (os ++ us) rest);
}

pub first_key_stops : (limit : ℕ) (c : ℕ) (ks : List OpenKind) → is_whitespace c ≡ false → c ≢ 125
    → JsonStops limit (at next_key (an_object ∷ ks)) c → JsonStops limit (at first_key (an_object ∷ ks)) c
first_key_stops limit c ks w f h s ts g = h s ts (first_key_onward limit c ks s ts w f g)

no_keys : (limit : ℕ) (ks : List OpenKind) (s : List ℕ) (ts : List TimedEvent) → FirstKeyComes limit (an_object ∷ ks) (125 ∷ s) ts
    → (us : List TimedEvent) × (ts ≡ by_byte end_object (length s) ∷ us) × JsonEnds limit ks s us
no_keys limit ks s ts (no_members, r, us, (k, timed), room, en) = ended limit ks s ts r us end_object
    (here_rest 125 125 s r refl k) timed en
no_keys limit ks s ts (member name n ms, r, us, (s1, s2, s3, s4, vs, ws, k, (cs, u, e1, e2, x), timed, sep, v, m), room, en) =
    absurd (above 125 34 (lit< tt) (heads 125 34 s u (sym (skips_here 125 s s1 refl k) ∙ e2)))

pub object_empty : (limit : ℕ) (ks : List OpenKind) → length (an_object ∷ ks) ≤ limit
    → JsonLeads limit (at first_key (an_object ∷ ks)) (125 ∷ []) (end_object ∷ []) (at after ks)
object_empty limit ks room =
    spoken_leads limit (at first_key (an_object ∷ ks)) (125 ∷ []) end_object (at after ks)
    (λ s ts h. no_keys limit ks s ts h)
    (λ s us h. (no_members, s, us, (skips_none (125 ∷ s), refl), omega arith, h))

-- behind a bracket: an entry, or the end
pub first_entry_onward : (limit : ℕ) (c : ℕ) (ks : List OpenKind) (s : List ℕ) (ts : List TimedEvent) → is_whitespace c ≡ false → c ≢ 93
    → FirstEntryComes limit (a_list ∷ ks) (c ∷ s) ts → ValueComes limit (a_list ∷ ks) (c ∷ s) ts
first_entry_onward limit c ks s ts w f (no_nodes, r, us, (k, timed), room, en) = absurd (f (here_is c 93 s r w k))
first_entry_onward limit c ks s ts w f (node n ns, r, us, (s1, s2, vs, k, v, m), room, en) =
    let below : levels n ≤ max (levels n) (nodes_levels ns) = omega arith in
    let rest : nodes_levels ns ≤ max (levels n) (nodes_levels ns) = omega arith in
    (s1, k, (n, s2, vs, v, omega arith, (ns, r, us, m, omega arith, en)))

pub first_entry_back : (limit : ℕ) (ks : List OpenKind) (s : List ℕ) (ts : List TimedEvent) → ValueComes limit (a_list ∷ ks) s ts
    → FirstEntryComes limit (a_list ∷ ks) s ts
first_entry_back limit ks s ts (s1, k, (n, s2, vs, v, room, (ns, r, us, m, room1, en))) =
    (node n ns, r, us, (s1, s2, vs, k, v, m), omega arith, en)

pub first_entry_leads : (limit : ℕ) (c : ℕ) (ks : List OpenKind) (out : List NodeEvent) (x : JsonState) → is_whitespace c ≡ false → c ≢ 93
    → JsonLeads limit (at value (a_list ∷ ks)) (c ∷ []) out x → JsonLeads limit (at first_entry (a_list ∷ ks)) (c ∷ []) out x
first_entry_leads limit c ks out x w f h = record {
  onward = λ s ts g. h.onward s ts (first_entry_onward limit c ks s ts w f g);
  back = λ s us g. let (os, hands, rest) = h.back s us g in (os, hands, first_entry_back limit ks (c ∷ s) (os ++ us) rest);
}

pub first_entry_stops : (limit : ℕ) (c : ℕ) (ks : List OpenKind) → is_whitespace c ≡ false → c ≢ 93
    → JsonStops limit (at value (a_list ∷ ks)) c → JsonStops limit (at first_entry (a_list ∷ ks)) c
first_entry_stops limit c ks w f h s ts g = h s ts (first_entry_onward limit c ks s ts w f g)

pub bracket_begins_nothing : (n : Node) → FirstByte n 93 → ⊥
bracket_begins_nothing null e = below 93 110 (lit< tt) e
bracket_begins_nothing (bool true) e = below 93 116 (lit< tt) e
bracket_begins_nothing (bool false) e = below 93 102 (lit< tt) e
bracket_begins_nothing (int z) h = digit_is_not 93 93 h refl (inr (omega arith))
bracket_begins_nothing (number t) h = digit_is_not 93 93 h refl (inr (omega arith))
bracket_begins_nothing (text t) e = above 93 34 (lit< tt) e
bracket_begins_nothing (bytes t) h = h
bracket_begins_nothing (tag k n) h = h
bracket_begins_nothing (opaque b) h = h
bracket_begins_nothing (list ns) e = above 93 91 (lit< tt) e
bracket_begins_nothing (object ms) e = below 93 123 (lit< tt) e

no_entries : (limit : ℕ) (ks : List OpenKind) (s : List ℕ) (ts : List TimedEvent) → FirstEntryComes limit (a_list ∷ ks) (93 ∷ s) ts
    → (us : List TimedEvent) × (ts ≡ by_byte end_list (length s) ∷ us) × JsonEnds limit ks s us
no_entries limit ks s ts (no_nodes, r, us, (k, timed), room, en) = ended limit ks s ts r us end_list (here_rest 93 93 s r refl k) timed en
no_entries limit ks s ts (node n ns, r, us, (s1, s2, vs, k, v, m), room, en) =
    absurd (bracket_begins_nothing n (timed_first n 93 s s2 ts vs (subst (λ x. ValueTimed n x s2 ts vs) (skips_here 93 s s1 refl k) v)))

pub list_empty : (limit : ℕ) (ks : List OpenKind) → length (a_list ∷ ks) ≤ limit
    → JsonLeads limit (at first_entry (a_list ∷ ks)) (93 ∷ []) (end_list ∷ []) (at after ks)
list_empty limit ks room =
    spoken_leads limit (at first_entry (a_list ∷ ks)) (93 ∷ []) end_list (at after ks)
    (λ s ts h. no_entries limit ks s ts h)
    (λ s us h. (no_nodes, s, us, (skips_none (93 ∷ s), refl), omega arith, h))
