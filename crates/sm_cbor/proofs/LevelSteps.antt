-- What stands behind an item: what ends with it, and the next entry or key. And breaks.
use Rattle.std.proofs.Common.{◌≡◌, ◌≢◌, ℕ, suc, ◌-◌, ◌≤◌, ◌<◌, ◌⊎◌, inl, inr, List, [], ◌∷◌, ◌++◌, refl, sym, ap, subst, ◌∙◌, arith, length}
use Rattle.sm_tree.specs.Node.{no_nodes, node, no_members, member}
use Rattle.sm_tree.specs.Events.{NodeEvent, end_list, end_object}
use Rattle.sm_tree.specs.Timing.{TimedEvent, by_byte}
use Rattle.sm_cbor.specs.Timing.{CountedEntriesTimed, CountedPairsTimed}
use Rattle.sm_cbor.specs.steps.Marks.{Keys, plain, marked, key_of}
use Rattle.sm_cbor.specs.steps.Reading.{HeadIs}
use Rattle.sm_cbor.specs.steps.Rest.{CborState, CborEnds, ItemComes, CborKeyComes, CborLeads, CborStops}
use Rattle.sm_cbor.specs.declared.head.Head.TheVariants.{NoItem}
use Rattle.sm_cbor.specs.declared.place.Level.{Level}
use Rattle.sm_cbor.specs.declared.place.Level.TheVariants.{Tag, List as AList, ListToBreak as AListToBreak, Map as AMap}
use Rattle.sm_cbor.specs.declared.place.Level.TheVariants.{MapToBreak as AMapToBreak}
use Rattle.sm_cbor.specs.declared.place.CborPlace.TheVariants.{Item, Key, After}
use Rattle.sm_cbor.proofs.Items.{at, item_stops}
use Rattle.sm_cbor.proofs.Readings.{leads_silent, leads_one}

-- a tag ends with its content
pub tag_ends : (w : Keys) (limit : ℕ) (t u : List ℕ) (ls : List Level) → CborLeads w limit (at After t (Tag ∷ ls)) [] [] (at After u ls)
tag_ends w limit t u ls = leads_silent (λ s es h. h) (λ s fs h. h)

-- an array whose entries have all come
list_closed : (w : Keys) (limit : ℕ) (ls : List Level) (s : List ℕ) (es : List TimedEvent) → CborEnds w limit (AList 0 ∷ ls) s es
    → (fs : List TimedEvent) × CborEnds w limit ls s fs × (es ≡ by_byte end_list (length s) ∷ fs)
list_closed w limit ls s es (no_nodes, r, fs, (none, same, e), room, en) =
    (fs, subst (λ x. CborEnds w limit ls x fs) (sym same) en, e ∙ ap (λ x. by_byte end_list (length x) ∷ fs) (sym same))
list_closed w limit ls s es (node x xs, r, fs, h, room, en) = absurd (let f = h.1 in omega arith)

pub list_ends : (w : Keys) (limit : ℕ) (t u : List ℕ) (ls : List Level) → suc (length ls) ≤ limit
    → CborLeads w limit (at After t (AList 0 ∷ ls)) [] (end_list ∷ []) (at After u ls)
list_ends w limit t u ls room = leads_one end_list (λ s es h. list_closed w limit ls s es h)
    (λ s fs h. (no_nodes, s, fs, (refl, refl, refl), omega arith, h))

-- a map whose pairs have all come
map_closed : (w : Keys) (limit : ℕ) (ls : List Level) (s : List ℕ) (es : List TimedEvent) → CborEnds w limit (AMap 0 ∷ ls) s es
    → (fs : List TimedEvent) × CborEnds w limit ls s fs × (es ≡ by_byte end_object (length s) ∷ fs)
map_closed w limit ls s es (no_members, r, fs, (none, same, e), room, en) =
    (fs, subst (λ x. CborEnds w limit ls x fs) (sym same) en, e ∙ ap (λ x. by_byte end_object (length x) ∷ fs) (sym same))
map_closed w limit ls s es (member k x xs, r, fs, h, room, en) = absurd (let f = h.1 in omega arith)

pub map_ends : (w : Keys) (limit : ℕ) (t u : List ℕ) (ls : List Level) → suc (length ls) ≤ limit
    → CborLeads w limit (at After t (AMap 0 ∷ ls)) [] (end_object ∷ []) (at After u ls)
map_ends w limit t u ls room = leads_one end_object (λ s es h. map_closed w limit ls s es h)
    (λ s fs h. (no_members, s, fs, (refl, refl, refl), omega arith, h))

-- the next of more entries
entry_onward : (w : Keys) (limit n : ℕ) (ls : List Level) (s : List ℕ) (es : List TimedEvent) → 0 < n → CborEnds w limit (AList n ∷ ls) s es
    → ItemComes w limit (AList (n - 1) ∷ ls) s es
entry_onward w limit n ls s es some (no_nodes, r, fs, h, room, en) = absurd (let f = h.0 in omega arith)
entry_onward w limit n ls s es some (node x xs, r, fs, (m, is, s1, vs, item, more), room, en) =
    let less : m ≡ n - 1 = omega arith in
    (x, s1, vs, item, omega arith, (xs, r, fs, subst (λ k. CountedEntriesTimed (key_of w) k xs s1 r vs fs) less more, omega arith, en))

entry_back : (w : Keys) (limit n : ℕ) (ls : List Level) (s : List ℕ) (es : List TimedEvent) → 0 < n
    → ItemComes w limit (AList (n - 1) ∷ ls) s es → CborEnds w limit (AList n ∷ ls) s es
entry_back w limit n ls s es some (x, s1, vs, item, room, (xs, r, fs, more, deep, en)) =
    (node x xs, r, fs, (n - 1, omega arith, s1, vs, item, more), omega arith, en)

pub entry_leads : (w : Keys) (limit n : ℕ) (t u : List ℕ) (ls : List Level) → 0 < n
    → CborLeads w limit (at After t (AList n ∷ ls)) [] [] (at Item u (AList (n - 1) ∷ ls))
entry_leads w limit n t u ls some = leads_silent (λ s es h. entry_onward w limit n ls s es some h)
    (λ s fs h. entry_back w limit n ls s fs some h)

-- the next of more pairs
pair_onward : (w : Keys) (limit n : ℕ) (ls : List Level) (s : List ℕ) (es : List TimedEvent) → 0 < n → CborEnds w limit (AMap n ∷ ls) s es
    → CborKeyComes w limit (AMap (n - 1) ∷ ls) s es
pair_onward w limit n ls s es some (no_members, r, fs, h, room, en) = absurd (let f = h.0 in omega arith)
pair_onward w limit n ls s es some (member k x xs, r, fs, (m, is, s1, s2, vs, ws, key, e, item, more), room, en) =
    let less : m ≡ n - 1 = omega arith in (
      k,
      s1,
      vs,
      key,
      (x, s2, ws, item, omega arith, (xs, r, fs, subst (λ j. CountedPairsTimed (key_of w) j xs s2 r ws fs) less more, omega arith, en)),
      e,
    )

pair_back : (w : Keys) (limit n : ℕ) (ls : List Level) (s : List ℕ) (es : List TimedEvent) → 0 < n
    → CborKeyComes w limit (AMap (n - 1) ∷ ls) s es → CborEnds w limit (AMap n ∷ ls) s es
pair_back w limit n ls s es some (k, s1, vs, key, (x, s2, ws, item, room, (xs, r, fs, more, deep, en)), e) =
    (member k x xs, r, fs, (n - 1, omega arith, s1, s2, vs, ws, key, e, item, more), omega arith, en)

pub pair_leads : (w : Keys) (limit n : ℕ) (t u : List ℕ) (ls : List Level) → 0 < n
    → CborLeads w limit (at After t (AMap n ∷ ls)) [] [] (at Key u (AMap (n - 1) ∷ ls))
pair_leads w limit n t u ls some = leads_silent (λ s es h. pair_onward w limit n ls s es some h)
    (λ s fs h. pair_back w limit n ls s fs some h)

-- up to a break: another entry, or the break
pub more_entries : (w : Keys) (limit c : ℕ) (ls : List Level) (s : List ℕ) (es : List TimedEvent)
    → CborEnds w limit (AListToBreak ∷ ls) (c ∷ s) es
    → ((c ≡ 0xFF) × (fs : List TimedEvent) × CborEnds w limit ls s fs × (es ≡ by_byte end_list (length s) ∷ fs))
    ⊎ ItemComes w limit (AListToBreak ∷ ls) (c ∷ s) es
more_entries w limit c ls s es (no_nodes, r, fs, (h, e), room, en) =
    inl (h.0, fs, subst (λ x. CborEnds w limit ls x fs) (sym h.1) en, e ∙ ap (λ x. by_byte end_list (length x) ∷ fs) (sym h.1))
more_entries w limit c ls s es (node x xs, r, fs, (s1, vs, item, more), room, en) =
    inr (x, s1, vs, item, omega arith, (xs, r, fs, more, omega arith, en))

pub entry_comes : (w : Keys) (limit : ℕ) (ls : List Level) (s : List ℕ) (es : List TimedEvent) → ItemComes w limit (AListToBreak ∷ ls) s es
    → CborEnds w limit (AListToBreak ∷ ls) s es
entry_comes w limit ls s es (x, s1, vs, item, room, (xs, r, fs, more, deep, en)) =
    (node x xs, r, fs, (s1, vs, item, more), omega arith, en)

pub only_entry : (w : Keys) (limit c : ℕ) (ls : List Level) (s : List ℕ) (es : List TimedEvent) → c ≢ 0xFF
    → CborEnds w limit (AListToBreak ∷ ls) (c ∷ s) es → ItemComes w limit (AListToBreak ∷ ls) (c ∷ s) es
only_entry w limit c ls s es other h = elim (more_entries w limit c ls s es h) [ inl b ↦ absurd (other b.0) | inr item ↦ item ]

pub break_is_no_item : HeadIs 0xFF NoItem
break_is_no_item = (omega arith, (λ e. omega arith), (λ e. omega arith), (λ e. omega arith), (λ e. omega arith))

only_list_break : (w : Keys) (limit c : ℕ) (ls : List Level) (s : List ℕ) (es : List TimedEvent) → c ≡ 0xFF
    → CborEnds w limit (AListToBreak ∷ ls) (c ∷ s) es → (fs : List TimedEvent) × CborEnds w limit ls s fs
    × (es ≡ by_byte end_list (length s) ∷ fs)
only_list_break w limit c ls s es is h = elim (more_entries w limit c ls s es h) [
  | inl b ↦ (b.1, b.2, b.3)
  | inr item ↦ absurd (item_stops w limit 0xFF [] (AListToBreak ∷ ls) break_is_no_item s es
      (subst (λ x. ItemComes w limit (AListToBreak ∷ ls) (x ∷ s) es) is item))
]

pub list_breaks : (w : Keys) (limit c : ℕ) (t u : List ℕ) (ls : List Level) → suc (length ls) ≤ limit → c ≡ 0xFF
    → CborLeads w limit (at After t (AListToBreak ∷ ls)) (c ∷ []) (end_list ∷ []) (at After u ls)
list_breaks w limit c t u ls room is = leads_one end_list (λ s es h. only_list_break w limit c ls s es is h)
    (λ s fs h. (no_nodes, s, fs, ((is, refl), refl), omega arith, h))

pub entry_goes_on : (w : Keys) (limit c : ℕ) (t : List ℕ) (ls : List Level) (out : List NodeEvent) (x : CborState) → c ≢ 0xFF
    → CborLeads w limit (at Item t (AListToBreak ∷ ls)) (c ∷ []) out x → CborLeads w limit (at After t (AListToBreak ∷ ls)) (c ∷ []) out x
entry_goes_on w limit c t ls out x other leads = record {
  onward = λ s es h. leads.onward s es (only_entry w limit c ls s es other h);
  back = λ s fs h. let (os, hands, rest) = leads.back s fs h in (os, hands, entry_comes w limit ls (c ∷ s) (os ++ fs) rest);
}

-- up to a break: another pair, or the break
pub more_pairs : (w : Keys) (limit c : ℕ) (ls : List Level) (s : List ℕ) (es : List TimedEvent)
    → CborEnds w limit (AMapToBreak ∷ ls) (c ∷ s) es
    → ((c ≡ 0xFF) × (fs : List TimedEvent) × CborEnds w limit ls s fs × (es ≡ by_byte end_object (length s) ∷ fs))
    ⊎ CborKeyComes w limit (AMapToBreak ∷ ls) (c ∷ s) es
more_pairs w limit c ls s es (no_members, r, fs, (h, e), room, en) =
    inl (h.0, fs, subst (λ x. CborEnds w limit ls x fs) (sym h.1) en, e ∙ ap (λ x. by_byte end_object (length x) ∷ fs) (sym h.1))
more_pairs w limit c ls s es (member k x xs, r, fs, (s1, s2, vs, ws, key, e, item, more), room, en) =
    inr (k, s1, vs, key, (x, s2, ws, item, omega arith, (xs, r, fs, more, omega arith, en)), e)

pub pair_comes : (w : Keys) (limit : ℕ) (ls : List Level) (s : List ℕ) (es : List TimedEvent) → CborKeyComes w limit (AMapToBreak ∷ ls) s es
    → CborEnds w limit (AMapToBreak ∷ ls) s es
pair_comes w limit ls s es (k, s1, vs, key, (x, s2, ws, item, room, (xs, r, fs, more, deep, en)), e) =
    (member k x xs, r, fs, (s1, s2, vs, ws, key, e, item, more), omega arith, en)

pub only_pair : (w : Keys) (limit c : ℕ) (ls : List Level) (s : List ℕ) (es : List TimedEvent) → c ≢ 0xFF
    → CborEnds w limit (AMapToBreak ∷ ls) (c ∷ s) es → CborKeyComes w limit (AMapToBreak ∷ ls) (c ∷ s) es
only_pair w limit c ls s es other h = elim (more_pairs w limit c ls s es h) [ inl b ↦ absurd (other b.0) | inr key ↦ key ]

pub no_break_key : (w : Keys) (limit c : ℕ) (ls : List Level) (s : List ℕ) (es : List TimedEvent) → c ≡ 0xFF
    → CborKeyComes w limit ls (c ∷ s) es
    → ⊥
no_break_key plain limit c ls s es is (u, s1, fs, inl (s0, head, split, utf8), item, e) = let f = head.0 in omega arith
no_break_key plain limit c ls s es is (u, s1, fs, inr (s0, us, first, chunks, joined), item, e) = let f = first.0 in omega arith
no_break_key marked limit c ls s es is (u, s1, fs, inl (inl (s0, head, split, utf8)), item, e) = let f = head.0 in omega arith
no_break_key marked limit c ls s es is (u, s1, fs, inl (inr (s0, us, first, chunks, joined)), item, e) = let f = first.0 in omega arith
no_break_key marked limit c ls s es is (u, s1, fs, inr h, item, e) = let f = h.0.0 in omega arith

only_map_break : (w : Keys) (limit c : ℕ) (ls : List Level) (s : List ℕ) (es : List TimedEvent) → c ≡ 0xFF
    → CborEnds w limit (AMapToBreak ∷ ls) (c ∷ s) es → (fs : List TimedEvent) × CborEnds w limit ls s fs
    × (es ≡ by_byte end_object (length s) ∷ fs)
only_map_break w limit c ls s es is h = elim (more_pairs w limit c ls s es h)
    [ inl b ↦ (b.1, b.2, b.3) | inr key ↦ absurd (no_break_key w limit c (AMapToBreak ∷ ls) s es is key) ]

pub map_breaks : (w : Keys) (limit c : ℕ) (t u : List ℕ) (ls : List Level) → suc (length ls) ≤ limit → c ≡ 0xFF
    → CborLeads w limit (at After t (AMapToBreak ∷ ls)) (c ∷ []) (end_object ∷ []) (at After u ls)
map_breaks w limit c t u ls room is = leads_one end_object (λ s es h. only_map_break w limit c ls s es is h)
    (λ s fs h. (no_members, s, fs, ((is, refl), refl), omega arith, h))

pub pair_goes_on : (w : Keys) (limit c : ℕ) (t : List ℕ) (ls : List Level) (out : List NodeEvent) (x : CborState) → c ≢ 0xFF
    → CborLeads w limit (at Key t (AMapToBreak ∷ ls)) (c ∷ []) out x → CborLeads w limit (at After t (AMapToBreak ∷ ls)) (c ∷ []) out x
pair_goes_on w limit c t ls out x other leads = record {
  onward = λ s es h. leads.onward s es (only_pair w limit c ls s es other h);
  back = λ s fs h. let (os, hands, rest) = leads.back s fs h in (os, hands, pair_comes w limit ls (c ∷ s) (os ++ fs) rest);
}

-- nothing behind the whole
pub done_stops : (w : Keys) (limit c : ℕ) (t : List ℕ) → CborStops w limit (at After t []) c
done_stops w limit c t s es (e, none) = let f : c ∷ s ≡ [] = e in cc
