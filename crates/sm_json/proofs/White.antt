-- Whitespace changes nothing where a token may come: the laws of `JsonLeads` for a white byte.
use Rattle.std.proofs.Common.{◌≡◌, ℕ, inl, inr, true, false, List, [], ◌∷◌, refl, sym, subst, arith, take}
use Rattle.std.proofs.lemmas.Bool.Decides.{nat_tests}
use Rattle.sm_tree.specs.Node.{Node, Nodes, Members, null, bool, int, number, text, bytes, tag, opaque, list, object, no_nodes, node}
use Rattle.sm_tree.specs.Node.{no_members, member}
use Rattle.sm_tree.specs.Timing.{TimedEvent}
use Rattle.sm_tree.specs.declared.build.OpenKind.{OpenKind}
use Rattle.sm_tree.specs.declared.build.OpenKind.TheVariants.{List as a_list, Object as an_object}
use Rattle.sm_json.specs.Strings.{is_whitespace, Whitespace, SpellsText}
use Rattle.sm_json.specs.Timing.{ValueTimed, EntriesTimed, MoreEntriesTimed, PairsTimed, MorePairsTimed}
use Rattle.sm_json.specs.steps.Rest.{Where, value, first_entry, first_key, next_key, colon, after, word, numeral, in_text, JsonState}
use Rattle.sm_json.specs.steps.Rest.{JsonEnds, ValueComes, ColonComes, NameComes, FirstEntryComes, FirstKeyComes, JsonRestAt, JsonLeads}
use Rattle.std.specs.List.{prefix_len}
use Rattle.sm_bytes.proofs.Runs.{of_run}
use Rattle.sm_json.specs.steps.Machine.{AllWhitespace, TakesWhitespace}
use Rattle.sm_json.proofs.Starts.{skips_past, StartsNumber, FirstByte, spells_start}
use Rattle.sm_json.proofs.Timed.{value_spelt}
use Rattle.sm_json.proofs.Whole.{silent_leads, leads_none, leads_joined}

number_not_white : (c : ℕ) → StartsNumber c → is_whitespace c ≡ false
number_not_white c (inl (low, high)) = grind (arith, nat_tests)
number_not_white c (inr e) = subst (λ x. is_whitespace x ≡ false) (sym e) refl

pub first_not_white : (n : Node) (c : ℕ) → FirstByte n c → is_whitespace c ≡ false
first_not_white null c e = subst (λ x. is_whitespace x ≡ false) (sym e) refl
first_not_white (bool true) c e = subst (λ x. is_whitespace x ≡ false) (sym e) refl
first_not_white (bool false) c e = subst (λ x. is_whitespace x ≡ false) (sym e) refl
first_not_white (int z) c h = number_not_white c h
first_not_white (number t) c h = number_not_white c h
first_not_white (text t) c e = subst (λ x. is_whitespace x ≡ false) (sym e) refl
first_not_white (bytes t) c h = absurd h
first_not_white (tag k n) c h = absurd h
first_not_white (opaque b) c h = absurd h
first_not_white (list ns) c e = subst (λ x. is_whitespace x ≡ false) (sym e) refl
first_not_white (object ms) c e = subst (λ x. is_whitespace x ≡ false) (sym e) refl

-- whitespace before a list that begins with a byte that isn't white
skips_over : (c d : ℕ) (s t u : List ℕ) → is_whitespace c ≡ true → t ≡ d ∷ u → is_whitespace d ≡ false → Whitespace (c ∷ s) t
    → Whitespace s t
skips_over c d s t u w e f k = subst (Whitespace s) (sym e) (skips_past c d s u w f (subst (Whitespace (c ∷ s)) e k))

skips_value : (n : Node) (c : ℕ) (s t r : List ℕ) (ts us : List TimedEvent) → is_whitespace c ≡ true → ValueTimed n t r ts us
    → Whitespace (c ∷ s) t → Whitespace s t
skips_value n c s t r ts us w h k =
    let o = spells_start n t r (value_spelt n t r ts us h) in skips_over c o.0 s t o.1 w o.2 (first_not_white n o.0 o.3) k

skips_text : (k : List ℕ) (c : ℕ) (s t r : List ℕ) → is_whitespace c ≡ true → SpellsText k t r → Whitespace (c ∷ s) t → Whitespace s t
skips_text k c s t r w (cs, u, e, o, h) g = skips_over c 34 s t u w o refl g

white_value : (limit : ℕ) (ks : List OpenKind) (c : ℕ) (s : List ℕ) (ts : List TimedEvent) → is_whitespace c ≡ true
    → ValueComes limit ks (c ∷ s) ts → ValueComes limit ks s ts
white_value limit ks c s ts w (t, k, (n, r, us, h, room, en)) = (t, skips_value n c s t r ts us w h k, (n, r, us, h, room, en))

white_colon : (limit : ℕ) (ks : List OpenKind) (c : ℕ) (s : List ℕ) (ts : List TimedEvent) → is_whitespace c ≡ true
    → ColonComes limit ks (c ∷ s) ts → ColonComes limit ks s ts
white_colon limit ks c s ts w (t, k, h) = (t, skips_past c 58 s t w refl k, h)

white_key : (limit : ℕ) (ks : List OpenKind) (c : ℕ) (s : List ℕ) (ts : List TimedEvent) → is_whitespace c ≡ true
    → NameComes limit ks (c ∷ s) ts → NameComes limit ks s ts
white_key limit ks c s ts w (t, k, (name, r, us, h, v, e)) = (t, skips_text name c s t r w h k, (name, r, us, h, v, e))

white_entries : (ns : Nodes) (c : ℕ) (s r : List ℕ) (ts us : List TimedEvent) → is_whitespace c ≡ true → EntriesTimed ns (c ∷ s) r ts us
    → EntriesTimed ns s r ts us
white_entries no_nodes c s r ts us w (k, e) = (skips_past c 93 s r w refl k, e)
white_entries (node n ns) c s r ts us w (s1, s2, vs, k, h, m) = (s1, s2, vs, skips_value n c s s1 s2 ts vs w h k, h, m)

white_more : (ns : Nodes) (c : ℕ) (s r : List ℕ) (ts us : List TimedEvent) → is_whitespace c ≡ true → MoreEntriesTimed ns (c ∷ s) r ts us
    → MoreEntriesTimed ns s r ts us
white_more no_nodes c s r ts us w (k, e) = (skips_past c 93 s r w refl k, e)
white_more (node n ns) c s r ts us w (s1, s2, vs, (x, k, k1), h, m) = (s1, s2, vs, (x, skips_past c 44 s x w refl k, k1), h, m)

white_pairs : (ms : Members) (c : ℕ) (s r : List ℕ) (ts us : List TimedEvent) → is_whitespace c ≡ true → PairsTimed ms (c ∷ s) r ts us
    → PairsTimed ms s r ts us
white_pairs no_members c s r ts us w (k, e) = (skips_past c 125 s r w refl k, e)
white_pairs (member name n ms) c s r ts us w (s1, s2, s3, s4, vs, ws, k, h, e, k2, v, m) =
    (s1, s2, s3, s4, vs, ws, skips_text name c s s1 s2 w h k, h, e, k2, v, m)

white_more_pairs : (ms : Members) (c : ℕ) (s r : List ℕ) (ts us : List TimedEvent) → is_whitespace c ≡ true
    → MorePairsTimed ms (c ∷ s) r ts us → MorePairsTimed ms s r ts us
white_more_pairs no_members c s r ts us w (k, e) = (skips_past c 125 s r w refl k, e)
white_more_pairs (member name n ms) c s r ts us w (s1, s2, s3, s4, vs, ws, (x, k, k1), h, e, k2, v, m) =
    (s1, s2, s3, s4, vs, ws, (x, skips_past c 44 s x w refl k, k1), h, e, k2, v, m)

white_nothing : (c : ℕ) (s : List ℕ) → Whitespace (c ∷ s) [] → Whitespace s []
white_nothing c s (inl e) = let e1 : [] ≡ c ∷ s = e in absurd cc
white_nothing c s (inr h) = h.1

white_ends : (limit : ℕ) (ks : List OpenKind) (c : ℕ) (s : List ℕ) (ts : List TimedEvent) → is_whitespace c ≡ true
    → JsonEnds limit ks (c ∷ s) ts → JsonEnds limit ks s ts
white_ends limit [] c s ts w (k, e) = (white_nothing c s k, e)
white_ends limit (a_list ∷ ks) c s ts w (ns, r, us, m, room, en) = (ns, r, us, white_more ns c s r ts us w m, room, en)
white_ends limit (an_object ∷ ks) c s ts w (ms, r, us, m, room, en) = (ms, r, us, white_more_pairs ms c s r ts us w m, room, en)

white_first_entry : (limit : ℕ) (ks : List OpenKind) (c : ℕ) (s : List ℕ) (ts : List TimedEvent) → is_whitespace c ≡ true
    → FirstEntryComes limit ks (c ∷ s) ts → FirstEntryComes limit ks s ts
white_first_entry limit [] c s ts w h = h
white_first_entry limit (a_list ∷ ks) c s ts w (ns, r, us, m, room, en) = (ns, r, us, white_entries ns c s r ts us w m, room, en)
white_first_entry limit (an_object ∷ ks) c s ts w h = h

white_first_key : (limit : ℕ) (ks : List OpenKind) (c : ℕ) (s : List ℕ) (ts : List TimedEvent) → is_whitespace c ≡ true
    → FirstKeyComes limit ks (c ∷ s) ts → FirstKeyComes limit ks s ts
white_first_key limit [] c s ts w h = h
white_first_key limit (a_list ∷ ks) c s ts w h = h
white_first_key limit (an_object ∷ ks) c s ts w (ms, r, us, m, room, en) = (ms, r, us, white_pairs ms c s r ts us w m, room, en)

white_onward : (limit : ℕ) (p : Where) (ks : List OpenKind) (c : ℕ) (s : List ℕ) (ts : List TimedEvent) → TakesWhitespace p
    → is_whitespace c ≡ true → JsonRestAt limit p ks (c ∷ s) ts → JsonRestAt limit p ks s ts
white_onward limit value ks c s ts p w h = white_value limit ks c s ts w h
white_onward limit first_entry ks c s ts p w h = white_first_entry limit ks c s ts w h
white_onward limit first_key ks c s ts p w h = white_first_key limit ks c s ts w h
white_onward limit next_key ks c s ts p w h = white_key limit ks c s ts w h
white_onward limit colon ks c s ts p w h = white_colon limit ks c s ts w h
white_onward limit after ks c s ts p w h = white_ends limit ks c s ts w h
white_onward limit (word x taken) ks c s ts p w h = absurd p
white_onward limit (numeral b) ks c s ts p w h = absurd p
white_onward limit (in_text role spot b) ks c s ts p w h = absurd p

-- the other way: a white byte before what takes whitespace
back_entries : (ns : Nodes) (c : ℕ) (s r : List ℕ) (ts us : List TimedEvent) → is_whitespace c ≡ true → EntriesTimed ns s r ts us
    → EntriesTimed ns (c ∷ s) r ts us
back_entries no_nodes c s r ts us w (k, e) = (inr (w, k), e)
back_entries (node n ns) c s r ts us w (s1, s2, vs, k, h, m) = (s1, s2, vs, inr (w, k), h, m)

back_more : (ns : Nodes) (c : ℕ) (s r : List ℕ) (ts us : List TimedEvent) → is_whitespace c ≡ true → MoreEntriesTimed ns s r ts us
    → MoreEntriesTimed ns (c ∷ s) r ts us
back_more no_nodes c s r ts us w (k, e) = (inr (w, k), e)
back_more (node n ns) c s r ts us w (s1, s2, vs, (x, k, k1), h, m) = (s1, s2, vs, (x, inr (w, k), k1), h, m)

back_pairs : (ms : Members) (c : ℕ) (s r : List ℕ) (ts us : List TimedEvent) → is_whitespace c ≡ true → PairsTimed ms s r ts us
    → PairsTimed ms (c ∷ s) r ts us
back_pairs no_members c s r ts us w (k, e) = (inr (w, k), e)
back_pairs (member name n ms) c s r ts us w (s1, s2, s3, s4, vs, ws, k, h, e, k2, v, m) =
    (s1, s2, s3, s4, vs, ws, inr (w, k), h, e, k2, v, m)

back_more_pairs : (ms : Members) (c : ℕ) (s r : List ℕ) (ts us : List TimedEvent) → is_whitespace c ≡ true → MorePairsTimed ms s r ts us
    → MorePairsTimed ms (c ∷ s) r ts us
back_more_pairs no_members c s r ts us w (k, e) = (inr (w, k), e)
back_more_pairs (member name n ms) c s r ts us w (s1, s2, s3, s4, vs, ws, (x, k, k1), h, e, k2, v, m) =
    (s1, s2, s3, s4, vs, ws, (x, inr (w, k), k1), h, e, k2, v, m)

back_ends : (limit : ℕ) (ks : List OpenKind) (c : ℕ) (s : List ℕ) (ts : List TimedEvent) → is_whitespace c ≡ true → JsonEnds limit ks s ts
    → JsonEnds limit ks (c ∷ s) ts
back_ends limit [] c s ts w (k, e) = (inr (w, k), e)
back_ends limit (a_list ∷ ks) c s ts w (ns, r, us, m, room, en) = (ns, r, us, back_more ns c s r ts us w m, room, en)
back_ends limit (an_object ∷ ks) c s ts w (ms, r, us, m, room, en) = (ms, r, us, back_more_pairs ms c s r ts us w m, room, en)

back_first_entry : (limit : ℕ) (ks : List OpenKind) (c : ℕ) (s : List ℕ) (ts : List TimedEvent) → is_whitespace c ≡ true
    → FirstEntryComes limit ks s ts → FirstEntryComes limit ks (c ∷ s) ts
back_first_entry limit [] c s ts w h = h
back_first_entry limit (a_list ∷ ks) c s ts w (ns, r, us, m, room, en) = (ns, r, us, back_entries ns c s r ts us w m, room, en)
back_first_entry limit (an_object ∷ ks) c s ts w h = h

back_first_key : (limit : ℕ) (ks : List OpenKind) (c : ℕ) (s : List ℕ) (ts : List TimedEvent) → is_whitespace c ≡ true
    → FirstKeyComes limit ks s ts → FirstKeyComes limit ks (c ∷ s) ts
back_first_key limit [] c s ts w h = h
back_first_key limit (a_list ∷ ks) c s ts w h = h
back_first_key limit (an_object ∷ ks) c s ts w (ms, r, us, m, room, en) = (ms, r, us, back_pairs ms c s r ts us w m, room, en)

white_back : (limit : ℕ) (p : Where) (ks : List OpenKind) (c : ℕ) (s : List ℕ) (ts : List TimedEvent) → TakesWhitespace p
    → is_whitespace c ≡ true → JsonRestAt limit p ks s ts → JsonRestAt limit p ks (c ∷ s) ts
white_back limit value ks c s ts p w (t, k, h) = (t, inr (w, k), h)
white_back limit first_entry ks c s ts p w h = back_first_entry limit ks c s ts w h
white_back limit first_key ks c s ts p w h = back_first_key limit ks c s ts w h
white_back limit next_key ks c s ts p w (t, k, h) = (t, inr (w, k), h)
white_back limit colon ks c s ts p w (t, k, h) = (t, inr (w, k), h)
white_back limit after ks c s ts p w h = back_ends limit ks c s ts w h
white_back limit (word x taken) ks c s ts p w h = absurd p
white_back limit (numeral b) ks c s ts p w h = absurd p
white_back limit (in_text role spot b) ks c s ts p w h = absurd p

-- a white byte leads from such a state to itself
pub white_leads : (limit : ℕ) (x : JsonState) (c : ℕ) → TakesWhitespace x.place → is_whitespace c ≡ true → JsonLeads limit x (c ∷ []) [] x
white_leads limit x c p w =
    silent_leads limit x (c ∷ []) x
    (λ s ts h. white_onward limit x.place x.lists c s ts p w h)
    (λ s ts h. white_back limit x.place x.lists c s ts p w h)

-- the bytes of a run of whitespace
pub whites_of_run : (bs : List ℕ) (k : ℕ) → k ≡ prefix_len is_whitespace bs → AllWhitespace (take k bs)
whites_of_run bs k e =
    subst (λ n. AllWhitespace (take n bs)) (sym e) (of_run is_whitespace AllWhitespace tt (λ c s here more. (here, more)) bs)

-- a run of whitespace leads from such a state to itself
pub whites_lead : (limit : ℕ) (x : JsonState) (ws : List ℕ) → TakesWhitespace x.place → AllWhitespace ws → JsonLeads limit x ws [] x
whites_lead limit x [] p h = leads_none limit x
whites_lead limit x (c ∷ ws) p h = leads_joined limit x x x (c ∷ []) ws [] [] (white_leads limit x c p h.0) (whites_lead limit x ws p h.1)
