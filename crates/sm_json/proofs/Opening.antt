-- What a byte does where a value must come: the laws of `JsonLeads` and `JsonStops` there, and where a bracket has
-- opened.
use Rattle.std.proofs.Common.{◌≡◌, ℕ, ◌+◌, ◌≤◌, ◌<◌, ◌⊎◌, inl, inr, true, false, List, [], ◌∷◌, None, refl, sym, ap, subst, ◌∙◌, arith}
use Rattle.std.proofs.Common.{lit<, length}
use Rattle.sm_tree.specs.Node.{Node, Nodes, Members, null, bool, int, number, text, bytes, tag, opaque, list, object}
use Rattle.sm_tree.specs.Levels.{levels, nodes_levels, members_levels}
use Rattle.sm_tree.specs.Events.{start_list, start_object}
use Rattle.sm_tree.specs.Timing.{TimedEvent, by_byte}
use Rattle.sm_tree.specs.declared.build.OpenKind.{OpenKind}
use Rattle.sm_tree.specs.declared.build.OpenKind.TheVariants.{List as a_list, Object as an_object}
use Rattle.sm_json.specs.Strings.{is_whitespace}
use Rattle.sm_json.specs.Timing.{ValueTimed, EntriesTimed, PairsTimed}
use Rattle.sm_json.specs.steps.Rest.{Where, value, first_entry, first_key, JsonState, ValueNow, ValueComes, FirstEntryComes}
use Rattle.sm_json.specs.steps.Rest.{FirstKeyComes, JsonLeads, JsonStops}
use Rattle.sm_json.proofs.Starts.{below, above, tails, skips_none, skips_here, StartsNumber, FirstByte}
use Rattle.sm_json.proofs.Timed.{timed_first}
use Rattle.sm_json.proofs.Whole.{spoken_leads}

-- a spelling that begins with a byte has the kind that the byte tells
pub digit_is_not : (c d : ℕ) → StartsNumber c → c ≡ d → (d < 45) ⊎ (57 < d) → ⊥
digit_is_not c d (inl (low, high)) e (inl h) = omega arith
digit_is_not c d (inl (low, high)) e (inr h) = omega arith
digit_is_not c d (inr f) e (inl h) = omega arith
digit_is_not c d (inr f) e (inr h) = omega arith

-- which bytes a node may begin with, as numbers: used where two kinds exclude each other
kind_of_list : (n : Node) → FirstByte n 91 → (ns : Nodes) × (n ≡ list ns)
kind_of_list null e = absurd (below 91 110 (lit< tt) e)
kind_of_list (bool true) e = absurd (below 91 116 (lit< tt) e)
kind_of_list (bool false) e = absurd (below 91 102 (lit< tt) e)
kind_of_list (int z) h = absurd (digit_is_not 91 91 h refl (inr (omega arith)))
kind_of_list (number t) h = absurd (digit_is_not 91 91 h refl (inr (omega arith)))
kind_of_list (text t) e = absurd (above 91 34 (lit< tt) e)
kind_of_list (bytes t) h = absurd h
kind_of_list (tag k n) h = absurd h
kind_of_list (opaque b) h = absurd h
kind_of_list (list ns) e = (ns, refl)
kind_of_list (object ms) e = absurd (below 91 123 (lit< tt) e)

kind_of_object : (n : Node) → FirstByte n 123 → (ms : Members) × (n ≡ object ms)
kind_of_object null e = absurd (above 123 110 (lit< tt) e)
kind_of_object (bool true) e = absurd (above 123 116 (lit< tt) e)
kind_of_object (bool false) e = absurd (above 123 102 (lit< tt) e)
kind_of_object (int z) h = absurd (digit_is_not 123 123 h refl (inr (omega arith)))
kind_of_object (number t) h = absurd (digit_is_not 123 123 h refl (inr (omega arith)))
kind_of_object (text t) e = absurd (above 123 34 (lit< tt) e)
kind_of_object (bytes t) h = absurd h
kind_of_object (tag k n) h = absurd h
kind_of_object (opaque b) h = absurd h
kind_of_object (list ns) e = absurd (above 123 91 (lit< tt) e)
kind_of_object (object ms) e = (ms, refl)

pub kind_of_text : (n : Node) → FirstByte n 34 → (t : List ℕ) × (n ≡ text t)
kind_of_text null e = absurd (below 34 110 (lit< tt) e)
kind_of_text (bool true) e = absurd (below 34 116 (lit< tt) e)
kind_of_text (bool false) e = absurd (below 34 102 (lit< tt) e)
kind_of_text (int z) h = absurd (digit_is_not 34 34 h refl (inl (omega arith)))
kind_of_text (number t) h = absurd (digit_is_not 34 34 h refl (inl (omega arith)))
kind_of_text (text t) e = (t, refl)
kind_of_text (bytes t) h = absurd h
kind_of_text (tag k n) h = absurd h
kind_of_text (opaque b) h = absurd h
kind_of_text (list ns) e = absurd (below 34 91 (lit< tt) e)
kind_of_text (object ms) e = absurd (below 34 123 (lit< tt) e)

-- a value that comes, at a byte that isn't white
pub value_here : (limit : ℕ) (ks : List OpenKind) (c : ℕ) (s : List ℕ) (ts : List TimedEvent) → is_whitespace c ≡ false
    → ValueComes limit ks (c ∷ s) ts → ValueNow limit ks (c ∷ s) ts
value_here limit ks c s ts f (t, k, h) = subst (λ x. ValueNow limit ks x ts) (skips_here c s t f k) h

pub value_now : (limit : ℕ) (ks : List OpenKind) (s : List ℕ) (ts : List TimedEvent) → ValueNow limit ks s ts → ValueComes limit ks s ts
value_now limit ks s ts h = (s, skips_none s, h)

abbrev pub at : Where → List OpenKind → JsonState
at p ks = record { place = p; lists = ks }

-- `[`
list_onward : (limit : ℕ) (ks : List OpenKind) (s : List ℕ) (ts : List TimedEvent) → ValueNow limit ks (91 ∷ s) ts
    → (us : List TimedEvent) × (ts ≡ by_byte (start_list None) (length s) ∷ us) × FirstEntryComes limit (a_list ∷ ks) s us
list_onward limit ks s ts (n, r, us, h, room, en) =
    let k = kind_of_list n (timed_first n 91 s r ts us h) in
    let (s1, vs, e, e1, entries) = subst (λ x. ValueTimed x (91 ∷ s) r ts us) k.1 h in
    let same = sym (tails 91 91 s s1 e) in
    let room1 : 1 + nodes_levels k.0 + length ks ≤ limit = subst (λ x. levels x + length ks ≤ limit) k.1 room in (
      vs,
      e1 ∙ ap (λ x. by_byte (start_list None) (length x) ∷ vs) same,
      (k.0, r, us, subst (λ x. EntriesTimed k.0 x r vs us) same entries, omega arith, en),
    )

pub list_back : (limit : ℕ) (ks : List OpenKind) (s : List ℕ) (us : List TimedEvent) → FirstEntryComes limit (a_list ∷ ks) s us
    → ValueComes limit ks (91 ∷ s) (by_byte (start_list None) (length s) ∷ us)
list_back limit ks s us (ns, r, vs, h, room, en) =
    value_now limit ks (91 ∷ s) (by_byte (start_list None) (length s) ∷ us) (list ns, r, vs, (s, us, refl, refl, h), omega arith, en)

pub list_opens : (limit : ℕ) (ks : List OpenKind)
    → JsonLeads limit (at value ks) (91 ∷ []) (start_list None ∷ []) (at first_entry (a_list ∷ ks))
list_opens limit ks =
    spoken_leads limit (at value ks) (91 ∷ []) (start_list None) (at first_entry (a_list ∷ ks))
    (λ s ts h. list_onward limit ks s ts (value_here limit ks 91 s ts refl h))
    (λ s us h. list_back limit ks s us h)

-- `{`
object_onward : (limit : ℕ) (ks : List OpenKind) (s : List ℕ) (ts : List TimedEvent) → ValueNow limit ks (123 ∷ s) ts
    → (us : List TimedEvent) × (ts ≡ by_byte (start_object None) (length s) ∷ us) × FirstKeyComes limit (an_object ∷ ks) s us
object_onward limit ks s ts (n, r, us, h, room, en) =
    let k = kind_of_object n (timed_first n 123 s r ts us h) in
    let (s1, vs, e, e1, pairs) = subst (λ x. ValueTimed x (123 ∷ s) r ts us) k.1 h in
    let same = sym (tails 123 123 s s1 e) in
    let room1 : 1 + members_levels k.0 + length ks ≤ limit = subst (λ x. levels x + length ks ≤ limit) k.1 room in (
      vs,
      e1 ∙ ap (λ x. by_byte (start_object None) (length x) ∷ vs) same,
      (k.0, r, us, subst (λ x. PairsTimed k.0 x r vs us) same pairs, omega arith, en),
    )

pub object_back : (limit : ℕ) (ks : List OpenKind) (s : List ℕ) (us : List TimedEvent) → FirstKeyComes limit (an_object ∷ ks) s us
    → ValueComes limit ks (123 ∷ s) (by_byte (start_object None) (length s) ∷ us)
object_back limit ks s us (ms, r, vs, h, room, en) =
    value_now limit ks (123 ∷ s) (by_byte (start_object None) (length s) ∷ us) (object ms, r, vs, (s, us, refl, refl, h), omega arith, en)

pub object_opens : (limit : ℕ) (ks : List OpenKind)
    → JsonLeads limit (at value ks) (123 ∷ []) (start_object None ∷ []) (at first_key (an_object ∷ ks))
object_opens limit ks =
    spoken_leads limit (at value ks) (123 ∷ []) (start_object None) (at first_key (an_object ∷ ks))
    (λ s ts h. object_onward limit ks s ts (value_here limit ks 123 s ts refl h))
    (λ s us h. object_back limit ks s us h)

-- a bracket or a brace that opens one level too many
pub list_too_deep : (limit : ℕ) (ks : List OpenKind) → limit ≤ length ks → JsonStops limit (at value ks) 91
list_too_deep limit ks deep s ts h =
    let (us, e, (ns, r, vs, h1, room, en)) = list_onward limit ks s ts (value_here limit ks 91 s ts refl h) in omega arith

pub object_too_deep : (limit : ℕ) (ks : List OpenKind) → limit ≤ length ks → JsonStops limit (at value ks) 123
object_too_deep limit ks deep s ts h =
    let (us, e, (ms, r, vs, h1, room, en)) = object_onward limit ks s ts (value_here limit ks 123 s ts refl h) in omega arith
