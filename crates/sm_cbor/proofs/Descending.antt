-- What the reader by recursive descent finds, step by step, from the cases of CborItem: heads, strings and simple
-- values, and entries and pairs one after the other.
use Rattle.std.proofs.Common.{◌≡◌, ℕ, pos, negsuc, ◌+◌, ◌-◌, ◌≤◌, ◌<◌, inl, inr, None, List, [], ◌∷◌, ◌++◌, refl, sym, ap, subst, ◌∙◌}
use Rattle.std.proofs.Common.{arith, length, take, drop, append_assoc, append-nil}
use Rattle.std.proofs.lemmas.List.{take-append-drop, map-append}
use Rattle.sm_tree.specs.Node.{Node, nodes_of, members_of}
use Rattle.sm_tree.specs.Levels.{levels, nodes_levels, members_levels}
use Rattle.sm_tree.specs.View.{node_of, nodes_view, members_view}
use Rattle.sm_tree.specs.declared.tree.Tree.{Tree}
use Rattle.sm_cbor.specs.Heads.{Head, Break, unsigned_type, negative_type}
use Rattle.sm_cbor.specs.CborItem.{TextString, Definite, CountedEntries, EntriesToBreak, CountedPairs, PairsToBreak}
use Rattle.sm_cbor.specs.steps.Marks.{plain}
use Rattle.sm_cbor.specs.steps.Reading.{integer_node}
use Rattle.sm_cbor.specs.steps.Descent.{Joined, ItemIn, PutsInteger, PutsLeaf, PutsEntry, PutsPair}
use Rattle.sm_cbor.proofs.Items.{fits_pos, fits_neg, small_pos, small_neg, integer_item, integer_levels}

-- a string whose bytes are at hand, before more
pub definite_run : (major n : ℕ) (P : List ℕ → Type 0) (bs s run : List ℕ) → Head major n bs s → n ≤ length s → run ≡ take n s
    → length run ≡ n → P run → Definite major P run bs (drop n s)
definite_run major n P bs s run head inside is len p =
    (s, subst (λ m. Head major m bs s) (sym len) head, sym (take-append-drop n s) ∙ ap (λ u. u ++ drop n s) (sym is), p)

-- one chunk before the others, and none before the break
pub chunk_before : (major : ℕ) (P : List ℕ → Type 0) (t c u s s1 r start : List ℕ)
    → ((v q : List ℕ) → Joined major P v s q → Joined major P (t ++ v) start q) → Definite major P c s s1 → Joined major P u s1 r
    → Joined major P ((t ++ c) ++ u) start r
chunk_before major P t c u s s1 r start before chunk (ts, chunks, is) =
    subst (λ v. Joined major P v start r) (sym (append_assoc t c u)) (before (c ++ u) r (c ∷ ts, (s1, chunk, chunks), ap (λ v. c ++ v) is))

pub no_chunk : (major : ℕ) (P : List ℕ → Type 0) (t s r start : List ℕ)
    → ((v q : List ℕ) → Joined major P v s q → Joined major P (t ++ v) start q) → Break s r → Joined major P t start r
no_chunk major P t s r start before ends =
    subst (λ v. Joined major P v start r) (append-nil t) (before [] r ([], ends, refl))

-- what was read before, with one more behind it
one_more : (ts us : List Tree) (t : Tree) (ns : List Node) → us ≡ ts ++ t ∷ [] → nodes_view us ++ ns ≡ nodes_view ts ++ (node_of t ∷ ns)
one_more ts us t ns grown = ap (λ xs. nodes_view xs ++ ns) grown ∙ ap (λ xs. xs ++ ns) (map-append node_of ts (t ∷ []))
    ∙ append_assoc (nodes_view ts) (node_of t ∷ []) ns

one_member_more : (ps qs : List (List ℕ × Tree)) (p : List ℕ × Tree) (ms : List (List ℕ × Node)) → qs ≡ ps ++ p ∷ []
    → members_view qs ++ ms ≡ members_view ps ++ ((p.0, node_of p.1) ∷ ms)
one_member_more ps qs p ms grown = ap (λ xs. members_view xs ++ ms) grown ∙ ap (λ xs. xs ++ ms) (map-append _ ps (p ∷ []))
    ∙ append_assoc (members_view ps) ((p.0, node_of p.1) ∷ []) ms

-- integers, whatever their size
pub unsigned_in : (limit n : ℕ) (s r : List ℕ) → Head unsigned_type n s r → ItemIn limit (integer_node n (pos n)) s r
unsigned_in limit n s r head =
    let flat = integer_levels n (pos n) in (integer_item plain n (pos n) s r (fits_pos n) (small_pos n) (n, inl (head, refl)), omega arith)

pub negative_in : (limit n : ℕ) (s r : List ℕ) → Head negative_type n s r → ItemIn limit (integer_node n (negsuc n)) s r
negative_in limit n s r head =
    let flat = integer_levels n (negsuc n) in
    (integer_item plain n (negsuc n) s r (fits_neg n) (small_neg n) (n, inr (head, refl)), omega arith)

-- an integer that was put, with its head before it, is a leaf that was put
pub puts_unsigned : {N E : Type 0} (named : N → Tree → E) (value : ℕ) (name : N) (before now : List E) (s r : List ℕ)
    → PutsInteger named value (pos value) name before now → Head unsigned_type value s r → PutsLeaf named name before now s r None
puts_unsigned named value name before now s r (t, grown, is) head =
    (t, grown, subst (λ n. ItemIn 0 n s r) (sym is) (unsigned_in 0 value s r head))

pub puts_negative : {N E : Type 0} (named : N → Tree → E) (value : ℕ) (name : N) (before now : List E) (s r : List ℕ)
    → PutsInteger named value (negsuc value) name before now → Head negative_type value s r → PutsLeaf named name before now s r None
puts_negative named value name before now s r (t, grown, is) head =
    (t, grown, subst (λ n. ItemIn 0 n s r) (sym is) (negative_in 0 value s r head))

-- one more entry behind those that have come, and none behind the last
pub entry_more : (limit count i : ℕ) (ts us : List Tree) (ns : List Node) (s s1 r start : List ℕ) → PutsEntry limit ts us s s1 → i < count
    → ((ms : List Node) (q : List ℕ) → CountedEntries TextString (count - i) (nodes_of ms) s q
    → CountedEntries TextString count (nodes_of (nodes_view ts ++ ms)) start q)
    → CountedEntries TextString (count - (i + 1)) (nodes_of ns) s1 r
    → CountedEntries TextString count (nodes_of (nodes_view us ++ ns)) start r
entry_more limit count i ts us ns s s1 r start (t, grown, (item, flat)) inside before more =
    subst (λ xs. CountedEntries TextString count (nodes_of xs) start r) (sym (one_more ts us t ns grown))
    (before (node_of t ∷ ns) r (count - (i + 1), (omega arith), s1, item, more))

pub entries_end : (count i : ℕ) (xs : List Node) (s start : List ℕ) → count ≤ i
    → ((ms : List Node) (q : List ℕ) → CountedEntries TextString (count - i) (nodes_of ms) s q
    → CountedEntries TextString count (nodes_of (xs ++ ms)) start q) → CountedEntries TextString count (nodes_of xs) start s
entries_end count i xs s start done before =
    subst (λ ms. CountedEntries TextString count (nodes_of ms) start s) (append-nil xs) (before [] s ((omega arith), refl))

-- the same up to a break
pub entry_to_break_more : (limit : ℕ) (ts us : List Tree) (ns : List Node) (s s1 r start : List ℕ) → PutsEntry limit ts us s s1
    → ((ms : List Node) (q : List ℕ) → EntriesToBreak TextString (nodes_of ms) s q
    → EntriesToBreak TextString (nodes_of (nodes_view ts ++ ms)) start q)
    → EntriesToBreak TextString (nodes_of ns) s1 r → EntriesToBreak TextString (nodes_of (nodes_view us ++ ns)) start r
entry_to_break_more limit ts us ns s s1 r start (t, grown, (item, flat)) before more =
    subst (λ xs. EntriesToBreak TextString (nodes_of xs) start r) (sym (one_more ts us t ns grown))
    (before (node_of t ∷ ns) r (s1, item, more))

pub entries_break : (xs : List Node) (s r start : List ℕ)
    → ((ms : List Node) (q : List ℕ) → EntriesToBreak TextString (nodes_of ms) s q
    → EntriesToBreak TextString (nodes_of (xs ++ ms)) start q)
    → Break s r → EntriesToBreak TextString (nodes_of xs) start r
entries_break xs s r start before ends = subst (λ ms. EntriesToBreak TextString (nodes_of ms) start r) (append-nil xs) (before [] r ends)

-- the same of pairs
pub pair_more : (limit count i : ℕ) (ps qs : List (List ℕ × Tree)) (ms : List (List ℕ × Node)) (s s2 r start : List ℕ)
    → PutsPair limit ps qs s s2 → i < count
    → ((ls : List (List ℕ × Node)) (q : List ℕ) → CountedPairs TextString (count - i) (members_of ls) s q
    → CountedPairs TextString count (members_of (members_view ps ++ ls)) start q)
    → CountedPairs TextString (count - (i + 1)) (members_of ms) s2 r
    → CountedPairs TextString count (members_of (members_view qs ++ ms)) start r
pair_more limit count i ps qs ms s s2 r start (k, t, grown, s1, key, (item, flat)) inside before more =
    subst (λ xs. CountedPairs TextString count (members_of xs) start r) (sym (one_member_more ps qs (k, t) ms grown))
    (before ((k, node_of t) ∷ ms) r (count - (i + 1), (omega arith), s1, s2, key, item, more))

pub pairs_end : (count i : ℕ) (xs : List (List ℕ × Node)) (s start : List ℕ) → count ≤ i
    → ((ls : List (List ℕ × Node)) (q : List ℕ) → CountedPairs TextString (count - i) (members_of ls) s q
    → CountedPairs TextString count (members_of (xs ++ ls)) start q) → CountedPairs TextString count (members_of xs) start s
pairs_end count i xs s start done before =
    subst (λ ms. CountedPairs TextString count (members_of ms) start s) (append-nil xs) (before [] s ((omega arith), refl))

pub pair_to_break_more : (limit : ℕ) (ps qs : List (List ℕ × Tree)) (ms : List (List ℕ × Node)) (s s2 r start : List ℕ)
    → PutsPair limit ps qs s s2
    → ((ls : List (List ℕ × Node)) (q : List ℕ) → PairsToBreak TextString (members_of ls) s q
    → PairsToBreak TextString (members_of (members_view ps ++ ls)) start q)
    → PairsToBreak TextString (members_of ms) s2 r → PairsToBreak TextString (members_of (members_view qs ++ ms)) start r
pair_to_break_more limit ps qs ms s s2 r start (k, t, grown, s1, key, (item, flat)) before more =
    subst (λ xs. PairsToBreak TextString (members_of xs) start r) (sym (one_member_more ps qs (k, t) ms grown))
    (before ((k, node_of t) ∷ ms) r (s1, s2, key, item, more))

pub pairs_break : (xs : List (List ℕ × Node)) (s r start : List ℕ)
    → ((ls : List (List ℕ × Node)) (q : List ℕ) → PairsToBreak TextString (members_of ls) s q
    → PairsToBreak TextString (members_of (xs ++ ls)) start q) → Break s r → PairsToBreak TextString (members_of xs) start r
pairs_break xs s r start before ends = subst (λ ms. PairsToBreak TextString (members_of ms) start r) (append-nil xs) (before [] r ends)

-- and no deeper than those that have come, and the one more
nodes_flat : (xs : List Node) (x : Node) (limit : ℕ) → nodes_levels (nodes_of xs) ≤ limit → levels x ≤ limit
    → nodes_levels (nodes_of (xs ++ x ∷ [])) ≤ limit
nodes_flat [] x limit all one = omega arith
nodes_flat (y ∷ ys) x limit all one = let rest = nodes_flat ys x limit (omega arith) one in omega arith

pub entry_levels : (limit : ℕ) (ts us : List Tree) (s s1 : List ℕ) → PutsEntry limit ts us s s1
    → nodes_levels (nodes_of (nodes_view ts)) ≤ limit → nodes_levels (nodes_of (nodes_view us)) ≤ limit
entry_levels limit ts us s s1 (t, grown, (item, one)) all =
    subst (λ xs. nodes_levels (nodes_of xs) ≤ limit) (sym (ap nodes_view grown ∙ map-append node_of ts (t ∷ [])))
    (nodes_flat (nodes_view ts) (node_of t) limit all one)

members_flat : (xs : List (List ℕ × Node)) (k : List ℕ) (x : Node) (limit : ℕ) → members_levels (members_of xs) ≤ limit → levels x ≤ limit
    → members_levels (members_of (xs ++ (k, x) ∷ [])) ≤ limit
members_flat [] k x limit all one = omega arith
members_flat (y ∷ ys) k x limit all one = let rest = members_flat ys k x limit (omega arith) one in omega arith

pub pair_levels : (limit : ℕ) (ps qs : List (List ℕ × Tree)) (s s2 : List ℕ) → PutsPair limit ps qs s s2
    → members_levels (members_of (members_view ps)) ≤ limit → members_levels (members_of (members_view qs)) ≤ limit
pair_levels limit ps qs s s2 (k, t, grown, s1, key, (item, one)) all =
    subst (λ xs. members_levels (members_of xs) ≤ limit) (sym (ap members_view grown ∙ map-append _ ps ((k, t) ∷ [])))
    (members_flat (members_view ps) k (node_of t) limit all one)
