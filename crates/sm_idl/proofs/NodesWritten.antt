-- What JSON writes for a tree is a node of a file, which says the tree.
use Rattle.std.proofs.Common.{◌≡◌, ◌≤◌, ◌⊎◌, ℕ, zero, suc, max, inl, inr, true, false, List, [], ◌∷◌, ◌++◌}
use Rattle.std.proofs.Common.{refl, sym, ap, subst, ◌∙◌, arith, append_assoc, Some, codes, ne_eqb}
use Rattle.std.specs.Prelude.{◌&&◌, nat_eq}
use Rattle.std.specs.Fmt.{signed_decimal}
use Rattle.std.proofs.lemmas.List.{map_push}
use Rattle.sm_json.specs.Written.{written_text, written, written_entries, more_written_entries, written_pairs, more_written_pairs}
use Rattle.sm_json.proofs.WrittenNumbers.{int_spelt}
use Rattle.sm_lex.specs.Bytes.{opens_with}
use Rattle.sm_lex.specs.Tokens.{Lexeme}
use Rattle.sm_tree.specs.Json.{IsJson, AreJson, AreJsonMembers}
use Rattle.sm_tree.specs.Levels.{levels, nodes_levels, members_levels}
use Rattle.sm_tree.specs.Node.{Node, Nodes, Members, null, bool, int, number, text, bytes, tag, opaque, list, object, no_nodes, node}
use Rattle.sm_tree.specs.Node.{no_members, member}
use Rattle.sm_tree.specs.Numbers.{IsNumber, NumberText}
use Rattle.sm_tree.specs.Same.{HasName, HasDistinctNames, HaveDistinctNames, AreDistinct}
use Rattle.sm_tree.specs.steps.NumberBytes.{IsNumberStart}
use Rattle.sm_tree.proofs.Numbers.{number_starts}
use Rattle.sm_model.specs.Formed.{StandsAmong}
use Rattle.sm_model.specs.Raw.{Raw, raw_leaf, raw_list, raws_of, raw_of, node_raws, member_raws}
use Rattle.sm_idl.specs.Productions.{Tokens, each, each_behind, many}
use Rattle.sm_idl.specs.Words.{IsWord, IsKey, IsNew, key}
use Rattle.sm_idl.specs.Nodes.{Home, LeafSaid, LeafSays, leaf, Pair, pair_names, as_object, pair_of, object_of, list_of}
use Rattle.sm_idl.specs.Nodes.{node as node_within}
use Rattle.sm_idl.proofs.NamesSeen.{among_last}
use Rattle.sm_idl.proofs.TextTokens.{Goes, Spells, goes_as, goes_joined, goes_white, goes_gives, goes_both, goes_left, goes_right}
use Rattle.sm_idl.proofs.TextTokens.{goes_none, goes_next}
use Rattle.sm_idl.proofs.WrittenTokens.{Closed, IsWordText, goes_marked, goes_word, goes_number, word_text}
use Rattle.sm_idl.proofs.StringsWritten.{goes_text}

-- `:=` isn't read where a value stands behind the colon
pub no_equals : (c : ℕ) (s : List ℕ) → nat_eq 61 c ≡ false → opens_with (58 ∷ (c ∷ s)) (codes ":=") ≡ false
no_equals c s h = ap (λ b. b && true) h

start_is_other : (c : ℕ) → IsNumberStart c → nat_eq 61 c ≡ false
start_is_other c (inr e) = subst (λ d. nat_eq 61 d ≡ false) (sym e) refl
start_is_other c (inl h) = let high : c ≤ 57 = h.1 in ne_eqb 61 c (λ e. omega arith)

number_no_equals : (t s : List ℕ) → IsNumber t → opens_with (58 ∷ (t ++ s)) (codes ":=") ≡ false
number_no_equals t s n =
    let first = number_starts t n in
    subst (λ u. opens_with (58 ∷ (u ++ s)) (codes ":=") ≡ false) (sym first.2)
    (no_equals first.0 (first.1 ++ s) (start_is_other first.0 first.3))

pub value_no_equals : (n : Node) (s : List ℕ) → IsJson n → opens_with (58 ∷ (written n ++ s)) (codes ":=") ≡ false
value_no_equals null s json = refl
value_no_equals (bool true) s json = refl
value_no_equals (bool false) s json = refl
value_no_equals (int z) s json = number_no_equals (signed_decimal z) s (int_spelt z json).0
value_no_equals (number t) s json = number_no_equals t s json.0
value_no_equals (text t) s json = refl
value_no_equals (bytes t) s json = absurd json
value_no_equals (tag k n) s json = absurd json
value_no_equals (opaque b) s json = absurd json
value_no_equals (list ns) s json = refl
value_no_equals (object ms) s json = refl

-- a leaf
leaf_node : (home : Home) (k : ℕ) {x : Raw} {Q : Tokens → Type 0} {s : List ℕ} → Goes (Spells (leaf (Some home)) x Q) s
    → Goes (Spells (node_within (Some home) k) x Q) s
unfolding node_within
leaf_node home zero h = h
leaf_node home (suc k) h = goes_left (leaf (Some home)) _ h

object_node : (home : Home) (k : ℕ) {x : Raw} {Q : Tokens → Type 0} {s : List ℕ}
    → Goes (Spells (object_of (node_within (Some home) k)) x Q) s → Goes (Spells (node_within (Some home) (suc k)) x Q) s
unfolding node_within
object_node home k h = goes_right (leaf (Some home)) _ (goes_left (object_of (node_within (Some home) k)) _ h)

list_node : (home : Home) (k : ℕ) {x : Raw} {Q : Tokens → Type 0} {s : List ℕ}
    → Goes (Spells (list_of (node_within (Some home) k)) x Q) s → Goes (Spells (node_within (Some home) (suc k)) x Q) s
unfolding node_within
list_node home k h = goes_right (leaf (Some home)) _ (goes_right (object_of (node_within (Some home) k)) _ h)

word_leaf : (home : Home) (k : ℕ) (w : List ℕ) (x : Raw) {s : List ℕ} {Q : Tokens → Type 0} → IsWordText w → Closed s
    → ((t : Lexeme) → IsWord w t → LeafSays (Some home) t x) → Goes Q s → Goes (Spells (node_within (Some home) k) x Q) (w ++ s)
word_leaf home k w x it closed says h = leaf_node home k (goes_word (LeafSays (Some home)) x w it closed says h)

leaf_as : (home : Home) (t : Lexeme) (x : Raw) (w : List ℕ) → IsWord w t
    → ((w ≡ codes "true") × (x ≡ raw_leaf (bool true))) ⊎ (((w ≡ codes "false") × (x ≡ raw_leaf (bool false)))
    ⊎ ((w ≡ codes "null") × (x ≡ raw_leaf null)))
    → LeafSays (Some home) t x
leaf_as home t x w (kind, e) (inl h) =
    subst (λ k. LeafSaid (Some home) k t x) (sym kind) (inl (e ∙ h.0, h.1))
leaf_as home t x w (kind, e) (inr (inl h)) =
    subst (λ k. LeafSaid (Some home) k t x) (sym kind) (inr (inl (e ∙ h.0, h.1)))
leaf_as home t x w (kind, e) (inr (inr h)) =
    subst (λ k. LeafSaid (Some home) k t x) (sym kind) (inr (inr (inl (e ∙ h.0, h.1))))

number_leaf : (home : Home) (k : ℕ) (v : Node) (u : List ℕ) {s : List ℕ} {Q : Tokens → Type 0} → NumberText v u → IsNumber u → Closed s
    → Goes Q s → Goes (Spells (node_within (Some home) k) (raw_leaf v) Q) (u ++ s)
number_leaf home k v u spelt n closed h =
    leaf_node home k (goes_number (LeafSays (Some home)) (raw_leaf v) u n closed
    (λ t kind text. subst (λ q. LeafSaid (Some home) q t (raw_leaf v)) (sym kind) (v, subst (NumberText v) (sym text) spelt, refl)) h)

pub text_leaf : (home : Home) (k : ℕ) (v : List ℕ) {s : List ℕ} {Q : Tokens → Type 0} → Closed s → Goes Q s
    → Goes (Spells (node_within (Some home) k) (raw_leaf (text v)) Q) (written_text v ++ s)
text_leaf home k v closed h =
    leaf_node home k (goes_text (LeafSays (Some home)) (raw_leaf (text v)) v closed
    (λ t kind is. subst (λ q. LeafSaid (Some home) q t (raw_leaf (text v))) (sym kind) (v, is.1, refl)) h)

-- names of pairs
abbrev pub AreNew : List Pair → Members → Type 0
AreNew before ms = (k : List ℕ) → HasName k ms → IsNew k (pair_names before)

pub new_later : (before : List Pair) (k : List ℕ) (n : Raw) (m : Node) (ms : Members) → AreNew before (member k m ms)
    → (HasName k ms → ⊥) → AreNew (before ++ (k, n) ∷ []) ms
new_later before k n m ms new apart j has among =
    elim (among_last j k (pair_names before) (subst (StandsAmong j) (map_push (λ p. p.0) before (k, n)) among)) [
      | inl earlier ↦ new j (inr has) earlier
      | inr same ↦ apart (subst (λ i. HasName i ms) same has)
    ]

entries_closed : (ns : Nodes) (s : List ℕ) → Closed (more_written_entries ns ++ s)
entries_closed no_nodes s = refl
entries_closed (node n ns) s = refl

pub pairs_closed : (ms : Members) (s : List ℕ) → Closed (more_written_pairs ms ++ s)
pairs_closed no_members s = refl
pairs_closed (member k n ms) s = refl

levels_first : (a b k : ℕ) → max a b ≤ k → (a ≤ k) × (b ≤ k)
levels_first a b k h = (omega arith, omega arith)

one_pair : (home : Home) (j : ℕ) (before : List Pair) (k : List ℕ) (x : Raw) {Q : Tokens → Type 0} (s : List ℕ)
    → IsNew k (pair_names before) → opens_with (58 ∷ s) (codes ":=") ≡ false → Goes (Spells (node_within (Some home) j) x Q) s
    → Goes (Spells (pair_of (node_within (Some home) j) before) (k, x) Q) (written_text k ++ 58 ∷ s)
one_pair home j before k x {Q = Q} s new alone h =
    goes_both (key (pair_names before)) _ k
    (goes_text (λ t i. IsKey i t × IsNew i (pair_names before)) k k refl (λ t kind is. (inr is, new))
    (goes_marked 58 _ refl alone
    (goes_both (node_within (Some home) j) _ x (goes_as (λ ts it. record {
      rest = it.rest;
      whole = it.whole;
      behind = record { rest = it.rest; whole = (refl, refl); behind = it.behind };
    }) h))))

mutual
  -- the written text of a tree, behind which no word, number or string goes on, is read as the tree
  pub node_goes : (home : Home) (n : Node) (k : ℕ) {Q : Tokens → Type 0} (s : List ℕ) → IsJson n → HasDistinctNames n → levels n ≤ k
      → Closed s → Goes Q s → Goes (Spells (node_within (Some home) k) (raw_of n) Q) (written n ++ s)
  node_goes home null k s json apart few closed h =
      word_leaf home k (codes "null") (raw_leaf null) (word_text (codes "null") 110 (codes "ull") refl refl refl)
      closed (λ t is. leaf_as home t (raw_leaf null) (codes "null") is (inr (inr (refl, refl)))) h
  node_goes home (bool true) k s json apart few closed h =
      word_leaf home k (codes "true") (raw_leaf (bool true))
      (word_text (codes "true") 116 (codes "rue") refl refl refl)
      closed (λ t is. leaf_as home t (raw_leaf (bool true)) (codes "true") is (inl (refl, refl))) h
  node_goes home (bool false) k s json apart few closed h =
      word_leaf home k (codes "false") (raw_leaf (bool false))
      (word_text (codes "false") 102 (codes "alse") refl refl refl)
      closed (λ t is. leaf_as home t (raw_leaf (bool false)) (codes "false") is (inr (inl (refl, refl)))) h
  node_goes home (int z) k s json apart few closed h =
      number_leaf home k (int z) (signed_decimal z) (int_spelt z json) (int_spelt z json).0 closed h
  node_goes home (number t) k s json apart few closed h = number_leaf home k (number t) t json json.0 closed h
  node_goes home (text t) k s json apart few closed h = text_leaf home k t closed h
  node_goes home (bytes t) k s json apart few closed h = absurd json
  node_goes home (tag j n) k s json apart few closed h = absurd json
  node_goes home (opaque b) k s json apart few closed h = absurd json
  node_goes home (list ns) zero s json apart few closed h = absurd (omega arith)
  node_goes home (list ns) (suc k) s json apart few closed h =
      list_node home k (goes_marked 91 _ refl refl
      (goes_both (many (node_within (Some home) k)) _ (node_raws ns)
      (entries_goes home ns k s json apart (omega arith)
      (goes_marked 93 _ refl refl (goes_gives (raw_list (raws_of (node_raws ns))) h)))))
  node_goes home (object ms) zero s json apart few closed h = absurd (omega arith)
  node_goes home (object ms) (suc k) s json apart few closed h =
      object_node home k (goes_marked 123 _ refl refl
      (goes_both (each (pair_of (node_within (Some home) k))) _ (member_raws ms)
      (pairs_goes home ms k s json apart (omega arith)
      (goes_marked 125 _ refl refl (goes_gives (as_object (member_raws ms)) h)))))

  entries_goes : (home : Home) (ns : Nodes) (k : ℕ) {Q : Tokens → Type 0} (s : List ℕ) → AreJson ns → HaveDistinctNames ns
      → nodes_levels ns ≤ k → Goes Q (93 ∷ s)
      → Goes (Spells (each_behind (λ _. node_within (Some home) k) []) (node_raws ns) Q) (written_entries ns ++ s)
  entries_goes home no_nodes k s json apart few h = goes_none (λ _. node_within (Some home) k) [] h
  entries_goes home (node n ns) k s json apart few h =
      let small = levels_first (levels n) (nodes_levels ns) k few in
      goes_joined (written n) (more_written_entries ns) s
      (goes_next (λ _. node_within (Some home) k) [] (raw_of n) (node_raws ns)
      (node_goes home n k (more_written_entries ns ++ s) json.0 apart.0 small.0 (entries_closed ns s)
      (more_goes home ns k (raw_of n ∷ []) s json.1 apart.1 small.1 h)))

  more_goes : (home : Home) (ns : Nodes) (k : ℕ) (before : List Raw) {Q : Tokens → Type 0} (s : List ℕ) → AreJson ns
      → HaveDistinctNames ns → nodes_levels ns ≤ k → Goes Q (93 ∷ s)
      → Goes (Spells (each_behind (λ _. node_within (Some home) k) before) (node_raws ns) Q) (more_written_entries ns ++ s)
  more_goes home no_nodes k before s json apart few h = goes_none (λ _. node_within (Some home) k) before h
  more_goes home (node n ns) k before s json apart few h =
      let small = levels_first (levels n) (nodes_levels ns) k few in
      goes_white 44 refl
      (goes_joined (written n) (more_written_entries ns) s
      (goes_next (λ _. node_within (Some home) k) before (raw_of n) (node_raws ns)
      (node_goes home n k (more_written_entries ns ++ s) json.0 apart.0 small.0 (entries_closed ns s)
      (more_goes home ns k (before ++ raw_of n ∷ []) s json.1 apart.1 small.1 h))))

  pairs_goes : (home : Home) (ms : Members) (k : ℕ) {Q : Tokens → Type 0} (s : List ℕ) → AreJsonMembers ms → AreDistinct ms
      → members_levels ms ≤ k → Goes Q (125 ∷ s)
      → Goes (Spells (each_behind (pair_of (node_within (Some home) k)) []) (member_raws ms) Q) (written_pairs ms ++ s)
  pairs_goes home no_members k s json apart few h = goes_none (pair_of (node_within (Some home) k)) [] h
  pairs_goes home (member i n ms) k s json apart few h =
      let small = levels_first (levels n) (members_levels ms) k few in
      let none : AreNew [] (member i n ms) = λ j has among. among in
      goes_joined (written_text i) (58 ∷ (written n ++ more_written_pairs ms)) s
      (goes_next (pair_of (node_within (Some home) k)) [] (i, raw_of n) (member_raws ms)
      (one_pair home k [] i (raw_of n) ((written n ++ more_written_pairs ms) ++ s) (none i (inl refl))
      (subst (λ u. opens_with (58 ∷ u) (codes ":=") ≡ false) (sym (append_assoc (written n) (more_written_pairs ms) s))
      (value_no_equals n (more_written_pairs ms ++ s) json.1))
      (goes_joined (written n) (more_written_pairs ms) s
      (node_goes home n k (more_written_pairs ms ++ s) json.1 apart.1 small.0 (pairs_closed ms s)
      (more_pairs_go home ms k ((i, raw_of n) ∷ []) s json.2 apart.2 small.1 (new_later [] i (raw_of n) n ms none apart.0) h)))))

  more_pairs_go : (home : Home) (ms : Members) (k : ℕ) (before : List Pair) {Q : Tokens → Type 0} (s : List ℕ) → AreJsonMembers ms
      → AreDistinct ms → members_levels ms ≤ k → AreNew before ms → Goes Q (125 ∷ s)
      → Goes (Spells (each_behind (pair_of (node_within (Some home) k)) before) (member_raws ms) Q) (more_written_pairs ms ++ s)
  more_pairs_go home no_members k before s json apart few new h = goes_none (pair_of (node_within (Some home) k)) before h
  more_pairs_go home (member i n ms) k before s json apart few new h =
      let small = levels_first (levels n) (members_levels ms) k few in
      goes_white 44 refl
      (goes_joined (written_text i) (58 ∷ (written n ++ more_written_pairs ms)) s
      (goes_next (pair_of (node_within (Some home) k)) before (i, raw_of n) (member_raws ms)
      (one_pair home k before i (raw_of n) ((written n ++ more_written_pairs ms) ++ s) (new i (inl refl))
      (subst (λ u. opens_with (58 ∷ u) (codes ":=") ≡ false) (sym (append_assoc (written n) (more_written_pairs ms) s))
      (value_no_equals n (more_written_pairs ms ++ s) json.1))
      (goes_joined (written n) (more_written_pairs ms) s
      (node_goes home n k (more_written_pairs ms ++ s) json.1 apart.1 small.0 (pairs_closed ms s)
      (more_pairs_go home ms k (before ++ (i, raw_of n) ∷ []) s json.2 apart.2 small.1
      (new_later before i (raw_of n) n ms new apart.0) h))))))
