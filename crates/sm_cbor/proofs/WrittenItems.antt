-- What is written for a tree is an item of that tree.
use Rattle.std.proofs.Common.{◌≡◌, ℕ, ℤ, pos, negsuc, suc, ◌+◌, ◌*◌, ◌/◌, ◌%◌, ◌^◌, ◌≤◌, ◌<◌, inl, inr, true, false, List, [], ◌∷◌, ◌++◌}
use Rattle.std.proofs.Common.{refl, sym, ap, subst, ◌∙◌, arith, length, drop, length-append, append_assoc, append-nil, IsUtf8, FitsSigned}
use Rattle.std.specs.Int.{w64}
use Rattle.std.proofs.lemmas.Bool.{cond-true, cond-false, lt-ltb, le-ltb, cases_lt}
use Rattle.sm_tree.specs.Json.{AreBytes, IsCbor, AreCbor, AreCborMembers}
use Rattle.sm_tree.specs.Node.{Node, Nodes, Members, null, bool, int, number, text, bytes, tag, opaque, list, object, no_nodes, node}
use Rattle.sm_tree.specs.Node.{no_members, member}
use Rattle.sm_cbor.specs.Heads.{Number, Head}
use Rattle.sm_cbor.specs.CborItem.{CborItem, Item, Integer, Definite, TextString, CountedEntries, CountedPairs}
use Rattle.sm_cbor.specs.Written.{two_bytes, four_bytes, eight_bytes, written_head, written_int, written_text_item, written_item}
use Rattle.sm_cbor.specs.Written.{written_item_entries, written_item_pairs}
use Rattle.sm_cbor.specs.Laws.{WrittenIsItem}
use Rattle.std.proofs.Math.Seq.{drop-append_seam}
use Rattle.sm_tree.specs.Levels.{levels}
use Rattle.sm_tree.specs.Limits.{most_levels}
use Rattle.sm_tree.specs.Syntax.{IsRead}
use Rattle.sm_tree.specs.Streams.{entry_count, pair_count}

-- the five forms of a head
pub short_head : (m n : ℕ) → n < 24 → written_head m n ≡ (m * 32 + n) ∷ []
short_head m n a = cond-true _ _ _ (lt-ltb n 24 a)

pub one_head : (m n : ℕ) → 24 ≤ n → n < 256 → written_head m n ≡ (m * 32 + 24) ∷ n ∷ []
one_head m n a b = cond-false _ _ _ (le-ltb n 24 a) ∙ cond-true _ _ _ (lt-ltb n 256 b)

pub two_head : (m n : ℕ) → 256 ≤ n → n < 65536 → written_head m n ≡ (m * 32 + 25) ∷ two_bytes n
two_head m n a b = cond-false _ _ _ (le-ltb n 24 (omega arith)) ∙ cond-false _ _ _ (le-ltb n 256 a) ∙ cond-true _ _ _ (lt-ltb n 65536 b)

pub four_head : (m n : ℕ) → 65536 ≤ n → n < 4294967296 → written_head m n ≡ (m * 32 + 26) ∷ four_bytes n
four_head m n a b =
    cond-false _ _ _ (le-ltb n 24 (omega arith)) ∙ cond-false _ _ _ (le-ltb n 256 (omega arith)) ∙ cond-false _ _ _ (le-ltb n 65536 a)
    ∙ cond-true _ _ _ (lt-ltb n 4294967296 b)

pub eight_head : (m n : ℕ) → 4294967296 ≤ n → written_head m n ≡ (m * 32 + 27) ∷ eight_bytes n
eight_head m n a =
    cond-false _ _ _ (le-ltb n 24 (omega arith)) ∙ cond-false _ _ _ (le-ltb n 256 (omega arith))
    ∙ cond-false _ _ _ (le-ltb n 65536 (omega arith)) ∙ cond-false _ _ _ (le-ltb n 4294967296 a)

-- bytes in network byte order
two_more : (v n : ℕ) (s r : List ℕ) (k m : ℕ) → n < 65536 → Number k (v * 65536 + n) m s r → Number (suc (suc k)) v m (two_bytes n ++ s) r
two_more v n s r k m small h =
    let same : v * 65536 + n ≡ (v * 256 + n / 256) * 256 + n % 256 = omega arith in
    (omega arith, (omega arith, subst (λ x. Number k x m s r) same h))

four_more : (v n : ℕ) (s r : List ℕ) (k m : ℕ) → n < 4294967296 → Number k (v * 4294967296 + n) m s r
    → Number (suc (suc (suc (suc k)))) v m (four_bytes n ++ s) r
four_more v n s r k m small h =
    let same : v * 4294967296 + n ≡ (v * 65536 + n / 65536) * 65536 + n % 65536 = omega arith in
    two_more v (n / 65536) (two_bytes (n % 65536) ++ s) r (suc (suc k)) m (omega arith)
    (two_more (v * 65536 + n / 65536) (n % 65536) s r k m (omega arith) (subst (λ x. Number k x m s r) same h))

two_number : (n : ℕ) (r : List ℕ) → n < 65536 → Number 2 0 n (two_bytes n ++ r) r
two_number n r small = two_more 0 n r r 0 n small (omega arith, refl)

four_number : (n : ℕ) (r : List ℕ) → n < 4294967296 → Number 4 0 n (four_bytes n ++ r) r
four_number n r small = four_more 0 n r r 0 n small (omega arith, refl)

eight_number : (n : ℕ) (r : List ℕ) → n < 2 ^ 64 → Number 8 0 n (eight_bytes n ++ r) r
eight_number n r small =
    let last : Number 0 (n / 4294967296 * 4294967296 + n % 4294967296) n r r = (omega arith, refl) in
    let first : Number 0 (0 * 4294967296 + n / 4294967296) (n / 4294967296) r r = (omega arith, refl) in
    four_more 0 (n / 4294967296) (four_bytes (n % 4294967296) ++ r) r 4 n (omega arith)
    (subst (λ x. Number 4 x n (four_bytes (n % 4294967296) ++ r) r) first.0
    (four_more (n / 4294967296) (n % 4294967296) r r 0 n (omega arith) last))

-- a written head is a head
pub head_is : (m n : ℕ) (r : List ℕ) → n < 2 ^ 64 → Head m n (written_head m n ++ r) r
head_is m n r small = elim (cases_lt n 24) [
  | inl a ↦ subst (λ x. Head m n (x ++ r) r) (sym (short_head m n a)) (omega arith, inl (omega arith, (omega arith, refl)))
  | inr a ↦ elim (cases_lt n 256) [
    | inl b ↦ subst (λ x. Head m n (x ++ r) r) (sym (one_head m n a b))
        (omega arith, inr (1, inl (omega arith, refl), (b, (omega arith, refl))))
    | inr b ↦ elim (cases_lt n 65536) [
      | inl d ↦ subst (λ x. Head m n (x ++ r) r) (sym (two_head m n b d))
          (omega arith, inr (2, inr (inl (omega arith, refl)), two_number n r d))
      | inr d ↦ elim (cases_lt n 4294967296) [
        | inl e ↦ subst (λ x. Head m n (x ++ r) r) (sym (four_head m n d e))
            (omega arith, inr (4, inr (inr (inl (omega arith, refl))), four_number n r e))
        | inr e ↦ subst (λ x. Head m n (x ++ r) r) (sym (eight_head m n e))
            (omega arith, inr (8, inr (inr (inr (omega arith, refl))), eight_number n r small))
      ]
    ]
  ]
]

-- and it has some bytes, as many for each major type
head_long : (m n : ℕ) → 1 ≤ length (written_head m n)
head_long m n = elim (cases_lt n 24) [
  | inl a ↦ let e = ap length (short_head m n a) in omega arith
  | inr a ↦ elim (cases_lt n 256) [
    | inl b ↦ let e = ap length (one_head m n a b) in omega arith
    | inr b ↦ elim (cases_lt n 65536) [
      | inl d ↦ let e = ap length (two_head m n b d) in omega arith
      | inr d ↦ elim (cases_lt n 4294967296) [
        | inl f ↦ let e = ap length (four_head m n d f) in omega arith
        | inr f ↦ let e = ap length (eight_head m n f) in omega arith
      ]
    ]
  ]
]

int_is : (z : ℤ) (r : List ℕ) → FitsSigned w64 z → Integer z (written_int z ++ r) r
int_is (pos n) r fits = (n, inl (head_is 0 n r (omega arith), refl))
int_is (negsuc n) r fits = (n, inr (head_is 1 n r (omega arith), refl))

string_is : (m : ℕ) (P : List ℕ → Type 0) (t r : List ℕ) → length t < 2 ^ 64 → P t
    → Definite m P t ((written_head m (length t) ++ t) ++ r) r
string_is m P t r small is = (
  t ++ r,
  subst (λ x. Head m (length t) x (t ++ r)) (sym (append_assoc (written_head m (length t)) t r))
      (head_is m (length t) (t ++ r) small),
  refl,
  is,
)

string_long : (m : ℕ) (t : List ℕ) → length t + 1 ≤ length (written_head m (length t) ++ t)
string_long m t = let h = head_long m (length t) in omega (arith, length-append (written_head m (length t)) t)

-- each tree is written in some bytes, so counts are no greater than lengths
some : (n : Node) → IsCbor n → 1 ≤ length (written_item n)
some null c = omega arith
some (bool true) c = omega arith
some (bool false) c = omega arith
some (int (pos n)) c = head_long 0 n
some (int (negsuc n)) c = head_long 1 n
some (number t) c = absurd c
some (text t) c = let h = string_long 3 t in omega arith
some (bytes t) c = let h = string_long 2 t in omega arith
some (tag k n) c = let h = head_long 6 k in omega (arith, length-append (written_head 6 k) (written_item n))
some (opaque b) c = absurd c
some (list ns) c = let h = head_long 4 (entry_count ns) in
    omega (arith, length-append (written_head 4 (entry_count ns)) (written_item_entries ns))
some (object ms) c = let h = head_long 5 (pair_count ms) in
    omega (arith, length-append (written_head 5 (pair_count ms)) (written_item_pairs ms))

entries_count : (ns : Nodes) → AreCbor ns → entry_count ns ≤ length (written_item_entries ns)
entries_count no_nodes c = omega arith
entries_count (node n ns) c =
    let first = some n c.0 in
    let more = entries_count ns c.1 in
    omega (arith, length-append (written_item n) (written_item_entries ns))

pairs_count : (ms : Members) → AreCborMembers ms → pair_count ms ≤ length (written_item_pairs ms)
pairs_count no_members c = omega arith
pairs_count (member k n ms) c =
    let key = string_long 3 k in
    let more = pairs_count ms c.2 in
    omega (
      arith,
      length-append (written_text_item k) (written_item n ++ written_item_pairs ms),
      length-append (written_item n)
          (written_item_pairs ms),
    )

-- what is short enough as a whole is so in its parts
prefix_short : (a b : List ℕ) → length (a ++ b) < 2 ^ 64 → length a < 2 ^ 64
prefix_short a b h = omega (arith, length-append a b)

back_short : (a b : List ℕ) → length (a ++ b) < 2 ^ 64 → length b < 2 ^ 64
back_short a b h = omega (arith, length-append a b)

mutual
  pub item_of : (n : Node) (r : List ℕ) → IsCbor n → length (written_item n) < 2 ^ 64 → Item TextString n (written_item n ++ r) r
  item_of null r c small = inl (refl, refl)
  item_of (bool true) r c small = (refl, refl)
  item_of (bool false) r c small = (refl, refl)
  item_of (int z) r c small = (c, int_is z r c)
  item_of (number t) r c small = absurd c
  item_of (text t) r c small = let long = string_long 3 t in inl (string_is 3 IsUtf8 t r (omega arith) c)
  item_of (bytes t) r c small = let long = string_long 2 t in inl (string_is 2 AreBytes t r (omega arith) c)
  item_of (tag k n) r c small =
      let content = item_of n r c.1 (back_short (written_head 6 k) (written_item n) small) in (
        written_item n ++ r,
        subst (λ x. Head 6 k x (written_item n ++ r)) (sym (append_assoc (written_head 6 k) (written_item n) r))
            (head_is 6 k (written_item n ++ r) c.0),
        content,
      )
  item_of (opaque b) r c small = absurd c
  item_of (list ns) r c small =
      let few = entries_count ns c in
      let short = back_short (written_head 4 (entry_count ns)) (written_item_entries ns) small in
      inl (
        entry_count ns,
        written_item_entries ns ++ r,
        subst (λ x. Head 4 (entry_count ns) x (written_item_entries ns ++ r))
            (sym (append_assoc (written_head 4 (entry_count ns)) (written_item_entries ns) r))
            (head_is 4 (entry_count ns) (written_item_entries ns ++ r) (omega arith)),
        entries_of ns r c short,
      )
  item_of (object ms) r c small =
      let few = pairs_count ms c in
      let short = back_short (written_head 5 (pair_count ms)) (written_item_pairs ms) small in
      inl (
        pair_count ms,
        written_item_pairs ms ++ r,
        subst (λ x. Head 5 (pair_count ms) x (written_item_pairs ms ++ r))
            (sym (append_assoc (written_head 5 (pair_count ms)) (written_item_pairs ms) r))
            (head_is 5 (pair_count ms) (written_item_pairs ms ++ r) (omega arith)),
        pairs_of ms r c short,
      )

  entries_of : (ns : Nodes) (r : List ℕ) → AreCbor ns → length (written_item_entries ns) < 2 ^ 64
      → CountedEntries TextString (entry_count ns) ns (written_item_entries ns ++ r) r
  entries_of no_nodes r c small = (refl, refl)
  entries_of (node n ns) r c small = (
    entry_count ns,
    refl,
    written_item_entries ns ++ r,
    subst (λ x. Item TextString n x (written_item_entries ns ++ r)) (sym (append_assoc (written_item n) (written_item_entries ns) r))
        (item_of n (written_item_entries ns ++ r) c.0 (prefix_short (written_item n) (written_item_entries ns) small)),
    entries_of ns r c.1 (back_short (written_item n) (written_item_entries ns) small),
  )

  pairs_of : (ms : Members) (r : List ℕ) → AreCborMembers ms → length (written_item_pairs ms) < 2 ^ 64
      → CountedPairs TextString (pair_count ms) ms (written_item_pairs ms ++ r) r
  pairs_of no_members r c small = (refl, refl)
  pairs_of (member k n ms) r c small =
      let behind = back_short (written_text_item k) (written_item n ++ written_item_pairs ms) small in
      let key_short = prefix_short (written_text_item k) (written_item n ++ written_item_pairs ms) small in
      let long = string_long 3 k in
      let tail : (written_item n ++ written_item_pairs ms) ++ r ≡ written_item n ++ (written_item_pairs ms ++ r) =
      append_assoc (written_item n) (written_item_pairs ms) r in (
        pair_count ms,
        refl,
        (written_item n ++ written_item_pairs ms) ++ r,
        written_item_pairs ms ++ r,
        subst (λ x. TextString k x ((written_item n ++ written_item_pairs ms) ++ r))
            (sym (append_assoc (written_text_item k) (written_item n ++ written_item_pairs ms) r))
            (inl (string_is 3 IsUtf8 k ((written_item n ++ written_item_pairs ms) ++ r) (omega arith) c.0)),
        subst (λ x. Item TextString n x (written_item_pairs ms ++ r)) (sym tail)
            (item_of n (written_item_pairs ms ++ r) c.1 (prefix_short (written_item n) (written_item_pairs ms) behind)),
        pairs_of ms r c.2 (back_short (written_item n) (written_item_pairs ms) behind),
      )

pub written_is_item : WrittenIsItem
written_is_item n c small = subst (λ x. Item TextString n x []) (append-nil (written_item n)) (item_of n [] c small)

-- and so it is read where it was appended to some bytes
pub appended_is_read : (n : Node) (before now : List ℕ) → now ≡ before ++ written_item n → IsCbor n → length (written_item n) < 2 ^ 64
    → levels n ≤ most_levels → IsRead CborItem n (drop (length before) now)
appended_is_read n before now is cbor small few =
    (subst (CborItem n) (sym (ap (drop (length before)) is ∙ drop-append_seam before (written_item n))) (written_is_item n cbor small), few)
