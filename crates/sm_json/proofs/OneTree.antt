-- Bytes are a JSON text of at most one tree (RFC 8259): by cases on two trees that they are a text of. A
-- number ends where no byte of a number follows, and all else ends by itself.
use Rattle.std.proofs.Common.{◌≡◌, ◌++◌, ◌==◌, ℕ, true, false, cond, List, [], ◌∷◌, inl, inr, refl, sym, ap, ◌∙◌, subst, arith, lit<, codes}
use Rattle.std.proofs.lemmas.Bool.Decides.{nat_tests}
use Rattle.sm_tree.specs.Numbers.{NumberText}
use Rattle.sm_tree.specs.Node.{Node, Nodes, Members, null, bool, int, number, text, bytes, tag, opaque, list, object, no_nodes, node}
use Rattle.sm_tree.specs.Node.{no_members, member}
use Rattle.sm_json.specs.Strings.{is_whitespace, Whitespace, SpellsText}
use Rattle.sm_json.specs.JsonText.{SpellsNumber, Separator, SpellsValue, Entries, MoreEntries, Pairs, MorePairs}
use Rattle.sm_tree.specs.NumberTail.{IsNumberByte, AreNumberBytes}
use Rattle.sm_json.specs.Laws.{OneReading}
use Rattle.sm_json.proofs.Starts.{above, heads, tails, not_white, StartsNumber, FirstByte, spells_start}
use Rattle.sm_json.proofs.White.{first_not_white}
use Rattle.sm_tree.proofs.Numbers.{number_bytes, one_node}
use Rattle.sm_tree.proofs.NodeKinds.{NodeKind, of_null, of_true, of_false, of_number, of_text, of_list, of_object, node_kind, null_only}
use Rattle.sm_tree.proofs.NodeKinds.{true_only, false_only, text_only, list_only, object_only}
use Rattle.sm_json.proofs.Leaves.{number_is}
use Rattle.sm_json.proofs.Between.{bracket_begins_nothing}
use Rattle.sm_json.proofs.OneString.{one_text}

-- whitespace: what follows it, where that is not white

abbrev IsBlack : List ℕ → Type 0
IsBlack [] = Unit {0}
IsBlack (c ∷ s) = is_whitespace c ≡ false

-- whitespace takes at least what is white before it
skips_from : (s r q : List ℕ) → Whitespace s r → IsBlack r → Whitespace s q → IsBlack q → r ≡ q
skips_from [] r q e b f d = e ∙ sym f
skips_from (c ∷ s) r q (inl e) b (inl f) d = e ∙ sym f
skips_from (c ∷ s) r q (inl e) b (inr (w, g)) d = absurd (not_white c c (subst IsBlack e b) refl w)
skips_from (c ∷ s) r q (inr (w, h)) b (inl f) d = absurd (not_white c c (subst IsBlack f d) refl w)
skips_from (c ∷ s) r q (inr (w, h)) b (inr (x, g)) d = skips_from s r q h b g d

-- a byte that is not white, once whitespace has ended
skips_to : (c d : ℕ) (s r q : List ℕ) → is_whitespace c ≡ false → is_whitespace d ≡ false → Whitespace s (c ∷ r) → Whitespace s (d ∷ q)
    → (c ≡ d) × (r ≡ q)
skips_to c d s r q f g h k =
    let e = skips_from s (c ∷ r) (d ∷ q) h f k g in (heads c d r q e, tails c d r q e)

-- neither a value nor a string begins with whitespace
value_black : (n : Node) (s r : List ℕ) → SpellsValue n s r → IsBlack s
value_black n s r h =
    let (c, s1, e, first) = spells_start n s r h in subst IsBlack (sym e) (first_not_white n c first)

text_black : (t s r : List ℕ) → SpellsText t s r → IsBlack s
text_black t s r (cs, s1, e, o, h) = subst IsBlack (sym o) refl

-- a number ends before these bytes

abbrev Quits : List ℕ → Type 0
Quits [] = Unit {0}
Quits (c ∷ s) = IsNumberByte c → ⊥

-- whitespace is no byte of a number
number_byte_black : (c : ℕ) → IsNumberByte c → is_whitespace c ≡ false
number_byte_black c (inl digit) = first_not_white (number []) c (inl digit)
number_byte_black c (inr (inl e)) = ap is_whitespace e
number_byte_black c (inr (inr (inl e))) = ap is_whitespace e
number_byte_black c (inr (inr (inr (inl e)))) = ap is_whitespace e
number_byte_black c (inr (inr (inr (inr (inl e))))) = ap is_whitespace e
number_byte_black c (inr (inr (inr (inr (inr e))))) = ap is_whitespace e

quits_white : (c : ℕ) → is_whitespace c ≡ true → IsNumberByte c → ⊥
quits_white c w n = not_white c c (number_byte_black c n) refl w

-- before whitespace and then another byte, or nothing
quits_skips : (d : ℕ) (s r : List ℕ) → (IsNumberByte d → ⊥) → Whitespace s (d ∷ r) → Quits s
quits_skips d [] r f e = tt
quits_skips d (c ∷ s) r f (inl e) = subst (λ x. IsNumberByte x → ⊥) (heads d c r s e) f
quits_skips d (c ∷ s) r f (inr h) = quits_white c h.0

quits_nothing : (s : List ℕ) → Whitespace s [] → Quits s
quits_nothing [] e = tt
quits_nothing (c ∷ s) (inl e) = let f : [] ≡ c ∷ s = e in absurd cc
quits_nothing (c ∷ s) (inr h) = quits_white c h.0

-- what may stand behind a value there
comma : IsNumberByte 44 → ⊥
comma h = grind arith

bracket : IsNumberByte 93 → ⊥
bracket h = grind arith

brace : IsNumberByte 125 → ⊥
brace h = grind arith

-- behind a value in a list, and behind one in an object
quits_entries : (ns : Nodes) (s r : List ℕ) → MoreEntries ns s r → Quits s
quits_entries no_nodes s r k = quits_skips 93 s r bracket k
quits_entries (node n ns) s r (s1, s2, (x, k, k1), h, m) = quits_skips 44 s x comma k

quits_pairs : (ms : Members) (s r : List ℕ) → MorePairs ms s r → Quits s
quits_pairs no_members s r k = quits_skips 125 s r brace k
quits_pairs (member t n ms) s r (s1, s2, s3, s4, (x, k, k1), h, c, v, m) = quits_skips 44 s x comma k

-- and so the bytes tell where it ends
one_run : (t u r q : List ℕ) → AreNumberBytes t → AreNumberBytes u → Quits r → Quits q → t ++ r ≡ u ++ q → (t ≡ u) × (r ≡ q)
one_run [] [] r q a b x y e = (refl, e)
one_run [] (d ∷ u) r q a b x y e = absurd (subst Quits e x b.0)
one_run (c ∷ t) [] r q a b x y e = absurd (subst Quits (sym e) y a.0)
one_run (c ∷ t) (d ∷ u) r q a b x y e =
    let first = heads c d (t ++ r) (u ++ q) e in
    let (more, rest) = one_run t u r q a.1 b.1 x y (tails c d (t ++ r) (u ++ q) e) in
    (cc, rest)

-- a number, and what follows it
one_number : (n m : Node) (s r q : List ℕ) → SpellsNumber n s r → Quits r → SpellsNumber m s q → Quits q → (n ≡ m) × (r ≡ q)
one_number n m s r q (t, e, h) x (u, f, k) y =
    let (same, rest) = one_run t u r q (number_bytes t (number_is n t h)) (number_bytes u (number_is m u k)) x y (sym e ∙ f) in
    (one_node n m t h (subst (NumberText m) (sym same) k), rest)

-- what a tree is, as far as its first byte tells it
abbrev kind_at : ℕ → NodeKind
kind_at c =
    cond (c == 110) of_null (cond (c == 116) of_true
    (cond (c == 102) of_false (cond (c == 34) of_text (cond (c == 91) of_list (cond (c == 123) of_object of_number)))))

-- the first byte of a number, and of any value, tells what it is
number_kind : (c : ℕ) → StartsNumber c → kind_at c ≡ of_number
number_kind c (inl (low, high)) = grind (arith, nat_tests)
number_kind c (inr e) = ap kind_at e

told_kind : (n : Node) (c : ℕ) → FirstByte n c → kind_at c ≡ node_kind n
told_kind null c e = ap kind_at e
told_kind (bool true) c e = ap kind_at e
told_kind (bool false) c e = ap kind_at e
told_kind (int z) c h = number_kind c h
told_kind (number t) c h = number_kind c h
told_kind (text t) c e = ap kind_at e
told_kind (bytes t) c h = absurd h
told_kind (tag k n) c h = absurd h
told_kind (opaque b) c h = absurd h
told_kind (list ns) c e = ap kind_at e
told_kind (object ms) c e = ap kind_at e

-- and so two trees that the same bytes spell are alike in that
one_kind : (n m : Node) (s r q : List ℕ) → SpellsValue n s r → SpellsValue m s q → node_kind n ≡ node_kind m
one_kind n m s r q h k =
    let (c, s1, e, x) = spells_start n s r h in
    let (d, s2, f, y) = spells_start m s q k in
    sym (told_kind n c x) ∙ ap kind_at (heads c d s1 s2 (sym e ∙ f)) ∙ told_kind m d y

-- what is of the kind of numbers is spelled as a number
number_only : (m : Node) (s q : List ℕ) → of_number ≡ node_kind m → SpellsValue m s q → SpellsNumber m s q
number_only (int z) s q e k = k
number_only (number t) s q e k = k
number_only (bool true) s q e k = absurd cc
number_only (bool false) s q e k = absurd cc
number_only m s q e k = absurd cc

-- so a list that ends at once has no entry
not_closed : (n : Node) (s s1 s2 r : List ℕ) → Whitespace s (93 ∷ r) → Whitespace s s1 → SpellsValue n s1 s2 → ⊥
not_closed n s s1 s2 r a b h =
    let (c, u, e, x) = spells_start n s1 s2 h in
    let same = skips_to 93 c s r u refl (first_not_white n c x) a (subst (Whitespace s) e b) in
    bracket_begins_nothing n (subst (FirstByte n) (sym same.0) x)

-- what follows a word
same_word : (w s r q : List ℕ) → s ≡ w ++ r → s ≡ w ++ q → r ≡ q
same_word [] s r q e f = sym e ∙ f
same_word (c ∷ w) s r q e f = same_word w (w ++ r) r q refl (tails c c (w ++ r) (w ++ q) (sym e ∙ f))

-- a separator, and what follows it
one_separator : (c : ℕ) (s r q : List ℕ) → is_whitespace c ≡ false → Separator c s r → IsBlack r → Separator c s q → IsBlack q → r ≡ q
one_separator c s r q f (x, a, a1) b (y, k, k1) d =
    let (e, same) = skips_to c c s x y f f a k in
    skips_from x r q a1 b (subst (λ z. Whitespace z q) (sym same) k1) d

-- what is claimed of a tree, of the entries behind one and of the pairs behind one

abbrev OneValue : Node → Type 0
OneValue n = (m : Node) (s r q : List ℕ) → SpellsValue n s r → Quits r → SpellsValue m s q → Quits q → (n ≡ m) × (r ≡ q)

abbrev OneMore : Nodes → Type 0
OneMore ns = (ms : Nodes) (s r q : List ℕ) → MoreEntries ns s r → MoreEntries ms s q → (ns ≡ ms) × (r ≡ q)

abbrev OneMorePairs : Members → Type 0
OneMorePairs ns = (ms : Members) (s r q : List ℕ) → MorePairs ns s r → MorePairs ms s q → (ns ≡ ms) × (r ≡ q)

-- an entry at its first byte, and the entries behind it

abbrev EntryNow : Node → Nodes → List ℕ → List ℕ → Type 0
EntryNow n ns s r = (s1 : List ℕ) × SpellsValue n s s1 × MoreEntries ns s1 r

one_entry : (n m : Node) (ns ms : Nodes) (s r q : List ℕ) → OneValue n → OneMore ns → EntryNow n ns s r → EntryNow m ms s q
    → (node n ns ≡ node m ms) × (r ≡ q)
one_entry n m ns ms s r q value more (s1, h, hs) (s2, g, gs) =
    let (same, behind) = value m s s1 s2 h (quits_entries ns s1 r hs) g (quits_entries ms s2 q gs) in
    let (others, rest) = more ms s1 r q hs (subst (λ z. MoreEntries ms z q) (sym behind) gs) in
    (cc, rest)

-- a pair at its first byte, and the pairs behind it

abbrev PairNow : List ℕ → Node → Members → List ℕ → List ℕ → Type 0
PairNow t n ns s r = (s1 s2 s3 : List ℕ) × SpellsText t s s1 × Separator 58 s1 s2 × SpellsValue n s2 s3 × MorePairs ns s3 r

one_pair : (t u : List ℕ) (n m : Node) (ns ms : Members) (s r q : List ℕ) → OneValue n → OneMorePairs ns → PairNow t n ns s r
    → PairNow u m ms s q → (member t n ns ≡ member u m ms) × (r ≡ q)
one_pair t u n m ns ms s r q value more (s1, s2, s3, x, a, h, hs) (t1, t2, t3, y, b, g, gs) =
    let (name, colon) = one_text t u s s1 t1 x y in
    let start = one_separator 58 s1 t2 s2 refl (subst (λ z. Separator 58 z t2) (sym colon) b) (value_black m t2 t3 g) a
    (value_black n s2 s3 h) in
    let (same, behind) = value m s2 s3 t3 h (quits_pairs ns s3 r hs) (subst (λ z. SpellsValue m z t3) start g) (quits_pairs ms t3 q gs) in
    let (others, rest) = more ms s3 r q hs (subst (λ z. MorePairs ms z q) (sym behind) gs) in
    (cc, rest)

mutual
  -- a value
  one_value : (n : Node) → OneValue n
  one_value null m s r q h x k y =
      let e = null_only m (one_kind null m s r q h k) in
      (sym e, same_word (codes "null") s r q h (subst (λ z. SpellsValue z s q) e k))
  one_value (bool true) m s r q h x k y =
      let e = true_only m (one_kind (bool true) m s r q h k) in
      (sym e, same_word (codes "true") s r q h (subst (λ z. SpellsValue z s q) e k))
  one_value (bool false) m s r q h x k y =
      let e = false_only m (one_kind (bool false) m s r q h k) in
      (sym e, same_word (codes "false") s r q h (subst (λ z. SpellsValue z s q) e k))
  one_value (int z) m s r q h x k y = one_number (int z) m s r q h x (number_only m s q (one_kind (int z) m s r q h k) k) y
  one_value (number t) m s r q h x k y = one_number (number t) m s r q h x (number_only m s q (one_kind (number t) m s r q h k) k) y
  one_value (text t) m s r q h x k y =
      let (u, e) = text_only m (one_kind (text t) m s r q h k) in
      let (same, rest) = one_text t u s r q h (subst (λ z. SpellsValue z s q) e k) in
      (ap text same ∙ sym e, rest)
  one_value (bytes t) m s r q h x k y = absurd h
  one_value (tag a n) m s r q h x k y = absurd h
  one_value (opaque b) m s r q h x k y = absurd h
  one_value (list ns) m s r q h x k y =
      let (ms, e) = list_only m (one_kind (list ns) m s r q h k) in
      let g = subst (λ z. SpellsValue z s q) e k in
      let (same, rest) = one_entries ns ms h.0 r q h.2 (subst (λ z. Entries ms z q) (tails 91 91 g.0 h.0 (sym g.1 ∙ h.1)) g.2) in
      (ap list same ∙ sym e, rest)
  one_value (object ns) m s r q h x k y =
      let (ms, e) = object_only m (one_kind (object ns) m s r q h k) in
      let g = subst (λ z. SpellsValue z s q) e k in
      let (same, rest) = one_pairs ns ms h.0 r q h.2 (subst (λ z. Pairs ms z q) (tails 123 123 g.0 h.0 (sym g.1 ∙ h.1)) g.2) in
      (ap object same ∙ sym e, rest)

  -- the entries of a list
  one_entries : (ns ms : Nodes) (s r q : List ℕ) → Entries ns s r → Entries ms s q → (ns ≡ ms) × (r ≡ q)
  one_entries no_nodes no_nodes s r q a b = (refl, (skips_to 93 93 s r q refl refl a b).1)
  one_entries no_nodes (node m ms) s r q a (s1, s2, b, h, more) = absurd (not_closed m s s1 s2 r a b h)
  one_entries (node n ns) no_nodes s r q (s1, s2, a, h, more) b = absurd (not_closed n s s1 s2 q b a h)
  one_entries (node n ns) (node m ms) s r q (s1, s2, a, h, hs) (t1, t2, b, g, gs) =
      let start = skips_from s t1 s1 b (value_black m t1 t2 g) a (value_black n s1 s2 h) in
      one_entry n m ns ms s1 r q (λ k. one_value n k) (λ ks. one_more ns ks) (s2, h, hs) (t2, subst (λ z. SpellsValue m z t2) start g, gs)

  -- the entries behind another
  one_more : (ns : Nodes) → OneMore ns
  one_more no_nodes no_nodes s r q a b = (refl, (skips_to 93 93 s r q refl refl a b).1)
  one_more no_nodes (node m ms) s r q a (s1, s2, (x, b, c), h, more) = absurd (above 93 44 (lit< tt) (skips_to 93 44 s r x refl refl a b).0)
  one_more (node n ns) no_nodes s r q (s1, s2, (x, a, c), h, more) b = absurd (above 93 44 (lit< tt) (skips_to 93 44 s q x refl refl b a).0)
  one_more (node n ns) (node m ms) s r q (s1, s2, a, h, hs) (t1, t2, b, g, gs) =
      let start = one_separator 44 s t1 s1 refl b (value_black m t1 t2 g) a (value_black n s1 s2 h) in
      one_entry n m ns ms s1 r q (λ k. one_value n k) (λ ks. one_more ns ks) (s2, h, hs) (t2, subst (λ z. SpellsValue m z t2) start g, gs)

  -- the pairs of an object
  one_pairs : (ns ms : Members) (s r q : List ℕ) → Pairs ns s r → Pairs ms s q → (ns ≡ ms) × (r ≡ q)
  one_pairs no_members no_members s r q a b = (refl, (skips_to 125 125 s r q refl refl a b).1)
  one_pairs no_members (member u m ms) s r q a (s1, s2, s3, s4, b, (cs, x, e, o, h), c, v, more) =
      absurd (above 125 34 (lit< tt) (skips_to 125 34 s r x refl refl a (subst (Whitespace s) o b)).0)
  one_pairs (member t n ns) no_members s r q (s1, s2, s3, s4, a, (cs, x, e, o, h), c, v, more) b =
      absurd (above 125 34 (lit< tt) (skips_to 125 34 s q x refl refl b (subst (Whitespace s) o a)).0)
  one_pairs (member t n ns) (member u m ms) s r q (s1, s2, s3, s4, a, x, c, h, hs) (t1, t2, t3, t4, b, y, d, g, gs) =
      let start = skips_from s t1 s1 b (text_black u t1 t2 y) a (text_black t s1 s2 x) in
      one_pair t u n m ns ms s1 r q (λ k. one_value n k) (λ ks. one_more_pairs ns ks) (s2, s3, s4, x, c, h, hs)
      (t2, t3, t4, subst (λ z. SpellsText u z t2) start y, d, g, gs)

  -- the pairs behind another
  one_more_pairs : (ns : Members) → OneMorePairs ns
  one_more_pairs no_members no_members s r q a b = (refl, (skips_to 125 125 s r q refl refl a b).1)
  one_more_pairs no_members (member u m ms) s r q a (s1, s2, s3, s4, (x, b, b1), t, c, v, more) =
      absurd (above 125 44 (lit< tt) (skips_to 125 44 s r x refl refl a b).0)
  one_more_pairs (member t n ns) no_members s r q (s1, s2, s3, s4, (x, a, a1), k, c, v, more) b =
      absurd (above 125 44 (lit< tt) (skips_to 125 44 s q x refl refl b a).0)
  one_more_pairs (member t n ns) (member u m ms) s r q (s1, s2, s3, s4, a, x, c, h, hs) (t1, t2, t3, t4, b, y, d, g, gs) =
      let start = one_separator 44 s t1 s1 refl b (text_black u t1 t2 y) a (text_black t s1 s2 x) in
      one_pair t u n m ns ms s1 r q (λ k. one_value n k) (λ ks. one_more_pairs ns ks) (s2, s3, s4, x, c, h, hs)
      (t2, t3, t4, subst (λ z. SpellsText u z t2) start y, d, g, gs)

-- a text, and the whitespace round its value
pub one_tree : OneReading
one_tree n m bs (s, r, a, h, b) (t, q, c, k, d) =
    let start = skips_from bs t s c (value_black m t q k) a (value_black n s r h) in
    (one_value n m s r q h (quits_nothing r b) (subst (λ z. SpellsValue m z q) start k) (quits_nothing q d)).0
