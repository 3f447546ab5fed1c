-- Bytes are an item of at most one tree, and are one thing alone: by cases on two trees that they are an item of.
use Rattle.std.proofs.Common.{◌≡◌, ◌≢◌, ℕ, ℤ, pos, negsuc, zero, suc, ◌+◌, ◌*◌, ◌/◌, ◌%◌, ◌<◌, ◌==◌, inl, inr, true, false, cond, List}
use Rattle.std.proofs.Common.{[], ◌∷◌, ◌++◌, refl, sym, ap, subst, ◌∙◌, arith, length, length-append, append-nil, IsUtf8, FitsSigned}
use Rattle.std.specs.Int.{w64}
use Rattle.std.specs.Fmt.{signed_decimal}
use Rattle.std.specs.List.{concat}
use Rattle.std.proofs.lemmas.Bool.{cond-false}
use Rattle.sm_tree.specs.Json.{AreBytes}
use Rattle.sm_tree.specs.Node.{Node, Nodes, Members, null, bool, int, number, text, bytes, tag, opaque, list, object, no_nodes, node}
use Rattle.sm_tree.specs.Node.{no_members, member}
use Rattle.sm_cbor.specs.Heads.{Byte, Number, Argument, Head, Indefinite}
use Rattle.sm_cbor.specs.CborItem.{Item, Integer, Definite, Chunks, String, TextString, CountedEntries, EntriesToBreak, CountedPairs}
use Rattle.sm_cbor.specs.CborItem.{PairsToBreak}
use Rattle.sm_tree.proofs.NodeKinds.{NodeKind, node_kind, of_null, of_true, of_false, of_number, of_text, of_bytes, of_tag, of_opaque}
use Rattle.sm_tree.proofs.NodeKinds.{of_list, of_object, null_only, true_only, false_only, text_only, bytes_only, tag_only, opaque_only}
use Rattle.sm_tree.proofs.NodeKinds.{list_only, object_only}
use Rattle.sm_tree.specs.SyntaxLaws.{HasOneReading}
use Rattle.sm_cbor.specs.Refusals.{cbor_syntax}
use Rattle.sm_cbor.proofs.Arguments.{other_byte, argument_starts, argument_onward, no_argument}
use Rattle.sm_cbor.proofs.StringSteps.{split}

-- what a byte is followed by
one_byte : (b c : ℕ) (s r q : List ℕ) → Byte b s r → Byte c s q → (b ≡ c) × (r ≡ q)
one_byte b c [] r q h k = absurd h
one_byte b c (x ∷ s) r q h k = (sym h.0 ∙ k.0, sym h.1 ∙ k.1)

-- an argument, and what follows it
one_number : (k v n m : ℕ) (s r q : List ℕ) → Number k v n s r → Number k v m s q → (n ≡ m) × (r ≡ q)
one_number zero v n m s r q h g = (h.0 ∙ sym g.0, sym h.1 ∙ g.1)
one_number (suc k) v n m [] r q h g = absurd h
one_number (suc k) v n m (b ∷ s) r q h g = one_number k (v * 256 + b) n m s r q h.1 g.1

one_argument : (info n m : ℕ) (s r q : List ℕ) → Argument info n s r → Argument info m s q → (n ≡ m) × (r ≡ q)
one_argument info n m s r q h g =
    let (k, v, starts, more) = argument_starts info n s r h in one_number k v n m s r q more (argument_onward info k v m s q starts g)

one_head : (i n m : ℕ) (s r q : List ℕ) → Head i n s r → Head i m s q → (n ≡ m) × (r ≡ q)
one_head i n m [] r q h g = absurd h
one_head i n m (c ∷ s) r q h g = one_argument (c % 32) n m s r q h.1 g.1

-- a head has a length or none
apart : (i n : ℕ) (s r q : List ℕ) → Head i n s r → Indefinite i s q → ⊥
apart i n [] r q h g = h
apart i n (c ∷ s) r q h g = let f = g.0 in no_argument (c % 32) n s r (omega arith) h.1

-- an integer
one_integer : (y z : ℤ) (s r q : List ℕ) → Integer y s r → Integer z s q → (y ≡ z) × (r ≡ q)
one_integer y z [] r q (n, inl (h, e)) k = absurd h
one_integer y z [] r q (n, inr (h, e)) k = absurd h
one_integer y z (c ∷ s) r q (n, inl (h, e)) (m, inl (k, f)) = let (same, rest) = one_head 0 n m (c ∷ s) r q h k in
    (e ∙ ap pos same ∙ sym f, rest)
one_integer y z (c ∷ s) r q (n, inl (h, e)) (m, inr (k, f)) = absurd (let a = h.0 in let b = k.0 in omega arith)
one_integer y z (c ∷ s) r q (n, inr (h, e)) (m, inl (k, f)) = absurd (let a = h.0 in let b = k.0 in omega arith)
one_integer y z (c ∷ s) r q (n, inr (h, e)) (m, inr (k, f)) = let (same, rest) = one_head 1 n m (c ∷ s) r q h k in
    (e ∙ ap negsuc same ∙ sym f, rest)

-- strings
empty : (p : List ℕ) → length p ≡ 0 → p ≡ []
empty [] e = refl
empty (c ∷ p) e = absurd (omega arith)

same_length : (t u r q : List ℕ) → length t ≡ length u → t ++ r ≡ u ++ q → (t ≡ u) × (r ≡ q)
same_length t u r q len e =
    let (p, f, g) = split t r u q e (omega arith) in
    let none : p ≡ [] = empty p (omega (arith, len, ap length f, length-append t p)) in
    (sym (f ∙ ap (λ x. t ++ x) none ∙ append-nil t), g ∙ ap (λ x. x ++ q) none)

one_definite : (i : ℕ) (P : List ℕ → Type 0) (t u s r q : List ℕ) → Definite i P t s r → Definite i P u s q → (t ≡ u) × (r ≡ q)
one_definite i P t u s r q (s1, h, e, is_t) (s2, k, f, is_u) =
    let (len, rest) = one_head i (length t) (length u) s s1 s2 h k in same_length t u r q len (sym e ∙ rest ∙ f)

no_chunk : (i : ℕ) (P : List ℕ → Type 0) (t s r q : List ℕ) → i < 7 → Byte 0xFF s r → Definite i P t s q → ⊥
no_chunk i P t [] r q small h k = h
no_chunk i P t (c ∷ s) r q small h (s1, k, e, is) = let a = h.0 in let b = k.0 in omega arith

one_chunks : (i : ℕ) (P : List ℕ → Type 0) (ts us : List (List ℕ)) (s r q : List ℕ) → i < 7 → Chunks i P ts s r → Chunks i P us s q
    → (concat ts ≡ concat us) × (r ≡ q)
one_chunks i P [] [] s r q small h k = (refl, (one_byte 0xFF 0xFF s r q h k).1)
one_chunks i P [] (u ∷ us) s r q small h (s2, k, more) = absurd (no_chunk i P u s r s2 small h k)
one_chunks i P (t ∷ ts) [] s r q small (s1, h, more) k = absurd (no_chunk i P t s q s1 small k h)
one_chunks i P (t ∷ ts) (u ∷ us) s r q small (s1, h, more) (s2, k, others) =
    let (first, rest) = one_definite i P t u s s1 s2 h k in
    let (joined, behind) = one_chunks i P ts us s1 r q small more (subst (λ x. Chunks i P us x q) (sym rest) others) in
    (ap (λ x. x ++ concat ts) first ∙ ap (λ x. u ++ x) joined, behind)

one_string : (i : ℕ) (P : List ℕ → Type 0) (t u s r q : List ℕ) → i < 7 → String i P t s r → String i P u s q → (t ≡ u) × (r ≡ q)
one_string i P t u s r q small (inl h) (inl k) = one_definite i P t u s r q h k
one_string i P t u s r q small (inl (s1, h, e, is)) (inr (s2, us, k, chunks, f)) = absurd (apart i (length t) s s1 s2 h k)
one_string i P t u s r q small (inr (s1, ts, h, chunks, e)) (inl (s2, k, f, is)) = absurd (apart i (length u) s s2 s1 k h)
one_string i P t u s r q small (inr (s1, ts, h, chunks, e)) (inr (s2, us, k, others, f)) =
    let start = (one_byte (i * 32 + 31) (i * 32 + 31) s s1 s2 h k).1 in
    let (joined, rest) = one_chunks i P ts us s1 r q small chunks (subst (λ x. Chunks i P us x q) (sym start) others) in
    (e ∙ joined ∙ sym f, rest)

-- what kind of tree the first byte tells
abbrev simple_kind : ℕ → NodeKind
simple_kind c = cond (c == 0xF4) of_false (cond (c == 0xF5) of_true (cond (c == 0xF6) of_null (cond (c == 0xF7) of_null of_opaque)))

abbrev kind_at : ℕ → ℕ → NodeKind
kind_at m c =
    cond (m == 0) of_number (cond (m == 1) of_number
    (cond (m == 2) of_bytes (cond (m == 3) of_text (cond (m == 4) of_list (cond (m == 5) of_object
    (cond (m == 6) of_tag (simple_kind c)))))))

at_byte : (c b : ℕ) (k : NodeKind) → c ≡ b → kind_at (b / 32) b ≡ k → kind_at (c / 32) c ≡ k
at_byte c b k e f = ap (λ x. kind_at (x / 32) x) e ∙ f

at_type : (c m : ℕ) (k : NodeKind) → c / 32 ≡ m → kind_at m c ≡ k → kind_at (c / 32) c ≡ k
at_type c m k e f = ap (λ x. kind_at x c) e ∙ f

opaque_kind : (c : ℕ) → c ≢ 0xF4 → c ≢ 0xF5 → c ≢ 0xF6 → c ≢ 0xF7 → simple_kind c ≡ of_opaque
opaque_kind c a b d e =
    cond-false _ _ _ (other_byte c 0xF4 a) ∙ cond-false _ _ _ (other_byte c 0xF5 b) ∙ cond-false _ _ _ (other_byte c 0xF6 d)
    ∙ cond-false _ _ _ (other_byte c 0xF7 e)

told : (n : Node) (c : ℕ) (s r : List ℕ) → Item TextString n (c ∷ s) r → kind_at (c / 32) c ≡ node_kind n
told null c s r (inl h) = at_byte c 0xF6 of_null h.0 refl
told null c s r (inr h) = at_byte c 0xF7 of_null h.0 refl
told (bool false) c s r h = at_byte c 0xF4 of_false h.0 refl
told (bool true) c s r h = at_byte c 0xF5 of_true h.0 refl
told (int z) c s r (fits, (n, inl (h, e))) = at_type c 0 of_number h.0 refl
told (int z) c s r (fits, (n, inr (h, e))) = at_type c 1 of_number h.0 refl
told (number t) c s r (z, out, is, (n, inl (h, e))) = at_type c 0 of_number h.0 refl
told (number t) c s r (z, out, is, (n, inr (h, e))) = at_type c 1 of_number h.0 refl
told (text t) c s r (inl (s1, h, e, is)) = at_type c 3 of_text h.0 refl
told (text t) c s r (inr (s1, ts, h, chunks, e)) = at_byte c 0x7F of_text h.0 refl
told (bytes t) c s r (inl (s1, h, e, is)) = at_type c 2 of_bytes h.0 refl
told (bytes t) c s r (inr (s1, ts, h, chunks, e)) = at_byte c 0x5F of_bytes h.0 refl
told (tag k n) c s r (s1, h, item) = at_type c 6 of_tag h.0 refl
told (opaque b) c s r (e, seven, n, a, inl low) =
    at_type c 7 of_opaque seven (opaque_kind c (λ f. omega arith) (λ f. omega arith) (λ f. omega arith) (λ f. omega arith))
told (opaque b) c s r (e, seven, n, a, inr (inl h)) = let info = h.0 in
    at_type c 7 of_opaque seven (opaque_kind c (λ f. omega arith) (λ f. omega arith) (λ f. omega arith) (λ f. omega arith))
told (opaque b) c s r (e, seven, n, a, inr (inr high)) =
    at_type c 7 of_opaque seven (opaque_kind c (λ f. omega arith) (λ f. omega arith) (λ f. omega arith) (λ f. omega arith))
told (list ns) c s r (inl (n, s1, h, more)) = at_type c 4 of_list h.0 refl
told (list ns) c s r (inr (s1, h, more)) = at_byte c 0x9F of_list h.0 refl
told (object ms) c s r (inl (n, s1, h, more)) = at_type c 5 of_object h.0 refl
told (object ms) c s r (inr (s1, h, more)) = at_byte c 0xBF of_object h.0 refl

-- no item in no bytes, and none at a break
item_some : (n : Node) (r : List ℕ) → Item TextString n [] r → ⊥
item_some null r (inl h) = h
item_some null r (inr h) = h
item_some (bool false) r h = h
item_some (bool true) r h = h
item_some (int z) r (fits, (n, inl (h, e))) = h
item_some (int z) r (fits, (n, inr (h, e))) = h
item_some (number t) r (z, out, is, (n, inl (h, e))) = h
item_some (number t) r (z, out, is, (n, inr (h, e))) = h
item_some (text t) r (inl (s1, h, e, is)) = h
item_some (text t) r (inr (s1, ts, h, chunks, e)) = h
item_some (bytes t) r (inl (s1, h, e, is)) = h
item_some (bytes t) r (inr (s1, ts, h, chunks, e)) = h
item_some (tag k n) r (s1, h, item) = h
item_some (opaque b) r h = h
item_some (list ns) r (inl (n, s1, h, more)) = h
item_some (list ns) r (inr (s1, h, more)) = h
item_some (object ms) r (inl (n, s1, h, more)) = h
item_some (object ms) r (inr (s1, h, more)) = h

no_break : (n : Node) (s r q : List ℕ) → Byte 0xFF s r → Item TextString n s q → ⊥
no_break n [] r q h k = h
no_break n (c ∷ s) r q h k =
    let (b, e) = opaque_only n (sym (at_byte c 0xFF of_opaque h.0 refl) ∙ told n c s q k) in
    let g = subst (λ x. Item TextString x (c ∷ s) q) e k in
    let f = h.0 in no_argument (c % 32) g.2 s q (omega arith) g.3

one_kind : (n m : Node) (s r q : List ℕ) → Item TextString n s r → Item TextString m s q → node_kind n ≡ node_kind m
one_kind n m [] r q h k = absurd (item_some n r h)
one_kind n m (c ∷ s) r q h k = sym (told n c s r h) ∙ told m c s q k

-- an integer has one tree
int_here : (z : ℤ) (m : Node) (s r q : List ℕ) → FitsSigned w64 z → Integer z s r → of_number ≡ node_kind m → Item TextString m s q
    → (int z ≡ m) × (r ≡ q)
int_here z (int y) s r q fits h e (other, k) = let (same, rest) = one_integer z y s r q h k in (ap int same, rest)
int_here z (number t) s r q fits h e (y, out, is, k) = let (same, rest) = one_integer z y s r q h k in
    absurd (out (subst (FitsSigned w64) same fits))
int_here z (bool true) s r q fits h e k = absurd cc
int_here z (bool false) s r q fits h e k = absurd cc
int_here z m s r q fits h e k = absurd cc

number_here : (t : List ℕ) (z : ℤ) (m : Node) (s r q : List ℕ) → (FitsSigned w64 z → ⊥) → t ≡ signed_decimal z → Integer z s r
    → of_number ≡ node_kind m → Item TextString m s q → (number t ≡ m) × (r ≡ q)
number_here t z (int y) s r q out is h e (fits, k) = let (same, rest) = one_integer z y s r q h k in
    absurd (out (subst (FitsSigned w64) (sym same) fits))
number_here t z (number u) s r q out is h e (y, other, is_u, k) = let (same, rest) = one_integer z y s r q h k in
    (ap number (is ∙ ap signed_decimal same ∙ sym is_u), rest)
number_here t z (bool true) s r q out is h e k = absurd cc
number_here t z (bool false) s r q out is h e k = absurd cc
number_here t z m s r q out is h e k = absurd cc

one_null : (s r q : List ℕ) → Item TextString null s r → Item TextString null s q → r ≡ q
one_null s r q (inl h) (inl k) = (one_byte 0xF6 0xF6 s r q h k).1
one_null s r q (inl h) (inr k) = (one_byte 0xF6 0xF7 s r q h k).1
one_null s r q (inr h) (inl k) = (one_byte 0xF7 0xF6 s r q h k).1
one_null s r q (inr h) (inr k) = (one_byte 0xF7 0xF7 s r q h k).1

one_opaque : (b d : ℕ) (s r q : List ℕ) → Item TextString (opaque b) s r → Item TextString (opaque d) s q → (b ≡ d) × (r ≡ q)
one_opaque b d [] r q h k = absurd h
one_opaque b d (c ∷ s) r q (e, seven, n, a, is) (f, also, m, g, is_m) = (sym e ∙ f, (one_argument (c % 32) n m s r q a g).1)

same_suc : (k m n : ℕ) → k ≡ suc m → k ≡ suc n → m ≡ n
same_suc k m n e f = omega arith

-- a list or a map, if its entries or pairs are one alone
abbrev OneEntries : Nodes → Type 0
OneEntries ns = (ms : Nodes) (k : ℕ) (s r q : List ℕ) → CountedEntries TextString k ns s r → CountedEntries TextString k ms s q
    → (ns ≡ ms) × (r ≡ q)

abbrev OneToBreak : Nodes → Type 0
OneToBreak ns = (ms : Nodes) (s r q : List ℕ) → EntriesToBreak TextString ns s r → EntriesToBreak TextString ms s q → (ns ≡ ms) × (r ≡ q)

one_list : (ns ms : Nodes) (s r q : List ℕ) → OneEntries ns → OneToBreak ns → Item TextString (list ns) s r → Item TextString (list ms) s q
    → (ns ≡ ms) × (r ≡ q)
one_list ns ms s r q counted broken (inl (n, s1, h, more)) (inl (m, s2, k, others)) =
    let (count, start) = one_head 4 n m s s1 s2 h k in
    counted ms n s1 r q more (subst (λ x. CountedEntries TextString x ms s1 q) (sym count)
    (subst (λ x. CountedEntries TextString m ms x q) (sym start) others))
one_list ns ms s r q counted broken (inl (n, s1, h, more)) (inr (s2, k, others)) = absurd (apart 4 n s s1 s2 h k)
one_list ns ms s r q counted broken (inr (s1, h, more)) (inl (m, s2, k, others)) = absurd (apart 4 m s s2 s1 k h)
one_list ns ms s r q counted broken (inr (s1, h, more)) (inr (s2, k, others)) =
    broken ms s1 r q more (subst (λ x. EntriesToBreak TextString ms x q) (sym (one_byte 0x9F 0x9F s s1 s2 h k).1) others)

abbrev OnePairs : Members → Type 0
OnePairs ns = (ms : Members) (k : ℕ) (s r q : List ℕ) → CountedPairs TextString k ns s r → CountedPairs TextString k ms s q
    → (ns ≡ ms) × (r ≡ q)

abbrev OnePairsToBreak : Members → Type 0
OnePairsToBreak ns = (ms : Members) (s r q : List ℕ) → PairsToBreak TextString ns s r → PairsToBreak TextString ms s q → (ns ≡ ms) × (r ≡ q)

one_map : (ns ms : Members) (s r q : List ℕ) → OnePairs ns → OnePairsToBreak ns → Item TextString (object ns) s r
    → Item TextString (object ms) s q → (ns ≡ ms) × (r ≡ q)
one_map ns ms s r q counted broken (inl (n, s1, h, more)) (inl (m, s2, k, others)) =
    let (count, start) = one_head 5 n m s s1 s2 h k in
    counted ms n s1 r q more (subst (λ x. CountedPairs TextString x ms s1 q) (sym count)
    (subst (λ x. CountedPairs TextString m ms x q) (sym start) others))
one_map ns ms s r q counted broken (inl (n, s1, h, more)) (inr (s2, k, others)) = absurd (apart 5 n s s1 s2 h k)
one_map ns ms s r q counted broken (inr (s1, h, more)) (inl (m, s2, k, others)) = absurd (apart 5 m s s2 s1 k h)
one_map ns ms s r q counted broken (inr (s1, h, more)) (inr (s2, k, others)) =
    broken ms s1 r q more (subst (λ x. PairsToBreak TextString ms x q) (sym (one_byte 0xBF 0xBF s s1 s2 h k).1) others)

-- no key begins with a break
no_key : (t s r q : List ℕ) → Byte 0xFF s r → TextString t s q → ⊥
no_key t [] r q h k = h
no_key t (c ∷ s) r q h (inl (s1, k, e, is)) = let a = h.0 in let b = k.0 in omega arith
no_key t (c ∷ s) r q h (inr (s1, ts, k, chunks, e)) = let a = h.0 in let b = k.0 in omega arith

mutual
  one_item : (n m : Node) (s r q : List ℕ) → Item TextString n s r → Item TextString m s q → (n ≡ m) × (r ≡ q)
  one_item null m s r q h k =
      let e = null_only m (one_kind null m s r q h k) in (sym e, one_null s r q h (subst (λ x. Item TextString x s q) e k))
  one_item (bool true) m s r q h k =
      let e = true_only m (one_kind (bool true) m s r q h k) in
      (sym e, (one_byte 0xF5 0xF5 s r q h (subst (λ x. Item TextString x s q) e k)).1)
  one_item (bool false) m s r q h k =
      let e = false_only m (one_kind (bool false) m s r q h k) in
      (sym e, (one_byte 0xF4 0xF4 s r q h (subst (λ x. Item TextString x s q) e k)).1)
  one_item (int z) m s r q h k = int_here z m s r q h.0 h.1 (one_kind (int z) m s r q h k) k
  one_item (number t) m s r q h k = number_here t h.0 m s r q h.1 h.2 h.3 (one_kind (number t) m s r q h k) k
  one_item (text t) m s r q h k =
      let (u, e) = text_only m (one_kind (text t) m s r q h k) in
      let (same, rest) = one_string 3 IsUtf8 t u s r q (omega arith) h (subst (λ x. Item TextString x s q) e k) in
      (ap text same ∙ sym e, rest)
  one_item (bytes t) m s r q h k =
      let (u, e) = bytes_only m (one_kind (bytes t) m s r q h k) in
      let (same, rest) = one_string 2 AreBytes t u s r q (omega arith) h (subst (λ x. Item TextString x s q) e k) in
      (ap bytes same ∙ sym e, rest)
  one_item (tag a n) m s r q h k =
      let (b, x, e) = tag_only m (one_kind (tag a n) m s r q h k) in
      let g = subst (λ y. Item TextString y s q) e k in
      let (number_same, start) = one_head 6 a b s h.0 g.0 h.1 g.1 in
      let (content, rest) = one_item n x h.0 r q h.2 (subst (λ y. Item TextString x y q) (sym start) g.2) in
      (ap (λ y. tag y n) number_same ∙ ap (tag b) content ∙ sym e, rest)
  one_item (opaque b) m s r q h k =
      let (d, e) = opaque_only m (one_kind (opaque b) m s r q h k) in
      let (same, rest) = one_opaque b d s r q h (subst (λ x. Item TextString x s q) e k) in
      (ap opaque same ∙ sym e, rest)
  one_item (list ns) m s r q h k =
      let (ms, e) = list_only m (one_kind (list ns) m s r q h k) in
      let (same, rest) = one_list ns ms s r q (λ us k t x y a b. one_entries ns us k t x y a b)
      (λ us t x y a b. one_to_break ns us t x y a b) h (subst (λ x. Item TextString x s q) e k) in
      (ap list same ∙ sym e, rest)
  one_item (object ns) m s r q h k =
      let (ms, e) = object_only m (one_kind (object ns) m s r q h k) in
      let (same, rest) = one_map ns ms s r q (λ us k t x y a b. one_pairs ns us k t x y a b)
      (λ us t x y a b. one_pairs_to_break ns us t x y a b) h (subst (λ x. Item TextString x s q) e k) in
      (ap object same ∙ sym e, rest)

  one_entries : (ns ms : Nodes) (k : ℕ) (s r q : List ℕ) → CountedEntries TextString k ns s r → CountedEntries TextString k ms s q
      → (ns ≡ ms) × (r ≡ q)
  one_entries no_nodes no_nodes k s r q h g = (refl, sym h.1 ∙ g.1)
  one_entries no_nodes (node y ys) k s r q h g = absurd (let e = h.0 in let f = g.1 in omega arith)
  one_entries (node x xs) no_nodes k s r q h g = absurd (let e = h.1 in let f = g.0 in omega arith)
  one_entries (node x xs) (node y ys) k s r q (n, e, s1, h, hs) (m, f, s2, g, gs) =
      let (first, rest) = one_item x y s s1 s2 h g in
      let less = same_suc k n m e f in
      let (others, behind) = one_entries xs ys n s1 r q hs
      (subst (λ z. CountedEntries TextString z ys s1 q) (sym less) (subst (λ z. CountedEntries TextString m ys z q) (sym rest) gs)) in
      (cc, behind)

  one_to_break : (ns ms : Nodes) (s r q : List ℕ) → EntriesToBreak TextString ns s r → EntriesToBreak TextString ms s q
      → (ns ≡ ms) × (r ≡ q)
  one_to_break no_nodes no_nodes s r q h g = (refl, (one_byte 0xFF 0xFF s r q h g).1)
  one_to_break no_nodes (node y ys) s r q h (s2, g, gs) = absurd (no_break y s r s2 h g)
  one_to_break (node x xs) no_nodes s r q (s1, h, hs) g = absurd (no_break x s q s1 g h)
  one_to_break (node x xs) (node y ys) s r q (s1, h, hs) (s2, g, gs) =
      let (first, rest) = one_item x y s s1 s2 h g in
      let (others, behind) = one_to_break xs ys s1 r q hs (subst (λ z. EntriesToBreak TextString ys z q) (sym rest) gs) in
      (cc, behind)

  one_pairs : (ns ms : Members) (k : ℕ) (s r q : List ℕ) → CountedPairs TextString k ns s r → CountedPairs TextString k ms s q
      → (ns ≡ ms) × (r ≡ q)
  one_pairs no_members no_members k s r q h g = (refl, sym h.1 ∙ g.1)
  one_pairs no_members (member u y ys) k s r q h g = absurd (let e = h.0 in let f = g.1 in omega arith)
  one_pairs (member t x xs) no_members k s r q h g = absurd (let e = h.1 in let f = g.0 in omega arith)
  one_pairs (member t x xs) (member u y ys) k s r q (n, e, s1, s3, a, h, hs) (m, f, s2, s4, b, g, gs) =
      let (name, start) = one_string 3 IsUtf8 t u s s1 s2 (omega arith) a b in
      let (first, rest) = one_item x y s1 s3 s4 h (subst (λ z. Item TextString y z s4) (sym start) g) in
      let less = same_suc k n m e f in
      let (others, behind) = one_pairs xs ys n s3 r q hs
      (subst (λ z. CountedPairs TextString z ys s3 q) (sym less) (subst (λ z. CountedPairs TextString m ys z q) (sym rest) gs)) in
      (cc, behind)

  one_pairs_to_break : (ns ms : Members) (s r q : List ℕ) → PairsToBreak TextString ns s r → PairsToBreak TextString ms s q
      → (ns ≡ ms) × (r ≡ q)
  one_pairs_to_break no_members no_members s r q h g = (refl, (one_byte 0xFF 0xFF s r q h g).1)
  one_pairs_to_break no_members (member u y ys) s r q h (s2, s4, b, g, gs) = absurd (no_key u s r s2 h b)
  one_pairs_to_break (member t x xs) no_members s r q (s1, s3, a, h, hs) g = absurd (no_key t s q s1 g a)
  one_pairs_to_break (member t x xs) (member u y ys) s r q (s1, s3, a, h, hs) (s2, s4, b, g, gs) =
      let (name, start) = one_string 3 IsUtf8 t u s s1 s2 (omega arith) a b in
      let (first, rest) = one_item x y s1 s3 s4 h (subst (λ z. Item TextString y z s4) (sym start) g) in
      let (others, behind) = one_pairs_to_break xs ys s3 r q hs (subst (λ z. PairsToBreak TextString ys z q) (sym rest) gs) in
      (cc, behind)

pub one_reading : HasOneReading cbor_syntax
one_reading n m bs h k = (one_item n m bs [] [] h k).0
