-- The items of CBOR (RFC 8949, section 3) with text keys: which bytes are an item of which tree. By cases on the
-- tree, in the form "s begins with an item of n, and r is what follows it". Levels aren't limited here.
use Rattle.std.specs.Prelude.{◌≡◌, ℕ, ℤ, pos, negsuc, suc, ◌/◌, ◌%◌, ◌<◌, ◌≤◌, ◌⊎◌, true, false, FitsSigned, IsUtf8, List, [], ◌∷◌, ◌++◌}
use Rattle.std.specs.Prelude.{length}
use Rattle.std.specs.Int.{w64}
use Rattle.std.specs.Fmt.{signed_decimal}
use Rattle.std.specs.List.{concat}
use Rattle.sm_tree.specs.Json.{AreBytes}
use Rattle.sm_tree.specs.Node.{Node, Nodes, Members, null, bool, int, number, text, bytes, tag, opaque, list, object, no_nodes, node}
use Rattle.sm_tree.specs.Node.{no_members, member}
use Rattle.sm_cbor.specs.Heads.{Byte, Argument, Head, unsigned_type, negative_type, bytes_type, text_type, array_type, map_type, tag_type}
use Rattle.sm_cbor.specs.Heads.{simple_type, false_byte, true_byte, null_byte, undefined_byte, Indefinite, Break}

-- major types 0 and 1: the integer n, and the integer -1 - n
abbrev pub Integer : ℤ → List ℕ → List ℕ → Type 0
Integer z s r = (n : ℕ) × ((Head unsigned_type n s r × (z ≡ pos n)) ⊎ (Head negative_type n s r × (z ≡ negsuc n)))

-- major types 2 and 3. A string with a definite length: its length in bytes, and its bytes, which are of this kind
abbrev pub Definite : ℕ → (List ℕ → Type 0) → List ℕ → List ℕ → List ℕ → Type 0
Definite major P t s r = (s1 : List ℕ) × Head major (length t) s s1 × (s1 ≡ t ++ r) × P t

-- section 3.2.3. Chunks, each a string with a definite length of the same major type, and a "break"
abbrev pub Chunks : ℕ → (List ℕ → Type 0) → List (List ℕ) → List ℕ → List ℕ → Type 0
Chunks major P [] s r = Break s r
Chunks major P (t ∷ ts) s r = (s1 : List ℕ) × Definite major P t s s1 × Chunks major P ts s1 r

-- a string with a definite length, or with an indefinite one, which is its chunks joined
abbrev pub String : ℕ → (List ℕ → Type 0) → List ℕ → List ℕ → List ℕ → Type 0
String major P t s r =
    Definite major P t s r ⊎ ((s1 : List ℕ) × (ts : List (List ℕ)) × Indefinite major s s1 × Chunks major P ts s1 r × (t ≡ concat ts))

abbrev pub ByteString : List ℕ → List ℕ → List ℕ → Type 0
ByteString t s r = String bytes_type AreBytes t s r

abbrev pub TextString : List ℕ → List ℕ → List ℕ → Type 0
TextString t s r = String text_type IsUtf8 t s r

-- section 3.3, major type 7 with this initial byte: simple values below 20 and from 32 on, and floats, whose bits are
-- the argument
abbrev pub IsOpaque : ℕ → ℕ → Type 0
IsOpaque info n = (info < 20) ⊎ (((info ≡ 24) × (32 ≤ n)) ⊎ (25 ≤ info))

abbrev pub SimpleOrFloat : ℕ → List ℕ → List ℕ → Type 0
SimpleOrFloat b [] r = ⊥
SimpleOrFloat b (c ∷ s) r = (c ≡ b) × (c / 32 ≡ simple_type) × (n : ℕ) × Argument (c % 32) n s r × IsOpaque (c % 32) n

-- the form of a map's keys: which bytes spell which key, and what follows them
abbrev pub KeyForm : Type 1
KeyForm = List ℕ → List ℕ → List ℕ → Type 0

abbrev mutual
  pub Item : KeyForm → Node → List ℕ → List ℕ → Type 0
  -- null and undefined
  Item Key null s r = Byte null_byte s r ⊎ Byte undefined_byte s r
  Item Key (bool false) s r = Byte false_byte s r
  Item Key (bool true) s r = Byte true_byte s r
  -- major types 0 and 1: an integer of 64 bits with a sign, else the number in decimal
  Item Key (int z) s r = FitsSigned w64 z × Integer z s r
  Item Key (number t) s r = (z : ℤ) × (FitsSigned w64 z → ⊥) × (t ≡ signed_decimal z) × Integer z s r
  -- major types 3 and 2
  Item Key (text t) s r = TextString t s r
  Item Key (bytes t) s r = ByteString t s r
  -- major type 6, section 3.4: the tag number, and the enclosed item
  Item Key (tag k n) s r = (s1 : List ℕ) × Head tag_type k s s1 × Item Key n s1 r
  -- major type 7
  Item Key (opaque b) s r = SimpleOrFloat b s r
  -- major type 4: the number of entries, and the entries; or entries up to a "break"
  Item Key (list ns) s r =
      ((n : ℕ) × (s1 : List ℕ) × Head array_type n s s1 × CountedEntries Key n ns s1 r)
      ⊎ ((s1 : List ℕ) × Indefinite array_type s s1 × EntriesToBreak Key ns s1 r)
  -- major type 5: the number of pairs, and the pairs; or pairs up to a "break"
  Item Key (object ms) s r =
      ((n : ℕ) × (s1 : List ℕ) × Head map_type n s s1 × CountedPairs Key n ms s1 r)
      ⊎ ((s1 : List ℕ) × Indefinite map_type s s1 × PairsToBreak Key ms s1 r)

  -- so many entries
  pub CountedEntries : KeyForm → ℕ → Nodes → List ℕ → List ℕ → Type 0
  CountedEntries Key n no_nodes s r = (n ≡ 0) × (s ≡ r)
  CountedEntries Key n (node x xs) s r = (m : ℕ) × (n ≡ suc m) × (s1 : List ℕ) × Item Key x s s1 × CountedEntries Key m xs s1 r

  pub EntriesToBreak : KeyForm → Nodes → List ℕ → List ℕ → Type 0
  EntriesToBreak Key no_nodes s r = Break s r
  EntriesToBreak Key (node x xs) s r = (s1 : List ℕ) × Item Key x s s1 × EntriesToBreak Key xs s1 r

  -- so many pairs, each a key and its value
  pub CountedPairs : KeyForm → ℕ → Members → List ℕ → List ℕ → Type 0
  CountedPairs Key n no_members s r = (n ≡ 0) × (s ≡ r)
  CountedPairs Key n (member k x ms) s r =
      (m : ℕ) × (n ≡ suc m) × (s1 s2 : List ℕ) × Key k s s1 × Item Key x s1 s2 × CountedPairs Key m ms s2 r

  pub PairsToBreak : KeyForm → Members → List ℕ → List ℕ → Type 0
  PairsToBreak Key no_members s r = Break s r
  PairsToBreak Key (member k x ms) s r = (s1 s2 : List ℕ) × Key k s s1 × Item Key x s1 s2 × PairsToBreak Key ms s2 r

-- the bytes are one item of this tree, whose keys are texts, and nothing after it
abbrev pub CborItem : Node → List ℕ → Type 0
CborItem n bs = Item TextString n bs []
