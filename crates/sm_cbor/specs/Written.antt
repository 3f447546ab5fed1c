-- The one item that is written for a tree: the shortest heads and definite lengths (RFC 8949, section 4.2.1, but that
-- pairs keep their order), and `F6` for null.
use Rattle.std.specs.Prelude.{ℕ, ℤ, pos, negsuc, ◌+◌, ◌*◌, ◌/◌, ◌%◌, nat_lt, if◌then◌else◌, true, false, List, [], ◌∷◌, ◌++◌, length}
use Rattle.sm_tree.specs.Node.{Node, Nodes, Members, null, bool, int, number, text, bytes, tag, opaque, list, object, no_nodes, node}
use Rattle.sm_tree.specs.Node.{no_members, member}
use Rattle.sm_tree.specs.Streams.{entry_count, pair_count}
use Rattle.sm_cbor.specs.Heads.{unsigned_type, negative_type, bytes_type, text_type, array_type, map_type, tag_type, false_byte}
use Rattle.sm_cbor.specs.Heads.{true_byte, null_byte}

-- a number in 2, 4 and 8 bytes, in network byte order
abbrev pub two_bytes : ℕ → List ℕ
two_bytes n = (n / 256) ∷ (n % 256) ∷ []

abbrev pub four_bytes : ℕ → List ℕ
four_bytes n = two_bytes (n / 65536) ++ two_bytes (n % 65536)

abbrev pub eight_bytes : ℕ → List ℕ
eight_bytes n = four_bytes (n / 4294967296) ++ four_bytes (n % 4294967296)

-- the shortest head of this major type with the argument n
abbrev pub written_head : ℕ → ℕ → List ℕ
written_head major n =
    if nat_lt n 24 then (major * 32 + n) ∷ []
    else (if nat_lt n 256 then (major * 32 + 24) ∷ n ∷ []
    else (if nat_lt n 65536 then (major * 32 + 25) ∷ two_bytes n
    else (if nat_lt n 4294967296 then (major * 32 + 26) ∷ four_bytes n
    else (major * 32 + 27) ∷ eight_bytes n)))

-- an integer: itself, or -1 less it
abbrev pub int_type : ℤ → ℕ
int_type (pos n) = unsigned_type
int_type (negsuc n) = negative_type

abbrev pub int_argument : ℤ → ℕ
int_argument (pos n) = n
int_argument (negsuc n) = n

abbrev pub written_int : ℤ → List ℕ
written_int z = written_head (int_type z) (int_argument z)

-- a text, as a value and as a key
abbrev pub written_text_item : List ℕ → List ℕ
written_text_item t = written_head text_type (length t) ++ t

abbrev mutual
  -- numbers that are texts and opaque leaves aren't written: they stand in no tree that is written as CBOR
  pub written_item : Node → List ℕ
  written_item null = null_byte ∷ []
  written_item (bool false) = false_byte ∷ []
  written_item (bool true) = true_byte ∷ []
  written_item (int z) = written_int z
  written_item (number t) = []
  written_item (text t) = written_text_item t
  written_item (bytes t) = written_head bytes_type (length t) ++ t
  written_item (tag k n) = written_head tag_type k ++ written_item n
  written_item (opaque b) = []
  written_item (list ns) = written_head array_type (entry_count ns) ++ written_item_entries ns
  written_item (object ms) = written_head map_type (pair_count ms) ++ written_item_pairs ms

  pub written_item_entries : Nodes → List ℕ
  written_item_entries no_nodes = []
  written_item_entries (node n ns) = written_item n ++ written_item_entries ns

  pub written_item_pairs : Members → List ℕ
  written_item_pairs no_members = []
  written_item_pairs (member k n ms) = written_text_item k ++ (written_item n ++ written_item_pairs ms)
