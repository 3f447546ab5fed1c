-- Conventions: how a format spells simple values, and under which names members stand. The codec is over any convention that
-- meets the laws here.
use Rattle.std.specs.Prelude.{◌≡◌, ℕ, ◌<◌, ◌-◌, ◌^◌, nat_lt, ℤ, pos, negsuc, Bool, true, false, List, map, Result, Ok, Err}
use Rattle.std.specs.List.{list_all}
use Rattle.std.specs.Str.{is_utf8}
use Rattle.sm_tree.specs.Node.{Node, Nodes, Members, null, tag, list, object, no_nodes}
use Rattle.sm_time.specs.StampTexts.{is_stamp}
use Rattle.sm_shapes.specs.Names.{AllDiffer}
use Rattle.sm_shapes.specs.Values.{Val, bool_val, int_val, text_val, blob_val, time_val}
use Rattle.sm_shapes.specs.TableData.{TableData, shape_count, members_at, name_at, json_name_at}
use Rattle.sm_shapes.specs.InOrder.{Shaped}
use Rattle.sm_shapes.specs.declared.fault.FaultKind.{FaultKind}
use Rattle.sm_shapes.specs.declared.fault.FaultKind.TheVariants.{WrongType, Repeated}
use Rattle.sm_codec.specs.declared.simple.Simple.{Simple}
use Rattle.sm_codec.specs.declared.simple.Simple.TheVariants.{Blob, Boolean, Text, Number, Time}

-- a convention of leaves
pub record Convention : Type 0 where
  -- the name under which a member of a shape stands: of a table, a shape's number and a member's
  pub name : TableData → ℕ → ℕ → List ℕ
  -- the value that a tree spells where a simple type is, or the fault
  pub read : Simple → Node → Result Val FaultKind
  -- whether a value is one of the simple type and can be spelled
  pub carries : Simple → Val → Bool
  -- the tree that is written for a value that is carried
  pub write : Simple → Val → Node

-- a word of so many bits, one of them its sign, holds the number
abbrev pub fits_bits : ℕ → ℤ → Bool
fits_bits bits (pos n) = nat_lt n (2 ^ (bits - 1))
fits_bits bits (negsuc n) = nat_lt n (2 ^ (bits - 1))

abbrev pub are_bytes : List ℕ → Bool
are_bytes u = list_all (λ b. nat_lt b 256) u

-- the value is one of the simple type, and a whole number of its width
abbrev pub is_of : Simple → Val → Bool
is_of Blob (blob_val u) = are_bytes u
is_of Boolean (bool_val b) = true
is_of Text (text_val u) = is_utf8 u
is_of (Number bits) (int_val z) = fits_bits bits z
is_of (Time format) (time_val ms) = is_stamp ms
is_of x v = false

-- a list, an object or a tag
abbrev pub IsNested : Node → Type 0
IsNested (list ns) = Unit {0}
IsNested (object ms) = Unit {0}
IsNested (tag k n) = Unit {0}
IsNested n = ⊥

abbrev pub fault_in : Result Val FaultKind → FaultKind
fault_in (Ok v) = WrongType
fault_in (Err kind) = kind

-- the fault of this tag where a list, an object or another tag stands under it
abbrev pub nested_fault : Convention → Simple → ℕ → FaultKind
nested_fault c x k = fault_in (c.read x (tag k (list no_nodes)))

-- the tree spells the value of the simple type
abbrev pub Leaf : Convention → Simple → Val → Node → Type 0
Leaf c x v n = c.read x n ≡ Ok v

-- what is written for a value that is carried spells it
abbrev pub WrittenLeafReads : Convention → Type 0
WrittenLeafReads c = (x : Simple) (v : Val) → c.carries x v ≡ true → Leaf c x v (c.write x v)

-- The laws. The members of one shape stand under different names. A member's name depends on what its own row says of names alone: two
-- members, of one table or of two, with the same name and the same JSON name stand under the same one. A leaf spells only values of its
-- simple type (and one at most, since `read` is a function). What is written is read again. A list, an object and null spell nothing, and
-- what is nested under a tag doesn't change the tag's fault. No leaf's fault is that a name is repeated.
pub record IsConvention (c : Convention) : Type 0 where
  pub names : (t : TableData) → Shaped t → (s : ℕ) → s < shape_count t → AllDiffer (map (c.name t s) (members_at t s))
  pub own_row : (t u : TableData) (s r k j : ℕ) → name_at t k ≡ name_at u j → json_name_at t k ≡ json_name_at u j
      → c.name t s k ≡ c.name u r j
  pub of_type : (x : Simple) (n : Node) (v : Val) → c.read x n ≡ Ok v → is_of x v ≡ true
  pub carried_of_type : (x : Simple) (v : Val) → c.carries x v ≡ true → is_of x v ≡ true
  pub written_reads : WrittenLeafReads c
  pub no_list : (x : Simple) (ns : Nodes) → c.read x (list ns) ≡ Err WrongType
  pub no_object : (x : Simple) (ms : Members) → c.read x (object ms) ≡ Err WrongType
  pub no_null : (x : Simple) → c.read x null ≡ Err WrongType
  pub nested : (x : Simple) (k : ℕ) (n : Node) → IsNested n → c.read x (tag k n) ≡ Err (nested_fault c x k)
  pub never_repeated : (x : Simple) (n : Node) → c.read x n ≡ Err Repeated → ⊥
