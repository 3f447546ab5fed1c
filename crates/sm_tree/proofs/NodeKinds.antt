-- What kind of tree the first byte of a text tells, in any format: a number may be an `int` or a text, and all else is
-- one form of tree. Where the kind is known, so is the form.
use Rattle.std.proofs.Common.{◌≡◌, ℕ, true, false, List, refl}
use Rattle.sm_tree.specs.Node.{Node, Nodes, Members, null, bool, int, number, text, bytes, tag, opaque, list, object}

pub data NodeKind : Type 0 where
  of_null of_true of_false of_number of_text of_bytes of_tag of_opaque of_list of_object : NodeKind

abbrev pub node_kind : Node → NodeKind
node_kind null = of_null
node_kind (bool true) = of_true
node_kind (bool false) = of_false
node_kind (int z) = of_number
node_kind (number t) = of_number
node_kind (text t) = of_text
node_kind (bytes t) = of_bytes
node_kind (tag k n) = of_tag
node_kind (opaque b) = of_opaque
node_kind (list ns) = of_list
node_kind (object ms) = of_object

pub null_only : (m : Node) → of_null ≡ node_kind m → m ≡ null
null_only null e = refl
null_only (bool true) e = absurd cc
null_only (bool false) e = absurd cc
null_only m e = absurd cc

pub true_only : (m : Node) → of_true ≡ node_kind m → m ≡ bool true
true_only (bool true) e = refl
true_only (bool false) e = absurd cc
true_only m e = absurd cc

pub false_only : (m : Node) → of_false ≡ node_kind m → m ≡ bool false
false_only (bool true) e = absurd cc
false_only (bool false) e = refl
false_only m e = absurd cc

pub text_only : (m : Node) → of_text ≡ node_kind m → (t : List ℕ) × (m ≡ text t)
text_only (text t) e = (t, refl)
text_only (bool true) e = absurd cc
text_only (bool false) e = absurd cc
text_only m e = absurd cc

pub bytes_only : (m : Node) → of_bytes ≡ node_kind m → (t : List ℕ) × (m ≡ bytes t)
bytes_only (bytes t) e = (t, refl)
bytes_only (bool true) e = absurd cc
bytes_only (bool false) e = absurd cc
bytes_only m e = absurd cc

pub tag_only : (m : Node) → of_tag ≡ node_kind m → (k : ℕ) × (n : Node) × (m ≡ tag k n)
tag_only (tag k n) e = (k, n, refl)
tag_only (bool true) e = absurd cc
tag_only (bool false) e = absurd cc
tag_only m e = absurd cc

pub opaque_only : (m : Node) → of_opaque ≡ node_kind m → (b : ℕ) × (m ≡ opaque b)
opaque_only (opaque b) e = (b, refl)
opaque_only (bool true) e = absurd cc
opaque_only (bool false) e = absurd cc
opaque_only m e = absurd cc

pub list_only : (m : Node) → of_list ≡ node_kind m → (ns : Nodes) × (m ≡ list ns)
list_only (list ns) e = (ns, refl)
list_only (bool true) e = absurd cc
list_only (bool false) e = absurd cc
list_only m e = absurd cc

pub object_only : (m : Node) → of_object ≡ node_kind m → (ms : Members) × (m ≡ object ms)
object_only (object ms) e = (ms, refl)
object_only (bool true) e = absurd cc
object_only (bool false) e = absurd cc
object_only m e = absurd cc
