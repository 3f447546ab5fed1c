-- At a place of a simple type a tree comes to a value exactly where it spells that value.
use Rattle.std.proofs.Common.{◌≡◌, ℕ, ℤ, true, List, [], ◌∷◌, refl, sym, ap, ◌∙◌, subst, arith}
use Rattle.std.specs.Prelude.{pos, negsuc, nat_lt, Option, unwrap_or, Result, Ok, Err, FitsSigned}
use Rattle.std.specs.Int.{w8, w16, w32, w64}
use Rattle.std.proofs.lemmas.Bool.Decides.{nat_tests, Decides-ltb}
use Rattle.std.proofs.lemmas.Str.{IsUtf8-from_is_utf8}
use Rattle.sm_time.specs.declared.format.Format.{Format}
use Rattle.sm_time.specs.declared.format.Format.TheVariants.{EpochSeconds}
use Rattle.sm_tree.specs.Json.{AreBytes}
use Rattle.sm_tree.specs.Node.{Node, null, bool, int, number, text, bytes, tag, opaque, list, object}
use Rattle.sm_shapes.specs.Values.{Val, bool_val, int_val, text_val, blob_val, time_val}
use Rattle.sm_shapes.specs.Places.{Place, kind_of, format_of}
use Rattle.sm_shapes.specs.Fitting.{IsOfKind}
use Rattle.sm_shapes.specs.declared.kinds.ShapeKind.{ShapeKind}
use Rattle.sm_shapes.specs.declared.kinds.ShapeKind.TheVariants as kind
use Rattle.sm_shapes.specs.declared.fault.FaultKind.{FaultKind}
use Rattle.sm_codec.specs.declared.simple.Simple.{Simple}
use Rattle.sm_codec.specs.declared.simple.Simple.TheVariants as the
use Rattle.sm_codec.specs.Convention.{IsConvention, is_of, fits_bits, are_bytes}
use Rattle.sm_codec.specs.Sorts.{simple, sort_by}
use Rattle.sm_codec.specs.Codec.{Codec, sort_at, broken_at}
use Rattle.sm_codec.specs.FaultLists.{here, Reading, settled}
use Rattle.sm_codec.specs.Spelling.{Spells}
use Rattle.sm_codec.specs.Readings.{reading, leaf_reading, leaf_by, list_by, object_by, children, named_children}
use Rattle.sm_time.proofs.StampForms.{and_first, and_second, stamp_decides}

same_simple : (x y : Simple) → simple x ≡ simple y → x ≡ y
same_simple x y h = cc

pub are_of_bytes : (u : List ℕ) → are_bytes u ≡ true → AreBytes u
are_of_bytes [] h = tt
are_of_bytes (b ∷ u) h =
    ((Decides-ltb b 256).0 (and_first (nat_lt b 256) (are_bytes u) h), are_of_bytes u (and_second (nat_lt b 256) (are_bytes u) h))

fits_byte : (z : ℤ) → fits_bits 8 z ≡ true → FitsSigned w8 z
fits_byte (pos n) h = record { sfits = grind (arith, nat_tests) }
fits_byte (negsuc n) h = record { sfits = grind (arith, nat_tests) }

fits_short : (z : ℤ) → fits_bits 16 z ≡ true → FitsSigned w16 z
fits_short (pos n) h = record { sfits = grind (arith, nat_tests) }
fits_short (negsuc n) h = record { sfits = grind (arith, nat_tests) }

fits_integer : (z : ℤ) → fits_bits 32 z ≡ true → FitsSigned w32 z
fits_integer (pos n) h = record { sfits = grind (arith, nat_tests) }
fits_integer (negsuc n) h = record { sfits = grind (arith, nat_tests) }

fits_long : (z : ℤ) → fits_bits 64 z ≡ true → FitsSigned w64 z
fits_long (pos n) h = record { sfits = grind (arith, nat_tests) }
fits_long (negsuc n) h = record { sfits = grind (arith, nat_tests) }

-- of each kind
blob_kind : (v : Val) → is_of the.Blob v ≡ true → IsOfKind kind.Blob v
blob_kind (blob_val u) h = are_of_bytes u h
blob_kind v h = absurd cc

boolean_kind : (v : Val) → is_of the.Boolean v ≡ true → IsOfKind kind.Boolean v
boolean_kind (bool_val b) h = tt
boolean_kind v h = absurd cc

text_kind : (v : Val) → is_of the.Text v ≡ true → IsOfKind kind.Text v × IsOfKind kind.Enum v
text_kind (text_val u) h = (IsUtf8-from_is_utf8 u h, IsUtf8-from_is_utf8 u h)
text_kind v h = absurd cc

byte_kind : (v : Val) → is_of (the.Number 8) v ≡ true → IsOfKind kind.Byte v
byte_kind (int_val z) h = fits_byte z h
byte_kind v h = absurd cc

short_kind : (v : Val) → is_of (the.Number 16) v ≡ true → IsOfKind kind.Short v
short_kind (int_val z) h = fits_short z h
short_kind v h = absurd cc

integer_kind : (v : Val) → is_of (the.Number 32) v ≡ true → IsOfKind kind.Integer v × IsOfKind kind.IntEnum v
integer_kind (int_val z) h = (fits_integer z h, fits_integer z h)
integer_kind v h = absurd cc

long_kind : (v : Val) → is_of (the.Number 64) v ≡ true → IsOfKind kind.Long v
long_kind (int_val z) h = fits_long z h
long_kind v h = absurd cc

time_kind : (format : Format) (v : Val) → is_of (the.Time format) v ≡ true → IsOfKind kind.Timestamp v
time_kind format (time_val ms) h = (stamp_decides ms).0 h
time_kind format v h = absurd cc

-- of the simple type that a kind of shape comes to
is_that : (x y : Simple) (v : Val) → simple y ≡ simple x → is_of x v ≡ true → is_of y v ≡ true
is_that x y v e h = subst (λ s. is_of s v ≡ true) (sym (same_simple y x e)) h

of_kind : (k : ShapeKind) (format : Option Format) (x : Simple) (v : Val) → sort_by k format ≡ simple x → is_of x v ≡ true → IsOfKind k v
of_kind kind.Blob format x v e h = blob_kind v (is_that x the.Blob v e h)
of_kind kind.Boolean format x v e h = boolean_kind v (is_that x the.Boolean v e h)
of_kind kind.Text format x v e h = (text_kind v (is_that x the.Text v e h)).0
of_kind kind.Enum format x v e h = (text_kind v (is_that x the.Text v e h)).1
of_kind kind.Byte format x v e h = byte_kind v (is_that x (the.Number 8) v e h)
of_kind kind.Short format x v e h = short_kind v (is_that x (the.Number 16) v e h)
of_kind kind.Integer format x v e h = (integer_kind v (is_that x (the.Number 32) v e h)).0
of_kind kind.IntEnum format x v e h = (integer_kind v (is_that x (the.Number 32) v e h)).1
of_kind kind.Long format x v e h = long_kind v (is_that x (the.Number 64) v e h)
of_kind kind.Timestamp format x v e h =
    time_kind (unwrap_or format EpochSeconds) v (is_that x (the.Time (unwrap_or format EpochSeconds)) v e h)
of_kind kind.List format x v e h = absurd cc
of_kind kind.Map format x v e h = absurd cc
of_kind kind.Structure format x v e h = absurd cc
of_kind kind.Union format x v e h = absurd cc
of_kind kind.LeftOut format x v e h = absurd cc

-- a value of a simple type has no parts
abbrev HasNoParts : Val → Type 0
HasNoParts (bool_val b) = Unit {0}
HasNoParts (int_val z) = Unit {0}
HasNoParts (text_val u) = Unit {0}
HasNoParts (blob_val u) = Unit {0}
HasNoParts (time_val ms) = Unit {0}
HasNoParts v = ⊥

no_parts : (x : Simple) (v : Val) → is_of x v ≡ true → HasNoParts v
no_parts the.Blob (blob_val u) h = tt
no_parts the.Boolean (bool_val b) h = tt
no_parts the.Text (text_val u) h = tt
no_parts (the.Number bits) (int_val z) h = tt
no_parts (the.Time format) (time_val ms) h = tt
no_parts x v h = absurd cc

spells_by : (c : Codec) (p : Place) (x : Simple) (n : Node) (v : Val) → sort_at c p ≡ simple x → c.convention.read x n ≡ Ok v
    → broken_at c p v ≡ [] → IsOfKind (kind_of c.table p) v → HasNoParts v → Spells c p v n
spells_by c p x n (bool_val t) e r b k l = ((k, b), (x, e, r))
spells_by c p x n (int_val t) e r b k l = ((k, b), (x, e, r))
spells_by c p x n (text_val t) e r b k l = ((k, b), (x, e, r))
spells_by c p x n (blob_val t) e r b k l = ((k, b), (x, e, r))
spells_by c p x n (time_val t) e r b k l = ((k, b), (x, e, r))
spells_by c p x n v e r b k l = absurd l

-- what a convention reads, and breaks nothing, is spelled
pub leaf_spells : (c : Codec) (p : Place) (x : Simple) (n : Node) (v : Val) → IsConvention c.convention → sort_at c p ≡ simple x
    → c.convention.read x n ≡ Ok v → broken_at c p v ≡ [] → Spells c p v n
leaf_spells c p x n v laws e r b =
    let is = laws.of_type x n v r in
    spells_by c p x n v e r b (of_kind (kind_of c.table p) (format_of c.table p) x v e is) (no_parts x v is)

-- at a simple place every tree is a leaf
pub at_simple : (c : Codec) (p : Place) (x : Simple) (n : Node) → sort_at c p ≡ simple x
    → reading c n p ≡ leaf_reading c p (c.convention.read x n)
at_simple c p x (list ns) e = ap (λ s. list_by s c p (list ns) (children c ns)) e
at_simple c p x (object ms) e = ap (λ s. object_by s c p (object ms) (named_children c ms)) e
at_simple c p x null e = ap (λ s. leaf_by s c p null) e
at_simple c p x (bool b) e = ap (λ s. leaf_by s c p (bool b)) e
at_simple c p x (int z) e = ap (λ s. leaf_by s c p (int z)) e
at_simple c p x (number u) e = ap (λ s. leaf_by s c p (number u)) e
at_simple c p x (text u) e = ap (λ s. leaf_by s c p (text u)) e
at_simple c p x (bytes u) e = ap (λ s. leaf_by s c p (bytes u)) e
at_simple c p x (tag k n) e = ap (λ s. leaf_by s c p (tag k n)) e
at_simple c p x (opaque b) e = ap (λ s. leaf_by s c p (opaque b)) e

abbrev ok_reading : Val → Reading
ok_reading v = Ok v

same_reading : (v w : Val) → ok_reading v ≡ Ok w → v ≡ w
same_reading v w h = cc

clean : (kinds : List FaultKind) (w v : Val) → settled (here kinds) w ≡ Ok v → (kinds ≡ []) × (w ≡ v)
clean [] w v h = (refl, same_reading w v h)
clean (k ∷ ks) w v h = absurd cc

read_by : (c : Codec) (p : Place) (r : Result Val FaultKind) (v : Val) → leaf_reading c p r ≡ Ok v → (r ≡ Ok v) × (broken_at c p v ≡ [])
read_by c p (Ok w) v h =
    let found = clean (broken_at c p w) w v h in
    (ap (λ u. Ok u) found.1, subst (λ u. broken_at c p u ≡ []) found.1 found.0)
read_by c p (Err k) v h = absurd cc

-- what a tree comes to at a simple place is spelled
pub leaf_read : (c : Codec) (p : Place) (x : Simple) (n : Node) (v : Val) → IsConvention c.convention → sort_at c p ≡ simple x
    → reading c n p ≡ Ok v → Spells c p v n
leaf_read c p x n v laws e h =
    let found = read_by c p (c.convention.read x n) v (sym (at_simple c p x n e) ∙ h) in
    leaf_spells c p x n v laws e found.0 found.1

-- and what is spelled there is what the tree comes to
pub spelled_read : (c : Codec) (p : Place) (x : Simple) (n : Node) (v : Val) → sort_at c p ≡ simple x → c.convention.read x n ≡ Ok v
    → broken_at c p v ≡ [] → reading c n p ≡ Ok v
spelled_read c p x n v e r b = at_simple c p x n e ∙ ap (leaf_reading c p) r ∙ ap (λ kinds. settled (here kinds) v) b
