-- What a tree comes to at a place: its value, or the list of its faults in order, whatever the order of an object's pairs. Every
-- part of a tree is read for each place at which it may stand, so that members find their trees by name.
use Rattle.std.specs.Prelude.{ℕ, suc, Bool, true, false, ◌&&◌, cond, List, [], ◌∷◌, ◌++◌, map, length, Option, Some, None, Result, Ok, Err}
use Rattle.std.specs.Str.{is_utf8}
use Rattle.sm_tree.specs.Node.{Node, Nodes, Members, list, object, no_nodes, node, no_members, member}
use Rattle.sm_tree.specs.declared.path.Step.TheVariants.{Member, Index, Key}
use Rattle.sm_shapes.specs.Values.{Val, null_val, text_val, list_val, map_val, structure_val, union_val, vals_of, entries_of, fields_of}
use Rattle.sm_shapes.specs.TableData.{TableData, name_at, required_at, default_at}
use Rattle.sm_shapes.specs.Places.{Place, member_place, members_of_place, constraints_of, unique_of, sparse_of, entry_place, key_place}
use Rattle.sm_shapes.specs.Places.{value_place}
use Rattle.sm_shapes.specs.Broken.{length_broken, has_twice}
use Rattle.sm_shapes.specs.Fitting.{Test}
use Rattle.sm_shapes.specs.declared.fault.FaultKind.{FaultKind}
use Rattle.sm_shapes.specs.declared.fault.FaultKind.TheVariants.{WrongType, Null, Repeated, Missing, Unique, UnionCount}
use Rattle.sm_codec.specs.Convention.{Convention}
use Rattle.sm_codec.specs.Sorts.{Sort, simple, a_list, a_map, a_structure, a_union, sort_of}
use Rattle.sm_codec.specs.Codec.{Codec, codec_of, sort_at, wire_name, broken_at}
use Rattle.sm_codec.specs.Named.{named, names_of, is_null, in_byte_order}
use Rattle.sm_codec.specs.FaultLists.{FaultAt, here, under, Reading, faults_in, values_in, settled}

-- a tree that stands in another: whether it is null, and what it comes to at each place
pub record Child : Type 0 where
  pub null : Bool
  pub reading : Place → Reading

-- a fault of this kind here, and none beside it
abbrev pub one_here : FaultKind → List FaultAt
one_here kind = here (kind ∷ [])

-- a leaf: what the convention makes of it, and what its value breaks
abbrev pub leaf_reading : Codec → Place → Result Val FaultKind → Reading
leaf_reading c p (Ok v) = settled (here (broken_at c p v)) v
leaf_reading c p (Err kind) = Err (one_here kind)

-- an entry of a list or a value of a map: null is a value in sparse ones alone
abbrev pub entry_reading : Bool → Place → Child → Reading
entry_reading sparse p child = cond child.null (cond sparse (Ok null_val) (Err (one_here Null))) (child.reading p)

-- the faults of the entries of a list from the i-th on, and the values of those without
abbrev pub entries_faults : Codec → Place → ℕ → List Child → List FaultAt
entries_faults c p i [] = []
entries_faults c p i (child ∷ children) =
    under (Index i) (faults_in (entry_reading (sparse_of c.table p) (entry_place c.table p) child)) ++ entries_faults c p (suc i) children

abbrev pub entries_values : Codec → Place → List Child → List Val
entries_values c p [] = []
entries_values c p (child ∷ children) =
    values_in (entry_reading (sparse_of c.table p) (entry_place c.table p) child) ++ entries_values c p children

-- two entries are equal, where entries may not be; looked at only where no entry has a fault
abbrev pub unique_faults : Codec → Place → List FaultAt → List Val → List FaultAt
unique_faults c p [] vs = cond (unique_of c.table p && has_twice vs) (one_here Unique) []
unique_faults c p (f ∷ fs) vs = []

abbrev pub list_faults : Codec → Place → List Child → List FaultAt
list_faults c p children =
    entries_faults c p 0 children ++ here (length_broken (constraints_of c.table p) (length children))
    ++ unique_faults c p (entries_faults c p 0 children) (entries_values c p children)

abbrev pub list_reading : Codec → Place → List Child → Reading
list_reading c p children = settled (list_faults c p children) (list_val (vals_of (entries_values c p children)))

-- a key: names of trees are texts in UTF-8, so the other case never comes
abbrev pub key_faults : Codec → Place → List ℕ → List FaultAt
key_faults c p key = cond (is_utf8 key) (here (broken_at c (key_place c.table p) (text_val key))) (one_here WrongType)

-- what stands under a key: the key's faults and the value's are both at the key
abbrev pub pair_faults : Codec → Place → List ℕ → List Child → List FaultAt
pair_faults c p key [] = []
pair_faults c p key (child ∷ []) =
    key_faults c p key ++ faults_in (entry_reading (sparse_of c.table p) (value_place c.table p) child)
pair_faults c p key (child ∷ more ∷ children) = one_here Repeated

abbrev pub keyed : List ℕ → Reading → List (List ℕ × Val)
keyed key (Ok v) = (key, v) ∷ []
keyed key (Err fs) = []

abbrev pub pair_values : Codec → Place → List ℕ → List Child → List (List ℕ × Val)
pair_values c p key [] = []
pair_values c p key (child ∷ []) = keyed key (entry_reading (sparse_of c.table p) (value_place c.table p) child)
pair_values c p key (child ∷ more ∷ children) = []

-- the faults of these keys of a map, and the entries without
abbrev pub keys_faults : Codec → Place → List (List ℕ × Child) → List (List ℕ) → List FaultAt
keys_faults c p ps [] = []
keys_faults c p ps (key ∷ keys) = under (Key key) (pair_faults c p key (named key ps)) ++ keys_faults c p ps keys

abbrev pub keys_values : Codec → Place → List (List ℕ × Child) → List (List ℕ) → List (List ℕ × Val)
keys_values c p ps [] = []
keys_values c p ps (key ∷ keys) = pair_values c p key (named key ps) ++ keys_values c p ps keys

-- those of the pairs that are there, in byte order of their keys
abbrev pub pairs_faults : Codec → Place → List (List ℕ × Child) → List FaultAt
pairs_faults c p ps = keys_faults c p ps (in_byte_order (names_of ps))

abbrev pub pairs_values : Codec → Place → List (List ℕ × Child) → List (List ℕ × Val)
pairs_values c p ps = keys_values c p ps (in_byte_order (names_of ps))

abbrev pub map_faults : Codec → Place → List (List ℕ × Child) → List FaultAt
map_faults c p ps =
    pairs_faults c p ps ++ here (length_broken (constraints_of c.table p) (length (in_byte_order (names_of ps))))

abbrev pub map_reading : Codec → Place → List (List ℕ × Child) → Reading
map_reading c p ps = settled (map_faults c p ps) (map_val (entries_of (pairs_values c p ps)))

-- what a member comes to that is absent or null: nothing, a value, or a fault
abbrev pub Absence : Type 0
Absence = ℕ → Result (Option Val) FaultKind

-- where an object is closed: its default, else a fault if it is required
abbrev pub absent_with : Option Val → Bool → Result (Option Val) FaultKind
absent_with (Some v) required = Ok (Some v)
absent_with None true = Err Missing
absent_with None false = Ok None

abbrev pub when_closed : TableData → Absence
when_closed t k = absent_with (default_at t k) (required_at t k)

-- where more of it may come: nothing yet
abbrev pub so_far_absent : Absence
so_far_absent k = Ok None

abbrev pub absent_reading : Result (Option Val) FaultKind → Result (Option Val) (List FaultAt)
absent_reading (Ok v) = Ok v
absent_reading (Err kind) = Err (one_here kind)

abbrev pub present_reading : Reading → Result (Option Val) (List FaultAt)
present_reading (Ok v) = Ok (Some v)
present_reading (Err fs) = Err fs

-- a member, by what stands under its name
abbrev pub member_reading : Absence → ℕ → List Child → Result (Option Val) (List FaultAt)
member_reading absent k [] = absent_reading (absent k)
member_reading absent k (child ∷ []) = cond child.null (absent_reading (absent k)) (present_reading (child.reading (member_place k)))
member_reading absent k (child ∷ more ∷ children) = Err (one_here Repeated)

abbrev pub member_faults : Result (Option Val) (List FaultAt) → List FaultAt
member_faults (Ok v) = []
member_faults (Err fs) = fs

abbrev pub member_fields : ℕ → Result (Option Val) (List FaultAt) → List (ℕ × Val)
member_fields k (Ok None) = []
member_fields k (Ok (Some v)) = (k, v) ∷ []
member_fields k (Err fs) = []

-- what stands for each member: in an object, what stands under its name
abbrev pub ByMember : Type 0
ByMember = ℕ → List Child

abbrev pub under_names : Codec → Place → List (List ℕ × Child) → ByMember
under_names c p ps k = named (wire_name c p k) ps

-- the faults of these members, in model order, and the fields of those without
abbrev pub members_faults : TableData → Absence → ByMember → List ℕ → List FaultAt
members_faults t absent stands [] = []
members_faults t absent stands (k ∷ ks) =
    under (Member (name_at t k)) (member_faults (member_reading absent k (stands k))) ++ members_faults t absent stands ks

abbrev pub members_fields : Absence → ByMember → List ℕ → List (ℕ × Val)
members_fields absent stands [] = []
members_fields absent stands (k ∷ ks) = member_fields k (member_reading absent k (stands k)) ++ members_fields absent stands ks

abbrev pub structure_reading : Codec → Place → List (List ℕ × Child) → Reading
structure_reading c p ps =
    settled (members_faults c.table (when_closed c.table) (under_names c p ps) (members_of_place c.table p))
    (structure_val (fields_of (members_fields (when_closed c.table) (under_names c p ps) (members_of_place c.table p))))

-- the members of a union that stand twice or more
abbrev pub repeated_faults : List Child → List FaultAt
repeated_faults [] = []
repeated_faults (child ∷ []) = []
repeated_faults (child ∷ more ∷ children) = one_here Repeated

abbrev pub repeats : TableData → ByMember → List ℕ → List FaultAt
repeats t stands [] = []
repeats t stands (k ∷ ks) = under (Member (name_at t k)) (repeated_faults (stands k)) ++ repeats t stands ks

-- those that stand once with a tree that isn't null
abbrev pub standing : ℕ → List Child → List (ℕ × Child)
standing k [] = []
standing k (child ∷ []) = cond child.null [] ((k, child) ∷ [])
standing k (child ∷ more ∷ children) = []

abbrev pub all_standing : ByMember → List ℕ → List (ℕ × Child)
all_standing stands [] = []
all_standing stands (k ∷ ks) = standing k (stands k) ++ all_standing stands ks

-- the faults of the one that stands
abbrev pub standing_faults : TableData → ℕ × Child → List FaultAt
standing_faults t m = under (Member (name_at t m.0)) (faults_in (m.1.reading (member_place m.0)))

-- of the members that stand, where none is repeated: those of the one, or that there isn't exactly one. `none` is what it comes to
-- that none stands
abbrev pub union_faults : TableData → List FaultAt → List FaultAt → List (ℕ × Child) → List FaultAt
union_faults t none (f ∷ fs) ms = f ∷ fs
union_faults t none [] [] = none
union_faults t none [] (m ∷ []) = standing_faults t m
union_faults t none [] (m ∷ more ∷ ms) = one_here UnionCount

abbrev pub standing_fields : List (ℕ × Child) → List (ℕ × Val)
standing_fields [] = []
standing_fields (m ∷ ms) = member_fields m.0 (present_reading (m.1.reading (member_place m.0))) ++ standing_fields ms

-- without a fault one stands, so the second case never comes
abbrev pub union_reading_of : List FaultAt → List (ℕ × Val) → Reading
union_reading_of (f ∷ fs) vs = Err (f ∷ fs)
union_reading_of [] [] = Err (one_here UnionCount)
union_reading_of [] (f ∷ fs) = Ok (union_val f.0 f.1)

abbrev pub union_reading : Codec → Place → List (List ℕ × Child) → Reading
union_reading c p ps =
    let ms = all_standing (under_names c p ps) (members_of_place c.table p) in
    union_reading_of (union_faults c.table (one_here UnionCount) (repeats c.table (under_names c p ps) (members_of_place c.table p)) ms)
    (standing_fields ms)

-- by the sort of the place: a tree that is no list and no object; a list; an object
abbrev pub leaf_by : Sort → Codec → Place → Node → Reading
leaf_by (simple x) c p n = leaf_reading c p (c.convention.read x n)
leaf_by s c p n = Err (one_here WrongType)

abbrev pub leaf_in : TableData → Convention → Test → Place → Node → Reading
leaf_in t l test p n = leaf_by (sort_of t p) (codec_of t l test) p n

abbrev pub list_by : Sort → Codec → Place → Node → List Child → Reading
list_by a_list c p n children = list_reading c p children
list_by s c p n children = leaf_by s c p n

abbrev pub object_by : Sort → Codec → Place → Node → List (List ℕ × Child) → Reading
object_by a_map c p n ps = map_reading c p ps
object_by a_structure c p n ps = structure_reading c p ps
object_by a_union c p n ps = union_reading c p ps
object_by s c p n ps = leaf_by s c p n

abbrev mutual
  -- what a tree comes to at a place
  pub reading : Codec → Node → Place → Reading
  reading c (list ns) p = list_by (sort_at c p) c p (list ns) (children c ns)
  reading c (object ms) p = object_by (sort_at c p) c p (object ms) (named_children c ms)
  reading c n p = leaf_by (sort_at c p) c p n

  -- the entries of a list, and the pairs of an object, for each place
  pub children : Codec → Nodes → List Child
  children c no_nodes = []
  children c (node n ns) = record { null = is_null n; reading = λ p. reading c n p } ∷ children c ns

  pub named_children : Codec → Members → List (List ℕ × Child)
  named_children c no_members = []
  named_children c (member k n ms) = (k, record { null = is_null n; reading = λ p. reading c n p }) ∷ named_children c ms

-- a tree, trees and pairs as children, as above
abbrev pub child_of : Codec → Node → Child
child_of c n = record { null = is_null n; reading = λ p. reading c n p }

abbrev pub children_of : Codec → List Node → List Child
children_of c ns = map (child_of c) ns

abbrev pub named_children_of : Codec → List (List ℕ × Node) → List (List ℕ × Child)
named_children_of c ps = map (λ m. (m.0, child_of c m.1)) ps

-- all faults of a tree at a place, in order
abbrev pub faults : Codec → Node → Place → List FaultAt
faults c n p = faults_in (reading c n p)
