-- A table that is made of shapes that are ready is in order.
use Rattle.std.proofs.Common.{◌≡◌, inl, inr, ℕ, zero, suc, ◌+◌, ◌<◌, Bool, true, false, cond, List, [], ◌∷◌, length, get_or, Option, Some}
use Rattle.std.proofs.Common.{None, refl, sym, subst, arith}
use Rattle.std.specs.Prelude.{slice_get}
use Rattle.std.specs.FinMap as fin
use Rattle.std.specs.List.{AllByRecursion, Contains}
use Rattle.std.specs.List.Sorted.{IsStrictlySortedBy}
use Rattle.std.specs.Cmp.{nat_cmp_is}
use Rattle.std.specs.Ordering.{nat_cmp}
use Rattle.std.specs.declared.cmp.Ordering.TheVariants.{Less}
use Rattle.std.proofs.lemmas.Option.{none-some, same_Some}
use Rattle.sm_tree.specs.Node.{Node, null, bool, int, number, text, bytes, tag, opaque, list, object, no_nodes, node, no_members, member}
use Rattle.sm_model.specs.Graphs.{MemberEntry}
use Rattle.sm_model.specs.declared.kind.Kind.{Kind}
use Rattle.sm_model.specs.declared.kind.Kind.TheVariants as model
use Rattle.sm_model.proofs.OneRising.{contains_behind, contains_head}
use Rattle.sm_model.proofs.Worklist.{apart}
use Rattle.sm_shapes.specs.InOrder.{AreMembersOf, IsEmptyNode, IsTextKind, MayHaveNode, NamesPattern}
use Rattle.sm_shapes.specs.TableData.{MemberData, ShapeData, TableData, home_at, member_count}
use Rattle.sm_shapes.specs.declared.kinds.ShapeKind.{ShapeKind}
use Rattle.sm_shapes.specs.declared.kinds.ShapeKind.TheVariants as table
use Rattle.sm_compile.specs.Compiled.{AllUnbound, EachSays, IsUnboundMember, NamesText, NoMediaTypes}
use Rattle.sm_compile.specs.Kinds.{is_text_kind, table_kind}
use Rattle.sm_compile.specs.Said.{default_said, is_bound, is_empty_node, may_have_node, node_where}
use Rattle.sm_compile.specs.TraitIds.{default_id}
use Rattle.sm_compile.specs.steps.Numbered.{run}

-- rows by their places are rows of ids
pub each_says : {D : Type 0} (Says : List ℕ → D → Type 0) (ids : List (List ℕ)) (ds : List D) → length ids ≡ length ds
    → ((k : ℕ) (d : D) → slice_get ds k ≡ Some d → Says (get_or ids k []) d) → EachSays Says ids ds
each_says Says [] [] long h = tt
each_says Says [] (d ∷ ds) long h = absurd (omega (arith, long))
each_says Says (id ∷ ids) [] long h = absurd (omega (arith, long))
each_says Says (id ∷ ids) (d ∷ ds) long h = (h 0 d refl, each_says Says ids ds (omega (arith, long)) (λ k e at. h (suc k) e at))

pub all_unbound : (ds : List MemberData) → ((k : ℕ) (d : MemberData) → slice_get ds k ≡ Some d → IsUnboundMember d) → AllUnbound ds
all_unbound [] h = tt
all_unbound (d ∷ ds) h = (h 0 d refl, all_unbound ds (λ k e at. h (suc k) e at))

pub no_media : (ds : List ShapeData) → ((k : ℕ) (d : ShapeData) → slice_get ds k ≡ Some d → d.media_type ≡ None) → NoMediaTypes ds
no_media [] h = tt
no_media (d ∷ ds) h = (h 0 d refl, no_media ds (λ k e at. h (suc k) e at))

-- a run rises
above_all : (f h n : ℕ) → f < h → AllByRecursion (λ y. nat_cmp f y ≡ Less) (run h n)
above_all f h zero lt = tt
above_all f h (suc n) lt = (sym (nat_cmp_is f h Less lt), above_all f (h + 1) n (omega (arith, lt)))

pub run_rises : (f n : ℕ) → IsStrictlySortedBy nat_cmp (run f n)
unfolding IsStrictlySortedBy
run_rises f zero = tt
run_rises f (suc n) = (above_all f (f + 1) n (omega arith), run_rises (f + 1) n)

pub names_pattern : (t : TableData) (o : Option ℕ) (u : Option (List ℕ)) → NamesText t.patterns o u → NamesPattern t o
names_pattern t None u h = tt
names_pattern t (Some n) (Some u) h = (u, h)
names_pattern t (Some n) None h = absurd h

pub members_all : (t : TableData) (s : ℕ) (ks : List ℕ) → ((k : ℕ) → Contains ks k → (k < member_count t) × (home_at t k ≡ s))
    → AreMembersOf t s ks
members_all t s [] h = tt
members_all t s (k ∷ ks) h =
    let here = h k (contains_head k ks) in (here.0, here.1, members_all t s ks (λ j there. h j (contains_behind k j ks there)))

-- the node of a default
empty_told : (n : Node) → is_empty_node n ≡ true → IsEmptyNode n
empty_told (list no_nodes) h = inl refl
empty_told (list (node n ns)) h = absurd (apart h)
empty_told (object no_members) h = inr refl
empty_told (object (member k n ms)) h = absurd (apart h)
empty_told null h = absurd (apart h)
empty_told (bool b) h = absurd (apart h)
empty_told (int z) h = absurd (apart h)
empty_told (number u) h = absurd (apart h)
empty_told (text u) h = absurd (apart h)
empty_told (bytes u) h = absurd (apart h)
empty_told (tag k n) h = absurd (apart h)
empty_told (opaque b) h = absurd (apart h)

node_told : (kind : ShapeKind) (n : Node) → may_have_node kind n ≡ true → MayHaveNode kind n
node_told table.List n h = empty_told n h
node_told table.Map n h = empty_told n h
node_told table.Structure n h = absurd (apart h)
node_told table.Union n h = absurd (apart h)
node_told table.LeftOut n h = absurd (apart h)
node_told table.Blob n h = tt
node_told table.Boolean n h = tt
node_told table.Text n h = tt
node_told table.Enum n h = tt
node_told table.Byte n h = tt
node_told table.Short n h = tt
node_told table.Integer n h = tt
node_told table.IntEnum n h = tt
node_told table.Long n h = tt
node_told table.Timestamp n h = tt

put_told : (kind : ShapeKind) (o : Option Node) (n : Node) → node_where kind o ≡ Some n → MayHaveNode kind n
put_told kind None n h = absurd (none-some n h)
put_told kind (Some m) n h = by (may_have_node kind m) refl h
  where
    by : (b : Bool) → may_have_node kind m ≡ b → cond b (Some m) None ≡ Some n → MayHaveNode kind n
    by true is at = subst (MayHaveNode kind) (same_Some m n at) (node_told kind m is)
    by false is at = absurd (none-some n at)

bound_told : (b : Bool) (o : Option Node) (n : Node) → cond b None o ≡ Some n → o ≡ Some n
bound_told true o n h = absurd (none-some n h)
bound_told false o n h = h

pub default_told : (home : Kind) (m : MemberEntry) (target : Kind) (n : Node) → default_said home m target ≡ Some n
    → (table_kind home ≡ table.Structure) × MayHaveNode (table_kind target) n
default_told model.Structure m target n h =
    (refl, put_told (table_kind target) (fin.get m.traits default_id) n (bound_told (is_bound m.traits) _ n h))
default_told model.Blob m target n h = absurd (none-some n h)
default_told model.Boolean m target n h = absurd (none-some n h)
default_told model.Text m target n h = absurd (none-some n h)
default_told model.Enum m target n h = absurd (none-some n h)
default_told model.Byte m target n h = absurd (none-some n h)
default_told model.Short m target n h = absurd (none-some n h)
default_told model.Integer m target n h = absurd (none-some n h)
default_told model.IntEnum m target n h = absurd (none-some n h)
default_told model.Long m target n h = absurd (none-some n h)
default_told model.Float m target n h = absurd (none-some n h)
default_told model.Double m target n h = absurd (none-some n h)
default_told model.BigInteger m target n h = absurd (none-some n h)
default_told model.BigDecimal m target n h = absurd (none-some n h)
default_told model.Timestamp m target n h = absurd (none-some n h)
default_told model.Document m target n h = absurd (none-some n h)
default_told model.List m target n h = absurd (none-some n h)
default_told model.Map m target n h = absurd (none-some n h)
default_told model.Union m target n h = absurd (none-some n h)
default_told model.Service m target n h = absurd (none-some n h)
default_told model.Operation m target n h = absurd (none-some n h)
default_told model.Resource m target n h = absurd (none-some n h)

-- the kind of a key
pub text_told : (kind : Kind) → is_text_kind kind ≡ true → IsTextKind (table_kind kind)
text_told model.Text h = inl refl
text_told model.Enum h = inr refl
text_told model.Blob h = absurd (apart h)
text_told model.Boolean h = absurd (apart h)
text_told model.Byte h = absurd (apart h)
text_told model.Short h = absurd (apart h)
text_told model.Integer h = absurd (apart h)
text_told model.IntEnum h = absurd (apart h)
text_told model.Long h = absurd (apart h)
text_told model.Float h = absurd (apart h)
text_told model.Double h = absurd (apart h)
text_told model.BigInteger h = absurd (apart h)
text_told model.BigDecimal h = absurd (apart h)
text_told model.Timestamp h = absurd (apart h)
text_told model.Document h = absurd (apart h)
text_told model.List h = absurd (apart h)
text_told model.Map h = absurd (apart h)
text_told model.Structure h = absurd (apart h)
text_told model.Union h = absurd (apart h)
text_told model.Service h = absurd (apart h)
text_told model.Operation h = absurd (apart h)
text_told model.Resource h = absurd (apart h)
