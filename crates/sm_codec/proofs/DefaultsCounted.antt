-- The default of a member that counts, by its kind and constraints; and all of them, put into the table.
use Rattle.std.proofs.Common.{◌≡◌, inl, inr, ℕ, suc, ◌+◌, ◌<◌, length, drop, get_or, arith, Bool, true, false, ◌&&◌, cond, List, [], ◌∷◌}
use Rattle.std.proofs.Common.{◌++◌, append_assoc, append-nil, refl, sym, ap, ◌∙◌, subst}
use Rattle.std.specs.Prelude.{Option, Some, None, Result, Ok, Err, slice_get}
use Rattle.std.proofs.lemmas.List.{drop_more}
use Rattle.std.proofs.lemmas.Option.{slice_get-get_or}
use Rattle.sm_tree.specs.Node.{Node, list, object, no_nodes, no_members}
use Rattle.sm_time.specs.declared.format.Format.TheVariants.{EpochSeconds}
use Rattle.std.specs.Prelude.{unwrap_or}
use Rattle.sm_shapes.specs.Values.{Val, list_val, map_val, no_vals, no_entries}
use Rattle.sm_shapes.specs.TableData.{TableData, MemberData, no_constraints, kind_at, target_in, constraints_in, format_in, default_node_in}
use Rattle.sm_shapes.specs.DefaultPuts.{with_default, with_defaults, table_with_defaults}
use Rattle.sm_shapes.specs.Places.{Place, member_place, kind_of, format_of, constraints_of, unique_of}
use Rattle.sm_shapes.specs.Broken.{first_broken, length_broken}
use Rattle.sm_shapes.specs.Fitting.{Test, finder}
use Rattle.sm_shapes.specs.InOrder.{Shaped, MayHaveNode, IsEmptyNode}
use Rattle.sm_shapes.specs.declared.kinds.ShapeKind.{ShapeKind}
use Rattle.sm_shapes.specs.declared.kinds.ShapeKind.TheVariants as kind
use Rattle.sm_shapes.specs.declared.fault.FaultKind.{FaultKind}
use Rattle.sm_shapes.specs.declared.fault.FaultKind.TheVariants.{Unique}
use Rattle.sm_codec.specs.declared.simple.Simple.{Simple}
use Rattle.sm_codec.specs.declared.simple.Simple.TheVariants as the
use Rattle.sm_codec.specs.Sorts.{simple, a_list, a_map, sort_by}
use Rattle.sm_codec.specs.Codec.{Codec, sort_at, broken_at}
use Rattle.sm_codec.specs.Conventions.{node_read}
use Rattle.sm_codec.specs.FaultLists.{here, settled}
use Rattle.sm_codec.specs.Readings.{reading, leaf_reading, list_by, object_by, one_here}
use Rattle.sm_codec.specs.Defaults.{node_codec, read_value, counted_default, filled_members, filled}
use Rattle.sm_codec.specs.steps.Filling.{empty_default, value_read, unjudged, unless_broken, judged, counted_defaults}
use Rattle.sm_codec.proofs.LeafReadings.{at_simple}

kept_value : (kinds : List FaultKind) (v : Val) → read_value (settled (here kinds) v) ≡ unless_broken kinds v
kept_value [] v = refl
kept_value (k ∷ kinds) v = refl

-- by the first that is broken
pub kept_where : (kinds : List FaultKind) (v : Val) → first_broken kinds ≡ None → unless_broken kinds v ≡ Some v
kept_where [] v h = refl
kept_where (k ∷ kinds) v h = absurd cc

pub kept_nowhere : (kinds : List FaultKind) (v : Val) (k : FaultKind) → first_broken kinds ≡ Some k → unless_broken kinds v ≡ None
kept_nowhere [] v k h = absurd cc
kept_nowhere (j ∷ kinds) v k h = refl

-- nothing twice in a list of none
never_twice : (b : Bool) → cond (b && false) (one_here Unique) [] ≡ []
never_twice true = refl
never_twice false = refl

module _ (t : TableData) (test : Test) (p : Place) where
  abbrev now : Codec
  now = node_codec t test

  abbrev kept : Option Val → Option Val
  kept o = judged (finder t test) (kind_of t p) (constraints_of t p) o

  leaf_kept : (found : Result Val FaultKind) → read_value (leaf_reading now p found) ≡ kept (value_read found)
  leaf_kept (Ok v) = kept_value (broken_at now p v) v
  leaf_kept (Err k) = refl

  simple_kept : (x : Simple) (n : Node) → sort_at now p ≡ simple x → read_value (reading now n p) ≡ kept (value_read (node_read false x n))
  simple_kept x n e = ap read_value (at_simple now p x n e) ∙ leaf_kept (node_read false x n)

  empty_list : sort_at now p ≡ a_list → read_value (reading now (list no_nodes) p) ≡ kept (Some (list_val no_vals))
  empty_list e =
      let own = here (length_broken (constraints_of t p) 0) in
      ap (λ s. read_value (list_by s now p (list no_nodes) [])) e
      ∙ ap (λ fs. read_value (settled (own ++ fs) (list_val no_vals))) (never_twice (unique_of t p))
      ∙ ap (λ fs. read_value (settled fs (list_val no_vals))) (append-nil own)
      ∙ kept_value (length_broken (constraints_of t p) 0) (list_val no_vals)

  empty_map : sort_at now p ≡ a_map → read_value (reading now (object no_members) p) ≡ kept (Some (map_val no_entries))
  empty_map e =
      ap (λ s. read_value (object_by s now p (object no_members) [])) e
      ∙ kept_value (length_broken (constraints_of t p) 0) (map_val no_entries)

  list_kept : (n : Node) → sort_at now p ≡ a_list → IsEmptyNode n → read_value (reading now n p) ≡ kept (empty_default kind.List n)
  list_kept n e (inl h) = subst (λ m. read_value (reading now m p) ≡ kept (empty_default kind.List m)) (sym h) (empty_list e)
  list_kept n e (inr h) = subst (λ m. read_value (reading now m p) ≡ kept (empty_default kind.List m)) (sym h)
      (ap (λ s. read_value (object_by s now p (object no_members) [])) e)

  map_kept : (n : Node) → sort_at now p ≡ a_map → IsEmptyNode n → read_value (reading now n p) ≡ kept (empty_default kind.Map n)
  map_kept n e (inl h) = subst (λ m. read_value (reading now m p) ≡ kept (empty_default kind.Map m)) (sym h)
      (ap (λ s. read_value (list_by s now p (list no_nodes) [])) e)
  map_kept n e (inr h) = subst (λ m. read_value (reading now m p) ≡ kept (empty_default kind.Map m)) (sym h) (empty_map e)

  by_kind : (n : Node) (kd : ShapeKind) → kind_of t p ≡ kd → MayHaveNode kd n
      → read_value (reading now n p) ≡ kept (unjudged kd (format_of t p) n)
  by_kind n kind.Blob e may = simple_kept the.Blob n (ap (λ k. sort_by k (format_of t p)) e)
  by_kind n kind.Boolean e may = simple_kept the.Boolean n (ap (λ k. sort_by k (format_of t p)) e)
  by_kind n kind.Text e may = simple_kept the.Text n (ap (λ k. sort_by k (format_of t p)) e)
  by_kind n kind.Enum e may = simple_kept the.Text n (ap (λ k. sort_by k (format_of t p)) e)
  by_kind n kind.Byte e may = simple_kept (the.Number 8) n (ap (λ k. sort_by k (format_of t p)) e)
  by_kind n kind.Short e may = simple_kept (the.Number 16) n (ap (λ k. sort_by k (format_of t p)) e)
  by_kind n kind.Integer e may = simple_kept (the.Number 32) n (ap (λ k. sort_by k (format_of t p)) e)
  by_kind n kind.IntEnum e may = simple_kept (the.Number 32) n (ap (λ k. sort_by k (format_of t p)) e)
  by_kind n kind.Long e may = simple_kept (the.Number 64) n (ap (λ k. sort_by k (format_of t p)) e)
  by_kind n kind.Timestamp e may =
      simple_kept (the.Time (unwrap_or (format_of t p) EpochSeconds)) n (ap (λ k. sort_by k (format_of t p)) e)
  by_kind n kind.List e may = list_kept n (ap (λ k. sort_by k (format_of t p)) e) may
  by_kind n kind.Map e may = map_kept n (ap (λ k. sort_by k (format_of t p)) e) may
  by_kind n kind.Structure e may = absurd may
  by_kind n kind.Union e may = absurd may
  by_kind n kind.LeftOut e may = absurd may

-- the default of a member with this row
counted_row : (t : TableData) (test : Test) (k : ℕ) (m : MemberData) (n : Node) → slice_get t.members k ≡ Some m
    → m.default_node ≡ Some n → MayHaveNode (kind_at t m.target) n
    → judged (finder t test) (kind_at t m.target) m.constraints (unjudged (kind_at t m.target) m.format n)
    ≡ counted_default (node_codec t test) k (default_node_in (slice_get t.members k))
counted_row t test k m n row node may =
    let kinds : kind_of t (member_place k) ≡ kind_at t m.target = ap (λ o. kind_at t (target_in o)) row in
    sym (
    ap (λ o. counted_default (node_codec t test) k (default_node_in o)) row
    ∙ ap (counted_default (node_codec t test) k) node
    ∙ by_kind t test (member_place k) n (kind_at t m.target) kinds may
    ∙ ap (λ o. judged (finder t test) (kind_of t (member_place k)) (constraints_in o) (unjudged (kind_at t m.target) (format_in o) n)) row
    ∙ ap (λ kd. judged (finder t test) kd m.constraints (unjudged (kind_at t m.target) m.format n)) kinds
    )

pub all_counted : (c : Codec) (k : ℕ) (ms : List MemberData) → with_defaults ms (counted_defaults c k ms) ≡ filled_members c k ms
all_counted c k [] = refl
all_counted c k (m ∷ ms) = ap (λ xs. with_default m (counted_default c k m.default_node) ∷ xs) (all_counted c (suc k) ms)

-- the same where the table is in order
pub default_counted : (t : TableData) (test : Test) (k : ℕ) (m : MemberData) (n : Node) → Shaped t → slice_get t.members k ≡ Some m
    → m.default_node ≡ Some n
    → judged (finder t test) (kind_at t m.target) m.constraints (unjudged (kind_at t m.target) m.format n)
    ≡ counted_default (node_codec t test) k (default_node_in (slice_get t.members k))
default_counted t test k m n shaped row node =
    counted_row t test k m n row node
    (subst (λ o. MayHaveNode (kind_at t (target_in o)) n) row (shaped.nodes k n (ap default_node_in row ∙ node)).1)

-- the members from one number on, and the first of them
pub counted_behind : (c : Codec) (i : ℕ) (ms : List MemberData) (o : Option MemberData) → slice_get ms i ≡ o → i < length ms
    → counted_defaults c i (drop i ms) ≡ counted_default c i (default_node_in o) ∷ counted_defaults c (i + 1) (drop (i + 1) ms)
counted_behind c i ms o e inside =
    let more = drop_more ms i no_member inside in
    let on : suc i ≡ i + 1 = omega arith in
    ap (counted_defaults c i) more
    ∙ ap (λ n. counted_default c i (default_node_in (Some (get_or ms i no_member))) ∷ counted_defaults c n (drop (i + 1) ms)) on
    ∙ ap (λ x. counted_default c i (default_node_in x) ∷ counted_defaults c (i + 1) (drop (i + 1) ms))
    (sym (slice_get-get_or ms i no_member inside) ∙ e)
  where
    no_member : MemberData
    no_member = record {
      shape = 0;
      name = [];
      json_name = None;
      target = 0;
      required = false;
      constraints = no_constraints;
      format = None;
      media_type = None;
      binding = None;
      default_node = None;
      default = None;
    }

-- one default more
pub one_counted : (c : Codec) (i : ℕ) (ms : List MemberData) (vs : List (Option Val)) (o : Option Val) (all : List (Option Val))
    → i < length ms → o ≡ counted_default c i (default_node_in (slice_get ms i)) → vs ++ counted_defaults c i (drop i ms) ≡ all
    → (vs ++ o ∷ []) ++ counted_defaults c (i + 1) (drop (i + 1) ms) ≡ all
one_counted c i ms vs o all inside is before =
    append_assoc vs (o ∷ []) (counted_defaults c (i + 1) (drop (i + 1) ms))
    ∙ ap (λ x. vs ++ x ∷ counted_defaults c (i + 1) (drop (i + 1) ms)) is
    ∙ sym (ap (λ xs. vs ++ xs) (counted_behind c i ms (slice_get ms i) refl inside)) ∙ before

abbrev pub with_members : TableData → List MemberData → TableData
with_members t ms = record { shapes = t.shapes; members = ms; patterns = t.patterns }

pub all_filled : (t : TableData) (test : Test) (u : TableData) (vs : List (Option Val)) → u ≡ table_with_defaults t vs
    → vs ≡ counted_defaults (node_codec t test) 0 t.members → u ≡ filled t test
all_filled t test u vs put told =
    put ∙ ap (table_with_defaults t) told ∙ ap (with_members t) (all_counted (node_codec t test) 0 t.members)
