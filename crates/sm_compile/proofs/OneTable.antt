-- A set of a graph's shapes has one table with its bindings and media types, and so a shape has one over a store.
use Rattle.std.proofs.Common.{◌≡◌, ℕ, ◌<◌, zero, suc, Bool, false, List, [], ◌∷◌, map, filter, length, get_or, Some, None, sym, ap, ◌∙◌}
use Rattle.std.proofs.Common.{subst, arith}
use Rattle.std.specs.Prelude.{◌||◌, slice_get}
use Rattle.std.specs.Cmp.Lexicographic.{nat_list_cmp_total, slice_cmp}
use Rattle.std.specs.List.Sorted.{IsPermutation, IsStrictlySortedBy}
use Rattle.std.specs.Ordering.{nat_cmp}
use Rattle.std.specs.FinMap as fin
use Rattle.std.specs.List.{Contains, flat_map}
use Rattle.std.proofs.lemmas.List.{same_lists}
use Rattle.std.proofs.lemmas.Option.{slice_get-get_or}
use Rattle.sm_model.specs.Graphs.{GraphMaps, MemberEntry, member_id, shape_entry}
use Rattle.sm_model.specs.Relations.{HasEntry}
use Rattle.sm_model.proofs.OneRising.{one_rising}
use Rattle.sm_shapes.specs.InOrder.{AreByName, AreMembersOf, Shaped}
use Rattle.sm_shapes.specs.Names.{AllDiffer}
use Rattle.sm_shapes.specs.TableData.{MemberData, ShapeData, TableData, home_at, home_in, json_name_at, member_count, members_at}
use Rattle.sm_shapes.specs.TableData.{members_in as listed_in}
use Rattle.sm_shapes.specs.TableData.{by_json_name_at, by_json_name_in, by_name_at, by_name_in, default_in, default_node_in, json_name_in}
use Rattle.sm_shapes.specs.TableData.{name_at, name_in}
use Rattle.sm_shapes.specs.TableData.{needed_in, no_constraints, required_in, shape_count}
use Rattle.sm_shapes.specs.declared.kinds.ShapeKind.TheVariants.{LeftOut}
use Rattle.sm_compile.specs.Compiled.{AllUnbound, AreNumberedFrom, IdSet, IsCompiled, IsUnboundMember, NoMediaTypes, Numbering}
use Rattle.sm_compile.specs.Compiled.{SayConstraints, SaysMember, SaysShape}
use Rattle.sm_compile.specs.Compiled.{members_in, members_under, texts_of}
use Rattle.sm_compile.specs.Kinds.{table_kind, value_members}
use Rattle.sm_compile.specs.Laws.{OneTable}
use Rattle.sm_compile.specs.Reached.{IsReached}
use Rattle.sm_compile.specs.Said.{constraints_said, default_said, format_seen}
use Rattle.sm_compile.specs.TraitIds.{json_name_id, required_id, sparse_id, unique_items_id}
use Rattle.sm_compile.specs.TraitNodes.{effective_traits, own_traits, text_of}
use Rattle.std.specs.Option.{is_some}
use Rattle.sm_compile.proofs.OnePatterns.{one_texts, same_constraints, same_member, same_rows, same_shape, texts_differ}
use Rattle.sm_compile.proofs.OneWay.{one_name, one_served}
use Rattle.sm_compile.proofs.RowsAlike.{AreWithin, contains_mapped, each_at, each_length, one_block, one_order, same_numbers}
use Rattle.sm_compile.proofs.RowsAlike.{same_place}

-- one numbering
pub one_numbering : (g : GraphMaps) (In : IdSet) (t u : TableData) (n m : Numbering) → IsCompiled g In t n → IsCompiled g In u m
    → Path Numbering n m
one_numbering g In t u n m h k =
    let shapes = one_rising nat_list_cmp_total n.shapes m.shapes h.shapes_rise k.shapes_rise (λ id. (
      λ there. (k.shapes id).1 ((h.shapes id).0 there),
      λ there. (h.shapes id).1 ((k.shapes id).0 there),
    )) in
    let members = h.members_follow ∙ ap (flat_map (members_under g)) shapes ∙ sym k.members_follow in
    λ i. record { shapes = shapes i; members = members i }

-- rows of members and shapes by their places
all_unbound : (ds : List MemberData) → AllUnbound ds → (k : ℕ) (d : MemberData) → k < length ds → IsUnboundMember (get_or ds k d)
all_unbound [] h k d less = absurd (omega (arith, less))
all_unbound (e ∷ ds) h zero d less = h.0
all_unbound (e ∷ ds) h (suc k) d less = let small : k < length ds = omega (arith, less) in all_unbound ds h.1 k d small

no_media : (ds : List ShapeData) → NoMediaTypes ds → (k : ℕ) (d : ShapeData) → k < length ds → (get_or ds k d).media_type ≡ None
no_media [] h k d less = absurd (omega (arith, less))
no_media (e ∷ ds) h zero d less = h.0
no_media (e ∷ ds) h (suc k) d less = let small : k < length ds = omega (arith, less) in no_media ds h.1 k d small

within_count : (t : TableData) (s : ℕ) (ks : List ℕ) (n : ℕ) → member_count t ≡ n → AreMembersOf t s ks → AreWithin n ks
within_count t s [] n e h = tt
within_count t s (k ∷ ks) n e h = (subst (λ c. k < c) e h.0, within_count t s ks n e h.2)

-- a row that is no row of any table
no_shape : ShapeData
no_shape = record {
  kind = LeftOut;
  members = [];
  by_name = [];
  by_json_name = [];
  needed = [];
  constraints = no_constraints;
  unique = false;
  sparse = false;
  unit = false;
  format = None;
  media_type = None;
}

abbrev needed_by : List MemberData → ℕ → Bool
needed_by ms k = required_in (slice_get ms k) || (is_some (default_node_in (slice_get ms k)) || is_some (default_in (slice_get ms k)))

-- a table that says what the graph says, and is in order
record IsTableOf (g : GraphMaps) (In : IdSet) (n : Numbering) (t : TableData) : Type 0 where
  compiled : IsCompiled g In t n
  shaped : Shaped t

-- the rows of two tables have the same bindings and media types
pub record AreBoundAlike (t u : TableData) : Type 0 where
  pub bindings : (k : ℕ) (d : MemberData) → k < member_count t → k < member_count u
      → (get_or t.members k d).binding ≡ (get_or u.members k d).binding
  pub media : (k : ℕ) (d : MemberData) → k < member_count t → k < member_count u
      → (get_or t.members k d).media_type ≡ (get_or u.members k d).media_type
  pub shapes : (s : ℕ) (d : ShapeData) → s < shape_count t → s < shape_count u
      → (get_or t.shapes s d).media_type ≡ (get_or u.shapes s d).media_type

unbound_alike : (t u : TableData) → AllUnbound t.members → AllUnbound u.members → NoMediaTypes t.shapes → NoMediaTypes u.shapes
    → AreBoundAlike t u
unbound_alike t u free unbound none nothing = record {
  bindings = λ k d less also. (all_unbound t.members free k d less).0 ∙ sym (all_unbound u.members unbound k d also).0;
  media = λ k d less also. (all_unbound t.members free k d less).1 ∙ sym (all_unbound u.members unbound k d also).1;
  shapes = λ s d less also. no_media t.shapes none s d less ∙ sym (no_media u.shapes nothing s d also);
}

module _ (g : GraphMaps) (In : IdSet) (n : Numbering) where
  module _ (t : TableData) (h : IsTableOf g In n t) where
    shapes_many : length n.shapes ≡ shape_count t
    shapes_many = each_length (SaysShape g t.patterns n) n.shapes t.shapes h.compiled.says_shapes

    members_many : length n.members ≡ member_count t
    members_many = each_length (SaysMember g t.patterns n) n.members t.members h.compiled.says_members

    says_shape : (s : ℕ) (d : ShapeData) → s < shape_count t → SaysShape g t.patterns n (get_or n.shapes s []) (get_or t.shapes s d)
    says_shape s d less = each_at (SaysShape g t.patterns n) n.shapes t.shapes h.compiled.says_shapes s d less

    says_member : (k : ℕ) (d : MemberData) → k < member_count t → SaysMember g t.patterns n (get_or n.members k []) (get_or t.members k d)
    says_member k d less = each_at (SaysMember g t.patterns n) n.members t.members h.compiled.says_members k d less

    members_here : (s : ℕ) (d : ShapeData) → s < shape_count t → members_at t s ≡ (get_or t.shapes s d).members
    members_here s d less = ap listed_in (slice_get-get_or t.shapes s d less)

    home_here : (k : ℕ) (d : MemberData) → k < member_count t → home_at t k ≡ (get_or t.members k d).shape
    home_here k d less = ap home_in (slice_get-get_or t.members k d less)

    -- the member's id is among those of its shape
    home_has : (k : ℕ) → k < member_count t → (d : ShapeData)
        → Contains (members_under g (get_or n.shapes (home_at t k) [])) (get_or n.members k [])
    home_has k less d =
        let home = h.shaped.homes k less in
        let row = says_shape (home_at t k) d home.0 in
        let listed = subst (λ ks. Contains ks k) (members_here (home_at t k) d home.0) home.1 in
        let named = subst (λ ids. Contains ids (get_or n.members k [])) row.members
        (contains_mapped (λ j. get_or n.members j []) (get_or t.shapes (home_at t k) d).members k listed) in
        subst (λ e. Contains (members_in e) (get_or n.members k [])) (sym row.there) named

    shapes_differ : AllDiffer n.shapes
    shapes_differ = h.compiled.shapes_once

    blocks_differ : AllDiffer (flat_map (members_under g) n.shapes)
    blocks_differ = subst AllDiffer h.compiled.members_follow h.compiled.members_once

  module _ (t u : TableData) (h : IsTableOf g In n t) (k : IsTableOf g In n u) (patterns : t.patterns ≡ u.patterns)
      (bound : AreBoundAlike t u) where
    differ : AllDiffer (texts_of u.patterns)
    differ = texts_differ g In (texts_of u.patterns) k.compiled.patterns.firsts k.compiled.patterns.each k.compiled.patterns.rise

    many_members : member_count t ≡ member_count u
    many_members = sym (members_many t h) ∙ members_many u k

    many_shapes : shape_count t ≡ shape_count u
    many_shapes = sym (shapes_many t h) ∙ shapes_many u k

    same_home : (j : ℕ) → j < member_count t → ShapeData → home_at t j ≡ home_at u j
    same_home j less d =
        let also : j < member_count u = subst (λ c. j < c) many_members less in
        let a = subst (λ c. home_at t j < c) (sym (shapes_many t h)) (h.shaped.homes j less).0 in
        let b = subst (λ c. home_at u j < c) (sym (shapes_many u k)) (k.shaped.homes j also).0 in
        one_block (members_under g) n.shapes (blocks_differ t h) (home_at t j) (home_at u j) (get_or n.members j []) a b
        (home_has t h j less d) (home_has u k j also d)

    member_row : (id : List ℕ) (d e : MemberData) → SaysMember g t.patterns n id d → SaysMember g u.patterns n id e → d.shape ≡ e.shape
        → d.binding ≡ e.binding → d.media_type ≡ e.media_type → Path MemberData d e
    member_row id d e a b shape binding media =
        let m = same_member g id a.m b.m a.there b.there in
        let home = same_shape g (get_or n.shapes e.shape []) a.home b.home
        (subst (λ s. HasEntry g (get_or n.shapes s []) (shape_entry a.home)) shape a.home_there) b.home_there in
        let target = same_shape g b.m.target a.target b.target
        (subst (λ (x : MemberEntry). HasEntry g x.target (shape_entry a.target)) m a.target_there) b.target_there in
        let name = one_name (get_or n.shapes e.shape []) d.name e.name
        (ap (λ s. member_id (get_or n.shapes s []) d.name) (sym shape) ∙ sym a.name ∙ b.name) in
        let number = same_place n.shapes (shapes_differ t h) d.target e.target b.m.target
        (a.target_number ∙ ap (λ (x : MemberEntry). Some x.target) m) b.target_number in
        let json_name = a.json_name ∙ (λ i. text_of (fin.get (m i).traits json_name_id)) ∙ sym b.json_name in
        let required = a.required ∙ (λ i. is_some (fin.get (m i).traits required_id)) ∙ sym b.required in
        let constraints = same_constraints u.patterns differ d.constraints e.constraints
        (constraints_said g b.target (effective_traits b.m.traits b.target.traits))
        (subst (λ said. SayConstraints u.patterns d.constraints said)
        (λ i. constraints_said g (target i) (effective_traits (m i).traits (target i).traits))
        (subst (λ ps. SayConstraints ps d.constraints (constraints_said g a.target (effective_traits a.m.traits a.target.traits))) patterns
        a.constraints)) b.constraints in
        let format = a.format ∙ (λ i. format_seen (effective_traits (m i).traits (target i).traits)) ∙ sym b.format in
        let node = a.default_node ∙ (λ i. default_said (home i).kind (m i) (target i).kind) ∙ sym b.default_node in
        let default = a.no_default ∙ sym b.no_default in
        λ i. record {
          shape = shape i;
          name = name i;
          json_name = json_name i;
          target = number i;
          required = required i;
          constraints = constraints i;
          format = format i;
          media_type = media i;
          binding = binding i;
          default_node = node i;
          default = default i;
        }

    same_members : ShapeData → Path (List MemberData) t.members u.members
    same_members some = same_lists t.members u.members many_members (λ j d less.
        let also : j < member_count u = subst (λ c. j < c) many_members less in
        member_row (get_or n.members j []) (get_or t.members j d) (get_or u.members j d) (says_member t h j d less)
        (says_member u k j d also)
        (sym (home_here t h j d less) ∙ same_home j less some ∙ home_here u k j d also) (bound.bindings j d less also)
        (bound.media j d less also))

    module _ (members : Path (List MemberData) t.members u.members) where
      same_listed : (s : ℕ) (d : ShapeData) → s < shape_count t → s < shape_count u → members_at t s ≡ members_at u s
      same_listed s d less also =
          let a = says_shape t h s d less in
          let b = says_shape u k s d also in
          let shape = same_shape g (get_or n.shapes s []) a.s b.s a.there b.there in
          let p = within_count t s (members_at t s) (length n.members) (sym (members_many t h)) (h.shaped.members s less) in
          let q = within_count u s (members_at u s) (length n.members) (sym (members_many u k)) (k.shaped.members s also) in
          same_numbers n.members h.compiled.members_once (members_at t s) (members_at u s) p q
          (ap (map (λ j. get_or n.members j [])) (members_here t h s d less) ∙ a.members ∙ (λ i. value_members (shape i)) ∙ sym b.members
          ∙ sym (ap (map (λ j. get_or n.members j [])) (members_here u k s d also)))

      names : Path (ℕ → List ℕ) (name_at t) (name_at u)
      names = λ i j. name_in (slice_get (members i) j)

      json_names : Path (ℕ → List ℕ) (json_name_at t) (json_name_at u)
      json_names = λ i j. json_name_in (slice_get (members i) j)

      shape_row : (s : ℕ) (d : ShapeData) → s < shape_count t → s < shape_count u
          → Path ShapeData (get_or t.shapes s d) (get_or u.shapes s d)
      shape_row s d less also =
          let id = get_or n.shapes s [] in
          let x = get_or t.shapes s d in
          let y = get_or u.shapes s d in
          let a : SaysShape g t.patterns n id x = says_shape t h s d less in
          let b : SaysShape g u.patterns n id y = says_shape u k s d also in
          let shape = same_shape g id a.s b.s a.there b.there in
          let at_t = slice_get-get_or t.shapes s d less in
          let at_u = slice_get-get_or u.shapes s d also in
          let kind = a.kind ∙ (λ i. table_kind (shape i).kind) ∙ sym b.kind in
          let listed = same_listed s d less also in
          let one_by = λ (name : TableData → ℕ → List ℕ) (path : Path (ℕ → List ℕ) (name t) (name u)) (xs ys : List ℕ)
          (differing : AllDiffer (map (name u) (members_at u s))) (p : AreByName (name t) (members_at t s) xs)
          (q : AreByName (name u) (members_at u s) ys).
          one_order (name u) (members_at u s) xs ys differing (subst (IsPermutation xs) listed p.0) q.0
          (subst (λ f. IsStrictlySortedBy (slice_cmp nat_cmp) (map f xs)) path p.1) q.1 in
          let by_name = one_by name_at names (by_name_at t s) (by_name_at u s) (k.shaped.names s also) (h.shaped.by_name s less)
          (k.shaped.by_name s also) in
          let by_json = one_by json_name_at json_names (by_json_name_at t s) (by_json_name_at u s) (k.shaped.json_names s also)
          (h.shaped.by_json_name s less) (k.shaped.by_json_name s also) in
          let needed = h.shaped.needed s less ∙ (λ i. filter (needed_by (members i)) (listed i)) ∙ sym (k.shaped.needed s also) in
          let constraints = same_constraints u.patterns differ x.constraints y.constraints (constraints_said g b.s (own_traits b.s.traits))
          (subst (λ said. SayConstraints u.patterns x.constraints said) (λ i. constraints_said g (shape i) (own_traits (shape i).traits))
          (subst (λ ps. SayConstraints ps x.constraints (constraints_said g a.s (own_traits a.s.traits))) patterns a.constraints))
          b.constraints in
          let unique = a.unique ∙ (λ i. is_some (fin.get (shape i).traits unique_items_id)) ∙ sym b.unique in
          let sparse = a.sparse ∙ (λ i. is_some (fin.get (shape i).traits sparse_id)) ∙ sym b.sparse in
          let unit = a.unit ∙ sym b.unit in
          let format = a.format ∙ (λ i. format_seen (own_traits (shape i).traits)) ∙ sym b.format in
          let media = bound.shapes s d less also in
          let rows_members = sym (ap listed_in at_t) ∙ listed ∙ ap listed_in at_u in
          let rows_by_name = sym (ap by_name_in at_t) ∙ by_name ∙ ap by_name_in at_u in
          let rows_by_json = sym (ap by_json_name_in at_t) ∙ by_json ∙ ap by_json_name_in at_u in
          let rows_needed = sym (ap needed_in at_t) ∙ needed ∙ ap needed_in at_u in
          λ i. record {
            kind = kind i;
            members = rows_members i;
            by_name = rows_by_name i;
            by_json_name = rows_by_json i;
            needed = rows_needed i;
            constraints = constraints i;
            unique = unique i;
            sparse = sparse i;
            unit = unit i;
            format = format i;
            media_type = media i;
          }

      same_shapes : Path (List ShapeData) t.shapes u.shapes
      same_shapes =
          same_lists t.shapes u.shapes many_shapes (λ s d less. shape_row s d less (subst (λ c. s < c) many_shapes less))

    same_table : Path TableData t u
    same_table =
        let members = same_members no_shape in
        let shapes = same_shapes members in
        λ i. record { shapes = shapes i; members = members i; patterns = patterns i }

-- two tables of one set whose patterns are numbered from one number on are one, where they are bound alike
pub one_compiled : (g : GraphMaps) (In : IdSet) (t u : TableData) (n m : Numbering) (first : ℕ) → IsCompiled g In t n → IsCompiled g In u m
    → Shaped t → Shaped u → AreNumberedFrom first t.patterns → AreNumberedFrom first u.patterns → AreBoundAlike t u → Path TableData t u
one_compiled g In t u n m first h k shaped ordered from also bound =
    let left = subst (IsCompiled g In t) (one_numbering g In t u n m h k) h in
    let texts = one_texts g In (texts_of t.patterns) (texts_of u.patterns) h.patterns k.patterns in
    same_table g In m t u (record { compiled = left; shaped = shaped }) (record { compiled = k; shaped = ordered })
    (same_rows first t.patterns u.patterns from also texts) bound

pub one_seen : OneTable
one_seen g root test before now later one other p q =
    let t = one.table in
    let u = other.table in
    let numbering = one_numbering g (IsReached g root) t u p.numbering q.numbering p.compiled q.compiled in
    let shape = subst (λ (m : Numbering). slice_get m.shapes one.shape ≡ Some root) numbering p.shape in (
      one_compiled g (IsReached g root) t u p.numbering q.numbering (length before.added) p.compiled q.compiled p.shaped q.shaped p.numbered
          q.numbered (unbound_alike t u p.unbound q.unbound p.no_media q.no_media),
      same_place q.numbering.shapes q.compiled.shapes_once one.shape other.shape root shape q.shape,
      one_served g root one.served other.served p.served q.served,
    )
