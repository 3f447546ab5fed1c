-- A table that is made of shapes that are ready is in order, and says what the graph says.
use Rattle.std.proofs.Common.{◌≡◌, ℕ, ◌+◌, ◌<◌, true, cond, List, [], ◌∷◌, map, length, get_or, Option, Some, None, refl, sym, ap, ◌∙◌}
use Rattle.std.proofs.Common.{subst, arith}
use Rattle.std.specs.Prelude.{IsUtf8, slice_get}
use Rattle.std.specs.List.{Contains, filter}
use Rattle.std.specs.Ordering.{nat_cmp}
use Rattle.std.specs.List.Sorted.{IsStrictlySortedBy}
use Rattle.std.proofs.lemmas.List.{length-map}
use Rattle.std.proofs.lemmas.Option.{none-some}
use Rattle.sm_tree.specs.Node.{Node}
use Rattle.sm_model.specs.Formed.{HaveForm}
use Rattle.sm_model.specs.Graphs.{GraphMaps, ShapeEntry, shape_entry, member_entry, member_id}
use Rattle.sm_model.specs.Kinds.{member_form}
use Rattle.sm_model.specs.Relations.{HasEntry}
use Rattle.sm_model.specs.declared.kind.Kind.{Kind}
use Rattle.sm_model.specs.declared.kind.Kind.TheVariants as model
use Rattle.sm_shapes.specs.DefaultPuts.{HasNoDefault}
use Rattle.sm_shapes.specs.InOrder.{AreByName, AreMembersOf, HasItsMembers, IsTextKind, MayDefault, MayHaveNode, NamesPattern, Shaped}
use Rattle.sm_shapes.specs.InOrder.{is_needed}
use Rattle.sm_shapes.specs.Names.{AllDiffer}
use Rattle.sm_shapes.specs.TableData.{MemberData, ShapeData, TableData, binding_in, by_json_name_in, by_name_in, constraints_in, default_at}
use Rattle.sm_shapes.specs.TableData.{default_in, default_node_at, default_node_in, home_at, home_in, json_name_at, json_name_in, kind_at}
use Rattle.sm_shapes.specs.TableData.{kind_in, member_count, members_at, members_in, name_at, name_in, needed_in, shape_constraints_in}
use Rattle.sm_shapes.specs.TableData.{shape_count, target_at, target_in}
use Rattle.sm_compile.specs.Compiled.{AllUnbound, EachSays, NoMediaTypes, SaysMember, SaysShape, members_under}
use Rattle.sm_compile.specs.Kinds.{has_value_members, table_kind}
use Rattle.sm_compile.specs.Sound.{HasTextKey, TargetsText}
use Rattle.sm_compile.specs.steps.Making.{IsMadeBy}
use Rattle.sm_compile.specs.steps.Numbered.{AreRowShapes, IsMemberRow, IsShapeRow, count_of_shape, first_of_shape, numbered_by, run}
use Rattle.sm_compile.proofs.Blocks.{one_block, run_long, run_within, within_run}
use Rattle.sm_compile.proofs.MemberNames.{all_long, id_here, json_names_there_differ, members_are, names_there_differ, row_here}
use Rattle.sm_compile.proofs.MemberNames.{row_members, row_shape, there_at, value_names, within_rows}
use Rattle.sm_compile.proofs.RowsAlike.{place_of}
use Rattle.sm_compile.proofs.ShapedTables.{all_unbound, default_told, each_says, members_all, names_pattern, no_media, run_rises, text_told}
use Rattle.sm_compile.proofs.SoundShapes.{one_shape}

-- how many members a list and a map have
value_count : (kind : Kind) (names : List (List ℕ)) (n : ℕ) → has_value_members kind ≡ true → length names ≡ n
    → length (cond (has_value_members kind) names []) ≡ n
value_count kind names n is long = ap (λ b. length (cond b names [])) is ∙ long

list_count : (kind : Kind) (names : List (List ℕ)) → HaveForm (member_form kind) names → kind ≡ model.List
    → length (cond (has_value_members kind) names []) ≡ 1
list_count kind names form e =
    value_count kind names 1 (ap has_value_members e) (ap length (subst (λ k. HaveForm (member_form k) names) e form))

map_count : (kind : Kind) (names : List (List ℕ)) → HaveForm (member_form kind) names → kind ≡ model.Map
    → length (cond (has_value_members kind) names []) ≡ 2
map_count kind names form e =
    value_count kind names 2 (ap has_value_members e) (ap length (subst (λ k. HaveForm (member_form k) names) e form))

text_key : (g : GraphMaps) (kind : Kind) (ms : List (List ℕ)) → kind ≡ model.Map → HasTextKey g kind ms → 0 < length ms
    → TargetsText g (get_or ms 0 [])
text_key g kind ms e key lt = by ms (subst (λ k. HasTextKey g k ms) e key) lt
  where
    by : (ms : List (List ℕ)) → HasTextKey g model.Map ms → 0 < length ms → TargetsText g (get_or ms 0 [])
    by [] h lt = absurd (omega (arith, lt))
    by (k ∷ ks) h lt = h

module _ (t : TableData) where
  abbrev IsKey : List ℕ → Type 0
  IsKey ks = IsTextKind (kind_at t (target_at t (get_or ks 0 0)))

  list_own : (ks : List ℕ) → length ks ≡ 1 → HasItsMembers t (table_kind model.List) ks
  list_own [] long = absurd (omega (arith, long))
  list_own (k ∷ []) long = tt
  list_own (k ∷ j ∷ ks) long = absurd (omega (arith, long))

  map_own : (ks : List ℕ) → length ks ≡ 2 → IsKey ks → HasItsMembers t (table_kind model.Map) ks
  map_own [] long key = absurd (omega (arith, long))
  map_own (k ∷ []) long key = absurd (omega (arith, long))
  map_own (j ∷ k ∷ []) long key = key
  map_own (j ∷ k ∷ i ∷ ks) long key = absurd (omega (arith, long))

  own_told : (kind : Kind) (ks : List ℕ) → (kind ≡ model.List → length ks ≡ 1) → (kind ≡ model.Map → length ks ≡ 2)
      → (kind ≡ model.Map → IsKey ks) → HasItsMembers t (table_kind kind) ks
  own_told model.List ks a b c = list_own ks (a refl)
  own_told model.Map ks a b c = map_own ks (b refl) (c refl)
  own_told model.Blob ks a b c = tt
  own_told model.Boolean ks a b c = tt
  own_told model.Text ks a b c = tt
  own_told model.Enum ks a b c = tt
  own_told model.Byte ks a b c = tt
  own_told model.Short ks a b c = tt
  own_told model.Integer ks a b c = tt
  own_told model.IntEnum ks a b c = tt
  own_told model.Long ks a b c = tt
  own_told model.Float ks a b c = tt
  own_told model.Double ks a b c = tt
  own_told model.BigInteger ks a b c = tt
  own_told model.BigDecimal ks a b c = tt
  own_told model.Timestamp ks a b c = tt
  own_told model.Document ks a b c = tt
  own_told model.Structure ks a b c = tt
  own_told model.Union ks a b c = tt
  own_told model.Service ks a b c = tt
  own_told model.Operation ks a b c = tt
  own_told model.Resource ks a b c = tt

module _ (g : GraphMaps) (ids : List (List ℕ)) (ready : AreRowShapes g ids) (t : TableData) (made : IsMadeBy g ids t) where
  count_is : length t.members ≡ length (numbered_by g ids).members
  count_is = all_long g ids ready t.patterns t.members made.members

  -- the rows at numbers
  shape_row : (s : ℕ) → s < shape_count t → (d : ShapeData) × (slice_get t.shapes s ≡ Some d)
      × IsShapeRow g t.patterns (numbered_by g ids) t.members s d
  shape_row s lt = let x = there_at t.shapes s lt in (x.0, x.1, made.shapes s x.0 x.1)

  member_row : (k : ℕ) → k < member_count t → (d : MemberData) × (slice_get t.members k ≡ Some d)
      × IsMemberRow g t.patterns (numbered_by g ids) k d
  member_row k lt = let x = there_at t.members k lt in (x.0, x.1, made.members.each k x.0 x.1)

  in_shapes : (s : ℕ) → s < length ids → s < shape_count t
  in_shapes s lt = omega (arith, lt, made.long)

  kind_row : (s : ℕ) → s < length ids → (x : ShapeEntry)
      → HasEntry g (get_or ids s []) (shape_entry x) → kind_at t s ≡ table_kind x.kind
  kind_row s lt x there =
      let r = shape_row s (in_shapes s lt) in
      ap kind_in r.1 ∙ r.2.says.kind
      ∙ ap (λ (y : ShapeEntry). table_kind y.kind) (one_shape g (get_or ids s []) r.2.says.s x r.2.says.there there)

  target_kind : (k : ℕ) (d : MemberData) (r : IsMemberRow g t.patterns (numbered_by g ids) k d)
      → kind_at t d.target ≡ table_kind r.says.target.kind
  target_kind k d r =
      let p = place_of ids d.target r.says.m.target r.says.target_number in
      kind_row d.target p.0 r.says.target
      (subst (λ i. HasEntry g i (shape_entry r.says.target)) (sym p.1) r.says.target_there)

  members_run : (s : ℕ) → s < shape_count t
      → members_at t s ≡ run (first_of_shape g ids s) (count_of_shape g ids s)
  members_run s lt = let r = shape_row s lt in ap members_in r.1 ∙ r.2.orders.all

  in_graph_shapes : (s : ℕ) → s < shape_count t → s < length ids
  in_graph_shapes s lt = omega (arith, lt, made.long)

  run_member : (s : ℕ) → s < shape_count t → (k : ℕ)
      → Contains (run (first_of_shape g ids s) (count_of_shape g ids s)) k
      → (k < member_count t) × (home_at t k ≡ s)
  run_member s lt k there =
      let first = first_of_shape g ids s in
      let count = count_of_shape g ids s in
      let within = run_within first count k there in
      let whole = within_rows g ids ready t.patterns t.members made.members s (in_graph_shapes s lt) in
      let inside : k < member_count t = omega (arith, within.1, whole) in
      let x = member_row k inside in
      let here : s < length ids = omega (arith, lt, made.long) in (
        inside,
        ap home_in x.1 ∙ one_block (members_under g) [] ids x.0.shape s k x.2.says.shape_number here x.2.behind x.2.before
            within.0 within.1,
      )

  homes_told : (k : ℕ) → k < member_count t → (home_at t k < shape_count t) × Contains (members_at t (home_at t k)) k
  homes_told k lt =
      let x = member_row k lt in
      let s = x.0.shape in
      let less = in_shapes s x.2.says.shape_number in
      let there : Contains (members_at t s) k =
      subst (λ ks. Contains ks k) (sym (members_run s less))
      (within_run (first_of_shape g ids s) (count_of_shape g ids s) k x.2.behind x.2.before) in
      subst (λ h. (h < shape_count t) × Contains (members_at t h) k) (sym (ap home_in x.1)) (less, there)

  -- the first member of a map is a text
  key_told : (s : ℕ) (lt : s < shape_count t) → (row_shape g ids ready s (in_graph_shapes s lt)).s.kind ≡ model.Map
      → IsTextKind (kind_at t (target_at t (get_or (members_at t s) 0 0)))
  key_told s lt is =
      let less = in_graph_shapes s lt in
      let home = row_shape g ids ready s less in
      let first = first_of_shape g ids s in
      let count = count_of_shape g ids s in
      let names = value_names g (get_or ids s []) home.s home.sound in
      let two : count ≡ 2 =
      ap length (row_members g ids ready t.patterns t.members made.members s less)
      ∙ length-map names (member_id (get_or ids s [])) ∙ map_count home.s.kind home.sound.names home.sound.form is in
      let some : 0 < count = omega (arith, two) in
      let x = row_here g ids ready t.patterns t.members made.members s less 0 some in
      let under : members_under g (get_or ids s []) ≡ home.s.members =
      members_are g (get_or ids s []) home
      ∙ ap (λ b. cond b home.s.members []) (ap has_value_members is) in
      let some_listed : 0 < length home.s.members = subst (λ n. 0 < n) (ap length under) some in
      let key = text_key g home.s.kind home.s.members is home.sound.key some_listed in
      let key_is : get_or home.s.members 0 [] ≡ get_or (numbered_by g ids).members (first + 0) [] =
      ap (λ ms. get_or ms 0 []) (sym under) ∙ sym (id_here g ids ready t.patterns t.members made.members s less 0 some) in
      let text = key x.2.says.m x.2.says.target
      (subst (λ i. HasEntry g i (member_entry x.2.says.m)) (sym key_is) x.2.says.there) x.2.says.target_there in
      let zero_more : first + 0 ≡ first = omega arith in
      let head : get_or (members_at t s) 0 0 ≡ first + 0 =
      ap (λ ks. get_or ks 0 0) (members_run s lt ∙ ap (run first) two) ∙ sym zero_more in
      subst (λ k. IsTextKind (kind_at t (target_at t k))) (sym head)
      (subst IsTextKind (sym (ap (λ o. kind_at t (target_in o)) x.1 ∙ target_kind (first + 0) x.0 x.2))
      (text_told x.2.says.target.kind text))

  own_there : (s : ℕ) → s < shape_count t → HasItsMembers t (kind_at t s) (members_at t s)
  own_there s lt =
      let less = in_graph_shapes s lt in
      let home = row_shape g ids ready s less in
      let names = value_names g (get_or ids s []) home.s home.sound in
      let here : s < length ids = omega (arith, lt, made.long) in
      let kind : kind_at t s ≡ table_kind home.s.kind =
      kind_row s here home.s home.there in
      let count : length (members_at t s) ≡ length names =
      ap length (members_run s lt) ∙ run_long (first_of_shape g ids s) (count_of_shape g ids s)
      ∙ ap length (row_members g ids ready t.patterns t.members made.members s less)
      ∙ length-map names (member_id (get_or ids s [])) in
      subst (λ k. HasItsMembers t k (members_at t s)) (sym kind)
      (own_told t home.s.kind (members_at t s) (λ e. count ∙ list_count home.s.kind home.sound.names home.sound.form e)
      (λ e. count ∙ map_count home.s.kind home.sound.names home.sound.form e) (key_told s lt))

  nodes_told : (k : ℕ) (n : Node) → default_node_at t k ≡ Some n → MayDefault t k × MayHaveNode (kind_at t (target_at t k)) n
  nodes_told k n h = by (slice_get t.members k) refl h
    where
      by : (o : Option MemberData) → slice_get t.members k ≡ o → default_node_in o ≡ Some n
          → MayDefault t k × MayHaveNode (kind_at t (target_at t k)) n
      by None at is = absurd (none-some n is)
      by (Some d) at is =
          let r = made.members.each k d at in
          let told = default_told r.says.home.kind r.says.m r.says.target.kind n (sym r.says.default_node ∙ is) in (
            (
              ap (λ o. kind_at t (home_in o)) at ∙ kind_row d.shape r.says.shape_number r.says.home r.says.home_there ∙ told.0,
              ap binding_in at ∙ r.unbound.0,
            ),
            subst (λ x. MayHaveNode x n) (sym (ap (λ o. kind_at t (target_in o)) at ∙ target_kind k d r)) told.1,
          )

  pub none_there : HasNoDefault t
  none_there k = by (slice_get t.members k) refl
    where
      by : (o : Option MemberData) → slice_get t.members k ≡ o → default_at t k ≡ None
      by None at = ap default_in at
      by (Some d) at = ap default_in at ∙ (made.members.each k d at).says.no_default

  pub shaped_told : Shaped t
  shaped_told = record {
    targets = λ k lt.
        let x = member_row k lt in
        subst (λ n. n < shape_count t) (sym (ap target_in x.1))
        (in_shapes x.0.target (place_of ids x.0.target x.2.says.m.target x.2.says.target_number).0);
    homes = homes_told;
    members = λ s lt. subst (AreMembersOf t s) (sym (members_run s lt)) (members_all t s _ (run_member s lt));
    rises = λ s lt. subst (IsStrictlySortedBy nat_cmp) (sym (members_run s lt)) (run_rises _ _);
    by_name = λ s lt. let r = shape_row s lt in
        subst (λ o. AreByName (name_at t) (members_in o) (by_name_in o)) (sym r.1) r.2.orders.named;
    by_json_name = λ s lt. let r = shape_row s lt in
        subst (λ o. AreByName (json_name_at t) (members_in o) (by_json_name_in o)) (sym r.1) r.2.orders.json_named;
    needed = λ s lt. let r = shape_row s lt in
        subst (λ o. needed_in o ≡ filter (is_needed t) (members_in o)) (sym r.1) r.2.orders.must;
    own = own_there;
    names = λ s lt. subst (λ ks. AllDiffer (map (name_at t) ks)) (sym (members_run s lt))
        (names_there_differ g ids ready t.patterns t.members made.members s (in_graph_shapes s lt));
    json_names = λ s lt. subst (λ ks. AllDiffer (map (json_name_at t) ks)) (sym (members_run s lt))
        (json_names_there_differ g ids ready t.patterns t.members made.members s (in_graph_shapes s lt));
    utf8 = λ k lt.
        let x = member_row k lt in
        subst (λ o. IsUtf8 (name_in o) × IsUtf8 (json_name_in o)) (sym x.1) (x.2.name, x.2.json_name);
    shape_patterns = λ s lt. let r = shape_row s lt in
        subst (λ o. NamesPattern t (shape_constraints_in o).pattern) (sym r.1) (names_pattern t _ _ r.2.says.constraints.pattern);
    member_patterns = λ k lt. let x = member_row k lt in
        subst (λ o. NamesPattern t (constraints_in o).pattern) (sym x.1) (names_pattern t _ _ x.2.says.constraints.pattern);
    nodes = nodes_told;
    values = λ k v h. absurd (none-some v (sym (none_there k) ∙ h));
    fit = λ k v h. absurd (none-some v (sym (none_there k) ∙ h));
  }

  -- what the rows say
  pub shapes_told : EachSays (SaysShape g t.patterns (numbered_by g ids)) ids t.shapes
  shapes_told = each_says _ ids t.shapes (sym made.long) (λ k d at. (made.shapes k d at).says)

  pub members_told : EachSays (SaysMember g t.patterns (numbered_by g ids)) (numbered_by g ids).members t.members
  members_told = each_says _ (numbered_by g ids).members t.members (sym count_is) (λ k d at. (made.members.each k d at).says)

  pub unbound_told : AllUnbound t.members
  unbound_told = all_unbound t.members (λ k d at. (made.members.each k d at).unbound)

  pub media_told : NoMediaTypes t.shapes
  media_told = no_media t.shapes (λ k d at. (made.shapes k d at).media)
