-- The rows of a table of the shapes of a set to which all belongs that they lead to: each is told by its place, from what the graph says
-- there.
use Rattle.std.proofs.Common.{◌≡◌, inl, inr, ℕ, ◌+◌, ◌<◌, ◌≤◌, true, cond, List, [], length, get_or, Option, Some, None, refl, sym, ap}
use Rattle.std.proofs.Common.{◌∙◌, subst, arith}
use Rattle.std.specs.Prelude.{◌↔◌, IsUtf8, is_some, unwrap_or}
use Rattle.std.specs.FinMap as fin
use Rattle.std.specs.List.{Contains, filter, flat_map}
use Rattle.std.specs.Option.{option_or}
use Rattle.std.specs.Str.{bytes_eq}
use Rattle.std.proofs.lemmas.List.{take_all}
use Rattle.std.proofs.lemmas.List.Concat.{get_or-flat_map}
use Rattle.std.proofs.lemmas.List.Elements.{Contains-get_or}
use Rattle.std.proofs.lemmas.Option.{slice_get_read}
use Rattle.sm_ids.specs.IdText.{IsIdText}
use Rattle.sm_tree.specs.Node.{Node, null, bool, int, number, text, bytes, tag, opaque, list, object}
use Rattle.sm_tree.specs.Json.{IsJson}
use Rattle.sm_model.specs.Graphs.{shape_entry, member_entry, GraphMaps, ShapeEntry, member_id}
use Rattle.sm_model.specs.PreludeShapes.{unit_id}
use Rattle.sm_model.specs.Relations.{HasEntry}
use Rattle.sm_shapes.specs.TableData.{MemberData, ShapeData, TableData, json_name_at, name_at}
use Rattle.sm_shapes.specs.InOrder.{is_needed}
use Rattle.sm_compile.specs.Compiled.{AreNumberedFrom, IdSet, IsCarrier, IsTabled, NamesText, PatternRows, SaysMember, members_under}
use Rattle.sm_compile.specs.Compiled.{texts_of}
use Rattle.sm_compile.specs.Kinds.{has_values, is_text_kind, table_kind, value_members}
use Rattle.sm_compile.specs.Laws.{IsSpelledGraph}
use Rattle.sm_compile.specs.Reached.{LeadsTo}
use Rattle.sm_compile.specs.Said.{constraints_said, default_said, format_seen, pattern_seen}
use Rattle.sm_compile.specs.Sound.{IsSoundMember, IsSoundShape}
use Rattle.sm_compile.specs.TraitIds.{json_name_id, pattern_id, required_id, sparse_id, unique_items_id}
use Rattle.sm_compile.specs.TraitNodes.{effective_traits, own_traits, text_of}
use Rattle.sm_compile.specs.steps.Making.{IsMadeBy}
use Rattle.sm_compile.specs.steps.Numbered.{AreMemberRows, AreRowShapes, IsMemberRow, IsRowShape, IsShapeRow, count_of_shape}
use Rattle.sm_compile.specs.steps.Numbered.{first_of_shape, numbered_by, only_members, run}
use Rattle.sm_compile.proofs.MemberHomes.{name_spelled, name_utf8}
use Rattle.sm_compile.proofs.MemberNames.{json_names_there_differ, members_are, names_there_differ, row_shape, run_says, value_ids}
use Rattle.sm_compile.proofs.MemberNames.{value_names}
use Rattle.sm_compile.proofs.NamesBehind.{one_named}
use Rattle.sm_compile.proofs.NumbersOrdered.{some_order}
use Rattle.sm_compile.proofs.ReadyMarks.{target_values, value_some}
use Rattle.sm_compile.proofs.ReadyRows.{sound_among, value_among}
use Rattle.sm_compile.proofs.RowsThere.{IsInBlock, in_block, rows_there}
use Rattle.sm_compile.proofs.SomePatterns.{number_named}

-- a set to which all belongs that members and targets lead to from what is of it, and of which each shape with values is in order
abbrev pub IsClosedSet : GraphMaps → IdSet → Type 0
IsClosedSet g In = (from to : List ℕ) → In from → LeadsTo g from to → In to

abbrev pub IsSoundSet : GraphMaps → IdSet → Type 0
IsSoundSet g In =
    (id : List ℕ) (s : ShapeEntry) → In id → HasEntry g id (shape_entry s) → has_values s.kind ≡ true → IsSoundShape g id s

-- a text that may be there, or one of UTF-8 in its place
text_utf8 : (o : Option Node) (u : List ℕ) → ((n : Node) → o ≡ Some n → IsJson n) → IsUtf8 u → IsUtf8 (unwrap_or (text_of o) u)
text_utf8 None u h k = k
text_utf8 (Some (text t)) u h k = h (text t) refl
text_utf8 (Some null) u h k = k
text_utf8 (Some (bool b)) u h k = k
text_utf8 (Some (int z)) u h k = k
text_utf8 (Some (number t)) u h k = k
text_utf8 (Some (bytes t)) u h k = k
text_utf8 (Some (tag j n)) u h k = k
text_utf8 (Some (opaque b)) u h k = k
text_utf8 (Some (list ns)) u h k = k
text_utf8 (Some (object ms)) u h k = k

module _ (g : GraphMaps) (In : IdSet) (ids : List (List ℕ)) (closed : IsClosedSet g In) (sound : IsSoundSet g In)
    (told : (id : List ℕ) → Contains ids id ↔ IsTabled g In id) (spelled : IsSpelledGraph g) where
  pub rows_ready : AreRowShapes g ids
  rows_ready id there =
      let v = (told id).0 there in record { s = v.1.0; there = v.1.1; sound = sound id v.1.0 v.0 v.1.1 v.1.2 }

  -- a member of a shape that has a row, with its target
  record IsMemberReady (home id : List ℕ) : Type 0 where
    pub shape : IsRowShape g home
    pub member : IsSoundMember g shape.s.kind id
    pub here : In id
    pub led_to : In member.m.target
    pub target : Contains ids member.m.target
    pub name : List ℕ
    pub named : id ≡ member_id home name

  member_ready : (home id : List ℕ) → Contains ids home → Contains (members_under g home) id → IsMemberReady home id
  member_ready home id there among =
      let row = rows_ready home there in
      let reached : In home = ((told home).0 there).0 in
      let values : Contains (value_members row.s) id = subst (λ ms. Contains ms id) (members_are g home row) among in
      let listed = value_among row.s.kind row.s.members id values in
      let member = sound_among g row.s.kind row.s.members id row.sound.each listed in
      let here : In id = closed home id reached
      (inl (shape_entry row.s, row.there, inl (refl, listed), (member_entry member.m, member.there))) in
      let led_to : In member.m.target = closed id member.m.target here
      (inr (member_entry member.m, member.there, (refl, refl), (shape_entry member.target, member.found))) in
      let name = one_named home (value_names g home row.s row.sound) (members_under g home) id
      (members_are g home row ∙ value_ids g home row.s row.sound) among in
      record {
        shape = row;
        member = member;
        here = here;
        led_to = led_to;
        target = (told member.m.target).1 (
          led_to,
          (
            member.target,
            member.found,
            target_values row.s.kind _ member.target.kind (value_some row.s.kind row.s.members id values) member.may_target,
          ),
        );
        name = name.0;
        named = name.1;
      }

  module _ (first : ℕ) (ps : PatternRows) (numbered : AreNumberedFrom first ps)
      (patterns : (u id : List ℕ) → IsCarrier g In u id → Contains (texts_of ps) u) where
    -- the pattern that counts at a member is its own or its target's
    member_pattern : (home id : List ℕ) (r : IsMemberReady home id) (u : List ℕ)
        → pattern_seen r.member.target.kind (effective_traits r.member.m.traits r.member.target.traits) ≡ Some u → Contains (texts_of ps) u
    member_pattern home id r u seen = by (fin.get r.member.m.traits pattern_id) refl
      where
        at : (o : Option Node) → fin.get r.member.m.traits pattern_id ≡ o
            → cond (is_text_kind r.member.target.kind) (text_of (option_or o (fin.get r.member.target.traits pattern_id))) None ≡ Some u
        at o h =
            ap (λ x. cond (is_text_kind r.member.target.kind) (text_of (option_or x (fin.get r.member.target.traits pattern_id))) None)
            (sym h)
            ∙ seen

        by : (o : Option Node) → fin.get r.member.m.traits pattern_id ≡ o → Contains (texts_of ps) u
        by (Some n) h =
            patterns u id (
              r.here,
              inr (
                r.member.m,
                r.member.target,
                r.member.there,
                r.member.found,
                ap (λ x. cond (is_text_kind r.member.target.kind) (text_of x) None) h ∙ at (Some n) h,
              ),
            )
        by None h = patterns u r.member.m.target (r.led_to, inl (r.member.target, r.member.found, at None h))

    shape_pattern : (id : List ℕ) (s : ShapeEntry) → In id → fin.get g.shapes id ≡ Some (shape_entry s) → (u : List ℕ)
        → pattern_seen s.kind (own_traits s.traits) ≡ Some u → Contains (texts_of ps) u
    shape_pattern id s reached there u seen = patterns u id (reached, inl (s, there, seen))

    -- the row of a member
    module _ (block : ℕ) (inside : block < length ids) (id : List ℕ) (r : IsMemberReady (get_or ids block []) id) (p : Option ℕ)
        (names : NamesText ps p (pattern_seen r.member.target.kind (effective_traits r.member.m.traits r.member.target.traits))) where
      abbrev member_of : MemberData
      member_of = record {
        shape = block;
        name = r.name;
        json_name = text_of (fin.get r.member.m.traits json_name_id);
        target = r.target.0;
        required = is_some (fin.get r.member.m.traits required_id);
        constraints = record {
          min = (constraints_said g r.member.target (effective_traits r.member.m.traits r.member.target.traits)).min;
          max = (constraints_said g r.member.target (effective_traits r.member.m.traits r.member.target.traits)).max;
          pattern = p;
          texts = (constraints_said g r.member.target (effective_traits r.member.m.traits r.member.target.traits)).texts;
          numbers = (constraints_said g r.member.target (effective_traits r.member.m.traits r.member.target.traits)).numbers;
        };
        format = format_seen (effective_traits r.member.m.traits r.member.target.traits);
        media_type = None;
        binding = None;
        default_node = default_said r.shape.s.kind r.member.m r.member.target.kind;
        default = None;
      }

      member_says : SaysMember g ps (numbered_by g ids) id member_of
      member_says = record {
        m = r.member.m;
        there = r.member.there;
        home = r.shape.s;
        home_there = r.shape.there;
        target = r.member.target;
        target_there = r.member.found;
        shape_number = inside;
        name = r.named;
        target_number = slice_get_read ids (length ids) r.target.0 r.member.m.target refl r.target.1 (sym r.target.2);
        json_name = refl;
        required = refl;
        constraints = record { min = refl; max = refl; pattern = names; texts = refl; numbers = refl };
        format = refl;
        default_node = refl;
        no_default = refl;
      }

      member_told : (k : ℕ) → get_or (numbered_by g ids).members k [] ≡ id → first_of_shape g ids block ≤ k
          → k < first_of_shape g ids block + count_of_shape g ids block → IsMemberRow g ps (numbered_by g ids) k member_of
      member_told k is behind before =
          let said = spelled id (member_entry r.member.m) r.member.there in
          let called = name_utf8 r.name (name_spelled id (get_or ids block []) r.name said.0 r.named) in
          record {
            behind = behind;
            before = before;
            says = subst (λ i. SaysMember g ps (numbered_by g ids) i member_of) (sym is) member_says;
            spelled = subst IsIdText (sym is) said.0;
            name = called;
            json_name = text_utf8 (fin.get r.member.m.traits json_name_id) r.name (λ n at. said.1 json_name_id n at) called;
            unbound = (refl, refl);
          }

    member_at : (k : ℕ) → IsInBlock (members_under g) [] ids k → (d : MemberData) × IsMemberRow g ps (numbered_by g ids) k d
    member_at k b =
        let home = get_or ids b.block [] in
        let id = get_or (members_under g home) b.at [] in
        let r = member_ready home id (Contains-get_or ids b.block [] b.inside) (Contains-get_or (members_under g home) b.at [] b.within) in
        let p = number_named first ps numbered (pattern_seen r.member.target.kind
        (effective_traits r.member.m.traits r.member.target.traits))
        (member_pattern home id r) in
        let is : get_or (numbered_by g ids).members k [] ≡ id =
        ap (λ i. get_or (numbered_by g ids).members i []) b.is ∙ get_or-flat_map (members_under g) ids b.block b.at [] [] b.inside
        b.within in
        let at_is = b.is in
        let within : b.at < count_of_shape g ids b.block = b.within in
        let behind : first_of_shape g ids b.block ≤ k = omega (arith, at_is) in
        let before : k < first_of_shape g ids b.block + count_of_shape g ids b.block = omega (arith, at_is, within) in
        (member_of b.block b.inside id r p.0 p.1, member_told b.block b.inside id r p.0 p.1 k is behind before)

    -- the row of a shape
    module _ (rows : List MemberData) (are : AreMemberRows g ps (numbered_by g ids) (length ids) rows) where
      shape_at : (s : ℕ) → s < length ids → (d : ShapeData) × IsShapeRow g ps (numbered_by g ids) rows s d
      shape_at s lt =
          let ready = rows_ready in
          let id = get_or ids s [] in
          let home = row_shape g ids ready s lt in
          let members = run (first_of_shape g ids s) (count_of_shape g ids s) in
          let reached = ((told id).0 (Contains-get_or ids s [] lt)).0 in
          let said = constraints_said g home.s (own_traits home.s.traits) in
          let p = number_named first ps numbered (pattern_seen home.s.kind (own_traits home.s.traits))
          (shape_pattern id home.s reached home.there) in
          let named = some_order (name_at (only_members rows)) members (names_there_differ g ids ready ps rows are s lt) in
          let json_named = some_order (json_name_at (only_members rows)) members (json_names_there_differ g ids ready ps rows are s lt) in (
            record {
              kind = table_kind home.s.kind;
              members = members;
              by_name = named.0;
              by_json_name = json_named.0;
              needed = filter (is_needed (only_members rows)) members;
              constraints = record { min = said.min; max = said.max; pattern = p.0; texts = said.texts; numbers = said.numbers };
              unique = is_some (fin.get home.s.traits unique_items_id);
              sparse = is_some (fin.get home.s.traits sparse_id);
              unit = bytes_eq id unit_id;
              format = format_seen (own_traits home.s.traits);
              media_type = None;
            },
            record {
              says = record {
                s = home.s;
                there = home.there;
                kind = refl;
                members = run_says g ids ready ps rows are s lt ∙ members_are g id home;
                constraints = record { min = refl; max = refl; pattern = p.1; texts = refl; numbers = refl };
                unique = refl;
                sparse = refl;
                unit = refl;
                format = refl;
              };
              orders = record { all = refl; named = named.1; json_named = json_named.1; must = refl };
              media = refl;
            },
          )

    pub some_rows : (t : TableData) × IsMadeBy g ids t × (t.patterns ≡ ps)
    some_rows =
        let n = numbered_by g ids in
        let le : length ids ≤ length ids = omega arith in
        let ms = rows_there (IsMemberRow g ps n) (length n.members) (λ k lt. member_at k (in_block (members_under g) [] ids k lt)) in
        let are : AreMemberRows g ps n (length ids) ms.0 = record {
          long = ms.1 ∙ ap (λ xs. length (flat_map (members_under g) xs)) (sym (take_all (length ids) ids le));
          each = ms.2;
        } in
        let ss = rows_there (IsShapeRow g ps n ms.0) (length ids) (shape_at ms.0 are) in
        (record { shapes = ss.0; members = ms.0; patterns = ps }, record { long = ss.1; shapes = ss.2; members = are }, refl)
