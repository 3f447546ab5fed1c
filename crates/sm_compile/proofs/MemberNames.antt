-- The names of a shape's members, in the graph and in the rows of a table.
use Rattle.std.proofs.Common.{◌≡◌, ℕ, zero, suc, ◌+◌, ◌<◌, ◌≤◌, Bool, true, false, cond, List, [], ◌∷◌, map, length, get_or, Some, refl}
use Rattle.std.proofs.Common.{sym, ap, ◌∙◌, subst, arith}
use Rattle.std.specs.Prelude.{slice_get, codes, unwrap_or}
use Rattle.std.specs.FinMap as fin
use Rattle.std.specs.List.{flat_map}
use Rattle.std.proofs.lemmas.List.{get_or-map, length-map, take_all}
use Rattle.std.proofs.lemmas.List.Concat.{get_or-flat_map}
use Rattle.std.proofs.lemmas.List.Elements.{Contains-get_or}
use Rattle.sm_model.specs.Formed.{HaveForm}
use Rattle.sm_model.specs.Graphs.{GraphMaps, ShapeEntry, member_id}
use Rattle.sm_model.specs.Kinds.{member_form}
use Rattle.sm_model.specs.declared.kind.Kind.{Kind}
use Rattle.sm_model.specs.declared.kind.Kind.TheVariants.{Blob, Boolean, Text, Enum, Byte, Short, Integer, IntEnum, Long, Float, Double}
use Rattle.sm_model.specs.declared.kind.Kind.TheVariants.{BigInteger, BigDecimal, Timestamp, Document, List as list_kind, Map, Structure}
use Rattle.sm_model.specs.declared.kind.Kind.TheVariants.{Union, Service, Operation, Resource}
use Rattle.sm_shapes.specs.Names.{AllDiffer, NoneIs}
use Rattle.sm_shapes.specs.TableData.{MemberData, json_name_at, json_name_in, name_at, name_in}
use Rattle.sm_compile.specs.Compiled.{PatternRows, members_in, members_under}
use Rattle.sm_compile.specs.Kinds.{has_value_members, value_members}
use Rattle.sm_compile.specs.Sound.{IsSoundShape, json_name_of, trait_in}
use Rattle.sm_compile.specs.TraitIds.{json_name_id}
use Rattle.sm_compile.specs.TraitNodes.{text_of}
use Rattle.sm_compile.specs.steps.Numbered.{AreMemberRows, AreRowShapes, IsMemberRow, IsRowShape, count_of_shape, first_of_shape}
use Rattle.sm_compile.specs.steps.Numbered.{numbered_by, only_members, run}
use Rattle.sm_compile.proofs.Blocks.{first_next, first_rises, mapped_run, one_block}
use Rattle.sm_compile.proofs.Differing.{differ_in_names}
use Rattle.sm_ids.proofs.MadeIds.{one_name}

-- names that differ give ids that differ
none_named : (s n : List ℕ) (ns : List (List ℕ)) → NoneIs n ns → NoneIs (member_id s n) (map (member_id s) ns)
none_named s n [] h = tt
none_named s n (m ∷ ns) h = ((λ e. h.0 (one_name s m n e)), none_named s n ns h.1)

pub ids_differ : (s : List ℕ) (ns : List (List ℕ)) → AllDiffer ns → AllDiffer (map (member_id s) ns)
ids_differ s [] d = tt
ids_differ s (n ∷ ns) d = (none_named s n ns d.0, ids_differ s ns d.1)

-- the names of a shape of a type differ
two_differ : codes "value" ≡ codes "key" → ⊥
two_differ e = omega (arith, ap length e)

listed : (names : List (List ℕ)) → names ≡ codes "member" ∷ [] → AllDiffer names
listed names h = subst AllDiffer (sym h) (tt, tt)

mapped : (names : List (List ℕ)) → names ≡ codes "key" ∷ codes "value" ∷ [] → AllDiffer names
mapped names h = subst AllDiffer (sym h) ((two_differ, tt), (tt, tt))

empty : (names : List (List ℕ)) → names ≡ [] → AllDiffer names
empty names h = subst AllDiffer (sym h) tt

pub names_differ : (kind : Kind) (names : List (List ℕ)) → HaveForm (member_form kind) names → AllDiffer names
names_differ list_kind names h = listed names h
names_differ Map names h = mapped names h
names_differ Structure names h = (differ_in_names names).1 h
names_differ Union names h = (differ_in_names names).1 h
names_differ Enum names h = (differ_in_names names).1 h
names_differ IntEnum names h = (differ_in_names names).1 h
names_differ Blob names h = empty names h
names_differ Boolean names h = empty names h
names_differ Text names h = empty names h
names_differ Byte names h = empty names h
names_differ Short names h = empty names h
names_differ Integer names h = empty names h
names_differ Long names h = empty names h
names_differ Float names h = empty names h
names_differ Double names h = empty names h
names_differ BigInteger names h = empty names h
names_differ BigDecimal names h = empty names h
names_differ Timestamp names h = empty names h
names_differ Document names h = empty names h
names_differ Service names h = empty names h
names_differ Operation names h = empty names h
names_differ Resource names h = empty names h

-- the names of the members at which values stand
module _ (g : GraphMaps) (id : List ℕ) (s : ShapeEntry) (sound : IsSoundShape g id s) where
  abbrev pub value_names : List (List ℕ)
  value_names = cond (has_value_members s.kind) sound.names []

  pub value_ids : value_members s ≡ map (member_id id) value_names
  value_ids = by (has_value_members s.kind)
    where
      by : (b : Bool) → cond b s.members [] ≡ map (member_id id) (cond b sound.names [])
      by true = sound.members
      by false = refl

  pub value_names_differ : AllDiffer value_names
  value_names_differ = by (has_value_members s.kind)
    where
      by : (b : Bool) → AllDiffer (cond b sound.names [])
      by true = names_differ s.kind sound.names sound.form
      by false = tt

  pub value_json_differ : AllDiffer (map (json_name_of g id) value_names)
  value_json_differ = by (has_value_members s.kind)
    where
      by : (b : Bool) → AllDiffer (map (json_name_of g id) (cond b sound.names []))
      by true = sound.json_names
      by false = tt

-- what stands at a place of a list
pub there_at : {D : Type 0} (ds : List D) (k : ℕ) → k < length ds → (d : D) × (slice_get ds k ≡ Some d)
there_at [] k lt = absurd (omega (arith, lt))
there_at (d ∷ ds) zero lt = (d, refl)
there_at (d ∷ ds) (suc k) lt = there_at ds k (omega (arith, lt))

-- the shape of a row, and the members at which its values stand
pub row_shape : (g : GraphMaps) (ids : List (List ℕ)) → AreRowShapes g ids → (s : ℕ) → s < length ids → IsRowShape g (get_or ids s [])
row_shape g ids ready s lt = ready (get_or ids s []) (Contains-get_or ids s [] lt)

pub members_are : (g : GraphMaps) (id : List ℕ) (h : IsRowShape g id) → members_under g id ≡ value_members h.s
members_are g id h = ap members_in h.there

-- the rows of all members
module _ (g : GraphMaps) (ids : List (List ℕ)) (ready : AreRowShapes g ids) (ps : PatternRows) (rows : List MemberData)
    (are : AreMemberRows g ps (numbered_by g ids) (length ids) rows) where
  pub all_long : length rows ≡ length (numbered_by g ids).members
  all_long = let le : length ids ≤ length ids = omega arith in
      are.long ∙ ap (λ xs. length (flat_map (members_under g) xs)) (take_all (length ids) ids le)

  module _ (s : ℕ) (lt : s < length ids) where
    pub row_members : members_under g (get_or ids s [])
        ≡ map (member_id (get_or ids s [])) (value_names g (get_or ids s []) (row_shape g ids ready s lt).s
        (row_shape g ids ready s lt).sound)
    row_members =
        let home = row_shape g ids ready s lt in
        members_are g (get_or ids s []) home ∙ value_ids g (get_or ids s []) home.s home.sound

    pub within_rows : first_of_shape g ids s + count_of_shape g ids s ≤ length rows
    within_rows =
        let le : s + 1 ≤ length ids = omega (arith, lt) in
        let whole : length ids ≤ length ids = omega arith in
        let next = first_next (members_under g) [] ids s lt in
        let rise = first_rises (members_under g) [] ids (s + 1) (length ids) le whole in
        omega (arith, next, rise, are.long)

    -- a row of the shape
    pub row_here : (j : ℕ) → j < count_of_shape g ids s → (d : MemberData) × (slice_get rows (first_of_shape g ids s + j) ≡ Some d)
        × IsMemberRow g ps (numbered_by g ids) (first_of_shape g ids s + j) d × (d.shape ≡ s)
    row_here j less =
        let first = first_of_shape g ids s in
        let within = within_rows in
        let inside : first + j < length rows = omega (arith, within, less) in
        let x = there_at rows (first + j) inside in
        let r = are.each (first + j) x.0 x.1 in
        let home : x.0.shape < length ids = r.says.shape_number in
        let behind : first ≤ first + j = omega arith in
        let before : first + j < first + count_of_shape g ids s = omega (arith, less) in
        (x.0, x.1, r, one_block (members_under g) [] ids x.0.shape s (first + j) home lt r.behind r.before behind before)

    pub id_here : (j : ℕ) → j < count_of_shape g ids s
        → get_or (numbered_by g ids).members (first_of_shape g ids s + j) [] ≡ get_or (members_under g (get_or ids s [])) j []
    id_here j less = get_or-flat_map (members_under g) ids s j [] [] lt less

    -- what stands at the numbers of its members
    pub run_says : map (λ j. get_or (numbered_by g ids).members j []) (run (first_of_shape g ids s) (count_of_shape g ids s))
        ≡ members_under g (get_or ids s [])
    run_says =
        mapped_run (λ j. get_or (numbered_by g ids).members j []) (members_under g (get_or ids s [])) [] (first_of_shape g ids s)
        (count_of_shape g ids s) refl (λ j less. id_here j less)

    module _ (j : ℕ) (less : j < count_of_shape g ids s) where
      abbrev home_id : List ℕ
      home_id = get_or ids s []

      abbrev names_there : List (List ℕ)
      names_there = value_names g (get_or ids s []) (row_shape g ids ready s lt).s (row_shape g ids ready s lt).sound

      name_count : j < length names_there
      name_count =
          let long = ap length row_members in
          let same = length-map names_there (member_id home_id) in omega (arith, long, same, less)

      member_is : get_or (numbered_by g ids).members (first_of_shape g ids s + j) [] ≡ member_id home_id (get_or names_there j [])
      member_is = id_here j less ∙ ap (λ xs. get_or xs j []) row_members ∙ get_or-map (member_id home_id) names_there j [] [] name_count

      -- its name, and the one that it has where JSON names are looked at
      pub name_here : (row_here j less).0.name ≡ get_or names_there j []
      name_here =
          let x = row_here j less in
          one_name home_id x.0.name (get_or names_there j [])
          (ap (λ i. member_id i x.0.name) (sym (ap (λ k. get_or ids k []) x.3)) ∙ sym x.2.says.name ∙ member_is)

      pub json_name_here : unwrap_or (row_here j less).0.json_name (row_here j less).0.name ≡ json_name_of g home_id
          (get_or names_there j [])
      json_name_here =
          let x = row_here j less in
          let says = x.2.says in
          let told : x.0.json_name ≡ text_of (trait_in json_name_id (fin.get g.shapes (member_id home_id (get_or names_there j [])))) =
          says.json_name ∙ sym (ap (λ o. text_of (trait_in json_name_id o)) says.there)
          ∙ ap (λ i. text_of (trait_in json_name_id (fin.get g.shapes i))) member_is in
          ap (λ o. unwrap_or o x.0.name) told
          ∙ ap (unwrap_or (text_of (trait_in json_name_id (fin.get g.shapes (member_id home_id (get_or names_there j [])))))) name_here

    -- the names in the rows are those of the shape
    pub names_are : map (name_at (only_members rows)) (run (first_of_shape g ids s) (count_of_shape g ids s))
        ≡ value_names g (get_or ids s []) (row_shape g ids ready s lt).s (row_shape g ids ready s lt).sound
    names_are =
        let ys = value_names g (get_or ids s []) (row_shape g ids ready s lt).s (row_shape g ids ready s lt).sound in
        mapped_run (name_at (only_members rows)) ys [] (first_of_shape g ids s) (count_of_shape g ids s)
        (sym (ap length row_members ∙ length-map ys (member_id (get_or ids s []))))
        (λ j less. ap name_in (row_here j less).1 ∙ name_here j less)

    pub names_there_differ : AllDiffer (map (name_at (only_members rows)) (run (first_of_shape g ids s) (count_of_shape g ids s)))
    names_there_differ =
        let home = row_shape g ids ready s lt in
        subst AllDiffer (sym names_are) (value_names_differ g (get_or ids s []) home.s home.sound)

    pub json_names_are : map (json_name_at (only_members rows)) (run (first_of_shape g ids s) (count_of_shape g ids s))
        ≡ map (json_name_of g (get_or ids s []))
        (value_names g (get_or ids s []) (row_shape g ids ready s lt).s (row_shape g ids ready s lt).sound)
    json_names_are =
        let id = get_or ids s [] in
        let ys = value_names g (get_or ids s []) (row_shape g ids ready s lt).s (row_shape g ids ready s lt).sound in
        let count = count_of_shape g ids s in
        let long : length ys ≡ count = sym (ap length row_members ∙ length-map ys (member_id id)) in
        mapped_run (json_name_at (only_members rows)) (map (json_name_of g id) ys) [] (first_of_shape g ids s) count
        (length-map ys (json_name_of g id) ∙ long)
        (λ j less.
        ap json_name_in (row_here j less).1 ∙ json_name_here j less
        ∙ sym (get_or-map (json_name_of g id) ys j [] [] (omega (arith, long, less))))

    pub json_names_there_differ : AllDiffer (map (json_name_at (only_members rows)) (run (first_of_shape g ids s) (count_of_shape g ids s)))
    json_names_there_differ =
        let home = row_shape g ids ready s lt in
        subst AllDiffer (sym json_names_are) (value_json_differ g (get_or ids s []) home.s home.sound)
