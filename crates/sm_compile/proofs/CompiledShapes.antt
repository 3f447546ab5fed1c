-- The table of what one shape reaches is its table.
use Rattle.std.proofs.Common.{◌≡◌, ℕ, ◌+◌, ◌<◌, ◌≤◌, Bool, List, [], ◌∷◌, ◌++◌, map, length, get_or, Some, refl, sym, ap, ◌∙◌, subst, arith}
use Rattle.std.proofs.Common.{append_assoc}
use Rattle.std.specs.Prelude.{◌↔◌, slice_get}
use Rattle.std.specs.List.{Contains}
use Rattle.std.specs.List.Sorted.{IsStrictlySortedBy}
use Rattle.std.specs.Option.{option_map}
use Rattle.std.proofs.Math.Seq.{get_or-append_seam}
use Rattle.std.proofs.lemmas.List.{get_or_default, length-append, length-map}
use Rattle.std.proofs.lemmas.Option.{none-some, slice_get-map}
use Rattle.sm_ids.specs.IdText.{IsIdText}
use Rattle.sm_model.specs.Graphs.{GraphMaps, member_id, text_cmp}
use Rattle.sm_model.specs.GraphView.{entries_of, maps_of}
use Rattle.sm_model.specs.Reaching.{AreMarks, id_of_number}
use Rattle.sm_model.specs.declared.graph.Graph.{Graph}
use Rattle.sm_shapes.specs.Fitting.{Test}
use Rattle.sm_shapes.specs.InOrder.{AreStored}
use Rattle.sm_shapes.specs.Names.{AllDiffer}
use Rattle.sm_shapes.specs.TableData.{TableData}
use Rattle.sm_shapes.specs.TableView.{table_data}
use Rattle.sm_compile.specs.Answers.{IsShapeCompiled, IsTableSeen, StoreSeen, TableSeen, TellsServed}
use Rattle.sm_compile.specs.Compiled.{AreNumberedFrom, ArePatternsOf, CarriesPattern, IsCompiled, IsTabled, PatternRows, members_under}
use Rattle.sm_compile.specs.Compiled.{texts_of}
use Rattle.sm_compile.specs.Reached.{IsReached}
use Rattle.sm_compile.specs.Tabling.{tabled_below}
use Rattle.sm_compile.specs.declared.compiled.Served.{Served}
use Rattle.sm_compile.specs.declared.patterns.CarriedTexts.{CarriedTexts}
use Rattle.sm_compile.specs.declared.tabled.Tabled.{Tabled}
use Rattle.sm_compile.specs.steps.Carrying.{AreCarried, IsMarkedId, texts_in}
use Rattle.sm_compile.specs.steps.Making.{IsMade, IsMadeBy, IsMarkedTable}
use Rattle.sm_compile.specs.steps.Numbered.{AreMemberRows, AreRowShapes, numbered_by, numbering}
use Rattle.sm_compile.proofs.CarriedPatterns.{carries_told}
use Rattle.sm_compile.proofs.MadeTables.{media_told, members_told, none_there, shaped_told, shapes_told, unbound_told}
use Rattle.sm_compile.proofs.MemberHomes.{flat_differ, same_home}
use Rattle.sm_compile.proofs.MemberNames.{all_long, ids_differ, members_are, there_at, value_ids, value_names, value_names_differ}
use Rattle.sm_compile.proofs.NamesBehind.{one_named}
use Rattle.sm_compile.proofs.ReadyRows.{row_shapes}
use Rattle.sm_compile.proofs.TabledMembers.{joined_to, rising_differ, tabled_members_told}
use Rattle.sm_compile.proofs.TabledShapes.{tabled_rise, tabled_told}

-- no member stands twice
module _ (g : GraphMaps) (ids : List (List ℕ)) (ready : AreRowShapes g ids) (t : TableData) (made : IsMadeBy g ids t) where
  spelled_there : (k : List ℕ) → Contains (numbered_by g ids).members k → IsIdText k
  spelled_there k there =
      let long = all_long g ids ready t.patterns t.members made.members in
      let inside : there.0 < length t.members = omega (arith, there.1, long) in
      let x = there_at t.members there.0 inside in
      subst IsIdText (here k there) (made.members.each there.0 x.0 x.1).spelled
    where
      here : (k : List ℕ) (there : Contains (numbered_by g ids).members k) → get_or (numbered_by g ids).members there.0 [] ≡ k
      here k there = get_or_default (numbered_by g ids).members there.0 [] k there.1 ∙ there.2

  pub members_differ : AllDiffer ids → AllDiffer (numbered_by g ids).members
  members_differ differ = flat_differ (members_under g) ids differ each apart
    where
      each : (x : List ℕ) → Contains ids x → AllDiffer (members_under g x)
      each x there =
          let home = ready x there in
          subst AllDiffer (sym (members_are g x home ∙ value_ids g x home.s home.sound))
          (ids_differ x (value_names g x home.s home.sound) (value_names_differ g x home.s home.sound))

      named : (x k : List ℕ) → Contains ids x → Contains (members_under g x) k → (n : List ℕ) × (k ≡ member_id x n)
      named x k there among =
          let home = ready x there in
          one_named x (value_names g x home.s home.sound) (members_under g x) k (members_are g x home ∙ value_ids g x home.s home.sound)
          among

      apart : (x y k : List ℕ) → Contains ids x → Contains ids y → Contains (members_under g x) k → Contains (members_under g y) k → x ≡ y
      apart x y k p q a b =
          let n = named x k p a in
          let m = named y k q b in
          same_home k x y n.0 m.0 (spelled_there k (joined_to (members_under g) ids x k p a)) n.1 m.1

-- a table that is made of the shapes of a set is that of the set
pub made_compiled : (g : GraphMaps) (In : List ℕ → Type 0) (ids : List (List ℕ)) → AreRowShapes g ids → (t : TableData) → IsMadeBy g ids t
    → ((id : List ℕ) → Contains ids id ↔ IsTabled g In id) → IsStrictlySortedBy text_cmp ids → ArePatternsOf g In (texts_of t.patterns)
    → IsCompiled g In t (numbered_by g ids)
made_compiled g In ids ready t made shapes rise patterns =
    let once = rising_differ ids rise in
    record {
      shapes = shapes;
      members = tabled_members_told g In ids shapes;
      shapes_rise = rise;
      members_follow = refl;
      shapes_once = once;
      members_once = members_differ g ids ready t made once;
      says_shapes = shapes_told g ids ready t made;
      says_members = members_told g ids ready t made;
      patterns = patterns;
    }

-- what is made of numbers is made of their ids
pub made_by : (g : Graph) (shapes : List ℕ) (t : TableData) → IsMade g shapes t.patterns t → IsMadeBy (maps_of g)
    (map (id_of_number g) shapes) t
made_by g shapes t made = record {
  long = made.long ∙ sym (length-map shapes (id_of_number g));
  shapes = made.shapes;
  members = subst (λ n. AreMemberRows (maps_of g) t.patterns (numbering g shapes) n t.members) (sym (length-map shapes (id_of_number g)))
      made.members;
}

-- the table of marked shapes is that of the set that is marked
pub table_compiled : (g : Graph) (marks : List Bool) (In : List ℕ → Type 0) (before now : StoreSeen) (made : Tabled)
    → AreMarks (length (entries_of g)) (λ k. In (id_of_number g k)) marks → ArePatternsOf (maps_of g) In
    (texts_of (table_data made.table).patterns)
    → IsMarkedTable g marks before now made
    → IsCompiled (maps_of g) In (table_data made.table) (numbering g made.shapes.items)
table_compiled g marks In before now made are patterns is =
    let t = table_data made.table in
    let rows : made.shapes.items ≡ tabled_below g marks (length (entries_of g)) = is.shapes ∙ ap (tabled_below g marks) are.whole in
    let le : length (entries_of g) ≤ length (entries_of g) = omega arith in
    made_compiled (maps_of g) In (map (id_of_number g) made.shapes.items) (row_shapes g made.shapes.items (texts_in is.c) is.ready) t
    (made_by g made.shapes.items t is.table)
    (subst (λ ks. (id : List ℕ) → Contains (map (id_of_number g) ks) id ↔ IsTabled (maps_of g) In id) (sym rows)
    (tabled_told g marks In are))
    (subst (λ ks. IsStrictlySortedBy text_cmp (map (id_of_number g) ks)) (sym rows) (tabled_rise g marks (length (entries_of g)) le))
    patterns

-- patterns that are numbered from the store's end on are the store's, once they are added
pub stored_there : (before added : List (List ℕ)) (rows : PatternRows) → AreNumberedFrom (length before) rows → added ≡ before ++ texts_of rows
    → AreStored rows added
stored_there before added [] numbered is = tt
stored_there before added (r ∷ rows) numbered is =
    let long : length added ≡ length before + length (r.1 ∷ texts_of rows) = ap length is ∙ length-append before (r.1 ∷ texts_of rows) in
    let one : length (before ++ r.1 ∷ []) ≡ length before + 1 = length-append before (r.1 ∷ []) in (
      omega (arith, long, numbered.0),
      ap (λ k. get_or added k []) numbered.0 ∙ ap (λ ts. get_or ts (length before) []) is ∙ get_or-append_seam before r.1 (texts_of rows)
          [],
      stored_there (before ++ r.1 ∷ []) added rows (subst (λ n. AreNumberedFrom n rows) (sym one) numbered.1)
          (is ∙ sym (append_assoc before (r.1 ∷ []) (texts_of rows))),
    )

-- all that is carried is among the patterns
pub carried_among : (g : Graph) (marks : List Bool) (c : CarriedTexts) → AreCarried g marks c → (u id : List ℕ) → IsMarkedId g marks id
    → CarriesPattern (maps_of g) id u → Contains (texts_in c) u
carried_among g marks c are u id x h =
    are.rows.all x.0 u x.1
    (x.2, (carries_told (maps_of g) (id_of_number g x.0) u).1 (subst (λ i. CarriesPattern (maps_of g) i u) (sym x.3) h))

-- a table with its patterns in the store, its shape's number, and whether that is served
pub seen_compiled : (g : GraphMaps) (root : List ℕ) (test : Test) (before now : StoreSeen) (ids : List (List ℕ)) → AreRowShapes g ids
    → (one : TableSeen) → IsMadeBy g ids one.table → IsCompiled g (IsReached g root) one.table (numbered_by g ids)
    → slice_get ids one.shape ≡ Some root → TellsServed g root one.served → AreNumberedFrom (length before.added) one.table.patterns
    → now.added ≡ before.added ++ texts_of one.table.patterns → now.refused ≡ before.refused → now.refusals ≡ before.refusals
    → IsTableSeen g root test before now one
seen_compiled g root test before now ids ready one made compiled at tells numbered added refused refusals =
    let none = none_there g ids ready one.table made in
    record {
      numbering = numbered_by g ids;
      compiled = compiled;
      shape = at;
      numbered = numbered;
      unbound = unbound_told g ids ready one.table made;
      no_media = media_told g ids ready one.table made;
      shaped = shaped_told g ids ready one.table made;
      built = record {
        stored = stored_there before.added now.added one.table.patterns numbered added;
        defaults = λ k v h. absurd (none-some v (sym (none k) ∙ h));
      };
      no_default = none;
      served = tells;
      added = added;
      refused = refused;
      refusals = refusals;
    }

pub shape_compiled : (g : Graph) (marks : List Bool) (root row : ℕ) (test : Test) (before now : StoreSeen) (made : Tabled) (served : Served)
    → AreMarks (length (entries_of g)) (λ k. IsReached (maps_of g) (id_of_number g root) (id_of_number g k)) marks
    → ArePatternsOf (maps_of g) (IsReached (maps_of g) (id_of_number g root)) (texts_of (table_data made.table).patterns)
    → IsMarkedTable g marks before now made → TellsServed (maps_of g) (id_of_number g root) served
    → slice_get made.shapes.items row ≡ Some root
    → IsShapeCompiled (maps_of g) (id_of_number g root) test before now (record { table = made.table; shape = row; served = served })
shape_compiled g marks root row test before now made served are patterns is tells at =
    let t = table_data made.table in
    let ks = made.shapes.items in
    seen_compiled (maps_of g) (id_of_number g root) test before now (map (id_of_number g) ks) (row_shapes g ks (texts_in is.c) is.ready)
    (record { table = t; shape = row; served = served }) (made_by g ks t is.table)
    (table_compiled g marks (IsReached (maps_of g) (id_of_number g root)) before now made are patterns is)
    (slice_get-map (id_of_number g) ks row ∙ ap (option_map (id_of_number g)) at) tells is.stored.numbered
    (is.stored.added ∙ ap (λ ts. before.added ++ ts) (sym is.stored.are)) is.stored.refused is.stored.refusals
