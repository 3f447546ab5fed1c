-- The row of a shape, put together from what its parts tell.
use Rattle.std.proofs.Common.{◌≡◌, inl, ℕ, ◌+◌, ◌<◌, ◌≤◌, List, [], map, length, get_or, Option, Some, None, sym, ap, ◌∙◌, subst}
use Rattle.std.specs.List.{Contains}
use Rattle.std.proofs.lemmas.Option.{same_Some}
use Rattle.sm_model.specs.GraphView.{maps_of}
use Rattle.sm_model.specs.Reaching.{id_of_number}
use Rattle.sm_model.specs.declared.graph.Graph.{Graph}
use Rattle.sm_model.specs.declared.kind.Kind.{Kind}
use Rattle.sm_shapes.specs.Names.{AllDiffer}
use Rattle.sm_shapes.specs.TableData.{MemberData, json_name_at, name_at}
use Rattle.sm_shapes.specs.TableView.{shape_data}
use Rattle.sm_shapes.specs.declared.tables.TableShape.{TableShape}
use Rattle.sm_compile.specs.Compiled.{NamesText, PatternRows, SaysShape, members_under}
use Rattle.sm_compile.specs.Kinds.{value_members}
use Rattle.sm_compile.specs.Said.{pattern_seen}
use Rattle.sm_compile.specs.Sound.{trait_in}
use Rattle.sm_compile.specs.TraitNodes.{own_traits}
use Rattle.sm_compile.specs.declared.rows.MemberOrders.{MemberOrders}
use Rattle.sm_compile.specs.steps.Looked.{kind_in, kind_under}
use Rattle.sm_compile.specs.steps.Numbered.{AreMemberRows, AreOrders, AreReady, IsShapeRow, count_of_shape, first_of_shape, numbering}
use Rattle.sm_compile.specs.steps.Numbered.{only_members, run}
use Rattle.sm_compile.specs.steps.Rows.{AreNumbers, TellsShape}
use Rattle.sm_compile.specs.steps.Seeing.{traits_seen}
use Rattle.sm_compile.proofs.MemberNames.{json_names_there_differ, names_there_differ, run_says, within_rows}
use Rattle.sm_compile.proofs.ReadyRows.{members_at, ready_shape, row_id, row_shapes, row_within, rows_by}
use Rattle.sm_compile.proofs.RowsSay.{pattern_along, says_shape}

orders_along : (rows : List MemberData) (first count : ℕ) (a b c d e f h i : List ℕ) → e ≡ a → f ≡ b → h ≡ c → i ≡ d
    → AreOrders rows first count a b c d → AreOrders rows first count e f h i
orders_along rows first count a b c d e f h i p q r s are =
    subst (λ x. AreOrders rows first count x f h i) (sym p)
    (subst (λ x. AreOrders rows first count a x h i) (sym q)
    (subst (λ x. AreOrders rows first count a b x i) (sym r) (subst (λ x. AreOrders rows first count a b c x) (sym s) are)))

module _ (g : Graph) (shapes : List ℕ) (texts : List (List ℕ)) (ready : AreReady g shapes texts) (ps : PatternRows) (rows : List MemberData)
    (are : AreMemberRows (maps_of g) ps (numbering g shapes) (length shapes) rows) (s : ℕ) (lt : s < length shapes) where
  -- what is told by ids
  abbrev ids : List (List ℕ)
  ids = map (id_of_number g) shapes

  here : s < length (map (id_of_number g) shapes)
  here = row_within g shapes texts s lt

  by_ids : AreMemberRows (maps_of g) ps (numbering g shapes) (length (map (id_of_number g) shapes)) rows
  by_ids = rows_by g shapes texts ps rows are

  pub rows_within : first_of_shape (maps_of g) (numbering g shapes).shapes s + count_of_shape (maps_of g) (numbering g shapes).shapes s
      ≤ length rows
  rows_within = within_rows (maps_of g) ids (row_shapes g shapes texts ready) ps rows by_ids s here

  pub row_names_differ : AllDiffer (map (name_at (only_members rows))
      (run (first_of_shape (maps_of g) (numbering g shapes).shapes s) (count_of_shape (maps_of g) (numbering g shapes).shapes s)))
  row_names_differ = names_there_differ (maps_of g) ids (row_shapes g shapes texts ready) ps rows by_ids s here

  pub row_json_names_differ : AllDiffer (map (json_name_at (only_members rows))
      (run (first_of_shape (maps_of g) (numbering g shapes).shapes s) (count_of_shape (maps_of g) (numbering g shapes).shapes s)))
  row_json_names_differ = json_names_there_differ (maps_of g) ids (row_shapes g shapes texts ready) ps rows by_ids s here

  -- a pattern that a shape carries is among those that are known
  pub own_among : (kind : Kind) (u : List ℕ) → kind_under (maps_of g) (id_of_number g (get_or shapes s 0)) ≡ Some kind
      → pattern_seen kind (traits_seen g (get_or shapes s 0) None) ≡ Some u → Contains texts u
  own_among kind u is seen =
      let home = ready_shape g shapes texts ready s lt in
      let k = get_or shapes s 0 in
      let same : kind ≡ home.s.kind = same_Some kind home.s.kind (sym is ∙ ap kind_in home.there) in
      home.carried u (inl (
        home.s,
        home.there,
        sym (pattern_along (traits_seen g k None) (own_traits home.s.traits) (λ name. ap (trait_in name) home.there) home.s.kind)
            ∙ ap (λ x. pattern_seen x (traits_seen g k None)) (sym same) ∙ seen,
      ))

  numbers_say : map (λ j. get_or (numbering g shapes).members j [])
      (run (first_of_shape (maps_of g) (numbering g shapes).shapes s) (count_of_shape (maps_of g) (numbering g shapes).shapes s))
      ≡ value_members (ready_shape g shapes texts ready s lt).s
  numbers_say =
      let home = ready_shape g shapes texts ready s lt in
      run_says (maps_of g) ids (row_shapes g shapes texts ready) ps rows by_ids s here
      ∙ ap (members_under (maps_of g)) (row_id g shapes texts s lt) ∙ members_at g shapes texts (get_or shapes s 0) home

  pub shape_row_told : (kind : Kind) (row : TableShape) (orders : MemberOrders) (p : Option ℕ)
      → kind_under (maps_of g) (id_of_number g (get_or shapes s 0)) ≡ Some kind → TellsShape g (get_or shapes s 0) kind row
      → AreNumbers orders row → row.constraints.pattern ≡ p
      → NamesText ps p (pattern_seen kind (traits_seen g (get_or shapes s 0) None))
      → AreOrders rows (first_of_shape (maps_of g) (numbering g shapes).shapes s) (count_of_shape (maps_of g) (numbering g shapes).shapes s)
      orders.members.items orders.by_name.items orders.by_json_name.items orders.needed.items
      → IsShapeRow (maps_of g) ps (numbering g shapes) rows s (shape_data row)
  shape_row_told kind row orders p is told numbers pattern names ordered =
      let home = ready_shape g shapes texts ready s lt in
      let k = get_or shapes s 0 in
      let same : kind ≡ home.s.kind = same_Some kind home.s.kind (sym is ∙ ap kind_in home.there) in
      let said : pattern_seen kind (traits_seen g k None) ≡ pattern_seen home.s.kind (own_traits home.s.traits) =
      ap (λ x. pattern_seen x (traits_seen g k None)) same
      ∙ pattern_along (traits_seen g k None) (own_traits home.s.traits) (λ name. ap (trait_in name) home.there) home.s.kind in
      record {
        says = subst (λ i. SaysShape (maps_of g) ps (numbering g shapes) i (shape_data row)) (sym (row_id g shapes texts s lt))
            (says_shape g k kind row ps (numbering g shapes) home.s home.there is told
            (ap (map (λ j. get_or (numbering g shapes).members j [])) (numbers.members ∙ ordered.all) ∙ numbers_say)
            (subst (λ o. NamesText ps o (pattern_seen home.s.kind (own_traits home.s.traits))) (sym pattern)
            (subst (NamesText ps p) said names)));
        orders = orders_along rows _ _ orders.members.items orders.by_name.items orders.by_json_name.items orders.needed.items
            row.members row.by_name
            row.by_json_name row.needed numbers.members numbers.by_name numbers.by_json_name numbers.needed ordered;
        media = told.media;
      }
