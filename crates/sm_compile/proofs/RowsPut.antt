-- A row more behind the rows of a table.
use Rattle.std.proofs.Common.{◌≡◌, ℕ, ◌+◌, ◌<◌, ◌≤◌, List, [], ◌∷◌, ◌++◌, map, length, get_or, sym, ap, ◌∙◌, subst, arith}
use Rattle.std.specs.Prelude.{IsUtf8, unwrap_or}
use Rattle.std.proofs.lemmas.List.{get_or-map, length-append, length-map, map-append}
use Rattle.std.proofs.lemmas.List.Concat.{get_or-flat_map}
use Rattle.sm_ids.specs.IdText.{IsIdText}
use Rattle.sm_model.specs.GraphView.{maps_of}
use Rattle.sm_model.specs.Reaching.{id_of_number}
use Rattle.sm_model.specs.declared.graph.Graph.{Graph}
use Rattle.sm_shapes.specs.TableView.{member_data}
use Rattle.sm_shapes.specs.declared.tables.TableMember.{TableMember}
use Rattle.sm_compile.specs.Compiled.{IsUnboundMember, PatternRows, SaysMember, members_under}
use Rattle.sm_compile.specs.steps.Numbered.{EachAt, IsMemberRow, count_of_shape, first_of_shape, numbering}
use Rattle.sm_compile.proofs.Blocks.{each_more, first_next}

pub each_put : {A D : Type 0} (f : A → D) (Says : ℕ → D → Type 0) (old new : List A) (a : A) → new ≡ old ++ a ∷ [] → EachAt Says (map f old)
    → Says (length (map f old)) (f a) → EachAt Says (map f new)
each_put f Says old new a is each here =
    subst (EachAt Says) (sym (ap (map f) is ∙ map-append f old (a ∷ []))) (each_more Says (map f old) (f a) each here)

pub one_longer : {A : Type 0} (old new : List A) (a : A) → new ≡ old ++ a ∷ [] → length new ≡ length old + 1
one_longer old new a is = ap length is ∙ length-append old (a ∷ [])

module _ (g : Graph) (shapes : List ℕ) (ps : PatternRows) (home : ℕ) (lt : home < length shapes) where
  abbrev ids : List (List ℕ)
  ids = map (id_of_number g) shapes

  here : get_or (map (id_of_number g) shapes) home [] ≡ id_of_number g (get_or shapes home 0)
  here = get_or-map (id_of_number g) shapes home 0 [] lt

  inside : home < length (map (id_of_number g) shapes)
  inside = let long = length-map shapes (id_of_number g) in omega (arith, long, lt)

  -- how many members the shape has
  pub count_is : (ms : List ℕ) → map (id_of_number g) ms ≡ members_under (maps_of g) (id_of_number g (get_or shapes home 0))
      → length ms ≡ count_of_shape (maps_of g) (numbering g shapes).shapes home
  count_is ms is =
      sym (length-map ms (id_of_number g)) ∙ ap length is ∙ ap (λ i. length (members_under (maps_of g) i)) (sym here)

  pub next_first : (ms : List ℕ) → map (id_of_number g) ms ≡ members_under (maps_of g) (id_of_number g (get_or shapes home 0))
      → first_of_shape (maps_of g) (numbering g shapes).shapes (home + 1)
      ≡ first_of_shape (maps_of g) (numbering g shapes).shapes home + length ms
  next_first ms is =
      let count = count_is ms is in
      let next = first_next (members_under (maps_of g)) [] ids home inside in omega (arith, count, next)

  pub first_here : first_of_shape (maps_of g) (numbering g shapes).shapes (home + 1)
      ≡ first_of_shape (maps_of g) (numbering g shapes).shapes home + count_of_shape (maps_of g) (numbering g shapes).shapes home
  first_here = first_next (members_under (maps_of g)) [] ids home inside

  module _ (ms : List ℕ) (is : map (id_of_number g) ms ≡ members_under (maps_of g) (id_of_number g (get_or shapes home 0))) where
    -- the member of this number among them
    pub number_is : (j : ℕ) → j < length ms
        → get_or (numbering g shapes).members (first_of_shape (maps_of g) (numbering g shapes).shapes home + j) []
        ≡ id_of_number g (get_or ms j 0)
    number_is j less =
        let count = count_is ms is in
        get_or-flat_map (members_under (maps_of g)) ids home j [] [] inside (omega (arith, count, less))
        ∙ ap (λ i. get_or (members_under (maps_of g) i) j []) here ∙ ap (λ xs. get_or xs j []) (sym is)
        ∙ get_or-map (id_of_number g) ms j 0 [] less

    pub member_put : (j : ℕ) (old new : List TableMember) (row : TableMember) → j < length ms → new ≡ old ++ row ∷ []
        → length (map member_data old) ≡ first_of_shape (maps_of g) (numbering g shapes).shapes home + j
        → EachAt (IsMemberRow (maps_of g) ps (numbering g shapes)) (map member_data old)
        → SaysMember (maps_of g) ps (numbering g shapes) (id_of_number g (get_or ms j 0)) (member_data row) → row.shape ≡ home
        → IsIdText (id_of_number g (get_or ms j 0)) → IsUtf8 row.name → IsUtf8 (unwrap_or row.json_name row.name)
        → IsUnboundMember (member_data row)
        → EachAt (IsMemberRow (maps_of g) ps (numbering g shapes)) (map member_data new)
    member_put j old new row less put long each says at spelled name json_name unbound =
        each_put member_data (IsMemberRow (maps_of g) ps (numbering g shapes)) old new row put each (record {
          behind = subst (λ s. first_of_shape (maps_of g) ids s ≤ length (map member_data old)) (sym at) (omega (arith, long));
          before = subst (λ s. length (map member_data old) < first_of_shape (maps_of g) ids s + count_of_shape (maps_of g) ids s) (sym at)
              (let count = count_is ms is in omega (arith, long, less, count));
          says = subst (λ i. SaysMember (maps_of g) ps (numbering g shapes) i (member_data row)) (sym id_is) says;
          spelled = subst IsIdText (sym id_is) spelled;
          name = name;
          json_name = json_name;
          unbound = unbound;
        })
      where
        id_is : get_or (numbering g shapes).members (length (map member_data old)) [] ≡ id_of_number g (get_or ms j 0)
        id_is = ap (λ k. get_or (numbering g shapes).members k []) long ∙ number_is j less

    pub long_put : (j : ℕ) (old new : List TableMember) (row : TableMember) → new ≡ old ++ row ∷ []
        → length (map member_data old) ≡ first_of_shape (maps_of g) (numbering g shapes).shapes home + j
        → length (map member_data new) ≡ first_of_shape (maps_of g) (numbering g shapes).shapes home + (j + 1)
    long_put j old new row put long =
        let a = length-map old member_data in
        let b = length-map new member_data in
        let c = one_longer old new row put in omega (arith, a, b, c, long)

pub first_more : (g : Graph) (shapes : List ℕ) (home : ℕ) → home < length shapes
    → first_of_shape (maps_of g) (numbering g shapes).shapes (home + 1)
    ≡ first_of_shape (maps_of g) (numbering g shapes).shapes home + count_of_shape (maps_of g) (numbering g shapes).shapes home
first_more g shapes home lt = first_here g shapes [] home lt
