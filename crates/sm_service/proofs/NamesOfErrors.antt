-- Rows of errors whose names tell their ids apart, and what their numbers are.
use Rattle.std.proofs.Common.{◌≡◌, ℕ, zero, suc, ◌+◌, ◌<◌, List, [], ◌∷◌, get_or, length, map, refl, sym, ap, ◌∙◌, subst, arith}
use Rattle.std.specs.Prelude.{◌^◌}
use Rattle.std.specs.List.{Contains, range_with_len}
use Rattle.std.proofs.lemmas.List.{length-map}
use Rattle.sm_model.specs.Graphs.{GraphMaps, ShapeEntry}
use Rattle.sm_model.specs.GraphRows.{ids_of, row_entry}
use Rattle.sm_model.specs.GraphView.{entries_of, maps_of}
use Rattle.sm_model.specs.Reaching.{id_of_number}
use Rattle.sm_model.specs.declared.graph.Graph.{Graph}
use Rattle.sm_shapes.specs.Names.{AllDiffer}
use Rattle.sm_compile.specs.Compiled.{EachSays, Numbering}
use Rattle.sm_compile.specs.steps.Numbered.{numbering}
use Rattle.sm_compile.proofs.TabledShapes.{mapped_to}
use Rattle.sm_service.specs.Compiled.{SaysError}
use Rattle.sm_service.specs.ErrorOrder.{NamesDiffer, name_at_place}
use Rattle.sm_service.specs.ErrorsView.{joined_errors}
use Rattle.sm_service.specs.References.{errors_said, once}
use Rattle.sm_service.specs.ServiceData.{name_of_error}
use Rattle.sm_service.specs.declared.error.ErrorShape.{ErrorShape}
use Rattle.sm_service.specs.steps.OperationRows.{AreAgain, AreErrorNumbers, AreRowNumbers, HaveErrorRows, NamesErrors, NamesTell, SharesErrors}
use Rattle.sm_service.specs.steps.OperationRows.{StandsAt, errors_named}
use Rattle.sm_service.proofs.ErrorNames.{names_apart}
use Rattle.sm_service.proofs.OperationsTold.{joined_rows, once_from, row_in, rows_long}
use Rattle.sm_service.proofs.SaidReferences.{once_differ}
use Rattle.sm_service.proofs.StartsTold.{stands_by}

-- a list by its places
shifted : {X : Type 0} (f : ℕ → X) (a n : ℕ) → map f (range_with_len (a + 1) n) ≡ map (λ k. f (k + 1)) (range_with_len a n)
shifted f a zero = refl
shifted f a (suc n) = ap (λ xs. f (a + 1) ∷ xs) (shifted f (a + 1) n)

got_next : (xs : List (List ℕ)) (x : List ℕ) (k : ℕ) → get_or (x ∷ xs) (k + 1) [] ≡ get_or xs k []
got_next xs x k = let next : k + 1 ≡ suc k = omega arith in ap (λ i. get_or (x ∷ xs) i []) next

same_along : {X : Type 0} (f h : ℕ → X) → ((k : ℕ) → f k ≡ h k) → (ks : List ℕ) → map f ks ≡ map h ks
same_along f h same [] = refl
same_along f h same (k ∷ ks) = ap (λ x. x ∷ map f ks) (same k) ∙ ap (λ xs. h k ∷ xs) (same_along f h same ks)

by_places : (xs : List (List ℕ)) → map (λ k. get_or xs k []) (range_with_len 0 (length xs)) ≡ xs
by_places [] = refl
by_places (x ∷ xs) =
    ap (λ ys. x ∷ ys)
    (shifted (λ k. get_or (x ∷ xs) k []) 0 (length xs)
    ∙ same_along (λ k. get_or (x ∷ xs) (k + 1) []) (λ k. get_or xs k []) (got_next xs x) (range_with_len 0 (length xs)) ∙ by_places xs)

names_by_places : (es : List ErrorShape) → AllDiffer (map name_of_error es) → NamesDiffer es
names_by_places es differ =
    subst AllDiffer
    (sym (ap (λ n. map (name_at_place es) (range_with_len 0 n)) (sym (length-map es name_of_error)) ∙ by_places (map name_of_error es))) differ

-- rows of ids each once
pub rows_differ : (g : GraphMaps) (n : Numbering) (ids : List (List ℕ)) (es : List ErrorShape) → EachSays (SaysError g n) (once ids) es
    → NamesTell ids → NamesDiffer es
rows_differ g n ids es rows tell =
    names_by_places es
    (names_apart g n (once ids) es rows (once_differ ids) (λ a b x y same. tell a b (once_from ids a x) (once_from ids b y) same))

module _ (g : Graph) (shapes : List ℕ) where
  few_entries : length (entries_of g) < 2 ^ 32
  few_entries = let many = length-map g.rows.items (row_entry (ids_of g.rows.items)) in omega (arith, g.few, many)

  -- rows of the same numbers
  pub rows_at : {ks ns : List ℕ} → ns ≡ ks → (es : List ErrorShape)
      → EachSays (SaysError (maps_of g) (numbering g shapes)) (map (id_of_number g) ns) es
      → EachSays (SaysError (maps_of g) (numbering g shapes)) (map (id_of_number g) ks) es
  rows_at same es rows = subst (λ is. EachSays (SaysError (maps_of g) (numbering g shapes)) (map (id_of_number g) is) es) same rows

  module _ (ids : List (List ℕ)) (ks : List ℕ) (said : NamesErrors g shapes ids ks) where
    pub numbers_ready : HaveErrorRows g shapes ids → AreErrorNumbers g shapes ks
    numbers_ready have k there = (
      said.there k there,
      (have (id_of_number g k) (once_from ids (id_of_number g k)
          (subst (λ is. Contains is (id_of_number g k)) said.said (mapped_to (id_of_number g) ks k there)))).1,
    )

    module _ (es : List ErrorShape) (rows : EachSays (SaysError (maps_of g) (numbering g shapes)) (map (id_of_number g) ks) es) where
      pub rows_said : (others : List (List ℕ)) → ids ≡ others → EachSays (SaysError (maps_of g) (numbering g shapes)) (once others) es
      rows_said others same = subst (λ is. EachSays (SaysError (maps_of g) (numbering g shapes)) is es) (said.said ∙ ap once same) rows

      pub rows_few : length es < 2 ^ 32
      rows_few =
          let long = rows_long (SaysError (maps_of g) (numbering g shapes)) (map (id_of_number g) ks) es rows in
          let many = length-map ks (id_of_number g) in
          let least = said.few in
          let few = few_entries in
          omega (arith, long, many, least, few)

  -- the errors that an operation names
  pub own_stand : (s : ShapeEntry) (own : List ErrorShape) → EachSays (SaysError (maps_of g) (numbering g shapes)) (once (errors_named s)) own
      → AreRowNumbers g shapes → (e : ErrorShape) → Contains own e → StandsAt g shapes e
  own_stand s own rows numbers e there =
      let r = row_in (SaysError (maps_of g) (numbering g shapes)) (once (errors_named s)) own e rows there in
      stands_by g shapes numbers r.0 e r.2

  -- the errors of an operation
  module _ (s service : ShapeEntry) (own shared : List ErrorShape) (again : List ℕ) (all : List ErrorShape)
      (rows : EachSays (SaysError (maps_of g) (numbering g shapes)) (once (errors_named s)) own) (are : AreAgain own shared again)
      (shares : SharesErrors g shapes service shared s) (joined : all ≡ joined_errors own again shared) where
    pub all_said : EachSays (SaysError (maps_of g) (numbering g shapes)) (errors_said s service) all
    all_said =
        subst (EachSays (SaysError (maps_of g) (numbering g shapes)) (errors_said s service)) (sym joined)
        (joined_rows (maps_of g) (numbering g shapes) (errors_named s) (errors_named service) own shared again rows shares.rows are shares.tell)
