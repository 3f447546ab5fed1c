-- Files and a store come to one answer before a shape that is served, or to one shape: at each decision two go the same way.
use Rattle.std.proofs.Common.{◌≡◌, ℕ, List, [], ◌∷◌, Some, sym, ap, subst, ◌∙◌}
use Rattle.sm_model.specs.Graphs.{GraphMaps}
use Rattle.sm_shapes.specs.TableData.{TableData}
use Rattle.sm_compile.specs.Answers.{IsTableSeen}
use Rattle.sm_compile.specs.Compiled.{IsFirstCarrier}
use Rattle.sm_compile.specs.Reached.{IsReached}
use Rattle.sm_compile.specs.Sound.{IsValueShape}
use Rattle.sm_compile.specs.declared.compiled.Served.{Served}
use Rattle.sm_compile.specs.declared.compiled.Served.TheVariants.{Yes, Unserved}
use Rattle.sm_compile.proofs.OnePatterns.{one_first}
use Rattle.sm_compile.proofs.OneTable.{one_seen}
use Rattle.sm_lines.specs.Lines.{unserved_line}
use Rattle.sm_asked.specs.Answer.{Answer, refused, pattern_refused}
use Rattle.sm_asked.specs.Lines.{pattern_line}
use Rattle.sm_asked.specs.Loading.{Loaded}
use Rattle.sm_asked.specs.Stages.{Told}
use Rattle.sm_asked.proofs.ToldAll.{IsToldWhole}
use Rattle.sm_asked_shape.specs.ShapeAnswers.{ShapeAnswers}
use Rattle.sm_asked_shape.specs.ShapeAnswers.ShapeAnswers.{not_loaded, no_shape, pattern, unserved}
use Rattle.sm_asked_shape.specs.ShapeStages.{ShapeThere, TableMade, ShapeServed}
use Rattle.sm_asked_shape.proofs.TablesMade.{carried_within}

-- whether a shape is served, and the path of one that isn't
abbrev is_yes : Served → Type 0
is_yes Yes = Unit {0}
is_yes (Unserved path) = ⊥

abbrev path_in : Served → List ℕ
path_in Yes = []
path_in (Unserved path) = path

module _ (t : Told) (whole : IsToldWhole t) (name shape : List ℕ) where
  -- one graph: it has the shape, or not
  graphs : (k l : Loaded t.files (name ∷ [])) → Path GraphMaps k.graph l.graph
  graphs = whole.graphs (name ∷ [])

  not_there : (loaded : Loaded t.files (name ∷ [])) → (IsValueShape loaded.graph shape → ⊥) → ShapeThere t name shape → ⊥
  not_there loaded none h = none (subst (λ g. IsValueShape g shape) (graphs h.loaded loaded) h.is)

  -- the store refuses a pattern of the shape, or there is a table of it
  not_made : (there : ShapeThere t name shape) (u id : List ℕ) → t.refused ≡ Some u
      → IsFirstCarrier there.loaded.graph (IsReached there.loaded.graph shape) u id → TableMade t name shape → ⊥
  not_made there u id is first h = h.free u is (carried_within h.there.loaded.graph shape t.test t.store h.now h.one u id h.compiled
      (subst (λ g. IsFirstCarrier g (IsReached g shape) u id) (graphs there.loaded h.there.loaded) first))

  id_same : (h i : ShapeThere t name shape) (u v id id1 : List ℕ) → t.refused ≡ Some u → t.refused ≡ Some v
      → IsFirstCarrier h.loaded.graph (IsReached h.loaded.graph shape) u id
      → IsFirstCarrier i.loaded.graph (IsReached i.loaded.graph shape) v id1 → id ≡ id1
  id_same h i u v id id1 is is1 first first1 =
      let g = i.loaded.graph in
      let texts : u ≡ v = cc in
      one_first g (IsReached g shape) v id id1 (subst (λ x. IsFirstCarrier g (IsReached g shape) x id) texts
      (subst (λ x. IsFirstCarrier x (IsReached x shape) u id) (graphs h.loaded i.loaded) first)) first1

  -- there is one table, which is served or not
  pub tables_same : (h i : TableMade t name shape)
      → Path TableData h.one.table i.one.table × (h.one.shape ≡ i.one.shape) × Path Served h.one.served i.one.served
  tables_same h i =
      one_seen i.there.loaded.graph shape t.test t.store h.now i.now h.one i.one
      (subst (λ g. IsTableSeen g shape t.test t.store h.now h.one) (graphs h.there.loaded i.there.loaded) h.compiled)
      i.compiled

  not_served : (h : TableMade t name shape) (path : List ℕ) → Path Served h.one.served (Unserved path) → ShapeServed t name shape → ⊥
  not_served h path is i =
      let same : Path Served (Unserved path) Yes = sym is ∙ (tables_same h i.table).2 ∙ i.served in subst is_yes (sym same) tt

  path_same : (h i : TableMade t name shape) (path path1 : List ℕ) → Path Served h.one.served (Unserved path)
      → Path Served i.one.served (Unserved path1) → path ≡ path1
  path_same h i path path1 is is1 = ap path_in (sym is ∙ (tables_same h i).2 ∙ is1)

  -- two answers are one
  pub shape_same : (a b : Answer) → ShapeAnswers t name shape a → ShapeAnswers t name shape b → a ≡ b
  shape_same a b (not_loaded h) (not_loaded h1) = whole.answers (name ∷ []) a b h h1
  shape_same a b (not_loaded h) (no_shape l1 none1 e1) = absurd (whole.apart (name ∷ []) a h l1)
  shape_same a b (not_loaded h) (pattern there1 u1 id1 is1 first1 e1) = absurd (whole.apart (name ∷ []) a h there1.loaded)
  shape_same a b (not_loaded h) (unserved table1 path1 is1 e1) = absurd (whole.apart (name ∷ []) a h table1.there.loaded)
  shape_same a b (no_shape l none e) (not_loaded h1) = absurd (whole.apart (name ∷ []) b h1 l)
  shape_same a b (no_shape l none e) (no_shape l1 none1 e1) = e ∙ sym e1
  shape_same a b (no_shape l none e) (pattern there1 u1 id1 is1 first1 e1) = absurd (not_there l none there1)
  shape_same a b (no_shape l none e) (unserved table1 path1 is1 e1) = absurd (not_there l none table1.there)
  shape_same a b (pattern there u id is first e) (not_loaded h1) = absurd (whole.apart (name ∷ []) b h1 there.loaded)
  shape_same a b (pattern there u id is first e) (no_shape l1 none1 e1) = absurd (not_there l1 none1 there)
  shape_same a b (pattern there u id is first e) (pattern there1 u1 id1 is1 first1 e1) =
      e ∙ ap (λ x. pattern_refused (pattern_line x)) (id_same there there1 u u1 id id1 is is1 first first1) ∙ sym e1
  shape_same a b (pattern there u id is first e) (unserved table1 path1 is1 e1) = absurd (not_made there u id is first table1)
  shape_same a b (unserved table path is e) (not_loaded h1) = absurd (whole.apart (name ∷ []) b h1 table.there.loaded)
  shape_same a b (unserved table path is e) (no_shape l1 none1 e1) = absurd (not_there l1 none1 table.there)
  shape_same a b (unserved table path is e) (pattern there1 u1 id1 is1 first1 e1) = absurd (not_made there1 u1 id1 is1 first1 table)
  shape_same a b (unserved table path is e) (unserved table1 path1 is1 e1) =
      e ∙ ap (λ x. refused (unserved_line x)) (path_same table table1 path path1 is is1) ∙ sym e1

  -- and none stands before a shape that is served
  pub shape_apart : (a : Answer) → ShapeAnswers t name shape a → ShapeServed t name shape → ⊥
  shape_apart a (not_loaded h) served = whole.apart (name ∷ []) a h served.table.there.loaded
  shape_apart a (no_shape l none e) served = not_there l none served.table.there
  shape_apart a (pattern there u id is first e) served = not_made there u id is first served.table
  shape_apart a (unserved table path is e) served = not_served table path is served
