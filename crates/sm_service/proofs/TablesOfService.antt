-- The table of the shapes with values of a service, reached from them, is one of all that the service leads to.
use Rattle.std.proofs.Common.{◌≡◌, ℕ, List, map, sym, ap, ◌∙◌, subst}
use Rattle.std.specs.Prelude.{Err}
use Rattle.std.specs.Cmp.Lexicographic.{nat_list_cmp_total}
use Rattle.std.specs.List.{Contains, flat_map}
use Rattle.sm_model.specs.GraphView.{maps_of}
use Rattle.sm_model.specs.Reaching.{id_of_number}
use Rattle.sm_model.specs.declared.graph.Graph.{Graph}
use Rattle.sm_model.proofs.OneRising.{one_rising}
use Rattle.sm_shapes.specs.Fitting.{Test}
use Rattle.sm_shapes.specs.TableData.{TableData}
use Rattle.sm_shapes.specs.TableView.{table_data}
use Rattle.sm_compile.specs.Answers.{IsLeftBehind, StoreSeen}
use Rattle.sm_compile.specs.Compiled.{IdSet, IsCompiled, Numbering, members_under, texts_of}
use Rattle.sm_compile.specs.Sound.{trait_of}
use Rattle.sm_compile.specs.Roots.{AreSoundRoots, CompilesRoots, IsReachedFromSome, IsTableOfRoots}
use Rattle.sm_compile.specs.declared.compiled.CompileRefusal.{CompileRefusal}
use Rattle.sm_compile.specs.declared.compiled.CompileRefusal.TheVariants as roots
use Rattle.sm_compile.specs.declared.tabled.Tabled.{Tabled}
use Rattle.sm_compile.specs.steps.Numbered.{numbering}
use Rattle.sm_rules.specs.Ready.{IsOfService, Ready}
use Rattle.sm_rules.specs.Words.{IsService}
use Rattle.sm_accepted.proofs.ReadyGraphs.{sound_ready}
use Rattle.sm_service.specs.declared.refusal.ServiceRefusal.{ServiceRefusal}
use Rattle.sm_service.specs.declared.refusal.ServiceRefusal.TheVariants.{NoService, Pattern, NoMemory}
use Rattle.sm_service.specs.steps.BindingsTold.{AreBindingTexts}
use Rattle.sm_service.specs.steps.ServiceTables.{AreValueShapes, IsBoundFrom, IsBoundTable, IsTableOfService}
use Rattle.sm_service.specs.steps.ServiceTables.{IsTableOfShapes, TablesBound, TablesService, TablesShapes, refusal_of}
use Rattle.sm_service.proofs.AlongSets.{compiled_along, refused_along}
use Rattle.sm_service.proofs.BindingsRead.{binding_texts}
use Rattle.sm_service.proofs.ServiceReached.{same_carriers, same_values}
use Rattle.sm_service.proofs.BoundRows.{bound_whole}

module _ (g : Graph) (service : List ℕ) (is : IsService (maps_of g) service) (ready : Ready (maps_of g) service) (shapes : List ℕ)
    (are : AreValueShapes g service shapes) where
  abbrev ids : List (List ℕ)
  ids = map (id_of_number g) shapes

  abbrev Of : IdSet
  Of = IsOfService (maps_of g) service

  abbrev In : IdSet
  In = IsReachedFromSome (maps_of g) ids

  pub roots_sound : AreSoundRoots (maps_of g) ids
  roots_sound root among = let h = (are.all root).0 among in (h.1, sound_ready (maps_of g) service is ready root h.0)

  -- the shapes of the table stand in it by their numbers in the graph
  one_numbering : (t : TableData) (n : Numbering) → IsCompiled (maps_of g) Of t n → Path Numbering n (numbering g shapes)
  one_numbering t n c =
      let same = one_rising nat_list_cmp_total n.shapes ids c.shapes_rise are.ids_rise (λ id. (
        λ there. (are.all id).1 ((c.shapes id).0 there),
        λ there. (c.shapes id).1 ((are.all id).0 there),
      )) in
      let members = c.members_follow ∙ ap (flat_map (members_under (maps_of g))) same in
      λ i. record { shapes = same i; members = members i }

  pub table_told : (test : Test) (before now : StoreSeen) (made : Tabled) → IsTableOfRoots g shapes test before now made
      → IsTableOfShapes g service shapes test before now (table_data made.table)
  table_told test before now made h =
      let t = table_data made.table in
      let c = compiled_along (maps_of g) In Of (same_values (maps_of g) service is ready ids are.all)
      (same_carriers (maps_of g) service is ready ids are.all) t h.numbering h.compiled in
      record {
        compiled = subst (IsCompiled (maps_of g) Of t) (one_numbering t h.numbering c) c;
        numbered = h.numbered;
        shaped = h.shaped;
        built = h.built;
        no_default = h.no_default;
        added = h.added;
        refused = h.refused;
        refusals = h.refusals;
      }

  refusal_told : (test : Test) (before now : StoreSeen) (refusal : CompileRefusal) → CompilesRoots g shapes test before now (Err refusal)
      → TablesShapes g service shapes test before now (Err (refusal_of refusal))
  refusal_told test before now roots.NoShape h = absurd h
  refusal_told test before now (roots.Pattern id) h =
      refused_along (maps_of g) In Of (same_values (maps_of g) service is ready ids are.all)
      (same_carriers (maps_of g) service is ready ids are.all) before now id h
  refusal_told test before now roots.NoMemory h = h

  pub refused_roots : (test : Test) (before now : StoreSeen) (refusal : CompileRefusal) (r : ServiceRefusal) → r ≡ refusal_of refusal
      → CompilesRoots g shapes test before now (Err refusal) → TablesShapes g service shapes test before now (Err r)
  refused_roots test before now refusal r is h =
      subst (λ (x : ServiceRefusal). TablesShapes g service shapes test before now (Err x)) (sym is)
      (refusal_told test before now refusal h)

  -- and with its bindings
  module _ (test : Test) (before now : StoreSeen) (t : TableData) (plain : IsTableOfShapes g service shapes test before now t) where
    texts_there : (id : List ℕ) → Contains (numbering g shapes).members id → AreBindingTexts (trait_of (maps_of g) id)
    texts_there id among = binding_texts (maps_of g) service is ready id ((plain.compiled.members id).0 among)

    pub bound_told : (u : TableData) → IsBoundFrom g shapes t u → IsBoundTable g service shapes test before now u
    bound_told u bound = bound_whole g service shapes test before now t plain texts_there u bound

    pub left_told : IsLeftBehind before now
    left_told = record {
      more = texts_of t.patterns;
      added = plain.added;
      refused = plain.refused;
      refusals = plain.refusals;
    }

  -- a refusal of the plain table is one of the table
  pub refused_too : (test : Test) (before now : StoreSeen) (refusal : ServiceRefusal)
      → TablesShapes g service shapes test before now (Err refusal) → TablesBound g service shapes test before now (Err refusal)
  refused_too test before now NoService h = absurd h
  refused_too test before now (Pattern id) h = h
  refused_too test before now NoMemory h = h

-- and of the service
pub refused_of_service : (g : Graph) (service : List ℕ) (shapes : List ℕ) (test : Test) (before now : StoreSeen) (refusal : ServiceRefusal)
    → TablesBound g service shapes test before now (Err refusal) → TablesService g service test before now (Err refusal)
refused_of_service g service shapes test before now NoService h = absurd h
refused_of_service g service shapes test before now (Pattern id) h = h
refused_of_service g service shapes test before now NoMemory h = h

pub service_tabled : (g : Graph) (service : List ℕ) (shapes : List ℕ) (test : Test) (before now : StoreSeen) (made : Tabled)
    → made.shapes.items ≡ shapes → AreValueShapes g service shapes
    → IsBoundTable g service shapes test before now (table_data made.table) → IsTableOfService g service test before now made
service_tabled g service shapes test before now made same are bound = record {
  shapes = subst (AreValueShapes g service) (sym same) are;
  table = subst (λ ks. IsBoundTable g service ks test before now (table_data made.table)) (sym same) bound;
}
