-- A service that is ready has one service over a store, and the store is left in one state.
use Rattle.std.proofs.Common.{ℕ, List, length, sym, ap, ◌∙◌, subst}
use Rattle.std.specs.Prelude.{◌++◌}
use Rattle.sm_model.specs.Graphs.{GraphMaps, ShapeEntry}
use Rattle.sm_shapes.specs.Fitting.{Test}
use Rattle.sm_shapes.specs.TableData.{TableData}
use Rattle.sm_compile.specs.Answers.{StoreSeen}
use Rattle.sm_compile.specs.Compiled.{Numbering, texts_of}
use Rattle.sm_compile.proofs.OnePatterns.{same_shape}
use Rattle.sm_compile.proofs.OneTable.{AreBoundAlike, one_compiled, one_numbering}
use Rattle.sm_rules.specs.Ready.{IsOfService, Ready}
use Rattle.sm_rules.specs.Words.{IsService}
use Rattle.sm_service.specs.Answers.{IsServiceSeen}
use Rattle.sm_service.specs.Bound.{Binds}
use Rattle.sm_service.specs.Compiled.{AreOperationsOf}
use Rattle.sm_service.specs.Laws.{OneService}
use Rattle.sm_service.specs.ServiceData.{ServiceData}
use Rattle.sm_service.proofs.OneBindings.{one_binding}
use Rattle.sm_service.proofs.OneOperations.{one_operations}
use Rattle.sm_service.proofs.OneTables.{bound_alike}

module _ (g : GraphMaps) (id : List ℕ) (test : Test) (before now later : StoreSeen) (one other : ServiceData) (ready : Ready g id)
    (p : IsServiceSeen g id test before now one) (q : IsServiceSeen g id test before later other) where
  is : IsService g id
  is = (q.of_graph.s, q.of_graph.own, q.of_graph.kind)

  abbrev n : Numbering
  n = q.of_graph.numbering

  numbering : Path Numbering p.of_graph.numbering n
  numbering =
      one_numbering g (IsOfService g id) one.table other.table p.of_graph.numbering n p.of_graph.compiled q.of_graph.compiled

  shape : Path ShapeEntry p.of_graph.s q.of_graph.s
  shape = same_shape g id p.of_graph.s q.of_graph.s p.of_graph.own.0 q.of_graph.own.0

  bound : AreBoundAlike one.table other.table
  bound =
      bound_alike g (IsOfService g id) (one_binding g id is ready) n (λ member. (q.of_graph.compiled.members member).0) one.table other.table
      (subst (λ m. Binds g m one.table) numbering p.of_graph.binds) q.of_graph.binds

  table : Path TableData one.table other.table
  table =
      one_compiled g (IsOfService g id) one.table other.table p.of_graph.numbering n (length before.added) p.of_graph.compiled
      q.of_graph.compiled p.servable.shaped q.servable.shaped p.numbered q.numbered bound

  said : AreOperationsOf g id n q.of_graph.s one.operations
  said = subst (λ s. AreOperationsOf g id n s one.operations) shape
      (subst (λ m. AreOperationsOf g id m p.of_graph.s one.operations) numbering p.of_graph.operations)

  service : Path ServiceData one other
  service =
      let name = p.of_graph.name ∙ sym q.of_graph.name in
      let operations = one_operations g id n q.of_graph.s q.of_graph.compiled.shapes_once one.operations other.operations said
      q.of_graph.operations in
      λ i. record { table = table i; name = name i; operations = operations i }

  store : Path StoreSeen now later
  store =
      let added = p.added ∙ ap (λ (t : TableData). before.added ++ texts_of t.patterns) table ∙ sym q.added in
      let refused = p.refused ∙ sym q.refused in
      let refusals = p.refusals ∙ sym q.refusals in
      λ i. record { added = added i; refused = refused i; refusals = refusals i }

-- the law
pub one_service : OneService
one_service g id test before now later one other ready p q =
    (service g id test before now later one other ready p q, store g id test before now later one other ready p q)
