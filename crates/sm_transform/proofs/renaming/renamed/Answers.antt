use Rattle.std.proofs.Common.{inr, refl, sym, ◌∙◌}
use Rattle.sm_model.specs.GraphView.{maps_of}
use Rattle.sm_model.proofs.Worklist.{apart}
use Rattle.sm_transform.specs.IdChanges.{entry_after, id_after}
use Rattle.sm_transform.specs.Renamed.{renamed_id, renames}
use Rattle.sm_transform.specs.steps.Changing.{IsLeft}
use Rattle.sm_transform.proofs.ExcludedGraph.{made_same}
use Rattle.sm_transform.proofs.RenamedIds.{renaming_safe}
use Rattle.sm_transform.proofs.renaming.renamed.Goals as goal

pub with_namespace-requires-clause-safe : goal.with_namespace-requires-clause-safe
with_namespace-requires-clause-safe c =
    let g = c.args.graph.now in
    renaming_safe c.args.from.now c.args.to.now c.requires.namespaces (maps_of g) c.requires.formed c.requires.traits
    (λ known. apart (sym c.if-is_refused.false ∙ c.is_refused.ensures.1 (inr (inr known))))

pub returns-in-Ok : goal.returns-in-Ok
returns-in-Ok c =
    let g = c.args.graph.now in
    let change = renames c.args.from.now c.args.to.now in (
      λ h. apart (sym c.if-is_refused.false ∙ c.is_refused.ensures.1 h),
      made_same (IsLeft change) (λ id. Unit {0}) (id_after change) (renamed_id c.args.from.now c.args.to.now) (entry_after change)
          (maps_of g)
          (maps_of c.in-Ok.changed) (λ id. (λ h. tt, λ h. refl)) (λ id. refl) c.in-Ok.ensures,
    )

pub returns-then-is_refused : goal.returns-then-is_refused
returns-then-is_refused c = c.is_refused.ensures.0 c.if-is_refused.true
