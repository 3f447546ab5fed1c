use Rattle.std.proofs.Common.{refl, subst, sym}
use Rattle.sm_model.specs.GraphView.{maps_of}
use Rattle.sm_compile.specs.Answers.{seen_store}
use Rattle.sm_rules.specs.Ready.{Ready}
use Rattle.sm_asked_service.specs.ServiceAnswers.{no_service_line}
use Rattle.sm_asked_service.specs.steps.ServiceSteps.{MakesService}
use Rattle.sm_asked_service.proofs.ServicesCompiled.{service_lacks}
use Rattle.sm_asked_service.proofs.ServicesNamed.{id_found, none_there}
use Rattle.sm_asked_service.proofs.service.service_named.Goals as goal

pub compiled-requires : goal.compiled-requires
compiled-requires g c =
    let named = id_found c.args.graph.now c.in-Some.number c.args.service.now c.id.result.now c.in-Some.ensures c.id.ensures in
    subst (Ready (maps_of c.args.graph.now)) (sym named) c.requires

pub returns-in-Some-clause-makes : goal.returns-in-Some-clause-makes
returns-in-Some-clause-makes g c =
    let before = seen_store (g.P.Patterns.added c.args.patterns.now) (g.P.Patterns.refused c.args.patterns.now)
    (g.P.Patterns.refusals c.args.patterns.now) in
    let now = seen_store (g.P.Patterns.added c.compiled.new.patterns) (g.P.Patterns.refused c.compiled.new.patterns)
    (g.P.Patterns.refusals c.compiled.new.patterns) in
    let named = id_found c.args.graph.now c.in-Some.number c.args.service.now c.id.result.now c.in-Some.ensures c.id.ensures in
    subst (λ x. MakesService (maps_of c.args.graph.now) x g.P.Patterns.test before now c.compiled.result) named c.compiled.ensures.makes

pub returns-in-None-clause-makes : goal.returns-in-None-clause-makes
returns-in-None-clause-makes g c =
    let store = seen_store (g.P.Patterns.added c.args.patterns.now) (g.P.Patterns.refused c.args.patterns.now)
    (g.P.Patterns.refusals c.args.patterns.now) in
    service_lacks (maps_of c.args.graph.now) c.args.service.now g.P.Patterns.test store store c.refused.result
    (none_there (maps_of c.args.graph.now) c.args.service.now c.in-None.ensures) refl
    (c.refused.ensures (no_service_line c.args.service.now) c.line.ensures)
