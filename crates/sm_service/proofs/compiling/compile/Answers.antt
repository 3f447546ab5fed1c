use Rattle.std.proofs.Common.{subst, sym}
use Rattle.sm_model.specs.GraphView.{maps_of}
use Rattle.sm_compile.specs.Answers.{seen_store}
use Rattle.sm_rules.specs.Ready.{Ready}
use Rattle.sm_rules.specs.Words.{IsService}
use Rattle.sm_service.specs.Answers.{CompilesService}
use Rattle.sm_service.proofs.compiling.compile.Goals as goal

pub compile_service-requires-clause-service : goal.compile_service-requires-clause-service
compile_service-requires-clause-service g c = subst (IsService (maps_of c.args.graph.now)) (sym c.in-Some.ensures.1) c.in-Some.ensures.2

pub compile_service-requires-clause-ready : goal.compile_service-requires-clause-ready
compile_service-requires-clause-ready g c = subst (Ready (maps_of c.args.graph.now)) (sym c.in-Some.ensures.1) c.requires.ready

pub returns-in-Some : goal.returns-in-Some
returns-in-Some g c =
    let before = seen_store (g.P.Patterns.added c.args.patterns.now) (g.P.Patterns.refused c.args.patterns.now)
    (g.P.Patterns.refusals c.args.patterns.now) in
    let now = seen_store (g.P.Patterns.added c.compile_service.new.patterns) (g.P.Patterns.refused c.compile_service.new.patterns)
    (g.P.Patterns.refusals c.compile_service.new.patterns) in
    subst (λ id. CompilesService (maps_of c.args.graph.now) id g.P.Patterns.test before now c.compile_service.result) c.in-Some.ensures.1
    c.compile_service.ensures
