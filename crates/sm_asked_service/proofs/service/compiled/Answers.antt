use Rattle.std.proofs.Common.{subst}
use Rattle.sm_ids.specs.IdText.{printed}
use Rattle.sm_ids.specs.View.{id_of}
use Rattle.sm_model.specs.GraphView.{maps_of}
use Rattle.sm_compile.specs.Answers.{seen_store}
use Rattle.sm_rules.specs.Ready.{Ready}
use Rattle.sm_asked_shape.specs.asked.Lines.{pattern_line}
use Rattle.sm_asked_service.specs.ServiceAnswers.{no_service_line}
use Rattle.sm_asked_service.proofs.ServicesCompiled.{service_made, service_missing, service_refused}
use Rattle.sm_asked_service.proofs.service.compiled.Goals as goal

pub compile-requires : goal.compile-requires
compile-requires g c = record { ready = subst (Ready (maps_of c.args.graph.now)) c.as_ref-service.ensures.spelled c.requires }

pub returns-in-Ok-clause-makes : goal.returns-in-Ok-clause-makes
returns-in-Ok-clause-makes g c =
    let before = seen_store (g.P.Patterns.added c.args.patterns.now) (g.P.Patterns.refused c.args.patterns.now)
    (g.P.Patterns.refusals c.args.patterns.now) in
    let now = seen_store (g.P.Patterns.added c.compile.new.patterns) (g.P.Patterns.refused c.compile.new.patterns)
    (g.P.Patterns.refusals c.compile.new.patterns) in
    service_made (maps_of c.args.graph.now) c.args.id.now (printed (id_of c.as_ref-service.result)) g.P.Patterns.test before now
    c.as_ref-service.ensures.spelled c.in-Ok.service c.in-Ok.ensures

pub returns-in-Err-NoService-clause-makes : goal.returns-in-Err-NoService-clause-makes
returns-in-Err-NoService-clause-makes g c =
    let before = seen_store (g.P.Patterns.added c.args.patterns.now) (g.P.Patterns.refused c.args.patterns.now)
    (g.P.Patterns.refusals c.args.patterns.now) in
    let now = seen_store (g.P.Patterns.added c.compile.new.patterns) (g.P.Patterns.refused c.compile.new.patterns)
    (g.P.Patterns.refusals c.compile.new.patterns) in
    let none = rw c.in-Err-NoService.field-0-is at c.in-Err-NoService.ensures in
    service_missing (maps_of c.args.graph.now) c.args.id.now (printed (id_of c.as_ref-service.result)) g.P.Patterns.test before now
    c.as_ref-service.ensures.spelled c.refused.result none (c.refused.ensures (no_service_line c.args.id.now)
    (rw c.as_str.ensures at c.line.ensures))

pub returns-in-Err-Pattern-clause-makes : goal.returns-in-Err-Pattern-clause-makes
returns-in-Err-Pattern-clause-makes g c =
    let before = seen_store (g.P.Patterns.added c.args.patterns.now) (g.P.Patterns.refused c.args.patterns.now)
    (g.P.Patterns.refusals c.args.patterns.now) in
    let now = seen_store (g.P.Patterns.added c.compile.new.patterns) (g.P.Patterns.refused c.compile.new.patterns)
    (g.P.Patterns.refusals c.compile.new.patterns) in
    let one = rw c.in-Err-Pattern.field-0-is at c.in-Err-Pattern.ensures in
    service_refused (maps_of c.args.graph.now) c.args.id.now (printed (id_of c.as_ref-service.result)) g.P.Patterns.test before now
    c.as_ref-service.ensures.spelled c.in-Err-Pattern.carrier c.refused_pattern.result one
    (c.refused_pattern.ensures (pattern_line c.in-Err-Pattern.carrier)
    (rw c.as_str-in-Err-Pattern.ensures at c.line-in-Err-Pattern.ensures))
