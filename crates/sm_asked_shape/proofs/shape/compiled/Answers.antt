use Rattle.std.proofs.Common.{subst}
use Rattle.sm_ids.specs.IdText.{printed}
use Rattle.sm_ids.specs.View.{id_of}
use Rattle.sm_model.specs.GraphView.{maps_of}
use Rattle.sm_compile.specs.Answers.{seen_store}
use Rattle.sm_compile.specs.Sound.{Sound}
use Rattle.sm_asked.specs.Lines.{no_shape_line, pattern_line}
use Rattle.sm_asked_shape.proofs.TablesNamed.{compiled_lacks, compiled_refused, compiled_table}
use Rattle.sm_asked_shape.proofs.shape.compiled.Goals as goal

pub compile_shape-requires : goal.compile_shape-requires
compile_shape-requires g c = record { sound = subst (Sound (maps_of c.args.graph.now)) c.as_ref-shape.ensures.spelled c.requires }

pub returns-in-Ok-clause-makes : goal.returns-in-Ok-clause-makes
returns-in-Ok-clause-makes g c =
    let before = seen_store (g.P.Patterns.added c.args.patterns.now) (g.P.Patterns.refused c.args.patterns.now)
    (g.P.Patterns.refusals c.args.patterns.now) in
    let now = seen_store (g.P.Patterns.added c.compile_shape.new.patterns) (g.P.Patterns.refused c.compile_shape.new.patterns)
    (g.P.Patterns.refusals c.compile_shape.new.patterns) in
    compiled_table (maps_of c.args.graph.now) c.args.id.now (printed (id_of c.as_ref-shape.result)) g.P.Patterns.test before now
    c.as_ref-shape.ensures.spelled c.in-Ok.one c.in-Ok.ensures

pub returns-in-Err-NoShape-clause-makes : goal.returns-in-Err-NoShape-clause-makes
returns-in-Err-NoShape-clause-makes g c =
    let before = seen_store (g.P.Patterns.added c.args.patterns.now) (g.P.Patterns.refused c.args.patterns.now)
    (g.P.Patterns.refusals c.args.patterns.now) in
    let now = seen_store (g.P.Patterns.added c.compile_shape.new.patterns) (g.P.Patterns.refused c.compile_shape.new.patterns)
    (g.P.Patterns.refusals c.compile_shape.new.patterns) in
    let none = rw c.in-Err-NoShape.field-0-is at c.in-Err-NoShape.ensures in
    compiled_lacks (maps_of c.args.graph.now) c.args.id.now (printed (id_of c.as_ref-shape.result)) g.P.Patterns.test before now
    c.as_ref-shape.ensures.spelled c.refused.result none (c.refused.ensures (no_shape_line c.args.id.now)
    (rw c.as_str.ensures at c.line.ensures))

pub returns-in-Err-Pattern-clause-makes : goal.returns-in-Err-Pattern-clause-makes
returns-in-Err-Pattern-clause-makes g c =
    let before = seen_store (g.P.Patterns.added c.args.patterns.now) (g.P.Patterns.refused c.args.patterns.now)
    (g.P.Patterns.refusals c.args.patterns.now) in
    let now = seen_store (g.P.Patterns.added c.compile_shape.new.patterns) (g.P.Patterns.refused c.compile_shape.new.patterns)
    (g.P.Patterns.refusals c.compile_shape.new.patterns) in
    let one = rw c.in-Err-Pattern.field-0-is at c.in-Err-Pattern.ensures in
    compiled_refused (maps_of c.args.graph.now) c.args.id.now (printed (id_of c.as_ref-shape.result)) g.P.Patterns.test before now
    c.as_ref-shape.ensures.spelled c.in-Err-Pattern.carrier c.refused_pattern.result one
    (c.refused_pattern.ensures (pattern_line c.in-Err-Pattern.carrier)
    (rw c.as_str-in-Err-Pattern.ensures at c.line-in-Err-Pattern.ensures))
