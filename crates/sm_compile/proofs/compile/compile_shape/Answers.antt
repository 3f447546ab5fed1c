use Rattle.std.proofs.Common.{subst, sym}
use Rattle.sm_model.specs.GraphView.{maps_of}
use Rattle.sm_compile.specs.Answers.{CompilesShape, seen_store}
use Rattle.sm_compile.specs.Sound.{IsValueShape, Sound}
use Rattle.sm_compile.proofs.compile.compile_shape.Goals as goal

pub compile_root-requires-clause-value : goal.compile_root-requires-clause-value
compile_root-requires-clause-value g c = subst (IsValueShape (maps_of c.args.graph.now)) (sym c.in-Some.ensures.1) c.in-Some.ensures.2

pub compile_root-requires-clause-sound : goal.compile_root-requires-clause-sound
compile_root-requires-clause-sound g c = subst (Sound (maps_of c.args.graph.now)) (sym c.in-Some.ensures.1) c.requires.sound

pub returns-in-Some : goal.returns-in-Some
returns-in-Some g c =
    let before = seen_store (g.P.Patterns.added c.args.patterns.now) (g.P.Patterns.refused c.args.patterns.now)
    (g.P.Patterns.refusals c.args.patterns.now) in
    let now = seen_store (g.P.Patterns.added c.compile_root.new.patterns) (g.P.Patterns.refused c.compile_root.new.patterns)
    (g.P.Patterns.refusals c.compile_root.new.patterns) in
    subst (λ id. CompilesShape (maps_of c.args.graph.now) id g.P.Patterns.test before now c.compile_root.result) c.in-Some.ensures.1
    c.compile_root.ensures
