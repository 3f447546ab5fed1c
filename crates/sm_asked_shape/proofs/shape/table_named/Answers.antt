use Rattle.std.proofs.Common.{refl, subst, sym, ◌∙◌}
use Rattle.sm_model.specs.GraphView.{maps_of}
use Rattle.sm_compile.specs.Answers.{seen_store}
use Rattle.sm_compile.specs.Sound.{Sound}
use Rattle.sm_asked.specs.Lines.{no_shape_line}
use Rattle.sm_asked_shape.specs.ShapeTables.{MakesTable}
use Rattle.sm_asked_shape.proofs.TablesNamed.{shape_lacks}
use Rattle.sm_asked_shape.proofs.ShapesNamed.{id_named, none_there, number_names}
use Rattle.sm_asked_shape.proofs.shape.table_named.Goals as goal

pub compiled-requires : goal.compiled-requires
compiled-requires g c =
    let named = id_named c.args.graph.now c.in-Some.number c.id.result.now c.id.ensures
    ∙ number_names c.args.graph.now c.in-Some.number c.args.shape.now c.in-Some.ensures in
    subst (Sound (maps_of c.args.graph.now)) (sym named) c.requires

pub returns-in-Some-clause-makes : goal.returns-in-Some-clause-makes
returns-in-Some-clause-makes g c =
    let before = seen_store (g.P.Patterns.added c.args.patterns.now) (g.P.Patterns.refused c.args.patterns.now)
    (g.P.Patterns.refusals c.args.patterns.now) in
    let now = seen_store (g.P.Patterns.added c.compiled.new.patterns) (g.P.Patterns.refused c.compiled.new.patterns)
    (g.P.Patterns.refusals c.compiled.new.patterns) in
    let named = id_named c.args.graph.now c.in-Some.number c.id.result.now c.id.ensures
    ∙ number_names c.args.graph.now c.in-Some.number c.args.shape.now c.in-Some.ensures in
    subst (λ x. MakesTable (maps_of c.args.graph.now) x g.P.Patterns.test before now c.compiled.result) named c.compiled.ensures.makes

pub returns-in-None-clause-makes : goal.returns-in-None-clause-makes
returns-in-None-clause-makes g c =
    let store = seen_store (g.P.Patterns.added c.args.patterns.now) (g.P.Patterns.refused c.args.patterns.now)
    (g.P.Patterns.refusals c.args.patterns.now) in
    shape_lacks (maps_of c.args.graph.now) c.args.shape.now g.P.Patterns.test store store c.refused.result
    (none_there (maps_of c.args.graph.now) c.args.shape.now c.in-None.ensures) refl
    (c.refused.ensures (no_shape_line c.args.shape.now) c.line.ensures)
