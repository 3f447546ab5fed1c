use Rattle.std.proofs.Common.{sym, ◌∙◌}
use Rattle.sm_model.specs.GraphView.{maps_of}
use Rattle.sm_model.specs.Reaching.{id_of_number}
use Rattle.sm_http_traits.specs.Bindings.{carries_binding}
use Rattle.sm_http_traits.proofs.SomePasses.{passes_here, passes_later}
use Rattle.sm_http_traits.proofs.bindings.carries_one.Goals as goal

pub returns-then-carries_binding : goal.returns-then-carries_binding
returns-then-carries_binding c =
    passes_here (carries_binding (maps_of c.args.graph.now) (id_of_number c.args.graph.now c.args.number)) c.args.bindings.now
    c.loop-binding.binding-index _ c.loop-binding-test.true c.loop-binding.invariant
    (sym c.carries_binding.ensures ∙ c.if-carries_binding.true)

pub loop-binding-preserved : goal.loop-binding-preserved
loop-binding-preserved c =
    passes_later (carries_binding (maps_of c.args.graph.now) (id_of_number c.args.graph.now c.args.number)) c.args.bindings.now
    c.loop-binding.binding-index _ c.loop-binding-test.true c.loop-binding.invariant
    (sym c.carries_binding.ensures ∙ c.if-carries_binding.false)
