use Rattle.std.proofs.Common.{rules, sym, subst}
use Rattle.std.proofs.lemmas.Fn.{filter_same}
use Rattle.sm_model.specs.EventView.{event_view}
use Rattle.sm_model.specs.GraphView.{maps_of}
use Rattle.sm_load.specs.steps.Suppressing.{AreSuppressors, stays}
use Rattle.sm_load.proofs.suppressed.without_suppressed.Goals as goal

pub returns : goal.returns
returns c =
    let are = subst (AreSuppressors c.args.graph.now) (sym c.as_slice-all.ensures.value) c.in_ok-suppressors.ensures in
    filter_same _ (λ e. stays (maps_of c.args.graph.now) (event_view e)) _
    (λ x b f' k. search (rules, are)) c.args.events.items c.retain.new.self.items c.retain.ensures.filtered
