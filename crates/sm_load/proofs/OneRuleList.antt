-- A graph has one list of events: lists that rise and have the same entries are one.
use Rattle.std.proofs.Common.{List}
use Rattle.sm_model.specs.EventView.{EventTold}
use Rattle.sm_model.specs.Graphs.{GraphMaps}
use Rattle.sm_model.proofs.OneRising.{one_rising}
use Rattle.sm_merge.proofs.OneList.{event_order, sorted}
use Rattle.sm_load.specs.Events.{AreEvents}

pub one_list : (g : GraphMaps) (es fs : List EventTold) → AreEvents g es → AreEvents g fs → Path (List EventTold) es fs
one_list g es fs h k =
    one_rising event_order es fs (sorted es h.in_order) (sorted fs k.in_order) (λ e. (
      λ there. (k.all e).1 ((h.all e).0 there),
      λ there. (h.all e).1 ((k.all e).0 there),
    ))
