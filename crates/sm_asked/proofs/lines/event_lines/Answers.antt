use Rattle.std.proofs.Common.{◌+◌, ◌∷◌, ap, drop, sym, ◌∙◌}
use Rattle.std.proofs.lemmas.List.{drop_more}
use Rattle.sm_asked.proofs.Loads.{events_more}
use Rattle.sm_asked.proofs.lines.event_lines.Goals as goal

pub loop-event-preserved : goal.loop-event-preserved
loop-event-preserved c =
    let events = c.args.events.now in
    let i = c.loop-event.event-index in
    record {
      lines = events_more c.args.shown events (drop i events) (drop (i + 1) events) c.event-item.result c.loop-event.lines.items
          c.put_shown.new.lines.items
          (drop_more events i c.event-item.result c.loop-event-test.true ∙ ap (λ e. e ∷ drop (i + 1) events) (sym c.event-item.is))
          c.in_ok-put_shown.ensures c.loop-event.invariant.lines;
    }
