use Rattle.std.proofs.Common.{Err, subst}
use Rattle.sm_load.specs.Loading.{LoadsTo}
use Rattle.sm_asked.specs.IdlLines.{text_line}
use Rattle.sm_asked.specs.Lines.{event_lines, size_limit_line}
use Rattle.sm_asked.specs.steps.LoadSteps.{NamesFirst}
use Rattle.sm_asked.proofs.Loads.{rejected_stops, size_stops, text_stops}
use Rattle.sm_asked.proofs.loading.not_loaded.Goals as goal

pub returns-in-Text : goal.returns-in-Text
returns-in-Text c = λ read named loads.
    text_stops c.args.shown read c.in-Text.field-0 c.in-Text.place c.args.name.now c.refused.result
    (subst (λ r. NamesFirst read r c.args.name.now) c.in-Text.is named) (subst (λ r. LoadsTo read (Err r)) c.in-Text.is loads)
    (c.refused.ensures (text_line c.args.name.now c.in-Text.place) c.text_line.ensures)

pub returns-in-Limit : goal.returns-in-Limit
returns-in-Limit c = λ read named loads.
    size_stops c.args.shown read c.in-Limit.kind c.past.result (subst (λ r. LoadsTo read (Err r)) c.in-Limit.is loads)
    (c.past.ensures (size_limit_line c.in-Limit.kind) c.size_limit_line.ensures)

pub returns-in-Rejected : goal.returns-in-Rejected
returns-in-Rejected c = λ read named loads.
    rejected_stops c.args.shown read c.in-Rejected.events c.refused-in-Rejected.result
    (subst (λ r. LoadsTo read (Err r)) c.in-Rejected.is loads)
    (c.refused-in-Rejected.ensures (event_lines c.args.shown c.in-Rejected.events) (rw c.as_slice.ensures at c.event_lines.ensures))
