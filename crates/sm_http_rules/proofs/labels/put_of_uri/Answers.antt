use Rattle.std.proofs.Common.{refl, ◌∙◌}
use Rattle.sm_model.specs.Reaching.{id_of_number}
use Rattle.sm_http_rules.proofs.LabelsTold.{labels_put, row_numbers}
use Rattle.sm_http_rules.proofs.labels.put_of_uri.Goals as goal

pub put_by_rows-requires-clause-members : goal.put_by_rows-requires-clause-members
put_by_rows-requires-clause-members c r h = row_numbers c.args.graph.now c.args.link.now.to c.args.bound.now c.requires.bound r h

pub returns : goal.returns
returns c =
    let g = c.args.graph.now in
    let l = c.args.link.now in
    labels_put g l.to c.args.bound.now c.requires.bound c.args.segments.now (id_of_number g l.from) c.as_slice.result.now
    c.as_slice-2.result.now c.args.bound.now (c.as_slice.ensures.value ∙ c.in_ok-labels.ensures)
    (c.as_slice-2.ensures.value ∙ c.in_ok-greedy.ensures) refl c.args.events.now.items c.put_by_rows.new.events.items
    c.in_ok-put_by_rows.ensures
