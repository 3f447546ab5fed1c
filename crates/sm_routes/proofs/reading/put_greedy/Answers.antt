use Rattle.std.proofs.Common.{◌≤◌, ◌++◌, ◌∷◌, [], length, sym, ap, ◌∙◌, append_assoc, arith}
use Rattle.std.specs.List.{slice_split}
use Rattle.percent_encoding.specs.Percent.{percent_decode}
use Rattle.sm_parts.specs.Targets.{is_slash}
use Rattle.sm_routes.specs.Routes.{labels_of}
use Rattle.sm_routes.proofs.LabelsRead.{greedy_none}
use Rattle.sm_routes.proofs.reading.put_greedy.Goals as goal

pub returns-then-behind-count : goal.returns-then-behind-count
returns-then-behind-count c = λ more h.
    let pieces = slice_split is_slash c.args.rest.now in
    let few : length pieces ≤ length more = omega (arith, h, c.if-behind-count.true, c.piece_count-count.ensures) in
    ap (λ l. l ++ labels_of more pieces) c.in_ok-push_label.ensures
    ∙ append_assoc c.args.labels.now.items ((c.args.name.now, percent_decode []) ∷ []) (labels_of more pieces)
    ∙ ap (λ l. c.args.labels.now.items ++ l) (sym (greedy_none c.args.name.now more c.args.rest.now few))
