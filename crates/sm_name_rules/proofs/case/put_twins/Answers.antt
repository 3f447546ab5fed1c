use Rattle.std.proofs.Common.{◌≡◌, sym, ap, ◌∙◌}
use Rattle.std.specs.FinMap.Entries.{find}
use Rattle.sm_model.specs.Graphs.{text_cmp}
use Rattle.sm_passes.specs.Firsts.{number_in}
use Rattle.sm_name_rules.proofs.CaseTwins.{firsts_within, rows_within, twins_put}
use Rattle.sm_name_rules.proofs.case.put_twins.Goals as goal

pub put_each_twin-requires-clause-numbers : goal.put_each_twin-requires-clause-numbers
put_each_twin-requires-clause-numbers c =
    rows_within c.args.graph.now c.as_slice-2.result.now (c.as_slice-2.ensures.value ∙ c.in_ok-rows.ensures)

pub put_each_twin-requires-clause-firsts : goal.put_each_twin-requires-clause-firsts
put_each_twin-requires-clause-firsts c =
    firsts_within c.args.graph.now (number_in c.in_ok-firsts.firsts) c.as_slice.result.now (c.as_slice.ensures.value ∙ c.in_ok-rows.ensures)
    c.in_ok-firsts.ensures

pub returns : goal.returns
returns c =
    let same : c.as_slice.result.now ≡ c.as_slice-2.result.now = c.as_slice.ensures.value ∙ sym c.as_slice-2.ensures.value in
    twins_put c.args.graph.now (number_in c.in_ok-firsts.firsts) c.as_slice-2.result.now c.args.events.now.items
    c.put_each_twin.new.events.items (c.as_slice-2.ensures.value ∙ c.in_ok-rows.ensures)
    (λ key. c.in_ok-firsts.ensures key ∙ ap (find text_cmp key) same) c.in_ok-put_each_twin.ensures
