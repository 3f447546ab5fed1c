use Rattle.std.proofs.Common.{List, Bool, false, get_or, sym, ap, ◌∙◌}
use Rattle.sm_http_rules.proofs.WireNamesTold.{no_queries, queries_put}
use Rattle.sm_http_rules.proofs.wire_names.put_queries.Goals as goal

pub returns-in_ok-put_again : goal.returns-in_ok-put_again
returns-in_ok-put_again c =
    queries_put c.args.graph.now c.args.sides.now c.requires.sides c.args.shape
    (ap (λ (ms : List Bool). get_or ms c.args.shape false) (sym c.as_slice.ensures.value) ∙ sym c.mark_at.ensures ∙ c.if-mark_at.true)
    c.args.events.now.items c.put_again.new.events.items c.in_ok-put_again.ensures

pub returns-else-mark_at : goal.returns-else-mark_at
returns-else-mark_at c =
    no_queries c.args.graph.now c.args.sides.now c.requires.sides c.args.shape c.requires.shape
    (ap (λ (ms : List Bool). get_or ms c.args.shape false) (sym c.as_slice.ensures.value) ∙ sym c.mark_at.ensures ∙ c.if-mark_at.false)
    c.args.events.now.items
