use Rattle.std.proofs.Common.{◌==◌, ap, ◌∙◌}
use Rattle.sm_select.proofs.StackPlaces.{not_empty, only_test}
use Rattle.sm_select.proofs.parser_stack.Open.is_whole.Goals as goal

pub returns-then-not-is_empty : goal.returns-then-not-is_empty
returns-then-not-is_empty c =
    only_test c.args.self.now.steps.items c.args.self.now.forms.items
    (not_empty c.args.self.now.steps.items c.is_empty.result (c.is_empty.ensures ∙ ap (λ n. n == 0) c.args.self.now.steps.ok.0)
    c.if-not-is_empty.true) c.is_empty-then-not-is_empty.result
    (c.is_empty-then-not-is_empty.ensures ∙ ap (λ n. n == 0) c.args.self.now.forms.ok.0)
