use Rattle.std.proofs.Common.{codes, ap, sym, ◌∙◌}
use Rattle.sm_tree.specs.Node.{member}
use Rattle.sm_tree.specs.View.{members_view}
use Rattle.sm_schema.specs.Noted.{with_deprecated}
use Rattle.sm_schema.specs.steps.Joined.{joined}
use Rattle.sm_schema.proofs.OkParts.{on_ok}
use Rattle.sm_schema.proofs.annotations.put_deprecated.Goals as goal

pub returns-then-deprecated : goal.returns-then-deprecated
returns-then-deprecated c =
    on_ok c.put.result (λ says more. says more
    ∙ ap (λ n. joined (members_view c.args.pairs.now.pairs.items) (member (codes "deprecated") n more)) c.bool_tree.ensures
    ∙ ap (λ b. joined (members_view c.args.pairs.now.pairs.items) (with_deprecated b more)) (sym c.if-deprecated.true)) c.put.ensures
