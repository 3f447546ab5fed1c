use Rattle.std.proofs.Common.{codes, ap, sym, ◌∙◌}
use Rattle.sm_tree.specs.Node.{no_members, member}
use Rattle.sm_tree.specs.View.{members_view}
use Rattle.sm_schema.specs.Described.{with_unique}
use Rattle.sm_schema.specs.steps.Joined.{joined}
use Rattle.sm_schema.proofs.OkParts.{on_ok}
use Rattle.sm_schema.proofs.aggregates.put_unique.Goals as goal

pub returns-then-unique : goal.returns-then-unique
returns-then-unique c =
    on_ok c.put.result (λ says. says no_members
    ∙ ap (λ n. joined (members_view c.args.pairs.now.pairs.items) (member (codes "uniqueItems") n no_members)) c.bool_tree.ensures
    ∙ ap (λ b. joined (members_view c.args.pairs.now.pairs.items) (with_unique b)) (sym c.if-unique.true)) c.put.ensures
