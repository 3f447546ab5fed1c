use Rattle.std.proofs.Common.{ap, ◌∙◌}
use Rattle.sm_tree.specs.Node.{object, members_of}
use Rattle.sm_tree.specs.View.{members_view}
use Rattle.sm_tree.proofs.Views.{node_object_pairs}
use Rattle.sm_schema.specs.steps.Plain.{is_plain}
use Rattle.sm_schema.proofs.PairsBehind.{pairs_behind, plain_behind}
use Rattle.sm_schema.proofs.annotations.behind.Goals as goal

pub returns : goal.returns
returns c =
    node_object_pairs c.new.result ∙ ap (λ ms. object (members_of ms)) c.new.ensures
    ∙ ap (λ ps. object (members_of (members_view ps))) c.in_ok-append.ensures.items
    ∙ ap object (pairs_behind c.args.before.pairs.items c.args.pairs.items)

pub invariant_of-result : goal.invariant_of-result
invariant_of-result c = record {
  plain = ap is_plain (node_object_pairs c.new.result ∙ ap (λ ms. object (members_of ms)) c.new.ensures
      ∙ ap (λ ps. object (members_of (members_view ps))) c.in_ok-append.ensures.items)
      ∙ plain_behind c.args.before.pairs.items c.args.pairs.items c.args.before.plain c.requires;
}
