use Rattle.std.proofs.Common.{codes, ap, ◌∙◌}
use Rattle.sm_tree.specs.Node.{text, object, no_members, member}
use Rattle.sm_schema.proofs.OkParts.{if_ok}
use Rattle.sm_schema.proofs.definitions.reference.Goals as goal

pub returns : goal.returns
returns c =
    if_ok c.one_pair.result (λ tree says json_names. says
    ∙ ap (λ n. object (member (codes "$ref") n no_members)) (c.in_ok-tree.ensures ∙ ap text c.as_str.ensures.value)
    ∙ c.in_ok-words.ensures json_names) c.one_pair.ensures
