use Rattle.std.proofs.Common.{◌∙◌}
use Rattle.sm_tree.specs.View.{node_of}
use Rattle.sm_merge.specs.steps.Known.{has_text}
use Rattle.sm_merge.proofs.LocalNames.{text_held}
use Rattle.sm_merge.proofs.NamesKnown.{one_more}
use Rattle.sm_merge.proofs.effective_local.put_local.Goals as goal

pub returns-in-Ok : goal.returns-in-Ok
returns-in-Ok c = λ id.
    one_more c.args.names.now c.insert.new.self c.in-Some.text.now c.in-Ok.ensures.updates id
    ∙ text_held (has_text c.args.names.now id) id c.in-Some.text.now (node_of c.args.entry.now) c.in-Some.ensures.node
