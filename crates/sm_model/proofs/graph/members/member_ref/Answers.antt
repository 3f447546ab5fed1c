use Rattle.std.proofs.Common.{ap, ◌∙◌}
use Rattle.sm_ids.specs.View.{id_of}
use Rattle.sm_model.specs.Graphs.{member_id}
use Rattle.sm_ids.proofs.MadeIds.{member_spelled}
use Rattle.sm_model.proofs.graph.members.member_ref.Goals as goal

pub returns : goal.returns
returns c =
    member_spelled c.args.shape.now c.requires.shape (id_of c.as_ref-shape.result) c.as_ref-shape.ensures c.as_str.result.now
    ∙ ap (member_id c.args.shape.now) c.as_str.ensures.bytes
