use Rattle.std.proofs.Common.{◌≡◌, subst}
use Rattle.std.specs.Prelude.{IfOk}
use Rattle.sm_ids.specs.View.{id_of}
use Rattle.sm_ids.proofs.MadeIds.{member_spelled}
use Rattle.sm_ids.proofs.owned.ShapeId.with_member.Goals as goal

pub returns : goal.returns
returns c =
    subst (λ t. IfOk c.new.result (λ id. id ≡ t))
    (member_spelled c.args.self.now c.requires.shape (id_of c.as_ref-shape.result) c.as_ref-shape.ensures c.args.name.now) c.new.ensures
