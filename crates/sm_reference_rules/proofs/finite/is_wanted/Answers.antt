use Rattle.std.proofs.Common.{sym, ◌∙◌}
use Rattle.sm_model.specs.Reaching.{IsMarked, id_of_number}
use Rattle.sm_reference_rules.proofs.FiniteMoves.{wanted_optional, wanted_other, wanted_required}
use Rattle.sm_reference_rules.proofs.finite.is_wanted.Goals as goal

pub returns-then-carries : goal.returns-then-carries
returns-then-carries c =
    wanted_required c.args.graph.now (IsMarked c.args.marks.now) (id_of_number c.args.graph.now c.args.member)
    (sym c.is_member.ensures ∙ c.if-is_member.true) (sym c.carries.ensures ∙ c.if-carries.true) c.is_open.result c.is_open.ensures

pub returns-else-carries : goal.returns-else-carries
returns-else-carries c =
    wanted_optional c.args.graph.now (IsMarked c.args.marks.now) (id_of_number c.args.graph.now c.args.member)
    (sym c.is_member.ensures ∙ c.if-is_member.true) c.carries.result c.carries.ensures c.if-carries.false

pub returns-else-is_member : goal.returns-else-is_member
returns-else-is_member c =
    wanted_other c.args.graph.now (IsMarked c.args.marks.now) (id_of_number c.args.graph.now c.args.member)
    (sym c.is_member.ensures ∙ c.if-is_member.false)
