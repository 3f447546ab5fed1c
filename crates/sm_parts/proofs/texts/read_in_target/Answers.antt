use Rattle.std.proofs.Common.{subst}
use Rattle.sm_codec.specs.LeafAnswers.{ReadsLeaf}
use Rattle.sm_codec.proofs.PlainLeaves.{not_utf8}
use Rattle.sm_parts.proofs.TextForms.{target_is, target_is_none}
use Rattle.sm_parts.proofs.texts.read_in_target.Goals as goal

pub returns-in-Ok : goal.returns-in-Ok
returns-in-Ok c =
    subst (λ found. ReadsLeaf found c.read_text.result)
    (target_is c.args.simple c.args.bytes.now c.in-Ok.text.now c.in-Ok.ensures.cases.1 c.in-Ok.ensures.cases.0) c.read_text.ensures

pub returns-in-Err : goal.returns-in-Err
returns-in-Err c = target_is_none c.args.simple c.args.bytes.now (not_utf8 c.args.bytes.now c.in-Err.ensures.cases.0)
