use Rattle.std.proofs.Common.{length, subst, ap, ◌∙◌, Err}
use Rattle.sm_http.specs.steps.Finding.{FindsHead, HeadExceeds}
use Rattle.sm_http.proofs.HeadRoom.{never_exceeds}
use Rattle.sm_http.proofs.see.any_head.Goals as goal

pub unreachable-requires : goal.unreachable-requires
unreachable-requires c =
    let many = subst (λ r. FindsHead c.args.side (length c.as_mut_slice.result.now) c.args.bytes.now r)
    (c.in-Err-TooMany.is ∙ ap Err c.in-Err-TooMany.field-0-is) c.head_in.ensures in
    let room = ap length c.as_mut_slice.ensures.value ∙ c.in-Ok.ensures in
    never_exceeds c.args.side c.args.bytes.now c.requires (subst (λ n. HeadExceeds c.args.side n c.args.bytes.now) room many)
