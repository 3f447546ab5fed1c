use Rattle.std.proofs.Common.{get_or, sym}
use Rattle.std.specs.Prelude.{Err}
use Rattle.std.specs.declared.cmp.Ordering.TheVariants.{Equal}
use Rattle.std.proofs.lemmas.Cmp.{ranked}
use Rattle.std.proofs.lemmas.List.Sorted.{searched}
use Rattle.sm_codec.proofs.SeenMembers.{not_seen, seen_at}
use Rattle.sm_codec.proofs.listed.is_among.Goals as goal

pub returns-in-Ok : goal.returns-in-Ok
returns-in-Ok c =
    let xs = c.args.members.now in
    let i = c.in-Ok.field-0 in
    sym (seen_at c.args.member xs i c.in-Ok.ensures.bound (ranked (get_or xs i 0) c.args.member Equal (sym (c.in-Ok.ensures.position 0))))

pub returns-in-Err : goal.returns-in-Err
returns-in-Err c =
    let xs = c.args.members.now in
    let i = c.in-Err.field-0 in
    let at = searched xs c.args.member (Err i) c.in-Err.ensures.position (λ m n le lt. c.requires.rise m n 0 le lt) in
    sym (not_seen c.args.member xs i at.1 at.2)
