use Rattle.std.proofs.Common.{sym}
use Rattle.sm_schema.proofs.TargetsValues.{values_equal}
use Rattle.sm_schema.proofs.listing.same_values.Goals as goal

pub returns-then-known : goal.returns-then-known
returns-then-known c =
    let same = c.requires c.if-known.true in
    sym (values_equal c.args.one.now.texts c.args.other.now.texts c.args.one.now.numbers c.args.other.now.numbers same.0 same.1)
