use Rattle.std.proofs.Common.{◌≡◌, length, rules}
use Rattle.sm_idl.proofs.ArrangedMembers.{item_there, item_not_there}
use Rattle.sm_idl.proofs.members.arranged.Goals as goal

pub returns-then-len-eq1 : goal.returns-then-len-eq1
returns-then-len-eq1 c = λ named.
    let one : length c.args.members.items ≡ 1 = search rules in
    item_there c.args.members c.args.kind c.in-Item.is one named

pub returns-else-len-eq1 : goal.returns-else-len-eq1
returns-else-len-eq1 c = λ named.
    item_not_there c.args.members c.args.kind c.in-Item.is (search rules) named
