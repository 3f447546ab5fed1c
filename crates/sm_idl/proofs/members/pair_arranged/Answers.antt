use Rattle.std.proofs.Common.{◌≡◌, codes, length, rules, slice_index_or, ◌∙◌}
use Rattle.sm_idl.proofs.PairsAhead.{other_word}
use Rattle.sm_idl.proofs.ArrangedMembers.{pair_not_there, pair_kept}
use Rattle.sm_idl.proofs.members.pair_arranged.Goals as goal

pub returns-then-len-ne2 : goal.returns-then-len-ne2
returns-then-len-ne2 c = λ named.
    pair_not_there c.args.members (search rules) named

pub returns : goal.returns
returns c = λ named.
    let two : length c.args.members.items ≡ 2 = search rules in
    let name : c.as_str.result.now ≡ (slice_index_or c.args.members.items 0 c.index.result.now).name = search rules in
    pair_kept c.args.members c.index.result.now two named (λ e. other_word c.as_str.result.now (codes "value") c.eq.result c.eq.ensures
    c.if-eq.false (name ∙ e))
