use Rattle.std.proofs.Common.{◌≤◌, ◌+◌, length, sym, arith}
use Rattle.std.proofs.lemmas.List.{drop_all}
use Rattle.sm_http_rules.proofs.naming.text_behind.Goals as goal

pub returns-else-at-text : goal.returns-else-at-text
returns-else-at-text c =
    let past : length c.args.text.now ≤ c.args.at + 1 = omega (arith, c.if-at-text.false) in
    sym (drop_all (c.args.at + 1) c.args.text.now past)
