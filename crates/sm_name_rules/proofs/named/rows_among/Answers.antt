use Rattle.std.proofs.Common.{◌+◌, [], get_or, take, subst, sym}
use Rattle.std.specs.List.{Contains}
use Rattle.std.proofs.lemmas.List.{take_all}
use Rattle.std.proofs.lemmas.List.Elements.{Contains-get_or}
use Rattle.sm_model.proofs.OneRising.{contains_none}
use Rattle.sm_model.proofs.Worklist.{numbers_more}
use Rattle.sm_name_rules.specs.steps.Naming.{AreRowsAmong, IsKeyBy, is_named, tree_in}
use Rattle.sm_name_rules.proofs.RowsBelow.{no_rows, rows_next, taken_above}
use Rattle.sm_name_rules.proofs.named.rows_among.Goals as goal

pub loop-number-init : goal.loop-number-init
loop-number-init c =
    subst (AreRowsAmong (λ k. Contains [] k) (is_named c.args.graph.now c.args.inside.now)
    (IsKeyBy (tree_in c.args.given.now) c.args.graph.now))
    (sym c.new-rows.ensures.items)
    (no_rows (λ k. Contains [] k) (is_named c.args.graph.now c.args.inside.now) (IsKeyBy (tree_in c.args.given.now) c.args.graph.now)
    (λ k none. contains_none k none))

pub put_named-requires-clause-number : goal.put_named-requires-clause-number
put_named-requires-clause-number c =
    let ns = c.args.numbers.now in
    c.requires.numbers (get_or ns c.loop-number.number-index 0) (Contains-get_or ns c.loop-number.number-index 0 c.loop-number-test.true)

pub loop-number-preserved : goal.loop-number-preserved
loop-number-preserved c =
    let ns = c.args.numbers.now in
    let i = c.loop-number.number-index in
    rows_next (λ k. Contains (take i ns) k) (is_named c.args.graph.now c.args.inside.now)
    (IsKeyBy (tree_in c.args.given.now) c.args.graph.now) (λ k. Contains (take (i + 1) ns) k) (get_or ns i 0) c.loop-number.rows.items
    c.put_named.new.rows.items (taken_above ns i c.requires.rise c.loop-number-test.true) (numbers_more ns i c.loop-number-test.true)
    c.loop-number.invariant c.in_ok-put_named.ensures

pub returns : goal.returns
returns c =
    subst (λ ns. AreRowsAmong (λ k. Contains ns k) (is_named c.args.graph.now c.args.inside.now)
    (IsKeyBy (tree_in c.args.given.now) c.args.graph.now) c.loop-number.rows.items)
    (take_all c.loop-number.number-index c.args.numbers.now c.loop-number-test.false) c.loop-number.invariant
