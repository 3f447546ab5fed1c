use Rattle.std.proofs.Common.{◌≡◌, [], get_or, rules, subst, sym}
use Rattle.std.proofs.lemmas.List.{get_or_default, take_all}
use Rattle.sm_passes.proofs.EntriesThere.{numbers_behind}
use Rattle.sm_http_rules.specs.steps.Labels.{AreBound}
use Rattle.sm_http_rules.proofs.BoundRows.{bound_next, none_bound}
use Rattle.sm_http_rules.proofs.label_rows.bound_among.Goals as goal

pub loop-member-init : goal.loop-member-init
loop-member-init c =
    let empty : c.new-rows.result.items ≡ [] = search rules in
    record {
      numbers = c.requires.members;
      rows = subst (AreBound c.args.graph.now c.args.input []) (sym empty) (none_bound c.args.graph.now c.args.input);
    }

pub loop-member-preserved : goal.loop-member-preserved
loop-member-preserved c =
    let ms = c.args.members.now in
    let i = c.loop-member.member-index in
    record {
      numbers = numbers_behind c.args.graph.now ms i c.loop-member-test.true c.loop-member.invariant.numbers;
      rows = bound_next c.args.graph.now c.args.input ms i (get_or ms i 0) c.loop-member-test.true
          (get_or_default ms i 0 (get_or ms i 0) c.loop-member-test.true)
          c.loop-member.rows.items c.put_bound_row.new.rows.items c.loop-member.invariant.rows c.in_ok-put_bound_row.ensures;
    }

pub returns : goal.returns
returns c =
    subst (λ ks. AreBound c.args.graph.now c.args.input ks c.loop-member.rows.items)
    (take_all c.loop-member.member-index c.args.members.now c.loop-member-test.false) c.loop-member.invariant.rows
