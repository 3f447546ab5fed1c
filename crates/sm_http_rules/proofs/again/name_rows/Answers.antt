use Rattle.sm_passes.proofs.EntriesThere.{numbers_behind}
use Rattle.sm_http_rules.specs.steps.Naming.{name_row}
use Rattle.sm_http_rules.proofs.Splits.{kept_next}
use Rattle.sm_http_rules.proofs.again.name_rows.Goals as goal

pub loop-member-preserved : goal.loop-member-preserved
loop-member-preserved c =
    record {
      numbers = numbers_behind c.args.graph.now c.args.members.now c.loop-member.member-index c.loop-member-test.true
          c.loop-member.invariant.numbers;
      rows = kept_next (name_row c.args.naming c.args.graph.now c.args.shape)
          c.args.members.now c.loop-member.member-index 0 c.loop-member-test.true c.loop-member.rows.items c.put_name_row.new.rows.items
          c.loop-member.invariant.rows c.in_ok-put_name_row.ensures;
    }
