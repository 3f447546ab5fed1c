use Rattle.sm_model.specs.GraphView.{maps_of}
use Rattle.sm_model.specs.Reaching.{id_of_number}
use Rattle.sm_passes.proofs.EntriesThere.{numbers_behind}
use Rattle.sm_http_rules.specs.steps.WireNames.{prefix_of}
use Rattle.sm_http_rules.proofs.Splits.{kept_next}
use Rattle.sm_http_rules.proofs.prefixes.prefixes_among.Goals as goal

pub loop-member-preserved : goal.loop-member-preserved
loop-member-preserved c =
    record {
      numbers = numbers_behind c.args.graph.now c.args.members.now c.loop-member.member-index c.loop-member-test.true
          c.loop-member.invariant.numbers;
      prefixes = kept_next (λ k. prefix_of (maps_of c.args.graph.now) (id_of_number c.args.graph.now k))
          c.args.members.now c.loop-member.member-index 0 c.loop-member-test.true c.loop-member.prefixes.items
          c.add_prefix.new.prefixes.items c.loop-member.invariant.prefixes c.in_ok-add_prefix.ensures;
    }
