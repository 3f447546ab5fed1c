use Rattle.std.specs.Prelude.{is_ok}
use Rattle.sm_schema.proofs.PlainTrees.{pairs_pushed}
use Rattle.sm_schema.proofs.nodes.put.Goals as goal

pub invariant_of-pairs : goal.invariant_of-pairs
invariant_of-pairs c = record {
  plain = pairs_pushed c.args.pairs.now.pairs.items c.push.new.self.items (c.in_ok-name.name, c.args.tree.tree) (is_ok c.push.result)
      c.push.ensures.items c.args.pairs.now.plain c.in_ok-name.ensures.utf8 c.args.tree.plain;
}
