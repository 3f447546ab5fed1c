use Rattle.std.specs.Prelude.{is_ok}
use Rattle.sm_schema.proofs.PlainTrees.{entries_pushed}
use Rattle.sm_schema.proofs.nodes.put_entry.Goals as goal

pub invariant_of-entries : goal.invariant_of-entries
invariant_of-entries c = record {
  plain = entries_pushed c.args.entries.now.entries.items c.push.new.self.items c.args.tree.tree (is_ok c.push.result) c.push.ensures.items
      c.args.entries.now.plain c.args.tree.plain;
}
