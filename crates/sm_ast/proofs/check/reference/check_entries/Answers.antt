use Rattle.std.proofs.Common.{arith}
use Rattle.sm_tree.specs.View.{node_of}
use Rattle.sm_ast.specs.Faults.{reference_fault}
use Rattle.sm_ast.proofs.Telling.{entry_told}
use Rattle.sm_ast.proofs.check.reference.check_entries.Goals as goal

pub returns-in-Err : goal.returns-in-Err
returns-in-Err c =
    entry_told reference_fault c.args.entries.now c.loop-entry.entry-index c.entry-item.result
    (omega arith) c.entry-item.is c.loop-entry.at _
    c.loop-entry.invariant.fault _ (c.under_index.ensures (reference_fault (node_of c.entry-item.result)) c.in-Err.ensures)
