use Rattle.std.proofs.Common.{Some, None, cond, ap, sym, ◌∙◌}
use Rattle.sm_tree.specs.View.{node_of}
use Rattle.sm_http_rules.proofs.ReadTraits.{reads_same}
use Rattle.sm_http_rules.proofs.naming.where_reads.Goals as goal

pub returns-then-some_row : goal.returns-then-some_row
returns-then-some_row c =
    let n = node_of c.args.tree.now in
    sym (ap (λ b. cond b (Some n) None) (sym (reads_same c.args.name.now n) ∙ sym c.some_row.ensures ∙ c.if-some_row.true))

pub returns-else-some_row : goal.returns-else-some_row
returns-else-some_row c =
    let n = node_of c.args.tree.now in
    sym (ap (λ b. cond b (Some n) None) (sym (reads_same c.args.name.now n) ∙ sym c.some_row.ensures ∙ c.if-some_row.false))
