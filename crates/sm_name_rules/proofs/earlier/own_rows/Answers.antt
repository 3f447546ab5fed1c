use Rattle.std.proofs.Common.{length, subst, sym}
use Rattle.sm_model.specs.GraphView.{entries_of}
use Rattle.sm_model.specs.Reaching.{AreMarks}
use Rattle.sm_name_rules.specs.steps.Naming.{tree_in}
use Rattle.sm_name_rules.proofs.NamesNumbered.{own_rows}
use Rattle.sm_name_rules.proofs.earlier.own_rows.Goals as goal

pub returns : goal.returns
returns c =
    let g = c.args.graph.now in
    own_rows g c.as_slice.result.now
    (subst (λ ms. AreMarks (length (entries_of g)) (λ k. Unit {0}) ms) (sym c.as_slice.ensures.value)
    (subst (λ n. AreMarks n (λ k. Unit {0}) c.in_ok-all.all.items) c.count.ensures c.in_ok-all.ensures))
    (tree_in c.in_ok-given.given) c.in_ok-given.ensures c.in_ok-rows.rows.items c.in_ok-rows.ensures
