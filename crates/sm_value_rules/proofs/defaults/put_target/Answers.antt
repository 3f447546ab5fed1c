use Rattle.sm_tree.specs.View.{node_of}
use Rattle.sm_value_rules.proofs.DefaultsTold.{target_added}
use Rattle.sm_value_rules.proofs.defaults.put_target.Goals as goal

pub returns-in_ok-push-in-Some : goal.returns-in_ok-push-in-Some
returns-in_ok-push-in-Some c =
    let d = c.in-Some.default in
    target_added c.args.graph.now c.args.number c.args.roots.now.items d.target (node_of d.tree.now) c.in-Some.ensures.0
    c.in-Some.ensures.1 c.push.new.self.items c.in_ok-push-in-Some.ensures.items
