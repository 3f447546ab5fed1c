use Rattle.std.proofs.Common.{◌≡◌}
use Rattle.sm_tree.specs.Node.{text}
use Rattle.sm_tree.specs.View.{node_of}
use Rattle.sm_model.proofs.Linking.{joins_none}
use Rattle.sm_trait_rules.specs.steps.Conflicting.{HasText}
use Rattle.sm_trait_rules.proofs.TextsHeld.{entry_put}
use Rattle.sm_trait_rules.proofs.text_set.TextSet.put_entry.Goals as goal

pub returns-in_ok-put-in-Some : goal.returns-in_ok-put-in-Some
returns-in_ok-put-in-Some c =
    entry_put (HasText c.args.self.now.texts) (HasText c.put.new.self.texts) c.in-Some.name.now (node_of c.args.entry.now) c.in-Some.ensures.node
    c.in_ok-put-in-Some.ensures

pub returns-in-None : goal.returns-in-None
returns-in-None c = joins_none (HasText c.args.self.now.texts) (λ t. node_of c.args.entry.now ≡ text t) c.in-None.ensures.node
