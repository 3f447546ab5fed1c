use Rattle.std.proofs.Common.{◌≡◌, ◌++◌, ◌∷◌, [], ap, sym, ◌∙◌}
use Rattle.sm_tree.specs.View.{node_of}
use Rattle.sm_tree.specs.Node.{tag}
use Rattle.sm_tree.specs.Building.{tagged}
use Rattle.sm_tree.proofs.Building.{tagged_more}
use Rattle.sm_tree.proofs.Views.{node_tag}
use Rattle.sm_tree.proofs.build.in_tags.Goals as goal

pub loop-number-preserved : goal.loop-number-preserved
loop-number-preserved c =
    let number = c.in-Some.number in
    let rest = c.pop.new.self.items in
    let content : node_of c.in_ok-new.field-0.value ≡ node_of c.loop-number.tree = ap node_of c.in_ok-new.ensures.ok in
    let popped : c.loop-number.tags.items ≡ rest ++ number ∷ [] = c.in-Some.ensures.items in
    ap (tagged rest) (node_tag number c.in_ok-new.field-0 ∙ ap (tag number) content)
    ∙ sym (tagged_more rest number (node_of c.loop-number.tree))
    ∙ ap (λ ts. tagged ts (node_of c.loop-number.tree)) (sym popped)
    ∙ c.loop-number.invariant
