use Rattle.std.proofs.Common.{◌≡◌, ℕ, subst}
use Rattle.std.specs.List.{Contains}
use Rattle.sm_model.specs.GraphView.{IsShapeNumber}
use Rattle.sm_model.specs.Reaching.{id_of_number}
use Rattle.sm_name_rules.proofs.AlikeHeld.{more_twice}
use Rattle.sm_name_rules.proofs.given_names.push_pair.Goals as goal

pub returns-clause-more : goal.returns-clause-more
returns-clause-more c =
    more_twice c.args.graph.now c.args.numbers.now.items c.push_id.new.numbers.items c.push_one.new.numbers.items
    c.in_ok-push_id.ensures.more c.in_ok-push_one.ensures.more

pub returns-clause-pair : goal.returns-clause-pair
returns-clause-pair c =
    let g = c.args.graph.now in (
      λ k small is. c.in_ok-push_one.ensures.more.0 k
          (subst (λ t. (k : ℕ) → IsShapeNumber g k → id_of_number g k ≡ t → Contains c.push_id.new.numbers.items k)
          c.as_str.ensures.bytes c.in_ok-push_id.ensures.named k small is),
      c.in_ok-push_one.ensures.one,
    )
