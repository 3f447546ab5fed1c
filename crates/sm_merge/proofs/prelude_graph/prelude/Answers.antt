use Rattle.std.proofs.Common.{◌≡◌, [], subst, sym, rules}
use Rattle.sm_tree.specs.View.{members_view}
use Rattle.sm_model.specs.Given.{AreGiven}
use Rattle.sm_model.specs.GivenView.{given_view}
use Rattle.sm_merge.proofs.PreludeGiven.{prelude_given}
use Rattle.sm_merge.proofs.prelude_graph.prelude.Goals as goal

pub build-requires : goal.build-requires
build-requires c =
    let none : members_view c.new.result.items ≡ [] = search rules in
    subst (λ ms. AreGiven (given_view c.in_ok-shapes.shapes.items) ms) (sym none)
    (subst (λ ss. AreGiven ss []) (sym c.in_ok-shapes.ensures) prelude_given)
