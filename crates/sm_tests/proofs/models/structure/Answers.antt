use Rattle.std.proofs.Common.{ap, refl, subst, sym, ◌∙◌, []}
use Rattle.sm_tree.specs.View.{members_view}
use Rattle.sm_model.specs.Given.{AreGiven}
use Rattle.sm_model.specs.GivenView.{given_view}
use Rattle.sm_tests.proofs.Graphs.{given_one}
use Rattle.sm_tests.proofs.models.structure.Goals as goal

pub returns : goal.returns
returns c =
    subst (λ xs. AreGiven (given_view xs) []) (sym c.in_ok-vec.ensures.items)
    (given_one _ c.in_ok-shape_id.ensures refl c.in_ok-members.ensures.0 c.in_ok-members.ensures.1 c.no_properties.ensures
    (c.new-2.ensures ∙ ap members_view c.new.ensures.items))
