use Rattle.std.proofs.Common.{◌≡◌, ◌++◌, ◌∷◌, [], ℕ, List, subst, sym, ap, ◌∙◌}
use Rattle.std.specs.Prelude.{slice_set}
use Rattle.std.proofs.lemmas.Result.{on_ok_weaker}
use Rattle.sm_model.specs.Joins.{Joins}
use Rattle.std.proofs.lemmas.List.{get_or_default}
use Rattle.sm_trait_rules.specs.steps.Placing.{HasUse}
use Rattle.sm_trait_rules.proofs.UsesPut.{use_put}
use Rattle.sm_trait_rules.proofs.uses.push_at.Goals as goal

pub returns-clause-uses : goal.returns-clause-uses
returns-clause-uses c =
    let rows = c.args.rows.now.items in
    let u : ℕ × ℕ = (c.args.carrier, c.args.of) in
    let at = c.index_mut.ensures.value ∙ get_or_default rows c.args.first c.index_mut.result.now [] c.requires in
    let first = c.args.first in
    on_ok_weaker c.push.result
    (λ is. subst (λ (row : List (ℕ × ℕ)). Joins (HasUse rows) (λ p. p ≡ (first, u)) (HasUse (slice_set rows first row)))
    (sym (is ∙ ap (λ xs. xs ++ u ∷ []) at)) (use_put rows first u c.requires)) c.push.ensures
