use Rattle.std.proofs.Common.{◌≡◌, ◌<◌, ℕ, Option, Some, subst, sym, ◌∙◌}
use Rattle.std.proofs.lemmas.Result.{on_ok_weaker}
use Rattle.sm_model.specs.Joins.{Joins}
use Rattle.sm_compile.proofs.LookedUp.{stands_is}
use Rattle.sm_trait_rules.specs.steps.Placing.{HasUse}
use Rattle.sm_trait_rules.proofs.UsesPut.{given_small, no_name, put_name}
use Rattle.sm_trait_rules.proofs.uses.put_named.Goals as goal

pub given-requires : goal.given-requires
given-requires c =
    let of = c.in-Some.of in
    subst (λ n. of < n) (sym c.requires.firsts.whole) (stands_is c.args.graph.now 0 of c.args.name.now c.in-Some.ensures).0

pub put_under-requires : goal.put_under-requires
put_under-requires c k is =
    let g = c.args.graph.now in
    let of = c.in-Some.of in
    let small = (stands_is g 0 of c.args.name.now c.in-Some.ensures).0 in
    subst (λ n. k < n) (sym c.requires.rows)
    (given_small g c.args.firsts.now c.requires.firsts of k small (sym c.given.ensures ∙ is))

pub returns-in-Some-clause-uses : goal.returns-in-Some-clause-uses
returns-in-Some-clause-uses c =
    let old = c.args.rows.now.items in
    let now = c.put_under.new.rows.items in
    let of = c.in-Some.of in
    on_ok_weaker c.put_under.result
    (λ h. put_name c.args.graph.now c.args.firsts.now old now c.args.number of c.args.name.now c.in-Some.ensures
    (subst (λ (o : Option ℕ). Joins (HasUse old) (λ p. (o ≡ Some p.0) × (p.1 ≡ (c.args.number, of))) (HasUse now)) c.given.ensures h))
    c.put_under.ensures.uses

pub returns-in-None-clause-uses : goal.returns-in-None-clause-uses
returns-in-None-clause-uses c =
    no_name c.args.graph.now c.args.firsts.now c.args.rows.now.items c.args.number c.args.name.now c.in-None.ensures
