use Rattle.std.proofs.Common.{Some, sym, ap, subst, ◌∙◌}
use Rattle.std.proofs.lemmas.Option.{none-some, same_Some}
use Rattle.sm_service.specs.steps.OperationRows.{IsIdOf}
use Rattle.sm_service.proofs.operations.referred.Goals as goal

pub row_number-requires : goal.row_number-requires
row_number-requires c =
    let t = c.requires.there in
    let same = same_Some t.2.0 c.in-Some.id.now (sym t.2.1 ∙ sym (c.in-Some.ensures t.0 t.1)) in
    subst (IsIdOf c.args.graph.now) same t.2.2

pub unreachable-requires : goal.unreachable-requires
unreachable-requires c = let t = c.requires.there in none-some t.2.0 (c.in-None.ensures t.0 t.1 ∙ t.2.1)

pub returns-clause-said : goal.returns-clause-said
returns-clause-said c = λ s has. sym (c.in-Some.ensures s has) ∙ ap Some (sym c.row_number.ensures.id)
