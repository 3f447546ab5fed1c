use Rattle.std.proofs.Common.{subst, sym}
use Rattle.sm_rules.specs.RuleEvents.{Puts}
use Rattle.sm_passes.specs.Putting.{ToldOf}
use Rattle.sm_passes.proofs.ListPut.{none_of}
use Rattle.sm_trait_rules.specs.steps.Placing.{AreOfText, ToldOfUse}
use Rattle.sm_trait_rules.proofs.PlacesTold.{none_there, none_told}
use Rattle.sm_trait_rules.proofs.places.put_shared.Goals as goal

pub returns-then-is_empty : goal.returns-then-is_empty
returns-then-is_empty c =
    let Told = ToldOfUse c.args.graph.now in
    subst (λ us. Puts (ToldOf Told us) c.args.events.now.items c.args.events.now.items)
    (sym (none_there c.args.uses.now c.is_empty.result c.is_empty.ensures c.if-is_empty.true)) (none_of Told c.args.events.now.items)

pub put_by_text-requires-clause-uses : goal.put_by_text-requires-clause-uses
put_by_text-requires-clause-uses c = subst (λ said. AreOfText c.args.graph.now said c.args.uses.now) (sym c.in-Some.ensures) c.requires.uses

pub returns-in-None : goal.returns-in-None
returns-in-None c =
    none_told c.args.graph.now c.args.uses.now
    (subst (λ said. AreOfText c.args.graph.now said c.args.uses.now) (sym c.in-None.ensures) c.requires.uses) c.args.events.now.items
