use Rattle.std.proofs.Common.{subst}
use Rattle.std.proofs.lemmas.List.{take_all}
use Rattle.sm_model.specs.GraphView.{maps_of}
use Rattle.sm_model.specs.Reaching.{id_of_number}
use Rattle.sm_compile.specs.steps.Naming.{texts_of_all}
use Rattle.sm_rules.specs.RuleEvents.{Puts}
use Rattle.sm_trait_rules.specs.steps.Excluding.{ToldGreater}
use Rattle.sm_passes.specs.Putting.{ToldOf}
use Rattle.sm_passes.proofs.ListPut.{none_of, put_place}
use Rattle.sm_trait_rules.proofs.exclusive.put_group.Goals as goal

pub loop-name-init : goal.loop-name-init
loop-name-init c =
    none_of (ToldGreater (maps_of c.args.graph.now) (id_of_number c.args.graph.now c.args.number) (texts_of_all c.args.group.now))
    c.args.events.now.items

pub loop-name-preserved : goal.loop-name-preserved
loop-name-preserved c =
    put_place (ToldGreater (maps_of c.args.graph.now) (id_of_number c.args.graph.now c.args.number) (texts_of_all c.args.group.now))
    c.args.group.now c.loop-name.name-index _ c.loop-name-test.true c.args.events.now.items c.loop-name.events.items
    c.put_if_greater.new.events.items c.loop-name.invariant c.in_ok-put_if_greater.ensures

pub returns : goal.returns
returns c =
    subst (λ ts. Puts (ToldOf (ToldGreater (maps_of c.args.graph.now) (id_of_number c.args.graph.now c.args.number)
    (texts_of_all c.args.group.now)) ts) c.args.events.now.items c.loop-name.events.items)
    (take_all c.loop-name.name-index c.args.group.now c.loop-name-test.false) c.loop-name.invariant
