use Rattle.std.proofs.Common.{List, ℕ, subst}
use Rattle.sm_model.specs.GraphView.{maps_of}
use Rattle.sm_model.specs.Reaching.{id_of_number}
use Rattle.sm_rules.specs.RuleEvents.{Puts}
use Rattle.sm_trait_rules.specs.steps.Excluding.{ToldGreater}
use Rattle.sm_passes.specs.Putting.{ToldOf}
use Rattle.sm_passes.proofs.EntriesThere.{entry_there}
use Rattle.sm_trait_rules.proofs.ExclusiveTraits.{exclusive_put}
use Rattle.sm_trait_rules.proofs.exclusive.put_groups.Goals as goal

pub returns : goal.returns
returns c =
    let g = c.args.graph.now in
    let id = id_of_number g c.args.number in
    let e = entry_there g c.args.number c.requires.number in
    exclusive_put (maps_of g) id e.0 (e.1, c.requires.own) c.of_methods.result.now c.of_sides.result.now c.of_bindings.result.now
    c.of_methods.ensures c.of_sides.ensures c.of_bindings.ensures c.args.events.now.items c.put_group.new.events.items
    c.put_group-2.new.events.items c.put_group-3.new.events.items
    (subst (λ (ts : List (List ℕ)). Puts (ToldOf (ToldGreater (maps_of g) id ts) c.of_methods.result.now) c.args.events.now.items
    c.put_group.new.events.items) c.of_methods.ensures c.in_ok-put_group.ensures)
    (subst (λ (ts : List (List ℕ)). Puts (ToldOf (ToldGreater (maps_of g) id ts) c.of_sides.result.now) c.put_group.new.events.items
    c.put_group-2.new.events.items) c.of_sides.ensures c.in_ok-put_group-2.ensures)
    (subst (λ (ts : List (List ℕ)). Puts (ToldOf (ToldGreater (maps_of g) id ts) c.of_bindings.result.now) c.put_group-2.new.events.items
    c.put_group-3.new.events.items) c.of_bindings.ensures c.in_ok-put_group-3.ensures)
