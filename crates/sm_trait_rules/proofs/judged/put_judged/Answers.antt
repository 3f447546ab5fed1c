use Rattle.std.proofs.Common.{◌≡◌}
use Rattle.std.specs.FinMap as fin
use Rattle.sm_tree.specs.View.{members_view}
use Rattle.sm_model.specs.GraphView.{maps_of}
use Rattle.sm_model.specs.Graphs.{traits_in}
use Rattle.sm_model.specs.Reaching.{id_of_number}
use Rattle.sm_model.proofs.NumberedIds.{entry_here}
use Rattle.sm_trait_rules.proofs.JudgedTraits.{traits_put}
use Rattle.sm_trait_rules.proofs.judged.put_judged.Goals as goal

pub returns : goal.returns
returns g c =
    let x = entry_here c.args.graph.now c.args.number (λ id e. fin.entries (traits_in e) ≡ members_view c.traits.result.now)
    c.traits.ensures in
    traits_put (g.J.Judge.rule c.args.judge.now) (g.J.Judge.wrong c.args.judge.now) (maps_of c.args.graph.now)
    (id_of_number c.args.graph.now c.args.number) c.args.at x.0 x.1 c.traits.result.now x.2 c.args.events.now.items
    c.put_traits.new.events.items c.in_ok-put_traits.ensures
