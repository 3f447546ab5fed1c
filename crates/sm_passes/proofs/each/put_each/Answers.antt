use Rattle.std.proofs.Common.{◌≡◌, length, subst, arith}
use Rattle.sm_model.specs.GraphView.{entries_of, maps_of}
use Rattle.sm_model.specs.Reaching.{id_of_number}
use Rattle.sm_rules.specs.RuleEvents.{Puts}
use Rattle.sm_passes.specs.Putting.{Below}
use Rattle.sm_passes.proofs.EventsPut.{puts_next}
use Rattle.sm_passes.proofs.each.put_each.Goals as goal

pub loop-number-preserved : goal.loop-number-preserved
loop-number-preserved g c = record {
  within = omega (arith, c.loop-number-test.true, c.count-number-end.ensures);
  puts = puts_next (λ k. g.A.AtEach.tells c.args.rule.now (maps_of c.args.graph.now) (id_of_number c.args.graph.now k))
      c.loop-number.number c.args.events.now.items c.loop-number.events.items c.put_at.new.events.items c.loop-number.invariant.puts
      c.in_ok-put_at.ensures;
}

pub returns : goal.returns
returns g c =
    let all : c.loop-number.number ≡ length (entries_of c.args.graph.now) =
    omega (arith, c.loop-number-test.false, c.count-number-end.ensures, c.loop-number.invariant.within) in
    subst (λ n. Puts (Below (λ k. g.A.AtEach.tells c.args.rule.now (maps_of c.args.graph.now) (id_of_number c.args.graph.now k)) n)
    c.args.events.now.items c.loop-number.events.items) all c.loop-number.invariant.puts
