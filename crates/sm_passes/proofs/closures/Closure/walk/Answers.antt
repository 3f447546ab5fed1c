use Rattle.sm_passes.proofs.ServiceClosures.{steps_below, walked_all}
use Rattle.sm_passes.proofs.closures.Closure.walk.Goals as goal

pub visit-requires-clause-steps : goal.visit-requires-clause-steps
visit-requires-clause-steps c = steps_below c.args.graph.now c.args.ways.now.on c.requires.ways.are_on

pub spread-requires-clause-steps : goal.spread-requires-clause-steps
spread-requires-clause-steps c = steps_below c.args.graph.now c.args.ways.now.on c.requires.ways.are_on

pub returns : goal.returns
returns c =
    let found = c.in_ok-spread.ensures in
    record {
      inside = walked_all c.args.graph.now c.args.ways.now.on c.requires.ways.are_on c.args.service c.requires.number
          c.args.self.now.found.items c.requires.clear.found c.args.self.now.marks.items c.visit.new.marks.items
          c.spread.new.marks.items c.visit.new.found.items c.in_ok-visit.ensures found.count found.marked;
      found = λ k. ((found.are.marked k).1, (found.are.marked k).0);
    }
