use Rattle.std.proofs.Common.{length, refl, arith, length-append, ap, ◌∙◌, ◌≡◌, ◌+◌, [], ◌∷◌}
use Rattle.sm_merge.proofs.WalkSteps.{join_begun, join_ended, join_more}
use Rattle.sm_merge.proofs.walk.Walk.join.Goals as goal

pub loop-part-init : goal.loop-part-init
loop-part-init c = record {
  status = refl;
  row = refl;
  targets = refl;
  order = refl;
  path = omega arith;
  joins = λ links w there h reach. join_begun links c.args.self.now w c.args.place there h;
}

pub loop-part-preserved : goal.loop-part-preserved
loop-part-preserved c =
    let inv = c.loop-part.invariant in
    let longer : length c.loop-part.self.path.items ≡ length c.pop.new.self.items + 1 =
    ap length c.in-Some.ensures.items ∙ length-append c.pop.new.self.items (c.in-Some.part ∷ []) in
    record {
      status = inv.status;
      row = inv.row;
      targets = inv.targets;
      order = inv.order;
      path = omega (arith, longer, inv.path);
      joins = λ links w there h reach.
          join_more links c.args.self.now.status.items c.args.self.now.row.items c.args.self.now.targets.items w c.args.place c.in-Some.part
          c.loop-part.self.path.items c.pop.new.self.items c.in-Some.ensures.items c.if-part-place.false (inv.joins links w there h reach);
    }

pub returns-then-part-place : goal.returns-then-part-place
returns-then-part-place c = λ links w there h reach.
    let inv = c.loop-part.invariant in
    join_ended links c.args.self.now _ w c.args.place c.in-Some.part c.loop-part.self.path.items c.pop.new.self.items
    c.in-Some.ensures.items
    c.if-part-place.true there h reach (inv.joins links w there h reach) inv.status inv.row inv.targets inv.order c.in_ok-push.ensures.items
    inv.path
