use Rattle.std.proofs.Common.{◌<◌, ◌≤◌, length, refl, arith}
use Rattle.sm_merge.specs.declared.walk.Status.TheVariants.{Begun}
use Rattle.sm_merge.specs.steps.Links.{links_view}
use Rattle.sm_merge.proofs.Ats.{at_within}
use Rattle.sm_merge.proofs.WalkSteps.{last_at, part_finished, target_taken}
use Rattle.sm_merge.proofs.walk.Walk.step.Goals as goal

pub finish-requires-clause-within : goal.finish-requires-clause-within
finish-requires-clause-within c = λ k v there.
    at_within c.args.self.now.status.items v (Begun k) (c.requires.walking.grounded.in_row k v there)

pub returns-then-len-part : goal.returns-then-len-part
returns-then-len-part c =
    let last = last_at c.args.self.now.path.items c.deref.result.now c.in-Some.field-0.now c.deref.ensures.value c.in-Some.ensures.value in
    let few : length c.args.self.now.targets.items ≤ c.in-Some.field-0.now.targets =
    omega (arith, c.if-len-part.true, c.len.ensures, c.args.self.now.targets.ok.0) in
    let ended = part_finished (links_view c.args.links.now) c.args.self.now c.finish.new.self c.in-Some.field-0.now c.requires.walking
    last few
    c.in_ok-finish.ensures in
    (ended.walking, ended.met, ended.nearer)

pub follow-requires-clause-taken : goal.follow-requires-clause-taken
follow-requires-clause-taken c =
    let last = last_at c.args.self.now.path.items c.deref.result.now c.in-Some.field-0.now c.deref.ensures.value c.in-Some.ensures.value in
    let some : c.in-Some.field-0.now.targets < length c.args.self.now.targets.items =
    omega (arith, c.if-len-part.false, c.len.ensures, c.args.self.now.targets.ok.0) in
    target_taken (links_view c.args.links.now) c.args.self.now
    (record {
      status = c.args.self.now.status;
      row = c.args.self.now.row;
      targets = c.pop.new.self;
      path = c.args.self.now.path;
      order = c.args.self.now.order;
    }) c.in-Some.field-0.now c.in-Some-pop.target c.requires.walking last c.in-Some-pop.ensures.items some refl refl refl refl
