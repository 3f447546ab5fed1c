-- The sink counts the events that the pieces so far complete, and at the end those of the whole text.
use Rattle.std.proofs.Common.{sym, ap, subst, ◌∙◌, ◌≡◌, ◌++◌, ◌-◌, ◌+◌, arith, length, take, drop}
use Rattle.std.proofs.Math.Seq.{take-add}
use Rattle.std.proofs.lemmas.List.{take_all}
use Rattle.sm_tree.specs.Timing.{Follows}
use Rattle.sm_json.specs.Timing.{json_timing}
use Rattle.sm_json.specs.Stands.{JsonStands}
use Rattle.sm_json.proofs.Completed.{none_yet}
use Rattle.speeds.proofs.formats.events.count_once.Goals as goal

pub loop-at-init : goal.loop-at-init
loop-at-init c = record {
  inside = omega arith;
  fresh = c.new-reader.ensures.fresh;
  stands = c.new-reader.ensures.stands;
  follows = λ es done. ap length (none_yet es done);
}

pub feed-requires-clause-stands : goal.feed-requires-clause-stands
feed-requires-clause-stands c fresh =
    (take c.loop-at.at c.args.bytes.now, c.loop-at.invariant.stands, c.loop-at.invariant.follows)

pub flush-requires-clause-stands : goal.flush-requires-clause-stands
flush-requires-clause-stands c fresh =
    (take c.loop-at.at c.args.bytes.now, c.loop-at.invariant.stands, c.loop-at.invariant.follows)

pub returns-in-Ok-end : goal.returns-in-Ok-end
returns-in-Ok-end c =
    let whole : take c.loop-at.at c.args.bytes.now ≡ c.args.bytes.now =
    take_all c.loop-at.at c.args.bytes.now (omega (arith, c.loop-at-test.false)) in
    let stands = subst (JsonStands c.loop-at.reader) whole c.loop-at.invariant.stands in
    let follows = subst (Follows json_timing (λ es. length es ≡ c.loop-at.count.taken)) whole c.loop-at.invariant.follows in
    let (fresh, flushed) = c.in-Ok-flush.ensures.flushes c.loop-at.invariant.fresh in
    let (come, all) = flushed c.args.bytes.now stands in
    let (n, es, read, complete, stream) = c.in-Ok-end.ensures.ends c.args.bytes.now come.1 in (es, complete, (all follows).0 es complete)

pub loop-at-preserved : goal.loop-at-preserved
loop-at-preserved c =
    let (fresh, longer) = c.in-Ok.ensures.feeds c.loop-at.invariant.fresh in
    let (still, on) = longer (take c.loop-at.at c.args.bytes.now) c.loop-at.invariant.stands in
    let step : c.loop-at.at + c.min.result - c.loop-at.at ≡ c.min.result = omega arith in
    let whole : take c.loop-at.at c.args.bytes.now ++ take (c.loop-at.at + c.min.result - c.loop-at.at) (drop c.loop-at.at c.args.bytes.now)
    ≡ take (c.loop-at.at + c.min.result) c.args.bytes.now =
    ap (λ n. take c.loop-at.at c.args.bytes.now ++ take n (drop c.loop-at.at c.args.bytes.now)) step
    ∙ sym (take-add c.loop-at.at c.min.result c.args.bytes.now) in
    record {
      inside = omega (arith, c.min.ensures, c.loop-at-test.true);
      fresh = fresh;
      stands = subst (JsonStands c.feed.new.self) whole still;
      follows = subst (Follows json_timing (λ es. length es ≡ c.feed.new.to.taken)) whole (on c.loop-at.invariant.follows);
    }
