use Rattle.std.proofs.Common.{◌≡◌, ◌++◌, length, take}
use Rattle.sm_merge.specs.steps.Walking.{AreMarked}
use Rattle.sm_merge.proofs.walk.put_finished.Given as goal

abbrev pub invariant-loop-number : goal.invariant-loop-number
invariant-loop-number l = record {
  size : length l.status.items ≡ length l.fn.status.items;
  marked : AreMarked (take l.number-index l.numbers) l.ring l.fn.status.items l.status.items;
  order : l.order.items ≡ l.fn.order.items ++ take l.number-index l.numbers;
}
