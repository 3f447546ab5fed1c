use Rattle.std.proofs.Common.{◌≡◌, ◌+◌, ◌-◌, ◌≤◌, ◌^◌, drop}
use Rattle.sm_bytes.specs.Lengths.{length_word}
use Rattle.sm_merge.specs.steps.EffectiveTables.{AreRunning, trait_pairs}
use Rattle.sm_merge.specs.steps.Made.{pairs_size}
use Rattle.sm_merge.proofs.limits.traits_size.Given as goal

abbrev pub invariant-loop-one : goal.invariant-loop-one
invariant-loop-one l = record {
  fits : l.size ≤ 2 ^ 64 - 1;
  running : AreRunning (drop l.one-index l.traits);
  size : length_word (l.size + pairs_size (trait_pairs (drop l.one-index l.traits))) ≡ length_word (pairs_size (trait_pairs l.traits));
}
