use Rattle.std.proofs.Common.{◌≡◌, drop}
use Rattle.sm_model.specs.RawView.{raw_members_view}
use Rattle.sm_merge.specs.steps.Meant.{raw_named}
use Rattle.sm_merge.proofs.body.raw_under.Given as goal

abbrev pub invariant-loop-pair : goal.invariant-loop-pair
invariant-loop-pair l = raw_named l.name (raw_members_view (drop l.pair-index l.pairs)) ≡ raw_named l.name (raw_members_view l.pairs)
