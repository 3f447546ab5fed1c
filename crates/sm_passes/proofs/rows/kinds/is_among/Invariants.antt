use Rattle.std.proofs.Common.{◌≡◌, drop}
use Rattle.sm_rules.specs.TraitRows.{is_among}
use Rattle.sm_passes.proofs.rows.kinds.is_among.Given as goal

abbrev pub invariant-loop-wanted : goal.invariant-loop-wanted
invariant-loop-wanted l = is_among (drop l.wanted-index l.kinds) l.kind ≡ is_among l.kinds l.kind
