use Rattle.std.proofs.Common.{take}
use Rattle.sm_name_rules.specs.steps.Renaming.{HasAlike}
use Rattle.sm_name_rules.proofs.given_names.numbers_alike.Given as goal

abbrev pub invariant-loop-pair : goal.invariant-loop-pair
invariant-loop-pair l = HasAlike l.graph l.names.inside.now (take l.pair-index l.pairs) l.numbers.items
