use Rattle.std.proofs.Common.{take}
use Rattle.sm_name_rules.specs.steps.NameTwins.{AreCounted, earlier_in, number_under}
use Rattle.sm_name_rules.proofs.name_twins.names_inside.Given as goal

abbrev pub invariant-loop-number : goal.invariant-loop-number
invariant-loop-number l =
    AreCounted l.closure.marks.items (earlier_in l.earlier) (take l.number-index l.closure.found.items) (number_under l.ones) l.twins.items
