use Rattle.std.proofs.Common.{◌≡◌, ◌-◌, ◌≤◌, length}
use Rattle.regex.specs.Patterns.{find_str}
use Rattle.regex_meta.specs.Programs.{pattern_of}
use Rattle.sm_shapes.proofs.compiled.finds_anew.Given as goal

abbrev pub invariant-loop-from : goal.invariant-loop-from
invariant-loop-from l =
    (l.at ≤ length l.text) × (find_str (pattern_of l.fn.program) l.text 0 ≡ find_str (pattern_of l.fn.program) l.text l.at)
    × (l.searcher.program.now ≡ l.fn.program)

abbrev pub decreases-loop-from : goal.decreases-loop-from
decreases-loop-from l =
    length l.text - l.at
