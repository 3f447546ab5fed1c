use Rattle.std.proofs.Common.{◌≡◌, ◌++◌, drop, string_bytes}
use Rattle.sm_uri.specs.UriPattern.{more_text}
use Rattle.sm_uri.proofs.route.put_more.Given as goal

abbrev pub invariant-loop-literal : goal.invariant-loop-literal
invariant-loop-literal l =
    string_bytes l.out ++ more_text (drop l.literal-index l.literals) ≡ string_bytes l.fn.out ++ more_text l.literals
