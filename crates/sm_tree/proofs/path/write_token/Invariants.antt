use Rattle.std.proofs.Common.{◌≡◌, ◌++◌, string_bytes}
use Rattle.std.specs.Str.Iter.{chars_rest}
use Rattle.sm_tree.specs.Pointer.{reference_token}
use Rattle.sm_tree.proofs.path.write_token.Given as goal

abbrev pub invariant-loop-letter : goal.invariant-loop-letter
invariant-loop-letter l =
    string_bytes l.out ++ reference_token (chars_rest l.letter-iterator) ≡ string_bytes l.fn.out ++ reference_token l.fn.name
