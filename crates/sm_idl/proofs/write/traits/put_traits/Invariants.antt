use Rattle.std.proofs.Common.{◌≡◌, ◌++◌, drop}
use Rattle.sm_tree.specs.View.{members_view}
use Rattle.sm_idl.specs.Written.{trait_lines}
use Rattle.sm_idl.proofs.write.traits.put_traits.Given as goal

abbrev pub invariant-loop-pair : goal.invariant-loop-pair
invariant-loop-pair l = record {
  written : l.out.items ++ trait_lines l.margin (members_view (drop l.pair-index l.traits))
      ≡ l.fn.out.items ++ trait_lines l.margin (members_view l.traits);
}
