use Rattle.std.proofs.Common.{◌≡◌, ◌++◌, drop}
use Rattle.sm_model_commands.specs.SelectLines.{id_lines}
use Rattle.sm_model_commands.proofs.lines.id_lines.Given as goal

abbrev pub invariant-loop-id : goal.invariant-loop-id
invariant-loop-id l = record {
  lines : l.lines.items ++ id_lines (drop l.id-index l.ids) ≡ id_lines l.ids;
}
