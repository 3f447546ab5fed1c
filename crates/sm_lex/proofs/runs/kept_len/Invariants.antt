use Rattle.std.proofs.Common.{◌≡◌, ◌+◌, ◌≤◌, ◌<◌, length, take, get_or}
use Rattle.std.specs.List.{suffix_len}
use Rattle.sm_lex.specs.Lines.{is_blank}
use Rattle.sm_lex.proofs.runs.kept_len.Given as goal

abbrev pub decreases-loop-len : goal.decreases-loop-len
decreases-loop-len l = l.len

abbrev pub invariant-loop-len : goal.invariant-loop-len
invariant-loop-len l = record {
  within : l.len ≤ length l.bytes;
  edge : l.len < length l.bytes → get_or l.bytes l.len 0 < 128;
  rest : l.len + suffix_len is_blank l.bytes ≡ length l.bytes + suffix_len is_blank (take l.len l.bytes);
}
