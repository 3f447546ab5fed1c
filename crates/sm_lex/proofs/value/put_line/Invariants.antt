use Rattle.std.proofs.Common.{◌≡◌, ◌≤◌, ◌++◌, List, ℕ, length, drop}
use Rattle.std.specs.Prelude.{IsUtf8, string_bytes}
use Rattle.sm_lex.proofs.LineParts.{Gave}
use Rattle.sm_lex.proofs.value.put_line.Given as goal

abbrev pub decreases-loop-rest : goal.decreases-loop-rest
decreases-loop-rest l = length l.rest

abbrev pub invariant-loop-rest : goal.invariant-loop-rest
invariant-loop-rest l = record {
  utf8 : IsUtf8 l.rest;
  gave : (at : ℕ) × (t : List ℕ) × (at ≤ length l.line.text.now) × (l.rest ≡ drop at l.line.text.now)
      × (string_bytes l.out ≡ string_bytes l.initial.out ++ t) × Gave l.line.at l.line.text.now at t;
}
