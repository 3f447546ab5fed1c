use Rattle.std.proofs.Common.{◌≡◌, ◌≤◌, length, drop}
use Rattle.std.specs.Prelude.{IsUtf8, map}
use Rattle.sm_lex.specs.Tokens.{lexeme_of, TokensLead}
use Rattle.sm_lex.proofs.lex.tokens.Given as goal

abbrev pub decreases-loop-behind : goal.decreases-loop-behind
decreases-loop-behind l = length l.rest

abbrev pub invariant-loop-behind : goal.invariant-loop-behind
invariant-loop-behind l = record {
  leads : TokensLead l.text 0 (map lexeme_of l.tokens.items) l.at;
  rest : l.rest ≡ drop l.at l.text;
  within : l.at ≤ length l.text;
  utf8 : IsUtf8 l.rest;
}
