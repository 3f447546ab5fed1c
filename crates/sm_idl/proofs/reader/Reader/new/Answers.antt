use Rattle.std.proofs.Common.{arith}
use Rattle.std.proofs.lemmas.Str.{IsCharBoundary-start}
use Rattle.sm_idl.proofs.TokenCuts.{are_cuts}
use Rattle.sm_idl.proofs.reader.Reader.new.Goals as goal

pub invariant_of-result : goal.invariant_of-result
invariant_of-result c = record {
  cuts = are_cuts c.args.text.now c.args.tokens.now c.requires.spell.0 c.requires.whole c.requires.spell.1;
  boundary = IsCharBoundary-start c.args.text.now c.utf8.text;
  order = λ t r e. omega arith;
}
