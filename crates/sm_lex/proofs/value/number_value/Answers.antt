use Rattle.std.proofs.Common.{subst, sym}
use Rattle.sm_tree.specs.Numbers.{IsNumber}
use Rattle.sm_lex.proofs.NumberRuns.{number_had}
use Rattle.sm_lex.proofs.value.number_value.Goals as goal

pub number_tree-requires : goal.number_tree-requires
number_tree-requires c = let token = c.args.token.now in subst IsNumber (sym c.as_bytes.ensures.value)
    (number_had token.text.now (token.number c.requires))
