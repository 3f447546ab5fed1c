use Rattle.std.proofs.Common.{◌++◌, codes, ap, sym, arith}
use Rattle.std.proofs.lemmas.Fmt.{decimal_digit}
use Rattle.sm_schema.proofs.describing.first_reference.Goals as goal

pub returns : goal.returns
returns c = ap (λ ds. codes "#/$defs/" ++ (codes "d" ++ ds)) (sym (decimal_digit 0 (omega arith)))
