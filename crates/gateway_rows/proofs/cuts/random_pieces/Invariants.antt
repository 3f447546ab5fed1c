-- Each cut so far is one byte at least.
use Rattle.std.proofs.Common.{◌<◌, All}
use Rattle.gateway_rows.proofs.cuts.random_pieces.Given as goal

abbrev pub invariant-loop : goal.invariant-loop
invariant-loop l = All (λ cut. 0 < cut) l.cuts.items
