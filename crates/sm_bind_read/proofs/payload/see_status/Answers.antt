use Rattle.std.proofs.Common.{arith}
use Rattle.sm_bind_read.proofs.PayloadValues.{status_fits}
use Rattle.sm_bind_read.proofs.payload.see_status.Goals as goal

pub returns : goal.returns
returns c = status_fits c.args.status (omega (arith, c.ranges.status.fits))
