use Rattle.std.proofs.Common.{refl}
use Rattle.sm_load.proofs.FilesSaid.{refused_so}
use Rattle.sm_load.proofs.texts.tree_in.Goals as goal

pub returns-in_default-clause-reads : goal.returns-in_default-clause-reads
returns-in_default-clause-reads c = λ name named. (
  refl,
  (named, refused_so c.args.bytes.now c.in-Err.refusal c.in-Err.ensures.text c.in_default.not-NoMemory),
)
