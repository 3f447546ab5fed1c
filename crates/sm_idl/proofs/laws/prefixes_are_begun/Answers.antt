use Rattle.sm_idl.proofs.OneFile.{prefixes_are_begun}
use Rattle.sm_idl.proofs.laws.prefixes_are_begun.Goals as goal

pub returns : goal.returns
returns c = prefixes_are_begun
