-- No file that was passed has the name.
use Rattle.sm_io.specs.steps.Named.{NoneNamed}
use Rattle.sm_io.proofs.named.NamedFiles.place.Given as goal

abbrev pub invariant-loop-index : goal.invariant-loop-index
invariant-loop-index l = NoneNamed l.self.files.items l.index l.name
