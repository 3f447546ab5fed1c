use Rattle.sm_idl.specs.Bodies.{part_names}
use Rattle.sm_idl.proofs.reader.Reader.part_word.Goals as goal

pub returns-then-new-clause-seen : goal.returns-then-new-clause-seen
returns-then-new-clause-seen c = λ before h.
    (c.in-Ok.ensures (part_names before) h).1
