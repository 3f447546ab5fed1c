use Rattle.sm_lines.specs.Lines.{unserved_line}
use Rattle.sm_asked_shape.proofs.ShapesLoaded.{unserved_stops}
use Rattle.sm_asked_shape.proofs.shape.filled_shape.Goals as goal

pub returns-in-Unserved-clause-fills : goal.returns-in-Unserved-clause-fills
returns-in-Unserved-clause-fills g c =
    unserved_stops c.args.one g.P.Patterns.test (g.P.Patterns.added c.args.patterns.now) c.in-Unserved.path c.refused.result c.in-Unserved.is
    (c.refused.ensures (unserved_line c.in-Unserved.path) (rw c.as_str.ensures.bytes at c.unserved_line.ensures))
