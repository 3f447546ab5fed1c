use Rattle.std.proofs.Common.{sym, subst, ◌∙◌}
use Rattle.sm_uri.specs.steps.UriReading.{StopsBefore, AfterSlash}
use Rattle.sm_uri.proofs.UriParts.{greedy_stops}
use Rattle.sm_uri.proofs.path.Path.segment.Goals as goal

pub returns-then-self : goal.returns-then-self
returns-then-self c =
    subst (λ x. StopsBefore (AfterSlash c.args.self.now.segments.items) x x) (sym c.in-Some.ensures)
    (greedy_stops c.args.self.now.segments.items c.in-Some.inside.now c.requires.read.is_uri (sym c.requires.read.greedy ∙ c.if-self.true))
