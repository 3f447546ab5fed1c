use Rattle.std.proofs.Common.{◌∷◌, sym, subst, ◌∙◌}
use Rattle.sm_uri.specs.steps.UriReading.{StopsBefore, AfterSlash}
use Rattle.sm_uri.proofs.UriParts.{name_stops, same_stops, closing_stops}
use Rattle.sm_uri.proofs.UriPaths.{label_read}
use Rattle.sm_uri.proofs.path.Path.label.Goals as goal

pub returns-in-Err : goal.returns-in-Err
returns-in-Err c =
    name_stops c.args.self.now.segments.items c.args.inside.now c.in-Err.rest.now c.requires.read.is_uri
    (sym c.requires.read.greedy ∙ c.requires.first) c.in-Err.ensures

pub returns-then-contains : goal.returns-then-contains
returns-then-contains c =
    let n = c.in-Ok.ensures in
    let before = c.args.self.now.segments.items in
    subst (λ x. StopsBefore (AfterSlash before) (123 ∷ x) c.in-Ok.name.behind.now) (sym n.parts)
    (same_stops before c.in-Ok.name.taken.now c.in-Ok.name.behind.now c.requires.read.is_uri (sym c.requires.read.greedy ∙ c.requires.first)
    n.name n.ends (sym (c.requires.read.names c.in-Ok.name.taken.now) ∙ (sym c.contains.ensures ∙ c.if-contains.true)))

pub returns-in-Err-label_end : goal.returns-in-Err-label_end
returns-in-Err-label_end c =
    let n = c.in-Ok.ensures in
    let before = c.args.self.now.segments.items in
    subst (λ x. StopsBefore (AfterSlash before) (123 ∷ x) c.in-Err-label_end.rest.now) (sym n.parts)
    (closing_stops before c.in-Ok.name.taken.now c.in-Ok.name.behind.now c.in-Err-label_end.rest.now c.requires.read.is_uri
    (sym c.requires.read.greedy ∙ c.requires.first) n.name n.ends
    (sym (c.requires.read.names c.in-Ok.name.taken.now) ∙ (sym c.contains.ensures ∙ c.if-contains.false)) c.in-Err-label_end.ensures)

pub returns-in_ok-labelled-in-Ok-label_end : goal.returns-in_ok-labelled-in-Ok-label_end
returns-in_ok-labelled-in-Ok-label_end c =
    label_read c.args.self.now c.labelled.new.self c.in-Ok-label_end.end.greedy c.in-Ok.name.taken.now c.args.inside.now
    c.in-Ok.name.behind.now c.in-Ok-label_end.end.behind.now c.requires.read c.requires.first c.in-Ok.ensures
    (sym c.contains.ensures ∙ c.if-contains.false) c.in-Ok-label_end.ensures.0 c.in-Ok-label_end.ensures.1
    c.in_ok-labelled-in-Ok-label_end.ensures.segments
    c.in_ok-labelled-in-Ok-label_end.ensures.names c.in_ok-labelled-in-Ok-label_end.ensures.greedy
