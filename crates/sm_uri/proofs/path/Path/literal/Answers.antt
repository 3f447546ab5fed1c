use Rattle.std.proofs.Common.{◌∷◌, ◌++◌, [], inl, inr, refl, sym, ap, ◌∙◌}
use Rattle.sm_uri.specs.UriPattern.{is_literal_byte}
use Rattle.sm_uri.proofs.UriCuts.{is_none, is_some}
use Rattle.sm_uri.proofs.UriPaths.{literal_read, text_stops}
use Rattle.sm_uri.specs.declared.pattern.Segment.TheVariants.{Literal}
use Rattle.sm_uri.proofs.path.Path.literal.Goals as goal
use Rattle.sm_uri.proofs.path.Path.literal.Goals.{then-is_empty-via-then-is_empty, then-is_empty-via-else-is_empty+then-not-may_end}

pub returns-then-is_empty : goal.returns-then-is_empty
returns-then-is_empty c =
    let cut = c.cut_run-cut.ensures in
    let taken = c.cut_run-cut.result.taken.now in
    text_stops c.args.self.now.segments.items c.args.rest.now taken c.cut_run-cut.result.behind.now c.requires.read.is_uri c.requires.some
    c.requires.literal cut.parts cut.ends
    (elim c.then-is_empty.branch [
      | then-is_empty-via-then-is_empty w ↦ inl (is_none taken c.is_empty.result c.is_empty.ensures w.if-is_empty.true)
      | then-is_empty-via-else-is_empty+then-not-may_end w ↦ inr (
        is_some is_literal_byte taken c.is_empty.result c.is_empty.ensures w.if-is_empty.false cut.passes,
        sym w.may_end.ensures ∙ w.if-not-may_end.true,
      )
    ])

pub returns : goal.returns
returns c =
    let cut = c.cut_run-cut.ensures in
    literal_read c.args.self.now _ c.args.rest.now c.cut_run-cut.result.taken.now c.cut_run-cut.result.behind.now c.requires.read
    (c.in_ok-push.ensures.items ∙ ap (λ t. c.args.self.now.segments.items ++ Literal t ∷ []) c.in_ok-copy.ensures.bytes) refl refl cut.parts
    (is_some is_literal_byte c.cut_run-cut.result.taken.now c.is_empty.result c.is_empty.ensures c.if-is_empty.false cut.passes)
    (sym c.may_end.ensures ∙ c.if-not-may_end.false)
