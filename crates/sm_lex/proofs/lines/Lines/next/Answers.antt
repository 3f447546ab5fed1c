use Rattle.std.proofs.Common.{ap, subst, sym, ◌∙◌}
use Rattle.std.specs.Prelude.{IsUtf8}
use Rattle.std.specs.List.{position_or_len}
use Rattle.std.specs.Str.{IsCharBoundary}
use Rattle.sm_lex.specs.Lines.{is_line_end, line_end_len}
use Rattle.sm_lex.proofs.LineCuts.{boundary_before, boundary_behind, line_ends_are_ascii, last_line, next_line}
use Rattle.sm_lex.proofs.lines.Lines.next.Goals as goal

pub split_at-requires : goal.split_at-requires
split_at-requires c =
    let s = c.args.self.now.rest.now in
    subst (IsCharBoundary s) (sym (c.run_len-len.ensures.run ∙ ap (position_or_len is_line_end) c.as_bytes.ensures.value))
    (boundary_before is_line_end s line_ends_are_ascii)

pub split_at-requires-2 : goal.split_at-requires-2
split_at-requires-2 c =
    let s = c.split_at.result.1.now in
    subst (IsCharBoundary s) (sym (c.line_end_len-end.ensures ∙ ap line_end_len c.as_bytes-2.ensures.value))
    (boundary_behind s (subst IsUtf8 c.as_bytes-2.ensures.value c.as_bytes-2.ensures.utf8))

pub returns-then-end-eq0 : goal.returns-then-end-eq0
returns-then-end-eq0 c =
    last_line c.args.self.now.at _ c.line_end_len-end.result c.args.self.now.rest.now _ _ _ c.if-self.false
    (c.run_len-len.ensures.run ∙ ap (position_or_len is_line_end) c.as_bytes.ensures.value) c.split_at.ensures.front c.split_at.ensures.back
    (c.line_end_len-end.ensures ∙ ap line_end_len c.as_bytes-2.ensures.value) c.if-end-eq0.true

pub returns : goal.returns
returns c =
    next_line c.args.self.now.at _ c.line_end_len-end.result c.args.self.now.rest.now _ _ _ _ c.if-self.false
    (c.run_len-len.ensures.run ∙ ap (position_or_len is_line_end) c.as_bytes.ensures.value) c.split_at.ensures.front c.split_at.ensures.back
    (c.line_end_len-end.ensures ∙ ap line_end_len c.as_bytes-2.ensures.value) c.if-end-eq0.false c.split_at-2.ensures.back
