use Rattle.std.proofs.Common.{subst, sym}
use Rattle.std.specs.Prelude.{map, string_bytes}
use Rattle.sm_lex.specs.Lines.{lines_text}
use Rattle.sm_lex.specs.steps.LexSteps.{lines_left, line_of, line_kept, IsFine, LineGives}
use Rattle.sm_lex.proofs.Written.{written_none, written_line, fine_line}
use Rattle.sm_lex.proofs.value.lines_value.Goals as goal

pub loop-line-init : goal.loop-line-init
loop-line-init c = written_none (string_bytes c.new-text.result) (map (line_kept c.args.indent) (lines_left c.args.lines))
    c.new-text.ensures.bytes

pub put_line-requires : goal.put_line-requires
put_line-requires c =
    let rest = c.next.new.self in
    let line = line_of c.kept_line.result in
    subst (λ b. IsFine b line) (sym c.is_done.ensures)
    (fine_line (lines_text (map (line_kept c.args.indent) (lines_left c.args.lines))) c.args.indent (lines_left c.loop-line.lines)
    (line_of c.in-Some.line) line rest.at rest.rest.now (string_bytes c.loop-line.text) rest.done
    c.in-Some.ensures c.kept_line.ensures c.loop-line.invariant c.requires)

pub loop-line-preserved : goal.loop-line-preserved
loop-line-preserved c =
    let rest = c.next.new.self in
    let line = line_of c.kept_line.result in
    let puts = c.in-Ok.ensures in
    written_line (lines_text (map (line_kept c.args.indent) (lines_left c.args.lines))) c.args.indent (lines_left c.loop-line.lines)
    (line_of c.in-Some.line) line rest.at rest.rest.now (string_bytes c.loop-line.text) (string_bytes c.put_line.new.out) puts.0
    rest.done
    c.in-Some.ensures c.kept_line.ensures puts.1 c.loop-line.invariant
    (subst (λ b. LineGives b line.at line.bytes puts.0) c.is_done.ensures puts.2)
