use Rattle.std.proofs.Common.{◌+◌, false, inr, subst, sym, ◌∙◌, ap}
use Rattle.std.specs.Prelude.{IsUtf8}
use Rattle.sm_lex.specs.Lines.{lines_at}
use Rattle.sm_lex.specs.Tokens.{first_end, three_quotes}
use Rattle.sm_lex.specs.steps.LexSteps.{lines_left}
use Rattle.sm_lex.proofs.Blocks.{IsBlock, block_cut, line_end_cut, is_block, block_judged, block_len_is}
use Rattle.sm_lex.proofs.lex.block.Goals as goal
use Rattle.sm_lex.proofs.lex.block.Goals.{After-split_at-2}

-- what was cut out is the block
the_block : (c : After-split_at-2) → IsBlock c.args.text.now c.split_at.result.1.now c.split_at-2.result.0.now c.in-Some.len c.args.line_end
the_block c = record {
  opens = c.requires.opens;
  behind_is = c.split_at.ensures.back;
  closes = c.in-Some.ensures ∙ ap (first_end three_quotes false) c.as_bytes.ensures.value;
  inside_is = c.split_at-2.ensures.front;
  line_end_is = c.requires.line_end;
}

pub split_at-requires-2 : goal.split_at-requires-2
split_at-requires-2 c = block_cut c.split_at.result.1.now c.in-Some.len (c.in-Some.ensures
    ∙ ap (first_end three_quotes false) c.as_bytes.ensures.value)

pub split_at-requires-3 : goal.split_at-requires-3
split_at-requires-3 c = line_end_cut (the_block (goal.at.split_at-requires-3 c).After-split_at-2)
    (subst IsUtf8 c.as_bytes.ensures.value c.as_bytes.ensures.utf8)

pub returns-in-Some-bad_escape : goal.returns-in-Some-bad_escape
returns-in-Some-bad_escape c =
    let it = the_block (goal.at.returns-in-Some-bad_escape c).After-split_at-2 in
    let ls = c.new-lines.ensures ∙ ap (lines_at (c.args.start + (3 + c.args.line_end))) c.split_at-3.ensures.back in (
      c.in-Some.len + 6,
      inr (
        c.requires.opens,
        block_len_is it,
        sym
            (block_judged it c.args.start c.indent_of.result (lines_left c.new-lines.result) ls c.indent_of.ensures)
            ∙ c.in-Some-bad_escape.ensures,
      ),
    )

pub returns-in-None : goal.returns-in-None
returns-in-None c =
    let it = the_block (goal.at.returns-in-None c).After-split_at-2 in
    let ls = c.new-lines.ensures ∙ ap (lines_at (c.args.start + (3 + c.args.line_end))) c.split_at-3.ensures.back in
    is_block it c.args.start c.indent_of.result (lines_left c.new-lines.result) c.utf8.text ls c.indent_of.ensures c.in-None.ensures
