use Rattle.std.proofs.Common.{◌≡◌, drop}
use Rattle.sm_shapes.specs.TableData.{first_text, texts_numbered}
use Rattle.sm_shapes.proofs.pattern_rows.text_numbered.Given as goal

abbrev pub invariant-loop-row : goal.invariant-loop-row
invariant-loop-row l = first_text (texts_numbered l.number (drop l.row-index l.rows)) ≡ first_text (texts_numbered l.number l.rows)
