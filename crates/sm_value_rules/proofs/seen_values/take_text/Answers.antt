use Rattle.std.proofs.Common.{sym, ◌∙◌}
use Rattle.sm_value_rules.proofs.ValuesTaken.{text_again, text_more}
use Rattle.sm_value_rules.proofs.seen_values.take_text.Goals as goal

pub returns-then-contains-clause-held : goal.returns-then-contains-clause-held
returns-then-contains-clause-held c =
    text_again c.args.texts.now c.args.text.now (sym c.contains.ensures ∙ c.if-contains.true)

pub returns-in-Ok-clause-held : goal.returns-in-Ok-clause-held
returns-in-Ok-clause-held c = text_more c.args.texts.now c.insert.new.self c.args.text.now c.in-Ok.ensures.updates
