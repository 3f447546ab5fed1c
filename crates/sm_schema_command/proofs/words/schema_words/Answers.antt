use Rattle.std.proofs.Common.{codes}
use Rattle.sm_schema_command.proofs.WordsCounted.{five_words, four_words, not_other}
use Rattle.sm_schema_command.proofs.words.schema_words.Goals as goal

pub four_words-requires : goal.four_words-requires
four_words-requires c = let h = four_words c.args.words.now c.in-4.is in (h.schema, h.model, h.shape, h.names, h.are)

pub four_words-requires-then-is_word : goal.four_words-requires-then-is_word
four_words-requires-then-is_word c =
    let h = five_words c.args.words.now c.index-words-4.result _ (codes "described") c.in-5.is c.index-words-4.is
    (c.is_word.ensures.0 c.if-is_word.true) in (h.schema, h.model, h.shape, h.names, h.are)

pub returns-then-is_word : goal.returns-then-is_word
returns-then-is_word c = not_other c.args.words.now _ c.in-5.is c.four_words-then-is_word.result c.four_words-then-is_word.ensures
