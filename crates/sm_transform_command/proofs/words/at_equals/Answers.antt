use Rattle.std.proofs.Common.{codes}
use Rattle.std.proofs.lemmas.Str.Pattern.{split_text_parts}
use Rattle.sm_transform_command.proofs.words.at_equals.Goals as goal

pub returns : goal.returns
returns c = split_text_parts (codes "=") c.args.text.now c.split_once.result c.split_once.ensures.cases
