use Rattle.std.proofs.lemmas.Str.Pattern.{starts_text}
use Rattle.sm_http_rules.proofs.shortest.begins_with.Goals as goal

pub returns : goal.returns
returns c = starts_text _ c.args.prefix.now c.args.text.now c.starts_with.ensures.cases
