use Rattle.std.proofs.Common.{◌≡◌, IfOk, arith}
use Rattle.std.proofs.lemmas.Grind.{common_steps}
use Rattle.sm_shapes.specs.Patterns.{pattern_text}
use Rattle.sm_shapes.specs.Regexes.{regex_finds}
use Rattle.sm_shapes.specs.RegexStore.{regex_texts}
use Rattle.sm_shapes.proofs.Regexes.{part_answered}
use Rattle.sm_shapes.proofs.regex_patterns.RegexPatternsPatterns.finds.Goals as goal

pub returns-clause-part : goal.returns-clause-part
returns-clause-part c =
    let pattern = pattern_text (regex_texts c.args.self.now) c.args.pattern in
    let found : IfOk c.finds.result (λ found. found ≡ regex_finds pattern c.args.text.now) = grind (arith, common_steps) in
    part_answered c.finds.result pattern c.args.text.now found
