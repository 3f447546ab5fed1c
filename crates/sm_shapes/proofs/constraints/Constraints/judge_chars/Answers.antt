use Rattle.std.proofs.Common.{◌≡◌, length, sym, ap, ◌∙◌, rules, pos}
use Rattle.std.specs.Str.{chars}
use Rattle.std.proofs.lemmas.Str.{chars_from_encodes}
use Rattle.sm_shapes.specs.Broken.{first_broken, length_broken}
use Rattle.sm_shapes.specs.ConstraintView.{constraint_data}
use Rattle.sm_shapes.proofs.FirstBroken.{unbounded}
use Rattle.sm_shapes.proofs.constraints.Constraints.judge_chars.Goals as goal

pub returns-then-is_bounded : goal.returns-then-is_bounded
returns-then-is_bounded c =
    let count : c.count.result ≡ length (chars c.args.text.now) = search (rules, chars_from_encodes) in
    c.judge_length.ensures ∙ ap (λ n. first_broken (length_broken (constraint_data c.args.self.now) n)) count

pub returns-else-is_bounded : goal.returns-else-is_bounded
returns-else-is_bounded c =
    unbounded c.args.self.now.min c.args.self.now.max (pos (length (chars c.args.text.now))) (sym c.if-is_bounded.ensures)
