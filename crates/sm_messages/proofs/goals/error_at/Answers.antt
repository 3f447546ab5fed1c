use Rattle.std.proofs.Common.{◌≡◌, ◌<◌, ◌∙◌, ap, get_or, length, subst, sym}
use Rattle.std.specs.Option.{option_copied}
use Rattle.sm_messages.specs.Goals.{no_error}
use Rattle.sm_messages.proofs.ErrorsAt.{got_error, no_error_there}
use Rattle.sm_messages.proofs.goals.error_at.Goals as goal

pub returns : goal.returns
returns c =
    let es = c.operation_at.result.now.errors in
    let got : c.in-Some.error.now ≡ get_or es c.args.place no_error =
    got_error es c.args.place c.in-Some.error.now (ap option_copied (sym c.in-Some.is) ∙ c.get.ensures)
    in
    got ∙ ap (λ d. get_or d.errors c.args.place no_error) c.operation_at.ensures

pub unreachable-unreachable : goal.unreachable-unreachable
unreachable-unreachable c =
    let es = c.operation_at.result.now.errors in
    let within : c.args.place < length es = subst (λ d. c.args.place < length d.errors) (sym c.operation_at.ensures) c.requires.1 in
    no_error_there es c.args.place within (ap option_copied (sym c.in-None.is) ∙ c.get.ensures)
