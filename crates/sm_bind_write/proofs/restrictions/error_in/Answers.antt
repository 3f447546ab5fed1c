use Rattle.std.proofs.Common.{◌∙◌, ap, sym}
use Rattle.std.specs.Option.{option_copied}
use Rattle.sm_messages.proofs.ErrorsAt.{got_error, no_error_there}
use Rattle.sm_bind_write.proofs.restrictions.error_in.Goals as goal

pub returns : goal.returns
returns c =
    got_error c.args.errors.now c.args.place c.in-Some.error.now (ap option_copied (sym c.in-Some.is) ∙ c.get.ensures)

pub unreachable-unreachable : goal.unreachable-unreachable
unreachable-unreachable c =
    no_error_there c.args.errors.now c.args.place c.requires (ap option_copied (sym c.in-None.is) ∙ c.get.ensures)
