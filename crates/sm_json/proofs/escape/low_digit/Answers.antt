-- Each digit in its place.
use Rattle.std.proofs.Common.{sym, ◌∙◌}
use Rattle.sm_json.proofs.DigitSteps.{low_first, low_second, low_fourth}
use Rattle.sm_json.proofs.escape.low_digit.Goals as goal

pub returns-in-First : goal.returns-in-First
returns-in-First c = low_first c.args.high c.args.digits c.args.byte c.in-Some.digit c.low_first.result c.in-First.is
    (sym c.hex_value.ensures.value ∙ c.in-Some.is) c.low_first.ensures

pub returns-in-Second : goal.returns-in-Second
returns-in-Second c = low_second c.args.high c.args.digits c.args.byte c.in-Second.n c.in-Some.digit c.low_half.result c.in-Second.is
    (sym c.hex_value.ensures.value ∙ c.in-Some.is) c.low_half.ensures

pub returns-in-Fourth : goal.returns-in-Fourth
returns-in-Fourth c = low_fourth c.args.high c.args.digits c.args.byte c.in-Fourth.n c.in-Some.digit c.whole_pair.result c.in-Fourth.is
    (sym c.hex_value.ensures.value ∙ c.in-Some.is) c.requires.begun c.whole_pair.ensures
