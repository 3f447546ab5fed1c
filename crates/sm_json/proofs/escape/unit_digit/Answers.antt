-- Each digit in its place.
use Rattle.std.proofs.Common.{sym, ◌∙◌}
use Rattle.sm_json.proofs.DigitSteps.{unit_first, unit_second, unit_fourth}
use Rattle.sm_json.proofs.escape.unit_digit.Goals as goal

pub returns-in-First : goal.returns-in-First
returns-in-First c = unit_first c.args.digits c.args.byte c.in-Some.digit c.in-First.is (sym c.hex_value.ensures.value ∙ c.in-Some.is)

pub returns-in-Second : goal.returns-in-Second
returns-in-Second c = unit_second c.args.digits c.args.byte c.in-Second.n c.in-Some.digit c.unit_half.result c.in-Second.is
    (sym c.hex_value.ensures.value ∙ c.in-Some.is) c.unit_half.ensures

pub returns-in-Fourth : goal.returns-in-Fourth
returns-in-Fourth c = unit_fourth c.args.digits c.args.byte c.in-Fourth.n c.in-Some.digit c.whole_unit.result c.in-Fourth.is
    (sym c.hex_value.ensures.value ∙ c.in-Some.is) c.whole_unit.ensures
