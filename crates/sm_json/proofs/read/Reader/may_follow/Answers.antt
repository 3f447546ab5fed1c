use Rattle.std.proofs.Common.{sym, ap, ◌∙◌, Some}
use Rattle.sm_json.specs.steps.Machine.{lists_of}
use Rattle.sm_json.proofs.Readers.{first_is}
use Rattle.sm_json.proofs.Following.{white_follows, entry_may_follow, pair_may_follow}
use Rattle.sm_json.proofs.read.Reader.may_follow.Goals as goal

pub returns-then-has : goal.returns-then-has
returns-then-has c = white_follows c.args.self.now c.args.byte (sym c.has.ensures ∙ c.if-has.true)

pub returns-in-Some-List : goal.returns-in-Some-List
returns-in-Some-List c =
    entry_may_follow c.args.self.now c.args.byte c.follows_entry.result
    (first_is (lists_of c.args.self.now) _ (sym c.in-Some-List.ensures ∙ ap Some c.in-Some-List.field-0-is))
    (sym c.has.ensures ∙ c.if-has.false) c.follows_entry.ensures

pub returns-in-Some-Object : goal.returns-in-Some-Object
returns-in-Some-Object c =
    pair_may_follow c.args.self.now c.args.byte c.follows_pair.result
    (first_is (lists_of c.args.self.now) _ (sym c.in-Some-Object.ensures ∙ ap Some c.in-Some-Object.field-0-is))
    (sym c.has.ensures ∙ c.if-has.false) c.follows_pair.ensures
