use Rattle.std.proofs.Common.{refl}
use Rattle.sm_tree.specs.Timing.{CompletesAll}
use Rattle.sm_tree.proofs.Sources.{come_read, ended_again}
use Rattle.sm_json.specs.Timing.{json_timing}
use Rattle.sm_json.specs.Stands.{json_source}
use Rattle.sm_json.proofs.ReadPieces.{ends_here, cut_here}
use Rattle.sm_json.proofs.pieces.JsonReader.end.Goals as goal

pub returns-in-Some-clause-ends : goal.returns-in-Some-clause-ends
returns-in-Some-clause-ends c bytes come =
    ended_again json_source (CompletesAll json_timing) c.args.self.now bytes c.in-Some.refusal c.in-Some.is come

pub returns-in-Some-clause-again : goal.returns-in-Some-clause-again
returns-in-Some-clause-again c = rw c.in-Some.is refl

pub returns-in-Some-clause-refused : goal.returns-in-Some-clause-refused
returns-in-Some-clause-refused c = c.in-Some.is

pub returns-then-is_over-clause-ends : goal.returns-then-is_over-clause-ends
returns-then-is_over-clause-ends c bytes come =
    let read = come_read json_source c.args.self.now bytes c.in-None.is come in ends_here c.args.self.now bytes read
    (c.if-is_over.ensures read.goes.sound)

pub returns-then-is_over-clause-again : goal.returns-then-is_over-clause-again
returns-then-is_over-clause-again c = rw c.in-None.is tt

pub returns-else-is_over-clause-ends : goal.returns-else-is_over-clause-ends
returns-else-is_over-clause-ends c bytes come =
    let read = come_read json_source c.args.self.now bytes c.in-None.is come in cut_here c.args.self.now bytes read
    (c.if-is_over.ensures read.goes.sound)

pub returns-else-is_over-clause-stands : goal.returns-else-is_over-clause-stands
returns-else-is_over-clause-stands c bytes come =
    let read = come_read json_source c.args.self.now bytes c.in-None.is come in cut_here c.args.self.now bytes read
    (c.if-is_over.ensures read.goes.sound)

pub returns-else-is_over-clause-again : goal.returns-else-is_over-clause-again
returns-else-is_over-clause-again c = rw c.in-None.is tt
