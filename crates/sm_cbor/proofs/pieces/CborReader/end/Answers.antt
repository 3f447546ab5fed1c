use Rattle.std.proofs.Common.{◌≡◌, true, false, refl}
use Rattle.sm_tree.specs.Timing.{Completes}
use Rattle.sm_tree.proofs.Sources.{ended_again}
use Rattle.sm_cbor.specs.Timing.{cbor_timing}
use Rattle.sm_cbor.specs.Stands.{cbor_source}
use Rattle.sm_cbor.proofs.Feeding.{ended_whole, ended_cut}
use Rattle.sm_cbor.proofs.pieces.CborReader.end.Goals as goal

pub returns-in-Some-clause-ends : goal.returns-in-Some-clause-ends
returns-in-Some-clause-ends c bs stands =
    ended_again cbor_source (Completes cbor_timing) c.args.self.now bs c.in-Some.refusal c.in-Some.is stands.1

pub returns-in-Some-clause-again : goal.returns-in-Some-clause-again
returns-in-Some-clause-again c = rw c.in-Some.is refl

pub returns-in-Some-clause-refused : goal.returns-in-Some-clause-refused
returns-in-Some-clause-refused c = c.in-Some.is

pub returns-then-is_whole-clause-ends : goal.returns-then-is_whole-clause-ends
returns-then-is_whole-clause-ends c bs stands = ended_whole c.args.self.now bs c.in-None.is (c.if-is_whole.ensures.0 refl) stands

pub returns-then-is_whole-clause-again : goal.returns-then-is_whole-clause-again
returns-then-is_whole-clause-again c = rw c.in-None.is tt

pub returns-else-is_whole-clause-ends : goal.returns-else-is_whole-clause-ends
returns-else-is_whole-clause-ends c bs stands =
    ended_cut c.args.self.now bs c.in-None.is (λ e f. let told : false ≡ true = c.if-is_whole.ensures.1 (e, f) in absurd cc) stands

pub returns-else-is_whole-clause-stands : goal.returns-else-is_whole-clause-stands
returns-else-is_whole-clause-stands c bs stands = (
  tt,
  ended_cut c.args.self.now bs c.in-None.is (λ e f. let told : false ≡ true = c.if-is_whole.ensures.1 (e, f) in absurd cc) stands,
)

pub returns-else-is_whole-clause-again : goal.returns-else-is_whole-clause-again
returns-else-is_whole-clause-again c = rw c.in-None.is tt
