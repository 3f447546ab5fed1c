use Rattle.std.proofs.Common.{[], sym, subst}
use Rattle.sm_bytes.specs.declared.utf8.Utf8.TheVariants.{Between}
use Rattle.sm_cbor.specs.steps.Machine.{IsAt, CborGoes}
use Rattle.sm_cbor.specs.declared.place.CborPlace.TheVariants.{String, Chunks}
use Rattle.sm_cbor.proofs.EndSteps.{chunk_goes}
use Rattle.sm_cbor.proofs.read.Reader.end_span.Goals as goal

pub returns-in-Chunk-clause-goes : goal.returns-in-Chunk-clause-goes
returns-in-Chunk-clause-goes g c =
    subst (λ s. CborGoes (g.E.EventSink.stands_for c.args.to.now) c.args.self.now [] (String c.args.kind s 0 Between) []
    (g.E.EventSink.stands_for c.args.to.now) (record c.args.self.now { place = Chunks c.args.kind })) (sym c.in-Chunk.is)
    (chunk_goes (g.E.EventSink.stands_for c.args.to.now) c.args.self.now c.args.kind (subst (λ s. IsAt c.args.self.now (String
    c.args.kind s 0 Between)) c.in-Chunk.is c.requires.sound))
