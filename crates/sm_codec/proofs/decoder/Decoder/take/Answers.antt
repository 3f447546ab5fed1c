use Rattle.std.proofs.Common.{◌-◌, refl, set}
use Rattle.sm_shapes.specs.TableView.{table_data}
use Rattle.sm_codec.specs.Decoding as decoding
use Rattle.sm_codec.specs.DecodingView.{decoding_of}
use Rattle.sm_codec.specs.FrameView.{arrival_of}
use Rattle.sm_codec.specs.StackView.{frame_of, stack_of}
use Rattle.sm_codec.specs.steps.DecoderSteps.{FrameTakes, TakenBy}
use Rattle.sm_codec.proofs.FirstTakes.{taken_first}
use Rattle.sm_codec.proofs.StackTop.{lent_changed}
use Rattle.sm_codec.proofs.StructureOutcome.{known_by}
use Rattle.sm_codec.proofs.decoder.Decoder.take.Goals as goal

pub returns-in-Some-clause-taken : goal.returns-in-Some-clause-taken
returns-in-Some-clause-taken g c =
    let t = table_data c.args.table.now in
    let test = g.P.Patterns.test in
    let x = arrival_of c.args.arrival in
    let before = c.args.self.now.frames.frames in
    let f = c.in-Some.frame.now in
    let h = c.take.new.self in
    let d = decoding_of c.args.self.now in
    let e : decoding.Decoding = record { shape = d.shape; frames = stack_of (set before.items (before.len - 1) h); result = d.result } in
    let top = lent_changed before.items before.len f h before.ok.0 (c.in-Some.ensures.variant.0 refl) c.in-Some.ensures.value in
    known_by (λ u. FrameTakes t test x (frame_of f) (frame_of h)) (λ u. TakenBy t test x d.frames e) c.take.result
    (λ u takes. taken_first t test x d.frames top.0 (frame_of f) (frame_of h) e top.1 c.requires.none top.2 takes) c.take.ensures.takes
