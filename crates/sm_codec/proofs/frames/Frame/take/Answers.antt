use Rattle.std.proofs.Common.{refl, sym, subst}
use Rattle.sm_shapes.specs.TableView.{table_data}
use Rattle.sm_codec.specs.Decoding.{map_frame}
use Rattle.sm_codec.specs.FrameView.{arrival_of}
use Rattle.sm_codec.specs.MapView.{key_frame}
use Rattle.sm_codec.specs.StackView.{frame_of}
use Rattle.sm_codec.specs.steps.DecoderSteps.{FrameTakes}
use Rattle.sm_codec.specs.steps.MapSteps.{TakesPair}
use Rattle.sm_codec.proofs.StructureOutcome.{known_by}
use Rattle.sm_codec.proofs.frames.Frame.take.Goals as goal

pub returns-in-Ok-clause-takes : goal.returns-in-Ok-clause-takes
returns-in-Ok-clause-takes g c =
    let t = table_data c.args.table.now in
    let x = arrival_of c.args.arrival in
    let first = c.in-Ok.first in
    let f = key_frame c.in-Map.frame in
    let h = key_frame c.take-in-Ok.new.self in
    known_by (λ u. TakesPair c.is_sparse-in-Ok.result first x f h)
    (λ u. FrameTakes t g.P.Patterns.test x (frame_of c.args.self.now) (map_frame h))
    c.take-in-Ok.result
    (λ u takes. subst (λ s. FrameTakes t g.P.Patterns.test x (frame_of s) (map_frame h)) (sym c.in-Map.is)
    (h, first, refl, c.in-Ok.ensures.first, subst (λ sparse. TakesPair sparse first x f h) c.is_sparse-in-Ok.ensures takes))
    c.take-in-Ok.ensures
