use Rattle.std.proofs.Common.{◌≡◌, ◌∷◌, sym, ap, ◌∙◌, subst}
use Rattle.std.specs.Prelude.{IfOk}
use Rattle.sm_shapes.specs.TableView.{table_data}
use Rattle.sm_codec.specs.Decoding as decoding
use Rattle.sm_codec.specs.DecodingView.{decoding_of}
use Rattle.sm_codec.specs.FrameView.{member_frame, entry_frame, outcome_of}
use Rattle.sm_codec.specs.MapView.{key_frame}
use Rattle.sm_codec.specs.StackView.{frame_of, frames_of, ClosedBy}
use Rattle.sm_codec.specs.steps.DecoderSteps.{place_among, frame_end, EndedBy}
use Rattle.sm_codec.specs.steps.EntrySteps.{list_end}
use Rattle.sm_codec.specs.steps.MapSteps.{map_end}
use Rattle.sm_shapes.specs.Places.{constraints_of}
use Rattle.sm_codec.proofs.FirstTakes.{closed_takes}
use Rattle.sm_codec.proofs.StructureOutcome.{known_by}
use Rattle.sm_codec.proofs.decoder.Decoder.end.Goals as goal

pub returns-in-Structure-clause-ended : goal.returns-in-Structure-clause-ended
returns-in-Structure-clause-ended g c =
    let t = table_data c.args.table.now in
    let test = g.P.Patterns.test in
    let s = c.args.self.now.shape in
    let d = decoding_of c.args.self.now in
    let e = decoding_of c.close.new.self in
    let rest = frames_of c.pop.new.self in
    let f = decoding.structure_frame (member_frame c.in-Structure.frame) in
    let at : d.frames ≡ f ∷ rest = c.in-Some.ensures.popped ∙ ap (λ x. frame_of x ∷ rest) c.in-Structure.is in
    let o = frame_end t (place_among t s rest) f in
    let is : IfOk c.finish.result (λ x. outcome_of x ≡ o) = c.finish.ensures in
    known_by (λ u. ClosedBy t test c.finish.result rest e) (λ u. EndedBy t test s d.frames e) c.close.result
    (λ u closed. subst (λ fs. EndedBy t test s fs e) (sym at) (closed_takes t test c.finish.result o rest e is closed))
    c.close.ensures.closed

pub returns-in-Union-clause-ended : goal.returns-in-Union-clause-ended
returns-in-Union-clause-ended g c =
    let t = table_data c.args.table.now in
    let test = g.P.Patterns.test in
    let s = c.args.self.now.shape in
    let d = decoding_of c.args.self.now in
    let e = decoding_of c.close-in-Union.new.self in
    let rest = frames_of c.pop.new.self in
    let f = decoding.union_frame (member_frame c.in-Union.frame) in
    let at : d.frames ≡ f ∷ rest = c.in-Some.ensures.popped ∙ ap (λ x. frame_of x ∷ rest) c.in-Union.is in
    let o = frame_end t (place_among t s rest) f in
    let is : IfOk c.finish_union.result (λ x. outcome_of x ≡ o) = c.finish_union.ensures in
    known_by (λ u. ClosedBy t test c.finish_union.result rest e) (λ u. EndedBy t test s d.frames e) c.close-in-Union.result
    (λ u closed. subst (λ fs. EndedBy t test s fs e) (sym at) (closed_takes t test c.finish_union.result o rest e is closed))
    c.close-in-Union.ensures.closed

pub returns-in-List-clause-ended : goal.returns-in-List-clause-ended
returns-in-List-clause-ended g c =
    let t = table_data c.args.table.now in
    let test = g.P.Patterns.test in
    let s = c.args.self.now.shape in
    let d = decoding_of c.args.self.now in
    let e = decoding_of c.close-in-List.new.self in
    let rest = frames_of c.pop.new.self in
    let f = decoding.list_frame (entry_frame c.in-List.frame) in
    let at : d.frames ≡ f ∷ rest = c.in-Some.ensures.popped ∙ ap (λ x. frame_of x ∷ rest) c.in-List.is in
    let o = frame_end t (place_among t s rest) f in
    let place = ap (constraints_of t) c.place.ensures in
    let constraints = c.constraints-constraints.ensures ∙ place in
    let is : IfOk c.finish-in-List.result (λ x. outcome_of x ≡ o) =
    subst (λ u. IfOk c.finish-in-List.result (λ x. outcome_of x ≡ list_end (constraints_of t (place_among t s rest)) u
    (entry_frame c.in-List.frame)))
    c.is_unique-unique.ensures
    (subst (λ cs. IfOk c.finish-in-List.result (λ x. outcome_of x ≡ list_end cs c.is_unique-unique.result (entry_frame c.in-List.frame)))
    constraints c.finish-in-List.ensures) in
    known_by (λ u. ClosedBy t test c.finish-in-List.result rest e) (λ u. EndedBy t test s d.frames e) c.close-in-List.result
    (λ u closed. subst (λ fs. EndedBy t test s fs e) (sym at) (closed_takes t test c.finish-in-List.result o rest e is closed))
    c.close-in-List.ensures.closed

pub returns-in-Map-clause-ended : goal.returns-in-Map-clause-ended
returns-in-Map-clause-ended g c =
    let t = table_data c.args.table.now in
    let test = g.P.Patterns.test in
    let s = c.args.self.now.shape in
    let d = decoding_of c.args.self.now in
    let e = decoding_of c.close-in-Map.new.self in
    let rest = frames_of c.pop.new.self in
    let f = decoding.map_frame (key_frame c.in-Map.frame) in
    let at : d.frames ≡ f ∷ rest = c.in-Some.ensures.popped ∙ ap (λ x. frame_of x ∷ rest) c.in-Map.is in
    let o = frame_end t (place_among t s rest) f in
    let constraints = c.constraints-constraints-in-Map.ensures ∙ ap (constraints_of t) c.place-in-Map.ensures in
    let is : IfOk c.finish-in-Map.result (λ x. outcome_of x ≡ o) =
    subst (λ cs. IfOk c.finish-in-Map.result (λ x. outcome_of x ≡ map_end cs (key_frame c.in-Map.frame))) constraints
    c.finish-in-Map.ensures in
    known_by (λ u. ClosedBy t test c.finish-in-Map.result rest e) (λ u. EndedBy t test s d.frames e) c.close-in-Map.result
    (λ u closed. subst (λ fs. EndedBy t test s fs e) (sym at) (closed_takes t test c.finish-in-Map.result o rest e is closed))
    c.close-in-Map.ensures.closed
