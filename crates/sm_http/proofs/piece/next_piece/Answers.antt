use Rattle.std.proofs.Common.{[]}
use Rattle.std.specs.Io.KnownBytes.{prepend_known}
use Rattle.sm_io.proofs.Told.{loses_both}
use Rattle.sm_http.proofs.ReadingPieces.{goes_joined, refused_behind, gives_behind}
use Rattle.sm_http.proofs.piece.next_piece.Goals as goal

pub returns-in-Err-pass_place-clause-bytes : goal.returns-in-Err-pass_place-clause-bytes
returns-in-Err-pass_place-clause-bytes g c =
    refused_behind c.args.left.now c.pass_place.new.left (prepend_known c.args.held.now (g.S.Source.left c.args.source.now))
    (prepend_known c.pass_place.new.held (g.S.Source.left c.pass_place.new.source))
    (g.S.Source.left c.pass_place-2.new.source) [] c.in-Err-pass_place.refusal c.in-Ok.ensures.bytes.goes c.in-Err-pass_place.ensures.bytes

pub returns-in-Ok-give_data-clause-bytes : goal.returns-in-Ok-give_data-clause-bytes
returns-in-Ok-give_data-clause-bytes g c =
    gives_behind c.args.left.now c.pass_place.new.left c.pass_place-2.new.left c.give_data.new.left
    (prepend_known c.args.held.now (g.S.Source.left c.args.source.now))
    (prepend_known c.pass_place.new.held (g.S.Source.left c.pass_place.new.source))
    (prepend_known c.pass_place-2.new.held (g.S.Source.left c.pass_place-2.new.source))
    (prepend_known c.give_data.new.held (g.S.Source.left c.give_data.new.source))
    c.give_data.new.buf c.in-Ok-give_data.count c.in-Ok.ensures.bytes c.in-Ok-pass_place.ensures.bytes c.in-Ok-give_data.ensures.bytes

pub returns-in-Err-give_data-clause-bytes : goal.returns-in-Err-give_data-clause-bytes
returns-in-Err-give_data-clause-bytes g c =
    let ahead = prepend_known c.args.held.now (g.S.Source.left c.args.source.now) in
    let first = prepend_known c.pass_place.new.held (g.S.Source.left c.pass_place.new.source) in
    let second = prepend_known c.pass_place-2.new.held (g.S.Source.left c.pass_place-2.new.source) in
    refused_behind c.args.left.now c.pass_place-2.new.left ahead second
    (g.S.Source.left c.give_data.new.source) [] c.in-Err-give_data.refusal
    (goes_joined c.args.left.now c.pass_place.new.left c.pass_place-2.new.left ahead first second [] [] c.in-Ok.ensures.bytes.goes
    c.in-Ok-pass_place.ensures.bytes.goes)
    c.in-Err-give_data.ensures.bytes

pub returns-in-Err-pass_place-clause-taken : goal.returns-in-Err-pass_place-clause-taken
returns-in-Err-pass_place-clause-taken g c = loses_both _ _ _ c.in-Ok.ensures.taken c.in-Err-pass_place.ensures.taken

pub returns-in-Ok-give_data-clause-taken : goal.returns-in-Ok-give_data-clause-taken
returns-in-Ok-give_data-clause-taken g c =
    loses_both _ _ _ (loses_both _ _ _ c.in-Ok.ensures.taken c.in-Ok-pass_place.ensures.taken) c.in-Ok-give_data.ensures.taken

pub returns-in-Err-give_data-clause-taken : goal.returns-in-Err-give_data-clause-taken
returns-in-Err-give_data-clause-taken g c =
    loses_both _ _ _ (loses_both _ _ _ c.in-Ok.ensures.taken c.in-Ok-pass_place.ensures.taken) c.in-Err-give_data.ensures.taken
