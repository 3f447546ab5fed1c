use Rattle.std.proofs.Common.{sym, subst, Some, Ok}
use Rattle.std.specs.Io.KnownBytes.{prepend_known}
use Rattle.sm_http.specs.declared.message.BodyLeft.TheVariants.{Known}
use Rattle.sm_http.specs.Calls.{ReadsAHead, ReadsAMessage}
use Rattle.sm_io.proofs.Told.{loses_both}
use Rattle.sm_http.proofs.ReadingMessages.{refused_head, said_ahead, refused_body}
use Rattle.sm_http.proofs.ReadingPieces.{held_whole}
use Rattle.sm_http.proofs.read.read_message.Goals as goal

pub returns-in-Err-clause-bytes : goal.returns-in-Err-clause-bytes
returns-in-Err-clause-bytes g c =
    refused_head c.args.side (prepend_known c.args.held.now (g.S.Source.left c.args.source.now))
    (prepend_known c.read_head.new.held (g.S.Source.left c.read_head.new.source))
    (prepend_known c.read_head.new.held (g.S.Source.left c.read_head.new.source))
    (g.S.Source.left c.read_head.new.source) c.in-Err.refusal c.in-Err.ensures.bytes

-- the body has come with its head
pub returns-in-Ok-take_held-clause-bytes : goal.returns-in-Ok-take_held-clause-bytes
returns-in-Ok-take_held-clause-bytes g c =
    let ahead = prepend_known c.args.held.now (g.S.Source.left c.args.source.now) in
    let left = g.S.Source.left c.read_head.new.source in
    let behind = prepend_known c.read_head.new.held left in
    let now = prepend_known c.take_held.new.held left in
    subst (λ b. ReadsAMessage c.args.side ahead now left (Ok (Some (record { head = c.in-Some.head; body = b }))))
    (sym c.new.ensures)
    (said_ahead c.args.side ahead behind now left left c.in-Some.head (Known c.in-Some-come_whole.count) c.in-Ok-take_held.body.items
    (subst (λ p. ReadsAHead c.args.side ahead behind left (Ok (Some (c.in-Some.head, p)))) c.in-Some-come_whole.ensures.0
    (subst (λ f. ReadsAHead c.args.side ahead behind left (Ok f)) c.in-Some.is c.in-Ok.ensures.bytes))
    (held_whole c.in-Some-come_whole.count left c.read_head.new.held c.take_held.new.held c.in-Ok-take_held.body.items
    c.in-Some-come_whole.ensures.1
    c.in-Ok-take_held.ensures.used c.in-Ok-take_held.ensures.bytes))

pub returns-in-Ok-read_body-clause-bytes : goal.returns-in-Ok-read_body-clause-bytes
returns-in-Ok-read_body-clause-bytes g c =
    let ahead = prepend_known c.args.held.now (g.S.Source.left c.args.source.now) in
    let behind = prepend_known c.read_head.new.held (g.S.Source.left c.read_head.new.source) in
    let now = prepend_known c.read_body.new.held (g.S.Source.left c.read_body.new.source) in
    subst (λ b. ReadsAMessage c.args.side ahead now (g.S.Source.left c.read_body.new.source)
    (Ok (Some (record { head = c.in-Some.head; body = b }))))
    (sym c.new-in-Ok-read_body.ensures)
    (said_ahead c.args.side ahead behind now (g.S.Source.left c.read_head.new.source)
    (g.S.Source.left c.read_body.new.source) c.in-Some.head c.in-Some.left c.in-Ok-read_body.body.items
    (subst (λ f. ReadsAHead c.args.side ahead behind (g.S.Source.left c.read_head.new.source) (Ok f)) c.in-Some.is c.in-Ok.ensures.bytes)
    c.in-Ok-read_body.ensures.bytes)

pub returns-in-Err-read_body-clause-bytes : goal.returns-in-Err-read_body-clause-bytes
returns-in-Err-read_body-clause-bytes g c =
    let ahead = prepend_known c.args.held.now (g.S.Source.left c.args.source.now) in
    let behind = prepend_known c.read_head.new.held (g.S.Source.left c.read_head.new.source) in
    let now = prepend_known c.read_body.new.held (g.S.Source.left c.read_body.new.source) in
    refused_body c.args.side ahead behind now (g.S.Source.left c.read_head.new.source)
    (g.S.Source.left c.read_body.new.source) c.in-Some.head c.in-Some.left c.in-Err-read_body.refusal
    (subst (λ f. ReadsAHead c.args.side ahead behind (g.S.Source.left c.read_head.new.source) (Ok f)) c.in-Some.is c.in-Ok.ensures.bytes)
    c.in-Err-read_body.ensures.bytes

pub returns-in-Ok-read_body-clause-taken : goal.returns-in-Ok-read_body-clause-taken
returns-in-Ok-read_body-clause-taken g c = loses_both _ _ _ c.in-Ok.ensures.taken c.in-Ok-read_body.ensures.taken

pub returns-in-Err-read_body-clause-taken : goal.returns-in-Err-read_body-clause-taken
returns-in-Err-read_body-clause-taken g c = loses_both _ _ _ c.in-Ok.ensures.taken c.in-Err-read_body.ensures.taken
