use Rattle.std.proofs.Common.{subst, Ok}
use Rattle.std.specs.Io.KnownBytes.{prepend_known}
use Rattle.sm_io.proofs.Told.{loses_both}
use Rattle.sm_http.specs.declared.message.MessageSide.TheVariants.{Request as of_requests}
use Rattle.sm_http.specs.Calls.{ReadsAHead}
use Rattle.sm_http.proofs.ReadingMessages.{refused_body, refused_head}
use Rattle.sm_session.specs.steps.Feeding.{message_of}
use Rattle.sm_session.proofs.MessagesTaken.{message_taken}
use Rattle.sm_session.proofs.taking.take_request.Goals as goal

pub returns-in-Err-clause-bytes : goal.returns-in-Err-clause-bytes
returns-in-Err-clause-bytes g c =
    let ahead = prepend_known c.args.held.now (g.S.Source.left c.args.source.now) in
    let left = g.S.Source.left c.read_head.new.source in
    let now = prepend_known c.read_head.new.held left in
    refused_head of_requests ahead now now left c.in-Err.refusal c.in-Err.ensures.bytes

pub returns-in-Err-read_request-clause-bytes : goal.returns-in-Err-read_request-clause-bytes
returns-in-Err-read_request-clause-bytes g c =
    let ahead = prepend_known c.args.held.now (g.S.Source.left c.args.source.now) in
    let left = g.S.Source.left c.read_head.new.source in
    let now = prepend_known c.read_head.new.held left in
    refused_body of_requests ahead now now left (g.S.Source.left c.read_request.new.source) c.in-Ok-Some.found.0 c.in-Ok-Some.found.1
    c.in-Err-read_request.refusal
    (subst (λ f. ReadsAHead of_requests ahead now left (Ok f)) c.in-Ok-Some.field-0-is c.in-Ok-Some.ensures.bytes)
    c.in-Err-read_request.ensures.bytes

pub returns-in-Err-read_request-clause-taken : goal.returns-in-Err-read_request-clause-taken
returns-in-Err-read_request-clause-taken g c =
    loses_both (g.S.Source.left c.args.source.now) (g.S.Source.left c.read_head.new.source) (g.S.Source.left c.read_request.new.source)
    c.read_head.ensures.taken c.read_request.ensures.taken

pub returns-in-Ok-finish_request-clause-bytes : goal.returns-in-Ok-finish_request-clause-bytes
returns-in-Ok-finish_request-clause-bytes g c =
    let ahead = prepend_known c.args.held.now (g.S.Source.left c.args.source.now) in
    let left = g.S.Source.left c.read_head.new.source in
    let now = prepend_known c.read_head.new.held left in
    let whole = c.in-Ok.ensures.bytes in (
      whole.0,
      message_taken of_requests ahead now left (prepend_known c.read_request.new.held (g.S.Source.left c.read_request.new.source))
          c.in-Ok-Some.found.0 c.in-Ok-Some.found.1 whole.0
          (subst (λ f. ReadsAHead of_requests ahead now left (Ok f)) c.in-Ok-Some.field-0-is c.in-Ok-Some.ensures.bytes) whole.1,
      c.in-Ok-finish_request.ensures.comes (message_of c.in-Ok-Some.found.0 whole.0) whole.2,
    )

pub returns-in-Ok-finish_request-clause-taken : goal.returns-in-Ok-finish_request-clause-taken
returns-in-Ok-finish_request-clause-taken g c =
    loses_both (g.S.Source.left c.args.source.now) (g.S.Source.left c.read_head.new.source) (g.S.Source.left c.read_request.new.source)
    c.read_head.ensures.taken c.read_request.ensures.taken

pub returns-in-Err-finish_request-clause-taken : goal.returns-in-Err-finish_request-clause-taken
returns-in-Err-finish_request-clause-taken g c =
    loses_both (g.S.Source.left c.args.source.now) (g.S.Source.left c.read_head.new.source) (g.S.Source.left c.read_request.new.source)
    c.read_head.ensures.taken c.read_request.ensures.taken

pub finish_request-requires-clause-whole : goal.finish_request-requires-clause-whole
finish_request-requires-clause-whole g c = (message_of c.in-Ok-Some.found.0 c.in-Ok.ensures.bytes.0, c.in-Ok.ensures.bytes.2)
