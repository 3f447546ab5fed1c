use Rattle.std.proofs.Common.{subst, Ok}
use Rattle.std.specs.Io.KnownBytes.{prepend_known}
use Rattle.sm_io.proofs.Told.{loses_both}
use Rattle.sm_http.specs.declared.message.MessageSide.TheVariants.{Response as of_responses}
use Rattle.sm_http.specs.Calls.{ReadsAHead}
use Rattle.sm_http.proofs.ReadingMessages.{refused_body, refused_head}
use Rattle.sm_session.specs.steps.Feeding.{message_of}
use Rattle.sm_session.proofs.MessagesTaken.{message_taken}
use Rattle.sm_session.proofs.taking.take_reply.Goals as goal

pub returns-in-Err-clause-bytes : goal.returns-in-Err-clause-bytes
returns-in-Err-clause-bytes g c =
    let ahead = prepend_known c.args.held.now (g.S.Source.left c.args.source.now) in
    let left = g.S.Source.left c.read_head.new.source in
    let now = prepend_known c.read_head.new.held left in
    refused_head of_responses ahead now now left c.in-Err.refusal c.in-Err.ensures.bytes

pub returns-in-Err-read_reply-clause-bytes : goal.returns-in-Err-read_reply-clause-bytes
returns-in-Err-read_reply-clause-bytes g c =
    let ahead = prepend_known c.args.held.now (g.S.Source.left c.args.source.now) in
    let left = g.S.Source.left c.read_head.new.source in
    let now = prepend_known c.read_head.new.held left in
    refused_body of_responses ahead now now left (g.S.Source.left c.read_reply.new.source) c.in-Ok-Some.found.0 c.in-Ok-Some.found.1
    c.in-Err-read_reply.refusal
    (subst (λ f. ReadsAHead of_responses ahead now left (Ok f)) c.in-Ok-Some.field-0-is c.in-Ok-Some.ensures.bytes)
    c.in-Err-read_reply.ensures.bytes

pub returns-in-Err-read_reply-clause-taken : goal.returns-in-Err-read_reply-clause-taken
returns-in-Err-read_reply-clause-taken g c =
    loses_both (g.S.Source.left c.args.source.now) (g.S.Source.left c.read_head.new.source) (g.S.Source.left c.read_reply.new.source)
    c.read_head.ensures.taken c.read_reply.ensures.taken

pub returns-in-Ok-finish_reply-clause-bytes : goal.returns-in-Ok-finish_reply-clause-bytes
returns-in-Ok-finish_reply-clause-bytes g c m call =
    let ahead = prepend_known c.args.held.now (g.S.Source.left c.args.source.now) in
    let left = g.S.Source.left c.read_head.new.source in
    let now = prepend_known c.read_head.new.held left in
    let whole = c.in-Ok.ensures.bytes in (
      message_of c.in-Ok-Some.found.0 whole.0,
      message_taken of_responses ahead now left (prepend_known c.read_reply.new.held (g.S.Source.left c.read_reply.new.source))
          c.in-Ok-Some.found.0 c.in-Ok-Some.found.1 whole.0
          (subst (λ f. ReadsAHead of_responses ahead now left (Ok f)) c.in-Ok-Some.field-0-is c.in-Ok-Some.ensures.bytes) whole.1,
      c.in-Ok-finish_reply.ensures.replies m (message_of c.in-Ok-Some.found.0 whole.0) (whole.2 m call),
      c.says_close-closes.ensures,
    )

pub returns-in-Ok-finish_reply-clause-taken : goal.returns-in-Ok-finish_reply-clause-taken
returns-in-Ok-finish_reply-clause-taken g c =
    loses_both (g.S.Source.left c.args.source.now) (g.S.Source.left c.read_head.new.source) (g.S.Source.left c.read_reply.new.source)
    c.read_head.ensures.taken c.read_reply.ensures.taken

pub returns-clause-taken : goal.returns-clause-taken
returns-clause-taken g c =
    loses_both (g.S.Source.left c.args.source.now) (g.S.Source.left c.read_head.new.source) (g.S.Source.left c.read_reply.new.source)
    c.read_head.ensures.taken c.read_reply.ensures.taken

pub finish_reply-requires-clause-whole : goal.finish_reply-requires-clause-whole
finish_reply-requires-clause-whole g c = (
  c.requires.asked.0,
  message_of c.in-Ok-Some.found.0 c.in-Ok.ensures.bytes.0,
  c.in-Ok.ensures.bytes.2 c.requires.asked.0 c.requires.asked.1,
)
