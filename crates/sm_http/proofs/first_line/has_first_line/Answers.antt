use Rattle.std.proofs.Common.{ap, ◌∙◌, drop}
use Rattle.sm_http.specs.Heads.{has_line_feed}
use Rattle.sm_http.proofs.Cuts.{rest_of}
use Rattle.sm_http.proofs.FirstLine.{behind_blank}
use Rattle.sm_http.proofs.first_line.has_first_line.Goals as goal

pub returns : goal.returns
returns c =
    c.has_line_feed.ensures ∙ ap has_line_feed (rest_of c.args.bytes.now c.run_len.result)
    ∙ ap (λ n. has_line_feed (drop n c.args.bytes.now)) c.run_len.ensures.run ∙ behind_blank c.args.bytes.now
