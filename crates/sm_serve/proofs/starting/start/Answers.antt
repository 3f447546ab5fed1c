use Rattle.std.proofs.Common.{ap, ◌∙◌}
use Rattle.sm_io.specs.Seen.{files_seen}
use Rattle.sm_compile.specs.Answers.{seen_store}
use Rattle.sm_asked_gateway.specs.asked.Answer.{code_of}
use Rattle.sm_serve.specs.ServeView.{serve_said}
use Rattle.sm_serve.specs.steps.StopStatuses.{stop_status}
use Rattle.sm_serve.proofs.StartStops.{stops_so}
use Rattle.sm_serve.proofs.starting.start.Goals as goal

pub make_gateway-requires : goal.make_gateway-requires
make_gateway-requires g c = record {
  host = c.in-Some.ensures.asks.host;
  models = λ name among. c.requires.reads (serve_said c.in-Some.form) name c.in-Some.ensures among;
}

pub returns-in-Ok-clause-starts : goal.returns-in-Ok-clause-starts
returns-in-Ok-clause-starts g c = (serve_said c.in-Some.form, c.in-Some.ensures, c.in-Ok.ensures.makes)

pub returns-in-Err-clause-starts : goal.returns-in-Err-clause-starts
returns-in-Err-clause-starts g c = (
  stop_status c.in-Err.stop,
  c.code-in-Err.ensures ∙ ap code_of c.stop_status.ensures,
  stops_so c.args.words.now
      (files_seen (g.F.Files.held c.args.files.now) (g.F.Files.read_faults c.args.files.now) (g.F.Files.write_faults c.args.files.now))
      (files_seen (g.F.Files.held c.make_gateway.new.files) (g.F.Files.read_faults c.make_gateway.new.files)
      (g.F.Files.write_faults c.make_gateway.new.files))
      g.P.Patterns.test
      (seen_store (g.P.Patterns.added c.args.patterns.now) (g.P.Patterns.refused c.args.patterns.now)
      (g.P.Patterns.refusals c.args.patterns.now))
      (seen_store (g.P.Patterns.added c.make_gateway.new.patterns) (g.P.Patterns.refused c.make_gateway.new.patterns)
      (g.P.Patterns.refusals c.make_gateway.new.patterns))
      (serve_said c.in-Some.form) c.in-Some.ensures c.in-Err.stop c.in-Err.ensures.makes,
)
