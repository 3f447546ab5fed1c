use Rattle.std.proofs.Common.{inl, inr, refl}
use Rattle.sm_io.specs.Seen.{files_seen}
use Rattle.sm_compile.specs.Answers.{seen_store}
use Rattle.sm_asked_gateway.specs.gateway.GatewayView.{gateway_data}
use Rattle.sm_serve.specs.ServeView.{serve_said}
use Rattle.sm_serve.proofs.ServesWhole.{served_whole}
use Rattle.sm_serve.proofs.serving.serve.Goals as goal

pub listen_and_serve-requires : goal.listen_and_serve-requires
listen_and_serve-requires g c = record {
  serves = c.in-Ok.ensures.serves;
  kept = c.in-Ok.ensures.kept;
  stored = c.in-Ok.ensures.stored;
  lets = c.requires.lets (serve_said c.in-Some.form) c.in-Some.ensures;
  shut = c.requires.shut;
}

pub returns-in-Some-clause-serves : goal.returns-in-Some-clause-serves
returns-in-Some-clause-serves g c =
    inr (served_whole c.args.words.now
    (files_seen (g.F.Files.held c.args.files.now) (g.F.Files.read_faults c.args.files.now) (g.F.Files.write_faults c.args.files.now))
    g.P.Patterns.test
    (seen_store (g.P.Patterns.added c.args.patterns.now) (g.P.Patterns.refused c.args.patterns.now)
    (g.P.Patterns.refusals c.args.patterns.now))
    (seen_store (g.P.Patterns.added c.start.new.patterns) (g.P.Patterns.refused c.start.new.patterns)
    (g.P.Patterns.refusals c.start.new.patterns))
    (seen_store (g.P.Patterns.added c.listen_and_serve.new.patterns) (g.P.Patterns.refused c.listen_and_serve.new.patterns)
    (g.P.Patterns.refusals c.listen_and_serve.new.patterns))
    (g.D.Doors.seen c.args.doors.now) (g.D.Doors.seen c.listen_and_serve.new.doors) (g.D.Doors.faults c.args.doors.now)
    (g.D.Doors.faults c.listen_and_serve.new.doors) c.listen_and_serve.result (gateway_data c.in-Ok.gateway)
    (serve_said c.in-Some.form) c.in-Some.ensures c.in-Ok.ensures.starts c.listen_and_serve.ensures.refusals
    c.listen_and_serve.ensures.serves)

pub returns-in-Ok-clause-serves : goal.returns-in-Ok-clause-serves
returns-in-Ok-clause-serves g c = absurd (c.in-None.ensures c.in-Ok.ensures.starts.0 c.in-Ok.ensures.starts.1)

pub returns-clause-serves : goal.returns-clause-serves
returns-clause-serves g c = inl (record { stops = c.in-Err.ensures.starts; same = refl; quiet = refl })
