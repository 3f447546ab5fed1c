use Rattle.sm_io.specs.Seen.{files_seen}
use Rattle.sm_compile.specs.Answers.{seen_store}
use Rattle.sm_cross_command.specs.CrossView.{cross_said}
use Rattle.sm_cross_command.proofs.CrossOpened.{cross_opens, opened_serves, opened_stored, service_stops}
use Rattle.sm_cross_command.proofs.cross.open.Goals as goal

pub open_service-requires : goal.open_service-requires
open_service-requires g c = record {
  servable = c.in-Ok.ensures.served.servable;
  host = c.requires.host;
  reads = (c.load_service.ensures.same_reads c.args.words.back_file.now).0 c.requires.reads;
}

pub returns-in-Ok-clause-opens : goal.returns-in-Ok-clause-opens
returns-in-Ok-clause-opens g c =
    cross_opens
    (files_seen (g.F.Files.held c.args.files.now) (g.F.Files.read_faults c.args.files.now) (g.F.Files.write_faults c.args.files.now))
    (files_seen (g.F.Files.held c.load_service.new.files) (g.F.Files.read_faults c.load_service.new.files)
    (g.F.Files.write_faults c.load_service.new.files))
    (files_seen (g.F.Files.held c.open_service.new.files) (g.F.Files.read_faults c.open_service.new.files)
    (g.F.Files.write_faults c.open_service.new.files))
    g.P.Patterns.test
    (seen_store (g.P.Patterns.added c.args.patterns.now) (g.P.Patterns.refused c.args.patterns.now)
    (g.P.Patterns.refusals c.args.patterns.now))
    (seen_store (g.P.Patterns.added c.load_service.new.patterns) (g.P.Patterns.refused c.load_service.new.patterns)
    (g.P.Patterns.refusals c.load_service.new.patterns))
    (cross_said c.args.words) c.in-Ok.service c.in-Ok.ensures.loads c.load_service.ensures.held c.load_service.ensures.read_faults
    c.open_service.result c.open_service.ensures.opens

pub returns-in-Ok-clause-serves : goal.returns-in-Ok-clause-serves
returns-in-Ok-clause-serves g c =
    opened_serves
    (files_seen (g.F.Files.held c.args.files.now) (g.F.Files.read_faults c.args.files.now) (g.F.Files.write_faults c.args.files.now))
    (files_seen (g.F.Files.held c.load_service.new.files) (g.F.Files.read_faults c.load_service.new.files)
    (g.F.Files.write_faults c.load_service.new.files))
    (files_seen (g.F.Files.held c.open_service.new.files) (g.F.Files.read_faults c.open_service.new.files)
    (g.F.Files.write_faults c.open_service.new.files))
    g.P.Patterns.test
    (seen_store (g.P.Patterns.added c.args.patterns.now) (g.P.Patterns.refused c.args.patterns.now)
    (g.P.Patterns.refusals c.args.patterns.now))
    (seen_store (g.P.Patterns.added c.load_service.new.patterns) (g.P.Patterns.refused c.load_service.new.patterns)
    (g.P.Patterns.refusals c.load_service.new.patterns))
    (cross_said c.args.words) c.in-Ok.service c.in-Ok.ensures.loads c.load_service.ensures.held c.load_service.ensures.read_faults
    (g.P.Patterns.added c.load_service.new.patterns) c.in-Ok.ensures.served c.target_texts.ensures c.open_service.result
    c.open_service.ensures.opens

pub returns-in-Ok-clause-stored : goal.returns-in-Ok-clause-stored
returns-in-Ok-clause-stored g c =
    opened_stored
    (files_seen (g.F.Files.held c.args.files.now) (g.F.Files.read_faults c.args.files.now) (g.F.Files.write_faults c.args.files.now))
    (files_seen (g.F.Files.held c.load_service.new.files) (g.F.Files.read_faults c.load_service.new.files)
    (g.F.Files.write_faults c.load_service.new.files))
    (files_seen (g.F.Files.held c.open_service.new.files) (g.F.Files.read_faults c.open_service.new.files)
    (g.F.Files.write_faults c.open_service.new.files))
    g.P.Patterns.test
    (seen_store (g.P.Patterns.added c.args.patterns.now) (g.P.Patterns.refused c.args.patterns.now)
    (g.P.Patterns.refusals c.args.patterns.now))
    (seen_store (g.P.Patterns.added c.load_service.new.patterns) (g.P.Patterns.refused c.load_service.new.patterns)
    (g.P.Patterns.refusals c.load_service.new.patterns))
    (cross_said c.args.words) c.in-Ok.service c.in-Ok.ensures.loads c.load_service.ensures.held c.load_service.ensures.read_faults
    (g.P.Patterns.added c.load_service.new.patterns) c.in-Ok.ensures.served c.open_service.result c.open_service.ensures.opens

pub returns-in-Err-clause-opens : goal.returns-in-Err-clause-opens
returns-in-Err-clause-opens g c =
    service_stops
    (files_seen (g.F.Files.held c.args.files.now) (g.F.Files.read_faults c.args.files.now) (g.F.Files.write_faults c.args.files.now))
    (files_seen (g.F.Files.held c.load_service.new.files) (g.F.Files.read_faults c.load_service.new.files)
    (g.F.Files.write_faults c.load_service.new.files))
    g.P.Patterns.test
    (seen_store (g.P.Patterns.added c.args.patterns.now) (g.P.Patterns.refused c.args.patterns.now)
    (g.P.Patterns.refusals c.args.patterns.now))
    (seen_store (g.P.Patterns.added c.load_service.new.patterns) (g.P.Patterns.refused c.load_service.new.patterns)
    (g.P.Patterns.refusals c.load_service.new.patterns))
    (cross_said c.args.words) c.in-Err.stop c.in-Err.ensures.loads
