use Rattle.sm_io.specs.Seen.{files_seen}
use Rattle.sm_compile.specs.Answers.{seen_store}
use Rattle.sm_gateway.specs.GatewayView.{gateway_data}
use Rattle.sm_asked_gateway.specs.GatewayView.{gateway_asked}
use Rattle.sm_asked_gateway.proofs.GatewaysMade.{gateway_made, made_serves, made_stored}
use Rattle.sm_asked_gateway.proofs.making.make_gateway.Goals as goal

pub returns-in-Ok-new-clause-makes : goal.returns-in-Ok-new-clause-makes
returns-in-Ok-new-clause-makes g c =
    gateway_made
    (files_seen (g.F.Files.held c.args.files.now) (g.F.Files.read_faults c.args.files.now) (g.F.Files.write_faults c.args.files.now))
    (files_seen (g.F.Files.held c.load_service.new.files) (g.F.Files.read_faults c.load_service.new.files)
    (g.F.Files.write_faults c.load_service.new.files))
    g.P.Patterns.test
    (seen_store (g.P.Patterns.added c.args.patterns.now) (g.P.Patterns.refused c.args.patterns.now)
    (g.P.Patterns.refusals c.args.patterns.now))
    (seen_store (g.P.Patterns.added c.load_service.new.patterns) (g.P.Patterns.refused c.load_service.new.patterns)
    (g.P.Patterns.refusals c.load_service.new.patterns))
    (gateway_asked c.args.words) c.in-Ok.service c.in-Ok.ensures.loads (gateway_data c.in-Ok-new.gateway) c.in-Ok-new.ensures.gateway

pub returns-in-Ok-new-clause-serves : goal.returns-in-Ok-new-clause-serves
returns-in-Ok-new-clause-serves g c =
    made_serves
    (files_seen (g.F.Files.held c.args.files.now) (g.F.Files.read_faults c.args.files.now) (g.F.Files.write_faults c.args.files.now))
    (files_seen (g.F.Files.held c.load_service.new.files) (g.F.Files.read_faults c.load_service.new.files)
    (g.F.Files.write_faults c.load_service.new.files))
    g.P.Patterns.test
    (seen_store (g.P.Patterns.added c.args.patterns.now) (g.P.Patterns.refused c.args.patterns.now)
    (g.P.Patterns.refusals c.args.patterns.now))
    (seen_store (g.P.Patterns.added c.load_service.new.patterns) (g.P.Patterns.refused c.load_service.new.patterns)
    (g.P.Patterns.refusals c.load_service.new.patterns))
    (gateway_asked c.args.words) c.in-Ok.service c.in-Ok.ensures.loads (gateway_data c.in-Ok-new.gateway) c.in-Ok-new.ensures.gateway
    (g.P.Patterns.added c.load_service.new.patterns) c.in-Ok.ensures.served c.target_texts.ensures

pub returns-in-Ok-new-clause-stored : goal.returns-in-Ok-new-clause-stored
returns-in-Ok-new-clause-stored g c =
    made_stored
    (files_seen (g.F.Files.held c.args.files.now) (g.F.Files.read_faults c.args.files.now) (g.F.Files.write_faults c.args.files.now))
    (files_seen (g.F.Files.held c.load_service.new.files) (g.F.Files.read_faults c.load_service.new.files)
    (g.F.Files.write_faults c.load_service.new.files))
    g.P.Patterns.test
    (seen_store (g.P.Patterns.added c.args.patterns.now) (g.P.Patterns.refused c.args.patterns.now)
    (g.P.Patterns.refusals c.args.patterns.now))
    (seen_store (g.P.Patterns.added c.load_service.new.patterns) (g.P.Patterns.refused c.load_service.new.patterns)
    (g.P.Patterns.refusals c.load_service.new.patterns))
    (gateway_asked c.args.words) c.in-Ok.service c.in-Ok.ensures.loads (gateway_data c.in-Ok-new.gateway) c.in-Ok-new.ensures.gateway
    (g.P.Patterns.added c.load_service.new.patterns) c.in-Ok.ensures.served
