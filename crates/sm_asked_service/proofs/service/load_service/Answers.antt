use Rattle.std.proofs.Common.{subst, sym}
use Rattle.sm_io.specs.Seen.{files_seen}
use Rattle.sm_model.specs.GraphView.{maps_of}
use Rattle.sm_compile.specs.Answers.{seen_store}
use Rattle.sm_rules.specs.Ready.{Ready}
use Rattle.sm_service.specs.ServiceView.{service_data}
use Rattle.sm_asked_service.proofs.ServicesLoaded.{models_stop, service_loaded, service_stopped}
use Rattle.sm_asked_service.proofs.ServicesMade.{service_ready}
use Rattle.sm_asked_service.proofs.service.load_service.Goals as goal

pub returns-in-Err-clause-loads : goal.returns-in-Err-clause-loads
returns-in-Err-clause-loads g c =
    models_stop (files_seen (g.F.Files.held c.args.files.now) (g.F.Files.read_faults c.args.files.now)
    (g.F.Files.write_faults c.args.files.now))
    (files_seen (g.F.Files.held c.load_models.new.files) (g.F.Files.read_faults c.load_models.new.files)
    (g.F.Files.write_faults c.load_models.new.files))
    g.P.Patterns.test
    (seen_store (g.P.Patterns.added c.args.patterns.now) (g.P.Patterns.refused c.args.patterns.now)
    (g.P.Patterns.refusals c.args.patterns.now))
    c.args.models.now c.args.service.now c.in-Err.stop c.in-Err.ensures.loads

pub service_named-made-requires : goal.service_named-made-requires
service_named-made-requires g c =
    let loads = c.in-Ok.ensures.loads in
    subst (λ x. Ready x c.args.service.now) (sym loads.1)
    (c.sound_models.ensures.services loads.0.texts.read loads.0.graph loads.0.accepted c.args.service.now)

pub with_defaults-requires : goal.with_defaults-requires
with_defaults-requires g c =
    service_ready (maps_of c.in-Ok.model.graph) c.args.service.now g.P.Patterns.test
    (seen_store (g.P.Patterns.added c.args.patterns.now) (g.P.Patterns.refused c.args.patterns.now)
    (g.P.Patterns.refusals c.args.patterns.now))
    (seen_store (g.P.Patterns.added c.service_named-made.new.patterns) (g.P.Patterns.refused c.service_named-made.new.patterns)
    (g.P.Patterns.refusals c.service_named-made.new.patterns))
    (service_data c.in-Ok-made.one) c.in-Ok-made.ensures.makes

pub returns-in-Ok-with_defaults-clause-loads : goal.returns-in-Ok-with_defaults-clause-loads
returns-in-Ok-with_defaults-clause-loads g c =
    service_loaded (files_seen (g.F.Files.held c.args.files.now) (g.F.Files.read_faults c.args.files.now)
    (g.F.Files.write_faults c.args.files.now))
    (files_seen (g.F.Files.held c.load_models.new.files) (g.F.Files.read_faults c.load_models.new.files)
    (g.F.Files.write_faults c.load_models.new.files))
    g.P.Patterns.test
    (seen_store (g.P.Patterns.added c.args.patterns.now) (g.P.Patterns.refused c.args.patterns.now)
    (g.P.Patterns.refusals c.args.patterns.now))
    (seen_store (g.P.Patterns.added c.with_defaults.new.patterns) (g.P.Patterns.refused c.with_defaults.new.patterns)
    (g.P.Patterns.refusals c.with_defaults.new.patterns))
    c.args.models.now c.args.service.now c.in-Ok.model
    (seen_store (g.P.Patterns.added c.service_named-made.new.patterns) (g.P.Patterns.refused c.service_named-made.new.patterns)
    (g.P.Patterns.refusals c.service_named-made.new.patterns))
    c.in-Ok-made.one c.in-Ok-with_defaults.service c.in-Ok.ensures.loads c.in-Ok-made.ensures.makes c.with_defaults.ensures.refusals
    c.in-Ok-with_defaults.ensures.filled

pub returns-in-Err-made-clause-loads : goal.returns-in-Err-made-clause-loads
returns-in-Err-made-clause-loads g c =
    service_stopped (files_seen (g.F.Files.held c.args.files.now) (g.F.Files.read_faults c.args.files.now)
    (g.F.Files.write_faults c.args.files.now))
    (files_seen (g.F.Files.held c.load_models.new.files) (g.F.Files.read_faults c.load_models.new.files)
    (g.F.Files.write_faults c.load_models.new.files))
    g.P.Patterns.test
    (seen_store (g.P.Patterns.added c.args.patterns.now) (g.P.Patterns.refused c.args.patterns.now)
    (g.P.Patterns.refusals c.args.patterns.now))
    (seen_store (g.P.Patterns.added c.service_named-made.new.patterns) (g.P.Patterns.refused c.service_named-made.new.patterns)
    (g.P.Patterns.refusals c.service_named-made.new.patterns))
    c.args.models.now c.args.service.now c.in-Ok.model c.in-Err-made.stop c.in-Ok.ensures.loads c.in-Err-made.ensures.makes
