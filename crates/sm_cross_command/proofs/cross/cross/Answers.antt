use Rattle.std.proofs.Common.{inl, refl, ◌∙◌}
use Rattle.sm_io.specs.Seen.{FilesSeen, files_seen, stream}
use Rattle.sm_compile.specs.Answers.{seen_store}
use Rattle.sm_asked_ends.specs.asked.CommandAsked.{FileFails}
use Rattle.sm_asked_ends.specs.asked.Outside.{Outside, inputs_seen, outside}
use Rattle.sm_asked_ends.proofs.EndsPrinted.{stop_ends}
use Rattle.sm_asked_gateway.proofs.asked_service.ServiceComes.{stands_before}
use Rattle.sm_cross_command.specs.Cross.{CrossAnswers, cross_asked}
use Rattle.sm_cross_command.specs.Cross.CrossSays.{not_opened}
use Rattle.sm_cross_command.specs.CrossView.{cross_said}
use Rattle.sm_cross_command.proofs.CrossEnds.{cross_ends, others_kept}
use Rattle.sm_cross_command.proofs.CrossReaches.{cross_reaches}
use Rattle.sm_cross_command.proofs.cross.cross.Goals as goal

pub run_opened-requires : goal.run_opened-requires
run_opened-requires g c = record {
  serves = c.in-Ok.ensures.serves;
  kept = c.in-Ok.ensures.kept;
  stored = c.in-Ok.ensures.stored;
  writes = (c.open.ensures.same_writes c.args.words.out_file.now).0 c.requires.writes;
}

pub returns-in-Ok-clause-ends : goal.returns-in-Ok-clause-ends
returns-in-Ok-clause-ends g c =
    let w = cross_said c.args.words in
    let input = stream (g.S.Source.left c.args.input.now) (g.S.Source.faults c.args.input.now) in
    let files1 = files_seen (g.F.Files.held c.open.new.files) (g.F.Files.read_faults c.open.new.files)
    (g.F.Files.write_faults c.open.new.files) in
    let before : Outside = outside
    (inputs_seen
    (files_seen (g.F.Files.held c.args.files.now) (g.F.Files.read_faults c.args.files.now) (g.F.Files.write_faults c.args.files.now))
    input g.P.Patterns.test
    (seen_store (g.P.Patterns.added c.args.patterns.now) (g.P.Patterns.refused c.args.patterns.now)
    (g.P.Patterns.refusals c.args.patterns.now)))
    (stream (g.K.Sink.written c.args.out.now) (g.K.Sink.faults c.args.out.now)) in
    let after : Outside = outside
    (inputs_seen
    (files_seen (g.F.Files.held c.run_opened.new.files) (g.F.Files.read_faults c.run_opened.new.files)
    (g.F.Files.write_faults c.run_opened.new.files))
    (stream (g.S.Source.left c.run_opened.new.input) (g.S.Source.faults c.run_opened.new.input)) g.P.Patterns.test
    (seen_store (g.P.Patterns.added c.run_opened.new.patterns) (g.P.Patterns.refused c.run_opened.new.patterns)
    (g.P.Patterns.refusals c.run_opened.new.patterns)))
    (stream (g.K.Sink.written c.run_opened.new.out) (g.K.Sink.faults c.run_opened.new.out)) in
    cross_ends c.one_service.ensures c.sound_models.ensures.services before after files1 w c.in-Ok.opened c.run_opened.result
    c.open.ensures.held c.open.ensures.write_faults (c.in-Ok.ensures.opens.1 (g.S.Source.left c.args.input.now))
    (c.run_opened.ensures.refusals ∙ c.in-Ok.ensures.opens.0) c.run_opened.ensures.runs

pub returns-in-Err-clause-ends : goal.returns-in-Err-clause-ends
returns-in-Err-clause-ends g c =
    let w = cross_said c.args.words in
    let input = stream (g.S.Source.left c.args.input.now) (g.S.Source.faults c.args.input.now) in
    let files : FilesSeen = files_seen (g.F.Files.held c.args.files.now) (g.F.Files.read_faults c.args.files.now)
    (g.F.Files.write_faults c.args.files.now) in
    let files1 : FilesSeen = files_seen (g.F.Files.held c.open.new.files) (g.F.Files.read_faults c.open.new.files)
    (g.F.Files.write_faults c.open.new.files) in
    let store = seen_store (g.P.Patterns.added c.args.patterns.now) (g.P.Patterns.refused c.args.patterns.now)
    (g.P.Patterns.refusals c.args.patterns.now) in
    let store1 = seen_store (g.P.Patterns.added c.open.new.patterns) (g.P.Patterns.refused c.open.new.patterns)
    (g.P.Patterns.refusals c.open.new.patterns) in
    let before : Outside = outside (inputs_seen files input g.P.Patterns.test store)
    (stream (g.K.Sink.written c.args.out.now) (g.K.Sink.faults c.args.out.now)) in
    let after : Outside = outside (inputs_seen files1 input g.P.Patterns.test store1)
    (stream (g.K.Sink.written c.print_stop.new.out) (g.K.Sink.faults c.print_stop.new.out)) in
    stop_ends before after (cross_asked w) (cross_reaches w) c.open.ensures.held (FileFails before.inputs after.inputs)
    (λ fails same. inl (fails, same)) c.in-Err.stop c.print_stop.result
    (stands_before files files1 input g.P.Patterns.test store store1 (cross_asked w) (λ t a. CrossAnswers t w a) c.open.ensures.held
    (λ t a h. not_opened a h refl) c.in-Err.stop c.in-Err.ensures.opens)
    c.print_stop.ensures.prints

pub returns-in-Err-clause-others : goal.returns-in-Err-clause-others
returns-in-Err-clause-others g c =
    others_kept (g.F.Files.held c.args.files.now) (g.F.Files.held c.open.new.files) c.args.words.out_file.now c.open.ensures.held
