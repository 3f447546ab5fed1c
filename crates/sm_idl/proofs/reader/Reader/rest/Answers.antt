use Rattle.sm_idl.specs.steps.ReaderView.{left}
use Rattle.sm_idl.specs.steps.HomeView.{home_of_file}
use Rattle.sm_idl.proofs.NodeRows.{refused}
use Rattle.std.proofs.Common.{◌≡◌, Some, [], ap, ◌∙◌}
use Rattle.sm_idl.specs.Bodies.{suffixes}
use Rattle.sm_model.specs.RawView.{raw_members_view}
use Rattle.sm_model.specs.SaidView.{statements_view}
use Rattle.sm_idl.specs.steps.PartSteps.{suffixes_view}
use Rattle.sm_idl.proofs.ReadFile.{beginning_stop, items_stopped, items_behind, file_said}
use Rattle.sm_idl.proofs.reader.Reader.rest.Goals as goal

pub returns-in-Err : goal.returns-in-Err
returns-in-Err c = λ k.
    beginning_stop (Some (home_of_file c.args.home.now)) (left c.args.start) (left c.beginning.new.self) c.in-Err.stop c.in-Err.ensures

pub returns-in-Err-statements : goal.returns-in-Err-statements
returns-in-Err-statements c = λ k.
    items_stopped (home_of_file c.args.home.now) (left c.args.start) (left c.args.self.now) k
    (raw_members_view c.in-Ok.beginning.controls.items) (raw_members_view c.in-Ok.beginning.metadata.items) (left c.beginning.new.self)
    c.in-Ok.ensures (suffixes_view c.in-Ok-suffixes.endings) (c.in-Ok-suffixes.ensures
    ∙ ap (λ l. suffixes (raw_members_view l)) c.as_slice.ensures.value) (left c.statements.new.self) c.in-Err-statements.stop
    c.in-Err-statements.ensures

pub returns-then-is_at_end : goal.returns-then-is_at_end
returns-then-is_at_end c = λ k.
    file_said (home_of_file c.args.home.now) (left c.args.start) (left c.args.self.now) k
    (raw_members_view c.in-Ok.beginning.controls.items) (raw_members_view c.in-Ok.beginning.metadata.items) (left c.beginning.new.self)
    c.in-Ok.ensures (suffixes_view c.in-Ok-suffixes.endings) (c.in-Ok-suffixes.ensures
    ∙ ap (λ l. suffixes (raw_members_view l)) c.as_slice.ensures.value) c.in-Ok-statements.ensures.0 (left c.statements.new.self)
    (statements_view c.in-Ok-metadata_statements.statements.items) (statements_view c.statements.new.statements.items)
    c.in-Ok-statements.ensures.2 (c.is_at_end.ensures.0 c.if-is_at_end.true) c.in-Ok-metadata_statements.ensures
    c.in-Ok-statements.ensures.1

pub returns : goal.returns
returns c = λ k.
    items_behind (home_of_file c.args.home.now) (left c.args.start) (left c.args.self.now) k
    (raw_members_view c.in-Ok.beginning.controls.items) (raw_members_view c.in-Ok.beginning.metadata.items) (left c.beginning.new.self)
    c.in-Ok.ensures (suffixes_view c.in-Ok-suffixes.endings) (c.in-Ok-suffixes.ensures
    ∙ ap (λ l. suffixes (raw_members_view l)) c.as_slice.ensures.value) c.in-Ok-statements.ensures.0 (left c.statements.new.self)
    c.in-Ok-statements.ensures.2 (refused c.is_at_end.result ((left c.statements.new.self) ≡ []) c.is_at_end.ensures
    c.if-is_at_end.false)
