use Rattle.sm_idl.specs.steps.ReaderView.{left}
use Rattle.sm_idl.specs.steps.Firm.{HeadIs}
use Rattle.sm_idl.proofs.NodeRows.{refused}
use Rattle.std.proofs.Common.{◌≡◌, [], Some, subst}
use Rattle.sm_model.specs.RawView.{raw_members_view}
use Rattle.sm_idl.specs.steps.FileClasses.{Namespace}
use Rattle.sm_idl.specs.steps.FileSteps.{no_namespace, BeginSaid}
use Rattle.sm_idl.proofs.ReadFile.{beginning_stop, no_more_stop}
use Rattle.sm_idl.proofs.reader.Reader.file.Goals as goal

pub returns-in-Err : goal.returns-in-Err
returns-in-Err c = beginning_stop (Some no_namespace) (left c.args.self.now) (left c.beginning.new.self) c.in-Err.stop c.in-Err.ensures

pub returns-then-is_at_end : goal.returns-then-is_at_end
returns-then-is_at_end c =
    c.without_namespace.ensures (raw_members_view c.in-Ok.field-0.controls.items) (raw_members_view c.in-Ok.field-0.metadata.items)
    (subst (λ z. BeginSaid (Some no_namespace) (raw_members_view c.in-Ok.field-0.controls.items)
    (raw_members_view c.in-Ok.field-0.metadata.items) (left c.args.self.now) z) (c.is_at_end.ensures.0 c.if-is_at_end.true)
    c.in-Ok.ensures)

pub returns-then-is_at_word : goal.returns-then-is_at_word
returns-then-is_at_word c =
    c.with_namespace.ensures (raw_members_view c.in-Ok.field-0.controls.items) (raw_members_view c.in-Ok.field-0.metadata.items)
    c.in-Ok.ensures (c.is_at_word.ensures.0 c.if-is_at_word.true)

pub returns : goal.returns
returns c =
    no_more_stop (raw_members_view c.in-Ok.field-0.controls.items) (raw_members_view c.in-Ok.field-0.metadata.items)
    (left c.args.self.now) (left c.beginning.new.self) c.in-Ok.ensures
    (refused c.is_at_word.result (HeadIs Namespace (left c.beginning.new.self)) c.is_at_word.ensures c.if-is_at_word.false)
    (refused c.is_at_end.result ((left c.beginning.new.self) ≡ []) c.is_at_end.ensures c.if-is_at_end.false)
