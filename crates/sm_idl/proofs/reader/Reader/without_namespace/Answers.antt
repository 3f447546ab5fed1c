use Rattle.sm_idl.specs.steps.ReaderView.{left}
use Rattle.std.proofs.Common.{[], None, Some, ◌∙◌, sym, refl, append-nil, subst}
use Rattle.sm_model.specs.RawView.{raw_members_view}
use Rattle.sm_idl.specs.steps.FileSteps.{no_namespace, BeginSaid}
use Rattle.sm_idl.specs.Idl.{metadata_statements}
use Rattle.sm_idl.proofs.ReadFile.{beginning_stop, one_beginning, plain_file, without_namespace}
use Rattle.sm_idl.proofs.reader.Reader.without_namespace.Goals as goal

pub returns-in-Err : goal.returns-in-Err
returns-in-Err c = λ cs ms begins.
    beginning_stop None (left c.args.self.now) (left c.beginning.new.self) c.in-Err.stop c.in-Err.ensures

pub returns-in-Ok-metadata_statements : goal.returns-in-Ok-metadata_statements
returns-in-Ok-metadata_statements c = λ cs ms begins.
    let ends = one_beginning None (Some no_namespace) (raw_members_view c.in-Ok.beginning.controls.items)
    (raw_members_view c.in-Ok.beginning.metadata.items) cs ms (left c.args.self.now) (left c.beginning.new.self) [] c.in-Ok.ensures
    begins in (
      plain_file (raw_members_view c.in-Ok.beginning.controls.items) (raw_members_view c.in-Ok.beginning.metadata.items),
      refl,
      append-nil (metadata_statements (raw_members_view c.in-Ok.beginning.metadata.items))
          ∙ sym c.in-Ok-metadata_statements.ensures,
      without_namespace (raw_members_view c.in-Ok.beginning.controls.items)
          (raw_members_view c.in-Ok.beginning.metadata.items) (left c.args.self.now)
          (subst (λ z. BeginSaid None (raw_members_view c.in-Ok.beginning.controls.items)
          (raw_members_view c.in-Ok.beginning.metadata.items)
          (left c.args.self.now) z) ends c.in-Ok.ensures),
    )
