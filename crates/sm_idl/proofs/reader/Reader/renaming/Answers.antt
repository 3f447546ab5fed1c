use Rattle.sm_idl.specs.steps.ReaderView.{left}
use Rattle.sm_model.specs.RawView.{raw_view}
use Rattle.sm_idl.proofs.ReadFields.{keyed_key_stop, keyed_colon_stop, keyed_value_stop, keyed_read, paired}
use Rattle.sm_idl.specs.Bodies.{new_name}
use Rattle.sm_idl.specs.steps.FieldSteps.{id_key}
use Rattle.sm_idl.proofs.ReadFields.{id_key_firm}
use Rattle.sm_idl.proofs.reader.Reader.renaming.Goals as goal

pub returns-in-Err-clause-reads : goal.returns-in-Err-clause-reads
returns-in-Err-clause-reads c = λ before seen.
    keyed_key_stop (id_key before) (id_key_firm before) (λ _. new_name) paired (left c.args.self.now) (left c.id_key.new.self)
    c.in-Err.stop (c.in-Err.ensures.reads before seen)

pub returns-in-Err-mark-clause-reads : goal.returns-in-Err-mark-clause-reads
returns-in-Err-mark-clause-reads c = λ before seen.
    keyed_colon_stop (id_key before) (id_key_firm before) (λ _. new_name) paired c.in-Ok.key (left c.args.self.now)
    (left c.id_key.new.self) (left c.mark.new.self) c.in-Err-mark.stop (c.in-Ok.ensures.reads before seen) c.in-Err-mark.ensures

pub returns-in-Err-new_name-clause-reads : goal.returns-in-Err-new_name-clause-reads
returns-in-Err-new_name-clause-reads c = λ before seen.
    keyed_value_stop (id_key before) (id_key_firm before) (λ _. new_name) paired c.in-Ok.key (left c.args.self.now)
    (left c.id_key.new.self) (left c.mark.new.self) (left c.new_name.new.self) c.in-Err-new_name.stop
    (c.in-Ok.ensures.reads before seen) c.in-Ok-mark.ensures c.in-Err-new_name.ensures

pub returns-in-Ok-new_name-clause-reads : goal.returns-in-Ok-new_name-clause-reads
returns-in-Ok-new_name-clause-reads c = λ before seen.
    keyed_read (id_key before) (id_key_firm before) (λ _. new_name) paired c.in-Ok.key (raw_view c.in-Ok-new_name.node)
    (left c.args.self.now) (left c.id_key.new.self) (left c.mark.new.self) (left c.new_name.new.self)
    (c.in-Ok.ensures.reads before seen) c.in-Ok-mark.ensures c.in-Ok-new_name.ensures
