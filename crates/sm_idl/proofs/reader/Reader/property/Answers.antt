use Rattle.sm_idl.specs.steps.ReaderView.{left}
use Rattle.sm_idl.specs.steps.HomeView.{home_of_file}
use Rattle.sm_model.specs.RawView.{raw_view}
use Rattle.sm_idl.proofs.ReadFields.{keyed_key_stop, keyed_colon_stop, keyed_value_stop, keyed_read}
use Rattle.sm_model.specs.Properties.{property_forms}
use Rattle.sm_idl.specs.Productions.{one}
use Rattle.sm_idl.specs.Bodies.{FieldNamed, field_value}
use Rattle.sm_idl.proofs.ReadFields.{under_name, field_key_firm}
use Rattle.sm_idl.proofs.reader.Reader.property.Goals as goal

pub returns-in-Err-clause-reads : goal.returns-in-Err-clause-reads
returns-in-Err-clause-reads c = λ before seen.
    keyed_key_stop (one (FieldNamed (property_forms c.args.kind) before)) (field_key_firm (property_forms c.args.kind) before)
    (λ f. field_value (home_of_file c.args.home.now) f.1) under_name (left c.args.self.now) (left c.field_key.new.self) c.in-Err.stop
    (c.in-Err.ensures.reads before seen)

pub returns-in-Err-mark-clause-reads : goal.returns-in-Err-mark-clause-reads
returns-in-Err-mark-clause-reads c = λ before seen.
    keyed_colon_stop (one (FieldNamed (property_forms c.args.kind) before)) (field_key_firm (property_forms c.args.kind) before)
    (λ f. field_value (home_of_file c.args.home.now) f.1) under_name c.in-Ok.field (left c.args.self.now) (left c.field_key.new.self)
    (left c.mark.new.self) c.in-Err-mark.stop (c.in-Ok.ensures.reads before seen) c.in-Err-mark.ensures

pub returns-in-Err-field_value-clause-reads : goal.returns-in-Err-field_value-clause-reads
returns-in-Err-field_value-clause-reads c = λ before seen.
    keyed_value_stop (one (FieldNamed (property_forms c.args.kind) before)) (field_key_firm (property_forms c.args.kind) before)
    (λ f. field_value (home_of_file c.args.home.now) f.1) under_name c.in-Ok.field (left c.args.self.now) (left c.field_key.new.self)
    (left c.mark.new.self) (left c.field_value.new.self) c.in-Err-field_value.stop (c.in-Ok.ensures.reads before seen)
    c.in-Ok-mark.ensures c.in-Err-field_value.ensures

pub returns-in-Ok-field_value-clause-reads : goal.returns-in-Ok-field_value-clause-reads
returns-in-Ok-field_value-clause-reads c = λ before seen.
    keyed_read (one (FieldNamed (property_forms c.args.kind) before)) (field_key_firm (property_forms c.args.kind) before)
    (λ f. field_value (home_of_file c.args.home.now) f.1) under_name c.in-Ok.field (raw_view c.in-Ok-field_value.node)
    (left c.args.self.now) (left c.field_key.new.self) (left c.mark.new.self) (left c.field_value.new.self)
    (c.in-Ok.ensures.reads before seen) c.in-Ok-mark.ensures c.in-Ok-field_value.ensures
