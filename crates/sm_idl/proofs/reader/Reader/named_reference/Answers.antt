use Rattle.sm_idl.specs.steps.ReaderView.{left}
use Rattle.sm_idl.specs.steps.HomeView.{home_of_file}
use Rattle.sm_model.specs.RawView.{raw_view}
use Rattle.sm_idl.specs.Nodes.{pair_names}
use Rattle.sm_idl.proofs.ReadFields.{keyed_key_stop, keyed_colon_stop, keyed_value_stop, keyed_read, paired}
use Rattle.sm_idl.specs.Words.{key}
use Rattle.sm_idl.specs.Bodies.{reference}
use Rattle.sm_idl.proofs.FirmNodes.{key_firm}
use Rattle.sm_idl.proofs.reader.Reader.named_reference.Goals as goal

pub returns-in-Err-clause-reads : goal.returns-in-Err-clause-reads
returns-in-Err-clause-reads c = λ before seen.
    keyed_key_stop (key (pair_names before)) (key_firm (pair_names before)) (λ _. reference (home_of_file c.args.home.now)) paired
    (left c.args.self.now) (left c.key.new.self) c.in-Err.stop (c.in-Err.ensures.reads (pair_names before) seen)

pub returns-in-Err-mark-clause-reads : goal.returns-in-Err-mark-clause-reads
returns-in-Err-mark-clause-reads c = λ before seen.
    keyed_colon_stop (key (pair_names before)) (key_firm (pair_names before)) (λ _. reference (home_of_file c.args.home.now)) paired
    c.in-Ok.key (left c.args.self.now) (left c.key.new.self) (left c.mark.new.self) c.in-Err-mark.stop
    (c.in-Ok.ensures.reads (pair_names before) seen) c.in-Err-mark.ensures

pub returns-in-Err-reference-clause-reads : goal.returns-in-Err-reference-clause-reads
returns-in-Err-reference-clause-reads c = λ before seen.
    keyed_value_stop (key (pair_names before)) (key_firm (pair_names before)) (λ _. reference (home_of_file c.args.home.now)) paired
    c.in-Ok.key (left c.args.self.now) (left c.key.new.self) (left c.mark.new.self) (left c.reference.new.self) c.in-Err-reference.stop
    (c.in-Ok.ensures.reads (pair_names before) seen) c.in-Ok-mark.ensures c.in-Err-reference.ensures

pub returns-in-Ok-reference-clause-reads : goal.returns-in-Ok-reference-clause-reads
returns-in-Ok-reference-clause-reads c = λ before seen.
    keyed_read (key (pair_names before)) (key_firm (pair_names before)) (λ _. reference (home_of_file c.args.home.now)) paired
    c.in-Ok.key (raw_view c.in-Ok-reference.node) (left c.args.self.now) (left c.key.new.self) (left c.mark.new.self)
    (left c.reference.new.self) (c.in-Ok.ensures.reads (pair_names before) seen) c.in-Ok-mark.ensures c.in-Ok-reference.ensures
