use Rattle.sm_model.specs.SaidView.{traits_of, traits_view}
use Rattle.sm_idl.specs.steps.HomeView.{home_of_file}
use Rattle.sm_idl.specs.steps.ReaderView.{left}
use Rattle.sm_idl.proofs.ReadTraits.{apply_word_stop, apply_id_stop, apply_traits_stop, apply_made}
use Rattle.sm_idl.proofs.reader.Reader.apply.Goals as goal

pub returns-in-Err : goal.returns-in-Err
returns-in-Err c =
    apply_word_stop (home_of_file c.args.home.now) (left c.args.self.now) (left c.the_word.new.self) c.in-Err.stop c.in-Err.ensures

pub returns-in-Err-id : goal.returns-in-Err-id
returns-in-Err-id c =
    apply_id_stop (home_of_file c.args.home.now) (left c.args.self.now) (left c.the_word.new.self) (left c.id.new.self) c.in-Err-id.stop
    c.in-Ok.ensures c.in-Err-id.ensures

pub returns-in-Err-targets : goal.returns-in-Err-targets
returns-in-Err-targets c =
    apply_traits_stop (home_of_file c.args.home.now) c.in-Ok-id.word.now (left c.args.self.now) (left c.the_word.new.self)
    (left c.id.new.self) (left c.targets.new.self) c.in-Err-targets.stop c.in-Ok.ensures c.in-Ok-id.ensures c.in-Err-targets.ensures

pub returns-in-Ok-reference : goal.returns-in-Ok-reference
returns-in-Ok-reference c =
    apply_made (home_of_file c.args.home.now) c.in-Ok-id.word.now (traits_view c.in-Ok-targets.traits.items) (traits_of c.new.result)
    c.in-Ok-reference.id (left c.args.self.now) (left c.the_word.new.self) (left c.id.new.self) (left c.targets.new.self)
    c.in-Ok-reference.ensures c.new.ensures c.in-Ok.ensures c.in-Ok-id.ensures c.in-Ok-targets.ensures
