use Rattle.sm_idl.specs.steps.HomeView.{home_of_file}
use Rattle.sm_idl.specs.steps.ReaderView.{left}
use Rattle.sm_idl.proofs.ReadIds.{stops_at_with, behind_with}
use Rattle.sm_idl.proofs.reader.Reader.with_mixins.Goals as goal

pub returns-in-Err : goal.returns-in-Err
returns-in-Err c =
    stops_at_with (home_of_file c.args.home.now) (left c.args.self.now) (left c.the_word.new.self) c.in-Err.stop c.in-Err.ensures

pub returns : goal.returns
returns c =
    behind_with (home_of_file c.args.home.now) (λ refs. refs.items) (left c.args.self.now) (left c.the_word.new.self)
    (left c.listed_ids.new.self) c.listed_ids.result c.in-Ok.ensures c.listed_ids.ensures
