use Rattle.sm_idl.specs.steps.ReaderView.{left}
use Rattle.sm_idl.specs.steps.HomeView.{home_of_file}
use Rattle.sm_idl.specs.steps.PartSteps.{part_view}
use Rattle.sm_idl.proofs.ReadParts.{target_colon_stop, target_id_stop, target_made}
use Rattle.sm_idl.proofs.reader.Reader.part_target.Goals as goal

pub returns-in-Err : goal.returns-in-Err
returns-in-Err c =
    target_colon_stop (home_of_file c.args.home.now) c.args.name.now (left c.args.self.now) (left c.mark.new.self) c.in-Err.stop
    c.in-Err.ensures

pub returns-in-Err-id : goal.returns-in-Err-id
returns-in-Err-id c =
    target_id_stop (home_of_file c.args.home.now) c.args.name.now (left c.args.self.now) (left c.mark.new.self) (left c.id.new.self)
    c.in-Err-id.stop c.in-Ok.ensures c.in-Err-id.ensures

pub returns-in-Ok-target_part : goal.returns-in-Ok-target_part
returns-in-Ok-target_part c =
    target_made (home_of_file c.args.home.now) c.args.name.now c.in-Ok-id.word.now (part_view c.in-Ok-target_part.part)
    (left c.args.self.now) (left c.mark.new.self) (left c.id.new.self) c.in-Ok-target_part.ensures c.in-Ok.ensures c.in-Ok-id.ensures
