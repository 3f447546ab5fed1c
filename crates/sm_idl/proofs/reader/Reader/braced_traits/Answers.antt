use Rattle.std.proofs.Common.{◌++◌, ap, ◌∙◌}
use Rattle.sm_model.specs.SaidView.{traits_view}
use Rattle.sm_idl.specs.steps.HomeView.{home_of_file}
use Rattle.sm_idl.specs.steps.ReaderView.{left}
use Rattle.sm_idl.proofs.ReadTraits.{braces_open, braces_within, braces_close, braces_read}
use Rattle.sm_idl.proofs.reader.Reader.braced_traits.Goals as goal

pub returns-in-Err : goal.returns-in-Err
returns-in-Err c = braces_open (home_of_file c.args.home.now) (left c.args.self.now) (left c.mark.new.self) c.in-Err.stop c.in-Err.ensures

pub returns-in-Err-traits : goal.returns-in-Err-traits
returns-in-Err-traits c =
    braces_within (home_of_file c.args.home.now) (left c.args.self.now) (left c.mark.new.self) (left c.traits.new.self)
    c.in-Err-traits.stop c.in-Ok.ensures c.in-Err-traits.ensures

pub returns-in-Ok-mark : goal.returns-in-Ok-mark
returns-in-Ok-mark c =
    let ts = c.in-Ok-traits.ensures.0 in
    braces_read (home_of_file c.args.home.now) ts (traits_view c.traits.new.traits.items) (left c.args.self.now) (left c.mark.new.self)
    (left c.traits.new.self) (left c.mark-2.new.self)
    (c.in-Ok-traits.ensures.1 ∙ ap (λ l. traits_view l ++ ts) c.new-traits.ensures.items) c.in-Ok.ensures c.in-Ok-traits.ensures.2
    c.in-Ok-mark.ensures

pub returns-in-Err-mark : goal.returns-in-Err-mark
returns-in-Err-mark c =
    braces_close (home_of_file c.args.home.now) c.in-Ok-traits.ensures.0 (left c.args.self.now) (left c.mark.new.self)
    (left c.traits.new.self) (left c.mark-2.new.self) c.in-Err-mark.stop c.in-Ok.ensures c.in-Ok-traits.ensures.2 c.in-Err-mark.ensures
