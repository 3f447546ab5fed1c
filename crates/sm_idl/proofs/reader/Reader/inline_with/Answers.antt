use Rattle.sm_idl.specs.steps.ReaderView.{left}
use Rattle.sm_idl.specs.steps.HomeView.{home_of_file}
use Rattle.std.proofs.Common.{◌++◌, ap, ◌∙◌}
use Rattle.sm_model.specs.SaidView.{member_statements_view}
use Rattle.sm_idl.specs.steps.PartSteps.{side_word, part_view}
use Rattle.sm_idl.proofs.ReadParts.{inline_traits_stop, inline_mixins_stop, inline_members_stop, inline_made}
use Rattle.sm_idl.proofs.reader.Reader.inline_with.Goals as goal

pub returns-in-Err : goal.returns-in-Err
returns-in-Err c = λ docs given.
    inline_traits_stop (home_of_file c.args.home.now) c.args.structure.now (side_word c.args.side) docs (left c.args.self.now)
    (left c.traits.new.self) c.in-Err.stop c.in-Err.ensures

pub returns-in-Err-mixins : goal.returns-in-Err-mixins
returns-in-Err-mixins c = λ docs given.
    inline_mixins_stop (home_of_file c.args.home.now) c.args.structure.now (side_word c.args.side) docs c.in-Ok.ensures.0
    (left c.args.self.now) (left c.traits.new.self) (left c.mixins.new.self) c.in-Err-mixins.stop c.in-Ok.ensures.2
    c.in-Err-mixins.ensures

pub returns-in-Err-members : goal.returns-in-Err-members
returns-in-Err-members c = λ docs given.
    inline_members_stop (home_of_file c.args.home.now) c.args.structure.now (side_word c.args.side) docs c.in-Ok.ensures.0
    c.in-Ok-mixins.mixins.items (left c.args.self.now) (left c.traits.new.self) (left c.mixins.new.self) (left c.members.new.self)
    c.in-Err-members.stop c.in-Ok.ensures.2 c.in-Ok-mixins.ensures c.in-Err-members.ensures

pub returns-in-Ok-inline_part : goal.returns-in-Ok-inline_part
returns-in-Ok-inline_part c = λ docs given.
    inline_made (home_of_file c.args.home.now) c.args.structure.now (side_word c.args.side) docs c.in-Ok.ensures.0
    c.in-Ok-mixins.mixins.items (member_statements_view c.in-Ok-members.members.items) (part_view c.in-Ok-inline_part.part)
    (left c.args.self.now) (left c.traits.new.self) (left c.mixins.new.self) (left c.members.new.self)
    (c.in-Ok-inline_part.ensures (docs ++ c.in-Ok.ensures.0) (c.in-Ok.ensures.1 ∙ ap (λ l. l ++ c.in-Ok.ensures.0) given))
    c.in-Ok.ensures.2 c.in-Ok-mixins.ensures c.in-Ok-members.ensures
