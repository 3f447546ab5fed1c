use Rattle.sm_idl.specs.steps.ReaderView.{left}
use Rattle.sm_idl.specs.steps.HomeView.{home_of_file}
use Rattle.std.proofs.Common.{subst}
use Rattle.sm_model.specs.SaidView.{traits_view}
use Rattle.sm_idl.specs.steps.PartSteps.{side_word, part_view}
use Rattle.sm_idl.specs.Bodies.{inline_name, inline_with}
use Rattle.sm_idl.specs.Traits.{documented}
use Rattle.sm_idl.specs.steps.Classes.{Either, At, With, Brace}
use Rattle.sm_idl.proofs.FirmBodies.{inline_name_firm, inline_with_firm}
use Rattle.sm_idl.proofs.Answered.{as_behind}
use Rattle.sm_idl.proofs.ReadDocs.{documented_as}
use Rattle.sm_idl.specs.steps.ReaderView.{ReadsAs}
use Rattle.sm_idl.proofs.ReadParts.{inline_name_stop}
use Rattle.sm_idl.proofs.reader.Reader.part_inline.Goals as goal

pub returns-in-Err : goal.returns-in-Err
returns-in-Err c =
    inline_name_stop (home_of_file c.args.home.now) c.args.operation.now c.args.suffix.now (side_word c.args.side)
    (left c.args.self.now) (left c.inline_name.new.self) c.in-Err.stop c.in-Err.ensures

pub returns-in-Ok-with_first : goal.returns-in-Ok-with_first
returns-in-Ok-with_first c =
    as_behind part_view (inline_name c.args.operation.now c.args.suffix.now)
    (λ structure. documented (inline_with (home_of_file c.args.home.now) structure (side_word c.args.side)))
    (inline_name_firm c.args.operation.now c.args.suffix.now) c.in-Ok.structure (left c.args.self.now) (left c.inline_name.new.self)
    (left c.inline_with.new.self) c.inline_with.result c.in-Ok.ensures
    (documented_as (Either At (Either With Brace)) part_view (inline_with (home_of_file c.args.home.now) c.in-Ok.structure
    (side_word c.args.side)) (inline_with_firm (home_of_file c.args.home.now) c.in-Ok.structure (side_word c.args.side))
    c.in-Ok-docs.ensures.0 (traits_view c.in-Ok-docs.docs.items) (left c.inline_name.new.self) (left c.inline_with.new.self)
    c.inline_with.result c.in-Ok-docs.ensures.2 c.in-Ok-docs.ensures.1
    (subst (λ w. ReadsAs part_view (inline_with (home_of_file c.args.home.now) w (side_word c.args.side)
    (traits_view c.in-Ok-docs.docs.items)) (left c.inline_name.new.self) (left c.inline_with.new.self) c.inline_with.result)
    c.as_str.ensures.bytes (c.inline_with.ensures (traits_view c.in-Ok-docs.docs.items)
    (c.in-Ok-with_first.ensures (side_word c.args.side) c.trait_id.ensures))))
