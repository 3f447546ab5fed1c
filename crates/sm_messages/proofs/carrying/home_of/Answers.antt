use Rattle.std.proofs.Common.{◌≡◌, ap, sym, ◌∙◌}
use Rattle.sm_shapes.specs.TableData.{home_in}
use Rattle.sm_shapes.specs.TableView.{table_data}
use Rattle.sm_shapes.specs.ValueView.{val_of}
use Rattle.sm_messages.specs.TreeBodies.{fields_in}
use Rattle.sm_messages.proofs.Homes.{first_home, none_first}
use Rattle.sm_messages.proofs.carrying.home_of.Goals as goal

pub member-requires : goal.member-requires
member-requires c =
    let x = c.requires.fits in
    (first_home (table_data c.args.table.now) x.0 c.in-Some.member (val_of c.args.value.now) c.requires.shaped x.1 x.2
    (sym c.first_member.ensures ∙ c.in-Some.is)).0

pub returns-in-Some : goal.returns-in-Some
returns-in-Some c = λ shape at fits.
    sym (ap home_in c.member.ensures)
    ∙ (first_home (table_data c.args.table.now) shape c.in-Some.member (val_of c.args.value.now) c.requires.shaped at fits
    (sym c.first_member.ensures ∙ c.in-Some.is)).1

pub returns-in-None : goal.returns-in-None
returns-in-None c = none_first (fields_in (val_of c.args.value.now)) (sym c.first_member.ensures ∙ c.in-None.is)
