use Rattle.std.proofs.Common.{◌<◌, subst, sym}
use Rattle.std.specs.List.{AllByRecursion}
use Rattle.sm_shapes.specs.TableData.{member_count, members_at}
use Rattle.sm_shapes.specs.TableView.{table_data}
use Rattle.sm_bind_write.proofs.PartsHad.{all_inside}
use Rattle.sm_bind_write.proofs.restrictions.refused_on.Goals as goal

pub first_refused-requires-clause-members : goal.first_refused-requires-clause-members
first_refused-requires-clause-members c =
    let t = table_data c.args.table.now in
    subst (AllByRecursion (λ k. k < member_count t)) (sym c.members.ensures)
    (all_inside t c.args.shape (members_at t c.args.shape) (c.requires.shaped.members c.args.shape c.requires.shape))
