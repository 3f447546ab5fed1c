use Rattle.std.proofs.Common.{◌≡◌, ap, subst}
use Rattle.std.specs.Prelude.{IfOk}
use Rattle.std.specs.Option.{option_map}
use Rattle.sm_tree.specs.View.{node_of}
use Rattle.sm_shapes.specs.TableView.{member_data, table_data}
use Rattle.sm_shapes.specs.ValueView.{val_of}
use Rattle.sm_codec.proofs.DefaultsCounted.{default_counted}
use Rattle.sm_codec.proofs.filling.default_of.Goals as goal

pub returns-in-Some-clause-default : goal.returns-in-Some-clause-default
returns-in-Some-clause-default g c =
    subst (λ v. IfOk c.counted.result (λ found. option_map val_of found ≡ v))
    (default_counted (table_data c.args.table.now) g.P.Patterns.test c.args.number (member_data c.row_at-row.result.now)
    (node_of c.in-Some.node)
    c.requires.shaped c.row_at-row.ensures (ap (option_map node_of) c.in-Some.is))
    c.counted.ensures.counted
