use Rattle.std.proofs.Common.{sym, subst}
use Rattle.sm_shapes.specs.DefaultPuts.{defaults_view}
use Rattle.sm_shapes.specs.TableView.{table_data}
use Rattle.sm_codec.specs.FilledLaws.{IsFilled}
use Rattle.sm_codec.proofs.DefaultsCounted.{all_filled}
use Rattle.sm_codec.proofs.FilledTables.{filled_is_shaped}
use Rattle.sm_codec.proofs.filling.fill_defaults.Goals as goal

pub returns-in-Ok-clause-filled : goal.returns-in-Ok-clause-filled
returns-in-Ok-clause-filled g c =
    all_filled (table_data c.args.table.now) g.P.Patterns.test _ (defaults_view c.in-Ok.defaults.items) c.set_defaults.ensures
    c.in-Ok.ensures.defaults

pub returns-in-Ok-clause-in_order : goal.returns-in-Ok-clause-in_order
returns-in-Ok-clause-in_order g c =
    let t = table_data c.args.table.now in
    let test = g.P.Patterns.test in
    subst (λ now. IsFilled now g.P.Patterns.test)
    (sym (all_filled t test _ (defaults_view c.in-Ok.defaults.items) c.set_defaults.ensures c.in-Ok.ensures.defaults))
    (filled_is_shaped t test c.requires.shaped c.requires.none)
