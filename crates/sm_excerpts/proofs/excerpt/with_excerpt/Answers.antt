use Rattle.std.proofs.Common.{◌∙◌, arith}
use Rattle.std.proofs.lemmas.Result.{IfOk-weaker}
use Rattle.sm_shapes.specs.TableView.{table_data}
use Rattle.sm_excerpts.proofs.MoreShaped.{excerpt, extends, more_built, more_shaped, shapes_many}
use Rattle.sm_excerpts.proofs.excerpt.with_excerpt.Goals as goal

pub returns-clause-shaped : goal.returns-clause-shaped
returns-clause-shaped c =
    IfOk-weaker c.added.result _ _
    (λ all h. more_shaped (table_data c.args.table) (table_data all) c.args.members.now h c.requires.members c.requires.shaped
    c.requires.names c.requires.json_names) c.added.ensures

pub returns-clause-extends : goal.returns-clause-extends
returns-clause-extends c =
    IfOk-weaker c.added.result _ _
    (λ all h. extends (table_data c.args.table) (table_data all) c.args.members.now h c.requires.members) c.added.ensures

pub returns-clause-excerpt : goal.returns-clause-excerpt
returns-clause-excerpt c =
    IfOk-weaker c.added.result _ _
    (λ all h. excerpt (table_data c.args.table) (table_data all) c.args.members.now h c.requires.members) c.added.ensures

pub returns-clause-count : goal.returns-clause-count
returns-clause-count c =
    IfOk-weaker c.added.result _ _
    (λ all h. shapes_many (table_data c.args.table) (table_data all) c.args.members.now h c.requires.members ∙ omega arith) c.added.ensures

pub returns-clause-built : goal.returns-clause-built
returns-clause-built c =
    IfOk-weaker c.added.result _ _
    (λ all h. more_built (table_data c.args.table) (table_data all) c.args.members.now h c.requires.members c.requires.shaped) c.added.ensures
