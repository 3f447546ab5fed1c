use Rattle.std.proofs.Common.{sym, ◌∙◌}
use Rattle.sm_compile.specs.steps.Carrying.{rows_in}
use Rattle.sm_compile.proofs.MarkedTables.{parts_there, stopped_marked, table_there}
use Rattle.sm_compile.proofs.PatternsPut.{carriers_numbered}
use Rattle.sm_compile.proofs.tabled.compile_marked.Goals as goal

pub store_all-requires : goal.store_all-requires
store_all-requires g c =
    carriers_numbered c.args.graph.now c.args.marks.now (rows_in c.in-Ok-carried_texts.carried) c.in-Ok-carried_texts.ensures.rows.first

pub returns-in-Err-store_all : goal.returns-in-Err-store_all
returns-in-Err-store_all g c =
    stopped_marked c.args.graph.now c.args.marks.now _ _ c.in-Ok-carried_texts.carried c.in-Ok-carried_texts.ensures
    c.in-Err-store_all.refusal
    c.in-Err-store_all.ensures

pub table_of-requires : goal.table_of-requires
table_of-requires g c =
    parts_there c.args.graph.now c.args.marks.now c.requires.whole c.requires.sound c.requires.closed c.in-Ok-carried_texts.carried
    c.in-Ok-carried_texts.ensures c.as_slice.result.now (c.as_slice.ensures.value ∙ c.in-Ok.ensures.shapes) _ _ c.in-Ok-store_all.rows.items
    c.in-Ok-store_all.ensures

pub returns-in-Ok-table_of : goal.returns-in-Ok-table_of
returns-in-Ok-table_of g c =
    table_there c.args.graph.now c.args.marks.now c.requires.whole c.requires.sound c.requires.closed c.in-Ok-carried_texts.carried
    c.in-Ok-carried_texts.ensures c.as_slice.result.now (c.as_slice.ensures.value ∙ c.in-Ok.ensures.shapes) _ _ c.in-Ok-store_all.rows.items
    c.in-Ok-store_all.ensures (record { table = c.in-Ok-table_of.table; shapes = c.in-Ok.shapes }) (sym c.as_slice.ensures.value)
    c.in-Ok-table_of.ensures
