use Rattle.std.proofs.Common.{ap, ◌∙◌}
use Rattle.std.specs.FinMap.{is_sorted}
use Rattle.sm_tree.specs.View.{node_of}
use Rattle.sm_model.specs.Graphs.{text_cmp}
use Rattle.sm_model.proofs.Entries.{trait_found, traits_sorted}
use Rattle.sm_model.proofs.graph.Graph.trait_value.Goals as goal

pub value_under-requires : goal.value_under-requires
value_under-requires c = ap (is_sorted text_cmp) c.as_slice.ensures
    ∙ traits_sorted c.args.self.now c.args.shape c.row.result.now c.row.ensures

pub returns : goal.returns
returns c =
    trait_found (λ t. node_of t.now) c.args.self.now c.args.shape c.row.result.now c.row.ensures _ c.as_slice.ensures c.args.id.now
    c.value_under.result c.value_under.ensures
