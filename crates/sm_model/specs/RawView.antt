-- What a RawNode of the code stands for. Entries and pairs are seen as lists.
use Rattle.std.specs.Prelude.{ℕ, List, map}
use Rattle.sm_tree.specs.View.{node_of}
use Rattle.sm_model.specs.Raw.{Raw, raw_leaf, raw_id, raw_list, raw_object, raws_of, raw_members_of}
use Rattle.sm_model.specs.declared.raw.RawNode.{RawNode, fold-RawNode}
use Rattle.sm_model.specs.declared.raw.RawItems.{RawItems, fold-RawItems}
use Rattle.sm_model.specs.declared.raw.RawPairs.{RawPairs, fold-RawPairs}
use Rattle.sm_model.specs.declared.raw.RawNode.TheOpen.{RawNode-F, RawItems-F, RawPairs-F}

-- one level of a node, whose parts have been seen
abbrev pub raw_step : RawNode-F Raw (List Raw) (List (List ℕ × Raw)) → Raw
raw_step (RawNode-F.Leaf t) = raw_leaf (node_of t)
raw_step (RawNode-F.Id r) = raw_id r
raw_step (RawNode-F.List ns) = raw_list (raws_of ns)
raw_step (RawNode-F.Object ms) = raw_object (raw_members_of ms)

abbrev pub raw_items_step : RawItems-F Raw (List Raw) (List (List ℕ × Raw)) → List Raw
raw_items_step v = v.items.items

abbrev pub raw_pairs_step : RawPairs-F Raw (List Raw) (List (List ℕ × Raw)) → List (List ℕ × Raw)
raw_pairs_step m = m.pairs.items

-- what a node stands for
abbrev pub raw_view : RawNode → Raw
raw_view = fold-RawNode Raw (List Raw) (List (List ℕ × Raw)) raw_step raw_items_step raw_pairs_step

-- the entries of a list
abbrev pub raw_items_view : RawItems → List Raw
raw_items_view = fold-RawItems Raw (List Raw) (List (List ℕ × Raw)) raw_step raw_items_step raw_pairs_step

-- the pairs of an object
abbrev pub raw_pairs_view : RawPairs → List (List ℕ × Raw)
raw_pairs_view = fold-RawPairs Raw (List Raw) (List (List ℕ × Raw)) raw_step raw_items_step raw_pairs_step

-- the same of nodes and pairs that stand by themselves
abbrev pub raws_view : List RawNode → List Raw
raws_view ns = map raw_view ns

abbrev pub raw_members_view : List (List ℕ × RawNode) → List (List ℕ × Raw)
raw_members_view ms = map (λ m. (m.0, raw_view m.1)) ms
