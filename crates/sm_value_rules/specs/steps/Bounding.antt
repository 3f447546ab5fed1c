-- Bounds that read and are wrong, as tests. What isn't there is right.
use Rattle.std.specs.Prelude.{◌&&◌, ◌||◌, Bool, not, Option}
use Rattle.sm_tree.specs.Node.{Node}
use Rattle.sm_model.specs.declared.kind.Kind.TheVariants.{Float, Integer}
use Rattle.sm_compile.specs.TraitNodes.{are_lengths, are_ordered, are_whole_bounds, is_range, where_there}

abbrev pub is_wrong_length : Option Node → Bool
is_wrong_length n = where_there are_whole_bounds n && not (where_there are_ordered n && where_there are_lengths n)

abbrev pub is_wrong_range : Option Node → Bool
is_wrong_range n = (where_there (is_range Integer) n || where_there (is_range Float) n) && not (where_there are_ordered n)
