-- Whether a tree opens at a place of a sort, or is read as a leaf there. Contracts of the code that walks trees cite it.
use Rattle.std.specs.Prelude.{◌≡◌, true}
use Rattle.sm_tree.specs.Node.{Node, list, object, nodes_of, members_of}
use Rattle.sm_tree.specs.View.{nodes_view, members_view}
use Rattle.sm_codec.specs.Sorts.{Sort}
use Rattle.sm_codec.specs.steps.WalkSteps.{is_list, is_object, IsLeafAt}
use Rattle.sm_codec.specs.declared.decoder.walking.Opening.{Opening}
use Rattle.sm_codec.specs.declared.decoder.walking.Opening.TheVariants as opening

abbrev pub Opens : Sort → Node → Opening → Type 0
Opens s n (opening.List items) = (n ≡ list (nodes_of (nodes_view items.now))) × (is_list s ≡ true)
Opens s n (opening.Object pairs) = (n ≡ object (members_of (members_view pairs.now))) × (is_object s ≡ true)
Opens s n opening.Leaf = IsLeafAt s n
