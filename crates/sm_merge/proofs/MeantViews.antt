-- Nodes with ids as texts, as the code makes them: entry by entry, and pair by pair.
use Rattle.std.proofs.Common.{◌≡◌, ℕ, Bool, true, false, List, [], ◌∷◌, Option, Some, refl, ap, ◌∙◌, bytes_eq}
use Rattle.std.specs.Prelude.{if◌then◌else◌}
use Rattle.std.specs.Option.{option_map}
use Rattle.sm_tree.specs.Node.{Node, list, object, node, member, nodes_of, members_of}
use Rattle.sm_tree.specs.Parts.{tree_named}
use Rattle.sm_model.specs.Raw.{Raw, raws_of, raw_members_of}
use Rattle.sm_model.specs.RawView.{raw_view, raw_items_view, raw_pairs_view}
use Rattle.sm_model.specs.declared.raw.RawItems.{RawItems}
use Rattle.sm_model.specs.declared.raw.RawPairs.{RawPairs}
use Rattle.sm_model.specs.declared.raw.RawNode.TheVariants.{List as Array, Object}
use Rattle.sm_model.proofs.RawViews.{view_list, view_object}
use Rattle.sm_merge.specs.Meaning.{Defined, node_meant, nodes_meant, members_meant}
use Rattle.sm_merge.specs.steps.Meant.{entries_meant, pairs_meant, raw_named, pair_list, raw_pairs_of}

entries_listed : (defined : Defined) (ns : List Raw) → nodes_meant defined (raws_of ns) ≡ nodes_of (entries_meant defined ns)
entries_listed defined [] = refl
entries_listed defined (n ∷ ns) = ap (node (node_meant defined n)) (entries_listed defined ns)

pub pairs_listed : (defined : Defined) (ms : List (List ℕ × Raw)) → members_meant defined (raw_members_of ms)
    ≡ members_of (pairs_meant defined ms)
pairs_listed defined [] = refl
pairs_listed defined (m ∷ ms) = ap (member m.0 (node_meant defined m.1)) (pairs_listed defined ms)

pub list_meant : (defined : Defined) (v : RawItems) → node_meant defined (raw_view (Array v))
    ≡ list (nodes_of (entries_meant defined (raw_items_view v)))
list_meant defined v = ap (node_meant defined) (view_list v) ∙ ap list (entries_listed defined (raw_items_view v))

pub object_meant : (defined : Defined) (p : RawPairs) → node_meant defined (raw_view (Object p))
    ≡ object (members_of (pairs_meant defined (raw_pairs_view p)))
object_meant defined p = ap (node_meant defined) (view_object p) ∙ ap object (pairs_listed defined (raw_pairs_view p))

pairs_back : (ms : List (List ℕ × Raw)) → pair_list (raw_members_of ms) ≡ ms
pairs_back [] = refl
pairs_back (m ∷ ms) = ap (λ xs. m ∷ xs) (pairs_back ms)

pub pairs_seen : (p : RawPairs) → raw_pairs_of (raw_view (Object p)) ≡ raw_pairs_view p
pairs_seen p = ap raw_pairs_of (view_object p) ∙ pairs_back (raw_pairs_view p)

-- what stands under a name
first_named : (b : Bool) (defined : Defined) (n : Raw) (o : Option Raw) (p : Option Node) → p ≡ option_map (node_meant defined) o
    → (if b then Some (node_meant defined n) else p) ≡ option_map (node_meant defined) (if b then Some n else o)
first_named true defined n o p e = refl
first_named false defined n o p e = e

pub named_meant : (defined : Defined) (name : List ℕ) (ms : List (List ℕ × Raw))
    → tree_named name (members_of (pairs_meant defined ms)) ≡ option_map (node_meant defined) (raw_named name ms)
named_meant defined name [] = refl
named_meant defined name (m ∷ ms) =
    first_named (bytes_eq m.0 name) defined m.1 (raw_named name ms) (tree_named name (members_of (pairs_meant defined ms)))
    (named_meant defined name ms)
