-- Pairs of one object behind those of another; and a schema with pairs before its keywords.
use Rattle.std.proofs.Common.{◌≡◌, ℕ, List, [], ◌∷◌, ◌++◌, true, ◌&&◌, refl, ap}
use Rattle.std.specs.Str.{is_utf8}
use Rattle.sm_time.proofs.StampForms.{and_first, and_second}
use Rattle.sm_tree.specs.Node.{member, members_of}
use Rattle.sm_tree.specs.View.{members_view, node_of}
use Rattle.sm_tree.specs.declared.tree.Tree.{Tree}
use Rattle.sm_schema.specs.steps.Joined.{joined}
use Rattle.sm_schema.specs.steps.Plain.{are_plain_under, is_plain}
use Rattle.sm_schema.proofs.PlainTrees.{both}

pub pairs_behind : (ps qs : List (List ℕ × Tree))
    → members_of (members_view (ps ++ qs)) ≡ joined (members_view ps) (members_of (members_view qs))
pairs_behind [] qs = refl
pairs_behind (p ∷ ps) qs = ap (member p.0 (node_of p.1)) (pairs_behind ps qs)

pub plain_behind : (ps qs : List (List ℕ × Tree)) → are_plain_under (members_of (members_view ps)) ≡ true
    → are_plain_under (members_of (members_view qs)) ≡ true → are_plain_under (members_of (members_view (ps ++ qs))) ≡ true
plain_behind [] qs h g = g
plain_behind (p ∷ ps) qs h g =
    let rest = are_plain_under (members_of (members_view ps)) in
    let later = and_second (is_utf8 p.0) (is_plain (node_of p.1) && rest) h in
    both (is_utf8 p.0) (is_plain (node_of p.1) && are_plain_under (members_of (members_view (ps ++ qs))))
    (and_first (is_utf8 p.0) (is_plain (node_of p.1) && rest) h)
    (both (is_plain (node_of p.1)) (are_plain_under (members_of (members_view (ps ++ qs))))
    (and_first (is_plain (node_of p.1)) rest later) (plain_behind ps qs (and_second (is_plain (node_of p.1)) rest later) g))
