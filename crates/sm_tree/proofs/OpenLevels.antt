-- Where events begin a stream of a tree, no more levels are open than the tree has.
use Rattle.std.proofs.Common.{◌≡◌, ℕ, ◌+◌, ◌≤◌, inl, inr, List, [], ◌∷◌, ◌++◌, ap, sym, ◌∙◌, append_assoc, arith, length, map}
use Rattle.sm_tree.specs.Node.{Node}
use Rattle.sm_tree.specs.Levels.{levels}
use Rattle.sm_tree.specs.Events.{NodeEvent, events}
use Rattle.sm_tree.specs.Building.{Inner, in_list, in_object, in_pair, Around, around_list, around_object, Building, nothing, whole}
use Rattle.sm_tree.specs.Building.{within, tag_events, each_events, each_pair_events, inner_events, outer_events, so_far, around_kind}
use Rattle.sm_tree.specs.Streams.{unnumbered}
use Rattle.sm_tree.specs.OpenLevels.{inner_levels, outer_levels, open_levels, OpensNoMore, KindsAreLevels}
use Rattle.sm_tree.proofs.Streams.{unnumbered_append, stream_events}
use Rattle.sm_tree.proofs.Awaited.{list_opened, object_opened, behind_tags, ListGoesOn, in_a_list, in_a_pair, opened_inner, behind_outer}

-- those of the innermost list or object
list_within : (ts : List ℕ) (top : ℕ) (xs : List NodeEvent) → 1 ≤ top → ListGoesOn ts top xs → 1 + length ts ≤ top
list_within ts top xs some (inl (m, hs, is, room)) = omega arith
list_within ts top xs some (inr (none, hs, is)) = let empty = ap length none in omega arith

inner_within : (i : Inner) (n : Node) (more gs : List NodeEvent) → inner_events i ++ more ≡ events n gs → inner_levels i ≤ levels n
inner_within (in_list ns ts) n more gs h =
    let (ms, rest, top) = list_opened n ((each_events ns ++ tag_events ts) ++ more) gs h in
    list_within ts (levels n) more (omega arith) (in_a_list ns ts n more gs h)
inner_within (in_object ms) n more gs h =
    let (rest, is, top) = object_opened n (each_pair_events ms ++ more) gs h in omega arith
inner_within (in_pair ms k ts) n more gs h = let (m, hs, is, room) = in_a_pair ms k ts n more gs h in omega arith

-- those of all that is open
levels_within : (b : Building) (n : Node) (more : List NodeEvent) → so_far b ++ more ≡ events n [] → open_levels b ≤ levels n
levels_within (nothing ts) n more h = let (m, is, all) = behind_tags ts n more [] h in omega arith
levels_within (whole m) n more h = omega arith
levels_within (within ts i outer) n more h =
    let (m, is, all) = behind_tags ts n ((outer_events outer ++ inner_events i) ++ more) []
    (sym (append_assoc (tag_events ts) (outer_events outer ++ inner_events i) more) ∙ h) in
    let (p, hs, is1, room) = behind_outer outer m (inner_events i ++ more) [] (opened_inner i more)
    (sym (append_assoc (outer_events outer) (inner_events i) more) ∙ is) in
    let inner = inner_within i p more hs is1 in omega arith

pub opens_no_more : OpensNoMore
opens_no_more b es more n stands stream =
    levels_within b n (unnumbered more)
    (ap (λ fs. fs ++ unnumbered more) (sym stands) ∙ sym (unnumbered_append es more) ∙ stream_events n (es ++ more) [] stream)

outer_kinds : (outer : List Around) → length (map around_kind outer) ≤ outer_levels outer
outer_kinds [] = omega arith
outer_kinds (around_list ns ts ∷ outer) = let more = outer_kinds outer in omega arith
outer_kinds (around_object ms k ts ∷ outer) = let more = outer_kinds outer in omega arith

pub kinds_are_levels : KindsAreLevels
kinds_are_levels (nothing ts) = omega arith
kinds_are_levels (whole n) = omega arith
kinds_are_levels (within ts (in_list ns us) outer) = let more = outer_kinds outer in omega arith
kinds_are_levels (within ts (in_object ms) outer) = let more = outer_kinds outer in omega arith
kinds_are_levels (within ts (in_pair ms k us) outer) = let more = outer_kinds outer in omega arith
