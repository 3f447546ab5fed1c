-- What a builder's parts do at an event, by cases on what is open. The private methods of TreeBuilder cite these words;
-- what the public calls promise is in Building.
use Rattle.std.specs.Prelude.{◌≡◌, ℕ, true, false, [], ◌∷◌, ◌++◌}
use Rattle.sm_tree.specs.Events.{NodeEvent, null_event, bool_event, int_event, number_event, text_event, bytes_event, tag_event}
use Rattle.sm_tree.specs.Events.{opaque_event, start_list, end_list, start_object, key_event, end_object}
use Rattle.sm_tree.specs.Node.{Node, list, object, nodes_of, members_of}
use Rattle.sm_tree.specs.Building.{Inner, in_list, in_object, in_pair, Around, around_list, around_object, Building, nothing, whole}
use Rattle.sm_tree.specs.Building.{within, tagged, kinds, awaits_value, awaits_content, IsIn}
use Rattle.sm_tree.specs.declared.build.OpenKind.TheVariants.{List as a_list, Object as an_object}

-- a tree becomes the last entry, or the tree of the name that awaits one, in the tags that have come
abbrev pub with_tree : Node → Inner → Inner
with_tree n (in_list ns ts) = in_list (ns ++ tagged ts n ∷ []) []
with_tree n (in_object ms) = in_object ms
with_tree n (in_pair ms k ts) = in_object (ms ++ (k, tagged ts n) ∷ [])

-- one more tag
abbrev pub with_tag : ℕ → Inner → Inner
with_tag t (in_list ns ts) = in_list ns (ts ++ t ∷ [])
with_tag t (in_object ms) = in_object ms
with_tag t (in_pair ms k ts) = in_pair ms k (ts ++ t ∷ [])

-- the tree of a list or an object that ends
abbrev pub ended : Inner → Node
ended (in_list ns ts) = list (nodes_of ns)
ended (in_object ms) = object (members_of ms)
ended (in_pair ms k ts) = object (members_of ms)

-- a list or an object in which another opens
abbrev pub put_around : Inner → Around
put_around (in_list ns ts) = around_list ns ts
put_around (in_object ms) = around_object ms [] []
put_around (in_pair ms k ts) = around_object ms k ts

-- and where that one ends
abbrev pub back_inside : Around → Inner
back_inside (around_list ns ts) = in_list ns ts
back_inside (around_object ms k ts) = in_pair ms k ts

-- behind a tree
abbrev pub after_value : Node → Building → Building
after_value n (nothing ts) = whole (tagged ts n)
after_value n (whole m) = whole m
after_value n (within ts inner outer) = within ts (with_tree n inner) outer

-- behind a tag
abbrev pub after_tag : ℕ → Building → Building
after_tag t (nothing ts) = nothing (ts ++ t ∷ [])
after_tag t (whole m) = whole m
after_tag t (within ts inner outer) = within ts (with_tag t inner) outer

-- behind an opener
abbrev pub after_start : Inner → Building → Building
after_start new (nothing ts) = within ts new []
after_start new (whole n) = whole n
after_start new (within ts inner outer) = within ts new (put_around inner ∷ outer)

-- behind the end of the innermost list or object
abbrev pub after_end : Building → Building
after_end (nothing ts) = nothing ts
after_end (whole n) = whole n
after_end (within ts inner []) = whole (tagged ts (ended inner))
after_end (within ts inner (a ∷ outer)) = within ts (with_tree (ended inner) (back_inside a)) outer

-- the event is one that may come next: a value, a tag or an opener where a tree may come, a name in an object behind
-- whose name none is owed, and the end of what is open innermost
abbrev pub Awaits : Building → NodeEvent → Type 0
Awaits b null_event = awaits_value b ≡ true
Awaits b (bool_event t) = awaits_value b ≡ true
Awaits b (int_event z) = awaits_value b ≡ true
Awaits b (number_event t) = awaits_value b ≡ true
Awaits b (text_event t) = awaits_value b ≡ true
Awaits b (bytes_event t) = awaits_value b ≡ true
Awaits b (tag_event k) = awaits_value b ≡ true
Awaits b (opaque_event c) = awaits_value b ≡ true
Awaits b (start_list told) = awaits_value b ≡ true
Awaits b end_list = IsIn a_list (kinds b) × (awaits_content b ≡ false)
Awaits b (start_object told) = awaits_value b ≡ true
Awaits b (key_event k) = IsIn an_object (kinds b) × (awaits_value b ≡ false)
Awaits b end_object = IsIn an_object (kinds b) × (awaits_value b ≡ false)
