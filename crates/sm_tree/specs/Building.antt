-- What a tree builder holds between two events, without memory: what is open, and the entries and pairs
-- of it so far. The contracts of TreeBuilder cite it, and a reader that calls one keeps its list of what
-- is open and its place next to `kinds`, `awaits_value` and `awaits_content`.
use Rattle.std.specs.Prelude.{◌≡◌, ℕ, Bool, true, false, List, [], ◌∷◌, ◌++◌, map, Option, None}
use Rattle.sm_tree.specs.Node.{Node, tag}
use Rattle.sm_tree.specs.Events.{NodeEvent, events, start_list, start_object, key_event, tag_event}
use Rattle.sm_tree.specs.Nested.{innermost_of}
use Rattle.sm_tree.specs.declared.build.OpenKind.{OpenKind}
use Rattle.sm_tree.specs.declared.build.OpenKind.TheVariants.{List as a_list, Object as an_object}

-- the innermost list or object: its entries or pairs so far, and the name whose tree is to come. The tags that have
-- come of the next tree go with it, the outermost first
pub data Inner : Type 0 where
  in_list : List Node → List ℕ → Inner
  in_object : List (List ℕ × Node) → Inner
  in_pair : List (List ℕ × Node) → List ℕ → List ℕ → Inner

-- a list or an object around it: what is open becomes its next entry, or the tree of this name, in these tags
pub data Around : Type 0 where
  around_list : List Node → List ℕ → Around
  around_object : List (List ℕ × Node) → List ℕ → List ℕ → Around

-- no event yet but tags; a whole tree; or in a list or an object, with what is around it, from the inside out, and the
-- tags round all of it
pub data Building : Type 0 where
  nothing : List ℕ → Building
  whole : Node → Building
  within : List ℕ → Inner → List Around → Building

-- a tree in tags, the outermost first
abbrev pub tagged : List ℕ → Node → Node
tagged [] n = n
tagged (k ∷ ks) n = tag k (tagged ks n)

abbrev pub tag_events : List ℕ → List NodeEvent
tag_events [] = []
tag_events (k ∷ ks) = tag_event k ∷ tag_events ks

-- the events of these entries
abbrev pub each_events : List Node → List NodeEvent
each_events [] = []
each_events (n ∷ ns) = events n (each_events ns)

-- the events of these pairs
abbrev pub each_pair_events : List (List ℕ × Node) → List NodeEvent
each_pair_events [] = []
each_pair_events (m ∷ ms) = key_event m.0 ∷ events m.1 (each_pair_events ms)

abbrev pub inner_events : Inner → List NodeEvent
inner_events (in_list ns ts) = start_list None ∷ (each_events ns ++ tag_events ts)
inner_events (in_object ms) = start_object None ∷ each_pair_events ms
inner_events (in_pair ms k ts) = start_object None ∷ (each_pair_events ms ++ key_event k ∷ tag_events ts)

abbrev pub around_events : Around → List NodeEvent
around_events (around_list ns ts) = start_list None ∷ (each_events ns ++ tag_events ts)
around_events (around_object ms k ts) = start_object None ∷ (each_pair_events ms ++ key_event k ∷ tag_events ts)

abbrev pub outer_events : List Around → List NodeEvent
outer_events [] = []
outer_events (a ∷ outer) = outer_events outer ++ around_events a

-- the events that were taken
abbrev pub so_far : Building → List NodeEvent
so_far (nothing ts) = tag_events ts
so_far (whole n) = events n []
so_far (within ts inner outer) = tag_events ts ++ (outer_events outer ++ inner_events inner)

abbrev pub inner_kind : Inner → OpenKind
inner_kind (in_list ns ts) = a_list
inner_kind (in_object ms) = an_object
inner_kind (in_pair ms k ts) = an_object

abbrev pub around_kind : Around → OpenKind
around_kind (around_list ns ts) = a_list
around_kind (around_object ms k ts) = an_object

-- what is open, from the inside out
abbrev pub kinds : Building → List OpenKind
kinds (nothing ts) = []
kinds (whole n) = []
kinds (within ts inner outer) = inner_kind inner ∷ map around_kind outer

abbrev pub inner_awaits : Inner → Bool
inner_awaits (in_list ns ts) = true
inner_awaits (in_object ms) = false
inner_awaits (in_pair ms k ts) = true

-- the innermost of what is open
abbrev pub first_kind : List OpenKind → Option OpenKind
first_kind ks = innermost_of ks

-- a tree may come next: at the start, in a list, and behind a name
abbrev pub awaits_value : Building → Bool
awaits_value (nothing ts) = true
awaits_value (whole n) = false
awaits_value (within ts inner outer) = inner_awaits inner

-- a tag has come, and its content hasn't begun
abbrev pub is_tagged : List ℕ → Bool
is_tagged [] = false
is_tagged (t ∷ ts) = true

abbrev pub inner_awaits_content : Inner → Bool
inner_awaits_content (in_list ns ts) = is_tagged ts
inner_awaits_content (in_object ms) = false
inner_awaits_content (in_pair ms k ts) = is_tagged ts

abbrev pub awaits_content : Building → Bool
awaits_content (nothing ts) = is_tagged ts
awaits_content (whole n) = false
awaits_content (within ts inner outer) = inner_awaits_content inner

-- whether behind a tree another may come at once, where these are open: in a list alone
abbrev pub goes_on : List OpenKind → Bool
goes_on [] = false
goes_on (a_list ∷ ks) = true
goes_on (an_object ∷ ks) = false

-- what is open innermost is of this kind
abbrev pub IsIn : OpenKind → List OpenKind → Type 0
IsIn k [] = ⊥
IsIn k (j ∷ ks) = j ≡ k
