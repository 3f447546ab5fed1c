-- What comes next in a stream is what a builder that took the events before awaits.
use Rattle.std.proofs.Common.{◌≡◌, ◌⊎◌, inl, inr, ℕ, true, List, [], ◌∷◌, ◌++◌, refl, ap, sym, ◌∙◌, append_assoc, subst, None, append-nil}
use Rattle.std.proofs.Common.{false, ◌+◌, ◌≤◌, ◌<◌, max, arith, length}
use Rattle.sm_tree.specs.Node.{Node, Nodes, Members, null, bool, int, number, text, bytes, tag, opaque, list, object, no_nodes, node}
use Rattle.sm_tree.specs.Node.{no_members, member}
use Rattle.sm_tree.specs.Levels.{levels, nodes_levels, members_levels}
use Rattle.sm_tree.specs.Events.{NodeEvent, null_event, bool_event, int_event, number_event, text_event, bytes_event, tag_event}
use Rattle.sm_tree.specs.Events.{opaque_event, start_list, end_list, start_object, key_event, end_object, events, entries_events}
use Rattle.sm_tree.specs.Events.{pairs_events}
use Rattle.sm_tree.specs.Building.{Inner, in_list, in_object, in_pair, Around, around_list, around_object, Building, nothing, whole}
use Rattle.sm_tree.specs.Building.{within, tag_events, each_events, each_pair_events, inner_events, around_events, outer_events, so_far}
use Rattle.sm_tree.specs.Building.{kinds, awaits_value, is_tagged}
use Rattle.sm_tree.specs.OpenLevels.{around_levels, outer_levels}
use Rattle.sm_tree.specs.steps.BuilderSteps.{Awaits}
use Rattle.sm_tree.specs.Streams.{Streams, MayTake, TakesOn, unnumbered_event, unnumbered}
use Rattle.sm_tree.proofs.Streams.{unnumbered_append, stream_events}
use Rattle.sm_tree.proofs.Events.{events_append, events_injective, not_an_end}

-- a tree's first event
abbrev BeginsTree : NodeEvent → Type 0
BeginsTree null_event = Unit {0}
BeginsTree (bool_event t) = Unit {0}
BeginsTree (int_event z) = Unit {0}
BeginsTree (number_event t) = Unit {0}
BeginsTree (text_event t) = Unit {0}
BeginsTree (bytes_event t) = Unit {0}
BeginsTree (tag_event k) = Unit {0}
BeginsTree (opaque_event c) = Unit {0}
BeginsTree (start_list told) = Unit {0}
BeginsTree end_list = ⊥
BeginsTree (start_object told) = Unit {0}
BeginsTree (key_event k) = ⊥
BeginsTree end_object = ⊥

first_begins : (n : Node) (e : NodeEvent) (fs gs : List NodeEvent) → e ∷ fs ≡ events n gs → BeginsTree e
first_begins null e fs gs h = let is : e ≡ null_event = cc in subst BeginsTree (sym is) tt
first_begins (bool b) e fs gs h = let is : e ≡ bool_event b = cc in subst BeginsTree (sym is) tt
first_begins (int z) e fs gs h = let is : e ≡ int_event z = cc in subst BeginsTree (sym is) tt
first_begins (number t) e fs gs h = let is : e ≡ number_event t = cc in subst BeginsTree (sym is) tt
first_begins (text t) e fs gs h = let is : e ≡ text_event t = cc in subst BeginsTree (sym is) tt
first_begins (bytes t) e fs gs h = let is : e ≡ bytes_event t = cc in subst BeginsTree (sym is) tt
first_begins (tag k n) e fs gs h = let is : e ≡ tag_event k = cc in subst BeginsTree (sym is) tt
first_begins (opaque b) e fs gs h = let is : e ≡ opaque_event b = cc in subst BeginsTree (sym is) tt
first_begins (list ns) e fs gs h = let is : e ≡ start_list None = cc in subst BeginsTree (sym is) tt
first_begins (object ms) e fs gs h = let is : e ≡ start_object None = cc in subst BeginsTree (sym is) tt

-- where a tree may come, each event that begins one is awaited
begun_awaited : (b : Building) (e : NodeEvent) → awaits_value b ≡ true → BeginsTree e → Awaits b e
begun_awaited b null_event awaits begins = awaits
begun_awaited b (bool_event t) awaits begins = awaits
begun_awaited b (int_event z) awaits begins = awaits
begun_awaited b (number_event t) awaits begins = awaits
begun_awaited b (text_event t) awaits begins = awaits
begun_awaited b (bytes_event t) awaits begins = awaits
begun_awaited b (tag_event k) awaits begins = awaits
begun_awaited b (opaque_event c) awaits begins = awaits
begun_awaited b (start_list told) awaits begins = awaits
begun_awaited b end_list awaits begins = absurd begins
begun_awaited b (start_object told) awaits begins = awaits
begun_awaited b (key_event k) awaits begins = absurd begins
begun_awaited b end_object awaits begins = absurd begins

-- which tree begins with an opener or a tag, what comes then, and how deep that nests
pub list_opened : (n : Node) (xs gs : List NodeEvent) → start_list None ∷ xs ≡ events n gs
    → (ns : Nodes) × (xs ≡ entries_events ns gs) × (levels n ≡ 1 + nodes_levels ns)
list_opened (list ns) xs gs h = (ns, cc, refl)
list_opened null xs gs h = absurd cc
list_opened (bool b) xs gs h = absurd cc
list_opened (int z) xs gs h = absurd cc
list_opened (number t) xs gs h = absurd cc
list_opened (text t) xs gs h = absurd cc
list_opened (bytes t) xs gs h = absurd cc
list_opened (tag k n) xs gs h = absurd cc
list_opened (opaque b) xs gs h = absurd cc
list_opened (object ms) xs gs h = absurd cc

pub object_opened : (n : Node) (xs gs : List NodeEvent) → start_object None ∷ xs ≡ events n gs
    → (ms : Members) × (xs ≡ pairs_events ms gs) × (levels n ≡ 1 + members_levels ms)
object_opened (object ms) xs gs h = (ms, cc, refl)
object_opened null xs gs h = absurd cc
object_opened (bool b) xs gs h = absurd cc
object_opened (int z) xs gs h = absurd cc
object_opened (number t) xs gs h = absurd cc
object_opened (text t) xs gs h = absurd cc
object_opened (bytes t) xs gs h = absurd cc
object_opened (tag k n) xs gs h = absurd cc
object_opened (opaque b) xs gs h = absurd cc
object_opened (list ns) xs gs h = absurd cc

tag_opened : (n : Node) (k : ℕ) (xs gs : List NodeEvent) → tag_event k ∷ xs ≡ events n gs
    → (m : Node) × (xs ≡ events m gs) × (levels n ≡ 1 + levels m)
tag_opened (tag j n) k xs gs h = (n, cc, refl)
tag_opened null k xs gs h = absurd cc
tag_opened (bool b) k xs gs h = absurd cc
tag_opened (int z) k xs gs h = absurd cc
tag_opened (number t) k xs gs h = absurd cc
tag_opened (text t) k xs gs h = absurd cc
tag_opened (bytes t) k xs gs h = absurd cc
tag_opened (opaque b) k xs gs h = absurd cc
tag_opened (list ns) k xs gs h = absurd cc
tag_opened (object ms) k xs gs h = absurd cc

-- behind tags a tree comes
pub behind_tags : (ts : List ℕ) (n : Node) (xs gs : List NodeEvent) → tag_events ts ++ xs ≡ events n gs
    → (m : Node) × (xs ≡ events m gs) × (levels n ≡ length ts + levels m)
behind_tags [] n xs gs h = (n, h, omega arith)
behind_tags (t ∷ ts) n xs gs h =
    let (p, inside, one) = tag_opened n t (tag_events ts ++ xs) gs h in
    let (m, is, rest) = behind_tags ts p xs gs inside in (m, is, omega arith)

-- what stands behind a tree's events and others is behind them all
events_behind : (n : Node) (ys xs : List NodeEvent) → events n ys ++ xs ≡ events n (ys ++ xs)
events_behind n ys xs =
    ap (λ es. es ++ xs) (events_append n ys) ∙ append_assoc (events n []) ys xs ∙ sym (events_append n (ys ++ xs))

-- behind some entries of a list come the others
behind_entries : (ns : List Node) (ms : Nodes) (xs gs : List NodeEvent) → each_events ns ++ xs ≡ entries_events ms gs
    → (rest : Nodes) × (xs ≡ entries_events rest gs) × (nodes_levels rest ≤ nodes_levels ms)
behind_entries [] ms xs gs h = (ms, h, omega arith)
behind_entries (n ∷ ns) no_nodes xs gs h =
    absurd (not_an_end n (each_events ns ++ xs) gs (sym h ∙ events_behind n (each_events ns) xs))
behind_entries (n ∷ ns) (node m ms) xs gs h =
    let both : (n ≡ m) × (each_events ns ++ xs ≡ entries_events ms gs) =
    events_injective n m (each_events ns ++ xs) (entries_events ms gs) (sym (events_behind n (each_events ns) xs) ∙ h) in
    let (rest, is, room) = behind_entries ns ms xs gs both.1 in
    let below : nodes_levels ms ≤ max (levels m) (nodes_levels ms) = omega arith in (rest, is, omega arith)

behind_pairs : (ns : List (List ℕ × Node)) (ms : Members) (xs gs : List NodeEvent) → each_pair_events ns ++ xs ≡ pairs_events ms gs
    → (rest : Members) × (xs ≡ pairs_events rest gs) × (members_levels rest ≤ members_levels ms)
behind_pairs [] ms xs gs h = (ms, h, omega arith)
behind_pairs (n ∷ ns) no_members xs gs h = absurd cc
behind_pairs (n ∷ ns) (member k m ms) xs gs h =
    let value : events n.1 (each_pair_events ns) ++ xs ≡ events m (pairs_events ms gs) = cc in
    let both : (n.1 ≡ m) × (each_pair_events ns ++ xs ≡ pairs_events ms gs) =
    events_injective n.1 m (each_pair_events ns ++ xs) (pairs_events ms gs) (sym (events_behind n.1 (each_pair_events ns) xs) ∙ value) in
    let (rest, is, room) = behind_pairs ns ms xs gs both.1 in
    let below : members_levels ms ≤ max (levels m) (members_levels ms) = omega arith in (rest, is, omega arith)

-- a tree below the tags and one level more, which has so many levels in all
abbrev pub TreeWithin : List ℕ → ℕ → List NodeEvent → Type 0
TreeWithin ts top xs = (m : Node) × (hs : List NodeEvent) × (xs ≡ events m hs) × (1 + length ts + levels m ≤ top)

-- behind entries and the tags of the next one: a tree, or the end where there are no tags
abbrev pub ListGoesOn : List ℕ → ℕ → List NodeEvent → Type 0
ListGoesOn ts top xs = TreeWithin ts top xs ⊎ ((ts ≡ []) × (hs : List NodeEvent) × (xs ≡ end_list ∷ hs))

in_entries : (ts : List ℕ) (ms : Nodes) (xs gs : List NodeEvent) (top : ℕ) → nodes_levels ms < top
    → tag_events ts ++ xs ≡ entries_events ms gs → ListGoesOn ts top xs
in_entries [] no_nodes xs gs top room h = inr (refl, gs, h)
in_entries [] (node m ms) xs gs top room h =
    let below : levels m ≤ max (levels m) (nodes_levels ms) = omega arith in inl (m, entries_events ms gs, h, omega arith)
in_entries (t ∷ ts) no_nodes xs gs top room h = absurd cc
in_entries (t ∷ ts) (node m ms) xs gs top room h =
    let below : levels m ≤ max (levels m) (nodes_levels ms) = omega arith in
    let (n, is, all) = behind_tags (t ∷ ts) m xs (entries_events ms gs) h in inl (n, entries_events ms gs, is, omega arith)

pub in_a_list : (ns : List Node) (ts : List ℕ) (n : Node) (xs gs : List NodeEvent)
    → start_list None ∷ ((each_events ns ++ tag_events ts) ++ xs) ≡ events n gs → ListGoesOn ts (levels n) xs
in_a_list ns ts n xs gs h =
    let (ms, opened, top) = list_opened n ((each_events ns ++ tag_events ts) ++ xs) gs h in
    let (rest, behind, room) =
    behind_entries ns ms (tag_events ts ++ xs) gs (sym (append_assoc (each_events ns) (tag_events ts) xs) ∙ opened) in
    in_entries ts rest xs gs (levels n) (omega arith) behind

-- behind a name and the tags of its value a tree comes
pub in_a_pair : (ms : List (List ℕ × Node)) (k : List ℕ) (ts : List ℕ) (n : Node) (xs gs : List NodeEvent)
    → start_object None ∷ ((each_pair_events ms ++ key_event k ∷ tag_events ts) ++ xs) ≡ events n gs → TreeWithin ts (levels n) xs
in_a_pair ms k ts n xs gs h =
    let (all, opened, top) = object_opened n ((each_pair_events ms ++ key_event k ∷ tag_events ts) ++ xs) gs h in
    let (rest, behind, room) = behind_pairs ms all (key_event k ∷ (tag_events ts ++ xs)) gs
    (sym (append_assoc (each_pair_events ms) (key_event k ∷ tag_events ts) xs) ∙ opened) in
    value_of rest (omega arith) behind
  where
    value_of : (rest : Members) → members_levels rest < levels n → key_event k ∷ (tag_events ts ++ xs) ≡ pairs_events rest gs
        → TreeWithin ts (levels n) xs
    value_of no_members below e = absurd cc
    value_of (member j m rest) below e =
        let value : tag_events ts ++ xs ≡ events m (pairs_events rest gs) = cc in
        let one : levels m ≤ max (levels m) (members_levels rest) = omega arith in
        let (p, is, all) = behind_tags ts m xs (pairs_events rest gs) value in (p, pairs_events rest gs, is, omega arith)

-- behind an opened object's pairs: a name, or the end
in_an_object : (ms : List (List ℕ × Node)) (n : Node) (e : NodeEvent) (fs gs : List NodeEvent)
    → start_object None ∷ (each_pair_events ms ++ e ∷ fs) ≡ events n gs
    → ((k : List ℕ) × (e ≡ key_event k)) ⊎ (e ≡ end_object)
in_an_object ms n e fs gs h =
    let opened = object_opened n (each_pair_events ms ++ e ∷ fs) gs h in
    let behind = behind_pairs ms opened.0 (e ∷ fs) gs opened.1 in next_of behind.0 behind.1
  where
    next_of : (rest : Members) → e ∷ fs ≡ pairs_events rest gs → ((k : List ℕ) × (e ≡ key_event k)) ⊎ (e ≡ end_object)
    next_of no_members is = inr cc
    next_of (member k m rest) is = inl (k, cc)

-- the stream begins with an opener
abbrev pub Opens : List NodeEvent → Type 0
Opens xs = ((ys : List NodeEvent) × (xs ≡ start_list None ∷ ys)) ⊎ ((ys : List NodeEvent) × (xs ≡ start_object None ∷ ys))

no_end_opens : (xs hs : List NodeEvent) → Opens xs → xs ≡ end_list ∷ hs → ⊥
no_end_opens xs hs (inl opens) h = let a : xs ≡ start_list None ∷ opens.0 = opens.1 in cc
no_end_opens xs hs (inr opens) h = let a : xs ≡ start_object None ∷ opens.0 = opens.1 in cc

opened_around : (a : Around) (xs : List NodeEvent) → Opens (around_events a ++ xs)
opened_around (around_list ns ts) xs = inl ((each_events ns ++ tag_events ts) ++ xs, refl)
opened_around (around_object ms k ts) xs = inr ((each_pair_events ms ++ key_event k ∷ tag_events ts) ++ xs, refl)

pub opened_inner : (i : Inner) (xs : List NodeEvent) → Opens (inner_events i ++ xs)
opened_inner (in_list ns ts) xs = inl ((each_events ns ++ tag_events ts) ++ xs, refl)
opened_inner (in_object ms) xs = inr (each_pair_events ms ++ xs, refl)
opened_inner (in_pair ms k ts) xs = inr ((each_pair_events ms ++ key_event k ∷ tag_events ts) ++ xs, refl)

-- where something opens in what is around, a tree comes
behind_around : (a : Around) (n : Node) (xs gs : List NodeEvent) → Opens xs → around_events a ++ xs ≡ events n gs
    → (m : Node) × (hs : List NodeEvent) × (xs ≡ events m hs) × (around_levels a + levels m ≤ levels n)
behind_around (around_list ns ts) n xs gs opens h = tree_of (in_a_list ns ts n xs gs h)
  where
    tree_of : ListGoesOn ts (levels n) xs → (m : Node) × (hs : List NodeEvent) × (xs ≡ events m hs) × (1 + length ts + levels m ≤ levels n)
    tree_of (inl tree) = tree
    tree_of (inr end) = absurd (no_end_opens xs end.1 opens end.2)
behind_around (around_object ms k ts) n xs gs opens h = in_a_pair ms k ts n xs gs h

pub behind_outer : (outer : List Around) (n : Node) (xs gs : List NodeEvent) → Opens xs → outer_events outer ++ xs ≡ events n gs
    → (m : Node) × (hs : List NodeEvent) × (xs ≡ events m hs) × (outer_levels outer + levels m ≤ levels n)
behind_outer [] n xs gs opens h = (n, gs, h, omega arith)
behind_outer (a ∷ outer) n xs gs opens h =
    let (p, fs, around, room) = behind_outer outer n (around_events a ++ xs) gs (opened_around a xs)
    (sym (append_assoc (outer_events outer) (around_events a) xs) ∙ h) in
    let (m, hs, is, more) = behind_around a p xs fs opens around in (m, hs, is, omega arith)

-- what the innermost awaits
inner_awaited : (ts : List ℕ) (i : Inner) (outer : List Around) (n : Node) (e : NodeEvent) (fs gs : List NodeEvent)
    → inner_events i ++ e ∷ fs ≡ events n gs → Awaits (within ts i outer) e
inner_awaited ts (in_list ns us) outer n e fs gs h = of_list (in_a_list ns us n (e ∷ fs) gs h)
  where
    of_list : ListGoesOn us (levels n) (e ∷ fs) → Awaits (within ts (in_list ns us) outer) e
    of_list (inl tree) = begun_awaited (within ts (in_list ns us) outer) e refl (first_begins tree.0 e fs tree.1 tree.2)
    of_list (inr end) =
        let is : e ≡ end_list = let x : e ∷ fs ≡ end_list ∷ end.1 = end.2 in cc in
        subst (λ d. Awaits (within ts (in_list ns us) outer) d) (sym is) (refl, ap is_tagged end.0)
inner_awaited ts (in_object ms) outer n e fs gs h = of_object (in_an_object ms n e fs gs h)
  where
    of_object : ((k : List ℕ) × (e ≡ key_event k)) ⊎ (e ≡ end_object) → Awaits (within ts (in_object ms) outer) e
    of_object (inl key) = subst (λ d. Awaits (within ts (in_object ms) outer) d) (sym key.1) (refl, refl)
    of_object (inr end) = subst (λ d. Awaits (within ts (in_object ms) outer) d) (sym end) (refl, refl)
inner_awaited ts (in_pair ms k us) outer n e fs gs h =
    let tree = in_a_pair ms k us n (e ∷ fs) gs h in
    begun_awaited (within ts (in_pair ms k us) outer) e refl (first_begins tree.0 e fs tree.1 tree.2)

-- what comes next in a tree's events is awaited by a builder that took those before
pub next_awaited : (b : Building) (e : NodeEvent) (fs : List NodeEvent) (n : Node) → so_far b ++ e ∷ fs ≡ events n [] → Awaits b e
next_awaited (nothing ts) e fs n h =
    let tree = behind_tags ts n (e ∷ fs) [] h in
    begun_awaited (nothing ts) e refl (first_begins tree.0 e fs [] tree.1)
next_awaited (whole m) e fs n h =
    let both : (m ≡ n) × (e ∷ fs ≡ []) = events_injective m n (e ∷ fs) [] (events_append m (e ∷ fs) ∙ h) in
    let none : e ∷ fs ≡ [] = both.1 in absurd cc
next_awaited (within ts i outer) e fs n h =
    let inside =
    behind_tags ts n ((outer_events outer ++ inner_events i) ++ e ∷ fs) []
    (sym (append_assoc (tag_events ts) (outer_events outer ++ inner_events i) (e ∷ fs)) ∙ h) in
    let tree =
    behind_outer outer inside.0 (inner_events i ++ e ∷ fs) [] (opened_inner i (e ∷ fs))
    (sym (append_assoc (outer_events outer) (inner_events i) (e ∷ fs)) ∙ inside.1) in
    inner_awaited ts i outer tree.0 e fs tree.1 tree.2

-- a builder that stands for a stream awaits each event with which that goes on
pub placed_awaited : (b : Building) (e : NodeEvent) → MayTake (λ es. unnumbered es ≡ so_far b) e → Awaits b (unnumbered_event e)
placed_awaited b e (es, stands, begins) =
    let n : Node = begins.0 in
    let more : List NodeEvent = begins.1 in
    let stream : Streams n ((es ++ e ∷ []) ++ more) [] = begins.2 in
    let is : unnumbered ((es ++ e ∷ []) ++ more) ≡ events n [] = stream_events n ((es ++ e ∷ []) ++ more) [] stream in
    let parts : unnumbered ((es ++ e ∷ []) ++ more) ≡ unnumbered es ++ unnumbered_event e ∷ unnumbered more =
    ap unnumbered (append_assoc es (e ∷ []) more) ∙ unnumbered_append es (e ∷ more) in
    next_awaited b (unnumbered_event e) (unnumbered more) n (ap (λ fs. fs ++ unnumbered_event e ∷ unnumbered more) (sym stands)
    ∙ sym parts ∙ is)

-- where it takes the event, it stands for the longer stream
pub taken_on : (b c : Building) (e : NodeEvent) → so_far c ≡ so_far b ++ unnumbered_event e ∷ []
    → TakesOn (λ es. unnumbered es ≡ so_far b) e (λ es. unnumbered es ≡ so_far c)
taken_on b c e taken es stands begins = unnumbered_append es (e ∷ []) ∙ ap (λ fs. fs ++ unnumbered_event e ∷ []) stands ∙ sym taken

-- where a builder took the events of a whole tree, nothing is open in it and it awaits none
no_tree : (n : Node) (gs : List NodeEvent) → [] ≡ events n gs → ⊥
no_tree null gs h = cc
no_tree (bool b) gs h = cc
no_tree (int z) gs h = cc
no_tree (number t) gs h = cc
no_tree (text t) gs h = cc
no_tree (bytes t) gs h = cc
no_tree (tag k n) gs h = cc
no_tree (opaque b) gs h = cc
no_tree (list ns) gs h = cc
no_tree (object ms) gs h = cc

no_pairs_end : (ms : Members) (gs : List NodeEvent) → [] ≡ pairs_events ms gs → ⊥
no_pairs_end no_members gs h = cc
no_pairs_end (member k n ms) gs h = cc

inner_open : (i : Inner) (n : Node) (gs : List NodeEvent) → inner_events i ≡ events n gs → ⊥
inner_open (in_list ns us) n gs h =
    ended (in_a_list ns us n [] gs (ap (λ es. start_list None ∷ es) (append-nil (each_events ns ++ tag_events us)) ∙ h))
  where
    ended : ListGoesOn us (levels n) [] → ⊥
    ended (inl tree) = no_tree tree.0 tree.1 tree.2
    ended (inr end) = let is : [] ≡ end_list ∷ end.1 = end.2 in cc
inner_open (in_object ms) n gs h =
    let inside = object_opened n (each_pair_events ms) gs h in
    let rest = behind_pairs ms inside.0 [] gs (append-nil (each_pair_events ms) ∙ inside.1) in no_pairs_end rest.0 gs rest.1
inner_open (in_pair ms k us) n gs h =
    let tree = in_a_pair ms k us n [] gs (ap (λ es. start_object None ∷ es)
    (append-nil (each_pair_events ms ++ key_event k ∷ tag_events us)) ∙ h) in
    no_tree tree.0 tree.1 tree.2

pub whole_closed : (b : Building) (n : Node) → so_far b ≡ events n [] → (kinds b ≡ []) × (awaits_value b ≡ false)
whole_closed (nothing ts) n h =
    let tree = behind_tags ts n [] [] (append-nil (tag_events ts) ∙ h) in absurd (no_tree tree.0 [] tree.1)
whole_closed (whole m) n h = (refl, refl)
whole_closed (within ts i outer) n h =
    let inside = behind_tags ts n (outer_events outer ++ inner_events i) [] h in
    let tree = behind_outer outer inside.0 (inner_events i) [] (subst Opens (append-nil (inner_events i)) (opened_inner i [])) inside.1 in
    absurd (inner_open i tree.0 tree.1 tree.2)
