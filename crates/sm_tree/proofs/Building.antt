-- What each call of a builder adds to the events that it has taken, over the data of Building alone.
use Rattle.std.proofs.Common.{◌≡◌, ℕ, true, false, List, [], ◌∷◌, ◌++◌, refl, ap, sym, ◌∙◌, append_assoc, append-nil, None}
use Rattle.sm_tree.specs.Node.{Node, tag, nodes_of, members_of}
use Rattle.sm_tree.specs.Events.{NodeEvent, start_list, start_object, end_list, end_object, key_event, tag_event, events, entries_events}
use Rattle.sm_tree.specs.Events.{pairs_events}
use Rattle.sm_tree.specs.Building.{Inner, in_list, in_object, in_pair, Around, around_list, around_object, Building, nothing, whole}
use Rattle.sm_tree.specs.Building.{within, tagged, tag_events, each_events, each_pair_events, inner_events, around_events, outer_events}
use Rattle.sm_tree.specs.Building.{so_far, kinds, inner_awaits, awaits_value, is_tagged, inner_awaits_content, awaits_content}
use Rattle.sm_tree.specs.Building.{IsIn}
use Rattle.sm_tree.specs.steps.BuilderSteps.{with_tree, with_tag, ended, back_inside, after_value, after_tag, after_end}
use Rattle.sm_tree.specs.declared.build.OpenKind.{OpenKind}
use Rattle.sm_tree.specs.declared.build.OpenKind.TheVariants.{List as a_list, Object as an_object}
use Rattle.sm_tree.proofs.Events.{events_append}

-- one more entry
pub each_events_more : (ns : List Node) (n : Node) → each_events (ns ++ n ∷ []) ≡ each_events ns ++ events n []
each_events_more [] n = refl
each_events_more (m ∷ ns) n =
    ap (λ es. events m es) (each_events_more ns n)
    ∙ events_append m (each_events ns ++ events n [])
    ∙ sym (append_assoc (events m []) (each_events ns) (events n []))
    ∙ ap (λ es. es ++ events n []) (sym (events_append m (each_events ns)))

-- one more pair
pub each_pair_events_more : (ms : List (List ℕ × Node)) (k : List ℕ) (n : Node)
    → each_pair_events (ms ++ (k, n) ∷ []) ≡ each_pair_events ms ++ (key_event k ∷ events n [])
each_pair_events_more [] k n = refl
each_pair_events_more (m ∷ ms) k n = ap (λ es. key_event m.0 ∷ es)
    (ap (λ es. events m.1 es) (each_pair_events_more ms k n)
    ∙ events_append m.1 (each_pair_events ms ++ (key_event k ∷ events n []))
    ∙ sym (append_assoc (events m.1 []) (each_pair_events ms) (key_event k ∷ events n []))
    ∙ ap (λ es. es ++ (key_event k ∷ events n [])) (sym (events_append m.1 (each_pair_events ms))))

-- a list's entries and its end
pub entries_then_end : (ns : List Node) → entries_events (nodes_of ns) [] ≡ each_events ns ++ (end_list ∷ [])
entries_then_end [] = refl
entries_then_end (n ∷ ns) =
    ap (λ es. events n es) (entries_then_end ns)
    ∙ events_append n (each_events ns ++ (end_list ∷ []))
    ∙ sym (append_assoc (events n []) (each_events ns) (end_list ∷ []))
    ∙ ap (λ es. es ++ (end_list ∷ [])) (sym (events_append n (each_events ns)))

-- an object's pairs and its end
pub pairs_then_end : (ms : List (List ℕ × Node)) → pairs_events (members_of ms) [] ≡ each_pair_events ms ++ (end_object ∷ [])
pairs_then_end [] = refl
pairs_then_end (m ∷ ms) = ap (λ es. key_event m.0 ∷ es)
    (ap (λ es. events m.1 es) (pairs_then_end ms)
    ∙ events_append m.1 (each_pair_events ms ++ (end_object ∷ []))
    ∙ sym (append_assoc (events m.1 []) (each_pair_events ms) (end_object ∷ []))
    ∙ ap (λ es. es ++ (end_object ∷ [])) (sym (events_append m.1 (each_pair_events ms))))

-- tags, one more, and round a tree
pub tag_events_more : (ts : List ℕ) (t : ℕ) → tag_events (ts ++ t ∷ []) ≡ tag_events ts ++ tag_event t ∷ []
tag_events_more [] t = refl
tag_events_more (k ∷ ts) t = ap (λ es. tag_event k ∷ es) (tag_events_more ts t)

pub tagged_events : (ts : List ℕ) (n : Node) (es : List NodeEvent) → events (tagged ts n) es ≡ tag_events ts ++ events n es
tagged_events [] n es = refl
tagged_events (k ∷ ts) n es = ap (λ fs. tag_event k ∷ fs) (tagged_events ts n es)

pub tagged_more : (ts : List ℕ) (t : ℕ) (n : Node) → tagged (ts ++ t ∷ []) n ≡ tagged ts (tag t n)
tagged_more [] t n = refl
tagged_more (k ∷ ts) t n = ap (λ m. tag k m) (tagged_more ts t n)

-- the end that a list or an object has
abbrev pub end_of : Inner → NodeEvent
end_of (in_list ns ts) = end_list
end_of (in_object ms) = end_object
end_of (in_pair ms k ts) = end_object

-- no name and no tag awaits its tree
abbrev pub MayEnd : Inner → Type 0
MayEnd (in_list ns ts) = ts ≡ []
MayEnd (in_object ms) = Unit {0}
MayEnd (in_pair ms k ts) = ⊥

pub ended_events : (i : Inner) → MayEnd i → events (ended i) [] ≡ inner_events i ++ (end_of i ∷ [])
ended_events (in_list ns ts) may =
    let tags : each_events ns ++ tag_events ts ≡ each_events ns = ap (λ us. each_events ns ++ tag_events us) may
    ∙ append-nil (each_events ns) in
    ap (λ es. start_list None ∷ es) (entries_then_end ns ∙ ap (λ es. es ++ (end_list ∷ [])) (sym tags))
ended_events (in_object ms) may = ap (λ es. start_object None ∷ es) (pairs_then_end ms)
ended_events (in_pair ms k ts) may = absurd may

pub with_tree_events : (i : Inner) (n : Node) → inner_awaits i ≡ true → inner_events (with_tree n i) ≡ inner_events i ++ events n []
with_tree_events (in_list ns ts) n awaits = ap (λ es. start_list None ∷ es)
    (append-nil (each_events (ns ++ tagged ts n ∷ []))
    ∙ each_events_more ns (tagged ts n)
    ∙ ap (λ es. each_events ns ++ es) (tagged_events ts n [])
    ∙ sym (append_assoc (each_events ns) (tag_events ts) (events n [])))
with_tree_events (in_object ms) n awaits = absurd cc
with_tree_events (in_pair ms k ts) n awaits = ap (λ es. start_object None ∷ es)
    (each_pair_events_more ms k (tagged ts n)
    ∙ ap (λ es. each_pair_events ms ++ key_event k ∷ es) (tagged_events ts n [])
    ∙ sym (append_assoc (each_pair_events ms) (key_event k ∷ tag_events ts) (events n [])))

pub with_tag_events : (i : Inner) (t : ℕ) → inner_awaits i ≡ true → inner_events (with_tag t i) ≡ inner_events i ++ tag_event t ∷ []
with_tag_events (in_list ns ts) t awaits = ap (λ es. start_list None ∷ es)
    (ap (λ es. each_events ns ++ es) (tag_events_more ts t) ∙ sym (append_assoc (each_events ns) (tag_events ts) (tag_event t ∷ [])))
with_tag_events (in_object ms) t awaits = absurd cc
with_tag_events (in_pair ms k ts) t awaits = ap (λ es. start_object None ∷ es)
    (ap (λ es. each_pair_events ms ++ key_event k ∷ es) (tag_events_more ts t)
    ∙ sym (append_assoc (each_pair_events ms) (key_event k ∷ tag_events ts) (tag_event t ∷ [])))

pub back_inside_events : (a : Around) → inner_events (back_inside a) ≡ around_events a
back_inside_events (around_list ns ts) = refl
back_inside_events (around_object ms k ts) = refl

pub back_inside_awaits : (a : Around) → inner_awaits (back_inside a) ≡ true
back_inside_awaits (around_list ns ts) = refl
back_inside_awaits (around_object ms k ts) = refl

-- events behind those of what is open
more_behind : (ts : List ℕ) (outer : List Around) (es fs gs : List NodeEvent) → gs ≡ es ++ fs
    → tag_events ts ++ (outer_events outer ++ gs) ≡ (tag_events ts ++ (outer_events outer ++ es)) ++ fs
more_behind ts outer es fs gs e =
    ap (λ hs. tag_events ts ++ (outer_events outer ++ hs)) e
    ∙ ap (λ hs. tag_events ts ++ hs) (sym (append_assoc (outer_events outer) es fs))
    ∙ sym (append_assoc (tag_events ts) (outer_events outer ++ es) fs)

-- a tree
pub value_taken : (b : Building) (n : Node) → awaits_value b ≡ true → so_far (after_value n b) ≡ so_far b ++ events n []
value_taken (nothing ts) n awaits = tagged_events ts n []
value_taken (whole m) n awaits = absurd cc
value_taken (within ts i outer) n awaits = more_behind ts outer (inner_events i) (events n []) (inner_events (with_tree n i))
    (with_tree_events i n awaits)

-- a tag
pub tag_taken : (b : Building) (t : ℕ) → awaits_value b ≡ true → so_far (after_tag t b) ≡ so_far b ++ tag_event t ∷ []
tag_taken (nothing ts) t awaits = tag_events_more ts t
tag_taken (whole m) t awaits = absurd cc
tag_taken (within ts i outer) t awaits = more_behind ts outer (inner_events i) (tag_event t ∷ []) (inner_events (with_tag t i))
    (with_tag_events i t awaits)

-- the end of what is open
pub end_taken : (ts : List ℕ) (i : Inner) (outer : List Around) → MayEnd i
    → so_far (after_end (within ts i outer)) ≡ so_far (within ts i outer) ++ (end_of i ∷ [])
end_taken ts i [] may =
    tagged_events ts (ended i) [] ∙ more_behind ts [] (inner_events i) (end_of i ∷ []) (events (ended i) []) (ended_events i may)
end_taken ts i (a ∷ outer) may =
    let entry : inner_events (with_tree (ended i) (back_inside a)) ≡ around_events a ++ (inner_events i ++ (end_of i ∷ [])) =
    with_tree_events (back_inside a) (ended i) (back_inside_awaits a)
    ∙ ap (λ es. es ++ events (ended i) []) (back_inside_events a)
    ∙ ap (λ es. around_events a ++ es) (ended_events i may) in
    ap (λ es. tag_events ts ++ es)
    (ap (λ es. outer_events outer ++ es) entry
    ∙ sym (append_assoc (outer_events outer) (around_events a) (inner_events i ++ (end_of i ∷ [])))
    ∙ sym (append_assoc (outer_events outer ++ around_events a) (inner_events i) (end_of i ∷ [])))
    ∙ sym (append_assoc (tag_events ts) ((outer_events outer ++ around_events a) ++ inner_events i) (end_of i ∷ []))

-- where no tag awaits its content, none is left
none_left : (ts : List ℕ) → is_tagged ts ≡ false → ts ≡ []
none_left [] e = refl
none_left (t ∷ ts) e = absurd cc

pub end_list_taken : (b : Building) → IsIn a_list (kinds b) → awaits_content b ≡ false → so_far (after_end b) ≡ so_far b ++ (end_list ∷ [])
end_list_taken (nothing ts) is_in settled = absurd is_in
end_list_taken (whole n) is_in settled = absurd is_in
end_list_taken (within ts (in_list ns us) outer) is_in settled = end_taken ts (in_list ns us) outer (none_left us settled)
end_list_taken (within ts (in_object ms) outer) is_in settled = absurd cc
end_list_taken (within ts (in_pair ms k us) outer) is_in settled = absurd cc

pub end_object_taken : (b : Building) → IsIn an_object (kinds b) → awaits_value b ≡ false
    → so_far (after_end b) ≡ so_far b ++ (end_object ∷ [])
end_object_taken (nothing ts) is_in unnamed = absurd is_in
end_object_taken (whole n) is_in unnamed = absurd is_in
end_object_taken (within ts (in_list ns us) outer) is_in unnamed = absurd cc
end_object_taken (within ts (in_object ms) outer) is_in unnamed = end_taken ts (in_object ms) outer tt
end_object_taken (within ts (in_pair ms k us) outer) is_in unnamed = absurd cc

-- a tag awaits its content behind it, and nowhere else
pub is_tagged_more : (ts : List ℕ) (t : ℕ) → is_tagged (ts ++ t ∷ []) ≡ true
is_tagged_more [] t = refl
is_tagged_more (k ∷ ts) t = refl

pub with_tag_content : (i : Inner) (t : ℕ) → inner_awaits i ≡ true → inner_awaits_content (with_tag t i) ≡ true
with_tag_content (in_list ns ts) t awaits = is_tagged_more ts t
with_tag_content (in_object ms) t awaits = absurd cc
with_tag_content (in_pair ms k ts) t awaits = is_tagged_more ts t

pub with_tree_content : (i : Inner) (n : Node) → inner_awaits_content (with_tree n i) ≡ false
with_tree_content (in_list ns ts) n = refl
with_tree_content (in_object ms) n = refl
with_tree_content (in_pair ms k ts) n = refl

pub end_content : (b : Building) (k : OpenKind) → IsIn k (kinds b) → awaits_content (after_end b) ≡ false
end_content (nothing ts) k is_in = absurd is_in
end_content (whole n) k is_in = refl
end_content (within ts i []) k is_in = refl
end_content (within ts i (a ∷ outer)) k is_in = with_tree_content (back_inside a) (ended i)
