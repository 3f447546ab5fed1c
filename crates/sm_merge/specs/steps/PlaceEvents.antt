-- Events that speak of shapes and members that are there, those of mixins among them, or aren't.
use Rattle.std.specs.Prelude.{ℕ, zero, suc, Bool, false, not, List, [], ◌∷◌, ◌++◌, map, Option, None, Some, if◌then◌else◌}
use Rattle.std.specs.Global.{Vec}
use Rattle.std.specs.List.{flat_map, list_any}
use Rattle.std.specs.BTreeMap.{BTreeMap, get_by}
use Rattle.std.specs.Cmp.Lexicographic.{slice_cmp}
use Rattle.std.specs.FinMap as fin
use Rattle.std.specs.Ordering.{nat_cmp}
use Rattle.std.specs.Str.{bytes_eq}
use denote.Ref.{Bor}
use Rattle.sm_model.specs.EventView.{EventTold}
use Rattle.sm_model.specs.Graphs.{member_id, text_cmp}
use Rattle.sm_merge.specs.Meaning.{Defined}
use Rattle.sm_merge.specs.steps.AllEvents.{member_event}
use Rattle.sm_merge.specs.steps.EventLists.{applied_event, trait_events}
use Rattle.sm_merge.specs.steps.Filling.{all_targets, id_at, members_at, own_at}
use Rattle.sm_merge.specs.steps.Firsts.{NamesAndTargets}
use Rattle.sm_merge.specs.steps.MixedIn.{items_at}
use Rattle.sm_merge.specs.steps.MixinsOnce.{mixins_once}
use Rattle.sm_merge.specs.steps.Tables.{traits_found}
use Rattle.sm_merge.specs.declared.firsts.NamedTarget.{NamedTarget}
use Rattle.sm_merge.specs.declared.mixins.Contributing.{Contributing}
use Rattle.sm_merge.specs.declared.parts.BareShape.{BareShape}
use Rattle.sm_merge.specs.declared.table.NamedValue.{NamedValue}
use Rattle.sm_merge.specs.declared.table.PlaceRow.{PlaceRow}

-- what stands at the numbers below one, in their order
abbrev pub all_below : {A : Type 0} → (ℕ → List A) → ℕ → List A
all_below here zero = []
all_below here (suc n) = all_below here n ++ here n

-- the ids of a shape and its members, and of all shapes before a number and their members
abbrev pub places_at : List BareShape → List (Vec NamedTarget) → ℕ → List (List ℕ)
places_at rows members v = id_at rows v ∷ map (λ p. member_id (id_at rows v) p.0) (members_at members v)

abbrev pub places_below : List BareShape → List (Vec NamedTarget) → ℕ → List (List ℕ)
places_below rows members n = all_below (places_at rows members) n

-- values of traits that are in conflict there
abbrev pub place_conflicts : List PlaceRow → List (List ℕ) → List EventTold
place_conflicts traits places = flat_map (λ id. trait_events id (traits_found id traits)) places

-- what traits are applied to, unless it is there
abbrev pub applied_events : Defined → List (List ℕ) → List EventTold
applied_events there ids = flat_map (λ id. if there id then [] else applied_event id ∷ []) ids

-- both, of the same places
abbrev pub events_at : List PlaceRow → List (List ℕ) → List (List ℕ) → List EventTold
events_at traits applied places =
    place_conflicts traits places ++ applied_events (λ id. list_any (λ place. bytes_eq place id) places) applied

-- whether some values are in conflict, wherever they are given
abbrev pub have_conflict : List NamedValue → Bool
have_conflict values = list_any (λ v. v.folded.conflict) values

abbrev pub some_conflict : List PlaceRow → Bool
some_conflict rows = list_any (λ row. have_conflict row.traits.items) rows

-- members that are defined again with another target than the first
abbrev pub is_other : Option (List ℕ) → List ℕ → Bool
is_other None target = false
is_other (Some first) target = not (bytes_eq first target)

abbrev pub Firsts : Type 0
Firsts = List ℕ → Option (List ℕ)

abbrev pub if_other : List ℕ → Firsts → List ℕ × List ℕ → List EventTold
if_other id first p = if is_other (first p.0) p.1 then member_event (member_id id p.0) p.1 ∷ [] else []

abbrev pub others_among : List ℕ → Firsts → NamesAndTargets → List EventTold
others_among id first ps = flat_map (if_other id first) ps

abbrev pub first_among : NamesAndTargets → Firsts
first_among ps name = fin.find text_cmp name ps

abbrev pub others_at : List BareShape → List (Vec Contributing) → List (Vec NamedTarget) → ℕ → List EventTold
others_at rows mixed members v =
    others_among (id_at rows v) (first_among (members_at members v)) (all_targets members (mixins_once (items_at mixed v)) (own_at rows v))

-- the first targets in the code
abbrev pub target_in : Option (Bor (List ℕ)) → Option (List ℕ)
target_in None = None
target_in (Some target) = Some target.now

abbrev pub first_in : BTreeMap (Bor (List ℕ)) (Bor (List ℕ)) → Firsts
first_in map name = target_in (get_by (λ k. slice_cmp nat_cmp name k.now) map)

abbrev pub others_below : List BareShape → List (Vec Contributing) → List (Vec NamedTarget) → ℕ → List EventTold
others_below rows mixed members n = all_below (others_at rows mixed members) n
