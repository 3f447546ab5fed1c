-- Events of members and of what traits are applied to, one after the other.
use Rattle.std.proofs.Common.{◌≡◌, ℕ, Bool, true, false, cond, List, [], ◌∷◌, ◌++◌, Option, Some, refl, sym, ap, ◌∙◌, append-nil}
use Rattle.std.proofs.Common.{append_assoc}
use Rattle.std.proofs.Common.{bytes_eq}
use Rattle.std.specs.Prelude.{if◌then◌else◌, not}
use Rattle.std.specs.Global.{Vec}
use Rattle.std.proofs.lemmas.Bool.{true≢false}
use denote.Ref.{Bor}
use Rattle.sm_model.specs.EventView.{EventTold, events_view}
use Rattle.sm_model.specs.Graphs.{member_id}
use Rattle.sm_model.specs.declared.event.ModelEvent.{ModelEvent}
use Rattle.sm_merge.specs.Meaning.{Defined}
use Rattle.sm_merge.specs.steps.AllEvents.{member_event}
use Rattle.sm_merge.specs.steps.EventLists.{TellsMore, applied_event}
use Rattle.sm_merge.specs.steps.Filling.{all_targets, id_in, own_in}
use Rattle.sm_merge.specs.steps.Firsts.{NamesAndTargets, targets_view}
use Rattle.sm_merge.specs.steps.Links.{At}
use Rattle.sm_merge.specs.steps.MixedIn.{vec_items}
use Rattle.sm_merge.specs.steps.MixinsOnce.{mixins_once}
use Rattle.sm_merge.specs.steps.PlaceEvents.{Firsts, applied_events, first_among, if_other, is_other, others_among, others_at}
use Rattle.sm_merge.specs.steps.PlaceEvents.{target_in}
use Rattle.sm_merge.specs.declared.firsts.NamedTarget.{NamedTarget}
use Rattle.sm_merge.specs.declared.mixins.Contributing.{Contributing}
use Rattle.sm_merge.specs.declared.parts.BareShape.{BareShape}
use Rattle.sm_groups.proofs.GroupsMade.{tests}

pub nothing_more : (es : List ModelEvent) → TellsMore es es []
nothing_more es = record { told = sym (append-nil (events_view es)); errors = λ h. h }

pub others_joined : (id : List ℕ) (first : Firsts) (xs ys : NamesAndTargets)
    → others_among id first (xs ++ ys) ≡ others_among id first xs ++ others_among id first ys
others_joined id first [] ys = refl
others_joined id first (x ∷ xs) ys =
    ap (λ l. if_other id first x ++ l) (others_joined id first xs ys)
    ∙ sym (append_assoc (if_other id first x) (others_among id first xs) (others_among id first ys))

pub others_same : (id : List ℕ) (f g : Firsts) → ((n : List ℕ) → f n ≡ g n) → (ps : NamesAndTargets)
    → others_among id f ps ≡ others_among id g ps
others_same id f g h [] = refl
others_same id f g h (p ∷ ps) =
    λ i. (if is_other (h p.0 i) p.1 then member_event (member_id id p.0) p.1 ∷ [] else []) ++ others_same id f g h ps i

pub other_put : (id : List ℕ) (first : Firsts) (p : List ℕ × List ℕ) → is_other (first p.0) p.1 ≡ true
    → others_among id first (p ∷ []) ≡ member_event (member_id id p.0) p.1 ∷ []
other_put id first p is = ap (λ b. (if b then member_event (member_id id p.0) p.1 ∷ [] else []) ++ []) is

pub other_none : (id : List ℕ) (first : Firsts) (p : List ℕ × List ℕ) → is_other (first p.0) p.1 ≡ false
    → others_among id first (p ∷ []) ≡ []
other_none id first p is = ap (λ b. (if b then member_event (member_id id p.0) p.1 ∷ [] else []) ++ []) is

pub not_true : (x : Bool) → not x ≡ true → x ≡ false
not_true true h = absurd (true≢false (sym h))
not_true false h = refl

pub not_false : (x : Bool) → not x ≡ false → x ≡ true
not_false true h = refl
not_false false h = absurd (true≢false h)

-- what traits are applied to
pub applied_same : (f g : Defined) → ((id : List ℕ) → f id ≡ g id) → (ids : List (List ℕ)) → applied_events f ids ≡ applied_events g ids
applied_same f g h [] = refl
applied_same f g h (id ∷ ids) = λ i. (if h id i then [] else applied_event id ∷ []) ++ applied_same f g h ids i

pub applied_there : (f : Defined) (id : List ℕ) → f id ≡ true → applied_events f (id ∷ []) ≡ []
applied_there f id is = ap (λ b. (if b then [] else applied_event id ∷ []) ++ []) is

-- one more list of members, and then the rest
pub others_step : (before after whole : List EventTold) (id : List ℕ) (first : Firsts) (xs ys : NamesAndTargets)
    → after ≡ before ++ others_among id first xs → before ++ others_among id first (xs ++ ys) ≡ whole
    → after ++ others_among id first ys ≡ whole
others_step before after whole id first xs ys put step =
    ap (λ l. l ++ others_among id first ys) put
    ∙ append_assoc before (others_among id first xs) (others_among id first ys)
    ∙ ap (λ l. before ++ l) (sym (others_joined id first xs ys)) ∙ step

-- the events and the places of a number
pub others_entry : (rows : List BareShape) (mixed : List (Vec Contributing)) (members : List (Vec NamedTarget)) (v : ℕ) (row : BareShape)
    (cs : Vec Contributing) (ms : Vec NamedTarget) (first : Firsts) → At rows v row → At mixed v cs → At members v ms
    → ((n : List ℕ) → first n ≡ first_among (targets_view ms.items) n)
    → others_among row.id first (all_targets members (mixins_once cs.items) row.members.items) ≡ others_at rows mixed members v
others_entry rows mixed members v row cs ms first at_row at_cs at_ms h =
    others_same row.id first (first_among (targets_view ms.items)) h (all_targets members (mixins_once cs.items) row.members.items)
    ∙ (λ i. others_among (id_in (sym at_row i)) (first_among (targets_view (vec_items (sym at_ms i))))
    (all_targets members (mixins_once (vec_items (sym at_cs i))) (own_in (sym at_row i))))

-- a member before others in the table of first targets
pub first_more : (old new : Firsts) (p : List ℕ × List ℕ) (ps : NamesAndTargets)
    → ((q : List ℕ) → new q ≡ cond (bytes_eq p.0 q) (Some p.1) (old q)) → ((q : List ℕ) → old q ≡ first_among ps q) → (q : List ℕ)
    → new q ≡ first_among (p ∷ ps) q
first_more old new p ps changed h q =
    changed q ∙ (λ i. cond (sym (tests q p.0) i) (Some p.1) (h q i))

pub target_cond : (b : Bool) (x : Bor (List ℕ)) (o : Option (Bor (List ℕ)))
    → target_in (cond b (Some x) o) ≡ cond b (Some x.now) (target_in o)
target_cond true x o = refl
target_cond false x o = refl
