-- Steps of a walk, as the code makes them.
use Rattle.std.proofs.Common.{◌≡◌, inl, inr, ℕ, ◌+◌, ◌-◌, ◌<◌, ◌≤◌, Bool, false, List, [], ◌∷◌, ◌++◌, length, reverse, take, drop, set}
use Rattle.std.proofs.Common.{zero, suc, get_or, Option, Some, None, refl, sym, ap, subst, ◌∙◌, arith, length-append}
use Rattle.std.specs.Prelude.{slice_get}
use Rattle.std.specs.Global.{Vec}
use Rattle.std.proofs.lemmas.List.{length-set, reverse-append}
use Rattle.sm_merge.specs.declared.walk.Part.{Part}
use Rattle.sm_merge.specs.declared.walk.Status.{Status}
use Rattle.sm_merge.specs.declared.walk.Status.TheVariants.{New, Begun, Finished}
use Rattle.sm_merge.specs.declared.walk.Walk.{Walk}
use Rattle.sm_merge.specs.steps.Links.{Links, At, AreLinks, links_view}
use Rattle.sm_merge.specs.steps.Walking.{AllReach, AreParts, HasFinished, HasGone, HasTaken, IsGrounded, IsIdle, IsJoining, IsMet}
use Rattle.sm_merge.specs.steps.Walking.{IsWalked, IsWalking, KeepsMet, steps_ahead, steps_left}
use Rattle.sm_merge.proofs.Ats.{at_last, at_one, at_stored, at_was, at_within, last_split}
use Rattle.sm_merge.proofs.WalkBegun.{begun_grounded, begun_parts}
use Rattle.sm_merge.proofs.Walked.{popped_grounded, popped_parts, popped_reached, settled_parts}
use Rattle.sm_merge.proofs.WalkEnds.{fewer_steps, one_fewer, order_told, rings_told}
use Rattle.sm_merge.proofs.WalkFinished.{finished_grounded, finished_parts}
use Rattle.sm_merge.proofs.WalkJoined.{joined_parts, joining, joining_more, ring_from}

new_begun : (k : ℕ) → Begun k ≡ New → ⊥
new_begun k e = cc

new_finished : (ring : Bool) → New ≡ Finished ring → ⊥
new_finished ring e = cc

pub last_first : (path front : List Part) (p : Part) → path ≡ front ++ p ∷ [] → reverse path ≡ p ∷ reverse front
last_first path front p is = ap reverse is ∙ reverse-append front (p ∷ [])

-- a walk from what its lists are
is_walking : (links : Links) (held : Option ℕ) (walk : Walk) (status : List Status) (row targets order : List ℕ) (path : List Part)
    → walk.status.items ≡ status → walk.row.items ≡ row → walk.targets.items ≡ targets → walk.order.items ≡ order
    → reverse walk.path.items ≡ path → IsGrounded links status row targets order
    → AreParts links status held row targets (length row) (length targets) path → IsWalking links held walk
is_walking links held walk status row targets order path is_status is_row is_targets is_order is_path g parts = record {
  grounded =
      subst (λ s. IsGrounded links s walk.row.items walk.targets.items walk.order.items) (sym is_status)
      (subst (λ r. IsGrounded links status r walk.targets.items walk.order.items) (sym is_row)
      (subst (λ t. IsGrounded links status row t walk.order.items) (sym is_targets)
      (subst (λ o. IsGrounded links status row targets o) (sym is_order) g)));
  parts =
      subst (λ s. AreParts links s held walk.row.items walk.targets.items (length walk.row.items) (length walk.targets.items)
      (reverse walk.path.items)) (sym is_status)
      (subst (λ r. AreParts links status held r walk.targets.items (length r) (length walk.targets.items) (reverse walk.path.items))
      (sym is_row)
      (subst (λ t. AreParts links status held row t (length row) (length t) (reverse walk.path.items)) (sym is_targets)
      (subst (λ p. AreParts links status held row targets (length row) (length targets) p) (sym is_path) parts)));
}

-- a target is taken
pub target_taken : (links : Links) (before now : Walk) (p : Part) (w : ℕ) → IsWalking links None before
    → slice_get before.path.items (length before.path.items - 1) ≡ Some p → before.targets.items ≡ now.targets.items ++ w ∷ []
    → p.targets < length before.targets.items → now.status.items ≡ before.status.items → now.row.items ≡ before.row.items
    → now.order.items ≡ before.order.items → now.path.items ≡ before.path.items → HasTaken links w now
target_taken links before now p w h last popped room is_status is_row is_order is_path =
    let split = last_split before.path.items p last in
    let path : reverse before.path.items ≡ p ∷ reverse split.0 = last_first before.path.items split.0 p split.1 in
    let g : IsGrounded links before.status.items before.row.items (now.targets.items ++ w ∷ []) before.order.items =
    subst (λ t. IsGrounded links before.status.items before.row.items t before.order.items) popped h.grounded in
    let parts : AreParts links before.status.items None before.row.items (now.targets.items ++ w ∷ []) (length before.row.items)
    (length (now.targets.items ++ w ∷ [])) (p ∷ reverse split.0) =
    subst (λ t. AreParts links before.status.items None before.row.items t (length before.row.items) (length t) (p ∷ reverse split.0))
    popped
    (subst (λ q. AreParts links before.status.items None before.row.items before.targets.items (length before.row.items)
    (length before.targets.items) q) path h.parts) in
    let fits : p.targets ≤ length now.targets.items =
    omega (arith, room, ap length popped, length-append now.targets.items (w ∷ [])) in
    record {
      walking =
          is_walking links (Some w) now before.status.items before.row.items now.targets.items before.order.items (p ∷ reverse split.0)
          is_status is_row refl is_order (ap reverse is_path ∙ path)
          (popped_grounded links before.status.items before.row.items now.targets.items before.order.items w g)
          (popped_parts links before.status.items before.row.items now.targets.items w p (reverse split.0) fits parts);
      reached =
          subst (λ r. AllReach links r w) (sym is_row)
          (popped_reached links before.status.items before.row.items now.targets.items before.order.items w p
          (reverse split.0) fits g parts);
      within = g.within (length now.targets.items) w (at_last now.targets.items w);
    }

-- it is finished
pub target_finished : (links : Links) (walk : Walk) (w : ℕ) (ring : Bool) → IsWalking links (Some w) walk
    → At walk.status.items w (Finished ring) → HasGone links walk walk
target_finished links walk w ring h there = record {
  walking = record {
    grounded = h.grounded;
    parts =
        settled_parts links walk.status.items walk.row.items walk.targets.items w (length walk.row.items) (length walk.targets.items)
        (reverse walk.path.items) (inl (record { ring = ring; there = there })) h.parts;
  };
  met = λ v met. met;
  nearer = omega arith;
}

-- it is begun
pub begun_met : (status : List Status) (w k : ℕ) → w < length status → IsMet (set status w (Begun k)) w
begun_met status w k small new = new_begun k (at_one (set status w (Begun k)) w (Begun k) New (at_stored status w (Begun k) small) new)

begun_keeps : (status : List Status) (w k v : ℕ) → IsMet status v → IsMet (set status w (Begun k)) v
begun_keeps status w k v met new = elim (at_was status w (Begun k) v New new) [
  | inl (same, is) ↦ new_begun k (sym is)
  | inr (other, was) ↦ met was
]

pub target_begun : (links : Links) (before now : Walk) (w : ℕ) → AreLinks links → At before.status.items w New
    → IsWalking links (Some w) before → AllReach links before.row.items w
    → now.status.items ≡ set before.status.items w (Begun (length before.row.items)) → now.row.items ≡ before.row.items ++ w ∷ []
    → now.targets.items ≡ before.targets.items ++ get_or links w [] → now.order.items ≡ before.order.items
    → now.path.items
    ≡ before.path.items ++ (record { numbers = length before.row.items; targets = length before.targets.items; ring = false }) ∷ []
    → HasGone links before now
target_begun links before now w are new h reach is_status is_row is_targets is_order is_path =
    let k : ℕ = length before.row.items in
    let begun : List Status = set before.status.items w (Begun k) in
    let small : w < length before.status.items = at_within before.status.items w New new in
    let size : length before.status.items ≡ length links = h.grounded.size in
    let steps : steps_ahead links begun + (length (get_or links w []) + 2) ≤ steps_ahead links before.status.items =
    one_fewer links before.status.items begun w (length-set before.status.items w (Begun k)) size
    (λ v met. begun_keeps before.status.items w k v met) new (begun_met before.status.items w k small) in
    let same : steps_ahead links now.status.items ≡ steps_ahead links begun = ap (steps_ahead links) is_status in
    let more : length now.targets.items ≡ length before.targets.items + length (get_or links w []) =
    ap length is_targets ∙ length-append before.targets.items (get_or links w []) in
    let longer : length now.path.items ≡ length before.path.items + 1 =
    ap length is_path ∙ length-append before.path.items ((record { numbers = k; targets = length before.targets.items; ring = false }) ∷
    []) in
    record {
      walking =
          is_walking links None now begun (before.row.items ++ w ∷ []) (before.targets.items ++ get_or links w []) before.order.items
          ((record { numbers = k; targets = length before.targets.items; ring = false }) ∷ reverse before.path.items)
          is_status is_row is_targets is_order
          (last_first now.path.items before.path.items (record { numbers = k; targets = length before.targets.items; ring = false })
          is_path)
          (begun_grounded links before.status.items before.row.items before.targets.items before.order.items w new are h.grounded reach)
          (begun_parts links before.status.items before.row.items before.targets.items before.order.items w new (reverse before.path.items)
          h.parts);
      met = λ v met. subst (λ s. IsMet s v) (sym is_status) (begun_keeps before.status.items w k v met);
      nearer = omega (arith, steps, same, more, longer);
    }

-- it stands in the row
pub join_begun : (links : Links) (walk : Walk) (w place : ℕ) → At walk.status.items w (Begun place) → IsWalking links (Some w) walk
    → IsJoining links walk.status.items walk.row.items walk.targets.items w place (reverse walk.path.items)
join_begun links walk w place there h =
    joining links walk.status.items walk.row.items walk.targets.items w place (reverse walk.path.items)
    (h.grounded.begun place w there) h.parts

pub join_more : (links : Links) (status : List Status) (row targets : List ℕ) (w place : ℕ) (p : Part) (path rest : List Part)
    → path ≡ rest ++ p ∷ [] → place < p.numbers → IsJoining links status row targets w place (reverse path)
    → IsJoining links status row targets w place (reverse rest)
join_more links status row targets w place p path rest is low h =
    joining_more links status row targets w place p (reverse rest) low
    (subst (IsJoining links status row targets w place) (last_first path rest p is) h)

pub join_ended : (links : Links) (before now : Walk) (w place : ℕ) (p : Part) (path rest : List Part) → path ≡ rest ++ p ∷ []
    → p.numbers ≤ place → At before.status.items w (Begun place) → IsWalking links (Some w) before → AllReach links before.row.items w
    → IsJoining links before.status.items before.row.items before.targets.items w place (reverse path)
    → now.status.items ≡ before.status.items → now.row.items ≡ before.row.items → now.targets.items ≡ before.targets.items
    → now.order.items ≡ before.order.items → now.path.items ≡ rest ++ ring_from p.numbers p.targets ∷ []
    → length path ≤ length before.path.items → HasGone links before now
join_ended links before now w place p path rest is low there h reach joins is_status is_row is_targets is_order is_path shorter =
    let same : steps_ahead links now.status.items ≡ steps_ahead links before.status.items = ap (steps_ahead links) is_status in
    let targets : length now.targets.items ≡ length before.targets.items = ap length is_targets in
    let one : length now.path.items ≡ length rest + 1 = ap length is_path ∙ length-append rest (ring_from p.numbers p.targets ∷ []) in
    let other : length path ≡ length rest + 1 = ap length is ∙ length-append rest (p ∷ []) in
    record {
      walking =
          is_walking links None now before.status.items before.row.items before.targets.items before.order.items
          (ring_from p.numbers p.targets ∷ reverse rest) is_status is_row is_targets is_order
          (last_first now.path.items rest (ring_from p.numbers p.targets) is_path) h.grounded
          (joined_parts links before.status.items before.row.items before.targets.items w place p (reverse rest) low
          (h.grounded.begun place w there) reach
          (subst (IsJoining links before.status.items before.row.items before.targets.items w place) (last_first path rest p is) joins));
      met = λ v met. subst (λ s. IsMet s v) (sym is_status) met;
      nearer = omega (arith, same, targets, one, other, shorter);
    }

-- the last part is finished
pub record HasEnded (links : Links) (before now : Walk) : Type 0 where
  pub walking : IsWalking links None now
  pub met : KeepsMet before now
  pub nearer : steps_left links now < steps_left links before

take_here : {A : Type 0} (xs ys : List A) → take (length xs) (xs ++ ys) ≡ xs
take_here [] ys = refl
take_here (x ∷ xs) ys = ap (λ zs. x ∷ zs) (take_here xs ys)

length_taken : {A : Type 0} (n : ℕ) (xs : List A) → n ≤ length xs → length (take n xs) ≡ n
length_taken zero xs h = refl
length_taken (suc n) [] h = absurd (omega (arith, h))
length_taken (suc n) (x ∷ xs) h = ap suc (length_taken n xs (omega (arith, h)))

pub part_finished : (links : Links) (before now : Walk) (p : Part) → IsWalking links None before
    → slice_get before.path.items (length before.path.items - 1) ≡ Some p → length before.targets.items ≤ p.targets
    → HasFinished p before now → HasEnded links before now
part_finished links before now p h last ended f =
    let split = last_split before.path.items p last in
    let path : reverse before.path.items ≡ p ∷ reverse split.0 = last_first before.path.items split.0 p split.1 in
    let parts : AreParts links before.status.items None before.row.items before.targets.items (length before.row.items)
    (length before.targets.items) (p ∷ reverse split.0) =
    subst (λ q. AreParts links before.status.items None before.row.items before.targets.items (length before.row.items)
    (length before.targets.items) q) path h.parts in
    let longer : length before.path.items ≡ length split.0 + 1 = ap length split.1 ∙ length-append split.0 (p ∷ []) in
    let shorter : length before.path.items - 1 ≡ length split.0 = omega (arith, longer) in
    let front : now.path.items ≡ split.0 =
    f.path ∙ ap (λ n. take n before.path.items) shorter ∙ ap (take (length split.0)) split.1 ∙ take_here split.0 (p ∷ []) in
    let room : p.targets ≤ length before.targets.items = parts.0.room in
    let all : p.targets ≡ length before.targets.items = omega (arith, room, ended) in
    let some : p.numbers < length before.row.items = parts.1.some in
    let cut : length (take p.numbers before.row.items) ≡ p.numbers = length_taken p.numbers before.row.items (omega (arith, some)) in
    let keeps : (v : ℕ) → IsMet before.status.items v → IsMet now.status.items v = λ v met new. elim (f.marked.only v New new) [
      | inl was ↦ met was
      | inr (is, stands) ↦ new_finished p.ring is
    ] in
    let rest : AreParts links now.status.items None (take p.numbers before.row.items) before.targets.items p.numbers p.targets
    (reverse split.0) =
    finished_parts links before.status.items now.status.items before.row.items before.targets.items before.order.items p h.grounded
    parts.0 parts.1 ended f.marked (reverse split.0) parts.2 in
    let steps : steps_ahead links now.status.items ≤ steps_ahead links before.status.items =
    fewer_steps links before.status.items now.status.items f.size keeps in
    let fewer : length now.path.items ≡ length split.0 = ap length front in
    let same : length now.targets.items ≡ length before.targets.items = ap length f.targets in
    record {
      walking =
          is_walking links None now now.status.items (take p.numbers before.row.items) before.targets.items
          (before.order.items ++ drop p.numbers before.row.items) (reverse split.0) refl f.row f.targets f.order (ap reverse front)
          (finished_grounded links before.status.items now.status.items before.row.items before.targets.items before.order.items p
          h.grounded parts.0 parts.1 ended f.marked f.size)
          (subst (λ n. AreParts links now.status.items None (take p.numbers before.row.items) before.targets.items n
          (length before.targets.items) (reverse split.0)) (sym cut)
          (subst (λ n. AreParts links now.status.items None (take p.numbers before.row.items) before.targets.items p.numbers n
          (reverse split.0)) all rest));
      met = keeps;
      nearer = omega (arith, steps, fewer, same, longer);
    }

-- what the code reads
pub last_at : (path seen : List Part) (p : Part) → seen ≡ path → Some p ≡ slice_get seen (length seen - 1)
    → slice_get path (length path - 1) ≡ Some p
last_at path seen p is read = subst (λ s. slice_get s (length s - 1) ≡ Some p) is (sym read)

pub links_at : (links : List (Vec ℕ)) (i : ℕ) (targets : Vec ℕ) → i < length links → targets ≡ get_or links i targets
    → targets.items ≡ get_or (links_view links) i []
links_at [] i targets small is = absurd (omega (arith, small))
links_at (t ∷ links) zero targets small is = ap (λ v. v.items) is
links_at (t ∷ links) (suc i) targets small is = links_at links i targets (omega (arith, small)) is

pub links_count : (links : List (Vec ℕ)) → length (links_view links) ≡ length links
links_count [] = refl
links_count (t ∷ links) = ap suc (links_count links)

-- the walk has ended
idle_row : (links : Links) (walk : Walk) → IsIdle links walk → length walk.row.items ≡ 0
idle_row links walk h =
    subst (λ path. AreParts links walk.status.items None walk.row.items walk.targets.items (length walk.row.items)
    (length walk.targets.items) (reverse path)) h.ended h.walking.parts

pub all_walked : (links : Links) (walk : Walk) → IsIdle links walk → ((v : ℕ) → v < length links → IsMet walk.status.items v)
    → IsWalked links walk
all_walked links walk h met =
    let g = h.walking.grounded in
    let ended : length walk.row.items ≡ 0 = idle_row links walk h in
    record {
      size = g.size;
      rings = rings_told links walk.status.items walk.row.items walk.targets.items walk.order.items g ended met;
      order = order_told links walk.status.items walk.row.items walk.targets.items walk.order.items g ended met;
    }
