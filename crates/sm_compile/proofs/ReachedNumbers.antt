-- Steps by members and targets between ids are those between their numbers, and so is what they reach.
use Rattle.std.proofs.Common.{◌≡◌, ◌⊎◌, inl, inr, ℕ, suc, ◌<◌, List, [], ◌∷◌, ◌++◌, map, length, replicate, false, Bool, Option, Some, None}
use Rattle.std.proofs.Common.{refl, sym, ap, ◌∙◌, subst, arith}
use Rattle.std.specs.Prelude.{◌↔◌, slice_get}
use Rattle.std.specs.FinMap as fin
use Rattle.std.specs.List.{Contains}
use Rattle.std.proofs.lemmas.Option.{none-some, same_Some}
use Rattle.sm_model.specs.Graphs.{Entry, shape_entry, member_entry, GraphMaps}
use Rattle.sm_model.specs.GraphView.{AreShapeNumbers, IsShapeNumber, entries_of, maps_of}
use Rattle.sm_model.specs.Reaching.{AreLedTo, AreMarks, Finds, LeadsOn, id_of_number}
use Rattle.sm_model.specs.Relations.{HasEntry, IsInGraph, SaysRelated}
use Rattle.sm_model.specs.declared.graph.Graph.{Graph}
use Rattle.sm_model.specs.declared.relation.Relation.TheVariants.{Member, Target}
use Rattle.sm_model.proofs.GraphFacts.{entry_under, id_at}
use Rattle.sm_model.proofs.LinkNumbers.{one_number, stands_at}
use Rattle.sm_model.proofs.LinkedEntries.{cons_cases, cons_here, says_no_member, says_no_target}
use Rattle.sm_model.proofs.NumberedIds.{number_of, related_in}
use Rattle.sm_model.proofs.Worklist.{marked_within}
use Rattle.sm_compile.specs.Reached.{IsReached, LeadsBy, LeadsTo}
use Rattle.sm_compile.specs.steps.Looked.{IsReachedFrom, LeadsByNumber, listed_in, listed_under, target_in, target_under}

-- a step, by what stands under an id
leads_told : (g : GraphMaps) (from to : List ℕ) → LeadsTo g from to
    → Contains (listed_under g from) to ⊎ (target_under g from ≡ Some to)
leads_told g from to (inl member) =
    by member.0 member.1 member.2
  where
    by : (e : Entry) → HasEntry g from e → SaysRelated Member e to
        → Contains (listed_under g from) to ⊎ (target_under g from ≡ Some to)
    by (shape_entry s) has (inl h) = inl (subst (λ xs. Contains xs to) (sym (ap listed_in has)) h.1)
    by (shape_entry s) has (inr h) = absurd (says_no_member s to h)
    by (member_entry m) has h = inr (ap target_in has ∙ ap Some h.1)
leads_told g from to (inr target) =
    by target.0 target.1 target.2
  where
    by : (e : Entry) → HasEntry g from e → SaysRelated Target e to
        → Contains (listed_under g from) to ⊎ (target_under g from ≡ Some to)
    by (shape_entry s) has (inl h) = inl (subst (λ xs. Contains xs to) (sym (ap listed_in has)) h.1)
    by (shape_entry s) has (inr h) = absurd (says_no_target s to h)
    by (member_entry m) has h = inr (ap target_in has ∙ ap Some h.1)

module _ (g : Graph) where
  -- a number of the graph has an entry
  in_graph : (k : ℕ) → IsShapeNumber g k → IsInGraph (maps_of g) (id_of_number g k)
  in_graph k lt =
      let at = stands_at g k lt in
      (at.1, subst (λ i. HasEntry (maps_of g) i at.1) (sym (id_at g k at.0 at.1 at.2)) (entry_under g k at.0 at.1 at.2))

  -- an id has one number
  pub same_number : (j k : ℕ) → IsShapeNumber g j → IsShapeNumber g k → id_of_number g j ≡ id_of_number g k → j ≡ k
  same_number j k lt gt same =
      let a = stands_at g j lt in
      let b = stands_at g k gt in
      let is : a.0 ≡ b.0 = sym (id_at g j a.0 a.1 a.2) ∙ same ∙ id_at g k b.0 b.1 b.2 in
      one_number g j k b.0 a.1 b.1 (subst (λ (i : List ℕ). slice_get (entries_of g) j ≡ Some (i, a.1)) is a.2) b.2

  pub each_number : (ns : List ℕ) → AreShapeNumbers g ns → (b : ℕ) → Contains ns b → IsShapeNumber g b
  each_number [] are b h = absurd (omega (arith, h.1))
  each_number (n ∷ ns) are b h = elim (cons_cases n ns b h) [
    | inl is ↦ subst (IsShapeNumber g) is are.0
    | inr later ↦ each_number ns are.1 b later
  ]

  pub ids_among : (ns : List ℕ) (b : ℕ) → Contains ns b → Contains (map (id_of_number g) ns) (id_of_number g b)
  ids_among [] b h = absurd (omega (arith, h.1))
  ids_among (n ∷ ns) b h = elim (cons_cases n ns b h) [
    | inl is ↦ subst (λ k. Contains (id_of_number g n ∷ map (id_of_number g) ns) (id_of_number g k)) is
        (cons_here (id_of_number g n) (map (id_of_number g) ns))
    | inr later ↦ later_too (id_of_number g n) (map (id_of_number g) ns) (id_of_number g b) (ids_among ns b later)
  ]
    where
      later_too : (x : List ℕ) (xs : List (List ℕ)) (y : List ℕ) → Contains xs y → Contains (x ∷ xs) y
      later_too x xs y h = (suc h.0, omega (arith, h.1), h.2)

  among_ids : (ns : List ℕ) → AreShapeNumbers g ns → (b : ℕ) → IsShapeNumber g b
      → Contains (map (id_of_number g) ns) (id_of_number g b) → Contains ns b
  among_ids [] are b lt h = absurd (omega (arith, h.1))
  among_ids (n ∷ ns) are b lt h = elim (cons_cases (id_of_number g n) (map (id_of_number g) ns) (id_of_number g b) h) [
    | inl is ↦ subst (Contains (n ∷ ns)) (same_number n b are.0 lt is) (cons_here n ns)
    | inr later ↦ let r = among_ids ns are.1 b lt later in (suc r.0, omega (arith, r.1), r.2)
  ]

  pub to_member : (a b : ℕ) → IsShapeNumber g a → IsShapeNumber g b
      → Contains (listed_under (maps_of g) (id_of_number g a)) (id_of_number g b) → LeadsTo (maps_of g) (id_of_number g a)
      (id_of_number g b)
  to_member a b lt gt h = let e = in_graph a lt in by e.0 e.1
    where
      by : (e : Entry) → HasEntry (maps_of g) (id_of_number g a) e → LeadsTo (maps_of g) (id_of_number g a) (id_of_number g b)
      by (shape_entry s) has =
          inl (shape_entry s, has, inl (refl, subst (λ xs. Contains xs (id_of_number g b)) (ap listed_in has) h), in_graph b gt)
      by (member_entry m) has =
          let none : Contains [] (id_of_number g b) = subst (λ xs. Contains xs (id_of_number g b)) (ap listed_in has) h in
          absurd (omega (arith, none.1))

  pub to_target : (a b : ℕ) → IsShapeNumber g a → IsShapeNumber g b
      → target_under (maps_of g) (id_of_number g a) ≡ Some (id_of_number g b) → LeadsTo (maps_of g) (id_of_number g a) (id_of_number g b)
  to_target a b lt gt h = let e = in_graph a lt in by e.0 e.1
    where
      by : (e : Entry) → HasEntry (maps_of g) (id_of_number g a) e → LeadsTo (maps_of g) (id_of_number g a) (id_of_number g b)
      by (shape_entry s) has = absurd (none-some (id_of_number g b) (sym (ap target_in has) ∙ h))
      by (member_entry m) has =
          inr (member_entry m, has, (refl, same_Some m.target (id_of_number g b) (sym (ap target_in has) ∙ h)), in_graph b gt)

  -- the steps from a number: to its target, or else to its members
  pub by_target : (a t : ℕ) → IsShapeNumber g a → IsShapeNumber g t
      → target_under (maps_of g) (id_of_number g a) ≡ Some (id_of_number g t) → (k : ℕ) → (t ≡ k) ↔ LeadsByNumber g a k
  by_target a t lt gt is k = (
    λ e. subst (LeadsByNumber g a) e (gt, to_target a t lt gt is),
    λ h. elim (leads_told (maps_of g) (id_of_number g a) (id_of_number g k) h.1) [
      | inl member ↦
          let none : Contains [] (id_of_number g k) = subst (λ xs. Contains xs (id_of_number g k))
          (no_members (fin.get (maps_of g).shapes (id_of_number g a)) (id_of_number g t) is) member in
          absurd (omega (arith, none.1))
      | inr target ↦ same_number t k gt h.0 (same_Some (id_of_number g t) (id_of_number g k) (sym is ∙ target))
    ],
  )
    where
      no_members : (o : Option Entry) (t : List ℕ) → target_in o ≡ Some t → listed_in o ≡ []
      no_members None t h = refl
      no_members (Some (shape_entry s)) t h = absurd (none-some t h)
      no_members (Some (member_entry m)) t h = refl

  pub by_members : (a : ℕ) (ns : List ℕ) → IsShapeNumber g a → AreShapeNumbers g ns
      → map (id_of_number g) ns ≡ listed_under (maps_of g) (id_of_number g a)
      → ((id : List ℕ) → target_under (maps_of g) (id_of_number g a) ≡ Some id → fin.get (maps_of g).shapes id ≡ None)
      → (k : ℕ) → Contains ns k ↔ LeadsByNumber g a k
  by_members a ns lt are is none k = (
    λ h.
        let gt = each_number ns are k h in
        (gt, to_member a k lt gt (subst (λ xs. Contains xs (id_of_number g k)) is (ids_among ns k h))),
    λ h. elim (leads_told (maps_of g) (id_of_number g a) (id_of_number g k) h.1) [
      | inl member ↦ among_ids ns are k h.0 (subst (λ xs. Contains xs (id_of_number g k)) (sym is) member)
      | inr target ↦
          let e = in_graph k h.0 in
          absurd (none-some e.0 (sym (none (id_of_number g k) target) ∙ e.1))
    ],
  )

  steps_led : (a b : ℕ) (steps : List ℕ) → LeadsOn (LeadsByNumber g) a steps b → IsReached (maps_of g) (id_of_number g a) (id_of_number g b)
  steps_led a b [] h = ([], ap (id_of_number g) h)
  steps_led a b (n ∷ steps) h = let rest = steps_led n b steps h.1 in (id_of_number g n ∷ rest.0, (h.0.1, rest.1))

  led_in : (a b : List ℕ) → LeadsTo (maps_of g) a b → IsInGraph (maps_of g) b
  led_in a b (inl h) = (related_in Member (maps_of g) a b h).1
  led_in a b (inr h) = (related_in Target (maps_of g) a b h).1

  led_steps : (a b : ℕ) → IsShapeNumber g a → IsShapeNumber g b → (by : List (List ℕ)) → LeadsBy (maps_of g) (id_of_number g a) by
      (id_of_number g b)
      → (steps : List ℕ) × LeadsOn (LeadsByNumber g) a steps b
  led_steps a b lt gt [] h = ([], same_number a b lt gt h)
  led_steps a b lt gt (n ∷ more) h =
      let k = number_of g n (led_in (id_of_number g a) n h.0) in
      let rest = led_steps k.0 b k.1 gt more (subst (λ i. LeadsBy (maps_of g) i more (id_of_number g b)) (sym k.2) h.1) in
      (k.0 ∷ rest.0, ((k.1, subst (LeadsTo (maps_of g) (id_of_number g a)) (sym k.2) h.0), rest.1))

  pub marks_reached : (roots : List ℕ) → AreShapeNumbers g roots → (n : ℕ) (marks : List Bool) (found : List ℕ) (now : List Bool)
      → Finds (Contains roots) (replicate n false) [] marks found → length now ≡ length (entries_of g)
      → AreLedTo (LeadsByNumber g) found now → AreMarks (length (entries_of g)) (λ k. IsReachedFrom g roots (id_of_number g k)) now
  marks_reached roots are n marks found now f long led = record {
    whole = long;
    marked = λ k. (
      λ h.
          let r = (led k).0 h in (
            subst (λ n. k < n) long (marked_within now k h),
            (r.0, begun r.0 r.1, steps_led r.0 k r.2.0 r.2.1),
          ),
      λ h.
          let r = h.1 in
          (led k).1 (r.0, (f.joins r.0).1 (inr r.1), led_steps r.0 k (each_number roots are r.0 r.1) h.0 r.2.0 r.2.1),
    );
  }
    where
      begun : (r : ℕ) → Contains found r → Contains roots r
      begun r h = elim ((f.joins r).0 h) [ inl none ↦ absurd (omega (arith, none.1)) | inr is ↦ is ]

  -- numbers of two lists
  pub numbers_joined : (ns ms : List ℕ) → AreShapeNumbers g ns → AreShapeNumbers g ms → AreShapeNumbers g (ns ++ ms)
  numbers_joined [] ms h k = k
  numbers_joined (n ∷ ns) ms h k = (h.0, numbers_joined ns ms h.1 k)
