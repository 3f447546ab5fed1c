-- What is told at each number of a graph is what is told of each shape and member.
use Rattle.std.proofs.Common.{◌≤◌, ℕ, List, length, refl, sym, subst, arith}
use Rattle.std.specs.Prelude.{◌↔◌}
use Rattle.sm_model.specs.EventView.{EventTold}
use Rattle.sm_model.specs.GraphView.{entries_of, maps_of}
use Rattle.sm_model.specs.Reaching.{id_of_number}
use Rattle.sm_model.specs.Relations.{IsInGraph}
use Rattle.sm_model.specs.declared.event.ModelEvent.{ModelEvent}
use Rattle.sm_model.specs.declared.graph.Graph.{Graph}
use Rattle.sm_model.proofs.NumberedIds.{number_of}
use Rattle.sm_rules.specs.RuleEvents.{IsEventAt, IsEventIn, IsEventOf, Puts, RuleFails}
use Rattle.sm_rules.specs.declared.rule.Rule.{Rule}
use Rattle.sm_passes.specs.Putting.{Below}
use Rattle.sm_passes.proofs.EventsPut.{puts_same}

-- a rule fails at what the graph has alone
abbrev pub IsOfGraph : Graph → RuleFails → Type 0
IsOfGraph g Fails = (id detail : List ℕ) → Fails id detail → IsInGraph (maps_of g) id

module _ (g : Graph) (rule : Rule) (Fails : RuleFails) where
  abbrev pub at_number : ℕ → EventTold → Type 0
  at_number k e = IsEventAt rule Fails (id_of_number g k) e

  each_number : IsOfGraph g Fails → (n : ℕ) → length (entries_of g) ≤ n → (e : EventTold) → Below at_number n e ↔ IsEventOf rule Fails e
  each_number own n all e = (
    λ b. let t = b.2 in (id_of_number g b.0, t.0, t.1, t.2),
    λ h.
        let found = number_of g h.0 (own h.0 h.1 h.2) in
        let small = found.1 in
        let here : IsEventAt rule Fails h.0 e = (h.1, h.2, h.3) in
        (found.0, omega (arith, all, small), subst (λ id. IsEventAt rule Fails id e) (sym found.2) here),
  )

  pub puts_numbers : IsOfGraph g Fails → (n : ℕ) → length (entries_of g) ≤ n → (before now : List ModelEvent)
      → Puts (Below at_number n) before now → Puts (IsEventOf rule Fails) before now
  puts_numbers own n all before now h = puts_same (Below at_number n) (IsEventOf rule Fails) before now (each_number own n all) h

-- the same of a rule on members, told at each shape of those that are its
module _ (g : Graph) (rule : Rule) (Fails : RuleFails) (home : (id detail : List ℕ) → Fails id detail → List ℕ) where
  abbrev pub in_number : ℕ → EventTold → Type 0
  in_number k e = IsEventIn rule Fails home (id_of_number g k) e

  each_home : ((id detail : List ℕ) (h : Fails id detail) → IsInGraph (maps_of g) (home id detail h)) → (e : EventTold)
      → Below in_number (length (entries_of g)) e ↔ IsEventOf rule Fails e
  each_home own e = (
    λ b. let t = b.2 in (t.0, t.1, t.2, t.4),
    λ h.
        let found = number_of g (home h.0 h.1 h.2) (own h.0 h.1 h.2) in
        let here : IsEventIn rule Fails home (home h.0 h.1 h.2) e = (h.0, h.1, h.2, refl, h.3) in
        (found.0, found.1, subst (λ id. IsEventIn rule Fails home id e) (sym found.2) here),
  )

  pub puts_homes : ((id detail : List ℕ) (h : Fails id detail) → IsInGraph (maps_of g) (home id detail h)) → (before now : List ModelEvent)
      → Puts (Below in_number (length (entries_of g))) before now → Puts (IsEventOf rule Fails) before now
  puts_homes own before now h = puts_same (Below in_number (length (entries_of g))) (IsEventOf rule Fails) before now (each_home own) h
