-- Trait shapes that have a selector, by its text, and what carries them where the selector doesn't pick it.
use Rattle.std.specs.Prelude.{◌≡◌, ◌↔◌, ◌<◌, ℕ, Bool, false, not, List, [], Option, Some, None, codes, cond, get_or, length}
use Rattle.std.specs.List.{Contains}
use Rattle.sm_tree.specs.Node.{Node}
use Rattle.sm_tree.specs.declared.tree.Tree.{Tree}
use Rattle.sm_model.specs.EventView.{EventTold}
use Rattle.sm_model.specs.Graphs.{GraphMaps}
use Rattle.sm_model.specs.GraphView.{IsShapeNumber, entries_of, maps_of}
use Rattle.sm_model.specs.Reaching.{id_of_number}
use Rattle.sm_model.specs.declared.graph.Graph.{Graph}
use Rattle.sm_select.specs.Picks.{IsPicked}
use Rattle.sm_select.specs.Selectors.{Steps}
use Rattle.sm_compile.specs.Sound.{trait_of}
use Rattle.sm_compile.specs.TraitIds.{trait_id}
use Rattle.sm_compile.specs.TraitNodes.{field_of, text_of}
use Rattle.sm_rules.specs.Words.{CarriesTrait}
use Rattle.sm_rules.specs.RuleEvents.{rule_event}
use Rattle.sm_rules.specs.declared.rule.Rule.TheVariants.{TraitPlace}
use Rattle.sm_passes.specs.Owned.{is_own_shape}
use Rattle.sm_passes.specs.Forms.{is_trait_value}
use Rattle.sm_passes.specs.Putting.{IsUnless, IsWhere}
use Rattle.sm_rules.specs.TraitShapes.{IsNotPicked}

-- this is the number of an id, and of one of these traits
abbrev pub IsNamed : Graph → List ℕ → ℕ → Type 0
IsNamed g id k = IsShapeNumber g k × (id_of_number g k ≡ id)

abbrev pub IsNamedOf : Graph → List (List ℕ × Tree) → ℕ → Type 0
IsNamedOf g ts k = (t : List ℕ × Tree) × Contains ts t × IsNamed g t.0 k

-- the selector in the value of `trait`, where it reads, and that of a shape outside of the prelude
abbrev pub selector_in : Option Node → Option (List ℕ)
selector_in None = None
selector_in (Some n) = cond (is_trait_value n) (text_of (field_of (codes "selector") n)) None

abbrev pub selector_under : GraphMaps → List ℕ → Option (List ℕ)
selector_under g trait = cond (is_own_shape g trait) (selector_in (trait_of g trait trait_id)) None

-- the selector of the trait at a number has this text
abbrev pub IsTextAt : Graph → List ℕ → ℕ → Type 0
IsTextAt g text k = IsShapeNumber g k × (selector_under (maps_of g) (id_of_number g k) ≡ Some text)

-- a trait whose selector has the same text, where there is one
abbrev pub SharesText : Graph → ℕ → Option ℕ → Type 0
SharesText g k None = selector_under (maps_of g) (id_of_number g k) ≡ None
SharesText g k (Some first) = (text : List ℕ) × IsTextAt g text k × IsTextAt g text first

-- the traits at these numbers do, each with the text under which it is found
abbrev pub AreSeen : Graph → (List ℕ → Option ℕ) → Type 0
AreSeen g seen = (text : List ℕ) (first : ℕ) → seen text ≡ Some first → IsTextAt g text first

-- one for each number
pub record AreFirsts (g : Graph) (firsts : List (Option ℕ)) : Type 0 where
  pub whole : length firsts ≡ length (entries_of g)
  pub each : (k : ℕ) → IsShapeNumber g k → SharesText g k (get_or firsts k None)

-- a use of a trait: the numbers of what carries it, and of the trait
abbrev pub IsUse : Graph → ℕ × ℕ → Type 0
IsUse g u =
    IsShapeNumber g u.0 × IsShapeNumber g u.1 × ((n : Node) × CarriesTrait (maps_of g) (id_of_number g u.0) (id_of_number g u.1) n)

-- a list for each number, with the number a use stands under
abbrev pub HasUse : List (List (ℕ × ℕ)) → ℕ × (ℕ × ℕ) → Type 0
HasUse rows p = Contains (get_or rows p.0 []) p.1

-- a use stands under the number given for its trait
abbrev pub IsUnderFirst : List (Option ℕ) → ℕ × (ℕ × ℕ) → Type 0
IsUnderFirst firsts p = get_or firsts p.1.1 None ≡ Some p.0

-- those of the trait of a name by what stands at a number
abbrev pub IsUseOfName : Graph → List (Option ℕ) → ℕ → List ℕ → ℕ × (ℕ × ℕ) → Type 0
IsUseOfName g firsts j name p =
    (p.1.0 ≡ j) × IsShapeNumber g p.1.1 × (id_of_number g p.1.1 ≡ name) × IsUnderFirst firsts p

-- those by what stands at a number, and at the numbers below one
abbrev pub IsUseAt : Graph → List (Option ℕ) → ℕ → ℕ × (ℕ × ℕ) → Type 0
IsUseAt g firsts j p = (p.1.0 ≡ j) × IsUse g p.1 × IsUnderFirst firsts p

abbrev pub IsUseBelow : Graph → List (Option ℕ) → ℕ → ℕ × (ℕ × ℕ) → Type 0
IsUseBelow g firsts n p = (p.1.0 < n) × IsUse g p.1 × IsUnderFirst firsts p

-- exactly the uses of traits with selectors, each under the trait with its text
pub record AreUses (g : Graph) (firsts : List (Option ℕ)) (rows : List (List (ℕ × ℕ))) : Type 0 where
  pub whole : length rows ≡ length (entries_of g)
  pub uses : (p : ℕ × (ℕ × ℕ)) → HasUse rows p ↔ (IsUse g p.1 × IsUnderFirst firsts p)

abbrev pub AreSharedUses : Graph → List (List (ℕ × ℕ)) → Type 0
AreSharedUses g rows = (firsts : List (Option ℕ)) × AreFirsts g firsts × AreUses g firsts rows

-- uses, and uses of traits whose selectors have this text
abbrev pub AreUsesThere : Graph → List (ℕ × ℕ) → Type 0
AreUsesThere g us = (u : ℕ × ℕ) → Contains us u → IsUse g u

abbrev pub AreOfText : Graph → Option (List ℕ) → List (ℕ × ℕ) → Type 0
AreOfText g said us = (u : ℕ × ℕ) → Contains us u → IsUse g u × (selector_under (maps_of g) (id_of_number g u.1) ≡ said)

-- what is told of a use: by the rule, by steps, and by marks
abbrev pub told_use : Graph → ℕ × ℕ → EventTold
told_use g u = rule_event TraitPlace (id_of_number g u.0) (id_of_number g u.1)

abbrev pub ToldOfUse : Graph → ℕ × ℕ → EventTold → Type 0
ToldOfUse g u e = IsNotPicked (maps_of g) (id_of_number g u.0) (id_of_number g u.1) × (e ≡ told_use g u)

abbrev pub ToldOutside : Graph → Steps → ℕ × ℕ → EventTold → Type 0
ToldOutside g steps u e = IsUnless (IsPicked (maps_of g) steps (id_of_number g u.0)) (told_use g u) e

abbrev pub ToldUnmarked : Graph → List (ℕ × ℕ) → List Bool → ℕ → EventTold → Type 0
ToldUnmarked g us marks i e = IsWhere (not (get_or marks i false)) (told_use g (get_or us i (0, 0))) e
