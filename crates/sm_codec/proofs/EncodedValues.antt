-- Lists and pairs that are written one after the other, and what encoding promises of its tree.
use Rattle.std.proofs.Common.{◌≡◌, ℕ, Bool, true, false, List, [], ◌∷◌, ◌++◌, refl, sym, ap, ◌∙◌, subst, append-nil}
use Rattle.std.specs.Prelude.{◌↔◌, IsTrue, Option, Some, Result, Ok, Err, IfOk, reverse}
use Rattle.std.proofs.lemmas.List.{reverse-append}
use Rattle.sm_tree.specs.declared.path.Step.{Step}
use Rattle.sm_tree.specs.Node.{Node, Nodes, Members, no_nodes, no_members, nodes_of, members_of}
use Rattle.sm_shapes.specs.Values.{Val}
use Rattle.sm_shapes.specs.TableData.{TableData}
use Rattle.sm_shapes.specs.InOrder.{Shaped}
use Rattle.sm_shapes.specs.Places.{Place}
use Rattle.sm_codec.specs.Convention.{Convention, IsConvention}
use Rattle.sm_codec.specs.Codec.{InTable}
use Rattle.sm_codec.specs.Encoded.{SpellsByEachTest, first_path, are_none}
use Rattle.sm_codec.specs.Written.{written, uncarried, paths_under}
use Rattle.sm_codec.specs.steps.ValueParts.{FoundFirst}
use Rattle.sm_codec.proofs.ChildLists.{each_node, each_pair, nodes_back, members_back}
use Rattle.sm_codec.proofs.WrittenValues.{written_spells}

-- what holds of the node that a result's tree stands for holds of the tree
pub holds_if : {A E : Type 0} (view : A → Node) (n : Node) (S : Node → Type 0) → S n → (r : Result A E) → IfOk r (λ x. view x ≡ n)
    → IfOk r (λ x. S (view x))
holds_if view n S s (Ok x) h = subst S (sym h) s
holds_if view n S s (Err e) h = tt

pub spells_each : (t : TableData) (l : Convention) (p : Place) (v : Val) → IsConvention l → Shaped t → InTable t p → uncarried t l p v ≡ []
    → SpellsByEachTest t l p v (written t l p v)
spells_each t l p v laws shaped inside carried = λ test fits. written_spells (record { table = t; convention = l; test = test }) p v laws
    shaped inside fits carried

-- where nothing is left, what came is all
pub all_entries : (written rest : Nodes) (ns : List Node) → rest ≡ no_nodes → ns ++ each_node rest ≡ each_node written → nodes_of ns ≡
    written
all_entries written rest ns e h =
    ap nodes_of (sym (append-nil ns) ∙ ap (λ r. ns ++ each_node r) (sym e) ∙ h) ∙ nodes_back written

pub all_pairs : (written rest : Members) (ps : List (List ℕ × Node)) → rest ≡ no_members → ps ++ each_pair rest ≡ each_pair written
    → members_of ps ≡ written
all_pairs written rest ps e h =
    ap members_of (sym (append-nil ps) ∙ ap (λ r. ps ++ each_pair r) (sym e) ∙ h) ∙ members_back written

-- whether there is no path
pub none_told : (paths : List (List Step)) (b : Bool) → b ≡ are_none paths → IsTrue b ↔ (paths ≡ [])
none_told [] b h = (λ t. refl, λ e. h)
none_told (path ∷ paths) b h = (λ t. absurd (not_both b t h), λ e. absurd cc)
  where
    not_both : (b : Bool) → IsTrue b → b ≡ false → ⊥
    not_both true t h = cc
    not_both false t h = cc

-- the first of some paths, turned round
pub first_told : (paths : List (List Step)) (steps : List Step) → FoundFirst paths (Some steps) → Some (reverse steps) ≡ first_path paths
first_told paths steps h = ap first_path (sym h.1)

-- the first of a part is the first of what has it, one step further
pub found_under : {E : Type 0} (step : Step) (paths whole more : List (List Step)) (path : List Step) (r : Result (Option (List Step)) E)
    → FoundFirst paths (Some path) → whole ≡ paths_under step paths ++ more → IfOk r (λ found. found ≡ Some (path ++ step ∷ []))
    → IfOk r (FoundFirst whole)
found_under step paths whole more path (Ok found) h is longer =
    subst (FoundFirst whole) (sym longer) (
      paths_under step h.0 ++ more,
      is ∙ ap (λ ps. paths_under step ps ++ more) h.1 ∙ ap (λ p. p ∷ (paths_under step h.0 ++ more)) (sym (reverse-append path (step ∷
          []))),
    )
found_under step paths whole more path (Err e) h is longer = tt
