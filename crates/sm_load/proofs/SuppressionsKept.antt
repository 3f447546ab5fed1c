-- What is kept of suppressions, and what is asked of it.
use Rattle.std.proofs.Common.{◌≡◌, ℕ, Bool, true, false, cond, List, [], ◌∷◌, Some, get_or, refl, sym, ap, ◌∙◌}
use Rattle.std.specs.Prelude.{◌&&◌, codes}
use Rattle.std.specs.FinMap as fin
use Rattle.std.specs.FinMap.{get-entries}
use Rattle.std.specs.FinMap.Entries.{find}
use Rattle.sm_tree.specs.Node.{Node, members_of}
use Rattle.sm_tree.specs.Parts.{tree_named}
use Rattle.sm_model.specs.Graphs.{text_cmp, NodeMap}
use Rattle.sm_model.specs.GraphView.{Stands, maps_of}
use Rattle.sm_model.specs.Reaching.{id_of_number}
use Rattle.sm_model.specs.declared.graph.Graph.{Graph}
use Rattle.sm_model.proofs.GraphFacts.{id_at}
use Rattle.sm_model.proofs.LinkNumbers.{at_opened, within}
use Rattle.sm_compile.specs.TraitNodes.{field_of, text_of}
use Rattle.sm_passes.proofs.FirstRows.{tests}
use Rattle.sm_load.specs.Suppressions.{entry_names, is_suppressed_there, text_is, text_names}
use Rattle.sm_load.specs.steps.Suppressing.{AreNamedThere}

-- what stands first under a name is what a map has there
named_found : (name : List ℕ) (es : List (List ℕ × Node)) → tree_named name (members_of es) ≡ find text_cmp name es
named_found name [] = refl
named_found name (e ∷ es) = λ i. cond (sym (tests name e.0) i) (Some e.1) (named_found name es i)

pub found_in_map : (m : NodeMap) (name : List ℕ) (es : List (List ℕ × Node)) → fin.entries m ≡ es
    → tree_named name (members_of es) ≡ fin.get m name
found_in_map m name es are = named_found name es ∙ ap (find text_cmp name) (sym are) ∙ sym (get-entries m name)

-- what an entry names
pub entry_here : (event namespace : List ℕ) (n : Node) → text_names event (text_of (field_of (codes "id") n)) ≡ true
    → text_is namespace (text_of (field_of (codes "namespace") n)) ≡ entry_names event namespace n
entry_here event namespace n names = λ i. sym names i && text_is namespace (text_of (field_of (codes "namespace") n))

pub entry_other : (event namespace : List ℕ) (n : Node) → text_names event (text_of (field_of (codes "id") n)) ≡ false
    → entry_names event namespace n ≡ false
entry_other event namespace n other = ap (λ b. b && text_is namespace (text_of (field_of (codes "namespace") n))) other

-- a mark says what the test of its id does
same_tests : (a b : Bool) → (a ≡ true → b ≡ true) → (b ≡ true → a ≡ true) → a ≡ b
same_tests true b h k = sym (h refl)
same_tests false true h k = k refl
same_tests false false h k = refl

pub marked_there : (g : Graph) (event : List ℕ) (marks : List Bool) (k : ℕ) (id : List ℕ) → AreNamedThere g event marks → Stands g k id
    → get_or marks k false ≡ is_suppressed_there (maps_of g) id event
marked_there g event marks k id are there =
    let o = at_opened g k _ there in
    let number = within g k o.id o.entry o.there in
    let same : id_of_number g k ≡ id = id_at g k o.id o.entry o.there ∙ o.is.0 in
    same_tests (get_or marks k false) (is_suppressed_there (maps_of g) (id_of_number g k) event)
    (λ h. ((are.marked k).0 h).1) (λ h. (are.marked k).1 (number, h))
    ∙ ap (λ i. is_suppressed_there (maps_of g) i event) same
