use Rattle.std.proofs.Common.{◌≡◌, ◌+◌, ◌∷◌, ◌⊎◌, [], ℕ, List, ap, arith, drop, subst, sym, ◌∙◌}
use Rattle.std.specs.Prelude.{◌↔◌}
use Rattle.std.specs.List.{Contains}
use Rattle.std.proofs.lemmas.List.{drop_all, drop_more}
use Rattle.sm_tree.specs.View.{members_view, node_of}
use Rattle.sm_tree.specs.declared.tree.Tree.{Tree}
use Rattle.sm_model.specs.declared.link.Link.{Link}
use Rattle.sm_model.specs.declared.relation.Relation.TheVariants.{Member}
use Rattle.sm_model.specs.steps.Linking.{AddsUpTo, RunsTo}
use Rattle.sm_model.proofs.Linking.{up_to_more, up_to_same, up_to_end}
use Rattle.sm_transform.specs.steps.Steps.{TraitSteps}
use Rattle.sm_transform.proofs.StepsNeeded.{traits_either, traits_none}
use Rattle.sm_transform.proofs.needs.put_traits.Goals as goal

pub loop-pair-preserved : goal.loop-pair-preserved
loop-pair-preserved c =
    let at = c.loop-pair in
    let i = at.pair-index in
    let traits = c.args.traits.now in
    let pair : List ℕ × Tree = c.pair-item.result in
    let g = c.args.graph.now in
    let number = c.args.number in
    let old = c.args.steps.now.items in
    let Steps : List (List ℕ × Tree) → Link → Type 0 = λ ps s. TraitSteps g number (members_view ps) s in
    let id = c.as_str.result.now in
    let Here : Link → Type 0 = λ s. RunsTo g Member number (λ i. id ≡ i) s in
    let next : drop i traits ≡ pair ∷ drop (i + 1) traits = drop_more traits i pair (omega arith)
    ∙ ap (λ y. y ∷ drop (i + 1) traits) (sym c.pair-item.is) in
    up_to_more (Steps traits) Here (Steps (drop (i + 1) traits)) (Contains old) (Contains at.steps.items) _
    c.in_ok-put_trait.ensures
    (up_to_same (Steps traits) (Steps (pair ∷ drop (i + 1) traits)) (λ s. Here s ⊎ Steps (drop (i + 1) traits) s)
    (Contains old) (Contains at.steps.items)
    (subst (λ k. (s : Link) → Steps (pair ∷ drop (i + 1) traits) s
    ↔ (RunsTo g Member number (λ i. k ≡ i) s ⊎ Steps (drop (i + 1) traits) s)) (sym c.as_str.ensures.bytes)
    (traits_either g number (pair.0, node_of pair.1) (members_view (drop (i + 1) traits))))
    (subst (λ ps. AddsUpTo (Steps traits) (Steps ps) old at.steps.items) next at.invariant))

pub returns : goal.returns
returns c =
    let at = c.loop-pair in
    let traits = c.args.traits.now in
    let g = c.args.graph.now in
    let number = c.args.number in
    let old = c.args.steps.now.items in
    let Steps : List (List ℕ × Tree) → Link → Type 0 = λ ps s. TraitSteps g number (members_view ps) s in
    let none : drop at.pair-index traits ≡ [] = drop_all at.pair-index traits (omega (arith, c.loop-pair-test.false)) in
    up_to_end (Steps traits) (Steps []) (Contains old) (Contains at.steps.items) (traits_none g number)
    (subst (λ ps. AddsUpTo (Steps traits) (Steps ps) old at.steps.items) none at.invariant)
