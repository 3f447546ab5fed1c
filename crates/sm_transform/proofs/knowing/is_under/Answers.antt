use Rattle.std.proofs.Common.{◌≡◌, ◌+◌, ◌∷◌, ℕ, List, ap, arith, drop, sym, ◌∙◌}
use Rattle.std.specs.List.{list_any}
use Rattle.std.proofs.lemmas.List.{drop_more}
use Rattle.sm_tree.specs.View.{members_view}
use Rattle.sm_tree.specs.declared.tree.Tree.{Tree}
use Rattle.sm_model.specs.Given.{are_under}
use Rattle.sm_transform.specs.Namespaces.{is_of_namespace}
use Rattle.sm_transform.proofs.KnownIds.{any_here, any_later}
use Rattle.sm_transform.proofs.knowing.is_under.Goals as goal

pub loop-pair-preserved : goal.loop-pair-preserved
loop-pair-preserved c =
    let at = c.loop-pair in
    let i = at.pair-index in
    let pairs = c.args.pairs.now in
    let pair : List ℕ × Tree = c.pair-item.result in
    let rest = drop (i + 1) pairs in
    let p = is_of_namespace c.args.namespace.now in
    let next : drop i pairs ≡ pair ∷ rest = drop_more pairs i pair (omega arith) ∙ ap (λ y. y ∷ rest) (sym c.pair-item.is) in
    let other : p pair.0 ≡ c.is_of.result = ap p (sym c.as_str.ensures.bytes) ∙ sym c.is_of.ensures in
    sym (any_later p pair.0 (are_under (members_view rest)) (other ∙ c.if-is_of.false))
    ∙ ap (λ (ts : List (List ℕ × Tree)). list_any p (are_under (members_view ts))) (sym next) ∙ at.invariant

pub returns-then-is_of : goal.returns-then-is_of
returns-then-is_of c =
    let at = c.loop-pair in
    let i = at.pair-index in
    let pairs = c.args.pairs.now in
    let pair : List ℕ × Tree = c.pair-item.result in
    let rest = drop (i + 1) pairs in
    let p = is_of_namespace c.args.namespace.now in
    let next : drop i pairs ≡ pair ∷ rest = drop_more pairs i pair (omega arith) ∙ ap (λ y. y ∷ rest) (sym c.pair-item.is) in
    let same : p pair.0 ≡ c.is_of.result = ap p (sym c.as_str.ensures.bytes) ∙ sym c.is_of.ensures in
    any_here p pair.0 (are_under (members_view rest)) (same ∙ c.if-is_of.true)
    ∙ ap (λ (ts : List (List ℕ × Tree)). list_any p (are_under (members_view ts))) (sym next) ∙ at.invariant
