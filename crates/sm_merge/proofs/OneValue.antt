-- Values of one trait come to one value: each step has one answer, since its cases exclude each other.
use Rattle.std.proofs.Common.{◌≡◌, inl, inr, List, [], ◌∷◌, sym, ap, subst, ◌∙◌}
use Rattle.std.specs.Option.{unwrap_or}
use Rattle.sm_tree.specs.Node.{Node, Nodes, list, no_nodes}
use Rattle.sm_tree.specs.Parts.{entries_in}
use Rattle.sm_merge.specs.Values.{joined, ComeTo, AllComeTo, IsValueOf}

same_entries : (xs ys : Nodes) → list xs ≡ list ys → xs ≡ ys
same_entries xs ys e = ap (λ n. unwrap_or (entries_in n) no_nodes) e

-- a value comes to one thing with the next one
pub one_step : (a b c d : Node) → ComeTo a b c → ComeTo a b d → c ≡ d
one_step a b c d (inl (same, e)) (inl (again, f)) = e ∙ sym f
one_step a b c d (inl (same, e)) (inr (inl (xs, ys, of_a, of_b, differ, f))) = absurd (differ same)
one_step a b c d (inl (same, e)) (inr (inr ((differ, no_lists), f))) = absurd (differ same)
one_step a b c d (inr (inl (xs, ys, of_a, of_b, differ, e))) (inl (same, f)) = absurd (differ same)
one_step a b c d (inr (inl (xs, ys, of_a, of_b, differ, e))) (inr (inl (us, vs, is_a, is_b, apart, f))) =
    let first : xs ≡ us = same_entries xs us (sym of_a ∙ is_a) in
    let second : ys ≡ vs = same_entries ys vs (sym of_b ∙ is_b) in
    e ∙ (λ i. list (joined (first i) (second i))) ∙ sym f
one_step a b c d (inr (inl (xs, ys, of_a, of_b, differ, e))) (inr (inr ((apart, no_lists), f))) = absurd (no_lists xs ys of_a of_b)
one_step a b c d (inr (inr ((apart, no_lists), e))) (inl (same, f)) = absurd (apart same)
one_step a b c d (inr (inr ((apart, no_lists), e))) (inr (inl (xs, ys, of_a, of_b, differ, f))) = absurd (no_lists xs ys of_a of_b)
one_step a b c d (inr (inr (conflict, e))) (inr (inr (again, f))) = e ∙ sym f

all_come : (a : Node) (bs : List Node) (c d : Node) → AllComeTo a bs c → AllComeTo a bs d → c ≡ d
all_come a [] c d e f = e ∙ sym f
all_come a (b ∷ bs) c d (next, step, rest) (other, by, behind) =
    all_come next bs c d rest (subst (λ n. AllComeTo n bs d) (one_step a b other next by step) behind)

pub one_value : (ns : List Node) (a b : Node) → IsValueOf ns a → IsValueOf ns b → a ≡ b
one_value [] a b h k = absurd h
one_value (n ∷ ns) a b h k = all_come n ns a b h k
