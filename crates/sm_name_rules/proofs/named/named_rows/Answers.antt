use Rattle.std.proofs.Common.{◌≡◌, ◌⊎◌, ◌<◌, ◌+◌, inl, inr, ℕ, length, subst, sym, arith}
use Rattle.std.specs.Prelude.{◌↔◌}
use Rattle.std.proofs.lemmas.Bool.{cases_lt}
use Rattle.sm_model.specs.GraphView.{entries_of}
use Rattle.sm_name_rules.specs.steps.Naming.{AreRowsBelow, IsKeyBy, is_named, tree_in}
use Rattle.sm_name_rules.proofs.RowsBelow.{no_rows, rows_next}
use Rattle.sm_name_rules.proofs.named.named_rows.Goals as goal

pub loop-number-init : goal.loop-number-init
loop-number-init c = record {
  within = omega arith;
  rows = subst (AreRowsBelow (is_named c.args.graph.now c.args.inside.now) (IsKeyBy (tree_in c.args.given.now) c.args.graph.now) 0)
      (sym c.new-rows.ensures.items)
      (no_rows (λ k. k < 0) (is_named c.args.graph.now c.args.inside.now) (IsKeyBy (tree_in c.args.given.now) c.args.graph.now)
      (λ k none. omega (arith, none)));
}

below_more : (n k : ℕ) → ((k < n) ⊎ (n ≡ k)) ↔ (k < n + 1)
below_more n k = (
  λ h. elim h [ inl less ↦ omega (arith, less) | inr same ↦ omega (arith, same) ],
  λ h. elim (cases_lt k n) [ inl less ↦ inl less | inr more ↦ inr (omega (arith, h, more)) ],
)

pub loop-number-preserved : goal.loop-number-preserved
loop-number-preserved c =
    let n = c.loop-number.number in
    record {
      within = omega (arith, c.loop-number-test.true, c.count-number-end.ensures);
      rows = rows_next (λ k. k < n) (is_named c.args.graph.now c.args.inside.now) (IsKeyBy (tree_in c.args.given.now) c.args.graph.now)
          (λ k. k < n + 1) n c.loop-number.rows.items c.put_named.new.rows.items (λ k h. h) (below_more n) c.loop-number.invariant.rows
          c.in_ok-put_named.ensures;
    }

pub returns : goal.returns
returns c =
    let all : c.loop-number.number ≡ length (entries_of c.args.graph.now) =
    omega (arith, c.loop-number-test.false, c.count-number-end.ensures, c.loop-number.invariant.within) in
    subst (λ n. AreRowsBelow (is_named c.args.graph.now c.args.inside.now) (IsKeyBy (tree_in c.args.given.now) c.args.graph.now) n
    c.loop-number.rows.items) all c.loop-number.invariant.rows
