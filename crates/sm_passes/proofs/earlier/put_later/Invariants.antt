use Rattle.std.proofs.Common.{◌≡◌, ℕ, List, take}
use Rattle.std.specs.FinMap as fin
use Rattle.sm_model.specs.Graphs.{text_cmp}
use Rattle.sm_rules.specs.RuleEvents.{Puts}
use Rattle.sm_passes.specs.Earlier.{ToldAt}
use Rattle.sm_passes.specs.Firsts.{number_in}
use Rattle.sm_passes.specs.Putting.{Below}
use Rattle.sm_passes.proofs.earlier.put_later.Given as goal

abbrev pub invariant-loop-row : goal.invariant-loop-row
invariant-loop-row g l = record {
  seen : (key : List ℕ) → number_in l.seen key ≡ fin.find text_cmp key (take l.row-index l.rows);
  told : Puts (Below (ToldAt (g.F.OfFirst.tells l.rule l.graph) l.rows) l.row-index) l.fn.events.items l.events.items;
}
