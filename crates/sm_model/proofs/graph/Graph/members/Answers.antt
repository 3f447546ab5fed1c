use Rattle.std.proofs.Common.{ℕ, List, [], map, get_or, sym, subst}
use Rattle.sm_model.specs.GraphView.{AreShapeNumbers, HasMembers, ids}
use Rattle.sm_model.specs.GraphRows.{row_entry}
use Rattle.sm_model.proofs.Entries.{at_row, members_numbered, members_viewed}
use Rattle.sm_model.proofs.graph.Graph.members.Goals as goal

pub returns-clause-ids : goal.returns-clause-ids
returns-clause-ids c =
    let g = c.args.self.now in
    let names : List ℕ → List (List ℕ) = λ ks. map (λ k. get_or (ids g) k []) ks in
    at_row g c.args.shape c.row.result.now c.row.ensures (λ id e. HasMembers (names _) e)
    (subst (λ ks. HasMembers (names ks) (row_entry (ids g) c.row.result.now).1) (sym c.members.ensures)
    (members_viewed (ids g) _ c.row.result.now.entry))

pub returns-clause-numbers : goal.returns-clause-numbers
returns-clause-numbers c =
    subst (AreShapeNumbers c.args.self.now) (sym c.members.ensures)
    (members_numbered c.args.self.now c.args.shape c.row.result.now c.row.ensures)
