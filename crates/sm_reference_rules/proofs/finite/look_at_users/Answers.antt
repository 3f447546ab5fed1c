use Rattle.std.proofs.Common.{◌<◌, List, ℕ, subst, sym}
use Rattle.std.specs.List.{Contains}
use Rattle.std.proofs.lemmas.Result.{on_ok_weaker}
use Rattle.sm_reference_rules.specs.steps.Finding.{IsHomeOf, IsUser}
use Rattle.sm_reference_rules.proofs.FiniteMoves.{moves_same}
use Rattle.sm_reference_rules.proofs.finite.look_at_users.Goals as goal

pub row-requires : goal.row-requires
row-requires c = subst (λ n. c.args.target < n) (sym c.requires.ways.whole) c.requires.target

pub look_at_members-requires-clause-members : goal.look_at_members-requires-clause-members
look_at_members-requires-clause-members c k among =
    ((c.requires.ways.steps c.args.target k).0 (subst (λ (ks : List ℕ). Contains ks k) c.row.ensures among)).1

pub returns : goal.returns
returns c =
    on_ok_weaker c.look_at_members.result
    (moves_same c.args.graph.now (IsHomeOf c.args.graph.now c.args.back.now c.row.result.now)
    (IsUser c.args.graph.now c.args.back.now c.args.target) c.args.known.now c.look_at_members.new.known
    (λ k h. subst (λ (ks : List ℕ). IsHomeOf c.args.graph.now c.args.back.now ks k) (sym c.row.ensures) h)) c.look_at_members.ensures
