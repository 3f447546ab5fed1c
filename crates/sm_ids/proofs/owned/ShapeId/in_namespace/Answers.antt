use Rattle.std.proofs.Common.{◌≡◌, ◌∷◌, ◌++◌, ap, append-nil, subst}
use Rattle.std.specs.Prelude.{IfOk}
use Rattle.sm_ids.proofs.owned.ShapeId.in_namespace.Goals as goal

pub returns : goal.returns
returns c =
    subst (λ t. IfOk c.new.result (λ id. id ≡ t)) (ap (λ l. c.args.namespace.now ++ 35 ∷ l) (append-nil c.args.name.now)) c.new.ensures
