use Rattle.std.proofs.Common.{sym, subst}
use Rattle.sm_tree.specs.Json.{AreBytes}
use Rattle.sm_cbor.specs.CborItem.{Definite}
use Rattle.sm_cbor.specs.steps.Descent.{initial_type}
use Rattle.sm_cbor.proofs.Descending.{definite_run}
use Rattle.sm_cbor.proofs.descent.Descent.run.Goals as goal

pub returns : goal.returns
returns c =
    let bytes = c.args.self.now.rest.now in
    let run = c.split_at.result.0.now in
    subst (λ r. Definite (initial_type bytes) AreBytes run bytes r) (sym c.split_at.ensures.back)
    (definite_run (initial_type bytes) c.in_ok-len.len AreBytes bytes c.argument.new.self.rest.now run c.in_ok-len.ensures
    c.if-len-self.false c.split_at.ensures.front c.split_at.ensures.front_len c.see_bytes.ensures)
