use Rattle.std.proofs.Common.{Some, ap, sym, ◌∙◌}
use Rattle.sm_ids.specs.View.{id_of}
use Rattle.sm_transform.proofs.RenamedIds.{renamed_other, renamed_parts}
use Rattle.sm_transform.proofs.renaming.RenamingChangesIds.id.Goals as goal

pub returns-then-eq : goal.returns-then-eq
returns-then-eq c =
    let s = c.args.self.now in
    ap Some (c.in_ok-new.ensures
    ∙ sym (renamed_parts s.from.now s.to.now s.is_namespace (id_of c.as_ref-parts.result) c.args.id.now c.as_ref-parts.ensures
    (sym c.eq.ensures ∙ c.if-eq.true)))

pub returns : goal.returns
returns c =
    let s = c.args.self.now in
    ap Some (c.in_ok-copy.ensures
    ∙ sym (renamed_other s.from.now s.to.now s.is_namespace (id_of c.as_ref-parts.result) c.args.id.now c.as_ref-parts.ensures
    (sym c.eq.ensures ∙ c.if-eq.false)))
