use Rattle.std.proofs.Common.{◌≡◌, ◌+◌, ◌∷◌, get_or, drop, sym, ap, ◌∙◌, subst, arith}
use Rattle.std.proofs.lemmas.List.{drop_more}
use Rattle.sm_shapes.specs.TableData.{default_at}
use Rattle.sm_shapes.specs.TableView.{table_data}
use Rattle.sm_shapes.specs.ValueView.{fields_view}
use Rattle.sm_shapes.specs.FieldPuts.{FieldsRise}
use Rattle.sm_codec.specs.steps.ClosingSteps.{defaults_put}
use Rattle.sm_codec.proofs.FieldsRising.{default_rises}
use Rattle.sm_codec.proofs.frames.ending.put_defaults.Goals as goal

pub loop-member-preserved : goal.loop-member-preserved
loop-member-preserved c =
    let t = table_data c.args.table.now in
    let at = c.loop-member in
    let i = at.member-index in
    let members = c.args.members.now in
    let member = get_or members i 0 in
    let next : drop i members ≡ member ∷ drop (i + 1) members =
    drop_more members i 0 (omega arith) in
    let put = c.in_ok-put_default_of.ensures in
    record {
      put = ap (defaults_put t (drop (i + 1) members)) put ∙ sym (ap (λ ks. defaults_put t ks (fields_view at.fields)) next)
          ∙ at.invariant.put;
      rises = subst FieldsRise (sym put) (default_rises member (default_at t member) (fields_view at.fields) at.invariant.rises);
    }
