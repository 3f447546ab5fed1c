use Rattle.std.proofs.Common.{◌≡◌, ◌<◌, ◌+◌, ◌∷◌, drop, get_or, sym, ap, ◌∙◌, subst, arith}
use Rattle.std.proofs.lemmas.List.{drop_more}
use Rattle.std.proofs.lemmas.Result.{IfOk-weaker}
use Rattle.sm_shapes.specs.TableData.{shape_count}
use Rattle.sm_shapes.specs.TableView.{table_data}
use Rattle.sm_messages.specs.Goals.{no_error}
use Rattle.sm_bind_write.specs.Restrictions.{refused_in_errors}
use Rattle.sm_bind_write.proofs.ErrorsRefused.{error_there, found_first, found_later}
use Rattle.sm_bind_write.proofs.restrictions.in_errors.Goals as goal

pub refused_on-requires-clause-shape : goal.refused_on-requires-clause-shape
refused_on-requires-clause-shape c =
    let t = table_data c.args.table.now in
    let es = c.args.errors.now in
    let i = c.loop-place.place in
    subst (λ e. e.shape < shape_count t) (sym c.error_in-error.ensures)
    (c.requires.each (get_or es i no_error) (error_there es i (omega (arith, c.loop-place-test.true))))

pub returns-in-Some : goal.returns-in-Some
returns-in-Some c =
    let t = table_data c.args.table.now in
    let es = c.args.errors.now in
    let i = c.loop-place.place in
    let e = c.error_in-error.result.now in
    let view : drop i es ≡ e ∷ drop (i + 1) es =
    drop_more es i no_error (omega (arith, c.loop-place-test.true)) ∙ ap (λ x. x ∷ drop (i + 1) es) (sym c.error_in-error.ensures) in
    IfOk-weaker c.error_path.result _ _
    (λ path h. h ∙ found_first t e (drop (i + 1) es) c.in-Some.member (sym c.in-Some.is ∙ c.refused_on.ensures)
    ∙ ap (refused_in_errors t) (sym view) ∙ c.loop-place.invariant) c.error_path.ensures

pub loop-place-preserved : goal.loop-place-preserved
loop-place-preserved c =
    let t = table_data c.args.table.now in
    let es = c.args.errors.now in
    let i = c.loop-place.place in
    let e = c.error_in-error.result.now in
    let view : drop i es ≡ e ∷ drop (i + 1) es =
    drop_more es i no_error (omega (arith, c.loop-place-test.true)) ∙ ap (λ x. x ∷ drop (i + 1) es) (sym c.error_in-error.ensures) in
    sym (ap (refused_in_errors t) view ∙ found_later t e (drop (i + 1) es) (sym c.in-None.is ∙ c.refused_on.ensures))
    ∙ c.loop-place.invariant
