use Rattle.std.proofs.Common.{◌≡◌, ◌++◌, map, sym, ap, subst, ◌∙◌}
use Rattle.std.specs.Prelude.{OnOk}
use Rattle.std.specs.Option.{option_map}
use Rattle.std.proofs.lemmas.List.{append-nil}
use Rattle.sm_shapes.specs.TableView.{member_data}
use Rattle.sm_excerpts.specs.steps.Rows.{copy_in, listed}
use Rattle.sm_excerpts.proofs.copies.put_copy.Goals as goal

pub returns-in-None : goal.returns-in-None
returns-in-None c =
    let old = map member_data c.args.copies.now.items in
    sym (append-nil old) ∙ ap (λ o. old ++ listed (option_map (copy_in c.args.shape) o)) (sym c.in-None.ensures)

pub returns-in-Some : goal.returns-in-Some
returns-in-Some c =
    let old = map member_data c.args.copies.now.items in
    subst (λ o. OnOk c.push_copy.result (map member_data c.push_copy.new.copies.items ≡ old ++ listed (option_map (copy_in c.args.shape) o)))
    (sym c.in-Some.ensures) c.push_copy.ensures
