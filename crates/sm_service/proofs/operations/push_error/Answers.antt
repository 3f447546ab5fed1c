use Rattle.std.proofs.Common.{◌≡◌, ◌∷◌, [], None, Some, get_or, ap, sym, ◌∙◌}
use Rattle.std.specs.Option.{option_copied}
use Rattle.std.specs.Prelude.{codes, slice_get}
use Rattle.std.proofs.lemmas.Option.{slice_get-get_or}
use Rattle.sm_service.specs.declared.serving.WalkStart.TheVariants as start
use Rattle.sm_service.proofs.KeptErrors.{got_at_place}
use Rattle.sm_service.proofs.OperationsTold.{got_in}
use Rattle.sm_service.proofs.ServedRoots.{if_ok}
use Rattle.sm_service.proofs.StartsTold.{never_behind, start_put}
use Rattle.sm_service.proofs.operations.push_error.Goals as goal

pub bounds-shapes-error : goal.bounds-shapes-error
bounds-shapes-error c =
    let es = c.args.errors.now in
    let e = c.in-Some.error.now in
    let there : slice_get es c.args.place ≡ Some e =
    sym (got_at_place c.get.result es c.args.place c.get.ensures.lookup.3) ∙ ap option_copied c.in-Some.is in
    c.requires.errors e (got_in es c.args.place e there)

pub returns : goal.returns
returns c =
    let shapes = c.args.shapes.now in
    let es = c.args.errors.now in
    let e = c.in-Some.error.now in
    let there : slice_get es c.args.place ≡ Some e =
    sym (got_at_place c.get.result es c.args.place c.get.ensures.lookup.3) ∙ ap option_copied c.in-Some.is in
    let within = c.requires.errors e (got_in es c.args.place e there) in
    if_ok c.push_start.result
    (λ _ put. start_put shapes es c.args.place c.args.starts.now.items c.push_start.new.starts.items e
    (start.Error c.name.result (get_or shapes e.shape 0)) there (ap (λ n. codes "error" ∷ n ∷ []) c.name.ensures)
    (slice_get-get_or shapes e.shape 0 within) put)
    c.push_start.ensures

pub unreachable-requires : goal.unreachable-requires
unreachable-requires c =
    let none : slice_get c.args.errors.now c.args.place ≡ None =
    sym (got_at_place c.get.result c.args.errors.now c.args.place c.get.ensures.lookup.3) ∙ ap option_copied c.in-None.is in
    never_behind c.args.errors.now c.args.place c.requires.place none
