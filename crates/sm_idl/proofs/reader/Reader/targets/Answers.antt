use Rattle.std.proofs.Common.{◌++◌, ◌∷◌, [], sym, ap, subst, ◌∙◌, codes}
use Rattle.sm_model.specs.SaidView.{trait_view, traits_view}
use Rattle.sm_idl.specs.Productions.{◌or◌}
use Rattle.sm_idl.specs.Traits.{one_trait, braced_traits}
use Rattle.sm_idl.specs.steps.Firm.{HeadIs}
use Rattle.sm_idl.specs.steps.Classes.{AMark, Paren}
use Rattle.sm_idl.specs.steps.HomeView.{home_of_file}
use Rattle.sm_idl.specs.steps.ReaderView.{left}
use Rattle.sm_idl.specs.steps.Reading.{IsRead}
use Rattle.sm_idl.proofs.NodeRows.{refused}
use Rattle.sm_idl.proofs.ReadTraits.{braced_targets, one_read, one_stop}
use Rattle.sm_idl.proofs.reader.Reader.targets.Goals as goal

pub returns-then-is_at_mark : goal.returns-then-is_at_mark
returns-then-is_at_mark c =
    braced_targets (home_of_file c.args.home.now) (λ traits. traits_view traits.items) (left c.args.self.now)
    (left c.braced_traits.new.self)
    c.braced_traits.result (c.is_at_mark.ensures.0 c.if-is_at_mark.true) c.braced_traits.ensures

pub returns-in-Ok-push : goal.returns-in-Ok-push
returns-in-Ok-push c =
    let home = home_of_file c.args.home.now in
    subst (λ l. IsRead Paren (one_trait home or braced_traits home) (traits_view l) (left c.args.self.now) (left c.applied.new.self))
    (sym (c.in-Ok-push.ensures.items ∙ ap (λ l. l ++ c.in-Ok.applied ∷ []) c.new-traits.ensures.items))
    (one_read home (trait_view c.in-Ok.applied) (left c.args.self.now) (left c.applied.new.self) c.in-Ok.ensures)

pub returns-in-Err : goal.returns-in-Err
returns-in-Err c =
    one_stop (home_of_file c.args.home.now) (left c.args.self.now) (left c.applied.new.self) c.in-Err.stop
    (refused c.is_at_mark.result (HeadIs (AMark (codes "{")) (left c.args.self.now)) c.is_at_mark.ensures c.if-is_at_mark.false)
    c.in-Err.ensures
