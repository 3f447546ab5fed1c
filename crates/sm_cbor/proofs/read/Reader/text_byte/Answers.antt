use Rattle.std.proofs.Common.{Some, None, refl, sym, ◌∙◌}
use Rattle.sm_cbor.proofs.RunSteps.{text_bad, misfit_from}
use Rattle.sm_cbor.proofs.read.Reader.text_byte.Goals as goal

pub returns-then-owed-left-clause-goes : goal.returns-then-owed-left-clause-goes
returns-then-owed-left-clause-goes g c = (
  refl,
  text_bad c.args.self.now c.args.left c.args.byte c.args.utf8 (Some c.in-Some.next) c.requires.sound c.requires.place
      (sym c.next.ensures ∙ c.in-Some.is) (misfit_from c.args.utf8 c.args.left c.in-Some.next c.owed.result c.owed.ensures
      c.if-owed-left.true),
  λ es h. h,
)

pub returns-in-None-clause-goes : goal.returns-in-None-clause-goes
returns-in-None-clause-goes g c = (
  refl,
  text_bad c.args.self.now c.args.left c.args.byte c.args.utf8 None c.requires.sound c.requires.place (sym c.next.ensures ∙
      c.in-None.is) tt,
  λ es h. h,
)
