use Rattle.std.proofs.Common.{subst, sym}
use Rattle.sm_compile.specs.steps.Carrying.{IsPlaced, texts_in}
use Rattle.sm_compile.proofs.patterns.place_of.Goals as goal

pub returns-in-Some : goal.returns-in-Some
returns-in-Some c = subst (IsPlaced (texts_in c.args.carried.now) c.args.text.now) (sym c.in-Some.ensures.value)
    (c.requires c.args.text.now)

pub returns-in-None : goal.returns-in-None
returns-in-None c = subst (IsPlaced (texts_in c.args.carried.now) c.args.text.now) (sym c.in-None.ensures.value)
    (c.requires c.args.text.now)
