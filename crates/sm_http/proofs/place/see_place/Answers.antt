use Rattle.std.proofs.Common.{ℕ, refl, subst, sym, arith}
use Rattle.sm_http.specs.declared.message.BodyLeft.TheVariants.{Known, Data, Done}
use Rattle.sm_http.specs.Calls.{IsWithinLimit}
use Rattle.sm_http.specs.steps.Passing.{Leads}
use Rattle.sm_http.proofs.PlacesSeen.{none_before, stays}
use Rattle.sm_http.proofs.place.see_place.Goals as goal

pub returns-else-count-eq0 : goal.returns-else-count-eq0
returns-else-count-eq0 c =
    subst (λ p. Leads p c.args.bytes.now 0 (Data c.in-Data.count c.in-Data.total)) (sym c.in-Data.is)
    (stays (Data c.in-Data.count c.in-Data.total) c.args.bytes.now
    (none_before c.in-Data.count c.in-Data.total (omega (arith, c.if-count-eq0.false))) (subst IsWithinLimit c.in-Data.is c.requires))

pub returns-in-Known : goal.returns-in-Known
returns-in-Known c =
    let k : ℕ = c.in-Known.count in
    subst (λ p. Leads p c.args.bytes.now 0 (Known k)) (sym c.in-Known.is)
    (stays (Known k) c.args.bytes.now refl (subst IsWithinLimit c.in-Known.is c.requires))

pub returns-in-Done : goal.returns-in-Done
returns-in-Done c =
    subst (λ p. Leads p c.args.bytes.now 0 Done) (sym c.in-Done.is) (stays Done c.args.bytes.now refl tt)
