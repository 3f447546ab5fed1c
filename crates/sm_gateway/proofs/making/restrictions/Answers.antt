use Rattle.std.proofs.Common.{ap, arith, ◌≡◌, ◌<◌, ℕ, List, Option, Some, length, subst, sym}
use Rattle.std.specs.Prelude.{slice_get}
use Rattle.std.proofs.lemmas.List.{length-map}
use Rattle.sm_protocols.specs.service.ServiceView.{operation_data, service_data}
use Rattle.sm_protocols.specs.messages.Crossings.{or_by}
use Rattle.sm_protocols.specs.Forms.{form_of}
use Rattle.sm_protocols.specs.Kept.{protocol_of}
use Rattle.sm_gateway.proofs.RestrictionsMade.{got_more}
use Rattle.sm_gateway.proofs.making.restrictions.Goals as goal

pub loop-operation-preserved : goal.loop-operation-preserved
loop-operation-preserved c =
    let s = service_data c.args.service.now in
    let f : ℕ → Option (List ℕ) = λ o. or_by ((form_of (protocol_of c.args.front.now)).restriction s o)
    ((form_of (protocol_of c.args.back.now)).restriction s o) in
    let xs = c.loop-operation.paths.items in
    let path = c.in_ok-path.path in
    let counted = length-map c.as_slice-count.result.now operation_data in record {
      within = omega (arith, counted, ap length c.as_slice-count.ensures, c.loop-operation-test.true);
      count = omega (arith, c.loop-operation.invariant.count, c.in_ok-push.ensures.len);
      paths = λ o lt. subst (λ ys. slice_get ys o ≡ Some (f o)) (sym c.in_ok-push.ensures.items)
          (got_more xs path f c.loop-operation.invariant.paths
          (subst (λ n. path ≡ f n) (sym c.loop-operation.invariant.count) c.in_ok-path.ensures) o
          (subst (λ ys. o < length ys) c.in_ok-push.ensures.items lt));
    }
