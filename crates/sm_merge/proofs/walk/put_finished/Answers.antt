use Rattle.std.proofs.Common.{◌≡◌, ◌<◌, ◌+◌, ◌++◌, [], ◌∷◌, length, get_or, take, refl, sym, ap, subst, ◌∙◌, arith, append_assoc}
use Rattle.std.specs.Prelude.{slice_set}
use Rattle.std.proofs.lemmas.List.{length-set}
use Rattle.std.proofs.lemmas.Option.{slice_get-get_or}
use Rattle.sm_merge.specs.declared.walk.Status.TheVariants.{Finished}
use Rattle.sm_merge.specs.steps.Walking.{AreMarked}
use Rattle.sm_merge.proofs.Marking.{one_marked}
use Rattle.sm_merge.proofs.Ats.{taken_more}
use Rattle.sm_merge.proofs.walk.put_finished.Goals as goal

pub loop-number-preserved : goal.loop-number-preserved
loop-number-preserved c =
    let i = c.loop-number.number-index in
    let inv = c.loop-number.invariant in
    let number = get_or c.args.numbers.now c.loop-number.number-index 0 in
    let inside : c.loop-number.number-index < length c.args.numbers.now = c.loop-number-test.true in
    let more : take (c.loop-number.number-index + 1) c.args.numbers.now ≡ take c.loop-number.number-index c.args.numbers.now
    ++ number ∷ [] =
    taken_more c.args.numbers.now 0 c.loop-number.number-index (c.loop-number.number-index + 1) refl inside in
    let was : number < length c.args.status.now.items =
    c.requires c.loop-number.number-index number (slice_get-get_or c.args.numbers.now c.loop-number.number-index 0 inside) in
    let small : number < length c.loop-number.status.items = omega (arith, was, inv.size) in
    record {
      size = length-set c.loop-number.status.items number (Finished c.args.ring) ∙ inv.size;
      marked =
          subst (λ ns. AreMarked ns c.args.ring c.args.status.now.items
          (slice_set c.loop-number.status.items number (Finished c.args.ring))) (sym more)
          (one_marked (take c.loop-number.number-index c.args.numbers.now) c.args.ring c.args.status.now.items c.loop-number.status.items
          number
          small inv.marked);
      order =
          c.in_ok-push.ensures.items ∙ ap (λ o. o ++ number ∷ []) inv.order
          ∙ append_assoc c.args.order.now.items (take c.loop-number.number-index c.args.numbers.now) (number ∷ [])
          ∙ ap (λ ns. c.args.order.now.items ++ ns) (sym more);
    }
