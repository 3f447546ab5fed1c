use Rattle.std.proofs.Common.{◌≡◌, ◌<◌, [], get_or, length, subst, sym, ◌∙◌, arith}
use Rattle.sm_model.specs.GraphView.{entries_of, maps_of}
use Rattle.sm_model.specs.Reaching.{id_of_number}
use Rattle.std.proofs.lemmas.List.{get_or_default}
use Rattle.sm_rules.specs.RuleEvents.{Puts}
use Rattle.sm_passes.specs.Putting.{Below, ToldOf}
use Rattle.sm_passes.proofs.EventsPut.{puts_begun, puts_next}
use Rattle.sm_trait_rules.specs.steps.Placing.{AreOfText, ToldOfUse, selector_under}
use Rattle.sm_trait_rules.proofs.PlacesTold.{of_text, rows_put}
use Rattle.sm_trait_rules.proofs.places.put_by_texts.Goals as goal

pub loop-number-init : goal.loop-number-init
loop-number-init c = record {
  within = omega arith;
  told = puts_begun (λ first. ToldOf (ToldOfUse c.args.graph.now) (get_or c.args.rows.now first [])) c.args.events.now.items;
}

pub put_shared-requires-clause-uses : goal.put_shared-requires-clause-uses
put_shared-requires-clause-uses c =
    let g = c.args.graph.now in
    let k = c.loop-number.number in
    let h = c.requires.rows in
    let within : k < length c.args.rows.now = omega (arith, c.loop-number-test.true, c.count-number-end.ensures, h.2.whole) in
    subst (AreOfText g (selector_under (maps_of g) (id_of_number g k)))
    (sym (c.as_slice.ensures ∙ c.index-rows-number.is ∙ get_or_default c.args.rows.now k _ [] within))
    (of_text g h.0 c.args.rows.now h.1 h.2 k)

pub loop-number-preserved : goal.loop-number-preserved
loop-number-preserved c =
    let g = c.args.graph.now in
    let at = c.loop-number in
    let h = c.requires.rows in
    let within : at.number < length c.args.rows.now = omega (arith, c.loop-number-test.true, c.count-number-end.ensures, h.2.whole) in
    let row : c.as_slice.result.now ≡ get_or c.args.rows.now at.number [] =
    c.as_slice.ensures ∙ c.index-rows-number.is ∙ get_or_default c.args.rows.now at.number _ [] within in
    record {
      within = omega (arith, c.loop-number-test.true, c.count-number-end.ensures);
      told = puts_next (λ first. ToldOf (ToldOfUse g) (get_or c.args.rows.now first [])) at.number c.args.events.now.items at.events.items
          c.put_shared.new.events.items at.invariant.told
          (subst (λ us. Puts (ToldOf (ToldOfUse g) us) at.events.items c.put_shared.new.events.items) row c.in_ok-put_shared.ensures);
    }

pub returns : goal.returns
returns c =
    let g = c.args.graph.now in
    let at = c.loop-number in
    let h = c.requires.rows in
    let all : at.number ≡ length (entries_of g) =
    omega (arith, c.loop-number-test.false, c.count-number-end.ensures, at.invariant.within) in
    rows_put g h.0 c.args.rows.now h.1 h.2 c.args.events.now.items at.events.items
    (subst (λ n. Puts (Below (λ first. ToldOf (ToldOfUse g) (get_or c.args.rows.now first [])) n) c.args.events.now.items at.events.items)
    all at.invariant.told)
