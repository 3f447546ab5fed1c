use Rattle.std.proofs.Common.{None, ap, subst, sym, ◌≡◌, ◌∙◌}
use Rattle.std.specs.FinMap.Entries.{find}
use Rattle.sm_model.specs.Graphs.{text_cmp}
use Rattle.sm_passes.specs.Firsts.{number_in}
use Rattle.sm_name_rules.specs.steps.NameTwins.{AreEarlierIn, AreNames, AreOwnRows, earlier_in}
use Rattle.sm_name_rules.proofs.NamesNumbered.{are_names}
use Rattle.sm_name_rules.proofs.NamesTold.{names_all}
use Rattle.sm_name_rules.proofs.names.put_names.Goals as goal

pub earlier_numbers-requires : goal.earlier_numbers-requires
earlier_numbers-requires c = subst (AreOwnRows c.args.graph.now) (sym c.as_slice-2.ensures.value) c.in_ok-rows.ensures

pub put_by_closures-requires-clause-knows : goal.put_by_closures-requires-clause-knows
put_by_closures-requires-clause-knows c =
    let g = c.args.graph.now in
    let first = number_in c.in_ok-firsts.firsts in (
      subst (λ es. AreNames g first (earlier_in es)) (sym c.as_slice-3.ensures.value)
          (are_names g c.in_ok-rows.rows.items c.in_ok-rows.ensures first
          (λ key. c.in_ok-firsts.ensures key ∙ ap (find text_cmp key) c.as_slice.ensures.value) c.in_ok-earlier.earlier.items
          (subst (λ rs. AreEarlierIn first rs c.in_ok-earlier.earlier.items) c.as_slice-2.ensures.value c.in_ok-earlier.ensures)),
      λ apart k. subst (λ es. earlier_in es k ≡ None) (c.as_slice-4.ensures.value ∙ sym c.as_slice-3.ensures.value)
          (c.are_apart.ensures apart k),
    )

pub returns : goal.returns
returns c = names_all c.args.graph.now c.args.events.now.items c.put_by_closures.new.events.items c.in_ok-put_by_closures.ensures
