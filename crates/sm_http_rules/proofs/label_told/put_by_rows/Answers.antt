use Rattle.std.proofs.Common.{◌≡◌, ℕ, List, Option, subst}
use Rattle.std.specs.FinMap as fin
use Rattle.sm_model.specs.Graphs.{text_cmp}
use Rattle.sm_model.specs.Reaching.{id_of_number}
use Rattle.sm_rules.specs.RuleEvents.{Puts}
use Rattle.sm_passes.specs.Firsts.{number_in}
use Rattle.sm_passes.specs.Putting.{ToldOf}
use Rattle.sm_passes.proofs.EventsPut.{puts_both}
use Rattle.sm_http_rules.specs.steps.Labels.{ToldLabel, ToldMember}
use Rattle.sm_http_rules.proofs.label_told.put_by_rows.Goals as goal

pub put_bound-requires-clause-members : goal.put_bound-requires-clause-members
put_bound-requires-clause-members c = c.requires.members

pub returns : goal.returns
returns c =
    let g = c.args.graph.now in
    let op = id_of_number g c.args.operation in
    let by_member : number_in c.in_ok-by_member.by_member ≡ (λ q. fin.find text_cmp q c.args.bound.now) =
    λ i q. c.in_ok-by_member.ensures q i in
    let by_label : number_in c.in_ok-by_label.by_label ≡ (λ q. fin.find text_cmp q c.args.labels.now) =
    λ i q. c.in_ok-by_label.ensures q i in
    let by_greedy : number_in c.in_ok-by_greedy.by_greedy ≡ (λ q. fin.find text_cmp q c.args.greedy.now) =
    λ i q. c.in_ok-by_greedy.ensures q i in
    puts_both (ToldOf (ToldLabel op (λ q. fin.find text_cmp q c.args.bound.now)) c.args.labels.now)
    (ToldOf (ToldMember g op (λ q. fin.find text_cmp q c.args.labels.now) (λ q. fin.find text_cmp q c.args.greedy.now)) c.args.bound.now)
    c.args.events.now.items c.put_unbound.new.events.items c.put_bound.new.events.items
    (subst (λ (f : List ℕ → Option ℕ). Puts (ToldOf (ToldLabel op f) c.args.labels.now) c.args.events.now.items
    c.put_unbound.new.events.items)
    by_member c.in_ok-put_unbound.ensures)
    (subst (λ (f : List ℕ → Option ℕ). Puts (ToldOf (ToldMember g op f (λ q. fin.find text_cmp q c.args.greedy.now)) c.args.bound.now)
    c.put_unbound.new.events.items c.put_bound.new.events.items) by_label
    (subst (λ (f : List ℕ → Option ℕ). Puts (ToldOf (ToldMember g op (number_in c.in_ok-by_label.by_label) f) c.args.bound.now)
    c.put_unbound.new.events.items c.put_bound.new.events.items) by_greedy c.in_ok-put_bound.ensures))
