use Rattle.std.proofs.Common.{◌≡◌, Some, None, subst, sym}
use Rattle.sm_tree.specs.View.{node_of}
use Rattle.sm_model.specs.GraphView.{maps_of}
use Rattle.sm_model.specs.Reaching.{id_of_number}
use Rattle.sm_shapes.specs.AnyStore.{any_texts}
use Rattle.sm_rules.specs.RuleEvents.{Puts, rule_event}
use Rattle.sm_rules.specs.declared.rule.Rule.TheVariants.{TraitValue}
use Rattle.sm_rules.specs.NodeChecks.{IsChecked}
use Rattle.sm_value_rules.specs.steps.Nodes.{TellsFaults, TellsRow}
use Rattle.sm_value_rules.specs.steps.Valuing.{IsWantedTrait}
use Rattle.sm_value_rules.proofs.NodesTold.{faults_told}
use Rattle.sm_value_rules.proofs.ValuesTold.{faultless_put, faulty_put, wanted}
use Rattle.sm_value_rules.proofs.values.put_value.Goals as goal

pub first_fault-requires-clause-there : goal.first_fault-requires-clause-there
first_fault-requires-clause-there c =
    c.requires.nodes.there c.args.root
    (c.requires.nodes.judged c.args.root
    (wanted c.args.graph.now c.args.number c.args.root c.args.pair.now c.requires.number c.requires.root c.requires.named c.requires.judged
    c.requires.stands))

pub returns-in_ok-put_event-in-Some-clause-told : goal.returns-in_ok-put_event-in-Some-clause-told
returns-in_ok-put_event-in-Some-clause-told c =
    let g = c.args.graph.now in
    let k = c.args.root in
    let t = c.args.pair.now in
    let n = node_of t.1 in
    let nodes = c.args.nodes.now in
    let same = c.requires.named in
    let kind = c.in-Some.field-0 in
    let checked = subst (IsChecked (maps_of g)) (sym same) c.requires.judged.1 in
    let is = wanted g c.args.number k t c.requires.number c.requires.root same c.requires.judged c.requires.stands in
    let told = subst (TellsRow nodes.tabled k n) c.in-Some.is c.in_ok-found.ensures.told in
    faulty_put (maps_of g) (id_of_number g c.args.number) t c.requires.judged.0 kind
    (subst (λ root. TellsFaults (maps_of g) root n (Some kind)) same
    (faults_told g (IsWantedTrait g) nodes.tabled (any_texts nodes.patterns) c.requires.nodes k is checked n (Some kind) told))
    c.args.events.now.items c.put_event.new.events.items
    (subst (λ w. Puts (λ e. e ≡ rule_event TraitValue (id_of_number g c.args.number) w) c.args.events.now.items
    c.put_event.new.events.items) c.as_str.ensures.bytes c.in_ok-put_event-in-Some.ensures)

pub returns-in-None-clause-told : goal.returns-in-None-clause-told
returns-in-None-clause-told c =
    let g = c.args.graph.now in
    let t = c.args.pair.now in
    let n = node_of t.1 in
    let nodes = c.args.nodes.now in
    let same = c.requires.named in
    let checked = subst (IsChecked (maps_of g)) (sym same) c.requires.judged.1 in
    let is = wanted g c.args.number c.args.root t c.requires.number c.requires.root same c.requires.judged c.requires.stands in
    let told = subst (TellsRow nodes.tabled c.args.root n) c.in-None.is c.in_ok-found.ensures.told in
    faultless_put (maps_of g) (id_of_number g c.args.number) t
    (subst (λ root. TellsFaults (maps_of g) root n None) same
    (faults_told g (IsWantedTrait g) nodes.tabled (any_texts nodes.patterns) c.requires.nodes c.args.root is checked n None told))
    c.args.events.now.items
