use Rattle.std.proofs.Common.{◌≡◌, Some, None, subst}
use Rattle.sm_tree.specs.View.{node_of}
use Rattle.sm_model.specs.GraphView.{maps_of}
use Rattle.sm_model.specs.Reaching.{id_of_number}
use Rattle.sm_shapes.specs.AnyStore.{any_texts}
use Rattle.sm_rules.specs.RuleEvents.{Puts, rule_event}
use Rattle.sm_rules.specs.declared.rule.Rule.TheVariants.{DefaultValue}
use Rattle.sm_value_rules.specs.steps.Defaulting.{IsWantedTarget}
use Rattle.sm_value_rules.specs.steps.Nodes.{TellsRow}
use Rattle.sm_value_rules.proofs.DefaultsTold.{faultless_put, kind_put, wanted}
use Rattle.sm_value_rules.proofs.NodesTold.{faults_told}
use Rattle.sm_value_rules.proofs.defaults.put_default.Goals as goal

pub first_fault-requires-clause-there : goal.first_fault-requires-clause-there
first_fault-requires-clause-there c =
    let k = c.args.default.target in
    c.requires.nodes.there k
    (c.requires.nodes.judged k
    (wanted c.args.graph.now c.args.member k (node_of c.args.default.tree.now) c.requires.member c.requires.target c.requires.default))

pub returns-in_ok-put_event-in-Some-clause-told : goal.returns-in_ok-put_event-in-Some-clause-told
returns-in_ok-put_event-in-Some-clause-told c =
    let g = c.args.graph.now in
    let k = c.args.default.target in
    let n = node_of c.args.default.tree.now in
    let is = c.requires.default in
    let nodes = c.args.nodes.now in
    let id = id_of_number g c.args.member in
    let told = subst (TellsRow nodes.tabled k n) c.in-Some.is c.in_ok-kind.ensures.told in
    kind_put (maps_of g) id (id_of_number g k) n is c.in-Some.kind
    (faults_told g (IsWantedTarget g) nodes.tabled (any_texts nodes.patterns) c.requires.nodes k
    (wanted g c.args.member k n c.requires.member c.requires.target is) is.leads.1 n (Some c.in-Some.kind) told)
    c.args.events.now.items c.put_event.new.events.items
    (subst (λ w. Puts (λ e. e ≡ rule_event DefaultValue id w) c.args.events.now.items c.put_event.new.events.items) c.word.ensures
    c.in_ok-put_event-in-Some.ensures)

pub returns-in-None-clause-told : goal.returns-in-None-clause-told
returns-in-None-clause-told c =
    let g = c.args.graph.now in
    let k = c.args.default.target in
    let n = node_of c.args.default.tree.now in
    let is = c.requires.default in
    let nodes = c.args.nodes.now in
    let told = subst (TellsRow nodes.tabled k n) c.in-None.is c.in_ok-kind.ensures.told in
    faultless_put (maps_of g) (id_of_number g c.args.member) (id_of_number g k) n is
    (faults_told g (IsWantedTarget g) nodes.tabled (any_texts nodes.patterns) c.requires.nodes k
    (wanted g c.args.member k n c.requires.member c.requires.target is) is.leads.1 n None told)
    c.args.events.now.items
