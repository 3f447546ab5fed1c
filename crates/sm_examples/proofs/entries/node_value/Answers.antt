use Rattle.std.proofs.Common.{◌≡◌, subst, sym}
use Rattle.std.specs.Prelude.{IfOk}
use Rattle.std.specs.Option.{option_map}
use Rattle.sm_tree.specs.View.{node_of}
use Rattle.sm_shapes.specs.ValueView.{val_of}
use Rattle.sm_messages.specs.service.ServiceView.{service_data}
use Rattle.sm_examples.specs.Entries.{node_value}
use Rattle.sm_examples.proofs.EntriesRead.{none_told, value_read}
use Rattle.sm_examples.proofs.entries.node_value.Goals.{in-Fault, in-NoMemory}
use Rattle.sm_examples.proofs.entries.node_value.Goals as goal

pub returns-in-Ok-clause-value : goal.returns-in-Ok-clause-value
returns-in-Ok-clause-value g c =
    value_read (service_data c.args.service.now) g.P.Patterns.test c.requires.servable c.requires.built.defaults c.args.shape c.requires.shape
    (node_of c.args.node.now) (val_of c.in-Ok.value) c.in-Ok.ensures.decoded

pub returns-after-refusal-clause-value : goal.returns-after-refusal-clause-value
returns-after-refusal-clause-value g c =
    let s = service_data c.args.service.now in
    let test = g.P.Patterns.test in
    let n = node_of c.args.node.now in elim c.match-refusal.branch [
      | in-Fault w ↦
          subst (λ z. IfOk z (λ value. option_map val_of value ≡ node_value s test c.args.shape n)) (sym w.result-is)
          (none_told s test c.args.shape n c.in-Err.refusal w.in-Fault.field-0 w.in-Fault.is c.in-Err.ensures.decoded)
      | in-NoMemory w ↦
          subst (λ z. IfOk z (λ value. option_map val_of value ≡ node_value s test c.args.shape n)) (sym w.result-is) tt
    ]
