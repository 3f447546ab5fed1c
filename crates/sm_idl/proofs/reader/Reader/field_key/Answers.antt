use Rattle.sm_model.specs.Properties.{property_forms}
use Rattle.sm_idl.specs.Nodes.{pair_names}
use Rattle.sm_idl.specs.Bodies.{FieldNamed}
use Rattle.sm_idl.proofs.Choosing.{token_stuck}
use Rattle.sm_idl.proofs.reader.Reader.field_key.Goals as goal

pub returns-then-new-clause-seen : goal.returns-then-new-clause-seen
returns-then-new-clause-seen c = λ before h.
    (c.in-Ok.ensures (pair_names before) h).1

pub returns-in-Ok-None-clause-reads : goal.returns-in-Ok-None-clause-reads
returns-in-Ok-None-clause-reads c = λ before h.
    let none = rw c.in-Ok-None.field-0-is at c.in-Ok-None.ensures in
    token_stuck (FieldNamed (property_forms c.args.kind) before) _ _ _ c.in-Some.ensures.2 (λ f m. none f.0 m.0)
