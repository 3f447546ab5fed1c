use Rattle.std.proofs.Common.{◌≡◌, ◌∙◌, ap, rules, sym}
use Rattle.sm_shapes.specs.ValueView.{each_field_view, val_of}
use Rattle.sm_shapes.specs.Values.{fields_of, structure_val}
use Rattle.sm_shapes.specs.declared.values.Value.{the_lemmas}
use Rattle.sm_messages.specs.TreeBodies.{fields_in}
use Rattle.sm_rpc.specs.Messages.{has_nothing}
use Rattle.sm_rpc.proofs.RpcWritten.{filled}
use Rattle.sm_rpc.proofs.writing.has_nothing.Goals as goal

pub returns-in-len1-up : goal.returns-in-len1-up
returns-in-len1-up c =
    let seen : val_of c.args.value.now ≡ structure_val (fields_of (each_field_view c.as_slice.result.now)) = search (rules, the_lemmas) in
    filled c.as_slice.result.now c.in-len1-up.len_at_least ∙ ap (λ v. has_nothing (fields_in v)) (sym seen)
