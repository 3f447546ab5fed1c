use Rattle.std.proofs.Common.{ap, subst, ◌∙◌}
use Rattle.sm_cbor.specs.Heads.{Head}
use Rattle.sm_cbor.specs.steps.Descent.{number_of}
use Rattle.sm_cbor.proofs.Descending.{puts_unsigned, puts_negative}
use Rattle.sm_cbor.proofs.descent.Descent.put_leaf.Goals as goal

pub returns-in_ok-put_unsigned-in-Unsigned : goal.returns-in_ok-put_unsigned-in-Unsigned
returns-in_ok-put_unsigned-in-Unsigned g c =
    let bytes = c.args.self.now.rest.now in
    let behind = c.argument.new.self.rest.now in
    let value = c.in_ok-value-in-Unsigned.value in
    puts_unsigned g.N.Naming.named value c.args.name c.args.entries.now.items c.put_unsigned.new.entries.items bytes behind
    c.in_ok-put_unsigned-in-Unsigned.ensures
    (subst (λ m. Head m value bytes behind) (c.in-Some.ensures.1 ∙ ap number_of c.in-Unsigned.is) c.in_ok-value-in-Unsigned.ensures)

pub returns-in_ok-put_negative-in-Negative : goal.returns-in_ok-put_negative-in-Negative
returns-in_ok-put_negative-in-Negative g c =
    let bytes = c.args.self.now.rest.now in
    let behind = c.argument-in-Negative.new.self.rest.now in
    let value = c.in_ok-value-in-Negative.value in
    puts_negative g.N.Naming.named value c.args.name c.args.entries.now.items c.put_negative.new.entries.items bytes behind
    c.in_ok-put_negative-in-Negative.ensures
    (subst (λ m. Head m value bytes behind) (c.in-Some.ensures.1 ∙ ap number_of c.in-Negative.is) c.in_ok-value-in-Negative.ensures)
