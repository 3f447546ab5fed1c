use Rattle.std.proofs.Common.{◌≡◌, ◌+◌, ◌≤◌, ◌++◌, sym, subst, length}
use Rattle.std.specs.Prelude.{OnOk, IsOk, vec_len, vec_capacity}
use Rattle.sm_http.proofs.Printed.{written_parts}
use Rattle.sm_http.proofs.write.write_message.Goals as goal

pub returns-clause-written : goal.returns-clause-written
returns-clause-written c =
    subst (λ t. OnOk c.append_text.result (c.append_text.new.out.items ≡ c.args.out.now.items ++ t))
    (sym (written_parts c.args.message.now))
    c.append_text.ensures.written

pub returns-clause-succeeds : goal.returns-clause-succeeds
returns-clause-succeeds c =
    subst (λ t. vec_len c.args.out.now + length t ≤ vec_capacity c.args.out.now → IsOk c.append_text.result)
    (sym (written_parts c.args.message.now)) c.append_text.ensures.succeeds
