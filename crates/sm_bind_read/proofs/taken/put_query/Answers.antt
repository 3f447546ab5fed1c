use Rattle.std.proofs.Common.{ap, [], ◌∙◌}
use Rattle.std.specs.Prelude.{◌||◌}
use Rattle.std.specs.List.{cons_option}
use Rattle.std.specs.Str.{bytes_eq}
use Rattle.sm_bind.specs.Roles.{is_among}
use Rattle.sm_bind_read.specs.steps.Taken.{has_text}
use Rattle.sm_bind_read.proofs.KeysTaken.{or_none}
use Rattle.sm_bind_read.proofs.taken.put_query.Goals as goal

pub returns-in_ok-put_key-in-Some : goal.returns-in_ok-put_key-in-Some
returns-in_ok-put_key-in-Some c = λ key.
    c.in_ok-put_key-in-Some.ensures key ∙ ap (λ z. has_text c.args.keys.now key || z) (or_none (bytes_eq key c.in-Some.name.now))
    ∙ ap (λ o. has_text c.args.keys.now key || is_among (cons_option o []) key) c.in-Some.ensures

pub returns-in-None : goal.returns-in-None
returns-in-None c = λ key.
    or_none (has_text c.args.keys.now key) ∙ ap (λ o. has_text c.args.keys.now key || is_among (cons_option o []) key) c.in-None.ensures
