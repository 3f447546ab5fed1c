use Rattle.std.proofs.Common.{◌≡◌, false, ap, ◌∙◌, rules}
use Rattle.std.specs.Prelude.{◌||◌}
use Rattle.sm_bind.specs.BoundView.{bound_of}
use Rattle.sm_bind.specs.Roles.{is_among, query_names}
use Rattle.sm_bind_read.specs.steps.Taken.{has_text, queries_of}
use Rattle.sm_bind_read.proofs.taken.taken_keys.Goals as goal

pub returns : goal.returns
returns c = λ key.
    let b = bound_of c.args.place.now in
    let none : has_text c.new-keys.result key ≡ false = search rules in
    c.in_ok-put_queries.ensures key ∙ ap (λ ks. has_text c.put_literals.new.keys key || is_among (queries_of b ks) key) c.members.ensures
    ∙ ap (λ z. z || is_among (query_names b) key)
    (c.in_ok-put_literals.ensures key ∙ ap (λ z. z || is_among b.literals key) none)
