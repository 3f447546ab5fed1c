use Rattle.std.proofs.Common.{◌≡◌, ◌++◌, ◌∷◌, [], true, ap, sym, ◌∙◌, bytes_eq, rules}
use Rattle.sm_groups.specs.Groups.{grouped, groups_view, resumed}
use Rattle.sm_groups.proofs.GroupsMade.{taken}
use Rattle.sm_groups.proofs.groups.continued.Goals as goal

pub returns-then-eq : goal.returns-then-eq
returns-then-eq g c = λ rest.
    let group = c.args.group in
    let before = groups_view c.args.groups.now.items in
    let pushed : c.push.new.self.items ≡ group.more.items ++ c.args.value ∷ [] = search rules in
    let same : bytes_eq group.key c.args.key ≡ true =
    sym (c.eq.ensures ∙ (λ i. bytes_eq (c.as_str.ensures.bytes i) (c.as_str-2.ensures.bytes i))) ∙ c.if-eq.true in
    ap (λ vs. before ++ resumed group.key (group.first ∷ vs) (grouped rest)) pushed
    ∙ ap (λ l. before ++ l) (taken group.key (group.first ∷ group.more.items) (c.args.key, c.args.value) (grouped rest) same)
