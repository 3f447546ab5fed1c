use Rattle.std.proofs.Common.{◌≡◌, ◌++◌, [], sym, subst, arith, rules}
use Rattle.std.proofs.lemmas.Grind.{common_steps}
use Rattle.std.proofs.lemmas.List.{nil_from_length}
use Rattle.std.specs.Vec.Iter.{into_iter_items}
use Rattle.sm_merge.specs.steps.EffectiveTables.{by_members}
use Rattle.sm_merge.specs.steps.Filling.{AreFirstRows}
use Rattle.sm_groups.specs.Groups.{groups_view}
use Rattle.sm_merge.specs.steps.MemberLists.{ComeToFirsts, joined_rows}
use Rattle.sm_merge.specs.steps.Tables.{ComeToRows}
use Rattle.sm_merge.specs.declared.effective.MemberTraits.{MemberTraits}
use Rattle.sm_merge.proofs.TablesMade.{rows_put}
use Rattle.sm_merge.proofs.effective_members.first_lists.Goals as goal

pub loop-group-init : goal.loop-group-init
loop-group-init c = λ more h.
    subst (λ ls. ComeToRows (λ vs ts. AreFirstRows (joined_rows vs) ts) (groups_view (into_iter_items c.into_iter-group-iterator.result))
    (by_members ls ++ more)) (sym c.in_ok-lists.ensures.items) h

pub returns : goal.returns
returns c =
    let all : into_iter_items c.into_iter-group-iterator.result ≡ c.args.groups.items = search rules in
    let ended : into_iter_items c.loop-group.group-iterator ≡ [] =
    first_of (grind (arith, common_steps), search (rules, nil_from_length)) in
    subst (λ gs. ComeToFirsts (groups_view gs) c.loop-group.lists.items) all
    (rows_put (λ vs ts. AreFirstRows (joined_rows vs) ts) (λ (m : MemberTraits). (m.member, m.traits.items))
    (into_iter_items c.into_iter-group-iterator.result) (into_iter_items c.loop-group.group-iterator) c.loop-group.lists.items ended
    c.loop-group.invariant)
