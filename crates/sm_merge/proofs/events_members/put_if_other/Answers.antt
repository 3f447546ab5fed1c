use Rattle.std.proofs.Common.{sym, subst, ◌∙◌}
use Rattle.std.specs.Prelude.{codes}
use Rattle.sm_model.specs.Graphs.{member_id}
use Rattle.sm_merge.specs.Merged.{model_event}
use Rattle.sm_merge.specs.steps.AllEvents.{member_event}
use Rattle.sm_merge.specs.steps.EventLists.{TellsMore}
use Rattle.sm_merge.specs.steps.PlaceEvents.{first_in, is_other}
use Rattle.sm_merge.proofs.EventsTold.{put_more}
use Rattle.sm_merge.proofs.OthersPut.{not_false, not_true, nothing_more, other_none, other_put}
use Rattle.sm_merge.proofs.events_members.put_if_other.Goals as goal

pub returns-then-is_first : goal.returns-then-is_first
returns-then-is_first c =
    subst (TellsMore c.args.events.now.items c.args.events.now.items)
    (sym (other_none c.args.shape.now (first_in c.args.firsts.now) (c.args.name.now, c.args.target.now)
    (not_true (is_other (first_in c.args.firsts.now c.args.name.now) c.args.target.now) (sym c.is_first.ensures ∙ c.if-is_first.true))))
    (nothing_more c.args.events.now.items)

pub returns : goal.returns
returns c =
    subst (TellsMore c.args.events.now.items c.push.new.self.items)
    (sym (other_put c.args.shape.now (first_in c.args.firsts.now) (c.args.name.now, c.args.target.now)
    (not_false (is_other (first_in c.args.firsts.now c.args.name.now) c.args.target.now) (sym c.is_first.ensures ∙ c.if-is_first.false))))
    (put_more c.args.events.now.items c.push.new.self.items c.in_ok-event.event
    (member_event (member_id c.args.shape.now c.args.name.now) c.args.target.now) c.in_ok-push.ensures.items
    (c.in_ok-event.ensures.told ∙ (λ i. model_event (c.in_ok-member.ensures i) (codes "Model.Member") (c.as_str.ensures i)))
    c.in_ok-event.ensures.severity)
