use Rattle.sm_idl.specs.steps.ReaderView.{left}
use Rattle.sm_idl.specs.steps.HomeView.{home_of_file}
use Rattle.sm_idl.specs.steps.Firm.{HeadIs}
use Rattle.sm_idl.proofs.NodeRows.{refused}
use Rattle.std.proofs.Common.{sym, subst, rules}
use Rattle.sm_model.specs.Formed.{stated_names}
use Rattle.sm_model.specs.SaidView.{member_view, member_statements_view}
use Rattle.sm_idl.specs.steps.Classes.{MemberStart}
use Rattle.sm_idl.specs.steps.Names.{Remembers}
use Rattle.sm_idl.proofs.NodeRows.{none_seen}
use Rattle.sm_idl.proofs.MemberRows.{members_none, members_more, members_seen, members_fewer, members_end, members_stop}
use Rattle.sm_idl.proofs.reader.Reader.entries.Goals as goal

pub loop-alloc-init : goal.loop-alloc-init
loop-alloc-init c = record {
  row = members_none (home_of_file c.args.home.now) c.args.kind c.new-members.result.items (left c.args.self.now)
      c.new-members.ensures.items;
  seen = subst (λ l. Remembers c.new-seen.result (stated_names (member_statements_view l))) (sym c.new-members.ensures.items)
      (none_seen c.new-seen.result (search rules));
}

pub loop-alloc-smaller : goal.loop-alloc-smaller
loop-alloc-smaller c = let before = member_statements_view c.loop-alloc.members.items in
    members_fewer (home_of_file c.args.home.now) c.args.kind before (member_view c.in-Ok.member) (left c.loop-alloc.self)
    (left c.entry.new.self) (c.in-Ok.ensures.reads before c.loop-alloc.invariant.seen)

pub loop-alloc-preserved : goal.loop-alloc-preserved
loop-alloc-preserved c = let before = member_statements_view c.loop-alloc.members.items in
    record {
      row = members_more (home_of_file c.args.home.now) c.args.kind c.loop-alloc.members.items c.push.new.self.items c.in-Ok.member
          (left c.args.self.now) (left c.loop-alloc.self) (left c.entry.new.self) c.in-Ok-push.ensures.items c.loop-alloc.invariant.row
          (c.in-Ok.ensures.reads before c.loop-alloc.invariant.seen);
      seen = members_seen (home_of_file c.args.home.now) c.args.kind c.entry.new.seen c.loop-alloc.members.items c.push.new.self.items
          c.in-Ok.member c.in-Ok-push.ensures.items (c.in-Ok.ensures.seen before c.loop-alloc.invariant.seen);
    }

pub returns-in-Err : goal.returns-in-Err
returns-in-Err c = let before = member_statements_view c.loop-alloc.members.items in
    members_stop (home_of_file c.args.home.now) c.args.kind c.loop-alloc.members.items (left c.args.self.now) (left c.loop-alloc.self)
    (left c.entry.new.self) c.in-Err.stop c.loop-alloc.invariant.row (c.is_at_member.ensures.0 c.loop-alloc-test.true)
    (c.in-Err.ensures.reads before c.loop-alloc.invariant.seen)

pub returns : goal.returns
returns c =
    members_end (home_of_file c.args.home.now) c.args.kind c.loop-alloc.members.items (left c.args.self.now) (left c.loop-alloc.self)
    c.loop-alloc.invariant.row (refused c.is_at_member.result (HeadIs MemberStart (left c.loop-alloc.self)) c.is_at_member.ensures
    c.loop-alloc-test.false)
