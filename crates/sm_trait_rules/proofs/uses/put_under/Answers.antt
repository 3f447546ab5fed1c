use Rattle.std.proofs.lemmas.Result.{on_ok_weaker}
use Rattle.sm_trait_rules.proofs.UsesPut.{put_given, put_nowhere}
use Rattle.sm_trait_rules.proofs.uses.put_under.Goals as goal

pub push_at-requires : goal.push_at-requires
push_at-requires c = c.requires c.in-Some.first c.in-Some.is

pub returns-in-Some-clause-uses : goal.returns-in-Some-clause-uses
returns-in-Some-clause-uses c =
    on_ok_weaker c.push_at.result
    (put_given c.args.rows.now.items c.push_at.new.rows.items c.in-Some.first (c.args.carrier, c.args.of) c.args.first c.in-Some.is)
    c.push_at.ensures.uses

pub returns-in-None-clause-uses : goal.returns-in-None-clause-uses
returns-in-None-clause-uses c = put_nowhere c.args.rows.now.items (c.args.carrier, c.args.of) c.args.first c.in-None.is
