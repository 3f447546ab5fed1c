use Rattle.std.proofs.Common.{Some, subst}
use Rattle.sm_tree.specs.View.{node_of}
use Rattle.sm_compile.specs.TraitNodes.{text_of}
use Rattle.sm_name_rules.specs.steps.Renaming.{IsOneGiven}
use Rattle.sm_name_rules.proofs.AlikeHeld.{more_none, more_push, one_number, pushed_there}
use Rattle.sm_name_rules.proofs.given_names.push_one.Goals as goal

pub returns-in_ok-push-in-Some-clause-more : goal.returns-in_ok-push-in-Some-clause-more
returns-in_ok-push-in-Some-clause-more c =
    let n = c.in-Some.number in
    more_push c.args.graph.now c.args.numbers.now.items c.push.new.self.items n
    (one_number c.args.graph.now c.args.names.now.inside.now c.requires.names.whole (text_of (Some (node_of c.args.tree.now))) n
    (subst (IsOneGiven c.args.graph.now c.args.names.now.inside.now (text_of (Some (node_of c.args.tree.now)))) c.in-Some.is
    c.in_ok-number.ensures)) c.in_ok-push-in-Some.ensures.items

pub returns-in_ok-push-in-Some-clause-one : goal.returns-in_ok-push-in-Some-clause-one
returns-in_ok-push-in-Some-clause-one c =
    let n = c.in-Some.number in (
      Some n,
      subst (IsOneGiven c.args.graph.now c.args.names.now.inside.now (text_of (Some (node_of c.args.tree.now)))) c.in-Some.is
          c.in_ok-number.ensures,
      pushed_there c.args.graph.now c.args.numbers.now.items c.push.new.self.items n c.in_ok-push-in-Some.ensures.items,
    )

pub returns-in-None-clause-more : goal.returns-in-None-clause-more
returns-in-None-clause-more c = more_none c.args.graph.now c.args.numbers.now.items
