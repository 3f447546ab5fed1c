use Rattle.std.proofs.Common.{rules, sym, subst}
use Rattle.sm_uri.proofs.UriCuts.{not_none}
use Rattle.sm_uri.proofs.UriQueries.{QueryTaken, query_failed, query_left, query_more, no_more}
use Rattle.sm_uri.proofs.query.read_query.Goals as goal

pub literal_at-requires-text-text : goal.literal_at-requires-text-text
literal_at-requires-text-text c = λ u. c.literals.invariant.utf8

pub returns-in-Err : goal.returns-in-Err
returns-in-Err c =
    query_failed c.args.text.now c.literals.literals.items c.literals.rest.now c.in-Err.stop c.literals.invariant.taken c.in-Err.ensures

pub returns-in-None : goal.returns-in-None
returns-in-None c =
    let read = c.in-Ok.read in
    query_left c.args.text.now c.literals.literals.items c.literals.rest.now read.behind.now c.literals.invariant.taken
    (no_more read.literal c.literals.rest.now read.behind.now c.in-Ok.ensures
    (not_none read.behind.now c.is_empty.result c.is_empty.ensures c.if-is_empty.false) c.in-None.ensures)

pub literals-preserved : goal.literals-preserved
literals-preserved c = record {
  utf8 = search rules;
  taken =
      subst (λ ls. QueryTaken c.args.text.now ls c.in-Some.rest.now) (sym c.in_ok-push.ensures.items)
      (query_more c.args.text.now c.literals.literals.items c.in-Ok.read.literal c.literals.rest.now c.in-Ok.read.behind.now
      c.in-Some.rest.now c.literals.invariant.taken c.in-Ok.ensures c.in-Some.ensures);
}
