use Rattle.std.proofs.Common.{◌≡◌, ℕ, List, Some, None, cond, sym, ap, ◌∙◌, bytes_eq}
use Rattle.std.proofs.lemmas.Map.Text.{btree_map_updates_str}
use Rattle.sm_passes.specs.Firsts.{number_in}
use Rattle.sm_passes.proofs.EarlierRows.{none_after, seen_added, seen_kept, told_after}
use Rattle.sm_passes.proofs.earlier.put_row.Goals as goal

pub put_of-requires-clause-first : goal.put_of-requires-clause-first
put_of-requires-clause-first g c =
    c.requires.firsts c.args.row.now.0 c.in-Some.first
    (ap (number_in c.args.seen.now) (sym c.as_str-key.ensures.bytes) ∙ sym c.in-Some.ensures)

pub returns-in_ok-put_of-in-Some : goal.returns-in_ok-put_of-in-Some
returns-in_ok-put_of-in-Some g c =
    let there : number_in c.args.seen.now c.args.row.now.0 ≡ Some c.in-Some.first =
    ap (number_in c.args.seen.now) (sym c.as_str-key.ensures.bytes) ∙ sym c.in-Some.ensures in
    record {
      seen = seen_kept (number_in c.args.seen.now) c.args.row.now.0 c.args.row.now.1 c.in-Some.first there;
      told = told_after (g.F.OfFirst.tells c.args.rule.now c.args.graph.now) (number_in c.args.seen.now c.args.row.now.0) c.in-Some.first
          c.args.row.now.1 c.args.events.now.items c.put_of.new.events.items there c.in_ok-put_of-in-Some.ensures;
    }

pub returns-in_ok-insert-in-None : goal.returns-in_ok-insert-in-None
returns-in_ok-insert-in-None g c =
    let none : number_in c.args.seen.now c.args.row.now.0 ≡ None =
    ap (number_in c.args.seen.now) (sym c.as_str-key.ensures.bytes) ∙ sym c.in-None.ensures in
    record {
      seen = seen_added (number_in c.args.seen.now) (number_in c.insert.new.self) c.args.row.now.0 c.args.row.now.1 none
          (λ q. btree_map_updates_str c.as_str-key.result.now c.args.seen.now c.insert.new.self _ c.in_ok-insert-in-None.ensures.updates q
          ∙ ap (λ (t : List ℕ). cond (bytes_eq t q) (Some c.args.row.now.1) (number_in c.args.seen.now q)) c.as_str-key.ensures.bytes);
      told = none_after (g.F.OfFirst.tells c.args.rule.now c.args.graph.now) (number_in c.args.seen.now c.args.row.now.0) c.args.row.now.1
          c.args.events.now.items none;
    }
