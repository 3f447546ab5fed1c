use Rattle.std.proofs.Common.{◌∙◌}
use Rattle.std.proofs.lemmas.Map.Text.{btree_map_updates_str}
use Rattle.sm_compile.proofs.TextsPlaced.{text_put}
use Rattle.sm_compile.proofs.patterns.put_first.Goals as goal

pub returns : goal.returns
returns c =
    text_put c.args.graph.now c.args.marks.now c.args.carried.now (record { firsts = c.push.new.self; places = c.insert.new.self })
    c.args.first c.len.result (c.len.ensures ∙ c.args.carried.now.firsts.ok.0)
    c.in_ok-push.ensures.items
    (btree_map_updates_str c.args.first.text.now c.args.carried.now.places c.insert.new.self _ c.in_ok-insert.ensures.updates)
    c.requires.before c.requires.number c.requires.carries c.requires.fresh
