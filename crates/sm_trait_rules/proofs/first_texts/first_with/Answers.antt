use Rattle.std.proofs.Common.{sym}
use Rattle.std.proofs.lemmas.Map.Text.{btree_map_updates_str}
use Rattle.sm_passes.specs.Firsts.{number_in}
use Rattle.sm_trait_rules.proofs.FirstTexts.{seen_more}
use Rattle.sm_trait_rules.proofs.first_texts.first_with.Goals as goal

pub returns-in-Some-clause-first : goal.returns-in-Some-clause-first
returns-in-Some-clause-first c = c.requires.seen c.args.text.now c.in-Some.first (sym c.in-Some.ensures)

pub returns-in_ok-insert-in-None-clause-seen : goal.returns-in_ok-insert-in-None-clause-seen
returns-in_ok-insert-in-None-clause-seen c =
    seen_more c.args.graph.now (number_in c.args.seen.now) (number_in c.insert.new.self) c.args.text.now c.args.number c.requires.seen
    c.requires.number
    (λ q. btree_map_updates_str c.args.text.now c.args.seen.now c.insert.new.self _ c.in_ok-insert-in-None.ensures.updates q)
