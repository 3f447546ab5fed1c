use Rattle.std.proofs.Common.{◌≡◌, ◌+◌, [], get_or, drop, map, sym, ap, ◌∙◌}
use Rattle.std.proofs.lemmas.List.{drop_all}
use Rattle.sm_model.specs.GraphView.{maps_of}
use Rattle.sm_model.specs.Reaching.{id_of_number}
use Rattle.sm_passes.proofs.EntriesThere.{numbers_behind}
use Rattle.sm_trait_rules.proofs.Singles.{first_seen, members_from, second_seen, seen_last, twice_from}
use Rattle.sm_trait_rules.proofs.single.is_carried_twice.Goals as goal

pub loop-member-preserved : goal.loop-member-preserved
loop-member-preserved c =
    let g = c.args.graph.now in
    let name = c.args.name.now in
    let ms = c.args.members.now in
    let i = c.loop-member.member-index in
    let rest = map (id_of_number g) (drop (i + 1) ms) in
    record {
      numbers = numbers_behind g ms i c.loop-member-test.true c.loop-member.invariant.numbers;
      told = ap (λ s. twice_from (maps_of g) name s rest) c.in-Some.ensures.1
          ∙ first_seen (maps_of g) name c.loop-member.seen (id_of_number g (get_or ms i 0)) rest c.in-Some.ensures.0
          ∙ members_from g name c.loop-member.seen ms i c.loop-member-test.true ∙ c.loop-member.invariant.told;
    }

pub returns-in-None : goal.returns-in-None
returns-in-None c =
    let g = c.args.graph.now in
    let ms = c.args.members.now in
    let i = c.loop-member.member-index in
    sym (second_seen (maps_of g) c.args.name.now c.loop-member.seen (id_of_number g (get_or ms i 0))
    (map (id_of_number g) (drop (i + 1) ms)) c.in-None.ensures)
    ∙ members_from g c.args.name.now c.loop-member.seen ms i c.loop-member-test.true ∙ c.loop-member.invariant.told

pub returns : goal.returns
returns c =
    let g = c.args.graph.now in
    let name = c.args.name.now in
    let ended : drop c.loop-member.member-index c.args.members.now ≡ [] =
    drop_all c.loop-member.member-index c.args.members.now c.loop-member-test.false in
    sym (seen_last c.loop-member.seen)
    ∙ ap (λ ks. twice_from (maps_of g) name c.loop-member.seen (map (id_of_number g) ks)) (sym ended)
    ∙ c.loop-member.invariant.told
