use Rattle.std.proofs.Common.{◌<◌, ap, length, subst, sym, ◌∙◌}
use Rattle.sm_model.specs.GraphView.{maps_of}
use Rattle.sm_model.specs.Reaching.{id_of_number}
use Rattle.sm_model.specs.Relations.{IsEntryText}
use Rattle.sm_model.specs.Joins.{Joins}
use Rattle.sm_compile.proofs.LookedUp.{stands_is}
use Rattle.sm_trait_rules.specs.steps.Conflicting.{HasText, IsExcludedAt, IsGreaterOfAny, conflicts_under}
use Rattle.sm_trait_rules.proofs.ConflictsTold.{nothing_taken}
use Rattle.sm_trait_rules.proofs.conflicts.take_of_trait.Goals as goal

pub returns-in_ok-take_shorter-in-Some : goal.returns-in_ok-take_shorter-in-Some
returns-in_ok-take_shorter-in-Some c =
    let g = c.args.graph.now in
    let name = c.args.name.now in
    let found = c.in-Some.found in
    let excluded = c.index-sets-found.result in
    let stands = stands_is g 0 found name c.in-Some.ensures in
    let within : found < length c.args.sets.now = subst (λ n. found < n) (sym c.requires.sets.whole) stands.0 in
    let here = subst (IsExcludedAt g found) (sym c.index-sets-found.is) (c.requires.sets.each found excluded within) in
    subst (λ ns. Joins (HasText c.args.told.now.texts) (IsGreaterOfAny (maps_of g) (id_of_number g c.args.number) name
    (λ o. IsEntryText o ns)) (HasText c.take_shorter.new.told.texts)) (here.entries ∙ ap (conflicts_under (maps_of g)) stands.1)
    c.in_ok-take_shorter-in-Some.ensures

pub returns-in-None : goal.returns-in-None
returns-in-None c =
    nothing_taken (maps_of c.args.graph.now) (id_of_number c.args.graph.now c.args.number) c.args.name.now c.in-None.ensures
    (HasText c.args.told.now.texts)
