use Rattle.std.proofs.Common.{get_or, subst, sym, ◌↔◌, ℕ}
use Rattle.std.specs.List.{Contains}
use Rattle.std.proofs.lemmas.List.Elements.{Contains-get_or}
use Rattle.sm_model.specs.Reaching.{IsMarked}
use Rattle.sm_http_rules.proofs.RoutesTold.{routes_put}
use Rattle.sm_http_rules.proofs.routes.RoutesOfServices.put_of_services.Goals as goal

pub returns : goal.returns
returns c =
    let g = c.args.graph.now in
    let ks = c.args.services.now in
    let closure = c.args.closure.now in
    routes_put g c.args.self.now.firsts.now c.requires.knows ks c.requires.own closure.marks.items c.requires.closure.inside
    c.numbers.result.now
    (subst (λ ns. (k : ℕ) → Contains ns k ↔ IsMarked closure.marks.items k) (sym c.numbers.ensures) c.requires.closure.found)
    (get_or ks 0 0) (Contains-get_or ks 0 0 c.requires.some) c.args.events.now.items c.put_inside.new.events.items
    c.in_ok-put_inside.ensures
