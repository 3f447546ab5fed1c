use Rattle.std.proofs.Common.{subst, sym}
use Rattle.std.specs.Prelude.{◌↔◌, List, ℕ}
use Rattle.sm_http_rules.specs.steps.Shortest.{AreApart}
use Rattle.sm_http_rules.specs.steps.WireNames.{BeginsWithOne, prefixes_of}
use Rattle.sm_http_rules.proofs.WireNamesTold.{same_begun}
use Rattle.sm_http_rules.proofs.prefixes.put_begun.Goals as goal

pub put_each_begun-requires-clause-apart : goal.put_each_begun-requires-clause-apart
put_each_begun-requires-clause-apart c = subst AreApart (sym c.as_slice.ensures.value) c.shortest-prefixes.ensures.apart

pub returns : goal.returns
returns c =
    let g = c.args.graph.now in
    let ks = c.args.members.now in
    same_begun g c.as_slice.result.now (prefixes_of g ks)
    (λ t. subst (λ ps. BeginsWithOne t c.as_slice.result.now ↔ BeginsWithOne t ps) c.in_ok-prefixes.ensures
    (subst (λ (ps : List (List ℕ)). BeginsWithOne t ps ↔ BeginsWithOne t c.in_ok-prefixes.prefixes.items) (sym c.as_slice.ensures.value)
    (c.shortest-prefixes.ensures.same t))) ks c.args.events.now.items c.put_each_begun.new.events.items c.in_ok-put_each_begun.ensures
