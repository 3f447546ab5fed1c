use Rattle.std.proofs.Common.{[], length, subst, sym}
use Rattle.sm_model.specs.GraphView.{entries_of}
use Rattle.sm_model.specs.Links.{AreLinks}
use Rattle.sm_http_rules.specs.steps.Labels.{AreBoundOf, AreEach}
use Rattle.sm_http_rules.proofs.LabelsTold.{links_put}
use Rattle.sm_http_rules.proofs.labels.put_labels.Goals as goal

pub put_by_links-requires-clause-links : goal.put_by_links-requires-clause-links
put_by_links-requires-clause-links c = λ l h. (subst (AreLinks c.args.graph.now) (sym c.as_slice.ensures.value) c.requires.are_links l).0 h

pub put_by_links-requires-clause-bound : goal.put_by_links-requires-clause-bound
put_by_links-requires-clause-bound c =
    subst (AreEach (AreBoundOf c.args.graph.now) [] (length (entries_of c.args.graph.now))) (sym c.as_slice-2.ensures.value)
    c.in_ok-bound.ensures

pub returns : goal.returns
returns c =
    links_put c.args.graph.now c.as_slice.result.now (subst (AreLinks c.args.graph.now)
    (sym c.as_slice.ensures.value) c.requires.are_links)
    c.args.events.now.items c.put_by_links.new.events.items c.in_ok-put_by_links.ensures
