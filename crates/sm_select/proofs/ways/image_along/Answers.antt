use Rattle.std.proofs.Common.{◌≡◌, length, subst, sym}
use Rattle.sm_model.specs.GraphView.{maps_of}
use Rattle.sm_select.specs.Followed.{AreFollowed}
use Rattle.sm_select.specs.Images.{AreImage, turned}
use Rattle.sm_select.specs.Neighbors.{AreBelow}
use Rattle.sm_select.specs.Picks.{LeadsAlong}
use Rattle.sm_select.proofs.AlongLinks.{along_image}
use Rattle.sm_select.proofs.Results.{ok_both}
use Rattle.sm_select.proofs.WalkNumbers.{links_below}
use Rattle.sm_select.proofs.ways.image_along.Goals as goal

pub followed-requires : goal.followed-requires
followed-requires c =
    let ways = c.args.ways.now in
    subst (AreBelow (length c.args.starts.now)) (sym c.deref.ensures.value)
    (links_below c.args.graph.now (length c.args.starts.now) ways.links.items c.requires.ways.are_links c.requires.count)

pub returns : goal.returns
returns c =
    let g = c.args.graph.now in
    let links = c.args.ways.now.links.items in
    let rs = c.args.relations.now in
    let starts = c.args.starts.now in
    ok_both c.followed.result (λ m. length m.items ≡ length starts) (λ m. AreFollowed c.deref.result.now rs c.args.back starts m.items)
    (λ m. AreImage g starts (turned c.args.back (LeadsAlong (maps_of g) rs)) m.items)
    (λ m whole marks. along_image g rs starts c.args.back links m.items c.requires.ways.are_links c.requires.count whole
    (subst (λ ls. AreFollowed ls rs c.args.back starts m.items) c.deref.ensures.value marks))
    c.followed.ensures.count c.followed.ensures.marked
