use Rattle.std.proofs.Common.{◌<◌, ◌≤◌, ◌+◌, length, map, sym, ap, ◌∙◌, subst, arith}
use Rattle.std.proofs.lemmas.List.{length-map}
use Rattle.sm_shapes.specs.TableData.{shape_count, members_at}
use Rattle.sm_shapes.specs.TableView.{table_data}
use Rattle.sm_codec.specs.PlaceView.{place_of}
use Rattle.sm_codec.proofs.PlacesIn.{shape_in}
use Rattle.sm_schema.specs.Definitions.{with_members}
use Rattle.sm_schema.specs.steps.Numbered.{AllMembers, places_in}
use Rattle.sm_schema.proofs.NumberedPlaces.{listed_all, listed_next, got_inside, all_members_of, members_longer}
use Rattle.sm_schema.proofs.listing.defined_places.Goals as goal

pub returns-then-len-turn-clause-listed : goal.returns-then-len-turn-clause-listed
returns-then-len-turn-clause-listed c =
    listed_all (table_data c.args.table.now) c.args.shape c.loop-turn.all.places.items c.loop-turn.turn c.loop-turn.invariant.listed
    (omega (arith, c.loop-turn.all.places.ok.0, c.len.ensures, c.if-len-turn.true))

pub shape-requires : goal.shape-requires
shape-requires c =
    got_inside (table_data c.args.table.now) c.loop-turn.all.places.items c.loop-turn.turn c.index-place.result.now
    c.loop-turn.invariant.numbered.inside (omega (arith, c.loop-turn.all.places.ok.0, c.len.ensures, c.if-len-turn.false))
    c.index-place.ensures

pub members-requires : goal.members-requires
members-requires c =
    let t = table_data c.args.table.now in
    let p = c.index-place.result.now in
    let inside = got_inside t c.loop-turn.all.places.items c.loop-turn.turn p c.loop-turn.invariant.numbered.inside
    (omega (arith, c.loop-turn.all.places.ok.0, c.len.ensures, c.if-len-turn.false)) c.index-place.ensures in
    subst (λ s. s < shape_count t) (sym c.shape.ensures) (shape_in t (place_of p) c.requires.shaped inside)

pub put_members-requires-clause-members : goal.put_members-requires-clause-members
put_members-requires-clause-members c =
    let t = table_data c.args.table.now in
    let p = c.index-place.result.now in
    let inside = got_inside t c.loop-turn.all.places.items c.loop-turn.turn p c.loop-turn.invariant.numbered.inside
    (omega (arith, c.loop-turn.all.places.ok.0, c.len.ensures, c.if-len-turn.false)) c.index-place.ensures in
    let within = subst (λ s. s < shape_count t) (sym c.shape.ensures) (shape_in t (place_of p) c.requires.shaped inside) in
    subst (AllMembers t) (sym c.members.ensures)
    (all_members_of t c.shape.result (members_at t c.shape.result) (c.requires.shaped.members c.shape.result within))

pub loop-turn-preserved : goal.loop-turn-preserved
loop-turn-preserved c =
    let t = table_data c.args.table.now in
    let before = c.loop-turn.all.places.items in
    let p = c.index-place.result.now in
    let lt : c.loop-turn.turn < length before =
    omega (arith, c.loop-turn.all.places.ok.0, c.len.ensures, c.if-len-turn.false) in
    let moved = c.in_ok-put_members.ensures.places
    ∙ ap (with_members t (map place_of before)) (c.members.ensures ∙ ap (members_at t) c.shape.ensures) in
    record {
      numbered = c.in_ok-put_members.ensures.numbered;
      within = subst (λ ps. c.loop-turn.turn + 1 ≤ length ps) (sym c.in_ok-put_members.ensures.places)
          (omega (arith, lt, length-map before place_of, members_longer t (map place_of before) c.members.result.now));
      listed = listed_next t c.args.shape before c.loop-turn.turn (c.loop-turn.turn + 1) p (places_in c.put_members.new.self)
          c.loop-turn.invariant.listed lt c.index-place.ensures (omega arith) moved;
    }
