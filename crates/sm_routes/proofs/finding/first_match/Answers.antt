use Rattle.std.proofs.Common.{◌≡◌, ◌+◌, ◌<◌, ◌&&◌, Some, length, sym, ap, ◌∙◌, subst, arith}
use Rattle.std.specs.Str.{bytes_eq}
use Rattle.sm_parts.specs.Targets.{path_of, query_pairs, segments_of}
use Rattle.sm_routes.specs.Routes.{literals_stand, segments_match}
use Rattle.sm_routes.specs.steps.Matching.{pieces_left}
use Rattle.sm_routes.specs.steps.Passing.{IsPassedTo, StopsAt}
use Rattle.sm_routes.proofs.Scanned.{NoneBefore, first_found, is_wanted_row, none_at_all, none_more, none_passed}
use Rattle.sm_routes.proofs.finding.first_match.Goals as goal
use Rattle.sm_routes.proofs.finding.first_match.Goals.{in-Ends+else-is_wanted, in-Stops}

pub returns-then-at-rows : goal.returns-then-at-rows
returns-then-at-rows c =
    none_at_all c.args.method.now c.args.target.now c.args.rows.now c.rows.at c.if-at-rows.true c.rows.invariant

pub returns-then-is_wanted : goal.returns-then-is_wanted
returns-then-is_wanted c =
    let row = c.index-rows-at.result in
    let ps = pieces_left c.in-Some.left in
    let path : segments_of (path_of c.args.target.now) ≡ Some ps = ap segments_of (sym c.path_of.ensures) ∙ c.in-Some.ensures in
    let own : segments_match row.uri.segments.items ps ≡ c.in-Ends.matches =
    ap (λ l. segments_match l ps) (sym c.as_slice-segments.ensures.value) ∙ c.in-Ends.ensures in
    let asked = c.is_wanted.ensures
    ∙ ap (λ q. c.in-Ends.matches && (bytes_eq row.method c.args.method.now && literals_stand row.uri.literals.items (query_pairs q)))
    c.query_of-query.ensures in
    first_found c.args.method.now c.args.target.now c.args.rows.now c.requires.ordered c.rows.at row (omega (arith, c.if-at-rows.false))
    (sym c.index-rows-at.is) c.rows.invariant
    (is_wanted_row c.args.method.now c.args.target.now c.args.rows.now ps path c.requires.routed row c.in-Ends.matches c.is_wanted.result own asked
    ∙ c.if-is_wanted.true)

pub rows-preserved : goal.rows-preserved
rows-preserved c =
    let row = c.index-rows-at.result in
    let ps = pieces_left c.in-Some.left in
    let path : segments_of (path_of c.args.target.now) ≡ Some ps = ap segments_of (sym c.path_of.ensures) ∙ c.in-Some.ensures in
    let inside : c.rows.at < length c.args.rows.now = omega (arith, c.if-at-rows.false) in
    elim c.match-walk_along.branch [
      | in-Ends+else-is_wanted w ↦
          let own : segments_match row.uri.segments.items ps ≡ w.in-Ends.matches =
          ap (λ l. segments_match l ps) (sym c.as_slice-segments.ensures.value) ∙ w.in-Ends.ensures in
          let asked = w.is_wanted.ensures
          ∙ ap (λ q. w.in-Ends.matches && (bytes_eq row.method c.args.method.now && literals_stand row.uri.literals.items (query_pairs q)))
          c.query_of-query.ensures in
          subst (λ n. NoneBefore c.args.method.now c.args.target.now c.args.rows.now (n + 1)) (sym w.at-is)
          (none_more c.args.method.now c.args.target.now c.args.rows.now c.rows.at row inside (sym c.index-rows-at.is) c.rows.invariant
          (is_wanted_row c.args.method.now c.args.target.now c.args.rows.now ps path c.requires.routed row w.in-Ends.matches w.is_wanted.result own
          asked ∙ w.if-is_wanted.false))
      | in-Stops w ↦
          let stops = subst (λ l. StopsAt l ps w.in-Stops.stop) c.as_slice-segments.ensures.value w.in-Stops.ensures in
          let run = subst (λ l. IsPassedTo c.args.rows.now l w.in-Stops.stop c.rows.at w.passed-at.result) c.as_slice-segments.ensures.value
          w.passed-at.ensures in
          subst (λ n. NoneBefore c.args.method.now c.args.target.now c.args.rows.now (n + 1)) (sym w.at-is)
          (none_passed c.args.method.now c.args.target.now c.args.rows.now c.requires.ordered ps path c.rows.at w.passed-at.result row w.in-Stops.stop
          inside (sym c.index-rows-at.is) stops run c.rows.invariant)
    ]
