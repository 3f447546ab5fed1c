use Rattle.std.proofs.Common.{drop, subst}
use Rattle.sm_bytes.specs.Ascii.{slash}
use Rattle.sm_parts.specs.Cuts.{IsCutBy}
use Rattle.sm_routes.proofs.PathPieces.{cut_on, only_one, walk_cut, walk_cut_left, walk_last, walk_last_left, walk_next}
use Rattle.sm_routes.proofs.matching.cut_after.Goals as goal

pub returns-in-None : goal.returns-in-None
returns-in-None c =
    let path = c.args.path.now in
    let len = c.pieces.len in
    let taken = c.cut_at-piece.result.taken.now in
    let whole = subst (IsCutBy slash (drop len path) taken) c.in-None.is
    (cut_on path taken len c.cut_at-piece.result.behind c.cut_at-piece.ensures) in
    record {
      taken = walk_last c.args.count path len c.pieces.left (drop len path) taken c.pieces.invariant whole;
      left = walk_last_left c.args.count path len c.pieces.left (drop len path) taken c.pieces.invariant whole;
    }

pub returns-then-left-eq0 : goal.returns-then-left-eq0
returns-then-left-eq0 c =
    let path = c.args.path.now in
    let len = c.pieces.len in
    let taken = c.cut_at-piece.result.taken.now in
    let one = only_one c.pieces.left c.pieces.invariant.some c.if-left-eq0.true in
    let first = subst (IsCutBy slash (drop len path) taken) c.in-Some.is
    (cut_on path taken len c.cut_at-piece.result.behind c.cut_at-piece.ensures) in
    record {
      taken = walk_cut c.args.count path len c.pieces.left (drop len path) taken c.pieces.invariant c.in-Some.behind.now first one;
      left = walk_cut_left c.args.count path len c.pieces.left (drop len path) taken c.pieces.invariant c.in-Some.behind.now first one;
    }

pub pieces-preserved : goal.pieces-preserved
pieces-preserved c =
    let path = c.args.path.now in
    let len = c.pieces.len in
    let taken = c.cut_at-piece.result.taken.now in
    let first = subst (IsCutBy slash (drop len path) taken) c.in-Some.is
    (cut_on path taken len c.cut_at-piece.result.behind c.cut_at-piece.ensures) in
    walk_next c.args.count path len c.pieces.left (drop len path) taken c.pieces.invariant c.in-Some.behind.now first c.if-left-eq0.false
