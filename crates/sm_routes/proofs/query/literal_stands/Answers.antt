use Rattle.std.proofs.Common.{sym, subst, ◌∙◌}
use Rattle.sm_uri.specs.UriPattern.{ampersand}
use Rattle.sm_parts.specs.Cuts.{IsCutBy}
use Rattle.sm_routes.specs.Routes.{is_pair, literal_pair}
use Rattle.sm_routes.proofs.QueryLiterals.{none_left, pair_found, pairs_on}
use Rattle.sm_routes.proofs.query.literal_stands.Goals as goal

pub returns-then-is_literal : goal.returns-then-is_literal
returns-then-is_literal c =
    pair_found (is_pair (literal_pair c.args.literal.now)) c.args.query.now c.pairs.rest.now c.cut_at-piece.result.taken.now
    c.pairs.invariant c.cut_at-piece.result.behind c.cut_at-piece.ensures (sym c.is_literal.ensures ∙ c.if-is_literal.true)

pub returns-in-None : goal.returns-in-None
returns-in-None c =
    none_left (is_pair (literal_pair c.args.literal.now)) c.args.query.now c.pairs.rest.now c.cut_at-piece.result.taken.now
    c.pairs.invariant (subst (IsCutBy ampersand c.pairs.rest.now c.cut_at-piece.result.taken.now) c.in-None.is c.cut_at-piece.ensures)
    (sym c.is_literal.ensures ∙ c.if-is_literal.false)

pub pairs-preserved : goal.pairs-preserved
pairs-preserved c =
    pairs_on (is_pair (literal_pair c.args.literal.now)) c.args.query.now c.pairs.rest.now c.cut_at-piece.result.taken.now
    c.pairs.invariant c.in-Some.behind.now
    (subst (IsCutBy ampersand c.pairs.rest.now c.cut_at-piece.result.taken.now) c.in-Some.is c.cut_at-piece.ensures)
    (sym c.is_literal.ensures ∙ c.if-is_literal.false)
