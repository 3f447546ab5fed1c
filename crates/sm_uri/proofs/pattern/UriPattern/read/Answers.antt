use Rattle.sm_uri.proofs.UriPaths.{query_refused}
use Rattle.sm_uri.proofs.pattern.UriPattern.read.Goals as goal

pub returns : goal.returns
returns c =
    query_refused c.args.text.now c.in-Ok.path.segments.items c.in-Ok.path.behind.now c.in-Some.query.now c.in-Err-read_query.stop
    c.in-Ok.ensures c.in-Some.ensures c.in-Err-read_query.ensures
