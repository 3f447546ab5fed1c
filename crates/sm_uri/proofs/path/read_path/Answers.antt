use Rattle.std.proofs.Common.{rules}
use Rattle.sm_uri.proofs.UriPaths.{no_slash, path_failed, path_done, path_on}
use Rattle.sm_uri.proofs.path.read_path.Goals as goal

pub returns-in-None : goal.returns-in-None
returns-in-None c = no_slash c.args.text.now c.in-None.ensures

pub segment-requires-text-rest : goal.segment-requires-text-rest
segment-requires-text-rest c = λ u. c.segments.invariant.utf8

pub returns-in-Err : goal.returns-in-Err
returns-in-Err c =
    path_failed c.args.text.now c.segments.path c.segment.new.self c.segments.rest.now c.in-Err.stop c.segments.invariant.taken
    c.in-Err.ensures

pub returns-in-None-strip : goal.returns-in-None-strip
returns-in-None-strip c =
    path_done c.args.text.now c.segments.path c.segment.new.self c.segments.rest.now c.in-Ok.behind.now c.segments.invariant.taken
    c.in-Ok.ensures c.in-None-strip.ensures

pub segments-preserved : goal.segments-preserved
segments-preserved c = record {
  utf8 = search rules;
  read = c.in-Ok.ensures.read;
  taken = path_on c.args.text.now c.segments.path c.segment.new.self c.segments.rest.now c.in-Ok.behind.now c.in-Some-strip.rest.now
      c.segments.invariant.taken c.in-Ok.ensures c.in-Some-strip.ensures;
}
