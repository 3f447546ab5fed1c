-- What was handed on so far, and the piece that comes next.
use Rattle.std.proofs.Common.{◌≡◌, ◌≤◌, ◌+◌, take}
use Rattle.std.specs.Io.KnownBytes.{prepend_known}
use Rattle.sm_io.specs.Reading.{LosesPrefix}
use Rattle.sm_http.specs.declared.message.BodyLeft.TheVariants.{Done}
use Rattle.sm_http.specs.Limits.{piece_limit}
use Rattle.sm_http.specs.Calls.{IsWithinLimit, data_room}
use Rattle.sm_session.specs.Responding.{HasRead}
use Rattle.sm_session.specs.steps.Feeding.{Feeding}
use Rattle.sm_session.proofs.taking.feed_rest.Given as goal

abbrev pub invariant-loop-count : goal.invariant-loop-count
invariant-loop-count g l = record {
  feeding : Feeding (g.R.Responder.reads l.responder l.fn.body) (g.R.Responder.reads l.responder l.body) l.fn.left l.left
      (prepend_known l.fn.held (g.S.Source.left l.fn.source)) (prepend_known l.held (g.S.Source.left l.source))
      (take l.first l.fn.buf) (take l.count l.buf);
  within : IsWithinLimit l.left;
  few : l.count ≤ piece_limit;
  done : l.count ≡ 0 → l.left ≡ Done;
  begun : HasRead (g.R.Responder.reads l.responder l.body);
  stands : g.R.Responder.stands l.responder l.store;
  alike : g.R.Responder.alike l.responder l.fn.store l.store;
  taken : LosesPrefix (g.S.Source.left l.fn.source) (g.S.Source.left l.source);
  faults : g.S.Source.faults l.fn.source ≤ g.S.Source.faults l.source;
}

abbrev pub decreases-loop-count : goal.decreases-loop-count
decreases-loop-count g l = data_room l.left + l.count
