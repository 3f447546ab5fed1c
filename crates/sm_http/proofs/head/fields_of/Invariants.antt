use Rattle.std.proofs.Common.{◌≡◌, ◌++◌, map, drop}
use Rattle.sm_http.specs.steps.Finding.{header_field}
use Rattle.sm_http.proofs.head.fields_of.Given as goal

abbrev pub invariant-loop-header : goal.invariant-loop-header
invariant-loop-header l = l.fields.items ++ map header_field (drop l.header-index l.headers) ≡ map header_field l.headers
