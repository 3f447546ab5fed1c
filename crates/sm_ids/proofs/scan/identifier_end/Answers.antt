use Rattle.std.proofs.Common.{refl, sym, ◌∙◌, inl, inr}
use Rattle.sm_ids.specs.Identifier.{is_identifier_byte}
use Rattle.sm_ids.specs.steps.Ahead.{is_underscore}
use Rattle.sm_ids.proofs.Finding.{run_passes, run_stops, identifier_found, identifier_breaks}
use Rattle.sm_ids.proofs.scan.identifier_end.Goals as goal
use Rattle.sm_ids.proofs.scan.identifier_end.Goals.{else-start-bytes-via-then-start-bytes+else-opens, else-start-bytes-via-else-start-bytes}

pub returns-then-opens : goal.returns-then-opens
returns-then-opens c =
    let n = c.run_len-count.ensures in
    let m = c.run_len.ensures in
    identifier_found c.args.bytes.now _ _ c.args.from _ _ refl refl c.requires n.within (run_passes is_underscore _ _ n.run)
    c.if-start-bytes.true
    (sym c.opens.ensures ∙ c.if-opens.true) m.within (run_passes is_identifier_byte _ _ m.run) (run_stops is_identifier_byte _ _ m.run)

pub returns-else-start-bytes : goal.returns-else-start-bytes
returns-else-start-bytes c =
    let n = c.run_len-count.ensures in
    identifier_breaks c.args.bytes.now _ c.args.from _ refl n.within (run_passes is_underscore _ _ n.run)
    (run_stops is_underscore _ _ n.run)
    (elim c.else-start-bytes.branch [
      | else-start-bytes-via-then-start-bytes+else-opens w ↦ inr (sym w.opens.ensures ∙ w.if-opens.false)
      | else-start-bytes-via-else-start-bytes w ↦ inl w.if-start-bytes.false
    ])
