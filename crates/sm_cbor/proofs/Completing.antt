-- What leads from the first state to one between two bytes hands on exactly the events that these bytes complete.
use Rattle.std.proofs.Common.{◌≡◌, ◌≤◌, ◌+◌, ℕ, List, [], ◌++◌, refl, sym, ap, ◌∙◌, arith, length}
use Rattle.sm_tree.specs.Limits.{most_levels}
use Rattle.sm_tree.specs.Events.{NodeEvent}
use Rattle.sm_tree.specs.Timing.{complete_with, Completes}
use Rattle.sm_tree.proofs.Handing.{handed_complete}
use Rattle.sm_cbor.specs.Timing.{cbor_timing}
use Rattle.sm_cbor.specs.steps.Marks.{plain}
use Rattle.sm_cbor.specs.steps.Rest.{CborState, CborLeads, first_state}
use Rattle.sm_cbor.specs.steps.Machine.{opens, Lives, Begun}
use Rattle.sm_cbor.proofs.Endings.{goes_on}
use Rattle.sm_cbor.proofs.LaterEvents.{rest_later}
use Rattle.sm_cbor.proofs.Readings.{leads_none}
use Rattle.sm_cbor.proofs.Starting.{start_item}

-- what is handed on is what the bytes complete
pub leads_complete : (bs : List ℕ) (out : List NodeEvent) (x : CborState) → CborLeads plain most_levels first_state bs out x
    → Begun x.place x.levels → Lives x.place → length x.levels + opens x.place ≤ most_levels → Completes cbor_timing bs out
leads_complete bs out x leads begun lives room =
    let (s, es, rest) = goes_on plain most_levels x.place x.held x.levels room lives in
    let (os, hands, first) = leads.back s es rest in
    let (n, timed, deep) = start_item plain most_levels (bs ++ s) (os ++ es) first in (
      s,
      n,
      os ++ es,
      timed,
      deep,
      sym (handed_complete (length s) os es out hands (rest_later plain most_levels x.place x.held x.levels s es begun rest)),
    )

-- and nothing else is
pub complete_leads : (bs : List ℕ) (out es : List NodeEvent) (x : CborState) → CborLeads plain most_levels first_state bs out x
    → Begun x.place x.levels → Completes cbor_timing bs es → es ≡ out
complete_leads bs out es x leads begun (more, n, ts, timed, deep, is) =
    let (os, us, e, hands, rest) = leads.onward more ts (n, [], [], timed, omega arith, (refl, refl)) in
    is ∙ ap (complete_with (length more)) e
    ∙ handed_complete (length more) os us out hands (rest_later plain most_levels x.place x.held x.levels more us begun rest)

-- before the first byte nothing is
pub nothing_complete : (es : List NodeEvent) → Completes cbor_timing [] es → es ≡ []
nothing_complete es h = complete_leads [] [] es first_state (leads_none plain most_levels first_state) tt h
