use Rattle.std.proofs.Common.{◌≡◌, ◌++◌, [], ap, drop, sym, ◌∙◌, append-nil, bytes_eq}
use Rattle.std.specs.List.{list_any}
use Rattle.std.proofs.lemmas.List.{drop_all}
use Rattle.sm_model.specs.EventView.{events_view}
use Rattle.sm_merge.specs.steps.Known.{has_text}
use Rattle.sm_merge.specs.steps.PlaceEvents.{applied_events}
use Rattle.sm_merge.proofs.OthersPut.{applied_same}
use Rattle.sm_merge.proofs.events_places.put_applied_events.Goals as goal

pub returns : goal.returns
returns c =
    let ended : drop c.loop-id.id-index c.args.applied.now ≡ [] = drop_all c.loop-id.id-index c.args.applied.now c.loop-id-test.false in
    record {
      told = sym (append-nil (events_view c.loop-id.events.items))
          ∙ ap (λ ids. events_view c.loop-id.events.items ++ applied_events (has_text c.in_ok-there.there) ids) (sym ended)
          ∙ c.loop-id.invariant.told
          ∙ ap (λ l. events_view c.args.events.now.items ++ l)
          (applied_same (has_text c.in_ok-there.there) (λ id. list_any (λ place. bytes_eq place id) c.args.places.now) c.in_ok-there.ensures
          c.args.applied.now);
      errors = c.loop-id.invariant.errors;
    }
