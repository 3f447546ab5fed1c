use Rattle.std.proofs.Common.{◌≡◌, ◌<◌, ◌+◌, ◌++◌, ◌∷◌, [], length, drop, sym, ap, ◌∙◌, subst, arith}
use Rattle.std.specs.Option.{option_map}
use Rattle.std.proofs.lemmas.Grind.{common_steps}
use Rattle.std.proofs.lemmas.List.{length-map, map-append}
use Rattle.sm_shapes.specs.DefaultPuts.{defaults_view}
use Rattle.sm_shapes.specs.TableView.{member_data, table_data}
use Rattle.sm_shapes.specs.ValueView.{val_of}
use Rattle.sm_codec.specs.Defaults.{node_codec}
use Rattle.sm_codec.specs.steps.Filling.{counted_defaults}
use Rattle.sm_codec.proofs.DefaultsCounted.{one_counted}
use Rattle.sm_codec.proofs.filling.defaults_of.Goals as goal

pub loop-number-preserved : goal.loop-number-preserved
loop-number-preserved g c =
    let t = table_data c.args.table.now in
    let codec = node_codec t g.P.Patterns.test in
    let i = c.loop-number.number in
    let items = c.loop-number.defaults.items in
    let default = c.in_ok-default.default in
    let below : c.loop-number.number < length c.as_slice-count.result.now = grind (arith, common_steps) in
    let inside : c.loop-number.number < length (table_data c.args.table.now).members =
    subst (λ n. c.loop-number.number < n) (sym (length-map c.as_slice-count.result.now member_data) ∙ ap length c.as_slice-count.ensures)
    below in
    let more : defaults_view c.push.new.self.items ≡ defaults_view items ++ option_map val_of default ∷ [] =
    ap defaults_view c.in_ok-push.ensures.items ∙ map-append (option_map val_of) items (default ∷ []) in
    record {
      defaults = ap (λ vs. vs ++ counted_defaults codec (i + 1) (drop (i + 1) t.members)) more
          ∙ one_counted codec i t.members (defaults_view items) (option_map val_of default) (counted_defaults codec 0 t.members) inside
          c.in_ok-default.ensures.default c.loop-number.invariant.defaults;
      added = c.default_of.ensures.added ∙ c.loop-number.invariant.added;
      refused = c.default_of.ensures.refused ∙ c.loop-number.invariant.refused;
      refusals = c.default_of.ensures.refusals ∙ c.loop-number.invariant.refusals;
    }
