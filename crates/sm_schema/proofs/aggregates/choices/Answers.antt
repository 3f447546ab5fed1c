use Rattle.std.proofs.Common.{◌≡◌, ◌+◌, ◌∷◌, get_or, drop, sym, ap, ◌∙◌, subst}
use Rattle.std.proofs.lemmas.List.{drop_more}
use Rattle.sm_tree.specs.Node.{node}
use Rattle.sm_tree.specs.View.{nodes_view}
use Rattle.sm_shapes.specs.TableView.{table_data}
use Rattle.sm_schema.specs.Described.{choices}
use Rattle.sm_schema.specs.steps.Joined.{entries_joined}
use Rattle.sm_schema.specs.steps.Numbered.{AllMembers, listing_of}
use Rattle.sm_schema.proofs.aggregates.choices.Goals as goal

pub loop-member-preserved : goal.loop-member-preserved
loop-member-preserved c =
    let t = table_data c.args.table.now in
    let d = listing_of t c.args.json_names c.args.all.now in
    let all = c.args.members.now in
    let i = c.loop-member.member-index in
    let view = nodes_view c.loop-member.entries.entries.items in
    let step : drop i all ≡ get_or all i 0 ∷ drop (i + 1) all = drop_more all i 0 c.loop-member-test.true in
    record {
      members = (subst (AllMembers t) step c.loop-member.invariant.members).1;
      built = λ s. c.in_ok-put_entry.ensures (choices d s (drop (i + 1) all))
          ∙ ap (λ n. entries_joined view (node n (choices d s (drop (i + 1) all)))) (c.in_ok-tree.ensures s)
          ∙ sym (ap (λ ks. entries_joined view (choices d s ks)) step) ∙ c.loop-member.invariant.built s;
    }
