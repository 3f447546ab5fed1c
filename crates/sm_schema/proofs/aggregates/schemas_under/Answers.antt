use Rattle.std.proofs.Common.{◌≡◌, ◌+◌, ◌∷◌, get_or, drop, sym, ap, ◌∙◌, subst}
use Rattle.std.proofs.lemmas.List.{drop_more, drop_all}
use Rattle.sm_tree.specs.Node.{member}
use Rattle.sm_tree.specs.View.{members_view, node_of}
use Rattle.sm_shapes.specs.TableView.{table_data}
use Rattle.sm_schema.specs.Described.{name_of, schemas_under}
use Rattle.sm_schema.specs.steps.Joined.{joined}
use Rattle.sm_schema.specs.steps.Numbered.{AllMembers, listing_of}
use Rattle.sm_schema.specs.steps.WithNotes.{notes_seen, schema_with}
use Rattle.sm_schema.proofs.aggregates.schemas_under.Goals as goal

pub loop-member-preserved : goal.loop-member-preserved
loop-member-preserved c =
    let t = table_data c.args.table.now in
    let d = listing_of t c.args.json_names c.args.all.now in
    let f = schema_with (notes_seen c.args.notes) d c.args.choice in
    let all = c.args.members.now in
    let i = c.loop-member.member-index in
    let k = get_or all i 0 in
    let view = members_view c.loop-member.pairs.pairs.items in
    let step : drop i all ≡ get_or all i 0 ∷ drop (i + 1) all = drop_more all i 0 c.loop-member-test.true in
    record {
      members = (subst (AllMembers t) step c.loop-member.invariant.members).1;
      built = λ s. c.in_ok-put.ensures (schemas_under d s f (drop (i + 1) all))
          ∙ ap (λ name. joined view (member name (node_of c.in_ok-tree.tree.tree) (schemas_under d s f (drop (i + 1) all)))) (c.wire_name.ensures s)
          ∙ ap (λ n. joined view (member (name_of d s k) n (schemas_under d s f (drop (i + 1) all)))) c.in_ok-tree.ensures
          ∙ sym (ap (λ ks. joined view (schemas_under d s f ks)) step) ∙ c.loop-member.invariant.built s;
    }

pub returns : goal.returns
returns c s =
    let t = table_data c.args.table.now in
    let d = listing_of t c.args.json_names c.args.all.now in
    let f = schema_with (notes_seen c.args.notes) d c.args.choice in
    let all = c.args.members.now in
    let i = c.loop-member.member-index in
    sym (ap (λ ks. joined (members_view c.loop-member.pairs.pairs.items) (schemas_under d s f ks)) (drop_all i all c.loop-member-test.false))
    ∙ c.loop-member.invariant.built s
