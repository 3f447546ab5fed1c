use Rattle.std.proofs.Common.{◌≡◌, ◌++◌, sym, ap, subst, ◌∙◌}
use Rattle.std.specs.Prelude.{OnOk}
use Rattle.std.specs.Option.{option_map}
use Rattle.sm_tree.specs.View.{members_view}
use Rattle.sm_model.specs.RawView.{raw_members_view}
use Rattle.sm_merge.specs.Meaning.{node_meant}
use Rattle.sm_merge.specs.Stated.{field_stated}
use Rattle.sm_merge.specs.steps.Known.{known}
use Rattle.sm_merge.proofs.MeantViews.{named_meant}
use Rattle.sm_merge.proofs.body.put_field.Goals as goal

pub returns-in-None : goal.returns-in-None
returns-in-None c =
    let defined = known c.args.names.now in
    subst (λ o. OnOk c.put_missing.result
    (members_view c.put_missing.new.fields.items ≡ members_view c.args.fields.now.items ++ field_stated c.args.kind c.args.name.now o))
    (sym (named_meant defined c.args.name.now (raw_members_view c.args.pairs.now) ∙ ap (option_map (node_meant defined)) c.in-None.ensures))
    c.put_missing.ensures

pub returns-in-Some : goal.returns-in-Some
returns-in-Some c =
    let defined = known c.args.names.now in
    subst (λ o. OnOk c.put_given.result
    (members_view c.put_given.new.fields.items ≡ members_view c.args.fields.now.items ++ field_stated c.args.kind c.args.name.now o))
    (sym (named_meant defined c.args.name.now (raw_members_view c.args.pairs.now) ∙ ap (option_map (node_meant defined)) c.in-Some.ensures))
    c.put_given.ensures
