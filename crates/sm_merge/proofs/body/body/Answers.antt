use Rattle.std.proofs.Common.{◌≡◌, ◌++◌, [], drop, map, sym, ap, ◌∙◌, arith}
use Rattle.std.proofs.lemmas.List.{append-nil, drop_all}
use Rattle.sm_tree.specs.Node.{object, members_of}
use Rattle.sm_tree.specs.View.{members_view}
use Rattle.sm_tree.proofs.Views.{node_object_pairs}
use Rattle.sm_model.specs.FieldsView.{fields_view}
use Rattle.sm_model.specs.Properties.{TypeFields}
use Rattle.sm_model.specs.RawView.{raw_view, raw_members_view}
use Rattle.sm_merge.specs.steps.Known.{known}
use Rattle.sm_merge.specs.steps.Meant.{fields_named, raw_pairs_of}
use Rattle.sm_merge.proofs.Bodies.{body_made}
use Rattle.sm_merge.proofs.body.body.Goals as goal

pub returns : goal.returns
returns c =
    let defined = known c.args.names.now in
    let wanted = c.fields_of-wanted.result.now in
    let fields = members_view c.loop-field.fields.items in
    let ended : drop c.loop-field.field-index wanted ≡ [] = drop_all c.loop-field.field-index wanted (omega arith) in
    let all : fields ≡ fields_named defined c.args.kind (map (λ f. f.0) (fields_view wanted)) (raw_pairs_of (raw_view c.args.node.now)) =
    sym (append-nil fields)
    ∙ ap (λ ns. fields ++ fields_named defined c.args.kind (map (λ f. f.0) (fields_view ns)) (raw_members_view c.pairs_of-pairs.result.now))
    (sym ended)
    ∙ c.loop-field.invariant
    ∙ ap (fields_named defined c.args.kind (map (λ f. f.0) (fields_view wanted))) c.pairs_of-pairs.ensures in
    node_object_pairs c.new.result ∙ ap (λ ps. object (members_of ps)) c.new.ensures
    ∙ body_made defined c.args.kind (raw_view c.args.node.now) (map (λ f. f.0) (fields_view wanted)) fields c.requires
    (ap (λ (fs : TypeFields). map (λ f. f.0) fs) c.fields_of-wanted.ensures) all
