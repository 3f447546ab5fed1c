use Rattle.std.proofs.Common.{◌≡◌, ap, refl, subst, sym, Some, None, ◌∙◌}
use Rattle.std.specs.Option.{option_map}
use Rattle.sm_ids.specs.View.{id_of as parts_of}
use Rattle.std.specs.Prelude.{MatchOption}
use Rattle.std.specs.FinMap as fin
use Rattle.sm_tree.specs.Node.{text}
use Rattle.sm_tree.specs.View.{node_of}
use Rattle.sm_model.specs.Graphs.{traits_in}
use Rattle.sm_model.specs.GraphView.{At, maps_of}
use Rattle.sm_model.specs.Reaching.{id_of_number}
use Rattle.sm_select.specs.Picks.{HasValue, value_within}
use Rattle.sm_select.specs.Selectors.{id_of, namespace_of, name_of, member_of, trait_of}
use Rattle.sm_select.specs.View.{path_view}
use Rattle.sm_select.specs.steps.Filtering.{HoldsOfOnly, found_node}
use Rattle.sm_select.proofs.FilterFacts.{id_told, path_told, value_id, value_member, value_name, value_namespace, value_no_trait}
use Rattle.sm_select.proofs.FilterFacts.{value_trait}
use Rattle.sm_select.proofs.values.value_of.Goals as goal

pub returns-in-Id : goal.returns-in-Id
returns-in-Id c =
    let g = c.args.graph.now in
    let r = c.id-id.result.now in
    path_told (maps_of g) r (id_of_number g c.args.number) id_of (path_view c.args.path.now) (Some (text c.as_str.result.now))
    (id_told g c.args.number r c.id-id.ensures) (sym (ap path_view c.in-Id.is))
    (subst (λ t. HoldsOfOnly (HasValue (maps_of g) r id_of) (Some (text t))) (sym c.as_str.ensures) (value_id (maps_of g) r))

pub returns-in-IdNamespace : goal.returns-in-IdNamespace
returns-in-IdNamespace c =
    let g = c.args.graph.now in
    let r = c.id-id.result.now in
    let parts = parts_of c.as_ref.result in
    path_told (maps_of g) r (id_of_number g c.args.number) namespace_of (path_view c.args.path.now) (Some (text parts.namespace))
    (id_told g c.args.number r c.id-id.ensures) (sym (ap path_view c.in-IdNamespace.is))
    (value_namespace (maps_of g) r parts c.as_ref.ensures)

pub returns-in-IdName : goal.returns-in-IdName
returns-in-IdName c =
    let g = c.args.graph.now in
    let r = c.id-id.result.now in
    let parts = parts_of c.as_ref-in-IdName.result in
    path_told (maps_of g) r (id_of_number g c.args.number) name_of (path_view c.args.path.now) (Some (text parts.name))
    (id_told g c.args.number r c.id-id.ensures) (sym (ap path_view c.in-IdName.is))
    (value_name (maps_of g) r parts c.as_ref-in-IdName.ensures)

pub returns-in-IdMember : goal.returns-in-IdMember
returns-in-IdMember c =
    let g = c.args.graph.now in
    let r = c.id-id.result.now in
    let parts = parts_of c.as_ref-in-IdMember.result in
    path_told (maps_of g) r (id_of_number g c.args.number) member_of (path_view c.args.path.now) (option_map found_node c.found_part.result)
    (id_told g c.args.number r c.id-id.ensures) (sym (ap path_view c.in-IdMember.is))
    (subst (HoldsOfOnly (HasValue (maps_of g) r member_of)) (sym c.found_part.ensures)
    (value_member (maps_of g) r parts c.as_ref-in-IdMember.ensures parts.member refl))

pub returns-in-Some : goal.returns-in-Some
returns-in-Some c =
    let g = c.args.graph.now in
    let k = c.args.number in
    let trait = c.in-Trait.named in
    let keys = c.in-Trait.keys in
    let tree = c.in-Some.tree.now in
    let asked = c.as_str-in-Trait.result.now in
    let told : At g k (λ i e. fin.get (traits_in e) asked ≡ Some (node_of tree)) =
    subst (λ r. At g k (λ i e. MatchOption r (fin.get (traits_in e) asked ≡ None)
    (λ t. fin.get (traits_in e) asked ≡ Some (node_of t.now))))
    c.in-Some.is c.trait_value.ensures in
    let here : At g k (λ i e. fin.get (traits_in e) trait ≡ Some (node_of tree)) =
    subst (λ n. At g k (λ i e. fin.get (traits_in e) n ≡ Some (node_of tree))) c.as_str-in-Trait.ensures.bytes told in
    path_told (maps_of g) (id_of_number g k) (id_of_number g k) (trait_of trait keys) (path_view c.args.path.now)
    (option_map found_node c.found_tree.result) refl (sym (ap path_view c.in-Trait.is))
    (value_trait g k trait keys (node_of tree) (option_map found_node c.found_tree.result) here
    (ap (λ ks. value_within ks (node_of tree)) (sym c.as_slice.ensures) ∙ c.tree_within.ensures ∙ sym c.found_tree.ensures))

pub returns-in-None : goal.returns-in-None
returns-in-None c =
    let g = c.args.graph.now in
    let k = c.args.number in
    let trait = c.in-Trait.named in
    let keys = c.in-Trait.keys in
    let asked = c.as_str-in-Trait.result.now in
    let told : At g k (λ i e. fin.get (traits_in e) asked ≡ None) =
    subst (λ r. At g k (λ i e. MatchOption r (fin.get (traits_in e) asked ≡ None)
    (λ t. fin.get (traits_in e) asked ≡ Some (node_of t.now))))
    c.in-None.is c.trait_value.ensures in
    let here : At g k (λ i e. fin.get (traits_in e) trait ≡ None) =
    subst (λ n. At g k (λ i e. fin.get (traits_in e) n ≡ None)) c.as_str-in-Trait.ensures.bytes told in
    path_told (maps_of g) (id_of_number g k) (id_of_number g k) (trait_of trait keys) (path_view c.args.path.now) None refl
    (sym (ap path_view c.in-Trait.is)) (value_no_trait g k trait keys here)
