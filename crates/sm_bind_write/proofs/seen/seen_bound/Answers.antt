use Rattle.std.proofs.Common.{true, sym, ap, ◌∙◌, subst}
use Rattle.std.specs.Prelude.{Some}
use Rattle.std.specs.Str.{str_to_ascii_lowercase}
use Rattle.sm_shapes.specs.Places.{member_place, value_place}
use Rattle.sm_shapes.specs.TableView.{binding_data}
use Rattle.sm_shapes.specs.ValueView.{val_of}
use Rattle.sm_codec.specs.Conventions.{json_convention}
use Rattle.sm_codec.specs.Encoded.{first_path}
use Rattle.sm_codec.specs.Written.{uncarried}
use Rattle.sm_part_texts.specs.CarriedTexts.{here_unless, uncarried_field, uncarried_query}
use Rattle.sm_bind.specs.BoundView.{bound_of}
use Rattle.sm_bind_write.specs.CarriedParts.{uncarried_bound, uncarried_params, uncarried_prefixed, uncarried_status}
use Rattle.sm_bind_write.specs.steps.SeenParts.{SeenAs}
use Rattle.sm_bind_write.proofs.seen.seen_bound.Goals as goal

pub returns-in-Query : goal.returns-in-Query
returns-in-Query c =
    let b = bound_of c.args.place.now in
    let k = c.args.member in
    let v = val_of c.args.value.now in
    let tree = uncarried b.table (json_convention true) (member_place k) v in
    subst (λ x. SeenAs (uncarried_bound (Some (binding_data x)) b k v) tree c.told-in-Query.result) (sym c.in-Query.is)
    (c.told-in-Query.ensures (uncarried_query b.table (member_place k) v) tree
    (c.in_value.ensures ∙ c.first_uncarried.ensures))

pub returns-in-QueryParams : goal.returns-in-QueryParams
returns-in-QueryParams c =
    let b = bound_of c.args.place.now in
    let k = c.args.member in
    let v = val_of c.args.value.now in
    let tree = uncarried b.table (json_convention true) (member_place k) v in
    subst (λ x. SeenAs (uncarried_bound (Some (binding_data x)) b k v) tree c.told-in-QueryParams.result) (sym c.in-QueryParams.is)
    (c.told-in-QueryParams.ensures (uncarried_params b (value_place b.table (member_place k)) v) tree
    (c.params_spot.ensures))

pub returns-in-Header : goal.returns-in-Header
returns-in-Header c =
    let b = bound_of c.args.place.now in
    let k = c.args.member in
    let v = val_of c.args.value.now in
    let tree = uncarried b.table (json_convention true) (member_place k) v in
    subst (λ x. SeenAs (uncarried_bound (Some (binding_data x)) b k v) tree c.told-in-Header.result) (sym c.in-Header.is)
    (c.told-in-Header.ensures (uncarried_field b.table (member_place k) v) tree
    (c.in_value-in-Header.ensures ∙ c.first_uncarried-in-Header.ensures))

pub returns-in-PrefixHeaders : goal.returns-in-PrefixHeaders
returns-in-PrefixHeaders c =
    let b = bound_of c.args.place.now in
    let k = c.args.member in
    let v = val_of c.args.value.now in
    let tree = uncarried b.table (json_convention true) (member_place k) v in
    subst (λ x. SeenAs (uncarried_bound (Some (binding_data x)) b k v) tree c.told-in-PrefixHeaders.result) (sym c.in-PrefixHeaders.is)
    (c.told-in-PrefixHeaders.ensures (uncarried_prefixed b (str_to_ascii_lowercase c.in-PrefixHeaders.prefix) (value_place b.table (member_place k)) v) tree
    (c.prefixed_spot.ensures
    ∙ ap (λ u. first_path (uncarried_prefixed b (str_to_ascii_lowercase u) (value_place b.table (member_place k)) v)) c.as_str.ensures.bytes))

pub returns-in-ResponseCode : goal.returns-in-ResponseCode
returns-in-ResponseCode c =
    let b = bound_of c.args.place.now in
    let k = c.args.member in
    let v = val_of c.args.value.now in
    let tree = uncarried b.table (json_convention true) (member_place k) v in
    subst (λ x. SeenAs (uncarried_bound (Some (binding_data x)) b k v) tree c.told-in-ResponseCode.result) (sym c.in-ResponseCode.is)
    (c.told-in-ResponseCode.ensures (uncarried_status b v) tree
    (c.whole_unless-in-ResponseCode.ensures ∙ ap (λ t. first_path (here_unless t)) c.is_status.ensures))
