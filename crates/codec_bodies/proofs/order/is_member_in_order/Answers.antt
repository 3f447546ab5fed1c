use Rattle.std.proofs.Common.{refl, subst, rules}
use Rattle.std.specs.List.{Contains}
use Rattle.sm_shapes.specs.TableView.{table_data, member_data}
use Rattle.codec_bodies.proofs.CheckedParts.{member_checked}
use Rattle.codec_bodies.proofs.order.is_member_in_order.Goals as goal

pub returns : goal.returns
returns c good =
    member_checked (table_data c.args.table.now) c.args.member (member_data c.in-Some.row.now) c.in-Some.ensures
    (c.if-not-is_shape.ensures refl)
    (c.if-not-is_shape-2.ensures refl) (subst (λ ks. Contains ks c.args.member) c.members_at.ensures (c.if-not-stands_in.ensures refl))
    c.see_names.ensures.name c.see_names.ensures.json_name (c.if-not-names_pattern.ensures refl) (c.is_default_in_order.ensures good)
    (search rules)
