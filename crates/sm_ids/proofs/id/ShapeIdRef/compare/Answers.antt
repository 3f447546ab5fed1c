use Rattle.std.proofs.Common.{◌∙◌, refl, sym, ap}
use Rattle.std.specs.Ordering.{nat_cmp}
use Rattle.std.specs.Cmp.Lexicographic.{slice_cmp}
use Rattle.sm_ids.specs.View.{id_of}
use Rattle.sm_ids.proofs.Parting.{borrowed_id}
use Rattle.sm_ids.proofs.PartOrder.{by_namespaces, by_names, by_members, given_name}
use Rattle.sm_ids.proofs.id.ShapeIdRef.compare.Goals as goal

pub returns-then-is_ne : goal.returns-then-is_ne
returns-then-is_ne c =
    by_namespaces (id_of c.args.self.now) (id_of c.args.other.now) _ (borrowed_id c.args.self.now) (borrowed_id c.args.other.now)
    c.order_of-order.ensures (sym c.is_ne.ensures ∙ c.if-is_ne.true)

pub returns-then-is_ne-2 : goal.returns-then-is_ne-2
returns-then-is_ne-2 c =
    by_names (id_of c.args.self.now) (id_of c.args.other.now) _ _ (borrowed_id c.args.self.now) (borrowed_id c.args.other.now)
    c.order_of-order.ensures (sym c.is_ne.ensures ∙ c.if-is_ne.false) c.order_of-order-2.ensures (sym c.is_ne-2.ensures ∙ c.if-is_ne-2.true)

pub returns : goal.returns
returns c =
    let own = given_name c.args.self.now.member c.unwrap_or.result _ c.unwrap_or.ensures refl in
    let given = given_name c.args.other.now.member c.unwrap_or-2.result _ c.unwrap_or-2.ensures refl in
    by_members (id_of c.args.self.now) (id_of c.args.other.now) _ _ _ (borrowed_id c.args.self.now) (borrowed_id c.args.other.now)
    c.order_of-order.ensures (sym c.is_ne.ensures ∙ c.if-is_ne.false) c.order_of-order-2.ensures
    (sym c.is_ne-2.ensures ∙ c.if-is_ne-2.false)
    (c.order_of.ensures ∙ ap (λ x. slice_cmp nat_cmp x c.unwrap_or-2.result.now) own ∙ ap (slice_cmp nat_cmp _) given)
