use Rattle.std.proofs.Common.{◌≡◌, arith, ◌+◌, suc, cond, drop, get_or, refl, sym, ap, ◌∙◌}
use Rattle.std.proofs.lemmas.List.{drop_all}
use Rattle.std.specs.Prelude.{Some}
use Rattle.std.specs.Option.{option_map}
use Rattle.sm_bind.specs.BoundView.{bound_of}
use Rattle.sm_bind_read.specs.steps.Bodies.{payload_place}
use Rattle.sm_bind_read.proofs.MembersJoined.{number_is}
use Rattle.sm_bind_read.proofs.PayloadComes.{shifted}
use Rattle.sm_bind_read.proofs.bodies.payload_among.Goals as goal

pub loop-index-preserved : goal.loop-index-preserved
loop-index-preserved c =
    let b = bound_of c.args.place.now in
    let members = c.args.members.now in
    let i = c.loop-index.index in
    let one = get_or members i 0 in
    let rest = drop (i + 1) members in
    let parts = number_is members i c.loop-index-test.true in
    shifted (payload_place b rest) i
    ∙ ap (λ z. option_map (λ n. n + i) (cond z (Some 0) (option_map suc (payload_place b rest))))
    (sym c.if-is_payload_member.false ∙ c.is_payload_member.ensures)
    ∙ ap (λ ks. option_map (λ n. n + i) (payload_place b ks)) (sym parts) ∙ c.loop-index.invariant

pub returns-then-is_payload_member : goal.returns-then-is_payload_member
returns-then-is_payload_member c =
    let b = bound_of c.args.place.now in
    let members = c.args.members.now in
    let i = c.loop-index.index in
    let one = get_or members i 0 in
    let rest = drop (i + 1) members in
    let parts = number_is members i c.loop-index-test.true in (
      sym (ap Some (let e : i ≡ 0 + i = omega arith in e)
          ∙ ap (λ z. option_map (λ n. n + i) (cond z (Some 0) (option_map suc (payload_place b rest))))
          (sym c.if-is_payload_member.true ∙ c.is_payload_member.ensures)
          ∙ ap (λ ks. option_map (λ n. n + i) (payload_place b ks)) (sym parts) ∙ c.loop-index.invariant),
      refl,
    )

pub returns : goal.returns
returns c =
    sym c.loop-index.invariant
    ∙ ap (λ ks. option_map (λ n. n + c.loop-index.index) (payload_place (bound_of c.args.place.now) ks))
    (drop_all c.loop-index.index c.args.members.now c.loop-index-test.false)
