use Rattle.std.proofs.Common.{◌≡◌, ◌+◌, false, true, ◌∷◌, drop, get_or, sym, ap, ◌∙◌, subst}
use Rattle.std.specs.Option.{option_map}
use Rattle.std.proofs.lemmas.List.{drop_more}
use Rattle.sm_shapes.specs.Fitting.{Fits, any_text}
use Rattle.sm_shapes.specs.InOrder.{AreMembersOf}
use Rattle.sm_shapes.specs.Places.{member_place}
use Rattle.sm_shapes.specs.Values.{fields_of}
use Rattle.sm_shapes.specs.ValueView.{each_field_view, val_of}
use Rattle.sm_codec.specs.Encoded.{are_none, first_path}
use Rattle.sm_bind.specs.BoundView.{bound_of}
use Rattle.sm_bind_write.specs.CarriedParts.{uncarried_member, uncarried_members}
use Rattle.sm_bind_write.specs.steps.FieldsMet.{FieldsIn, Rising}
use Rattle.sm_bind_write.proofs.MissedMembers.{fields_rest, holds_seen, missed_behind, missed_here, value_fits}
use Rattle.sm_bind_write.proofs.carried.first_missed.Goals as goal

pub is_member_carried-requires-clause-fits : goal.is_member_carried-requires-clause-fits
is_member_carried-requires-clause-fits c =
    let b = bound_of c.args.place.now in
    let all = c.args.members.now in
    let i = c.loop-member.member-index in
    let k = get_or all i 0 in
    let ks = drop (i + 1) all in
    let fs = fields_of (each_field_view c.loop-member.rest.now) in
    let o = option_map (λ v. val_of v.now) c.first_value-value.result in
    let view : drop i all ≡ k ∷ ks = drop_more all i 0 c.loop-member-test.true in
    let met : FieldsIn b.table (k ∷ ks) fs = subst (λ js. FieldsIn b.table js fs) view c.loop-member.invariant.met in
    let rise : Rising (k ∷ ks) = subst Rising view c.loop-member.invariant.rise in
    holds_seen (λ v. Fits b.table any_text (member_place k) v) c.first_value-value.result
    (value_fits b k ks fs o rise.0 met c.first_value-value.ensures)

pub returns-then-not-is_member_carried : goal.returns-then-not-is_member_carried
returns-then-not-is_member_carried c =
    let b = bound_of c.args.place.now in
    let all = c.args.members.now in
    let i = c.loop-member.member-index in
    let k = get_or all i 0 in
    let ks = drop (i + 1) all in
    let fs = fields_of (each_field_view c.loop-member.rest.now) in
    let o = option_map (λ v. val_of v.now) c.first_value-value.result in
    let view : drop i all ≡ k ∷ ks = drop_more all i 0 c.loop-member-test.true in
    let met : FieldsIn b.table (k ∷ ks) fs = subst (λ js. FieldsIn b.table js fs) view c.loop-member.invariant.met in
    let stand : AreMembersOf b.table c.args.place.now.shape (k ∷ ks) =
    subst (AreMembersOf b.table c.args.place.now.shape) view c.loop-member.invariant.stand in
    let rise : Rising (k ∷ ks) = subst Rising view c.loop-member.invariant.rise in
    let seen = c.first_value-value.ensures in
    let some : are_none (uncarried_member b k o) ≡ false = sym c.is_member_carried.ensures ∙ c.if-not-is_member_carried.true in (
      (stand.0, value_fits b k ks fs o rise.0 met seen),
      sym c.loop-member.invariant.first ∙ ap (λ js. first_path (uncarried_members b fs js)) view
          ∙ missed_here b k ks fs o rise.0 met seen some,
      some,
    )

pub loop-member-preserved : goal.loop-member-preserved
loop-member-preserved c =
    let b = bound_of c.args.place.now in
    let all = c.args.members.now in
    let i = c.loop-member.member-index in
    let k = get_or all i 0 in
    let ks = drop (i + 1) all in
    let fs = fields_of (each_field_view c.loop-member.rest.now) in
    let o = option_map (λ v. val_of v.now) c.first_value-value.result in
    let view : drop i all ≡ k ∷ ks = drop_more all i 0 c.loop-member-test.true in
    let met : FieldsIn b.table (k ∷ ks) fs = subst (λ js. FieldsIn b.table js fs) view c.loop-member.invariant.met in
    let stand : AreMembersOf b.table c.args.place.now.shape (k ∷ ks) =
    subst (AreMembersOf b.table c.args.place.now.shape) view c.loop-member.invariant.stand in
    let rise : Rising (k ∷ ks) = subst Rising view c.loop-member.invariant.rise in
    let seen = c.first_value-value.ensures in
    let none : are_none (uncarried_member b k o) ≡ true = sym c.is_member_carried.ensures ∙ c.if-not-is_member_carried.false in
    record {
      first = ap (λ gs. first_path (uncarried_members b gs ks)) c.fields_behind-rest.ensures
          ∙ sym (missed_behind b k ks fs o rise.0 met seen none) ∙ ap (λ js. first_path (uncarried_members b fs js)) (sym view)
          ∙ c.loop-member.invariant.first;
      met = subst (FieldsIn b.table ks) (sym c.fields_behind-rest.ensures) (fields_rest b k ks fs o rise.0 met seen);
      stand = stand.2;
      rise = rise.1;
    }
