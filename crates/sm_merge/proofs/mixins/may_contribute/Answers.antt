use Rattle.std.proofs.Common.{length, refl, sym, ap, ◌∙◌}
use Rattle.std.proofs.lemmas.Option.{slice_get_read}
use Rattle.sm_merge.specs.declared.parts.BareShape.{BareShape}
use Rattle.sm_merge.proofs.Ats.{at_one}
use Rattle.sm_merge.proofs.mixins.may_contribute.Goals as goal

pub returns : goal.returns
returns c =
    let there = slice_get_read c.args.rows.now (length c.args.rows.now) c.args.number c.index-rows-number.result refl c.requires.number
    c.index-rows-number.is in (
      λ is. record {
        row = c.index-rows-number.result;
        there = there;
        same = c.is_of.ensures.0 is;
        apart = sym c.is_on_ring.ensures ∙ c.if-is_on_ring.false;
      },
      λ may.
          c.is_of.ensures.1
          (ap (λ (r : BareShape). r.kind) (at_one c.args.rows.now c.args.number c.index-rows-number.result may.row there may.there)
          ∙ may.same),
    )
