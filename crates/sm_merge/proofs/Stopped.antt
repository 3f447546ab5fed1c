-- Lists of members of which none is too long, and a shape whose list is.
use Rattle.std.proofs.Common.{inl, inr, ℕ, zero, suc, ◌+◌, ◌<◌, List, [], ◌∷◌, ◌++◌, length, set, sym, ap, ◌∙◌, subst, arith}
use Rattle.std.specs.Global.{Vec}
use Rattle.std.proofs.lemmas.List.{length-map}
use Rattle.sm_model.specs.Graphs.{MemberEntry}
use Rattle.sm_merge.specs.Mixins.{EffectiveShape, IsEffective}
use Rattle.sm_merge.specs.Stated.{Stated}
use Rattle.sm_merge.specs.declared.firsts.NamedTarget.{NamedTarget}
use Rattle.sm_merge.specs.Limits.{most_members}
use Rattle.sm_merge.specs.declared.mixins.Contributing.{Contributing}
use Rattle.sm_merge.specs.declared.parts.BareShape.{BareShape}
use Rattle.sm_merge.specs.declared.table.PlaceRow.{PlaceRow}
use Rattle.sm_merge.specs.declared.walk.Walk.{Walk}
use Rattle.sm_merge.specs.steps.Contributing.{AreWalkedTables}
use Rattle.sm_merge.specs.steps.Firsts.{target_view, targets_view}
use Rattle.sm_merge.specs.steps.Links.{At}
use Rattle.sm_merge.specs.steps.Made.{HaveManyMembers}
use Rattle.sm_merge.specs.steps.MixedIn.{AreMixedIn, vec_items}
use Rattle.sm_merge.specs.steps.ShapeTables.{ids_of}
use Rattle.sm_merge.specs.steps.Stopping.{HasLongShape}
use Rattle.sm_merge.proofs.Ats.{at_there}
use Rattle.sm_merge.proofs.MixedMade.{mixed_order}
use Rattle.sm_merge.proofs.NamesMixed.{named_by}

-- one more list, which isn't too long
pub set_short : (all : List (Vec NamedTarget)) (v : ℕ) (ms : Vec NamedTarget) → (HaveManyMembers all → ⊥)
    → (most_members < length ms.items → ⊥) → HaveManyMembers (set all v ms) → ⊥
set_short [] v ms short few many = many
set_short (x ∷ all) zero ms short few (inl here) = few here
set_short (x ∷ all) zero ms short few (inr later) = short (inr later)
set_short (x ∷ all) (suc v) ms short few (inl here) = short (inl here)
set_short (x ∷ all) (suc v) ms short few (inr later) = set_short all v ms (λ many. short (inr many)) few later

pub put_short : (all : List (Vec NamedTarget)) (ms : Vec NamedTarget) → (HaveManyMembers all → ⊥)
    → (most_members < length ms.items → ⊥) → HaveManyMembers (all ++ ms ∷ []) → ⊥
put_short [] ms short few (inl here) = few here
put_short [] ms short few (inr later) = later
put_short (x ∷ all) ms short few (inl here) = short (inl here)
put_short (x ∷ all) ms short few (inr later) = put_short all ms (λ many. short (inr many)) few later

-- a shape that comes to more members than one may have
pub record HasManyOfOne (ss : List Stated) (rows : List BareShape) : Type 0 where
  pub number : ℕ
  pub id : List ℕ
  pub there : At (ids_of rows) number id
  pub long : (m : EffectiveShape) → IsEffective ss id m → most_members < length m.members

pub long_shape : (ss : List Stated) (rows : List BareShape) (traits : List PlaceRow) (walk : Walk) → AreWalkedTables ss rows traits walk
    → (mixed : List (Vec Contributing)) → AreMixedIn ss rows mixed → HasLongShape rows mixed walk.order.items → HasManyOfOne ss rows
long_shape ss rows traits walk t mixed are h =
    let o = mixed_order ss rows traits walk t mixed are in
    let any = at_there (ids_of rows) h.number (t.walked.within h.place h.number h.stands) in
    let low : h.place < h.place + 1 = omega arith in
    let named = named_by ss rows traits walk t mixed are o h.all (h.place + 1) (h.filled o) h.place h.number low h.stands in
    record {
      number = h.number;
      id = any.0;
      there = any.1;
      long = λ m is.
          subst (λ n. most_members < n)
          (sym (length-map h.list.items target_view) ∙ sym (ap (λ x. length (targets_view (vec_items x))) h.there)
          ∙ sym (ap length (named any.0 any.1 m is)) ∙ length-map m.members (λ (e : List ℕ × MemberEntry). (e.0, e.1.target)))
          h.long;
    }
