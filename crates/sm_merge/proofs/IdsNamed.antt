-- Tables of statements that readers give have ids of shapes and names of members.
use Rattle.std.proofs.Common.{◌≡◌, inl, inr, ℕ, zero, suc, ◌<◌, List, [], ◌∷◌, length, get_or, map, sym, ap, subst, arith}
use Rattle.std.specs.Global.{Vec}
use Rattle.std.proofs.lemmas.Option.{none-some, same_Some}
use Rattle.sm_ids.specs.Identifier.{IsIdentifier}
use Rattle.sm_model.specs.Graphs.{MemberGiven}
use Rattle.sm_model.specs.References.{IsShapeId}
use Rattle.sm_model.proofs.MapFacts.{Each}
use Rattle.sm_merge.specs.Places.{names_and_targets}
use Rattle.sm_merge.specs.Stated.{Stated}
use Rattle.sm_merge.specs.declared.effective.MemberTraits.{MemberTraits}
use Rattle.sm_merge.specs.declared.effective.ShapeTraits.{ShapeTraits}
use Rattle.sm_merge.specs.declared.firsts.NamedTarget.{NamedTarget}
use Rattle.sm_merge.specs.declared.mixins.Contributing.{Contributing}
use Rattle.sm_merge.specs.declared.parts.BareShape.{BareShape}
use Rattle.sm_merge.specs.declared.tables.Tables.{Tables}
use Rattle.sm_merge.specs.declared.walk.Walk.{Walk}
use Rattle.sm_merge.specs.steps.EffectiveTables.{effective_member, effective_view}
use Rattle.sm_merge.specs.steps.Firsts.{NamesAndTargets, targets_view}
use Rattle.sm_merge.specs.steps.Links.{At}
use Rattle.sm_merge.specs.steps.NamedIds.{AllNamed, AreNamedIds, AreNames, IsNamedRow}
use Rattle.sm_merge.specs.steps.Placed.{Bare, bare_view}
use Rattle.sm_merge.specs.steps.ShapeTables.{shapes_view}
use Rattle.sm_merge.specs.steps.SoundStated.{AreNamedTargets}
use Rattle.sm_merge.specs.steps.Verdicts.{AreWholeTables}
use Rattle.sm_merge.proofs.Ats.{at_map, at_there, at_within}
use Rattle.sm_merge.proofs.EffectiveSound.{IsSoundMember, effective_sound}
use Rattle.sm_merge.proofs.EntriesFound.{Has}
use Rattle.sm_merge.proofs.MetadataMade.{gives_nodes}
use Rattle.sm_merge.proofs.StatedSound.{sound_under}
use Rattle.sm_merge.proofs.WholeGiven.{IsStatedRow, rows_stated}

-- one of them, as a loop has it
pub name_one : (ms : List NamedTarget) (i : ℕ) (m : NamedTarget) → AreNames (targets_view ms) → i < length ms → m ≡ get_or ms i m
    → IsIdentifier m.name.now
name_one [] i m h small is = absurd (omega (arith, small))
name_one (d ∷ ms) zero m h small is = subst (λ x. IsIdentifier x.name.now) (sym is) h.0
name_one (d ∷ ms) (suc i) m h small is = name_one ms i m h.1 (omega (arith, small)) is

pub own_one : (ps : NamesAndTargets) (i : ℕ) (p : List ℕ × List ℕ) → AreNames ps → i < length ps → p ≡ get_or ps i p → IsIdentifier p.0
own_one [] i p h small is = absurd (omega (arith, small))
own_one (d ∷ ps) zero p h small is = subst (λ x. IsIdentifier x.0) (sym is) h.0
own_one (d ∷ ps) (suc i) p h small is = own_one ps i p h.1 (omega (arith, small)) is

-- names of statements, and of what they come to
names_given : (ms : List MemberGiven) → AreNamedTargets ms → AreNames (names_and_targets ms)
names_given [] h = tt
names_given (m ∷ ms) h = (h.0, names_given ms h.2)

names_made : (ts : List MemberTraits) (ps : NamesAndTargets) → Each IsSoundMember (map (effective_member ts) ps) → AreNames ps
names_made ts [] h = tt
names_made ts (p ∷ ps) h = (h.0.0.0, names_made ts ps h.1)

row_has : (rows : List BareShape) (v : ℕ) (row : BareShape) → At rows v row → Has row.id (bare_view row) (shapes_view rows)
row_has [] v row h = absurd (none-some row h)
row_has (r ∷ rows) zero row h =
    let same = same_Some r row h in
    inl (sym (ap (λ (x : BareShape). x.id) same), sym (ap bare_view same))
row_has (r ∷ rows) (suc v) row h = inr (row_has rows v row h)

module _ (ss : List Stated) (t : Tables) (walk : Walk) (mixed : List (Vec Contributing)) (members : List (Vec NamedTarget))
    (all : List ShapeTraits) (h : AreWholeTables ss t walk mixed members all) where
  row_of : (v : ℕ) (row : BareShape) → At t.shapes.rows.items v row → IsStatedRow ss row.id (bare_view row)
  row_of v row there =
      rows_stated ss t.shapes.rows.items h.names.sound.tables.shapes.rows row.id (bare_view row) (row_has t.shapes.rows.items v row there)

  row_named : (v : ℕ) (row : BareShape) → At t.shapes.rows.items v row → IsNamedRow row
  row_named v row there =
      let r = row_of v row there in
      let under = sound_under row.id ss r.s h.names.sound.sound r.there in record {
        id = subst IsShapeId under.same under.shape.id;
        own = subst AreNames (ap (λ (b : Bare). b.members) r.bare) (names_given r.s.shape.members under.shape.members);
      }

  all_named : AllNamed members
  all_named v ms there =
      let inside = at_within members v ms there in
      let members_size = h.names.named.size in
      let traits_size = h.effective.size in
      let row = at_there t.shapes.rows.items v (omega (arith, inside, members_size)) in
      let ts = at_there all v (omega (arith, inside, members_size, traits_size)) in
      let r = row_of v row.0 row.1 in
      let at_id = at_map (λ (e : List ℕ × Bare). e.0) (shapes_view t.shapes.rows.items) v (row.0.id, bare_view row.0)
      (at_map (λ (s : BareShape). (s.id, bare_view s)) t.shapes.rows.items v row.0 row.1) in
      let sound = effective_sound ss (gives_nodes ss t.traits.items h.names.sound.tables.traits) h.names.sound.sound row.0.id
      (effective_view ms.items ts.0) (h.effective.each v row.0.id ms ts.0 at_id there ts.1) r.s r.there in
      names_made ts.0.members.items (targets_view ms.items) sound.members

  pub named_ids : AreNamedIds t.shapes.rows.items members
  named_ids = record { rows_are = row_named; all = all_named }
