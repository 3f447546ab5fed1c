-- A table that is filled in an order in which each number stands behind those that its entry is made from.
use Rattle.std.proofs.Common.{◌≡◌, inl, inr, ℕ, zero, suc, ◌+◌, ◌<◌, ◌≤◌, List, [], ◌∷◌, ◌++◌, length, set, Option, refl, sym, ap, subst}
use Rattle.std.proofs.Common.{◌∙◌, arith}
use Rattle.std.specs.Prelude.{slice_get}
use Rattle.std.specs.Global.{Vec}
use Rattle.sm_merge.specs.steps.EffectiveTables.{traits_of_member}
use Rattle.sm_merge.specs.steps.Filling.{AreFirstRows, FoldedRows, HasEntry, HasMixedMembers, HasMixedTraits, IsFilled}
use Rattle.sm_merge.specs.steps.Filling.{copied_traits, folded_rows, given_rows, id_at, kept_of, last_first, member_lists, member_rows}
use Rattle.sm_merge.specs.steps.Filling.{members_at, mixed_members, own_at, shape_rows}
use Rattle.sm_merge.specs.steps.Firsts.{firsts, targets_view}
use Rattle.sm_merge.specs.steps.Links.{At}
use Rattle.sm_merge.specs.steps.MixedIn.{AreBehind, IsMixedOrder, items_at, vec_items}
use Rattle.sm_merge.specs.steps.Tables.{named_view, traits_found}
use Rattle.sm_merge.specs.declared.effective.NamedFolded.{NamedFolded}
use Rattle.sm_merge.specs.declared.effective.ShapeTraits.{ShapeTraits}
use Rattle.sm_merge.specs.declared.firsts.NamedTarget.{NamedTarget}
use Rattle.sm_merge.specs.declared.mixins.Contributing.{Contributing}
use Rattle.sm_merge.specs.declared.parts.BareShape.{BareShape}
use Rattle.sm_merge.specs.declared.table.PlaceRow.{PlaceRow}
use Rattle.sm_merge.proofs.Ats.{at_one, at_other, at_stored, sides}

-- a store changes no other place
pub set_apart : {A : Type 0} (xs : List A) (i : ℕ) (y : A) (k : ℕ) → (k ≡ i → ⊥) → slice_get (set xs i y) k ≡ slice_get xs k
set_apart [] i y k other = refl
set_apart (a ∷ xs) zero y zero other = absurd (other refl)
set_apart (a ∷ xs) zero y (suc k) other = refl
set_apart (a ∷ xs) (suc i) y zero other = refl
set_apart (a ∷ xs) (suc i) y (suc k) other = set_apart xs i y k (λ e. other (ap suc e))

-- two tables have the same at the numbers of these mixins
abbrev pub SameAt : {E : Type 0} → List E → List E → List Contributing → Type 0
SameAt a b [] = Unit {0}
SameAt a b (c ∷ cs) = (slice_get b c.number ≡ slice_get a c.number) × SameAt a b cs

module _ {E : Type 0} (mixed : List (Vec Contributing)) (R : ℕ → List E → E → Type 0)
    (local : (v : ℕ) (a b : List E) (e : E) → SameAt a b (items_at mixed v) → R v a e → R v b e) (order : List ℕ)
    (o : IsMixedOrder order mixed) where
  -- numbers before a place stay as they were where that place's number is stored
  stay : (i k v : ℕ) (all : List E) (e : E) (cs : List Contributing) → i ≤ k → At order k v → AreBehind order i cs
      → SameAt all (set all v e) cs
  stay i k v all e [] low at_k behind = tt
  stay i k v all e (c ∷ cs) low at_k behind =
      let b = behind.0 in (
        set_apart all v e c.number (λ same.
            let place : b.place ≡ k = o.once b.place k v (subst (At order b.place) same b.there) at_k in
            let before : b.place < i = b.before in
            absurd (omega (arith, place, before, low))),
        stay i k v all e cs low at_k behind.1,
      )

  pub fill_step : (k v : ℕ) (all : List E) (e : E) → At order k v → v < length all → R v all e → IsFilled R order k all
      → IsFilled R order (k + 1) (set all v e)
  fill_step k v all e at_k small is filled i w low at_i = elim (sides i k) [
    | inl less ↦
        let h = filled i w less at_i in
        let apart : w ≡ v → ⊥ = λ same.
        let place : i ≡ k = o.once i k v (subst (At order i) same at_i) at_k in omega (arith, place, less) in
        let below : i ≤ k = omega (arith, less) in
        record {
          entry = h.entry;
          there = at_other all v e w h.entry apart h.there;
          is = local w all (set all v e) h.entry (stay i k v all e (items_at mixed w) below at_k (o.behind i w at_i)) h.is;
        }
    | inr more ↦
        let place : i ≡ k = omega (arith, more, low) in
        let same : w ≡ v = at_one order k w v (subst (λ j. At order j w) place at_i) at_k in
        let none : k ≤ k = omega arith in
        subst (HasEntry R (set all v e)) (sym same) (record {
          entry = e;
          there = at_stored all v e small;
          is = local v all (set all v e) e (stay k k v all e (items_at mixed v) none at_k (o.behind k v at_k)) is;
        })
  ]

-- entries depend on those of mixins alone
same_members : (a b : List (Vec NamedTarget)) (cs : List Contributing) → SameAt a b cs → mixed_members b cs ≡ mixed_members a cs
same_members a b [] h = refl
same_members a b (c ∷ cs) h = λ i. targets_view (vec_items (h.0 i)) ++ same_members a b cs h.1 i

pub members_local : (rows : List BareShape) (mixed : List (Vec Contributing)) (v : ℕ) (a b : List (Vec NamedTarget)) (e : Vec NamedTarget)
    → SameAt a b (items_at mixed v) → HasMixedMembers rows mixed v a e → HasMixedMembers rows mixed v b e
members_local rows mixed v a b e same is =
    is ∙ sym (ap (λ ms. firsts (ms ++ own_at rows v)) (same_members a b (items_at mixed v) same))

same_last : (f : Option ShapeTraits → FoldedRows) (a b : List ShapeTraits) (cs : List Contributing) → SameAt a b cs
    → last_first (λ c. f (slice_get b c.number)) cs ≡ last_first (λ c. f (slice_get a c.number)) cs
same_last f a b [] h = refl
same_last f a b (c ∷ cs) h = λ i. same_last f a b cs h.1 i ++ f (h.0 i)

first_rows_of : (rows others : FoldedRows) (ts : List NamedFolded) → others ≡ rows → AreFirstRows rows ts → AreFirstRows others ts
first_rows_of rows others ts e h = subst (λ r. AreFirstRows r ts) (sym e) h

pub traits_local : (traits : List PlaceRow) (rows : List BareShape) (members : List (Vec NamedTarget)) (mixed : List (Vec Contributing))
    (v : ℕ) (a b : List ShapeTraits) (t : ShapeTraits) → SameAt a b (items_at mixed v) → HasMixedTraits traits rows members mixed v a t
    → HasMixedTraits traits rows members mixed v b t
traits_local traits rows members mixed v a b t same is =
    let cs = items_at mixed v in
    record {
      own = first_rows_of (shape_rows traits (id_at rows v) a (items_at mixed v)) (shape_rows traits (id_at rows v) b (items_at mixed v))
          t.own.items
          (ap (λ r. named_view (traits_found (id_at rows v) traits) ++ r)
          (same_last (λ o. folded_rows (copied_traits o)) a b (items_at mixed v) same)) is.own;
      copied = is.copied;
      rise = is.rise;
      members = λ name.
          first_rows_of (member_rows traits (id_at rows v) (members_at members v) a (items_at mixed v) name)
          (member_rows traits (id_at rows v) (members_at members v) b (items_at mixed v) name) (traits_of_member name t.members.items)
          (ap (λ r. given_rows traits (id_at rows v) (members_at members v) name ++ r)
          (same_last (λ o. kept_of (member_lists o) name) a b (items_at mixed v) same))
          (is.members name);
    }
