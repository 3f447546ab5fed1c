-- Leaving out what is out is faithful: a member of a shape that is out is out, and a list or map with a member that is out.
use Rattle.std.proofs.Common.{◌≡◌, inl, inr, ℕ, Bool, true, false, List, [], ◌∷◌, map, Some, None, refl, sym, ap, subst, ◌∙◌}
use Rattle.std.proofs.Common.{bytes_eq}
use Rattle.std.specs.Prelude.{◌↔◌, is_some, if◌then◌else◌}
use Rattle.std.specs.FinMap as fin
use Rattle.std.specs.Option.{unwrap_or}
use Rattle.std.proofs.lemmas.Bool.{cases_Bool, true≢false}
use Rattle.std.proofs.lemmas.Option.{none-some, same_Some}
use Rattle.sm_ids.specs.IdText.{IsIdText, IsShapeId}
use Rattle.sm_ids.specs.TextParts.{member_id}
use Rattle.sm_model.specs.Formed.{StandsAmong}
use Rattle.sm_model.specs.Graphs.{Entry, GraphMaps, ShapeEntry, member_entry, shape_entry}
use Rattle.sm_model.specs.PreludeShapes.{is_prelude_id}
use Rattle.sm_model.specs.Relations.{HasEntry, IsInGraph, IsRelated}
use Rattle.sm_model.specs.declared.relation.Relation.TheVariants.{Member}
use Rattle.sm_merge.proofs.PreludeGiven.{clash}
use Rattle.sm_merge.proofs.RegularGraphs.{IsRegular}
use Rattle.sm_select.specs.Selectors.{Steps}
use Rattle.sm_transform.specs.Changed.{IsMadeOf, unless}
use Rattle.sm_transform.specs.Excluded.{IsCollection, IsOut, its_member, its_shape, lacks, picked}
use Rattle.sm_transform.specs.IdChanges.{entry_after, id_after}
use Rattle.sm_transform.specs.Namespaces.{api_namespace, is_of_api}
use Rattle.sm_transform.specs.steps.Changing.{IsLeft, IsSafeFor}
use Rattle.sm_again.proofs.MergedShapes.{prelude_plain}
use Rattle.sm_changed_again.proofs.Faithful.{IsFaithful}
use Rattle.sm_changed_again.proofs.IdParts.{member_namespace}
use Rattle.sm_changed_again.proofs.IncludedWhole.{among_contains}
use Rattle.sm_changed_again.proofs.LeftShapes.{left_faithful}

-- a graph may be said to be made in other words
pub made_same : (S T : List ℕ → Type 0) (m n : List ℕ → List ℕ) (a : Entry → Entry) (g h : GraphMaps) → ((id : List ℕ) → S id ↔ T id)
    → ((id : List ℕ) → m id ≡ n id) → IsMadeOf S m a g h → IsMadeOf T n a g h
made_same S T m n a g h same moved made = record {
  shapes = λ id e. (
    λ x. let c = (made.shapes id e).0 x in (c.0, c.1, c.2, (same c.0).0 c.3, c.4 ∙ moved c.0, c.5),
    λ c. (made.shapes id e).1 (c.0, c.1, c.2, (same c.0).1 c.3, c.4 ∙ sym (moved c.0), c.5),
  );
  metadata = made.metadata;
}

module _ (out : List ℕ → Bool) where
  -- an id that isn't out is left as it is
  unless_is : (id new : List ℕ) → unless out id ≡ Some new → id ≡ new
  unless_is id new is = by (out id) is
    where
      by : (b : Bool) → (if b then None else Some id) ≡ Some new → id ≡ new
      by true h = absurd (none-some new h)
      by false h = same_Some id new h

  after_same : (id : List ℕ) → id_after (unless out) id ≡ id
  after_same id = by (out id)
    where
      by : (b : Bool) → unwrap_or (if b then None else Some id) id ≡ id
      by true = refl
      by false = refl

  left_is : (id : List ℕ) → IsLeft (unless out) id ↔ (out id ≡ false)
  left_is id = by (out id)
    where
      by : (b : Bool) → (is_some (if b then None else Some id) ≡ true) ↔ (b ≡ false)
      by true = (λ h. absurd (true≢false (sym h)), λ h. absurd (true≢false h))
      by false = (λ h. refl, λ h. refl)

module _ (g : GraphMaps) (regular : IsRegular g) (steps : Steps) (out : List ℕ → Bool)
    (told : (id : List ℕ) → (out id ≡ true) ↔ IsOut g steps id) where
  abbrev Out : List ℕ → Type 0
  Out id = IsOut g steps id

  out_own : (id : List ℕ) → Out id → is_of_api id ≡ false
  out_own id (picked api h) = api
  out_own id (lacks api h needs) = api

  -- members that are listed are there
  record IsListed (id k : List ℕ) : Type 0 where
    is : IsShapeId id
    name : List ℕ
    k_is : k ≡ member_id id name
    has : IsInGraph g k

  among_named : (id k : List ℕ) (names : List (List ℕ)) → StandsAmong k (map (member_id id) names)
      → (name : List ℕ) × StandsAmong name names × (k ≡ member_id id name)
  among_named id k [] h = absurd h
  among_named id k (n ∷ ns) (inl same) = (n, inl refl, same)
  among_named id k (n ∷ ns) (inr later) = let r = among_named id k ns later in (r.0, inr r.1, r.2)

  listed : (id k : List ℕ) (s : ShapeEntry) → HasEntry g id (shape_entry s) → StandsAmong k s.members → IsListed id k
  listed id k s there among = elim (regular.entries id (shape_entry s) there) [
    | inl of_prelude ↦ absurd (subst (StandsAmong k) (prelude_plain id (shape_entry s) of_prelude).1 among)
    | inr r ↦
        let n = among_named id k r.names (subst (StandsAmong k) r.members among) in
        let held = r.each n.0 n.1 in record {
          is = r.is;
          name = n.0;
          k_is = n.2;
          has = (member_entry held.0, ap (fin.get g.shapes) n.2 ∙ held.1);
        }
  ]

  one_api : (id k : List ℕ) → IsListed id k → is_of_api k ≡ is_of_api id
  one_api id k l = ap is_of_api l.k_is ∙ ap (λ n. bytes_eq n api_namespace) (member_namespace id l.name l.is)

  lists : (id k : List ℕ) (s : ShapeEntry) → HasEntry g id (shape_entry s) → StandsAmong k s.members → IsInGraph g k
      → IsRelated Member g id k
  lists id k s there among has = (shape_entry s, there, inl (refl, among_contains k s.members among), has)

  member_out : (id k : List ℕ) (s : ShapeEntry) → HasEntry g id (shape_entry s) → StandsAmong k s.members → Out id → Out k
  member_out id k s there among h =
      let l = listed id k s there among in lacks (one_api id k l ∙ out_own id h) h (its_shape (lists id k s there among l.has))

  collection_out : (id k : List ℕ) (s : ShapeEntry) → HasEntry g id (shape_entry s) → IsCollection g id → StandsAmong k s.members
      → Out k → Out id
  collection_out id k s there is among h =
      let l = listed id k s there among in
      lacks (sym (one_api id k l) ∙ out_own k h) h (its_member is (lists id k s there among l.has))

  not_out : (id : List ℕ) → (Out id → ⊥) → out id ≡ false
  not_out id never = elim (cases_Bool (out id)) [
    | inl is_out ↦ absurd (never ((told id).0 is_out))
    | inr not_in ↦ not_in
  ]

  still : (id : List ℕ) → out id ≡ false → Out id → ⊥
  still id is h = true≢false (sym ((told id).1 h) ∙ is)

  out_safe : IsSafeFor g (unless out)
  out_safe = record {
    ids = λ id new is h. subst IsIdText (unless_is out id new h) is;
    shapes = λ id is. subst IsShapeId (sym (after_same out id)) is;
    members = λ shape name new is identifier h.
        sym (unless_is out (member_id shape name) new h) ∙ ap (λ s. member_id s name) (sym (after_same out shape));
    homes = λ shape name s is there among left.
        (left_is out shape).1 (not_out shape (λ h. still (member_id shape name) ((left_is out (member_id shape name)).0 left)
        (member_out shape (member_id shape name) s there among h)));
    whole = λ id member s there is left among.
        (left_is out member).1 (not_out member (λ h. still id ((left_is out id).0 left) (collection_out id member s there is among h)));
    apart = λ a b x y same. sym (after_same out a) ∙ same ∙ after_same out b;
    traits_apart = λ id a b new x y h k. unless_is out a new h ∙ sym (unless_is out b new k);
    keys_apart = λ a b new x y h k. unless_is out a new h ∙ sym (unless_is out b new k);
  }

  api_kept : (id : List ℕ) → is_of_api id ≡ true → unless out id ≡ Some id
  api_kept id api =
      ap (λ b. if b then None else Some id) (not_out id (λ h. clash (is_of_api id) api (out_own id h)))

  pub exclude_faithful : IsFaithful g (IsLeft (unless out)) (id_after (unless out)) (entry_after (unless out))
  exclude_faithful =
      left_faithful g (unless out) out_safe
      (λ shape name is. after_same out (member_id shape name) ∙ ap (λ s. member_id s name) (sym (after_same out shape)))
      api_kept (λ id has own. ap is_prelude_id (after_same out id) ∙ own)

  pub excluded_made : (h : GraphMaps) → IsMadeOf (λ id. out id ≡ false) (λ id. id) (entry_after (unless out)) g h
      → IsMadeOf (IsLeft (unless out)) (id_after (unless out)) (entry_after (unless out)) g h
  excluded_made h made =
      made_same (λ id. out id ≡ false) (IsLeft (unless out)) (λ id. id) (id_after (unless out)) (entry_after (unless out)) g h
      (λ id. ((left_is out id).1, (left_is out id).0)) (λ id. sym (after_same out id)) made
