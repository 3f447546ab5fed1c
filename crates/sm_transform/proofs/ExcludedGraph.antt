-- Leaving out what is out is safe, and what it leaves of a graph is what `exclude` makes of it.
use Rattle.std.proofs.Common.{◌≡◌, inl, inr, ℕ, Bool, true, false, List, [], ◌∷◌, Some, None, refl, sym, ap, subst, ◌∙◌}
use Rattle.std.specs.Prelude.{◌↔◌, is_some, if◌then◌else◌}
use Rattle.std.specs.FinMap as fin
use Rattle.std.specs.Option.{unwrap_or}
use Rattle.std.proofs.lemmas.Bool.{cases_Bool}
use Rattle.std.proofs.lemmas.Option.{none-some, same_Some}
use Rattle.sm_ids.specs.IdText.{IsIdText, IsShapeId}
use Rattle.sm_ids.specs.TextParts.{member_id}
use Rattle.sm_model.specs.Formed.{StandsAmong}
use Rattle.sm_model.specs.FormedGraph.{IsFormedGraph}
use Rattle.sm_model.specs.Given.{IsNodeMap}
use Rattle.sm_model.specs.Graphs.{Entry, GraphMaps, ShapeEntry, ShapeMap, member_entry, shape_entry}
use Rattle.sm_model.specs.GraphView.{maps_of}
use Rattle.sm_model.specs.Relations.{HasEntry, IsInGraph}
use Rattle.sm_model.specs.declared.graph.Graph.{Graph}
use Rattle.sm_model.proofs.GivenEntries.{AreThere, MemberThere, ids_there}
use Rattle.sm_model.proofs.Worklist.{apart}
use Rattle.sm_select.specs.Selectors.{Steps}
use Rattle.sm_transform.specs.Changed.{Changed, IsMadeOf, exclude, unless}
use Rattle.sm_transform.specs.Excluded.{IsCollection, IsOut, its_member, its_shape, lacks, picked}
use Rattle.sm_transform.specs.IdChanges.{entry_after, id_after}
use Rattle.sm_transform.specs.Namespaces.{is_of_api}
use Rattle.sm_transform.specs.steps.Changing.{IsLeft, IsSafeFor}
use Rattle.sm_transform.proofs.FormedHomes.{whole_at}
use Rattle.sm_transform.proofs.IncludedGraph.{same_api, to_member}

-- a graph may be said to be made in other words
pub made_same : (S T : List ℕ → Type 0) (m n : List ℕ → List ℕ) (a : Entry → Entry) (g h : GraphMaps) → ((id : List ℕ) → S id ↔ T id)
    → ((id : List ℕ) → m id ≡ n id) → IsMadeOf S m a g h → IsMadeOf T n a g h
made_same S T m n a g h same moved made = record {
  shapes = λ id e. (
    λ x. let c = (made.shapes id e).0 x in (c.0, c.1, c.2, (same c.0).0 c.3, c.4 ∙ moved c.0, c.5),
    λ c. (made.shapes id e).1 (c.0, c.1, c.2, (same c.0).1 c.3, c.4 ∙ sym (moved c.0), c.5),
  );
  metadata = made.metadata;
}

module _ (out : List ℕ → Bool) where
  -- an id that isn't out is left as it is
  unless_is : (id new : List ℕ) → unless out id ≡ Some new → id ≡ new
  unless_is id new is = by (out id) is
    where
      by : (b : Bool) → (if b then None else Some id) ≡ Some new → id ≡ new
      by true h = absurd (none-some new h)
      by false h = same_Some id new h

  after_same : (id : List ℕ) → id_after (unless out) id ≡ id
  after_same id = by (out id)
    where
      by : (b : Bool) → unwrap_or (if b then None else Some id) id ≡ id
      by true = refl
      by false = refl

  left_is : (id : List ℕ) → IsLeft (unless out) id ↔ (out id ≡ false)
  left_is id = by (out id)
    where
      by : (b : Bool) → (is_some (if b then None else Some id) ≡ true) ↔ (b ≡ false)
      by true = (λ h. absurd (apart h), λ h. absurd (apart (sym h)))
      by false = (λ h. refl, λ h. refl)

-- members that are listed are there
listed_there : (shapes : ShapeMap) (id : List ℕ) (ws : List MemberThere) → AreThere IsNodeMap shapes id ws → (k : List ℕ)
    → StandsAmong k (ids_there id ws) → (name : List ℕ) × (e : Entry) × (k ≡ member_id id name) × (fin.get shapes k ≡ Some e)
listed_there shapes id [] there k among = absurd among
listed_there shapes id (w ∷ ws) there k (inl same) = (w.name, member_entry w.entry, same, ap (fin.get shapes) same ∙ there.0.found)
listed_there shapes id (w ∷ ws) there k (inr later) = listed_there shapes id ws there.1 k later

module _ (g : Graph) (f : IsFormedGraph (maps_of g)) (steps : Steps) (out : List ℕ → Bool)
    (told : (id : List ℕ) → (out id ≡ true) ↔ IsOut (maps_of g) steps id) where
  abbrev m : GraphMaps
  m = maps_of g

  abbrev Out : List ℕ → Type 0
  Out id = IsOut m steps id

  out_own : (id : List ℕ) → Out id → is_of_api id ≡ false
  out_own id (picked api h) = api
  out_own id (lacks api h needs) = api

  record IsListed (id k : List ℕ) (s : ShapeEntry) : Type 0 where
    is : IsShapeId id
    name : List ℕ
    k_is : k ≡ member_id id name
    has : IsInGraph m k

  listed : (id k : List ℕ) (s : ShapeEntry) → HasEntry m id (shape_entry s) → StandsAmong k s.members → IsListed id k s
  listed id k s there among =
      let w = whole_at m f id s there in
      let l = listed_there m.shapes id w.members w.there k (subst (StandsAmong k) w.ids among) in
      record { is = w.is_shape; name = l.0; k_is = l.2; has = (l.1, l.3) }

  one_api : (id k : List ℕ) (s : ShapeEntry) → IsListed id k s → is_of_api k ≡ is_of_api id
  one_api id k s l = ap is_of_api l.k_is ∙ same_api m steps id l.name l.is

  -- a member of a shape that is out is out, and so is a list or map with a member that is out
  member_out : (id k : List ℕ) (s : ShapeEntry) → HasEntry m id (shape_entry s) → StandsAmong k s.members → Out id → Out k
  member_out id k s there among h =
      let l = listed id k s there among in
      lacks (one_api id k s l ∙ out_own id h) h (its_shape (to_member m steps id s k there among l.has))

  collection_out : (id k : List ℕ) (s : ShapeEntry) → HasEntry m id (shape_entry s) → IsCollection m id → StandsAmong k s.members
      → Out k → Out id
  collection_out id k s there is among h =
      let l = listed id k s there among in
      lacks (sym (one_api id k s l) ∙ out_own k h) h (its_member is (to_member m steps id s k there among l.has))

  not_out : (id : List ℕ) → (Out id → ⊥) → out id ≡ false
  not_out id never = elim (cases_Bool (out id)) [
    | inl yes_out ↦ absurd (never ((told id).0 yes_out))
    | inr not_in ↦ not_in
  ]

  still : (id : List ℕ) → out id ≡ false → Out id → ⊥
  still id is h = apart (sym is ∙ (told id).1 h)

  pub out_safe : IsSafeFor m (unless out)
  out_safe = record {
    ids = λ id new is h. subst IsIdText (unless_is out id new h) is;
    shapes = λ id is. subst IsShapeId (sym (after_same out id)) is;
    members = λ shape name new is identifier h.
        sym (unless_is out (member_id shape name) new h) ∙ ap (λ s. member_id s name) (sym (after_same out shape));
    homes = λ shape name s is there among left.
        (left_is out shape).1 (not_out shape (λ h. still (member_id shape name) ((left_is out (member_id shape name)).0 left)
        (member_out shape (member_id shape name) s there among h)));
    whole = λ id member s there is left among.
        (left_is out member).1 (not_out member (λ h. still id ((left_is out id).0 left) (collection_out id member s there is among h)));
    apart = λ a b x y same. sym (after_same out a) ∙ same ∙ after_same out b;
    traits_apart = λ id a b new x y h k. unless_is out a new h ∙ sym (unless_is out b new k);
    keys_apart = λ a b new x y h k. unless_is out a new h ∙ sym (unless_is out b new k);
  }

  pub excluded_made : (h : GraphMaps) → IsMadeOf (IsLeft (unless out)) (id_after (unless out)) (entry_after (unless out)) m h
      → Changed m (exclude steps) h
  excluded_made h made = record {
    out = out;
    told = told;
    made = made_same (IsLeft (unless out)) (λ id. out id ≡ false) (id_after (unless out)) (λ id. id) (entry_after (unless out)) m h
        (left_is out) (after_same out) made;
  }
