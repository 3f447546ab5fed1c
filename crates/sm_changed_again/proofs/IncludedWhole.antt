-- Keeping what is picked with all that it needs is faithful: a shape that stays has all its members, and a member its shape.
use Rattle.std.proofs.Common.{◌≡◌, inl, inr, ℕ, List, [], ◌∷◌, refl, sym, ap, subst, ◌∙◌, arith, bytes_eq}
use Rattle.std.specs.List.{Contains}
use Rattle.sm_ids.specs.IdText.{IsShapeId}
use Rattle.sm_ids.specs.TextParts.{member_id}
use Rattle.sm_model.specs.Formed.{StandsAmong}
use Rattle.sm_model.specs.Graphs.{Entry, GraphMaps, ShapeEntry, member_entry, shape_entry}
use Rattle.sm_model.specs.Relations.{HasEntry, IsInGraph, IsRelated}
use Rattle.sm_model.specs.declared.relation.Relation.TheVariants.{Container, Member}
use Rattle.sm_model.proofs.OneRising.{contains_behind, contains_head}
use Rattle.sm_merge.proofs.RegularGraphs.{IsRegularShape}
use Rattle.sm_select.specs.Selectors.{Steps}
use Rattle.sm_transform.specs.Included.{StaysIncluded, related}
use Rattle.sm_transform.specs.Namespaces.{api_namespace, is_of_api}
use Rattle.sm_changed_again.proofs.Faithful.{IsFaithful, IsNoLarger, IsShapeKept}
use Rattle.sm_changed_again.proofs.IdParts.{member_namespace, prelude_of_api}
use Rattle.sm_changed_again.proofs.KeptGraphs.{named_listed}

pub among_contains : (k : List ℕ) (ks : List (List ℕ)) → StandsAmong k ks → Contains ks k
among_contains k [] h = absurd h
among_contains k (j ∷ ks) (inl same) = subst (Contains (j ∷ ks)) (sym same) (contains_head j ks)
among_contains k (j ∷ ks) (inr h) = contains_behind j k ks (among_contains k ks h)

module _ (g : GraphMaps) (steps : Steps) where
  abbrev Stays : List ℕ → Type 0
  Stays id = StaysIncluded g steps id

  same_api : (shape name : List ℕ) → IsShapeId shape → is_of_api (member_id shape name) ≡ is_of_api shape
  same_api shape name is = ap (λ n. bytes_eq n api_namespace) (member_namespace shape name is)

  lists : (shape : List ℕ) (s : ShapeEntry) (id : List ℕ) → HasEntry g shape (shape_entry s) → StandsAmong id s.members → IsInGraph g id
      → IsRelated Member g shape id
  lists shape s id there listed has = (shape_entry s, there, inl (refl, among_contains id s.members listed), has)

  shape_stays : (shape name : List ℕ) (s : ShapeEntry) → HasEntry g shape (shape_entry s) → IsShapeId shape
      → StandsAmong (member_id shape name) s.members → IsInGraph g (member_id shape name) → Stays (member_id shape name) → Stays shape
  shape_stays shape name s there is listed has (inl in_set) =
      inl (related Container in_set (lists shape s (member_id shape name) there listed has))
  shape_stays shape name s there is listed has (inr api) = inr (sym (same_api shape name is) ∙ api)

  member_stays : (shape name : List ℕ) (s : ShapeEntry) → HasEntry g shape (shape_entry s) → IsShapeId shape
      → StandsAmong (member_id shape name) s.members → IsInGraph g (member_id shape name) → Stays shape → Stays (member_id shape name)
  member_stays shape name s there is listed has (inl in_set) =
      inl (related Member in_set (lists shape s (member_id shape name) there listed has))
  member_stays shape name s there is listed has (inr api) = inr (same_api shape name is ∙ api)

  same_size : (e : Entry) → IsNoLarger e e
  same_size e = record { shapes = omega arith; members = omega arith; traits = omega arith }

  shape_kept : (id : List ℕ) (s : ShapeEntry) → HasEntry g id (shape_entry s) → Stays id → (r : IsRegularShape g id s)
      → IsShapeKept Stays (λ k. k) (λ e. e) id s r.names
  shape_kept id s has stays r = record {
    now = s;
    is = refl;
    kind = refl;
    left = r.names;
    differ = r.differ;
    members = r.members;
    stay = λ name among.
        let held = r.each name among in (
          among,
          member_stays id name s has r.is (subst (StandsAmong (member_id id name)) (sym r.members) (named_listed id name r.names among))
              (member_entry held.0, held.1) stays,
        );
    all = λ name among here. among;
    form = λ form. form;
    given = r.given;
    comes = r.comes;
    body = r.body;
    traits = λ held. held;
  }

  pub include_faithful : IsFaithful g Stays (λ k. k) (λ e. e)
  include_faithful = record {
    prelude = λ id e is. (inr (prelude_of_api id e is), refl);
    kept_ids = λ id is. refl;
    own = λ id has own. own;
    ids = λ id is. is;
    members = λ shape name is. refl;
    homes = shape_stays;
    shape = shape_kept;
    member = λ id m has stays. record {
      now = m;
      is = refl;
      target = λ is. is;
      traits = λ held. held;
      valued = λ kind name is. is;
    };
    sizes = λ id e has. same_size e;
  }
