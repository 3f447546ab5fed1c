-- Tables that extend others: what was there stays, and so do excerpts.
use Rattle.std.proofs.Common.{◌≡◌, ℕ, ◌<◌, List, [], ◌∷◌, ◌++◌, map, length, refl, sym, ap, ◌∙◌, subst, arith}
use Rattle.std.proofs.lemmas.List.{append_assoc, length-append}
use Rattle.std.specs.Prelude.{slice_get}
use Rattle.std.specs.List.{AllByRecursion, AllZip}
use Rattle.sm_shapes.specs.InOrder.{AreMembersOf, Shaped}
use Rattle.sm_shapes.specs.TableData.{TableData, constraints_in, default_in, format_in, json_name_at, json_name_in}
use Rattle.sm_shapes.specs.TableData.{kind_at, kind_in, member_count, members_at, members_in, name_at, name_in, required_in, shape_count, target_in}
use Rattle.sm_shapes.specs.declared.kinds.ShapeKind.TheVariants.{Structure}
use Rattle.sm_excerpts.specs.Excerpts.{Extends, IsCopy, IsExcerpt}
use Rattle.sm_excerpts.proofs.RowPlaces.{get_left}

pub extends_itself : (t : TableData) → Extends t t
extends_itself t = record { shapes = ([], sym (all t.shapes)); members = ([], sym (all t.members)); patterns = refl }
  where
    all : {A : Type 0} (xs : List A) → xs ++ [] ≡ xs
    all [] = refl
    all (x ∷ xs) = ap (λ ys. x ∷ ys) (all xs)

pub extends_then : (e d t : TableData) → Extends e d → Extends d t → Extends e t
extends_then e d t h k = record {
  shapes = (
    k.shapes.0 ++ h.shapes.0,
    h.shapes.1 ∙ ap (λ xs. xs ++ h.shapes.0) k.shapes.1 ∙ append_assoc t.shapes k.shapes.0 h.shapes.0,
  );
  members = (
    k.members.0 ++ h.members.0,
    h.members.1 ∙ ap (λ xs. xs ++ h.members.0) k.members.1 ∙ append_assoc t.members k.members.0 h.members.0,
  );
  patterns = h.patterns ∙ k.patterns;
}

module _ (d t : TableData) (h : Extends d t) where
  pub shape_kept : (s : ℕ) → s < shape_count t → slice_get d.shapes s ≡ slice_get t.shapes s
  shape_kept s lt = ap (λ rows. slice_get rows s) h.shapes.1 ∙ get_left t.shapes h.shapes.0 s lt

  pub member_kept : (k : ℕ) → k < member_count t → slice_get d.members k ≡ slice_get t.members k
  member_kept k lt = ap (λ rows. slice_get rows k) h.members.1 ∙ get_left t.members h.members.0 k lt

  pub more_shapes : (s : ℕ) → s < shape_count t → s < shape_count d
  more_shapes s lt =
      let many = ap length h.shapes.1 ∙ length-append t.shapes h.shapes.0 in omega (arith, lt, many)

  pub more_members : (k : ℕ) → k < member_count t → k < member_count d
  more_members k lt =
      let many = ap length h.members.1 ∙ length-append t.members h.members.0 in omega (arith, lt, many)

  pub all_more : (ks : List ℕ) → AllByRecursion (λ k. k < member_count t) ks → AllByRecursion (λ k. k < member_count d) ks
  all_more [] all = tt
  all_more (k ∷ ks) all = (more_members k all.0, all_more ks all.1)

  pub copy_itself : (k : ℕ) → k < member_count t → IsCopy d t k k
  copy_itself k lt = let same = member_kept k lt in record {
    name = ap name_in same;
    json_name = ap json_name_in same;
    target = ap target_in same;
    required = ap required_in same;
    constraints = ap constraints_in same;
    format = ap format_in same;
    default = ap default_in same;
  }

  pub names_kept : (ks : List ℕ) → AllByRecursion (λ k. k < member_count t) ks → map (name_at d) ks ≡ map (name_at t) ks
  names_kept [] all = refl
  names_kept (k ∷ ks) all =
      let one = ap name_in (member_kept k all.0) in let more = names_kept ks all.1 in λ i. one i ∷ more i

  pub json_names_kept : (ks : List ℕ) → AllByRecursion (λ k. k < member_count t) ks → map (json_name_at d) ks ≡ map (json_name_at t) ks
  json_names_kept [] all = refl
  json_names_kept (k ∷ ks) all =
      let one = ap json_name_in (member_kept k all.0) in let more = json_names_kept ks all.1 in λ i. one i ∷ more i

  copies_itself : (ks : List ℕ) → AllByRecursion (λ k. k < member_count t) ks → AllZip (IsCopy d t) ks ks
  copies_itself [] all = tt
  copies_itself (k ∷ ks) all = (copy_itself k all.0, copies_itself ks all.1)

  -- a structure is an excerpt of all of its members
  pub whole_excerpt : (s : ℕ) → s < shape_count t → kind_at t s ≡ Structure → AllByRecursion (λ k. k < member_count t) (members_at t s)
      → IsExcerpt d t s (members_at t s)
  whole_excerpt s lt kind all = record {
    there = more_shapes s lt;
    kind = ap kind_in (shape_kept s lt) ∙ kind;
    copies = subst (λ js. AllZip (IsCopy d t) js (members_at t s)) (sym (ap members_in (shape_kept s lt))) (copies_itself (members_at t s) all);
  }

pub copy_then : (e d t : TableData) (i j k : ℕ) → IsCopy e d i j → IsCopy d t j k → IsCopy e t i k
copy_then e d t i j k h g = record {
  name = h.name ∙ g.name;
  json_name = h.json_name ∙ g.json_name;
  target = h.target ∙ g.target;
  required = h.required ∙ g.required;
  constraints = h.constraints ∙ g.constraints;
  format = h.format ∙ g.format;
  default = h.default ∙ g.default;
}

-- the members of a shape are members of the table
pub members_there : (t : TableData) (s : ℕ) (ks : List ℕ) → AreMembersOf t s ks → AllByRecursion (λ k. k < member_count t) ks
members_there t s [] h = tt
members_there t s (k ∷ ks) h = (h.0, members_there t s ks h.2)

module _ (e d t : TableData) where
  copies_kept : Extends e d → (js ks : List ℕ) → AllByRecursion (λ j. j < member_count d) js → AllZip (IsCopy d t) js ks
      → AllZip (IsCopy e t) js ks
  copies_kept h [] [] all c = tt
  copies_kept h [] (k ∷ ks) all c = absurd c
  copies_kept h (j ∷ js) [] all c = absurd c
  copies_kept h (j ∷ js) (k ∷ ks) all c =
      (copy_then e d t j j k (copy_itself e d h j all.0) c.0, copies_kept h js ks all.1 c.1)

  -- an excerpt stays one in a table that extends its own
  pub excerpt_kept : Extends e d → Shaped d → (s : ℕ) (ks : List ℕ) → IsExcerpt d t s ks → IsExcerpt e t s ks
  excerpt_kept h shaped s ks x = record {
    there = more_shapes e d h s x.there;
    kind = ap kind_in (shape_kept e d h s x.there) ∙ x.kind;
    copies = subst (λ js. AllZip (IsCopy e t) js ks) (sym (ap members_in (shape_kept e d h s x.there)))
        (copies_kept h (members_at d s) ks (members_there d s (members_at d s) (shaped.members s x.there)) x.copies);
  }

  copies_below : Extends d t → (js ks : List ℕ) → AllByRecursion (λ k. k < member_count t) ks → AllZip (IsCopy e d) js ks
      → AllZip (IsCopy e t) js ks
  copies_below h [] [] all c = tt
  copies_below h [] (k ∷ ks) all c = absurd c
  copies_below h (j ∷ js) [] all c = absurd c
  copies_below h (j ∷ js) (k ∷ ks) all c =
      (copy_then e d t j k k c.0 (copy_itself d t h k all.0), copies_below h js ks all.1 c.1)

  -- and is one of what its own table extends
  pub excerpt_below : Extends d t → (s : ℕ) (ks : List ℕ) → AllByRecursion (λ k. k < member_count t) ks → IsExcerpt e d s ks
      → IsExcerpt e t s ks
  excerpt_below h s ks all x = record { there = x.there; kind = x.kind; copies = copies_below h (members_at e s) ks all x.copies }
