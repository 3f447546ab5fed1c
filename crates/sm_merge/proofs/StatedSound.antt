-- What statements of files come to is what a graph may be made of, but for traits: ids, names, targets and bodies.
use Rattle.std.proofs.Common.{◌≡◌, ℕ, Bool, true, false, List, [], ◌∷◌, ◌++◌, map, Some, None, refl, sym, ap, subst}
use Rattle.std.proofs.Common.{bytes_eq}
use Rattle.std.specs.Prelude.{◌&&◌, not, if◌then◌else◌, slice_get}
use Rattle.std.specs.List.{cons_option}
use Rattle.std.proofs.lemmas.Bool.{and_parts}
use Rattle.std.proofs.lemmas.Option.{none-some, same_Some}
use Rattle.std.proofs.lemmas.Slice.Eq.{bytes_eq-Decides}
use Rattle.sm_model.specs.Formed.{AreFormed, AreStatedMembers, HaveForm, IsFormed, stated_names}
use Rattle.sm_model.specs.Given.{given_names}
use Rattle.sm_model.specs.Kinds.{member_form}
use Rattle.sm_model.specs.PreludeShapes.{is_prelude_id}
use Rattle.sm_model.specs.Said.{MemberSaid, Said, apply_said, metadata_said, shape_said}
use Rattle.sm_merge.specs.Meaning.{Defined}
use Rattle.sm_merge.specs.Places.{shape_under, shapes_under}
use Rattle.sm_merge.specs.Stated.{AreFormedFiles, ShapeStated, Stated, all_said, apply_stated, defined_among, member_stated}
use Rattle.sm_merge.specs.Stated.{metadata_stated, shape_stated, stated, stated_by}
use Rattle.sm_merge.specs.steps.SoundStated.{AreNamedTargets, AreSoundStated, IsSoundShape, IsSoundStated}
use Rattle.sm_merge.proofs.FormsMeant.{body_is}
use Rattle.sm_merge.proofs.MeantIds.{meaning_is_id}

module _ (defined : Defined) where
  names_kept : (ms : List MemberSaid) → stated_names ms ≡ given_names (map (member_stated defined) ms)
  names_kept [] = refl
  names_kept (m ∷ ms) = ap (λ names. m.name ∷ names) (names_kept ms)

  targets_are : (ms : List MemberSaid) → AreStatedMembers ms → AreNamedTargets (map (member_stated defined) ms)
  targets_are [] h = tt
  targets_are (m ∷ ms) h = (h.0, meaning_is_id defined m.target h.1, targets_are ms h.3)

  statement_sound : (s : Said) → IsFormed s → IsSoundStated (stated defined s)
  statement_sound (metadata_said key value) h = tt
  statement_sound (shape_said s) h = record {
    id = h.id;
    names = subst (HaveForm (member_form s.kind)) (names_kept s.members) h.names;
    members = targets_are s.members h.members;
    body = body_is defined s.kind s.properties h.properties;
  }
  statement_sound (apply_said id ts) h = tt

  file_sound : (ss more : List Said) → AreFormed ss → AreSoundStated (map (stated defined) more)
      → AreSoundStated (map (stated defined) (ss ++ more))
  file_sound [] more h rest = rest
  file_sound (s ∷ ss) more h rest = (statement_sound s h.0, file_sound ss more h.1 rest)

  files_sound : (files : List (List Said)) → AreFormedFiles files → AreSoundStated (map (stated defined) (all_said files))
  files_sound [] h = tt
  files_sound (file ∷ files) h = file_sound file (all_said files) h.0 (files_sound files h.1)

pub statements_sound : (files : List (List Said)) → AreFormedFiles files → AreSoundStated (stated_by files)
statements_sound files h = files_sound (defined_among (all_said files)) files h

-- the shape under an id is sound, has this id, and isn't the prelude's
pub record IsSoundUnder (id : List ℕ) (s : ShapeStated) : Type 0 where
  pub shape : IsSoundShape s.shape
  pub same : s.shape.id ≡ id
  pub own : is_prelude_id id ≡ false

is_not : (b : Bool) → not b ≡ true → b ≡ false
is_not false h = refl
is_not true h = sym h

pub sound_under : (id : List ℕ) (ss : List Stated) (s : ShapeStated) → AreSoundStated ss → shape_under id ss ≡ Some s → IsSoundUnder id s
sound_under id [] s h there = absurd (none-some s there)
sound_under id (metadata_stated key value ∷ ss) s h there = sound_under id ss s h.1 there
sound_under id (shape_stated t ∷ ss) s h there =
    by_test (λ rest. sound_under id ss s h.1 rest) (bytes_eq t.shape.id id && not (is_prelude_id id)) refl there
  where
    by_test : (shape_under id ss ≡ Some s → IsSoundUnder id s) → (b : Bool) → (bytes_eq t.shape.id id && not (is_prelude_id id)) ≡ b
        → slice_get (cons_option (if b then Some t else None) (shapes_under id ss)) 0 ≡ Some s → IsSoundUnder id s
    by_test later true is at =
        let both = and_parts (bytes_eq t.shape.id id) (not (is_prelude_id id)) is in
        subst (IsSoundUnder id) (same_Some t s at) (record {
          shape = h.0;
          same = (bytes_eq-Decides t.shape.id id).0 both.0;
          own = is_not (is_prelude_id id) both.1;
        })
    by_test later false is at = later at
sound_under id (apply_stated target traits ∷ ss) s h there = sound_under id ss s h.1 there
