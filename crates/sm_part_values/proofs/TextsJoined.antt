-- What texts come to, by the simple type of their place and by the first constraint that a value breaks.
use Rattle.std.proofs.Common.{◌≡◌, ℕ, true, cond, List, [], ◌∷◌, refl, sym, ap, ◌∙◌, subst}
use Rattle.std.specs.Prelude.{Err, IfOk, None, Ok, Option, Some}
use Rattle.std.specs.Str.{is_utf8}
use Rattle.sm_shapes.specs.Broken.{broken, first_broken}
use Rattle.sm_shapes.specs.Fitting.{finder}
use Rattle.sm_shapes.specs.Places.{Place, key_place, member_place}
use Rattle.sm_shapes.specs.TableData.{ConstraintData, constraints_at, kind_at, target_at}
use Rattle.sm_shapes.specs.Values.{Val, text_val}
use Rattle.sm_shapes.specs.declared.kinds.ShapeKind.{ShapeKind}
use Rattle.sm_shapes.specs.declared.fault.FaultKind.{FaultKind}
use Rattle.sm_shapes.specs.declared.fault.FaultKind.TheVariants.{WrongType}
use Rattle.sm_shapes.specs.declared.values.Value.{Value}
use Rattle.sm_codec.specs.Codec.{Codec, broken_at}
use Rattle.sm_codec.specs.FaultLists.{FaultAt, here, settled}
use Rattle.sm_codec.specs.Readings.{key_faults, leaf_reading, one_here}
use Rattle.sm_codec.specs.Sorts.{Sort, a_list, a_map, a_structure, a_union, left_out, simple, simple_in}
use Rattle.sm_codec.specs.declared.decoder.Refusal.{Refusal}
use Rattle.sm_codec.specs.declared.simple.Simple.{Simple}
use Rattle.std.specs.Prelude.{Result}
use Rattle.sm_part_values.specs.Joins.{ErrsWith, JoinsTo}
use Rattle.sm_part_values.specs.PartTexts.{TextForm, text_by}
use Rattle.sm_part_values.specs.steps.Maps.{IsFirstKind}

-- a value that breaks nothing, and one that does
pub judged_good : (bs : List FaultKind) (v : Val) → first_broken bs ≡ None → settled (here bs) v ≡ Ok v
judged_good [] v h = refl
judged_good (kind ∷ bs) v h = absurd cc

pub judged_bad : (bs : List FaultKind) (v : Val) (kind : FaultKind) (f : FaultAt) → first_broken bs ≡ Some kind → f ≡ ([], kind)
    → ErrsWith (settled (here bs) v) f
judged_bad [] v kind f h e = absurd cc
judged_bad (k ∷ bs) v kind f h e =
    let same : k ≡ kind = cc in (here bs, ap (λ x. Err (([], x) ∷ here bs)) same ∙ ap (λ g. Err (g ∷ here bs)) (sym e))

module _ (form : TextForm) (c : Codec) (p : Place) (u : List ℕ) where
  -- at a place of no simple type
  no_text : (s : Sort) → simple_in s ≡ None → text_by s form c p u ≡ Err (one_here WrongType)
  no_text (simple x) h = absurd cc
  no_text a_list h = refl
  no_text a_map h = refl
  no_text a_structure h = refl
  no_text a_union h = refl
  no_text left_out h = refl

  -- at one of a simple type
  text_read : (s : Sort) (x : Simple) → simple_in s ≡ Some x → text_by s form c p u ≡ leaf_reading c p (form.read x u)
  text_read (simple y) x h = let same : y ≡ x = cc in ap (λ z. leaf_reading c p (form.read z u)) same
  text_read a_list x h = absurd cc
  text_read a_map x h = absurd cc
  text_read a_structure x h = absurd cc
  text_read a_union x h = absurd cc
  text_read left_out x h = absurd cc

  pub wrong_text : (s : Sort) (f : FaultAt) → simple_in s ≡ None → f ≡ ([], WrongType) → ErrsWith (text_by s form c p u) f
  wrong_text s f h e = ([], no_text s h ∙ ap (λ g. Err (g ∷ [])) (sym e))

  pub faulty_text : (s : Sort) (x : Simple) (kind : FaultKind) (f : FaultAt) → simple_in s ≡ Some x → form.read x u ≡ Err kind
      → f ≡ ([], kind) → ErrsWith (text_by s form c p u) f
  faulty_text s x kind f h read e = ([], text_read s x h ∙ ap (leaf_reading c p) read ∙ ap (λ g. Err (g ∷ [])) (sym e))

  pub judged_text : (s : Sort) (x : Simple) (v : Val) (r : Result Value Refusal) → simple_in s ≡ Some x → form.read x u ≡ Ok v
      → JoinsTo (settled (here (broken_at c p v)) v) r → JoinsTo (text_by s form c p u) r
  judged_text s x v r h read joins =
      subst (λ reading. JoinsTo reading r) (sym (text_read s x h ∙ ap (leaf_reading c p) read)) joins

-- what holds of a result that is there
pub map_ok : {A E : Type 0} (r : Result A E) (P Q : A → Type 0) → ((x : A) → P x → Q x) → IfOk r P → IfOk r Q
map_ok (Ok x) P Q f h = f x h
map_ok (Err e) P Q f h = h

-- a key, by the first constraint that it breaks
first_kind : (bs : List FaultKind) (o : Option FaultKind) → o ≡ first_broken bs → IsFirstKind (here bs) o
first_kind [] None h = refl
first_kind [] (Some kind) h = absurd cc
first_kind (k ∷ bs) None h = absurd cc
first_kind (k ∷ bs) (Some kind) h = let same : k ≡ kind = cc in (here bs, ap (λ x. ([], x) ∷ here bs) same)

pub key_first : (c : Codec) (p : Place) (key : List ℕ) → is_utf8 key ≡ true → (k : ℕ) → key_place c.table p ≡ member_place k
    → (cs : ConstraintData) (kind : ShapeKind) → constraints_at c.table k ≡ cs → kind_at c.table (target_at c.table k) ≡ kind
    → (o : Option FaultKind) → o ≡ first_broken (broken (finder c.table c.test) kind cs (text_val key)) → IsFirstKind (key_faults c p key) o
key_first c p key text k at_k cs kind constraints kinds o first =
    subst (λ fs. IsFirstKind fs o)
    (sym ((λ i. cond (text i) (here (broken_at c (at_k i) (text_val key))) (one_here WrongType))
    ∙ (λ i. here (broken (finder c.table c.test) (kinds i) (constraints i) (text_val key)))))
    (first_kind (broken (finder c.table c.test) kind cs (text_val key)) o first)
