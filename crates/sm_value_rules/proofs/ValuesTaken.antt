-- Values of enums, as they are taken one after the other.
use Rattle.std.proofs.Common.{◌≡◌, ◌⊎◌, inl, inr, ℕ, ℤ, Bool, true, false, cond, List, [], refl, sym, ap, ◌∙◌}
use Rattle.std.specs.Prelude.{◌||◌}
use denote.Ref.{Bor}
use Rattle.std.specs.BTreeSet as sorted
use Rattle.std.specs.BTreeSet.{BTreeSet}
use Rattle.std.specs.Cmp.Lexicographic.{slice_cmp}
use Rattle.std.specs.List.{list_any}
use Rattle.std.specs.Ordering.{int_cmp, int_eq, is_eq, nat_cmp}
use Rattle.std.specs.Str.{bytes_eq}
use Rattle.std.proofs.lemmas.Bool.Decides.{Decides-int_eq}
use Rattle.std.proofs.lemmas.Map.Text.{is_eq-slice_cmp}
use Rattle.std.proofs.lemmas.Option.{none-some, same_Some}
use Rattle.std.proofs.lemmas.Slice.Eq.{bytes_eq-Decides}
use Rattle.sm_tree.specs.Node.{Node, null, bool, int, number, text, bytes, tag, opaque, list, object}
use Rattle.sm_tree.specs.Parts.{text_in}
use Rattle.sm_model.specs.Joins.{Joins}
use Rattle.sm_model.proofs.Worklist.{apart}
use Rattle.sm_compile.specs.TraitNodes.{number_in}
use Rattle.sm_value_rules.specs.declared.seen_values.SeenValues.{SeenValues}
use Rattle.sm_value_rules.specs.steps.SeenValues.{Holds, has_number, has_text, holds}

or_other : (a b : Bool) → cond a true b ≡ (b || a)
or_other true true = refl
or_other true false = refl
or_other false true = refl
or_other false false = refl

-- with one more
pub text_more : (old new : BTreeSet (Bor (List ℕ))) (key : List ℕ)
    → sorted.UpdatesBy (λ x y. slice_cmp nat_cmp x.now y.now) (λ k. slice_cmp nat_cmp key k.now) old new true
    → (t : List ℕ) → has_text new t ≡ (has_text old t || bytes_eq key t)
text_more old new key u t =
    u.0 (record { ref_ptr = (0, 0); now = t }) ∙ ap (λ b. cond b true (has_text old t)) (is_eq-slice_cmp key t)
    ∙ or_other (bytes_eq key t) (has_text old t)

pub number_more : (old new : BTreeSet ℤ) (key : ℤ) → sorted.UpdatesBy int_cmp (int_cmp key) old new true
    → (z : ℤ) → has_number new z ≡ (has_number old z || int_eq key z)
number_more old new key u z = u.0 z ∙ or_other (int_eq key z) (has_number old z)

-- one that was there before changes nothing
again : {K : Type 0} (has : K → Bool) (key q : K) (same : Bool) → (same ≡ true → key ≡ q) → has key ≡ true → has q ≡ (has q || same)
again has key q true is there = true_or (has q) (ap has (sym (is refl)) ∙ there)
  where
    true_or : (a : Bool) → a ≡ true → a ≡ (a || true)
    true_or true e = refl
    true_or false e = absurd (apart e)
again has key q false is there = or_false (has q)
  where
    or_false : (a : Bool) → a ≡ (a || false)
    or_false true = refl
    or_false false = refl

pub text_again : (set : BTreeSet (Bor (List ℕ))) (key : List ℕ) → has_text set key ≡ true
    → (t : List ℕ) → has_text set t ≡ (has_text set t || bytes_eq key t)
text_again set key there t = again (has_text set) key t (bytes_eq key t) (bytes_eq-Decides key t).0 there

pub number_again : (set : BTreeSet ℤ) (key : ℤ) → has_number set key ≡ true
    → (z : ℤ) → has_number set z ≡ (has_number set z || int_eq key z)
number_again set key there z = again (has_number set) key z (int_eq key z) (Decides-int_eq key z).0 there

-- none at first
pub none_held : (s : SeenValues) → s.texts.keys ≡ [] → s.numbers.keys ≡ [] → (n : Node) → holds s n ≡ false
none_held s texts numbers (text t) = ap (list_any (λ (k : Bor (List ℕ)). is_eq (slice_cmp nat_cmp t k.now))) texts
none_held s texts numbers (int z) = ap (list_any (int_eq z)) numbers
none_held s texts numbers null = refl
none_held s texts numbers (bool b) = refl
none_held s texts numbers (number t) = refl
none_held s texts numbers (bytes t) = refl
none_held s texts numbers (tag k n) = refl
none_held s texts numbers (opaque b) = refl
none_held s texts numbers (list ns) = refl
none_held s texts numbers (object ms) = refl

either : (a b : Bool) → (a || b) ≡ true → (a ≡ true) ⊎ (b ≡ true)
either true b h = inl refl
either false b h = inr h

left_of : (a b : Bool) → a ≡ true → (a || b) ≡ true
left_of true b h = refl
left_of false b h = absurd (apart h)

right_of : (a b : Bool) → b ≡ true → (a || b) ≡ true
right_of true b h = refl
right_of false b h = h

-- what stays, and what is none of what was taken
kept : (old new : Bool) (P : Type 0) → new ≡ old → (P → ⊥) → (new ≡ true → (old ≡ true) ⊎ P) × ((old ≡ true) ⊎ P → new ≡ true)
kept old new P is none = (λ h. inl (sym is ∙ h), λ h. elim h [ inl o ↦ is ∙ o | inr p ↦ absurd (none p) ])

joined : (old new same : Bool) (P : Type 0) → new ≡ (old || same) → (same ≡ true → P) → (P → same ≡ true)
    → (new ≡ true → (old ≡ true) ⊎ P) × ((old ≡ true) ⊎ P → new ≡ true)
joined old new same P is to from = (
  λ h. elim (either old same (sym is ∙ h)) [ inl o ↦ inl o | inr s ↦ inr (to s) ],
  λ h. elim h [ inl o ↦ is ∙ left_of old same o | inr p ↦ is ∙ right_of old same (from p) ],
)

pub text_taken : (old new : SeenValues) (t : List ℕ) → ((q : List ℕ) → has_text new.texts q ≡ (has_text old.texts q || bytes_eq t q))
    → new.numbers ≡ old.numbers → Joins (Holds old) (λ n. text t ≡ n) (Holds new)
text_taken old new t texts numbers (text q) =
    joined (has_text old.texts q) (has_text new.texts q) (bytes_eq t q) (text t ≡ text q) (texts q)
    (λ h. ap text ((bytes_eq-Decides t q).0 h)) (λ e. (bytes_eq-Decides t q).1 (same_Some t q (ap text_in e)))
text_taken old new t texts numbers (int z) =
    kept (has_number old.numbers z) (has_number new.numbers z) (text t ≡ int z) (ap (λ s. has_number s z) numbers)
    (λ e. none-some t (sym (ap text_in e)))
text_taken old new t texts numbers null = kept false false (text t ≡ null) refl (λ e. none-some t (sym (ap text_in e)))
text_taken old new t texts numbers (bool b) = kept false false (text t ≡ bool b) refl (λ e. none-some t (sym (ap text_in e)))
text_taken old new t texts numbers (number m) = kept false false (text t ≡ number m) refl (λ e. none-some t (sym (ap text_in e)))
text_taken old new t texts numbers (bytes m) = kept false false (text t ≡ bytes m) refl (λ e. none-some t (sym (ap text_in e)))
text_taken old new t texts numbers (tag k n) = kept false false (text t ≡ tag k n) refl (λ e. none-some t (sym (ap text_in e)))
text_taken old new t texts numbers (opaque b) = kept false false (text t ≡ opaque b) refl (λ e. none-some t (sym (ap text_in e)))
text_taken old new t texts numbers (list ns) = kept false false (text t ≡ list ns) refl (λ e. none-some t (sym (ap text_in e)))
text_taken old new t texts numbers (object ms) = kept false false (text t ≡ object ms) refl (λ e. none-some t (sym (ap text_in e)))

pub number_taken : (old new : SeenValues) (z : ℤ) → ((y : ℤ) → has_number new.numbers y ≡ (has_number old.numbers y || int_eq z y))
    → new.texts ≡ old.texts → Joins (Holds old) (λ n. int z ≡ n) (Holds new)
number_taken old new z numbers texts (int y) =
    joined (has_number old.numbers y) (has_number new.numbers y) (int_eq z y) (int z ≡ int y) (numbers y)
    (λ h. ap int ((Decides-int_eq z y).0 h)) (λ e. (Decides-int_eq z y).1 (same_Some z y (ap number_in e)))
number_taken old new z numbers texts (text t) =
    kept (has_text old.texts t) (has_text new.texts t) (int z ≡ text t) (ap (λ s. has_text s t) texts)
    (λ e. none-some z (sym (ap number_in e)))
number_taken old new z numbers texts null = kept false false (int z ≡ null) refl (λ e. none-some z (sym (ap number_in e)))
number_taken old new z numbers texts (bool b) = kept false false (int z ≡ bool b) refl (λ e. none-some z (sym (ap number_in e)))
number_taken old new z numbers texts (number m) = kept false false (int z ≡ number m) refl (λ e. none-some z (sym (ap number_in e)))
number_taken old new z numbers texts (bytes m) = kept false false (int z ≡ bytes m) refl (λ e. none-some z (sym (ap number_in e)))
number_taken old new z numbers texts (tag k n) = kept false false (int z ≡ tag k n) refl (λ e. none-some z (sym (ap number_in e)))
number_taken old new z numbers texts (opaque b) = kept false false (int z ≡ opaque b) refl (λ e. none-some z (sym (ap number_in e)))
number_taken old new z numbers texts (list ns) = kept false false (int z ≡ list ns) refl (λ e. none-some z (sym (ap number_in e)))
number_taken old new z numbers texts (object ms) = kept false false (int z ≡ object ms) refl (λ e. none-some z (sym (ap number_in e)))
