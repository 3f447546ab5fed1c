-- The words of `transform`, and those that aren't. They have one reading.
use Rattle.std.proofs.Common.{◌≡◌, ◌<◌, ℕ, false, true, true≢false, List, [], ◌∷◌, ◌++◌, length, refl, sym, ap, subst, ◌∙◌, arith}
use Rattle.std.proofs.Common.{append_assoc, bytes_eq, codes, length-append}
use Rattle.std.specs.List.{list_all}
use Rattle.std.proofs.lemmas.List.Folds.{list_all-append}
use Rattle.std.proofs.lemmas.Slice.Eq.{bytes_eq-Decides}
use Rattle.sm_ids.specs.Identifier.{IsNamespace}
use Rattle.sm_ids.proofs.Cutting.{both, heads, tails}
use Rattle.sm_ids.proofs.Namespaces.{is_namespace_byte, namespace_bytes}
use Rattle.sm_model_commands.specs.asked.Words.{AreOverModels}
use Rattle.sm_model_commands.proofs.asked.OverModels.{last_same, over_same}
use Rattle.sm_transform_command.specs.TransformForm.{ChangeAsked, HasNamespaces, IsTransformForm, SaysChange, argument_word, asks_exclude}
use Rattle.sm_transform_command.specs.TransformForm.{asks_include, asks_rename, verb_word}
use Rattle.sm_transform_command.specs.steps.TransformSteps.{AreNamespaces}

-- a text in which one `=` stands between two namespaces is cut at it
equals_within : (a x : List ℕ) → list_all is_namespace_byte (a ++ 61 ∷ x) ≡ true → ⊥
equals_within a x h =
    let parts = both (list_all is_namespace_byte a) (list_all is_namespace_byte (61 ∷ x))
    (sym (list_all-append is_namespace_byte a (61 ∷ x)) ∙ h) in
    true≢false (sym parts.1)

one_equals : (a x b y : List ℕ) → list_all is_namespace_byte b ≡ true → list_all is_namespace_byte y ≡ true → a ++ 61 ∷ x ≡ b ++ 61 ∷ y
    → (a ≡ b) × (x ≡ y)
one_equals [] x [] y h k same = (refl, tails 61 61 x y same)
one_equals [] x (d ∷ b) y h k same =
    let none : is_namespace_byte 61 ≡ true = subst (λ c. is_namespace_byte c ≡ true) (sym (heads 61 d x (b ++ 61 ∷ y) same))
    (both (is_namespace_byte d) (list_all is_namespace_byte b) h).0 in
    absurd (true≢false (sym none))
one_equals (c ∷ a) x [] y h k same =
    absurd (equals_within a x (subst (λ t. list_all is_namespace_byte t ≡ true) (sym (tails c 61 (a ++ 61 ∷ x) y same)) k))
one_equals (c ∷ a) x (d ∷ b) y h k same =
    let first = heads c d (a ++ 61 ∷ x) (b ++ 61 ∷ y) same in
    let rest = one_equals a x b y (both (is_namespace_byte d) (list_all is_namespace_byte b) h).1 k
    (tails c d (a ++ 61 ∷ x) (b ++ 61 ∷ y) same) in
    ((λ i. first i ∷ rest.0 i), rest.1)

names_same : (a x b y : List ℕ) → IsNamespace b → IsNamespace y → a ++ 61 ∷ x ≡ b ++ 61 ∷ y → (a ≡ b) × (x ≡ y)
names_same a x b y h k same = one_equals a x b y (namespace_bytes b h) (namespace_bytes y k) same

-- what is no namespace is none of the two of an argument
pub first_is_none : (argument a x : List ℕ) → argument ≡ a ++ 61 ∷ x → (IsNamespace a → ⊥) → (from to : List ℕ)
    → AreNamespaces argument from to → ⊥
first_is_none argument a x cut none from to h =
    let parts = names_same a x from to h.from_is h.to_is (sym cut ∙ h.is) in none (subst IsNamespace (sym parts.0) h.from_is)

pub second_is_none : (argument a x : List ℕ) → argument ≡ a ++ 61 ∷ x → (IsNamespace x → ⊥) → (from to : List ℕ)
    → AreNamespaces argument from to → ⊥
second_is_none argument a x cut none from to h =
    let parts = names_same a x from to h.from_is h.to_is (sym cut ∙ h.is) in none (subst IsNamespace (sym parts.1) h.to_is)

pub none_between : (argument : List ℕ) → ((before behind : List ℕ) → argument ≡ before ++ 61 ∷ behind → ⊥) → (from to : List ℕ)
    → AreNamespaces argument from to → ⊥
none_between argument none from to h = none from to h.is

-- a verb that is none of the three
pub no_verb : (verb argument : List ℕ) → (verb ≡ codes "include" → ⊥) → (verb ≡ codes "exclude" → ⊥) → (verb ≡ codes "rename" → ⊥)
    → (asked : ChangeAsked) → SaysChange verb argument asked → ⊥
no_verb verb argument a b c (asks_include selector) h = a h.verb_is
no_verb verb argument a b c (asks_exclude selector) h = b h.verb_is
no_verb verb argument a b c (asks_rename from to) h = c h.verb_is

-- words that are told apart differ
apart : (a b : List ℕ) → bytes_eq a b ≡ false → a ≡ b → ⊥
apart a b other same = true≢false (sym ((bytes_eq-Decides a b).1 same) ∙ other)

pub no_rename : (verb argument : List ℕ) → verb ≡ codes "rename" → ((from to : List ℕ) → AreNamespaces argument from to → ⊥)
    → (asked : ChangeAsked) → SaysChange verb argument asked → ⊥
no_rename verb argument is none (asks_include selector) h = apart (codes "rename") (codes "include") refl (sym is ∙ h.verb_is)
no_rename verb argument is none (asks_exclude selector) h = apart (codes "rename") (codes "exclude") refl (sym is ∙ h.verb_is)
no_rename verb argument is none (asks_rename from to) h =
    none from to (record { is = h.argument_is; from_is = h.named.0; to_is = h.named.1 })

pub renames : (verb argument from to : List ℕ) → verb ≡ codes "rename" → AreNamespaces argument from to
    → SaysChange verb argument (asks_rename from to)
renames verb argument from to is h = record { verb_is = is; argument_is = h.is; named = (h.from_is, h.to_is) }

-- the words as those over model files, the verb among them
module _ (words models : List (List ℕ)) (asked : ChangeAsked) (h : IsTransformForm words models asked) where
  pub over : AreOverModels words (codes "transform") (models ++ verb_word asked ∷ []) (argument_word asked)
  over = record {
    some =
        let some = h.some in
        let size = length-append models (verb_word asked ∷ []) in omega (arith, some, size);
    are = h.are ∙ ap (λ ws. codes "transform" ∷ ws) (sym (append_assoc models (verb_word asked ∷ []) (argument_word asked ∷ [])));
  }

  pub record AreParts (before : List (List ℕ)) (last : List ℕ) : Type 0 where
    pub models_are : before ≡ models ++ verb_word asked ∷ []
    pub last_is : last ≡ argument_word asked

  pub parts : (before : List (List ℕ)) (last : List ℕ) → AreOverModels words (codes "transform") before last → AreParts before last
  parts before last k =
      let same = over_same words (codes "transform") before (models ++ verb_word asked ∷ []) last (argument_word asked) k over in
      record { models_are = same.0; last_is = same.1 }

-- words that aren't these
pub not_over : (words : List (List ℕ)) → ((models : List (List ℕ)) (last : List ℕ) → AreOverModels words (codes "transform") models last → ⊥)
    → (models : List (List ℕ)) (asked : ChangeAsked) → IsTransformForm words models asked → ⊥
not_over words none models asked h = none (models ++ verb_word asked ∷ []) (argument_word asked) (over words models asked h)

pub nothing_before : (words before : List (List ℕ)) (last : List ℕ) → AreOverModels words (codes "transform") before last → before ≡ []
    → (models : List (List ℕ)) (asked : ChangeAsked) → IsTransformForm words models asked → ⊥
nothing_before words before last k none models asked h =
    let some = k.some in
    let size = ap length none in omega (arith, some, size)

module _ (words before rest : List (List ℕ)) (last verb : List ℕ) (k : AreOverModels words (codes "transform") before last)
    (cut : before ≡ rest ++ verb ∷ []) where
  same_rest : (models : List (List ℕ)) (asked : ChangeAsked) → IsTransformForm words models asked
      → (rest ≡ models) × (verb ≡ verb_word asked)
  same_rest models asked h =
      last_same rest models verb (verb_word asked) (sym cut ∙ (parts words models asked h before last k).models_are)

  pub no_models : length rest ≡ 0 → (models : List (List ℕ)) (asked : ChangeAsked) → IsTransformForm words models asked → ⊥
  no_models none models asked h =
      let some = h.some in
      let size = ap length (same_rest models asked h).0 in omega (arith, some, size, none)

  pub no_change_said : ((asked : ChangeAsked) → SaysChange verb last asked → ⊥) → (models : List (List ℕ)) (asked : ChangeAsked)
      → IsTransformForm words models asked → ⊥
  no_change_said none models asked h = none asked (record {
    verb_is = (same_rest models asked h).1;
    argument_is = (parts words models asked h before last k).last_is;
    named = h.named;
  })

  pub formed : 0 < length rest → (asked : ChangeAsked) → SaysChange verb last asked → IsTransformForm words rest asked
  formed some asked says = record {
    some = some;
    are = k.are ∙ ap (λ ws. codes "transform" ∷ (ws ++ last ∷ [])) cut
        ∙ ap (λ ws. codes "transform" ∷ ws) (append_assoc rest (verb ∷ []) (last ∷ []))
        ∙ (λ i. codes "transform" ∷ (rest ++ says.verb_is i ∷ says.argument_is i ∷ []));
    named = says.named;
  }

-- two readings are one
asked_same : (a b : ChangeAsked) → HasNamespaces a → HasNamespaces b → verb_word a ≡ verb_word b → argument_word a ≡ argument_word b → a ≡ b
asked_same (asks_include s) (asks_include t) h k verb same = ap asks_include same
asked_same (asks_exclude s) (asks_exclude t) h k verb same = ap asks_exclude same
asked_same (asks_rename a x) (asks_rename b y) h k verb same =
    let parts = names_same a x b y k.0 k.1 same in λ i. asks_rename (parts.0 i) (parts.1 i)
asked_same (asks_include s) (asks_exclude t) h k verb same = absurd (apart (codes "include") (codes "exclude") refl verb)
asked_same (asks_include s) (asks_rename b y) h k verb same = absurd (apart (codes "include") (codes "rename") refl verb)
asked_same (asks_exclude s) (asks_include t) h k verb same = absurd (apart (codes "exclude") (codes "include") refl verb)
asked_same (asks_exclude s) (asks_rename b y) h k verb same = absurd (apart (codes "exclude") (codes "rename") refl verb)
asked_same (asks_rename a x) (asks_include t) h k verb same = absurd (apart (codes "rename") (codes "include") refl verb)
asked_same (asks_rename a x) (asks_exclude t) h k verb same = absurd (apart (codes "rename") (codes "exclude") refl verb)

pub transform_words_same : (words models models1 : List (List ℕ)) (asked asked1 : ChangeAsked) → IsTransformForm words models asked
    → IsTransformForm words models1 asked1 → (models ≡ models1) × (asked ≡ asked1)
transform_words_same words models models1 asked asked1 h i =
    let p = parts words models1 asked1 i (models ++ verb_word asked ∷ []) (argument_word asked) (over words models asked h) in
    let same = last_same models models1 (verb_word asked) (verb_word asked1) p.models_are in
    (same.0, asked_same asked asked1 h.named i.named same.1 p.last_is)
