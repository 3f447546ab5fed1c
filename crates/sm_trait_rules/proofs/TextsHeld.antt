-- The texts among entries, and the set that holds them.
use Rattle.std.proofs.Common.{◌≡◌, ◌⊎◌, ◌<◌, ◌+◌, inl, inr, ℕ, Bool, true, false, cond, List, [], ◌∷◌, ◌++◌, get_or, length, take, refl}
use Rattle.std.proofs.Common.{sym, ap, ◌∙◌, subst}
use Rattle.std.specs.Prelude.{◌↔◌}
use denote.Ref.{Bor}
use Rattle.std.specs.BTreeSet as sorted
use Rattle.std.specs.BTreeSet.{BTreeSet}
use Rattle.std.specs.Cmp.Lexicographic.{slice_cmp}
use Rattle.std.specs.List.{list_any}
use Rattle.std.specs.Ordering.{is_eq, nat_cmp}
use Rattle.std.specs.Str.{bytes_eq}
use Rattle.std.proofs.lemmas.List.{take_more}
use Rattle.std.proofs.lemmas.Map.Text.{is_eq-slice_cmp}
use Rattle.std.proofs.lemmas.Option.{same_Some}
use Rattle.std.proofs.lemmas.Slice.Eq.{bytes_eq-Decides}
use Rattle.sm_tree.specs.Node.{Node, no_nodes, nodes_of, text}
use Rattle.sm_tree.specs.Parts.{text_in}
use Rattle.sm_tree.specs.View.{node_of, nodes_view}
use Rattle.sm_tree.specs.declared.tree.Tree.{Tree}
use Rattle.sm_model.specs.Relations.{IsEntryText}
use Rattle.sm_model.specs.Joins.{Joins}
use Rattle.sm_model.proofs.Linking.{joins_same}
use Rattle.sm_model.proofs.Worklist.{apart}
use Rattle.sm_trait_rules.specs.steps.Conflicting.{AreTextsOf, HasText, has_text}

-- one text more in the set
pub text_put : (old new : BTreeSet (Bor (List ℕ))) (key : List ℕ)
    → sorted.UpdatesBy (λ x y. slice_cmp nat_cmp x.now y.now) (λ k. slice_cmp nat_cmp key k.now) old new true
    → Joins (HasText old) (λ t. key ≡ t) (HasText new)
text_put old new key u t =
    by (bytes_eq key t) (bytes_eq-Decides key t).0 (bytes_eq-Decides key t).1
    (u.0 (record { ref_ptr = (0, 0); now = t }) ∙ ap (λ b. cond b true (has_text old t)) (is_eq-slice_cmp key t))
  where
    by : (b : Bool) → (b ≡ true → key ≡ t) → (key ≡ t → b ≡ true) → has_text new t ≡ cond b true (has_text old t)
        → HasText new t ↔ (HasText old t ⊎ (key ≡ t))
    by true same from e = (λ h. inr (same refl), λ h. e)
    by false same from e = (λ h. inl (sym e ∙ h), λ h. elim h [ inl o ↦ e ∙ o | inr p ↦ absurd (apart (from p)) ])

-- the text that an entry is
pub entry_put : (Old New : List ℕ → Type 0) (key : List ℕ) (n : Node) → n ≡ text key → Joins Old (λ t. key ≡ t) New
    → Joins Old (λ t. n ≡ text t) New
entry_put Old New key n is joins =
    joins_same Old (λ t. key ≡ t) (λ t. n ≡ text t) New
    (λ t. (λ same. is ∙ ap text same, λ as_text. same_Some key t (ap text_in (sym is ∙ as_text)))) joins

-- none at first
pub none_held : (texts : BTreeSet (Bor (List ℕ))) → texts.keys ≡ [] → (t : List ℕ) → has_text texts t ≡ false
none_held texts none t = ap (list_any (λ (k : Bor (List ℕ)). is_eq (slice_cmp nat_cmp t k.now))) none

pub texts_none : (texts : BTreeSet (Bor (List ℕ))) → ((t : List ℕ) → has_text texts t ≡ false) → AreTextsOf no_nodes texts
texts_none texts none t = (λ h. absurd (apart (sym (none t) ∙ h)), λ h. absurd h)

-- one entry more
pub entry_more : (key : List ℕ) (xs : List Tree) (x : Tree) → IsEntryText key (nodes_of (nodes_view (xs ++ x ∷ [])))
    ↔ (IsEntryText key (nodes_of (nodes_view xs)) ⊎ (node_of x ≡ text key))
entry_more key [] x = (
  λ h. elim h [ inl is ↦ inr is | inr none ↦ absurd none ],
  λ h. elim h [ inl none ↦ absurd none | inr is ↦ inl is ],
)
entry_more key (y ∷ ys) x =
    let r = entry_more key ys x in (
      λ h. elim h [ inl is ↦ inl (inl is) | inr later ↦ elim (r.0 later) [ inl l ↦ inl (inr l) | inr is ↦ inr is ] ],
      λ h. elim h [
        | inl old ↦ elim old [ inl is ↦ inl is | inr later ↦ inr (r.1 (inl later)) ]
        | inr is ↦ inr (r.1 (inr is))
      ],
    )

-- the entry at a place, behind those before it
pub entries_next : (xs : List Tree) (i : ℕ) (x : Tree) → i < length xs → x ≡ get_or xs i x → (key : List ℕ)
    → IsEntryText key (nodes_of (nodes_view (take (i + 1) xs)))
    ↔ (IsEntryText key (nodes_of (nodes_view (take i xs))) ⊎ (node_of x ≡ text key))
entries_next xs i x within is key =
    let parts : take (i + 1) xs ≡ take i xs ++ x ∷ [] = take_more xs i x within ∙ ap (λ y. take i xs ++ y ∷ []) (sym is) in
    let before = IsEntryText key (nodes_of (nodes_view (take i xs))) in
    subst (λ ys. IsEntryText key (nodes_of (nodes_view ys)) ↔ (before ⊎ (node_of x ≡ text key)))
    (sym parts) (entry_more key (take i xs) x)

pub texts_next : (xs : List Tree) (i : ℕ) (x : Tree) → i < length xs → x ≡ get_or xs i x → (old new : BTreeSet (Bor (List ℕ)))
    → AreTextsOf (nodes_of (nodes_view (take i xs))) old → Joins (HasText old) (λ t. node_of x ≡ text t) (HasText new)
    → AreTextsOf (nodes_of (nodes_view (take (i + 1) xs))) new
texts_next xs i x within is old new are joins t =
    let r = entries_next xs i x within is t in (
      λ h. r.1 (elim ((joins t).0 h) [ inl o ↦ inl ((are t).0 o) | inr p ↦ inr p ]),
      λ h. (joins t).1 (elim (r.0 h) [ inl o ↦ inl ((are t).1 o) | inr p ↦ inr p ]),
    )
