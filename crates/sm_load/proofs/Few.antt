-- What holds of few: it can't be that no list has all of which it holds. Which they are isn't decided.
use Rattle.std.proofs.Common.{◌≡◌, ◌⊎◌, inl, inr, ℕ, zero, suc, List, [], ◌∷◌, ◌++◌, Option, Some, sym, subst, ◌∙◌}
use Rattle.std.specs.Prelude.{slice_get}
use Rattle.std.specs.FinMap as fin
use Rattle.std.specs.List.{Contains}
use Rattle.std.proofs.lemmas.List.Elements.{Contains-append_left, Contains-append_right}
use Rattle.std.proofs.lemmas.Option.{none-some, same_Some}
use Rattle.sm_model.specs.Formed.{StandsAmong}
use Rattle.sm_model.specs.Graphs.{text_cmp}
use Rattle.sm_model.proofs.MapFacts.{keys}
use Rattle.sm_model.proofs.OneRising.{contains_behind, contains_either, contains_head, contains_none}
use Rattle.sm_merge.proofs.EntriesFound.{get_has, has_key}

pub record IsListed {X : Type 0} (P : X → Type 0) : Type 0 where
  pub xs : List X
  pub all : (x : X) → P x → Contains xs x

abbrev pub AreFew : {X : Type 0} → (X → Type 0) → Type 0
AreFew P = (IsListed P → ⊥) → ⊥

module _ {X : Type 0} where
  -- those of a list
  pub few_among : (xs : List X) → AreFew (Contains xs)
  few_among xs none = none (record { xs = xs; all = λ x h. h })

  pub few_none : (P : X → Type 0) → ((x : X) → P x → ⊥) → AreFew P
  few_none P never none = none (record { xs = []; all = λ x h. absurd (never x h) })

  -- one at most
  pub few_one : (P : X → Type 0) → ((x y : X) → P x → P y → x ≡ y) → AreFew P
  few_one P same none = few_none P (λ x h. none (record { xs = x ∷ []; all = λ y k. here x y (same x y h k) })) none
    where
      here : (x y : X) → x ≡ y → Contains (x ∷ []) y
      here x y is = subst (Contains (x ∷ [])) is (contains_head x [])

  pub few_is : (y : X) → AreFew (λ x. x ≡ y)
  few_is y = few_one (λ x. x ≡ y) (λ x z h k. h ∙ sym k)

  pub few_some : (o : Option X) → AreFew (λ x. o ≡ Some x)
  few_some o = few_one (λ x. o ≡ Some x) (λ x y h k. same_Some x y (sym h ∙ k))

  -- fewer than few
  pub few_same : (P Q : X → Type 0) → ((x : X) → Q x → P x) → AreFew P → AreFew Q
  few_same P Q same few none = few (λ l. none (record { xs = l.xs; all = λ x h. l.all x (same x h) }))

  pub few_either : (P Q : X → Type 0) → AreFew P → AreFew Q → AreFew (λ x. P x ⊎ Q x)
  few_either P Q few other none =
      few (λ l. other (λ m. none (record {
        xs = l.xs ++ m.xs;
        all = λ x h. elim h [
          | inl p ↦ Contains-append_left l.xs m.xs x (l.all x p)
          | inr q ↦ Contains-append_right l.xs m.xs x (m.all x q)
        ];
      })))

  -- what has a place in a list
  pub contains_at : (xs : List X) (n : ℕ) (x : X) → slice_get xs n ≡ Some x → Contains xs x
  contains_at [] n x h = absurd (none-some x h)
  contains_at (y ∷ ys) zero x h = subst (Contains (y ∷ ys)) (same_Some y x h) (contains_head y ys)
  contains_at (y ∷ ys) (suc n) x h = contains_behind y x ys (contains_at ys n x h)

-- what each of few comes to
module _ {X Y : Type 0} (P : X → Type 0) (Q : X → Y → Type 0) where
  abbrev From : List X → Y → Type 0
  From xs y = (x : X) × Contains xs x × Q x y

  one_more : (x : X) (xs : List X) → IsListed (Q x) → IsListed (From xs) → IsListed (From (x ∷ xs))
  one_more x xs here rest = record {
    xs = here.xs ++ rest.xs;
    all = λ y h. elim (contains_either x h.0 xs h.1) [
      | inl same ↦ Contains-append_left here.xs rest.xs y (here.all y (subst (λ w. Q w y) (sym same) h.2))
      | inr later ↦ Contains-append_right here.xs rest.xs y (rest.all y (h.0, later, h.2))
    ];
  }

  from_each : ((x : X) → AreFew (Q x)) → (xs : List X) → AreFew (From xs)
  from_each few [] none = few_none (From []) (λ y h. contains_none h.0 h.1) none
  from_each few (x ∷ xs) none = few x (λ here. from_each few xs (λ rest. none (one_more x xs here rest)))

  pub few_by : AreFew P → ((x : X) → AreFew (Q x)) → AreFew (λ y. (x : X) × P x × Q x y)
  few_by some few none =
      some (λ l. from_each few l.xs (λ m. none (record {
        xs = m.xs;
        all = λ y h. m.all y (h.0, l.all h.0 h.1, h.2);
      })))

-- keys of a map
in_list : (k : List ℕ) (ks : List (List ℕ)) → StandsAmong k ks → Contains ks k
in_list k [] h = absurd h
in_list k (j ∷ js) (inl same) = subst (Contains (j ∷ js)) (sym same) (contains_head j js)
in_list k (j ∷ js) (inr later) = contains_behind j k js (in_list k js later)

pub few_keys : {V : Type 0} (m : fin.FinMap text_cmp V) → AreFew (λ k. (v : V) × (fin.get m k ≡ Some v))
few_keys m none = none (record {
  xs = keys (fin.entries m);
  all = λ k h. in_list k (keys (fin.entries m)) (has_key k h.0 (fin.entries m) (get_has m k h.0 h.1));
})
