-- Marked numbers that share a first one, counted one by one.
use Rattle.std.proofs.Common.{◌≡◌, ◌⊎◌, inl, inr, ℕ, Bool, true, false, cond, List, [], ◌∷◌, ◌++◌, Option, Some, None, get_or, refl, sym}
use Rattle.std.proofs.Common.{ap, ◌∙◌, subst}
use Rattle.std.specs.Prelude.{◌==◌}
use Rattle.std.specs.List.{Contains}
use Rattle.std.proofs.lemmas.Bool.{eqb-true, eq-eqb}
use Rattle.std.proofs.lemmas.List.Elements.{Contains-append_cases, Contains-append_left, Contains-append_right, Contains-push_cases}
use Rattle.std.proofs.lemmas.Option.{none-some, same_Some}
use Rattle.sm_model.specs.Reaching.{IsMarked}
use Rattle.sm_model.proofs.OneRising.{contains_behind, contains_either, contains_head, contains_none}
use Rattle.sm_model.proofs.Worklist.{apart}
use Rattle.sm_name_rules.specs.steps.NameTwins.{AreCounted, Counts, IsOf, one_of, two_of}

-- two numbers that differ
two_there : (j k : ℕ) → (j ≡ k) ⊎ (Contains (two_of j k) j × Contains (two_of j k) k)
two_there j k = by (j == k) refl
  where
    by : (b : Bool) → (j == k) ≡ b → (j ≡ k) ⊎ (Contains (cond b [] (j ∷ k ∷ [])) j × Contains (cond b [] (j ∷ k ∷ [])) k)
    by true is = inl (eqb-true j k is)
    by false is = inr (contains_head j (k ∷ []), contains_behind j k (k ∷ []) (contains_head k []))

two_from : (j k x : ℕ) → Contains (two_of j k) x → (j ≡ k → ⊥) × ((x ≡ j) ⊎ (x ≡ k))
two_from j k x c = by (j == k) refl c
  where
    last : Contains (k ∷ []) x → x ≡ k
    last c = elim (contains_either k x [] c) [ inl same ↦ sym same | inr none ↦ absurd (contains_none x none) ]

    by : (b : Bool) → (j == k) ≡ b → Contains (cond b [] (j ∷ k ∷ [])) x → (j ≡ k → ⊥) × ((x ≡ j) ⊎ (x ≡ k))
    by true is c = absurd (contains_none x c)
    by false is c = (
      λ same. apart (sym is ∙ eq-eqb j k same),
      elim (contains_either j x (k ∷ []) c) [ inl same ↦ inl (sym same) | inr later ↦ inr (last later) ],
    )

module _ (inside : List Bool) (earlier : ℕ → Option ℕ) where
  -- who is counted, with the one of its name
  abbrev pub HasOne : (ℕ → Option ℕ) → List ℕ → ℕ → ℕ → Type 0
  HasOne ones twins k first =
      (j : ℕ) × (one_of inside ones (Some first) ≡ Some j) × ((j ≡ k) ⊎ (Contains twins j × Contains twins k))

  abbrev AreOnes : (ℕ → Option ℕ) → Type 0
  AreOnes ones = (first k : ℕ) → ones first ≡ Some k → (earlier k ≡ Some first) × IsMarked inside k

  -- the one of a name is marked
  pub one_is : (ones : ℕ → Option ℕ) → AreOnes ones → (first j : ℕ) → one_of inside ones (Some first) ≡ Some j
      → IsMarked inside j × IsOf earlier first j
  one_is ones are first j h = by (get_or inside first false) refl h
    where
      by : (b : Bool) → get_or inside first false ≡ b → cond b (Some first) (ones first) ≡ Some j → IsMarked inside j × IsOf earlier first j
      by true is h = let same : first ≡ j = same_Some first j h in (subst (IsMarked inside) same is, inl (sym same))
      by false is h = let o = are first j h in (o.1, inr o.0)

  -- what was counted stays
  kept : (ones now : ℕ → Option ℕ) (twins twins_now : List ℕ)
      → ((first j : ℕ) → one_of inside ones (Some first) ≡ Some j → one_of inside now (Some first) ≡ Some j)
      → ((k : ℕ) → Contains twins k → Contains twins_now k) → (k first : ℕ) → HasOne ones twins k first → HasOne now twins_now k first
  kept ones now twins twins_now same more k first (j, one, told) = (
    j,
    same first j one,
    elim told [ inl is ↦ inl is | inr both ↦ inr (more j both.0, more k both.1) ],
  )

  -- the same numbers under the same ones
  same_ones : (ones now : ℕ → Option ℕ) → ((q : ℕ) → now q ≡ ones q) → (first j : ℕ) → one_of inside ones (Some first) ≡ Some j
      → one_of inside now (Some first) ≡ Some j
  same_ones ones now same first j h = ap (λ o. cond (get_or inside first false) (Some first) o) (same first) ∙ h

  module _ (ns : List ℕ) (n : ℕ) (marked : IsMarked inside n) (ones : ℕ → Option ℕ) (twins : List ℕ)
      (old : AreCounted inside earlier ns ones twins) (now : ℕ → Option ℕ) (twins_now : List ℕ) where
    abbrev More : Type 0
    More = AreCounted inside earlier (ns ++ n ∷ []) now twins_now

    -- of a number more
    counted_too : ((k first : ℕ) → HasOne ones twins k first → HasOne now twins_now k first)
        → ((first : ℕ) → earlier n ≡ Some first → HasOne now twins_now n first) → (k first : ℕ) → Contains (ns ++ n ∷ []) k
        → earlier k ≡ Some first → HasOne now twins_now k first
    counted_too stays here k first c is = elim (Contains-push_cases ns n k c) [
      | inl before ↦ stays k first (old.counted k first before is)
      | inr same ↦ subst (λ x. HasOne now twins_now x first) same (here first (ap earlier same ∙ is))
    ]

    not_later : earlier n ≡ None → ((q : ℕ) → now q ≡ ones q) → twins_now ≡ twins → More
    not_later none same stay = record {
      one = λ first k h. old.one first k (sym (same first) ∙ h);
      counted = counted_too
          (kept ones now twins twins_now (same_ones ones now same) (λ k c. subst (λ ts. Contains ts k) (sym stay) c))
          (λ first is. absurd (none-some first (sym none ∙ is)));
      twin = λ k c. old.twin k (subst (λ ts. Contains ts k) stay c);
    }

    -- where another number is first
    module _ (f : ℕ) (is : earlier n ≡ Some f) where
      for_it : HasOne now twins_now n f → (first : ℕ) → earlier n ≡ Some first → HasOne now twins_now n first
      for_it has first too = subst (HasOne now twins_now n) (same_Some f first (sym is ∙ too)) has

      another : (j : ℕ) → one_of inside ones (Some f) ≡ Some j → ((q : ℕ) → now q ≡ ones q) → twins_now ≡ twins ++ two_of j n → More
      another j one same stay = record {
        one = λ first k h. old.one first k (sym (same first) ∙ h);
        counted = counted_too
            (kept ones now twins twins_now (same_ones ones now same)
            (λ k c. subst (λ ts. Contains ts k) (sym stay) (Contains-append_left twins (two_of j n) k c)))
            (for_it (j, same_ones ones now same f j one, here));
        twin = λ k c. elim (Contains-append_cases twins (two_of j n) k (subst (λ ts. Contains ts k) stay c)) [
          | inl before ↦ old.twin k before
          | inr new ↦ let t = two_from j n k new in told k t.0 t.1
        ];
      }
        where
          here : (j ≡ n) ⊎ (Contains twins_now j × Contains twins_now n)
          here = elim (two_there j n) [
            | inl same ↦ inl same
            | inr both ↦ inr (
              subst (λ ts. Contains ts j) (sym stay) (Contains-append_right twins (two_of j n) j both.0),
              subst (λ ts. Contains ts n) (sym stay) (Contains-append_right twins (two_of j n) n both.1),
            )
          ]

          told : (k : ℕ) → (j ≡ n → ⊥) → (k ≡ j) ⊎ (k ≡ n) → IsMarked inside k
              × ((i first : ℕ) × (i ≡ k → ⊥) × IsMarked inside i × IsOf earlier first i × IsOf earlier first k)
          told k differ (inl at) =
              let o = one_is ones old.one f j one in (
                subst (IsMarked inside) (sym at) o.0,
                (n, f, λ e. differ (sym (e ∙ at)), marked, inr is, subst (IsOf earlier f) (sym at) o.1),
              )
          told k differ (inr at) =
              let o = one_is ones old.one f j one in (
                subst (IsMarked inside) (sym at) marked,
                (j, f, λ e. differ (e ∙ at), o.0, o.1, subst (IsOf earlier f) (sym at) (inr is)),
              )

      first_one : one_of inside ones (Some f) ≡ None → ((q : ℕ) → now q ≡ cond (f == q) (Some n) (ones q)) → twins_now ≡ twins → More
      first_one none changed stay = record {
        one = λ first k h. by_one first k (f == first) refl (sym (changed first) ∙ h);
        counted = counted_too
            (kept ones now twins twins_now (λ first j h. stays first j (get_or inside first false) refl h)
            (λ k c. subst (λ ts. Contains ts k) (sym stay) c))
            (for_it (n, here (get_or inside f false) refl none, inl refl));
        twin = λ k c. old.twin k (subst (λ ts. Contains ts k) stay c);
      }
        where
          by_one : (first k : ℕ) (b : Bool) → (f == first) ≡ b → cond b (Some n) (ones first) ≡ Some k
              → (earlier k ≡ Some first) × IsMarked inside k
          by_one first k true at h =
              let same : f ≡ first = eqb-true f first at in
              let own : n ≡ k = same_Some n k h in
              (ap earlier (sym own) ∙ is ∙ ap (λ x. Some x) same, subst (IsMarked inside) own marked)
          by_one first k false at h = old.one first k h

          stays : (first j : ℕ) (b : Bool) → get_or inside first false ≡ b → cond b (Some first) (ones first) ≡ Some j
              → one_of inside now (Some first) ≡ Some j
          stays first j true at h = ap (λ b. cond b (Some first) (now first)) at ∙ h
          stays first j false at h =
              ap (λ b. cond b (Some first) (now first)) at ∙ changed first ∙ by_key (f == first) refl
            where
              by_key : (b : Bool) → (f == first) ≡ b → cond b (Some n) (ones first) ≡ Some j
              by_key true same =
                  let there_too : one_of inside ones (Some first) ≡ Some j = ap (λ b. cond b (Some first) (ones first)) at ∙ h in
                  absurd (none-some j (sym none ∙ ap (λ q. one_of inside ones (Some q)) (eqb-true f first same) ∙ there_too))
              by_key false same = h

          here : (b : Bool) → get_or inside f false ≡ b → cond b (Some f) (ones f) ≡ None → one_of inside now (Some f) ≡ Some n
          here true at h = absurd (none-some f (sym h))
          here false at h =
              ap (λ b. cond b (Some f) (now f)) at ∙ changed f ∙ ap (λ b. cond b (Some n) (ones f)) (eq-eqb f f refl)

    pub counted_next : Counts (earlier n) (one_of inside ones (earlier n)) n ones twins now twins_now → More
    counted_next h = by (earlier n) refl h
      where
        by_one : (f : ℕ) → earlier n ≡ Some f → (o : Option ℕ) → one_of inside ones (Some f) ≡ o
            → Counts (Some f) o n ones twins now twins_now → More
        by_one f is (Some j) one h = another f is j one h.0 h.1
        by_one f is None one h = first_one f is one h.0 h.1

        by : (o : Option ℕ) → earlier n ≡ o → Counts o (one_of inside ones o) n ones twins now twins_now → More
        by None none h = not_later none h.0 h.1
        by (Some f) is h = by_one f is (one_of inside ones (Some f)) refl h

  -- nothing is counted yet
  pub counted_none : (ones : ℕ → Option ℕ) → ((q : ℕ) → ones q ≡ None) → AreCounted inside earlier [] ones []
  counted_none ones none = record {
    one = λ first k h. absurd (none-some k (sym (none first) ∙ h));
    counted = λ k first c is. absurd (contains_none k c);
    twin = λ k c. absurd (contains_none k c);
  }
