-- Two numbers of a closure with one name under a service are both twins, or renamed, or have a name that is given.
use Rattle.std.proofs.Common.{◌≡◌, ◌<◌, ◌∙◌, ◌++◌, ◌+◌, inl, inr, ℕ, Bool, true, false, List, [], ◌∷◌, Option, Some, None, get_or, length}
use Rattle.std.proofs.Common.{refl, sym, ap, subst, take}
use Rattle.std.specs.Prelude.{◌↔◌, IfSome, if◌then◌else◌}
use Rattle.std.specs.FinMap as fin
use Rattle.std.specs.List.{Contains}
use Rattle.std.specs.Option.{unwrap_or}
use Rattle.std.specs.Str.{bytes_eq}
use Rattle.std.proofs.lemmas.Bool.{cases_eq}
use Rattle.std.proofs.lemmas.List.{take_more}
use Rattle.std.proofs.lemmas.List.Elements.{Contains-append_left, Contains-push, Contains-push_cases}
use Rattle.std.proofs.lemmas.Option.{none-some}
use Rattle.std.proofs.lemmas.Slice.Eq.{bytes_eq-Decides}
use Rattle.sm_tree.specs.Node.{Node, members_of}
use Rattle.sm_tree.specs.Parts.{tree_named}
use Rattle.sm_tree.specs.View.{members_view, node_of}
use Rattle.sm_tree.specs.declared.tree.Tree.{Tree}
use Rattle.sm_model.specs.GraphView.{IsShapeNumber, Stands, entries_of, maps_of}
use Rattle.sm_model.specs.Reaching.{IsMarked, id_of_number}
use Rattle.sm_model.specs.declared.graph.Graph.{Graph}
use Rattle.sm_model.proofs.OneRising.{contains_behind, contains_head, contains_none}
use Rattle.sm_model.proofs.Searching.{and_left, and_right}
use Rattle.sm_model.proofs.Worklist.{marked_within}
use Rattle.sm_compile.proofs.LookedUp.{stands_is}
use Rattle.sm_compile.proofs.ReachedNumbers.{same_number}
use Rattle.sm_compile.specs.TraitNodes.{text_of}
use Rattle.sm_passes.specs.Folded.{folded}
use Rattle.sm_passes.proofs.EntriesThere.{entry_there}
use Rattle.sm_name_rules.specs.steps.Naming.{AreAlikeAmong, IsGivenKey, IsKeyBy, IsNameBy, IsOwnKey, is_named, is_own_named}
use Rattle.sm_name_rules.specs.steps.Renaming.{HasAlike, HasRenamed, IsMore, IsOneGiven}
use Rattle.sm_name_rules.specs.steps.NameTwins.{AreNameTwins, IsOneNamed}

-- the pair that gives a name
pair_named : (pairs : List (List ℕ × Tree)) (key name : List ℕ) → text_of (tree_named key (members_of (members_view pairs))) ≡ Some name
    → (p : List ℕ × Tree) × Contains pairs p × (p.0 ≡ key) × (text_of (Some (node_of p.1)) ≡ Some name)
pair_named [] key name h = absurd (none-some name h)
pair_named (x ∷ xs) key name h = by (λ k. pair_named xs key name k) (bytes_eq x.0 key) refl h
  where
    by : (text_of (tree_named key (members_of (members_view xs))) ≡ Some name
        → (p : List ℕ × Tree) × Contains xs p × (p.0 ≡ key) × (text_of (Some (node_of p.1)) ≡ Some name)) → (b : Bool)
        → bytes_eq x.0 key ≡ b
        → text_of (if b then Some (node_of x.1) else tree_named key (members_of (members_view xs))) ≡ Some name
        → (p : List ℕ × Tree) × Contains (x ∷ xs) p × (p.0 ≡ key) × (text_of (Some (node_of p.1)) ≡ Some name)
    by later true is h = (x, contains_head x xs, (bytes_eq-Decides x.0 key).0 is, h)
    by later false is h = let r = later h in (r.0, contains_behind x r.0 xs r.1, r.2, r.3)

module _ (g : Graph) (inside : List Bool) (whole : length inside ≡ length (entries_of g)) where
  pub marked_number : (k : ℕ) → IsMarked inside k → IsShapeNumber g k
  marked_number k h = subst (λ n. k < n) whole (marked_within inside k h)

  marked : (k : ℕ) → is_named g inside k ≡ true → IsMarked inside k
  marked k h = and_left (get_or inside k false) (is_own_named (maps_of g) (id_of_number g k)) h

  module _ (pairs : List (List ℕ × Tree)) (ns : List ℕ) (has : HasAlike g inside pairs ns) (given : List ℕ → Option Node)
      (given_is : (key : List ℕ) → given key ≡ tree_named key (members_of (members_view pairs))) where
    abbrev name_at : ℕ → Option (List ℕ)
    name_at k = text_of (given (id_of_number g k))

    pair_at : (k : ℕ) (name : List ℕ) → name_at k ≡ Some name
        → (p : List ℕ × Tree) × Contains pairs p × (p.0 ≡ id_of_number g k) × (text_of (Some (node_of p.1)) ≡ Some name)
    pair_at k name h = pair_named pairs (id_of_number g k) name (ap text_of (sym (given_is (id_of_number g k))) ∙ h)

    -- what is renamed
    renamed_in : (k : ℕ) (name : List ℕ) → IsShapeNumber g k → name_at k ≡ Some name → Contains ns k
    renamed_in k name small h = let p = pair_at k name h in (has.renamed p.0 p.1).0 k small (sym p.2)

    -- what keeps a name that is given
    kept_in : (j k : ℕ) (name : List ℕ) → name_at j ≡ Some name → IsMarked inside k → IsOwnKey g k (folded name) → Contains ns k
    kept_in j k name h mark own =
        let p = pair_at j name h in
        let one = (has.renamed p.0 p.1).1 in
        by one.0 (subst (λ t. IsOneGiven g inside t one.0) p.3 one.1) one.2
      where
        by : (o : Option ℕ) → IsOneNamed g inside (folded name) o → IfSome o (λ i. Contains ns i) → Contains ns k
        by None none c = absurd (none k mark own)
        by (Some i) named c = elim (cases_eq i k) [
          | inl same ↦ subst (Contains ns) same c
          | inr other ↦ has.twins k (mark, (i, other, named.0, (folded name, named.1, own)))
        ]

    -- the key of what keeps its name, and of what doesn't
    own_key : (k : ℕ) (key : List ℕ) → name_at k ≡ None → IsGivenKey g inside given k key → IsOwnKey g k key
    own_key k key none (passes, (name, named, is)) = (
      and_right (get_or inside k false) (is_own_named (maps_of g) (id_of_number g k)) passes,
      (name, subst (λ o. IsNameBy o (id_of_number g k) name) none named, is),
    )

    given_key : (k : ℕ) (key name : List ℕ) → name_at k ≡ Some name → IsKeyBy given g k key → key ≡ folded name
    given_key k key name some (own, (parts, spelled, is), same) = same ∙ ap folded (is ∙ ap (λ o. unwrap_or o parts.name) some)

    pub alike_among : AreAlikeAmong g inside given (λ k. Contains ns k)
    alike_among j k key other at there = by (name_at j) refl (name_at k) refl
      where
        here : IsMarked inside j
        here = marked j at.0

        by : (o : Option (List ℕ)) → name_at j ≡ o → (q : Option (List ℕ)) → name_at k ≡ q → Contains ns j
        by (Some name) is q at_k = renamed_in j name (marked_number j here) is
        by None is (Some name) at_k =
            kept_in k j name at_k here (subst (IsOwnKey g j) (given_key k key name at_k there.1) (own_key j key is at))
        by None is None at_k =
            has.twins j (here, (k, (λ same. other (sym same)), marked k there.0, (key, own_key k key at_k there, own_key j key is at)))

-- numbers that came to some
module _ (g : Graph) where
  pub more_none : (a : List ℕ) → IsMore g a a
  more_none a = (λ k c. c, λ k c. inl c)

  pub more_twice : (a b c : List ℕ) → IsMore g a b → IsMore g b c → IsMore g a c
  more_twice a b c h k = (
    λ n w. k.0 n (h.0 n w),
    λ n w. elim (k.1 n w) [ inl old ↦ h.1 n old | inr new ↦ inr new ],
  )

  pub more_push : (a b : List ℕ) (n : ℕ) → IsShapeNumber g n → b ≡ a ++ n ∷ [] → IsMore g a b
  more_push a b n small is = (
    λ k c. subst (λ ns. Contains ns k) (sym is) (Contains-append_left a (n ∷ []) k c),
    λ k c. elim (Contains-push_cases a n k (subst (λ ns. Contains ns k) is c)) [
      | inl old ↦ inl old
      | inr last ↦ inr (subst (IsShapeNumber g) last small)
    ],
  )

  pub pushed_there : (a b : List ℕ) (n : ℕ) → b ≡ a ++ n ∷ [] → Contains b n
  pushed_there a b n is = subst (λ ns. Contains ns n) (sym is) (Contains-push a n)

  -- what has an id is the number of the id
  pub id_pushed : (id b : List ℕ) (n : ℕ) → Stands g n id → Contains b n → (k : ℕ) → IsShapeNumber g k → id_of_number g k ≡ id
      → Contains b k
  id_pushed id b n at c k small is =
      let s = stands_is g 0 n id at in
      subst (Contains b) (same_number g n k s.0 small (s.1 ∙ sym is)) c

  pub id_nowhere : (id b : List ℕ) → fin.get (maps_of g).shapes id ≡ None → (k : ℕ) → IsShapeNumber g k → id_of_number g k ≡ id
      → Contains b k
  id_nowhere id b none k small is =
      let e = entry_there g k small in
      absurd (none-some e.0 (sym none ∙ ap (fin.get (maps_of g).shapes) (sym is) ∙ e.1))

  module _ (inside : List Bool) where
    pub one_number : length inside ≡ length (entries_of g) → (t : Option (List ℕ)) (k : ℕ) → IsOneGiven g inside t (Some k)
        → IsShapeNumber g k
    one_number whole None k h = absurd (none-some k (sym h))
    one_number whole (Some name) k h = marked_number g inside whole k h.0

    one_stays : (a b : List ℕ) (o : Option ℕ) → ((k : ℕ) → Contains a k → Contains b k) → IfSome o (λ k. Contains a k)
        → IfSome o (λ k. Contains b k)
    one_stays a b None more h = tt
    one_stays a b (Some k) more h = more k h

    pair_stays : (p : List ℕ × Tree) (a b : List ℕ) → ((k : ℕ) → Contains a k → Contains b k) → HasRenamed g inside p a
        → HasRenamed g inside p b
    pair_stays p a b more h = (λ k small is. more k (h.0 k small is), (h.1.0, h.1.1, one_stays a b h.1.0 more h.1.2))

    -- the twins alone, where nothing is renamed; one pair more; the same numbers
    pub alike_first : length inside ≡ length (entries_of g) → (ts ns : List ℕ) → AreNameTwins g inside ts → ns ≡ ts
        → HasAlike g inside [] ns
    alike_first whole ts ns are is = subst (HasAlike g inside []) (sym is) (record {
      within = λ k c. marked_number g inside whole k ((are k).0 c).0;
      twins = λ k t. (are k).1 t;
      renamed = λ p c. absurd (contains_none p c);
    })

    alike_push : (pairs : List (List ℕ × Tree)) (p : List ℕ × Tree) (a b : List ℕ) → HasAlike g inside pairs a → IsMore g a b
        → HasRenamed g inside p b → HasAlike g inside (pairs ++ p ∷ []) b
    alike_push pairs p a b has more new = record {
      within = λ k c. elim (more.1 k c) [ inl old ↦ has.within k old | inr small ↦ small ];
      twins = λ k t. more.0 k (has.twins k t);
      renamed = λ q c. elim (Contains-push_cases pairs p q c) [
        | inl old ↦ pair_stays q a b more.0 (has.renamed q old)
        | inr last ↦ subst (λ (x : List ℕ × Tree). HasRenamed g inside x b) last new
      ];
    }

    pub alike_next : (pairs : List (List ℕ × Tree)) (i : ℕ) (p : List ℕ × Tree) → i < length pairs → p ≡ get_or pairs i p
        → (a b : List ℕ) → HasAlike g inside (take i pairs) a → IsMore g a b → HasRenamed g inside p b
        → HasAlike g inside (take (i + 1) pairs) b
    alike_next pairs i p small is a b has more new =
        let parts : take (i + 1) pairs ≡ take i pairs ++ p ∷ [] =
        take_more pairs i p small ∙ ap (λ y. take i pairs ++ y ∷ []) (sym is) in
        subst (λ ys. HasAlike g inside ys b) (sym parts) (alike_push (take i pairs) p a b has more new)

    pub alike_same : (pairs : List (List ℕ × Tree)) (a b : List ℕ) → ((k : ℕ) → Contains a k ↔ Contains b k)
        → HasAlike g inside pairs a → HasAlike g inside pairs b
    alike_same pairs a b same h = record {
      within = λ k c. h.within k ((same k).1 c);
      twins = λ k t. (same k).0 (h.twins k t);
      renamed = λ p c. pair_stays p a b (λ k. (same k).0) (h.renamed p c);
    }
