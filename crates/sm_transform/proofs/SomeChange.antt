-- It can't be that a change makes no graph, where a new name isn't refused: what it keeps is told by a test, and the entries that pass
-- make one.
use Rattle.std.proofs.Common.{◌≡◌, ◌⊎◌, ◌++◌, inl, inr, ℕ, Bool, true, false, not, List, [], ◌∷◌, Option, Some, None, refl, sym, ap}
use Rattle.std.proofs.Common.{subst, ◌∙◌, bytes_eq}
use Rattle.std.specs.Prelude.{◌↔◌, if◌then◌else◌}
use Rattle.std.specs.FinMap as fin
use Rattle.std.specs.List.{list_all}
use Rattle.std.proofs.lemmas.Bool.{cases_Bool, true≢false}
use Rattle.std.proofs.lemmas.List.{append_cancel_left}
use Rattle.std.proofs.lemmas.List.Folds.{list_all-append}
use Rattle.std.proofs.lemmas.Option.{none-some}
use Rattle.std.proofs.lemmas.Slice.Eq.{bytes_eq-Decides}
use Rattle.sm_ids.specs.TextParts.{absolute_id, local_part, namespace_part}
use Rattle.sm_ids.proofs.Cutting.{both, heads, tails}
use Rattle.sm_model.specs.Formed.{StandsAmong}
use Rattle.sm_model.specs.FormedGraph.{IsFormedGraph}
use Rattle.sm_model.specs.Graphs.{Entry, GraphMaps}
use Rattle.sm_model.specs.Relations.{HasEntry, IsInGraph}
use Rattle.sm_model.specs.declared.relation.Relation.TheVariants.{Input, Member, Output, Target}
use Rattle.sm_model.proofs.MapFacts.{Each, keys}
use Rattle.sm_model.proofs.NumberedIds.{related_in}
use Rattle.sm_select.specs.Selectors.{Steps}
use Rattle.sm_transform.specs.Changed.{Changed, IsMadeOf, exclude, include, rename, unless}
use Rattle.sm_transform.specs.Excluded.{IsOut, Needs, its_input, its_member, its_output, its_shape, its_target, lacks, picked}
use Rattle.sm_transform.specs.IdChanges.{entry_after}
use Rattle.sm_transform.specs.Included.{StaysIncluded}
use Rattle.sm_transform.specs.Laws.{SomeChanged}
use Rattle.sm_transform.specs.Namespaces.{is_of_namespace}
use Rattle.sm_transform.specs.Renamed.{IsRefused, renamed_id, renames, shape_known}
use Rattle.sm_transform.proofs.ExcludedGraph.{made_same}
use Rattle.sm_transform.proofs.FoundEntries.{each_there, get_stands, key_found}
use Rattle.sm_transform.proofs.IdNamespaces.{id_parts, is_no_sign, signless}
use Rattle.sm_transform.proofs.MadeOfGiven.{Comes, made_by}
use Rattle.sm_transform.proofs.PickedInGraph.{picked_in}
use Rattle.sm_transform.proofs.RenamedIds.{graph_id}

-- a test tells what holds of some ids, and says no of all others
record IsTold (P : List ℕ → Type 0) (ids : List (List ℕ)) : Type 0 where
  test : List ℕ → Bool
  told : (id : List ℕ) → StandsAmong id ids → (test id ≡ true) ↔ P id
  others : (id : List ℕ) → (StandsAmong id ids → ⊥) → test id ≡ false

module _ (P : List ℕ → Type 0) where
  abbrev with_test : List ℕ → Bool → (List ℕ → Bool) → List ℕ → Bool
  with_test x b test id = if bytes_eq id x then b else test id

  told_more : (x : List ℕ) (xs : List (List ℕ)) (b : Bool) → ((b ≡ true) ↔ P x) → IsTold P xs → IsTold P (x ∷ xs)
  told_more x xs b is rest = record {
    test = with_test x b rest.test;
    told = λ id among. elim (cases_Bool (bytes_eq id x)) [
      | inl same ↦
          let id_is = (bytes_eq-Decides id x).0 same in
          let now : with_test x b rest.test id ≡ b = ap (λ c. if c then b else rest.test id) same in
          (λ h. subst P (sym id_is) (is.0 (sym now ∙ h)), λ p. now ∙ is.1 (subst P id_is p))
      | inr other ↦
          let now : with_test x b rest.test id ≡ rest.test id = ap (λ c. if c then b else rest.test id) other in
          let behind = rest.told id (later id other among) in
          (λ h. behind.0 (sym now ∙ h), λ p. now ∙ behind.1 p)
    ];
    others = λ id none. elim (cases_Bool (bytes_eq id x)) [
      | inl same ↦ absurd (none (inl ((bytes_eq-Decides id x).0 same)))
      | inr other ↦ ap (λ c. if c then b else rest.test id) other ∙ rest.others id (λ among. none (inr among))
    ];
  }
    where
      later : (id : List ℕ) → bytes_eq id x ≡ false → StandsAmong id (x ∷ xs) → StandsAmong id xs
      later id other (inl same) = absurd (true≢false (sym ((bytes_eq-Decides id x).1 same) ∙ other))
      later id other (inr among) = among

  -- by ids that are few, it can't be that there is none
  some_test : (ids : List (List ℕ)) → (IsTold P ids → ⊥) → ⊥
  some_test [] none = none (record { test = λ id. false; told = λ id among. absurd among; others = λ id h. refl })
  some_test (x ∷ xs) none = some_test xs (λ rest. none (told_more x xs false (
    λ h. absurd (true≢false (sym h)),
    λ p. absurd (none (told_more x xs true (λ h. p, λ q. refl) rest)),
  ) rest))

-- the entries that pass, as what becomes of them
module _ (test : List ℕ → Bool) (moved : List ℕ → List ℕ) (after : Entry → Entry) where
  abbrev Stays : List ℕ → Type 0
  Stays id = test id ≡ true

  abbrev put_if : Bool → List ℕ × Entry → List (List ℕ × Entry) → List (List ℕ × Entry)
  put_if true e es = (moved e.0, after e.1) ∷ es
  put_if false e es = es

  abbrev passing : List (List ℕ × Entry) → List (List ℕ × Entry)
  passing [] = []
  passing (e ∷ es) = put_if (test e.0) e (passing es)

  passing_key : (es : List (List ℕ × Entry)) (id : List ℕ) → StandsAmong id (keys es) → Stays id → StandsAmong (moved id) (keys (passing es))
  passing_key [] id among is = absurd among
  passing_key (e ∷ es) id (inl same) is =
      subst (λ b. StandsAmong (moved id) (keys (put_if b e (passing es)))) (sym (ap test (sym same) ∙ is)) (inl (ap moved same))
  passing_key (e ∷ es) id (inr among) is = behind (test e.0) (passing_key es id among is)
    where
      behind : (b : Bool) → StandsAmong (moved id) (keys (passing es)) → StandsAmong (moved id) (keys (put_if b e (passing es)))
      behind true h = inr h
      behind false h = h

  module _ (g : GraphMaps) where
    passing_come : (es : List (List ℕ × Entry)) → Each (HasEntry g) es → Each (Comes Stays moved after g) (passing es)
    passing_come [] h = tt
    passing_come (e ∷ es) h = by (passing_come es h.1) (test e.0) refl
      where
        by : Each (Comes Stays moved after g) (passing es) → (b : Bool) → test e.0 ≡ b
            → Each (Comes Stays moved after g) (put_if b e (passing es))
        by rest true is = ((e.0, e.1, h.0, is, refl, refl), rest)
        by rest false is = rest

    made_by_test : ((a b : List ℕ) → IsInGraph g a → IsInGraph g b → moved a ≡ moved b → a ≡ b)
        → (h : GraphMaps) × IsMadeOf Stays moved after g h
    made_by_test apart =
        let es = passing (fin.entries g.shapes) in (
          record { shapes = fin.from_entries es; metadata = g.metadata },
          made_by Stays moved after g es g.metadata (λ a b f k x y same. apart a b (f, x) (k, y) same)
              (passing_come (fin.entries g.shapes) (each_there g.shapes))
              (λ old f there is. passing_key (fin.entries g.shapes) old (get_stands g.shapes old f there) is) refl,
        )

-- an option has something or nothing
either_option : {X : Type 0} → (o : Option X) → (o ≡ None) ⊎ ((x : X) × (o ≡ Some x))
either_option None = inl refl
either_option (Some x) = inr (x, refl)

-- what is out is in the graph
needs_in : (g : GraphMaps) (id gone : List ℕ) → Needs g id gone → IsInGraph g id
needs_in g id gone (its_shape h) = (related_in Member g gone id h).1
needs_in g id gone (its_target h) = (related_in Target g id gone h).0
needs_in g id gone (its_member c h) = (related_in Member g id gone h).0
needs_in g id gone (its_input h) = (related_in Input g id gone h).0
needs_in g id gone (its_output h) = (related_in Output g id gone h).0

out_in : (g : GraphMaps) (steps : Steps) (id : List ℕ) → IsOut g steps id → IsInGraph g id
out_in g steps id (picked api h) = picked_in g steps id h
out_in g steps id (lacks {gone} api h needs) = needs_in g id gone needs

-- a text in which one `#` stands is cut at it
sign_within : (a x : List ℕ) → list_all is_no_sign (a ++ 35 ∷ x) ≡ true → ⊥
sign_within a x h =
    let parts = both (list_all is_no_sign a) (list_all is_no_sign (35 ∷ x)) (sym (list_all-append is_no_sign a (35 ∷ x)) ∙ h) in
    true≢false (sym parts.1)

one_sign : (a x b y : List ℕ) → list_all is_no_sign b ≡ true → list_all is_no_sign y ≡ true → a ++ 35 ∷ x ≡ b ++ 35 ∷ y → a ≡ b
one_sign [] x [] y h k same = refl
one_sign [] x (d ∷ b) y h k same =
    let none : is_no_sign 35 ≡ true = subst (λ c. is_no_sign c ≡ true) (sym (heads 35 d x (b ++ 35 ∷ y) same))
    (both (is_no_sign d) (list_all is_no_sign b) h).0 in
    absurd (true≢false (sym none))
one_sign (c ∷ a) x [] y h k same =
    absurd (sign_within a x (subst (λ t. list_all is_no_sign t ≡ true) (sym (tails c 35 (a ++ 35 ∷ x) y same)) k))
one_sign (c ∷ a) x (d ∷ b) y h k same =
    let first = heads c d (a ++ 35 ∷ x) (b ++ 35 ∷ y) same in
    let rest = one_sign a x b y (both (is_no_sign d) (list_all is_no_sign b) h).1 k (tails c d (a ++ 35 ∷ x) (b ++ 35 ∷ y) same) in
    λ i. first i ∷ rest i

-- ids that become those of a namespace in which the graph has none stay apart
module _ (g : GraphMaps) (f : IsFormedGraph g) (from to : List ℕ) (free : IsRefused g from to → ⊥) where
  elsewhere : (id : List ℕ) → IsInGraph g id → namespace_part id ≡ to → ⊥
  elsewhere id there same = free (inr (inr (shape_known id there same)))

  not_moved_here : (id name : List ℕ) → IsInGraph g id → absolute_id to name ≡ id → ⊥
  not_moved_here id name there same =
      let p = id_parts id (graph_id g f id there.0 there.1) in
      elsewhere id there (sym (one_sign to name (namespace_part id) (local_part id) (signless (namespace_part id) p.namespace) p.local
      (same ∙ p.whole)))

  renamed_differ : (a b : List ℕ) → IsInGraph g a → IsInGraph g b → renamed_id from to a ≡ renamed_id from to b → a ≡ b
  renamed_differ a b x y same = elim (cases_Bool (is_of_namespace from a)) [
    | inl ha ↦ elim (cases_Bool (is_of_namespace from b)) [
      | inl hb ↦
          let both_moved : absolute_id to (local_part a) ≡ absolute_id to (local_part b) = sym (moved a ha) ∙ same ∙ moved b hb in
          let names : local_part a ≡ local_part b = name_same (append_cancel_left to (35 ∷ local_part a) (35 ∷ local_part b) both_moved) in
          let spaces : namespace_part a ≡ namespace_part b = of_space a ha ∙ sym (of_space b hb) in
          (id_parts a (graph_id g f a x.0 x.1)).whole ∙ (λ i. absolute_id (spaces i) (names i))
          ∙ sym (id_parts b (graph_id g f b y.0 y.1)).whole
      | inr hb ↦ absurd (not_moved_here b (local_part a) y (sym (moved a ha) ∙ same ∙ stays b hb))
    ]
    | inr ha ↦ elim (cases_Bool (is_of_namespace from b)) [
      | inl hb ↦ absurd (not_moved_here a (local_part b) x (sym (moved b hb) ∙ sym same ∙ stays a ha))
      | inr hb ↦ sym (stays a ha) ∙ same ∙ stays b hb
    ]
  ]
    where
      moved : (id : List ℕ) → is_of_namespace from id ≡ true → renamed_id from to id ≡ absolute_id to (local_part id)
      moved id h = ap (λ b. if b then absolute_id to (local_part id) else id) h

      stays : (id : List ℕ) → is_of_namespace from id ≡ false → renamed_id from to id ≡ id
      stays id h = ap (λ b. if b then absolute_id to (local_part id) else id) h

      of_space : (id : List ℕ) → is_of_namespace from id ≡ true → namespace_part id ≡ from
      of_space id h = (bytes_eq-Decides (namespace_part id) from).0 h

      name_same : {s t : List ℕ} → 35 ∷ s ≡ 35 ∷ t → s ≡ t
      name_same {s} {t} h = tails 35 35 s t h

-- a change by the test that tells what it keeps
included_by : (g : GraphMaps) (steps : Steps) → IsTold (StaysIncluded g steps) (keys (fin.entries g.shapes))
    → (h : GraphMaps) × Changed g (include steps) h
included_by g steps t =
    let made = made_by_test t.test (λ id. id) (λ e. e) g (λ a b x y same. same) in (
      made.0,
      record {
        shapes = λ id e. (
          λ x. let c = (made.1.shapes id e).0 x in (c.0, c.1, c.2, (told c.0 c.1 c.2).0 c.3, c.4, c.5),
          λ c. (made.1.shapes id e).1 (c.0, c.1, c.2, (told c.0 c.1 c.2).1 c.3, c.4, c.5),
        );
        metadata = made.1.metadata;
      },
    )
  where
    told : (id : List ℕ) (e : Entry) → HasEntry g id e → (t.test id ≡ true) ↔ StaysIncluded g steps id
    told id e there = t.told id (get_stands g.shapes id e there)

excluded_by : (g : GraphMaps) (steps : Steps) → IsTold (IsOut g steps) (keys (fin.entries g.shapes))
    → (h : GraphMaps) × Changed g (exclude steps) h
excluded_by g steps t =
    let made = made_by_test (λ id. not (t.test id)) (λ id. id) (entry_after (unless t.test)) g (λ a b x y same. same) in (
      made.0,
      record {
        out = t.test;
        told = λ id. (
          λ h. elim (either_option (fin.get g.shapes id)) [
            | inl none ↦ absurd (true≢false (sym h ∙ t.others id (λ among.
                let there = key_found g.shapes id among in none-some there.0 (sym none ∙ there.1))))
            | inr some ↦ (t.told id (get_stands g.shapes id some.0 some.1)).0 h
          ],
          λ is. let there = out_in g steps id is in (t.told id (get_stands g.shapes id there.0 there.1)).1 is,
        );
        made = made_same (λ id. not (t.test id) ≡ true) (λ id. t.test id ≡ false) (λ id. id) (λ id. id) (entry_after (unless t.test)) g
            made.0 (λ id. not_is (t.test id)) (λ id. refl) made.1;
      },
    )
  where
    not_is : (b : Bool) → (not b ≡ true) ↔ (b ≡ false)
    not_is true = (λ h. sym h, λ h. sym h)
    not_is false = (λ h. refl, λ h. refl)

renamed_by : (g : GraphMaps) → IsFormedGraph g → (from to : List ℕ) → (IsRefused g from to → ⊥)
    → (h : GraphMaps) × Changed g (rename from to) h
renamed_by g f from to free =
    let made = made_by_test (λ id. true) (renamed_id from to) (entry_after (renames from to)) g (renamed_differ g f from to free) in (
      made.0,
      made_same (λ id. true ≡ true) (λ id. Unit {0}) (renamed_id from to) (renamed_id from to) (entry_after (renames from to)) g made.0
          (λ id. (λ h. tt, λ h. refl)) (λ id. refl) made.1,
    )

pub some_changed : SomeChanged
some_changed g (include steps) f free none =
    some_test (StaysIncluded g steps) (keys (fin.entries g.shapes)) (λ t. let h = included_by g steps t in none h.0 h.1)
some_changed g (exclude steps) f free none =
    some_test (IsOut g steps) (keys (fin.entries g.shapes)) (λ t. let h = excluded_by g steps t in none h.0 h.1)
some_changed g (rename from to) f free none = let h = renamed_by g f from to free in none h.0 h.1
