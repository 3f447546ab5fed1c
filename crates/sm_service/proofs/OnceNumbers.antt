-- Numbers of ids, each put once: what is marked was put.
use Rattle.std.proofs.Common.{◌≡◌, inl, inr, ℕ, ◌+◌, ◌<◌, Bool, true, false, cond, List, [], ◌∷◌, ◌++◌, None, filter, get_or, length, map}
use Rattle.std.proofs.Common.{drop, refl, sym, ap, ◌∙◌, subst, append-nil}
use denote.Ref.{Bor}
use Rattle.std.specs.FinMap as fin
use Rattle.std.specs.List.{Contains}
use Rattle.std.proofs.lemmas.List.{drop_more, map-append}
use Rattle.std.proofs.lemmas.List.Elements.{Contains-append_cases, Contains-get_or}
use Rattle.sm_model.specs.GraphView.{IsShapeNumber, maps_of}
use Rattle.sm_model.specs.Reaching.{AreFound, id_of_number}
use Rattle.sm_model.specs.declared.graph.Graph.{Graph}
use Rattle.std.proofs.lemmas.Option.{none-some}
use Rattle.sm_model.proofs.GraphFacts.{entry_under, id_at}
use Rattle.sm_model.proofs.LinkNumbers.{stands_at}
use Rattle.sm_model.proofs.OneRising.{contains_either, contains_none}
use Rattle.sm_model.proofs.Worklist.{apart}
use Rattle.sm_compile.specs.steps.Naming.{texts_of_all}
use Rattle.sm_compile.proofs.ReachedNumbers.{ids_among, same_number}
use Rattle.sm_compile.proofs.TabledShapes.{mapped_from, mapped_to}
use Rattle.sm_service.specs.References.{once}
use Rattle.sm_service.specs.steps.OperationRows.{AreRowNumbers, HasRow, IsIdOf, is_none_of}
use Rattle.sm_service.proofs.OnceNamed.{all_pass, kept_again, kept_new}

module _ (g : Graph) (shapes : List ℕ) (rows : AreRowNumbers g shapes) where
  pub id_there : (id : List ℕ) → HasRow g shapes id → IsIdOf g id
  id_there id h = (h.0, rows.numbers h.0 h.1, h.2)

  pub row_there : (id : List ℕ) (k : ℕ) → HasRow g shapes id → IsShapeNumber g k → id_of_number g k ≡ id → Contains shapes k
  row_there id k h lt is = subst (Contains shapes) (same_number g h.0 k (rows.numbers h.0 h.1) lt (h.2 ∙ sym is)) h.1

  module _ (kept now : List ℕ) (marks : List Bool) (k : ℕ) (found : AreFound marks kept)
      (there : (j : ℕ) → Contains kept j → Contains shapes j) (put : now ≡ kept ++ cond (get_or marks k false) [] (k ∷ [])) where
    pub still_there : Contains shapes k → (j : ℕ) → Contains now j → Contains shapes j
    still_there row j h = by (get_or marks k false) (subst (λ ns. Contains ns j) put h)
      where
        by : (b : Bool) → Contains (kept ++ cond b [] (k ∷ [])) j → Contains shapes j
        by true h = there j (subst (λ ns. Contains ns j) (append-nil kept) h)
        by false h = elim (Contains-append_cases kept (k ∷ []) j h) [
          | inl before ↦ there j before
          | inr here ↦ elim (contains_either k j [] here) [
            | inl same ↦ subst (Contains shapes) same row
            | inr none ↦ absurd (contains_none j none)
          ]
        ]

    -- what was put is said before, and the rest behind it
    abbrev SaysRest : List ℕ → List (List ℕ) → List (List ℕ) → Type 0
    SaysRest ns ids all =
        map (id_of_number g) ns ++ filter (is_none_of (map (id_of_number g) ns)) (once ids) ≡ once all

    pub said_on : (id : List ℕ) (ids all : List (List ℕ)) → IsShapeNumber g k → id_of_number g k ≡ id
        → SaysRest kept (id ∷ ids) all → SaysRest now ids all
    said_on id ids all lt is said = subst (λ ns. SaysRest ns ids all) (sym put) (by (get_or marks k false) refl)
      where
        by : (b : Bool) → get_or marks k false ≡ b → SaysRest (kept ++ cond b [] (k ∷ [])) ids all
        by true marked =
            let here = subst (Contains (map (id_of_number g) kept)) is (ids_among g kept k ((found.marked k).0 marked)) in
            subst (λ ns. SaysRest ns ids all) (sym (append-nil kept))
            (ap (λ zs. map (id_of_number g) kept ++ zs) (sym (kept_again (map (id_of_number g) kept) id ids here)) ∙ said)
        by false not_marked =
            let nowhere : Contains (map (id_of_number g) kept) id → ⊥ = λ h.
            let r = mapped_from (id_of_number g) kept id h in
            let same : r.0 ≡ k = same_number g r.0 k (rows.numbers r.0 (there r.0 r.1)) lt (r.2 ∙ sym is) in
            apart (sym not_marked ∙ (found.marked k).1 (subst (Contains kept) same r.1)) in
            let one : map (id_of_number g) (kept ++ k ∷ []) ≡ map (id_of_number g) kept ++ id ∷ [] =
            map-append (id_of_number g) kept (k ∷ []) ∙ ap (λ x. map (id_of_number g) kept ++ x ∷ []) is in
            subst (λ ns. ns ++ filter (is_none_of ns) (once ids) ≡ once all) (sym one)
            (sym (kept_new (map (id_of_number g) kept) id ids nowhere) ∙ said)

-- texts that are borrowed, one after the other
module _ (ts : List (Bor (List ℕ))) (i : ℕ) (d : Bor (List ℕ)) (lt : i < length ts) where
  pub texts_on : texts_of_all (drop i ts) ≡ (get_or ts i d).now ∷ texts_of_all (drop (i + 1) ts)
  texts_on = ap texts_of_all (drop_more ts i d lt)

  pub text_at : Contains (texts_of_all ts) (get_or ts i d).now
  text_at = mapped_to (λ (x : Bor (List ℕ)). x.now) ts (get_or ts i d) (Contains-get_or ts i d lt)

pub id_stands : (g : Graph) (id : List ℕ) → IsIdOf g id → fin.get (maps_of g).shapes id ≡ None → ⊥
id_stands g id h none =
    let at = stands_at g h.0 h.1 in
    let same : at.0 ≡ id = sym (id_at g h.0 at.0 at.1 at.2) ∙ h.2 in
    none-some at.1 (sym none ∙ ap (fin.get (maps_of g).shapes) (sym same) ∙ entry_under g h.0 at.0 at.1 at.2)

-- nothing is put at first
pub said_first : (ids : List (List ℕ)) → filter (is_none_of []) (once ids) ≡ once ids
said_first ids = all_pass (is_none_of []) (once ids) (λ y there. refl)
