-- Texts with their places, as one more is put behind them.
use Rattle.std.proofs.Common.{◌≡◌, inl, inr, ℕ, zero, suc, ◌+◌, Bool, true, false, cond, List, [], ◌∷◌, ◌++◌, map, length, Option, Some}
use Rattle.std.proofs.Common.{None, refl, sym, ap, ◌∙◌, subst}
use Rattle.std.specs.Prelude.{slice_get}
use Rattle.std.specs.Cmp.Lexicographic.{bytes_decides, nat_list_eq_equiv, slice_cmp}
use Rattle.std.specs.List.{Contains}
use Rattle.std.specs.BTreeMap.{is_at}
use Rattle.std.specs.Map.{lookup, update}
use Rattle.std.specs.Ordering.{nat_cmp}
use denote.Ref.{Bor}
use Rattle.std.specs.Str.{bytes_eq}
use Rattle.std.proofs.lemmas.Bool.{true≢false}
use Rattle.std.proofs.lemmas.List.{length-map, map-append}
use Rattle.std.proofs.lemmas.List.Elements.{Contains-push_cases}
use Rattle.std.proofs.lemmas.Option.{none-some, same_Some}
use Rattle.sm_model.specs.GraphView.{IsShapeNumber}
use Rattle.sm_model.specs.declared.graph.Graph.{Graph}
use Rattle.sm_model.proofs.OneRising.{contains_behind, contains_head, contains_none}
use Rattle.sm_compile.specs.Compiled.{PatternRows, texts_of}
use Rattle.sm_compile.specs.declared.patterns.CarriedTexts.{CarriedTexts}
use Rattle.sm_compile.specs.declared.patterns.FirstCarrier.{FirstCarrier}
use Rattle.sm_compile.specs.steps.Carrying.{AreCarriedBelow, AreCarriedUpTo, IsCarriedAt, IsPlaced, place_in, rows_in, texts_in}
use Rattle.sm_compile.proofs.PatternsPut.{none_carried, one_more}

abbrev row_of : FirstCarrier → ℕ × List ℕ
row_of f = (f.number, f.text.now)

-- nothing is put yet
pub none_put : (g : Graph) (marks : List Bool) (c : CarriedTexts) → c.firsts.items ≡ [] → c.places.entries ≡ []
    → AreCarriedUpTo g marks 0 c
none_put g marks c none empty =
    let rows : rows_in c ≡ [] = ap (λ fs. map row_of fs) none in record {
      rows = subst (AreCarriedBelow g marks 0) (sym rows) (none_carried g marks);
      placed = λ u.
          subst (λ es. IsPlaced (texts_in c) u (lookup (is_at (λ (k : Bor (List ℕ)). slice_cmp nat_cmp u k.now)) es)) (sym empty)
          (λ among. contains_none u (subst (λ (rs : PatternRows). Contains (texts_of rs) u) rows among));
    }

-- what stands at a place is there
pub there_at : (ts : List (List ℕ)) (i : ℕ) (u : List ℕ) → slice_get ts i ≡ Some u → Contains ts u
there_at [] i u is = absurd (none-some u is)
there_at (t ∷ ts) zero u is = subst (Contains (t ∷ ts)) (same_Some t u is) (contains_head t ts)
there_at (t ∷ ts) (suc i) u is = contains_behind t u ts (there_at ts i u is)

-- a place stays where one more is put behind
still_at : (ts : List (List ℕ)) (t : List ℕ) (i : ℕ) (u : List ℕ) → slice_get ts i ≡ Some u → slice_get (ts ++ t ∷ []) i ≡ Some u
still_at [] t i u is = absurd (none-some u is)
still_at (x ∷ ts) t zero u is = is
still_at (x ∷ ts) t (suc i) u is = still_at ts t i u is

at_end : (ts : List (List ℕ)) (t : List ℕ) → slice_get (ts ++ t ∷ []) (length ts) ≡ Some t
at_end [] t = refl
at_end (x ∷ ts) t = at_end ts t

not_same : (t u : List ℕ) → bytes_eq t u ≡ false → t ≡ u → ⊥
not_same t u other same = true≢false (sym (same_eq t u same) ∙ other)
  where
    same_eq : (t u : List ℕ) → t ≡ u → bytes_eq t u ≡ true
    same_eq t u same = subst (λ v. bytes_eq t v ≡ true) same (nat_list_eq_equiv.refl t)

still_placed : (ts : List (List ℕ)) (t u : List ℕ) (place : Option ℕ) → bytes_eq t u ≡ false → IsPlaced ts u place
    → IsPlaced (ts ++ t ∷ []) u place
still_placed ts t u None other is = λ among. elim (Contains-push_cases ts t u among) [
  | inl old ↦ is old
  | inr same ↦ not_same t u other same
]
still_placed ts t u (Some i) other is = still_at ts t i u is

one_placed : (ts : List (List ℕ)) (t u : List ℕ) (place : Option ℕ) (b : Bool) → bytes_eq t u ≡ b → IsPlaced ts u place
    → IsPlaced (ts ++ t ∷ []) u (cond b (Some (length ts)) place)
one_placed ts t u place true same is =
    subst (λ v. slice_get (ts ++ t ∷ []) (length ts) ≡ Some v) ((bytes_decides t u).0 same) (at_end ts t)
one_placed ts t u place false other is = still_placed ts t u place other is

pub text_put : (g : Graph) (marks : List Bool) (c d : CarriedTexts) (f : FirstCarrier) (place : ℕ)
    → place ≡ length c.firsts.items → d.firsts.items ≡ c.firsts.items ++ f ∷ []
    → ((u : List ℕ) → place_in d.places u ≡ update bytes_eq (place_in c.places) f.text.now (Some place) u)
    → AreCarriedUpTo g marks f.number c → IsShapeNumber g f.number → IsCarriedAt g marks f.text.now f.number
    → (Contains (texts_in c) f.text.now → ⊥) → AreCarriedUpTo g marks (f.number + 1) d
text_put g marks c d f place long items puts h lt is fresh =
    let rows : rows_in d ≡ rows_in c ++ (f.number, f.text.now) ∷ [] = ap (λ fs. map row_of fs) items ∙ map-append row_of c.firsts.items
    (f ∷ []) in
    let texts : texts_in d ≡ texts_in c ++ f.text.now ∷ [] =
    ap texts_of rows ∙ map-append (λ (r : ℕ × List ℕ). r.1) (rows_in c) ((f.number, f.text.now) ∷ []) in
    let at : place ≡ length (texts_in c) =
    long ∙ sym (length-map (rows_in c) (λ (r : ℕ × List ℕ). r.1) ∙ length-map c.firsts.items row_of) in
    record {
      rows = subst (AreCarriedBelow g marks (f.number + 1)) (sym rows)
          (one_more g marks f.number f.text.now (rows_in c) h.rows lt is fresh);
      placed = λ u.
          subst (λ ts. IsPlaced ts u (place_in d.places u)) (sym texts)
          (subst (IsPlaced (texts_in c ++ f.text.now ∷ []) u)
          (sym (puts u ∙ ap (λ n. cond (bytes_eq f.text.now u) (Some n) (place_in c.places u)) at))
          (one_placed (texts_in c) f.text.now u (place_in c.places u) (bytes_eq f.text.now u) refl (h.placed u)));
    }
