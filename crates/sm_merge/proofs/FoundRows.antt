-- What is found under a name in rows: one part after another, rows seen otherwise, some of them, and each name once.
use Rattle.std.proofs.Common.{◌≡◌, ℕ, Bool, true, false, cond, List, [], ◌∷◌, ◌++◌, map, filter, Option, Some, None, refl, sym, ap, ◌∙◌}
use Rattle.std.proofs.Common.{bytes_eq}
use Rattle.std.specs.Prelude.{not}
use Rattle.std.specs.Option.{option_map, option_or}
use Rattle.std.specs.FinMap.{slice_cmp-IsAntisymmetric, nat_cmp-IsAntisymmetric}
use Rattle.std.specs.FinMap.Entries.{find, find-where_key}
use Rattle.std.specs.Ordering.{is_eq}
use Rattle.std.specs.declared.cmp.Ordering.TheVariants.{Equal}
use Rattle.std.proofs.lemmas.Slice.Eq.{bytes_eq-Decides}
use Rattle.sm_tree.specs.View.{node_of}
use Rattle.sm_model.specs.Graphs.{text_cmp}
use Rattle.sm_merge.specs.steps.EffectiveTables.{trait_pairs}
use Rattle.sm_merge.specs.steps.Filling.{folded_rows}
use Rattle.sm_merge.specs.steps.Firsts.{NamesAndTargets, firsts}
use Rattle.sm_merge.specs.declared.effective.NamedFolded.{NamedFolded}
use Rattle.sm_merge.specs.declared.value.Folded.{Folded}
use Rattle.sm_groups.proofs.GroupsMade.{tests, tie_itself}
use Rattle.sm_merge.proofs.TablesMade.{AllFound}

pub same_key : (k l : List ℕ) → text_cmp k l ≡ Equal → k ≡ l
same_key k l e = slice_cmp-IsAntisymmetric nat_cmp-IsAntisymmetric k l e

module _ {X : Type 0} where
  pub find_joined : (k : List ℕ) (es fs : List (List ℕ × X)) → find text_cmp k (es ++ fs) ≡ option_or (find text_cmp k es)
      (find text_cmp k fs)
  find_joined k [] fs = refl
  find_joined k (e ∷ es) fs = by (is_eq (text_cmp k e.0)) (find_joined k es fs)
    where
      by : (b : Bool) → find text_cmp k (es ++ fs) ≡ option_or (find text_cmp k es) (find text_cmp k fs)
          → cond b (Some e.1) (find text_cmp k (es ++ fs)) ≡ option_or (cond b (Some e.1) (find text_cmp k es)) (find text_cmp k fs)
      by true h = refl
      by false h = h

  pub find_kept : (k : List ℕ) (p : List ℕ → Bool) (es : List (List ℕ × X))
      → find text_cmp k (filter (λ e. p e.0) es) ≡ cond (p k) (find text_cmp k es) None
  find_kept k p es = find-where_key text_cmp p k (λ x e. ap p (sym (same_key k x e))) es

module _ {X Y : Type 0} (f : X → Y) where
  pub find_mapped : (k : List ℕ) (es : List (List ℕ × X))
      → find text_cmp k (map (λ e. (e.0, f e.1)) es) ≡ option_map f (find text_cmp k es)
  find_mapped k [] = refl
  find_mapped k (e ∷ es) = by (is_eq (text_cmp k e.0)) (find_mapped k es)
    where
      by : (b : Bool) → find text_cmp k (map (λ e. (e.0, f e.1)) es) ≡ option_map f (find text_cmp k es)
          → cond b (Some (f e.1)) (find text_cmp k (map (λ e. (e.0, f e.1)) es)) ≡ option_map f (cond b (Some e.1) (find text_cmp k es))
      by true h = refl
      by false h = h

  pub or_mapped : (o p : Option X) → option_map f (option_or o p) ≡ option_or (option_map f o) (option_map f p)
  or_mapped None p = refl
  or_mapped (Some x) p = refl

-- another name is found behind, and the first one here
pub passed : {X : Type 0} (k : List ℕ) (e : List ℕ × X) (es : List (List ℕ × X)) → bytes_eq e.0 k ≡ false
    → find text_cmp k (e ∷ es) ≡ find text_cmp k es
passed k e es apart = ap (λ b. cond b (Some e.1) (find text_cmp k es)) (tests k e.0 ∙ apart)

pub here : {X : Type 0} (k : List ℕ) (e : List ℕ × X) (es : List (List ℕ × X)) → bytes_eq e.0 k ≡ true
    → find text_cmp k (e ∷ es) ≡ Some e.1
here k e es same = ap (λ b. cond b (Some e.1) (find text_cmp k es)) (tests k e.0 ∙ same)

-- the same where the value depends on the name too
pub find_seen : {X Y : Type 0} (f : List ℕ → X → Y) (k : List ℕ) (es : List (List ℕ × X))
    → find text_cmp k (map (λ e. (e.0, f e.0 e.1)) es) ≡ option_map (f k) (find text_cmp k es)
find_seen f k [] = refl
find_seen {X} {Y} f k (e ∷ es) = by (bytes_eq e.0 k) refl (find_seen f k es)
  where
    by : (b : Bool) → bytes_eq e.0 k ≡ b → find text_cmp k (map (λ e. (e.0, f e.0 e.1)) es) ≡ option_map (f k) (find text_cmp k es)
        → find text_cmp k (map (λ e. (e.0, f e.0 e.1)) (e ∷ es)) ≡ option_map (f k) (find text_cmp k (e ∷ es))
    by true is rest =
        here k (e.0, f e.0 e.1) (map (λ e. (e.0, f e.0 e.1)) es) is
        ∙ ap (λ n. Some (f n e.1)) ((bytes_eq-Decides e.0 k).0 is) ∙ sym (ap (option_map (f k)) (here k e es is))
    by false is rest =
        passed k (e.0, f e.0 e.1) (map (λ e. (e.0, f e.0 e.1)) es) is ∙ rest ∙ sym (ap (option_map (f k)) (passed k e es is))

-- rows as pairs of names and values
pub pairs_of_rows : (ts : List NamedFolded) → trait_pairs ts ≡ map (λ r. (r.0, node_of r.1.value)) (folded_rows ts)
pairs_of_rows [] = refl
pairs_of_rows (t ∷ ts) = ap (λ ps. (t.name.now, node_of t.folded.now.value) ∷ ps) (pairs_of_rows ts)

pub find_pairs : (k : List ℕ) (ts : List NamedFolded)
    → find text_cmp k (trait_pairs ts) ≡ option_map (λ (f : Folded). node_of f.value) (find text_cmp k (folded_rows ts))
find_pairs k ts = ap (find text_cmp k) (pairs_of_rows ts) ∙ find_mapped (λ (f : Folded). node_of f.value) k (folded_rows ts)

-- names once: the first of each is found
pub find_firsts : (k : List ℕ) (ps : NamesAndTargets) → find text_cmp k (firsts ps) ≡ find text_cmp k ps
find_firsts k [] = refl
find_firsts k (p ∷ ps) = by (bytes_eq p.0 k) refl (find_firsts k ps)
  where
    by : (b : Bool) → bytes_eq p.0 k ≡ b → find text_cmp k (firsts ps) ≡ find text_cmp k ps
        → find text_cmp k (firsts (p ∷ ps)) ≡ find text_cmp k (p ∷ ps)
    by true h rest = here k p (filter (λ q. not (bytes_eq p.0 q.0)) (firsts ps)) h ∙ sym (here k p ps h)
    by false h rest =
        passed k p (filter (λ q. not (bytes_eq p.0 q.0)) (firsts ps)) h
        ∙ find_kept k (λ name. not (bytes_eq p.0 name)) (firsts ps)
        ∙ ap (λ b. cond (not b) (find text_cmp k (firsts ps)) None) h ∙ rest ∙ sym (passed k p ps h)

found_behind : (p : List ℕ × List ℕ) (ps qs : NamesAndTargets) → AllFound (λ k. find text_cmp k ps) qs
    → AllFound (λ k. find text_cmp k (p ∷ ps)) (filter (λ q. not (bytes_eq p.0 q.0)) qs)
found_behind p ps [] h = tt
found_behind p ps (q ∷ qs) h = by (bytes_eq p.0 q.0) refl (found_behind p ps qs h.1)
  where
    by : (b : Bool) → bytes_eq p.0 q.0 ≡ b → AllFound (λ k. find text_cmp k (p ∷ ps)) (filter (λ q. not (bytes_eq p.0 q.0)) qs)
        → AllFound (λ k. find text_cmp k (p ∷ ps))
        (cond (not b) (q ∷ filter (λ q. not (bytes_eq p.0 q.0)) qs) (filter (λ q. not (bytes_eq p.0 q.0)) qs))
    by true is rest = rest
    by false is rest = (passed q.0 p ps is ∙ h.0, rest)

pub firsts_found : (ps : NamesAndTargets) → AllFound (λ k. find text_cmp k ps) (firsts ps)
firsts_found [] = tt
firsts_found (p ∷ ps) =
    (ap (λ b. cond b (Some p.1) (find text_cmp p.0 ps)) (ap is_eq (tie_itself p.0)), found_behind p ps (firsts ps) (firsts_found ps))
