-- Forms of the standard that aren't read, by what stands first.
use Rattle.std.proofs.Common.{◌≡◌, ◌≢◌, ◌⊎◌, inl, inr, ℕ, zero, suc, ◌||◌, Bool, true, false, List, [], ◌∷◌, ◌++◌, drop, refl, sym, ap}
use Rattle.std.proofs.Common.{◌∙◌, subst, codes, arith}
use Rattle.std.specs.Prelude.{MatchBool}
use Rattle.std.specs.List.{Contains}
use Rattle.sm_ids.proofs.Cutting.{clash, heads, tails, one_cut}
use Rattle.sm_select.specs.Tokens.{BeginsOther, begins_run, is_run_byte}
use Rattle.sm_select.specs.SelectorText.{IsRun, OtherForm, variable, scoped_or_back, function, category, categories, read_names}
use Rattle.sm_select.specs.steps.Signs.{opens}
use Rattle.sm_select.specs.steps.Reader.{BeginsNoRun, IsRunAt}
use Rattle.sm_select.proofs.WordBytes.{run_stops}
use Rattle.sm_select.proofs.SignTexts.{opens_cut, opens_joined}
use Rattle.sm_select.proofs.ReadWords.{run_all}

-- `$`, `<-[` or `[@`
abbrev pub opens_other : List ℕ → Bool
opens_other s = opens (codes "$") s || (opens (codes "<-[") s || opens (codes "[@") s)

either : (a b : Bool) → (a || b) ≡ true → (a ≡ true) ⊎ (b ≡ true)
either true b h = inl refl
either false b h = inr h

neither : (a b : Bool) → (a || b) ≡ false → (a ≡ false) × (b ≡ false)
neither true b h = absurd cc
neither false b h = (refl, h)

pub opens_form : (s : List ℕ) → opens_other s ≡ true → OtherForm s
opens_form s h = elim (either (opens (codes "$") s) (opens (codes "<-[") s || opens (codes "[@") s) h) [
  | inl e ↦ variable (drop 1 s) (opens_cut (codes "$") s e)
  | inr more ↦ elim (either (opens (codes "<-[") s) (opens (codes "[@") s) more) [
    | inl e ↦ scoped_or_back (inl (drop 3 s, opens_cut (codes "<-[") s e))
    | inr e ↦ scoped_or_back (inr (drop 2 s, opens_cut (codes "[@") s e))
  ]
]

-- the run that stands first is one
one_run : (name s behind w : List ℕ) → IsRun name s behind → IsRunAt s w → name ≡ w
one_run name s behind w r (inl (none, e)) =
    absurd (clash (begins_run r.first) r.begins (subst BeginsNoRun (r.spelled ∙ ap (λ x. x ++ behind) r.is) none))
one_run name s behind w r (inr (b, t)) =
    (one_cut is_run_byte name w behind b (run_all name s behind r) (run_all w s b t) (run_stops behind r.ends) (run_stops b t.ends)
    (sym r.spelled ∙ t.spelled)).0

run_some : (s w : List ℕ) → IsRunAt s w → (w ≢ []) → (behind : List ℕ) × IsRun w s behind
run_some s w (inl (none, e)) some = absurd (some e)
run_some s w (inr r) some = r

-- `:` and another name, or a category
pub name_form : (s more w : List ℕ) → s ≡ 58 ∷ more → IsRunAt more w → (w ≢ []) × (Contains read_names w → ⊥) → OtherForm s
name_form s more w e at (some, none) = let r = run_some more w at some in function w more r.0 e r.1 none

pub category_form : (s w : List ℕ) → IsRunAt s w → Contains categories w → (w ≢ []) → OtherForm s
category_form s w at is some = let r = run_some s w at some in category w r.0 r.1 is

-- a category's name has bytes
category_some : (w : List ℕ) → Contains categories w → (w ≢ [])
category_some w (zero, less, e) f = let g : codes "simpleType" ≡ [] = e ∙ f in absurd cc
category_some w (suc zero, less, e) f = let g : codes "number" ≡ [] = e ∙ f in absurd cc
category_some w (suc (suc zero), less, e) f = let g : codes "collection" ≡ [] = e ∙ f in absurd cc
category_some w (suc (suc (suc k)), less, e) f = absurd (omega (arith, less))

opened_not : (t s more : List ℕ) → opens t s ≡ false → s ≡ t ++ more → ⊥
opened_not t s more none e = clash (opens t s) (subst (λ x. opens t x ≡ true) (sym e) (opens_joined t more)) none

module _ (s : List ℕ) (none : opens_other s ≡ false) where
  no_variable : (more : List ℕ) → s ≡ 36 ∷ more → ⊥
  no_variable more e = opened_not (codes "$") s more
      (neither (opens (codes "$") s) (opens (codes "<-[") s || opens (codes "[@") s) none).0 e

  no_scoped : BeginsOther s → ⊥
  no_scoped other =
      let rest = (neither (opens (codes "$") s) (opens (codes "<-[") s || opens (codes "[@") s) none).1 in
      let both = neither (opens (codes "<-[") s) (opens (codes "[@") s) rest in
      elim other [
        | inl (more, e) ↦ opened_not (codes "<-[") s more both.0 e
        | inr (more, e) ↦ opened_not (codes "[@") s more both.1 e
      ]

  pub no_name_form : (more w : List ℕ) → s ≡ 58 ∷ more → IsRunAt more w → (w ≢ [] → Contains read_names w) → OtherForm s → ⊥
  no_name_form more w e at known (variable rest f) = no_variable rest f
  no_name_form more w e at known (scoped_or_back other) = no_scoped other
  no_name_form more w e at known (function name rest behind f r refuted) =
      let same : rest ≡ more = tails 58 58 rest more (sym f ∙ e) in
      let run = subst (λ x. IsRun name x behind) same r in
      let is : name ≡ w = one_run name more behind w run at in
      refuted (subst (Contains read_names) (sym is) (known (λ empty. not_empty name more behind run (is ∙ empty))))
    where
      not_empty : (n x b : List ℕ) → IsRun n x b → n ≡ [] → ⊥
      not_empty n x b r g = let h : [] ≡ r.first ∷ r.more = sym g ∙ r.is in absurd cc
  no_name_form more w e at known (category name behind r is) =
      let here : 58 ∷ more ≡ r.first ∷ (r.more ++ behind) = sym e ∙ r.spelled ∙ ap (λ x. x ++ behind) r.is in
      absurd (let f : false ≡ true =
      subst (λ x. begins_run x ≡ true) (sym (heads 58 r.first more (r.more ++ behind) here)) r.begins in cc)

  pub no_category_form : (w : List ℕ) → ((more : List ℕ) → s ≢ 58 ∷ more) → IsRunAt s w → (Contains categories w → ⊥) → OtherForm s → ⊥
  no_category_form w refuted at none_of (variable rest f) = no_variable rest f
  no_category_form w refuted at none_of (scoped_or_back other) = no_scoped other
  no_category_form w refuted at none_of (function name rest behind f r known) = refuted rest f
  no_category_form w refuted at none_of (category name behind r is) = none_of
      (subst (Contains categories) (one_run name s behind w r at) is)

  -- the tests of the reader
  pub by_name : (more w : List ℕ) → s ≡ 58 ∷ more → IsRunAt more w → (b : Bool)
      → MatchBool b ((w ≢ []) × (Contains read_names w → ⊥)) (w ≢ [] → Contains read_names w)
      → MatchBool b (OtherForm s) (OtherForm s → ⊥)
  by_name more w e at true h = name_form s more w e at h
  by_name more w e at false h = no_name_form more w e at h

  pub by_category : (w : List ℕ) → ((more : List ℕ) → s ≢ 58 ∷ more) → IsRunAt s w → (b : Bool)
      → MatchBool b (Contains categories w) (Contains categories w → ⊥)
      → MatchBool b (OtherForm s) (OtherForm s → ⊥)
  by_category w absent at true h = category_form s w at h (category_some w h)
  by_category w absent at false h = no_category_form w absent at h
