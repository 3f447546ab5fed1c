-- Rows in groups: the keys are those of the rows in byte order, each once, and a group has what stands under its key.
use Rattle.std.proofs.Common.{◌≡◌, ◌⊎◌, inl, inr, ℕ, Bool, true, false, cond, List, [], ◌∷◌, map, refl, sym, ap, ◌∙◌, subst}
use Rattle.std.specs.Prelude.{None, Some, if◌then◌else◌}
use Rattle.std.specs.FinMap.Entries.{find}
use Rattle.std.specs.List.{AllByRecursion, cons_option}
use Rattle.std.specs.List.Sorted.{IsStrictlySortedBy}
use Rattle.std.specs.Option.{unwrap_or}
use Rattle.std.specs.Ordering.{is_eq, ordering_reverse}
use Rattle.std.specs.Str.{bytes_eq}
use Rattle.std.specs.declared.cmp.Ordering.{Ordering}
use Rattle.std.specs.declared.cmp.Ordering.TheVariants.{Less, Equal, Greater}
use Rattle.std.proofs.lemmas.Cmp.{nat_list_cmp_total}
use Rattle.sm_model.specs.Graphs.{text_cmp}
use Rattle.sm_model.specs.steps.Rising.{IsBelow, Rise}
use Rattle.sm_groups.specs.Groups.{AreGroupsOf, all_under, groups_view}
use Rattle.sm_groups.specs.declared.groups.Group.{Group}
use Rattle.sm_groups.proofs.GroupsMade.{tie_itself}
use Rattle.sm_codec.specs.Named.{in_byte_order, named, names_of}
use Rattle.sm_codec.proofs.KeyOrder.{InOrder, IsBefore, IsIn, is_ordered, named_in, ordered, ordered_is, same_order, same_where_equal, stands_in}

before_below : (k : List ℕ) (ks : List (List ℕ)) → IsBelow k ks → IsBefore k ks
before_below k [] h = tt
before_below k (j ∷ ks) h = (h.0, before_below k ks h.1)

in_order : (ks : List (List ℕ)) → Rise ks → InOrder ks
unfolding IsStrictlySortedBy
in_order [] h = tt
in_order (k ∷ ks) h = (before_below k ks h.0, in_order ks h.1)

module _ {V : Type 0} where
  -- what stands under a key, by either word
  pub under_named : (key : List ℕ) (es : List (List ℕ × V)) → all_under key es ≡ named key es
  under_named key [] = refl
  under_named key (e ∷ es) = by (bytes_eq e.0 key) (under_named key es)
    where
      by : (b : Bool) → all_under key es ≡ named key es
          → cons_option (if b then Some e.1 else None) (all_under key es) ≡ cond b (e.1 ∷ named key es) (named key es)
      by true rest = ap (λ vs. e.1 ∷ vs) rest
      by false rest = rest

  abbrev keys : List (List ℕ × List V) → List (List ℕ)
  keys gs = map (λ g. g.0) gs

  -- each group is found by its key
  found_behind : (g : List ℕ × List V) (gs all : List (List ℕ × List V)) → IsBelow g.0 (keys gs)
      → AllByRecursion (λ h. find text_cmp h.0 all ≡ Some h.1) gs → AllByRecursion (λ h. find text_cmp h.0 (g ∷ all) ≡ Some h.1) gs
  found_behind g [] all below found = tt
  found_behind g (h ∷ gs) all below found =
      let greater : text_cmp h.0 g.0 ≡ Greater = nat_list_cmp_total.antisymm h.0 g.0 ∙ ap ordering_reverse below.0 in (
        ap (λ r. cond (is_eq r) (Some g.1) (find text_cmp h.0 all)) greater ∙ found.0,
        found_behind g gs all below.1 found.1,
      )

  all_found : (gs : List (List ℕ × List V)) → Rise (keys gs) → AllByRecursion (λ g. find text_cmp g.0 gs ≡ Some g.1) gs
  all_found [] rise = tt
  all_found (g ∷ gs) rise = (
    ap (λ r. cond (is_eq r) (Some g.1) (find text_cmp g.0 gs)) (tie_itself g.0),
    found_behind g gs gs rise.0 (all_found gs rise.1),
  )

  -- and something stands there
  abbrev pub IsFilled : List ℕ × List V → Type 0
  IsFilled g = (v : V) × (vs : List V) × (g.1 ≡ v ∷ vs)

  found_key : (key : List ℕ) (gs : List (List ℕ × List V)) → (find text_cmp key gs ≡ None → ⊥) → IsIn key (keys gs)
  found_key key [] some = absurd (some refl)
  found_key key (g ∷ gs) some = by (text_cmp key g.0) refl some (found_key key gs)
    where
      by : (r : Ordering) → text_cmp key g.0 ≡ r → (cond (is_eq r) (Some g.1) (find text_cmp key gs) ≡ None → ⊥)
          → ((find text_cmp key gs ≡ None → ⊥) → IsIn key (keys gs)) → (key ≡ g.0) ⊎ IsIn key (keys gs)
      by Less e found behind = inr (behind found)
      by Equal e found behind = inl (same_where_equal key g.0 e)
      by Greater e found behind = inr (behind found)

  module _ (es : List (List ℕ × V)) (gs : List (List ℕ × List V)) (are : AreGroupsOf es gs) where
    named_by : (hs : List (List ℕ × List V)) → AllByRecursion (λ g. find text_cmp g.0 gs ≡ Some g.1) hs
        → AllByRecursion (λ g. named g.0 es ≡ g.1) hs
    named_by [] found = tt
    named_by (h ∷ hs) found = (
      sym (under_named h.0 es) ∙ sym (are.each h.0) ∙ ap (λ o. unwrap_or o []) found.0,
      named_by hs found.1,
    )

    pub groups_named : AllByRecursion (λ g. named g.0 es ≡ g.1) gs
    groups_named = named_by gs (all_found gs are.rise)

    key_named : (hs : List (List ℕ × List V)) → AllByRecursion (λ g. named g.0 es ≡ g.1) hs → AllByRecursion IsFilled hs → (z : List ℕ)
        → IsIn z (keys hs) → IsIn z (names_of es)
    key_named [] named_all filled z i = absurd i
    key_named (h ∷ hs) named_all filled z (inl e) =
        subst (λ w. IsIn w (names_of es)) (sym e) (named_in h.0 es filled.0.0 filled.0.1 (named_all.0 ∙ filled.0.2))
    key_named (h ∷ hs) named_all filled z (inr i) = key_named hs named_all.1 filled.1 z i

    name_keyed : (z : List ℕ) → IsIn z (names_of es) → IsIn z (keys gs)
    name_keyed z i =
        found_key z gs (λ none. stands_in z es i (sym (under_named z es) ∙ sym (are.each z) ∙ ap (λ o. unwrap_or o []) none))

    pub keys_grouped : AllByRecursion IsFilled gs → keys gs ≡ in_byte_order (names_of es)
    keys_grouped filled =
        same_order (keys gs) (in_byte_order (names_of es)) (in_order (keys gs) are.rise) (ordered (names_of es))
        (λ z i. is_ordered z (names_of es) (key_named gs groups_named filled z i))
        (λ z i. name_keyed z (ordered_is z (names_of es) i))

  -- groups of the code are filled
  pub groups_filled : (gs : List (Group V)) → AllByRecursion IsFilled (groups_view gs)
  groups_filled [] = tt
  groups_filled (g ∷ gs) = ((g.first, g.more.items, refl), groups_filled gs)
