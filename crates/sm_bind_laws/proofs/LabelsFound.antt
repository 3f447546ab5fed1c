-- The text of a label's member is found under its name among the labels of a pattern.
use Rattle.std.proofs.Common.{◌≡◌, inl, inr, ℕ, Bool, true, false, cond, List, [], ◌∷◌, map, refl, sym, ap, ◌∙◌, subst}
use Rattle.std.specs.Prelude.{IfSome, None, Option, Some}
use Rattle.std.specs.Str.{bytes_eq}
use Rattle.std.proofs.lemmas.Bool.{false_from_ne_true}
use Rattle.std.proofs.lemmas.Slice.Eq.{bytes_eq-Decides}
use Rattle.sm_shapes.specs.Fitting.{Test}
use Rattle.sm_shapes.specs.Names.{AllDiffer, NoneIs}
use Rattle.sm_shapes.specs.Places.{member_place}
use Rattle.sm_shapes.specs.TableData.{BindingData, label, name_at, required_at}
use Rattle.sm_shapes.specs.Values.{FieldVals, Val}
use Rattle.sm_shapes.proofs.NamedMembers.{IsAmong, among_contains}
use Rattle.sm_codec.specs.Named.{named}
use Rattle.sm_codec.proofs.KeyOrder.{IsIn, in_contains}
use Rattle.sm_routes.specs.WrittenTargets.{LabelText, label_text}
use Rattle.sm_part_values.specs.PartTexts.{in_target, text_child}
use Rattle.sm_part_texts.specs.CarriedTexts.{is_carried}
use Rattle.sm_part_texts.specs.PlaceTexts.{in_targets, text_at}
use Rattle.sm_part_texts.specs.declared.carried.TextTest.TheVariants.{OfLabel}
use Rattle.sm_part_texts.proofs.TextsHad.{passed_here}
use Rattle.sm_bind_read.specs.bind.Roles.{Bound, binding_on, bound_members}
use Rattle.sm_bind_read.specs.PartFaults.{bound_codec}
use Rattle.sm_bind_write.specs.CarriedParts.{uncarried_bound}
use Rattle.sm_bind_write.specs.WrittenParts.{member_labels, value_of, written_labels}
use Rattle.sm_part_laws.specs.Coming.{ComeTo}
use Rattle.sm_part_laws.specs.Laws.{LabelRead}
use Rattle.sm_bind_laws.specs.WrittenLabels.{texts_for}
use Rattle.sm_bind_laws.proofs.EachCarried.{CanBeRead, IsReady, all_at}
use Rattle.sm_bind_laws.proofs.FieldsEach.{FitsMaybe, at_most, each_map, over_only, over_through, value_held}
use Rattle.sm_bind_laws.proofs.MembersRead.{StandFor}
use Rattle.sm_bind_laws.proofs.QueriesFound.{named_both}

-- among names that differ one finds its own text
name_apart : (w : List ℕ) (names : List (List ℕ)) (labels : List LabelText) → NoneIs w names → named w (texts_for names labels) ≡ []
name_apart w [] labels h = refl
name_apart w (name ∷ names) labels h =
    ap (λ t. cond t (label_text name labels ∷ named w (texts_for names labels)) (named w (texts_for names labels)))
    (false_from_ne_true (bytes_eq name w) (λ e. h.0 ((bytes_eq-Decides name w).0 e)))
    ∙ name_apart w names labels h.1

none_of : (name w : List ℕ) (names : List (List ℕ)) → NoneIs name names → IsIn w names → name ≡ w → ⊥
none_of name w [] h i e = i
none_of name w (k ∷ ks) h (inl same) e = h.0 (sym same ∙ sym e)
none_of name w (k ∷ ks) h (inr i) e = none_of name w ks h.1 i e

one_by : (w name : List ℕ) (names : List (List ℕ)) (labels : List LabelText) (t : Bool) → bytes_eq name w ≡ t → NoneIs name names
    → (IsIn w names → named w (texts_for names labels) ≡ label_text w labels ∷ []) → IsIn w (name ∷ names)
    → cond t (label_text name labels ∷ named w (texts_for names labels)) (named w (texts_for names labels)) ≡ label_text w labels ∷ []
one_by w name names labels true e none rest i =
    let same = (bytes_eq-Decides name w).0 e in
    ap (λ us. label_text name labels ∷ us) (name_apart w names labels (subst (λ u. NoneIs u names) same none))
    ∙ ap (λ u. label_text u labels ∷ []) same
one_by w name names labels false e none rest (inl same) = absurd (both (sym ((bytes_eq-Decides name w).1 (sym same)) ∙ e))
  where
    both : true ≡ false → ⊥
    both h = cc
one_by w name names labels false e none rest (inr i) = rest i

pub one_text : (w : List ℕ) (names : List (List ℕ)) (labels : List LabelText) → AllDiffer names → IsIn w names
    → named w (texts_for names labels) ≡ label_text w labels ∷ []
one_text w [] labels differ i = absurd i
one_text w (name ∷ names) labels differ i =
    one_by w name names labels (bytes_eq name w) refl differ.0 (λ l. one_text w names labels differ.1 l) i

-- the first text of a name
first_by : (t : Bool) (u v : List ℕ) (us vs : List (List ℕ)) (text : List ℕ) → cond t (u ∷ us) us ≡ v ∷ vs → (us ≡ v ∷ vs → text ≡ v)
    → cond t u text ≡ v
first_by true u v us vs text e rest = cc
first_by false u v us vs text e rest = rest e

pub first_text : (w : List ℕ) (labels : List LabelText) (v : List ℕ) (vs : List (List ℕ)) → named w labels ≡ v ∷ vs
    → label_text w labels ≡ v
first_text w [] v vs e = absurd cc
first_text w (l ∷ ls) v vs e =
    first_by (bytes_eq l.0 w) l.1 v (named w ls) vs (label_text w ls) e (λ d. first_text w ls v vs d)

-- members of one name are one
apart_of : (f : ℕ → List ℕ) (w : List ℕ) (k : ℕ) (ks : List ℕ) → NoneIs w (map f ks) → IsAmong k ks → f k ≡ w → ⊥
apart_of f w k [] h i e = i
apart_of f w k (j ∷ js) h (inl same) e = h.0 (ap f (sym same) ∙ e)
apart_of f w k (j ∷ js) h (inr i) e = apart_of f w k js h.1 i e

pub one_member : (f : ℕ → List ℕ) (j k : ℕ) (ks : List ℕ) → AllDiffer (map f ks) → IsAmong j ks → IsAmong k ks → f j ≡ f k → j ≡ k
one_member f j k [] h i l e = absurd i
one_member f j k (x ∷ xs) h (inl here) (inl also) e = here ∙ sym also
one_member f j k (x ∷ xs) h (inl here) (inr l) e = absurd (apart_of f (f x) k xs h.0 l (sym e ∙ ap f here))
one_member f j k (x ∷ xs) h (inr i) (inl also) e = absurd (apart_of f (f x) j xs h.0 i (e ∙ ap f also))
one_member f j k (x ∷ xs) h (inr i) (inr l) e = one_member f j k xs h.1 i l e

module _ (b : Bound) (test : Test) (labels : List (List ℕ)) (fs : FieldVals) (can : CanBeRead b test labels fs) where
  abbrev members : List ℕ
  members = bound_members b

  module _ (k : ℕ) (there : IsAmong k members) (bound : binding_on b k ≡ Some label) where
    abbrev own_name : List ℕ
    own_name = name_at b.table k

    abbrev label_texts : ℕ → Val → List (List ℕ)
    label_texts j w = named own_name (member_labels (binding_on b j) b.table j w)

    other_labels : (j : ℕ) (w : Val) → IsAmong j members → (j ≡ k → ⊥) → (o : Option BindingData) → binding_on b j ≡ o
        → named own_name (member_labels o b.table j w) ≡ []
    other_labels j w i other (Some label) e =
        ap (λ t. cond t (text_at in_targets b.table (member_place j) w ∷ []) [])
        (false_from_ne_true (bytes_eq (name_at b.table j) own_name) (λ d.
        other (one_member (name_at b.table) j k members (can.right.shaped.names b.shape can.right.within) i there
        ((bytes_eq-Decides (name_at b.table j) own_name).0 d))))
    other_labels j w i other o e = refl

    own_labels : (v : Val) → label_texts k v ≡ text_at in_targets b.table (member_place k) v ∷ []
    own_labels v =
        ap (λ x. named own_name (member_labels x b.table k v)) bound
        ∙ ap (λ t. cond t (text_at in_targets b.table (member_place k) v ∷ []) []) ((bytes_eq-Decides own_name own_name).1 refl)

    -- the member is required, so it is present
    pub present : (v : Val) × (value_of k fs ≡ Some v) × IsReady b test k v
    present = by (value_of k fs) refl (all_at (λ j. FitsMaybe b.table test j (value_of j fs)) k members can.maybe there)
        (value_held (IsReady b test) k fs can.each)
      where
        by : (o : Option Val) → value_of k fs ≡ o → FitsMaybe b.table test k o → IfSome o (IsReady b test k)
            → (v : Val) × (value_of k fs ≡ Some v) × IsReady b test k v
        by None e maybe ready =
            absurd (both (required_at b.table k) (can.right.labelled k (among_contains k members there) bound).1 maybe.0)
          where
            both : (t : Bool) → t ≡ true → t ≡ false → ⊥
            both t h g = cc
        by (Some v) e maybe ready = (v, e, ready)

    pub label_found : label_text own_name (written_labels b fs) ≡ text_at in_targets b.table (member_place k) present.0
    label_found =
        let others = each_map (IsReady b test) (λ j w. (j ≡ k → ⊥) → label_texts j w ≡ [])
        (λ j w ready other. other_labels j w ready.among other (binding_on b j) refl) fs can.each in
        first_text own_name (written_labels b fs) (text_at in_targets b.table (member_place k) present.0) []
        (over_through (named own_name) refl (named_both own_name) (λ j. member_labels (binding_on b j) b.table j) fs
        ∙ over_only label_texts k fs can.apart others ∙ ap (at_most (label_texts k)) present.1 ∙ own_labels present.0)

    pub label_carried : is_carried OfLabel b.table (member_place k) present.0 ≡ true
    label_carried =
        passed_here (is_carried OfLabel b.table (member_place k) present.0)
        (subst (λ o. uncarried_bound o b k present.0 ≡ []) bound present.2.carried)

    pub label_read : LabelRead → (found : List LabelText) → found ≡ texts_for labels (written_labels b fs)
        → StandFor k (value_of k fs) (map (text_child in_target (bound_codec b test)) (named own_name found))
    label_read law found e =
        let v = present.0 in
        let c = bound_codec b test in
        let inside = in_contains own_name labels (can.right.labelled k (among_contains k members there) bound).0 in
        let one = ap (named own_name) e ∙ one_text own_name labels (written_labels b fs) can.right.names inside
        ∙ ap (λ u. u ∷ []) label_found in
        subst (λ o. StandFor k o (map (text_child in_target c) (named own_name found))) (sym present.1)
        (subst (λ us. ComeTo (member_place k) v (map (text_child in_target c) us)) (sym one)
        (law c (member_place k) v present.2.fits label_carried))
