-- Members whose names earlier members of their shape have but for case, from rows of ids.
use Rattle.std.proofs.Common.{◌≡◌, ◌+◌, inl, inr, ℕ, Bool, true, false, cond, List, [], ◌∷◌, ◌++◌, Option, Some, None, length, map, take}
use Rattle.std.proofs.Common.{drop, refl, sym, ap, ◌∙◌, subst}
use Rattle.std.specs.Prelude.{IsSomeAnd, slice_get}
use Rattle.std.specs.FinMap as fin
use Rattle.std.specs.List.{Contains, find, take-map}
use Rattle.std.specs.Option.{option_map}
use Rattle.std.specs.Ordering.{is_eq}
use Rattle.std.specs.Str.{str_eq_ignore_ascii_case}
use Rattle.std.proofs.Math.Seq.{take-append_seam}
use Rattle.std.proofs.lemmas.Map.Text.{is_eq-slice_cmp}
use Rattle.std.proofs.lemmas.Option.{none-some, same_Some, slice_get-map, slice_get_within}
use Rattle.sm_model.specs.EventView.{EventTold}
use Rattle.sm_model.specs.Graphs.{text_cmp, member_id}
use Rattle.sm_model.specs.GraphView.{AreShapeNumbers, IsShapeNumber, maps_of}
use Rattle.sm_model.specs.Reaching.{id_of_number}
use Rattle.sm_model.specs.declared.event.ModelEvent.{ModelEvent}
use Rattle.sm_model.specs.declared.graph.Graph.{Graph}
use Rattle.sm_model.proofs.OneRising.{contains_either, contains_none}
use Rattle.sm_compile.specs.Looked.{listed_in, listed_under}
use Rattle.sm_rules.specs.Names.{RepeatsName}
use Rattle.sm_rules.specs.Words.{IsOwnShape}
use Rattle.sm_compile.proofs.OneWay.{one_name}
use Rattle.sm_rules.specs.RuleEvents.{IsEventIn, Puts, rule_event}
use Rattle.sm_rules.specs.declared.rule.Rule.TheVariants.{MemberCase}
use Rattle.sm_passes.specs.Earlier.{ToldAfter, ToldAt, ToldRepeat, folded_row, folded_rows}
use Rattle.sm_passes.specs.Folded.{folded}
use Rattle.sm_passes.specs.Owned.{is_own_shape}
use Rattle.sm_passes.specs.Putting.{Below}
use Rattle.sm_passes.proofs.EventsPut.{puts_none, puts_same}
use Rattle.sm_passes.proofs.OwnShapes.{own_told, told_own}
use Rattle.sm_passes.proofs.ListParts.{parts_at, seam_at}

module _ (g : Graph) where
  -- the first id that is equal but for case stands first under it in small letters
  found_folded : (key : List ℕ) (ns : List ℕ) → find (str_eq_ignore_ascii_case key) (map (id_of_number g) ns)
      ≡ option_map (id_of_number g) (fin.find text_cmp (folded key) (folded_rows g ns))
  found_folded key [] = refl
  found_folded key (n ∷ ns) =
      by (str_eq_ignore_ascii_case key (id_of_number g n)) (is_eq (text_cmp (folded key) (folded (id_of_number g n))))
      (sym (is_eq-slice_cmp (folded key) (folded (id_of_number g n)))) (found_folded key ns)
    where
      by : (b c : Bool) → b ≡ c
          → find (str_eq_ignore_ascii_case key) (map (id_of_number g) ns)
          ≡ option_map (id_of_number g) (fin.find text_cmp (folded key) (folded_rows g ns))
          → cond b (Some (id_of_number g n)) (find (str_eq_ignore_ascii_case key) (map (id_of_number g) ns))
          ≡ option_map (id_of_number g) (cond c (Some n) (fin.find text_cmp (folded key) (folded_rows g ns)))
      by true true e h = refl
      by true false e h = absurd (subst (λ b. cond b (Unit {0}) ⊥) e tt)
      by false true e h = absurd (subst (λ b. cond b ⊥ (Unit {0})) e tt)
      by false false e h = h

  module _ (k : ℕ) (own : is_own_shape (maps_of g) (id_of_number g k) ≡ true) (ns : List ℕ)
      (listed : map (id_of_number g) ns ≡ listed_under (maps_of g) (id_of_number g k)) where
    abbrev Told : EventTold → Type 0
    Told e = IsEventIn MemberCase (RepeatsName (maps_of g)) (λ id detail h. h.shape) (id_of_number g k) e

    abbrev Rows : EventTold → Type 0
    Rows e = Below (ToldAt (ToldRepeat g k) (folded_rows g ns)) (length (folded_rows g ns)) e

    forth : (e : EventTold) → Rows e → Told e
    forth e (i, small, w) =
        by (slice_get ns i) refl
        (subst (λ o. IsSomeAnd o (λ (r : List ℕ × ℕ). ToldAfter (ToldRepeat g k) (fin.find text_cmp r.0 (take i (folded_rows g ns))) r.1 e))
        (slice_get-map (folded_row g) ns i) w)
      where
        first : (n : ℕ) → slice_get ns i ≡ Some n → (o : Option ℕ)
            → fin.find text_cmp (folded (id_of_number g n)) (folded_rows g (take i ns)) ≡ o
            → ToldAfter (ToldRepeat g k) o n e → Told e
        first n at None is h = absurd h
        first n at (Some j) is (name, named, told) =
            let s = own_told (maps_of g) (id_of_number g k) own in (
              id_of_number g n,
              name,
              record {
                shape = id_of_number g k;
                s = s.0;
                before = map (id_of_number g) (take i ns);
                behind = record {
                  home = s.1;
                  later = map (id_of_number g) (drop (i + 1) ns);
                  members = sym (ap listed_in s.1.0) ∙ sym listed ∙ ap (map (id_of_number g)) (parts_at ns i n at)
                      ∙ map_parts (take i ns) n (drop (i + 1) ns);
                };
                first = found_folded (id_of_number g n) (take i ns) ∙ ap (option_map (id_of_number g)) is ∙ ap (λ x. Some x) named;
              },
              refl,
              told,
            )
          where
            map_parts : (xs : List ℕ) (y : ℕ) (ys : List ℕ)
                → map (id_of_number g) (xs ++ y ∷ ys) ≡ map (id_of_number g) xs ++ id_of_number g y ∷ map (id_of_number g) ys
            map_parts [] y ys = refl
            map_parts (x ∷ xs) y ys = ap (λ zs. id_of_number g x ∷ zs) (map_parts xs y ys)

        by : (o : Option ℕ) → slice_get ns i ≡ o
            → IsSomeAnd (option_map (folded_row g) o)
            (λ (r : List ℕ × ℕ). ToldAfter (ToldRepeat g k) (fin.find text_cmp r.0 (take i (folded_rows g ns))) r.1 e) → Told e
        by None at h = absurd h
        by (Some n) at h =
            first n at (fin.find text_cmp (folded (id_of_number g n)) (folded_rows g (take i ns))) refl
            (subst (λ rs. ToldAfter (ToldRepeat g k) (fin.find text_cmp (folded (id_of_number g n)) rs) n e)
            (take-map (folded_row g) i ns) h)

    back : (e : EventTold) → Told e → Rows e
    back e (id, detail, h, same, is) =
        by (slice_get ns (length h.before)) refl
        (sym (slice_get-map (id_of_number g) ns (length h.before)) ∙ ap (λ xs. slice_get xs (length h.before)) ids
        ∙ seam_at h.before id h.behind.later)
      where
        ids : map (id_of_number g) ns ≡ h.before ++ id ∷ h.behind.later
        ids = listed ∙ ap (listed_under (maps_of g)) (sym same) ∙ ap listed_in h.behind.home.0 ∙ h.behind.members

        before_is : map (id_of_number g) (take (length h.before) ns) ≡ h.before
        before_is =
            sym (take-map (id_of_number g) (length h.before) ns) ∙ ap (take (length h.before)) ids
            ∙ take-append_seam h.before (id ∷ h.behind.later)

        first : (n : ℕ) → id_of_number g n ≡ id → (o : Option ℕ)
            → fin.find text_cmp (folded (id_of_number g n)) (folded_rows g (take (length h.before) ns)) ≡ o
            → ToldAfter (ToldRepeat g k) o n e
        first n named o found =
            by_first o
            (ap (option_map (id_of_number g)) (sym found) ∙ sym (found_folded (id_of_number g n) (take (length h.before) ns))
            ∙ (λ i. find (str_eq_ignore_ascii_case (named i)) (before_is i)) ∙ h.first)
          where
            by_first : (o : Option ℕ) → option_map (id_of_number g) o ≡ Some (member_id h.shape detail) → ToldAfter (ToldRepeat g k) o n e
            by_first None q = absurd (none-some (member_id h.shape detail) q)
            by_first (Some j) q = (
              detail,
              same_Some (id_of_number g j) (member_id h.shape detail) q ∙ ap (λ shape. member_id shape detail) same,
              is ∙ ap (λ x. rule_event MemberCase x detail) (sym named),
            )

        by : (o : Option ℕ) → slice_get ns (length h.before) ≡ o → option_map (id_of_number g) o ≡ Some id → Rows e
        by None at q = absurd (none-some id q)
        by (Some n) at q =
            let i = length h.before in
            let small = slice_get_within ns i n at in
            let row : slice_get (folded_rows g ns) i ≡ Some (folded_row g n) =
            slice_get-map (folded_row g) ns i ∙ ap (option_map (folded_row g)) at in
            let named = same_Some (id_of_number g n) id q in (
              i,
              slice_get_within (folded_rows g ns) i (folded_row g n) row,
              subst (λ o. IsSomeAnd o (λ (r : List ℕ × ℕ). ToldAfter (ToldRepeat g k)
                  (fin.find text_cmp r.0 (take i (folded_rows g ns))) r.1 e))
                  (sym row)
                  (subst (λ rs. ToldAfter (ToldRepeat g k) (fin.find text_cmp (folded (id_of_number g n)) rs) n e)
                  (sym (take-map (folded_row g) i ns))
                  (first n named (fin.find text_cmp (folded (id_of_number g n)) (folded_rows g (take i ns))) refl)),
            )

    -- what is told of the rows of a shape's members is what the rule says of them
    pub repeats_put : (before now : List ModelEvent) → Puts Rows before now → Puts Told before now
    repeats_put before now h = puts_same Rows Told before now (λ e. (forth e, back e)) h

-- there are none of what is no shape of the model
pub no_repeats : (g : Graph) (id : List ℕ) (es : List ModelEvent) → is_own_shape (maps_of g) id ≡ false
    → Puts (IsEventIn MemberCase (RepeatsName (maps_of g)) (λ i detail h. h.shape) id) es es
no_repeats g id es other =
    puts_none (IsEventIn MemberCase (RepeatsName (maps_of g)) (λ i detail h. h.shape) id) es
    (λ e h. apart_from (sym (told_own (maps_of g) id h.2.s (subst (λ x. IsOwnShape (maps_of g) x h.2.s) h.3 h.2.behind.home)) ∙ other))
  where
    apart_from : true ≡ false → ⊥
    apart_from e = subst (λ b. cond b (Unit {0}) ⊥) e tt

-- one name
pub named_once : (g : Graph) (shape j k : ℕ) (name : List ℕ) (before now : List ModelEvent)
    → id_of_number g j ≡ member_id (id_of_number g shape) name
    → Puts (λ e. e ≡ rule_event MemberCase (id_of_number g k) name) before now → Puts (ToldRepeat g shape j k) before now
named_once g shape j k name before now named h =
    puts_same (λ e. e ≡ rule_event MemberCase (id_of_number g k) name) (ToldRepeat g shape j k) before now
    (λ e. (
      λ is. (name, named, is),
      λ t. t.2 ∙ ap (rule_event MemberCase (id_of_number g k)) (one_name (id_of_number g shape) t.0 name (sym t.1 ∙ named)),
    )) h

pub not_named : (g : Graph) (shape j k : ℕ) (es : List ModelEvent)
    → ((name : List ℕ) → id_of_number g j ≡ member_id (id_of_number g shape) name → ⊥) → Puts (ToldRepeat g shape j k) es es
not_named g shape j k es none = puts_none (ToldRepeat g shape j k) es (λ e t. none t.0 t.1)

-- rows are of numbers of the graph
pub rows_of_members : (g : Graph) (ns : List ℕ) → AreShapeNumbers g ns → (r : List ℕ × ℕ) → Contains (folded_rows g ns) r
    → IsShapeNumber g r.1
rows_of_members g [] all r h = absurd (contains_none r h)
rows_of_members g (n ∷ ns) all r h = elim (contains_either (folded_row g n) r (folded_rows g ns) h) [
  | inl same ↦ subst (λ (x : List ℕ × ℕ). IsShapeNumber g x.1) same all.0
  | inr later ↦ rows_of_members g ns all.1 r later
]
