-- Members whose names earlier members of their shape have too, from rows of names.
use Rattle.std.proofs.Common.{◌≡◌, ℕ, Bool, true, false, cond, List, [], ◌∷◌, ◌++◌, Option, Some, None, length, map, refl, sym, ap, ◌∙◌}
use Rattle.std.proofs.Common.{subst, inl, inr}
use Rattle.std.specs.Prelude.{◌||◌, is_some}
use Rattle.std.specs.FinMap as fin
use Rattle.std.specs.List.{Contains, cons_option, filter_map, list_any}
use Rattle.std.specs.Option.{option_map}
use Rattle.std.specs.Ordering.{is_eq}
use Rattle.std.proofs.lemmas.List.{map-append}
use Rattle.std.proofs.lemmas.List.Elements.{filter_map-append}
use Rattle.std.proofs.lemmas.Map.Text.{is_eq-slice_cmp}
use Rattle.std.proofs.lemmas.Option.{none-some, same_Some}
use Rattle.sm_model.specs.EventView.{EventTold}
use Rattle.sm_model.specs.Graphs.{text_cmp}
use Rattle.sm_model.specs.GraphView.{AreShapeNumbers, IsShapeNumber, maps_of}
use Rattle.sm_model.specs.Reaching.{id_of_number}
use Rattle.sm_model.specs.declared.event.ModelEvent.{ModelEvent}
use Rattle.sm_model.specs.declared.graph.Graph.{Graph}
use Rattle.sm_model.proofs.OneRising.{contains_either, contains_none}
use Rattle.sm_model.proofs.Worklist.{apart}
use Rattle.sm_compile.specs.Looked.{listed_in, listed_under}
use Rattle.sm_rules.specs.RuleEvents.{Puts, rule_event}
use Rattle.sm_rules.specs.declared.rule.Rule.TheVariants.{WireNames}
use Rattle.sm_passes.specs.Earlier.{ToldAfter, ToldAt}
use Rattle.sm_passes.specs.Folded.{folded}
use Rattle.sm_passes.specs.Owned.{is_own_shape}
use Rattle.sm_passes.specs.Putting.{Below}
use Rattle.sm_passes.proofs.EventsPut.{puts_none, puts_same}
use Rattle.sm_passes.proofs.OwnShapes.{own_told}
use Rattle.sm_http_rules.specs.declared.naming.Naming.{Naming}
use Rattle.sm_http_rules.specs.declared.naming.Naming.TheVariants.{Header, Query, Json}
use Rattle.sm_http_rules.specs.steps.Naming.{ToldAgain, ToldName, key_of, name_of, name_row, name_rows, same_by}
use Rattle.sm_http_rules.proofs.Splits.{Kept, Mapped, ToldSplit, kept_parts, mapped_parts, split_told, told_split}

key_same : (naming : Naming) (a b : List ℕ) → is_eq (text_cmp (key_of naming a) (key_of naming b)) ≡ same_by naming a b
key_same Header a b = is_eq-slice_cmp (folded a) (folded b)
key_same Query a b = is_eq-slice_cmp a b
key_same Json a b = is_eq-slice_cmp a b

module _ (naming : Naming) (g : Graph) (shape : ℕ) where
  abbrev named : List ℕ → Option (List ℕ)
  named id = name_of naming (maps_of g) (id_of_number g shape) id

  abbrev rows : List ℕ → List (List ℕ × ℕ)
  rows ks = name_rows naming g shape ks

  abbrev row_as : ℕ → Option (List ℕ) → Option (List ℕ × ℕ)
  row_as k o = option_map (λ name. (key_of naming name, k)) o

  -- a row has the key of a name exactly where a member has the name
  found_same : (name : List ℕ) (ks : List ℕ) → is_some (fin.find text_cmp (key_of naming name) (rows ks))
      ≡ list_any (same_by naming name) (filter_map named (map (id_of_number g) ks))
  found_same name [] = refl
  found_same name (k ∷ ks) = by (named (id_of_number g k)) (found_same name ks)
    where
      two : (other : List ℕ) (b c : Bool) → b ≡ c
          → is_some (fin.find text_cmp (key_of naming name) (rows ks))
          ≡ list_any (same_by naming name) (filter_map named (map (id_of_number g) ks))
          → is_some (cond b (Some k) (fin.find text_cmp (key_of naming name) (rows ks)))
          ≡ (c || list_any (same_by naming name) (filter_map named (map (id_of_number g) ks)))
      two other true true e h = refl
      two other true false e h = absurd (apart (sym e))
      two other false true e h = absurd (apart e)
      two other false false e h = h

      by : (o : Option (List ℕ))
          → is_some (fin.find text_cmp (key_of naming name) (rows ks))
          ≡ list_any (same_by naming name) (filter_map named (map (id_of_number g) ks))
          → is_some (fin.find text_cmp (key_of naming name) (cons_option (row_as k o) (rows ks)))
          ≡ list_any (same_by naming name) (cons_option o (filter_map named (map (id_of_number g) ks)))
      by None h = h
      by (Some other) h =
          two other (is_eq (text_cmp (key_of naming name) (key_of naming other))) (same_by naming name other) (key_same naming name other) h

  -- rows are of numbers of the graph
  pub rows_numbers : (ks : List ℕ) → AreShapeNumbers g ks → (r : List ℕ × ℕ) → Contains (rows ks) r → IsShapeNumber g r.1
  rows_numbers [] all r c = absurd (contains_none r c)
  rows_numbers (k ∷ ks) all r c = by (named (id_of_number g k)) c (rows_numbers ks all.1)
    where
      by : (o : Option (List ℕ)) → Contains (cons_option (row_as k o) (rows ks)) r
          → ((r : List ℕ × ℕ) → Contains (rows ks) r → IsShapeNumber g r.1) → IsShapeNumber g r.1
      by None c rest = rest r c
      by (Some name) c rest = elim (contains_either (key_of naming name, k) r (rows ks) c) [
        | inl same ↦ subst (λ (x : List ℕ × ℕ). IsShapeNumber g x.1) same all.0
        | inr more ↦ rest r more
      ]

  row_number : (k : ℕ) (r : List ℕ × ℕ) (o : Option (List ℕ)) → row_as k o ≡ Some r → r.1 ≡ k
  row_number k r None h = absurd (none-some r h)
  row_number k r (Some name) h = ap (λ (x : List ℕ × ℕ). x.1) (sym (same_Some (key_of naming name, k) r h))

  module _ (own : is_own_shape (maps_of g) (id_of_number g shape) ≡ true) (ks : List ℕ)
      (listed : map (id_of_number g) ks ≡ listed_under (maps_of g) (id_of_number g shape)) where
    abbrev AtRows : EventTold → Type 0
    AtRows e = Below (ToldAt (ToldName naming g shape) (rows ks)) (length (rows ks)) e

    forth : (e : EventTold) → ToldSplit (ToldName naming g shape) (rows ks) e → ToldAgain naming (maps_of g) (id_of_number g shape) e
    forth e t = by (fin.find text_cmp t.row.0 t.before) refl t.told
      where
        p : Kept (name_row naming g shape) ks t.before t.row
        p = kept_parts (name_row naming g shape) ks t.before t.row t.later t.is

        number : t.row.1 ≡ p.at
        number = row_number p.at t.row (named (id_of_number g p.at)) p.here

        by : (o : Option ℕ) → fin.find text_cmp t.row.0 t.before ≡ o → ToldAfter (ToldName naming g shape) o t.row.1 e
            → ToldAgain naming (maps_of g) (id_of_number g shape) e
        by None found h = absurd h
        by (Some j) found (name, said, told) =
            let here : named (id_of_number g p.at) ≡ Some name = subst (λ k. named (id_of_number g k) ≡ Some name) number said in
            let row : t.row ≡ (key_of naming name, p.at) =
            same_Some t.row (key_of naming name, p.at) (sym p.here ∙ ap (row_as p.at) here) in
            let again : is_some (fin.find text_cmp (key_of naming name) (rows p.first)) ≡ true =
            (λ i. is_some (fin.find text_cmp (sym row i).0 (p.made i))) ∙ ap is_some found in
            let s = own_told (maps_of g) (id_of_number g shape) own in (
              id_of_number g p.at,
              name,
              s.0,
              record {
                before = map (id_of_number g) p.first;
                behind = record {
                  home = s.1;
                  later = map (id_of_number g) p.later;
                  members = sym (ap listed_in s.1.0) ∙ sym listed ∙ ap (map (id_of_number g)) p.is
                      ∙ map-append (id_of_number g) p.first (p.at ∷ p.later);
                };
                is = here;
                again = sym (found_same name p.first) ∙ again;
              },
              told ∙ ap (λ k. rule_event WireNames (id_of_number g k) name) number,
            )

    back : (e : EventTold) → ToldAgain naming (maps_of g) (id_of_number g shape) e → ToldSplit (ToldName naming g shape) (rows ks) e
    back e (id, name, s, h, told) = record {
      before = rows p.first;
      row = (key_of naming name, p.at);
      later = rows p.later;
      is = ap (filter_map (name_row naming g shape)) p.is ∙ filter_map-append (name_row naming g shape) p.first (p.at ∷ p.later)
          ∙ ap (λ o. rows p.first ++ cons_option (row_as p.at o) (rows p.later)) here;
      told = by (fin.find text_cmp (key_of naming name) (rows p.first)) refl;
    }
      where
        ids : map (id_of_number g) ks ≡ h.before ++ id ∷ h.behind.later
        ids = listed ∙ ap listed_in h.behind.home.0 ∙ h.behind.members

        p : Mapped (id_of_number g) ks h.before id
        p = mapped_parts (id_of_number g) ks h.before id h.behind.later ids

        here : named (id_of_number g p.at) ≡ Some name
        here = ap named p.here ∙ h.is

        found : is_some (fin.find text_cmp (key_of naming name) (rows p.first)) ≡ true
        found = found_same name p.first ∙ ap (λ is. list_any (same_by naming name) (filter_map named is)) p.made ∙ h.again

        by : (o : Option ℕ) → fin.find text_cmp (key_of naming name) (rows p.first) ≡ o → ToldAfter (ToldName naming g shape) o p.at e
        by None is = absurd (apart (ap is_some (sym is) ∙ found))
        by (Some j) is = (name, here, told ∙ ap (λ i. rule_event WireNames i name) (sym p.here))

    pub again_put : (a b : List ModelEvent) → Puts AtRows a b → Puts (ToldAgain naming (maps_of g) (id_of_number g shape)) a b
    again_put a b h =
        puts_same AtRows (ToldAgain naming (maps_of g) (id_of_number g shape)) a b
        (λ e. (
          λ x. forth e (split_told (ToldName naming g shape) (rows ks) e x),
          λ x. told_split (ToldName naming g shape) (rows ks) e (back e x),
        )) h

-- the name of one
module _ (naming : Naming) (g : Graph) (shape j k : ℕ) where
  pub name_put : (name : List ℕ) → Some name ≡ name_of naming (maps_of g) (id_of_number g shape) (id_of_number g k)
      → (a b : List ModelEvent)
      → Puts (λ e. e ≡ rule_event WireNames (id_of_number g k) name) a b → Puts (ToldName naming g shape j k) a b
  name_put name is a b h =
      puts_same (λ e. e ≡ rule_event WireNames (id_of_number g k) name) (ToldName naming g shape j k) a b
      (λ e. (
        λ x. (name, sym is, x),
        λ t. t.2 ∙ ap (rule_event WireNames (id_of_number g k)) (same_Some t.0 name (sym t.1 ∙ sym is)),
      )) h

  pub no_name : None ≡ name_of naming (maps_of g) (id_of_number g shape) (id_of_number g k) → (es : List ModelEvent)
      → Puts (ToldName naming g shape j k) es es
  no_name is es = puts_none (ToldName naming g shape j k) es (λ e t. none-some t.0 (is ∙ t.1))
