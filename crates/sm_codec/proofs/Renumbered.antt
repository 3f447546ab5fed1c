-- Values whose members' numbers are moved: nothing is lost, so what stands twice stands twice.
use Rattle.std.proofs.Common.{◌≡◌, ℕ, Bool, true, false, ◌||◌, List, [], ◌∷◌, map, refl, sym, ap, ◌∙◌, subst}
use Rattle.std.specs.List.{list_any}
use Rattle.sm_shapes.specs.Broken.{has_twice}
use Rattle.sm_shapes.specs.Values.{Val, Vals, EntryVals, FieldVals, null_val, bool_val, int_val, text_val, blob_val, time_val, list_val}
use Rattle.sm_shapes.specs.Values.{map_val, structure_val, union_val, no_vals, val, no_entries, entry, no_fields, field, same_val}
use Rattle.sm_shapes.specs.Values.{vals_of, entries_of, fields_of}
use Rattle.sm_shapes.proofs.SameVals.{same_is, same_itself}
use Rattle.sm_codec.specs.steps.Twins.{moved, moved_vals, moved_entries, moved_fields}

-- entries of lists of a value's parts
abbrev pub moved_entry : (ℕ → ℕ) → List ℕ × Val → List ℕ × Val
moved_entry f e = (e.0, moved f e.1)

abbrev pub moved_field : (ℕ → ℕ) → ℕ × Val → ℕ × Val
moved_field f e = (f e.0, moved f e.1)

pub vals_moved : (f : ℕ → ℕ) (vs : List Val) → vals_of (map (moved f) vs) ≡ moved_vals f (vals_of vs)
vals_moved f [] = refl
vals_moved f (v ∷ vs) = ap (val (moved f v)) (vals_moved f vs)

pub entries_moved : (f : ℕ → ℕ) (es : List (List ℕ × Val)) → entries_of (map (moved_entry f) es) ≡ moved_entries f (entries_of es)
entries_moved f [] = refl
entries_moved f (e ∷ es) = ap (entry e.0 (moved f e.1)) (entries_moved f es)

pub fields_moved : (f : ℕ → ℕ) (fs : List (ℕ × Val)) → fields_of (map (moved_field f) fs) ≡ moved_fields f (fields_of fs)
fields_moved f [] = refl
fields_moved f (e ∷ fs) = ap (field (f e.0) (moved f e.1)) (fields_moved f fs)

module _ (f back : ℕ → ℕ) (inverse : (k : ℕ) → back (f k) ≡ k) where
  mutual
    moved_back : (v : Val) → moved back (moved f v) ≡ v
    moved_back null_val = refl
    moved_back (bool_val b) = refl
    moved_back (int_val z) = refl
    moved_back (text_val u) = refl
    moved_back (blob_val u) = refl
    moved_back (time_val ms) = refl
    moved_back (list_val vs) = ap list_val (vals_back vs)
    moved_back (map_val es) = ap map_val (entries_back es)
    moved_back (structure_val fs) = ap structure_val (fields_back fs)
    moved_back (union_val k v) = let number = inverse k in let value = moved_back v in λ i. union_val (number i) (value i)

    vals_back : (vs : Vals) → moved_vals back (moved_vals f vs) ≡ vs
    vals_back no_vals = refl
    vals_back (val v vs) = let one = moved_back v in let more = vals_back vs in λ i. val (one i) (more i)

    entries_back : (es : EntryVals) → moved_entries back (moved_entries f es) ≡ es
    entries_back no_entries = refl
    entries_back (entry key v es) = let one = moved_back v in let more = entries_back es in λ i. entry key (one i) (more i)

    fields_back : (fs : FieldVals) → moved_fields back (moved_fields f fs) ≡ fs
    fields_back no_fields = refl
    fields_back (field k v fs) =
        let number = inverse k in
        let one = moved_back v in
        let more = fields_back fs in λ i. field (number i) (one i) (more i)

  same_bools : (a b : Bool) → (a ≡ true → b ≡ true) → (b ≡ true → a ≡ true) → a ≡ b
  same_bools true b h k = sym (h refl)
  same_bools false true h k = k refl
  same_bools false false h k = refl

  same_moved : (v w : Val) → same_val (moved f v) (moved f w) ≡ same_val v w
  same_moved v w = same_bools (same_val (moved f v) (moved f w)) (same_val v w)
      (λ h.
      let one = sym (moved_back v) ∙ ap (moved back) (same_is (moved f v) (moved f w) h) ∙ moved_back w in
      subst (λ x. same_val v x ≡ true) one (same_itself v))
      (λ h. subst (λ x. same_val (moved f v) (moved f x) ≡ true) (same_is v w h) (same_itself (moved f v)))

  some_same : (v : Val) (ws : List Val) → list_any (λ w. same_val (moved f v) w) (map (moved f) ws) ≡ list_any (λ w. same_val v w) ws
  some_same v [] = refl
  some_same v (w ∷ ws) = let one = same_moved v w in let more = some_same v ws in λ i. one i || more i

  pub twice_moved : (vs : List Val) → has_twice (map (moved f) vs) ≡ has_twice vs
  twice_moved [] = refl
  twice_moved (v ∷ vs) = let one = some_same v vs in let more = twice_moved vs in λ i. one i || more i
