-- Lists in a field that are cut at each comma or at each second one have their texts as entries.
use Rattle.std.proofs.Common.{◌≡◌, ℕ, List, [], ◌∷◌, ◌++◌, map, append-nil, append_assoc, true, refl, sym, ap, ◌∙◌}
use Rattle.std.specs.List.{AllByRecursion, flat_map, slice_split}
use Rattle.std.proofs.lemmas.List.Splits.{slice_split_at, slice_split_none}
use Rattle.sm_bytes.specs.Ascii.{comma, space}
use Rattle.sm_http.specs.FieldLists.{is_comma}
use Rattle.sm_parts.specs.HeaderLists.{entries_of, filled, two_by_two, written_entry, written_list}
use Rattle.sm_parts.specs.Laws.{IsTrimmed, WrittenTextsRead}
use Rattle.sm_parts.specs.declared.list_entry.HeaderCut.{HeaderCut}
use Rattle.sm_parts.specs.declared.list_entry.HeaderCut.TheVariants.{Quoted, EachComma, EverySecondComma}
use Rattle.sm_parts.specs.declared.list_entry.ListEntry.TheVariants.{Text as some_text}
use Rattle.sm_part_laws.proofs.CommaFree.{HasOneComma, all_other, both_other, none_comma}
use Rattle.sm_part_laws.proofs.EdgedTexts.{IsEdged, edged_filled, edged_space, edged_trim, entry_edged, filled_one, list_edged}

-- a text that can be an entry of a list that is cut so
abbrev pub EntryStands : HeaderCut → List ℕ → Type 0
EntryStands Quoted u = IsTrimmed u
EntryStands EachComma u = IsEdged u × (all_other u ≡ true)
EntryStands EverySecondComma u = IsEdged u × HasOneComma u

abbrev behind : List (List ℕ) → List ℕ
behind ts = flat_map (λ t. comma ∷ space ∷ t) ts

abbrev spaced : List (List ℕ) → List (List ℕ)
spaced ts = map (λ t. space ∷ t) ts

-- cut at each comma
each_piece : (u : List ℕ) (ts : List (List ℕ)) → all_other u ≡ true → AllByRecursion (EntryStands EachComma) ts
    → slice_split is_comma (u ++ behind ts) ≡ u ∷ spaced ts
each_piece u [] h hs = ap (slice_split is_comma) (append-nil u) ∙ slice_split_none is_comma u (none_comma u h)
each_piece u (t ∷ ts) h hs =
    slice_split_at is_comma u comma ((space ∷ t) ++ behind ts) (none_comma u h) refl
    ∙ ap (λ ps. u ∷ ps) (each_piece (space ∷ t) ts hs.0.1 hs.1)

-- cut at each second one: up to the comma of a text, and behind it
whole_text : (s u : List ℕ) (h : HasOneComma u) → (s ++ h.before) ++ comma ∷ h.after ≡ s ++ u
whole_text s u h = append_assoc s h.before (comma ∷ h.after) ∙ ap (λ w. s ++ w) (sym h.all)

text_cut : (s u rest : List ℕ) (h : HasOneComma u) → (s ++ u) ++ rest ≡ (s ++ h.before) ++ comma ∷ (h.after ++ rest)
text_cut s u rest h = ap (λ w. w ++ rest) (sym (whole_text s u h)) ∙ append_assoc (s ++ h.before) (comma ∷ h.after) rest

first_cut : (s u rest : List ℕ) → all_other s ≡ true → (h : HasOneComma u)
    → slice_split is_comma ((s ++ u) ++ rest) ≡ (s ++ h.before) ∷ slice_split is_comma (h.after ++ rest)
first_cut s u rest free h =
    ap (slice_split is_comma) (text_cut s u rest h)
    ∙ slice_split_at is_comma (s ++ h.before) comma (h.after ++ rest)
    (none_comma (s ++ h.before) (both_other s h.before free h.free_before)) refl

second_piece : (s u : List ℕ) (ts : List (List ℕ)) → all_other s ≡ true → HasOneComma u → AllByRecursion (EntryStands EverySecondComma) ts
    → two_by_two (slice_split is_comma ((s ++ u) ++ behind ts)) ≡ (s ++ u) ∷ spaced ts
second_piece s u [] free h hs =
    ap two_by_two (first_cut s u [] free h)
    ∙ ap (λ w. two_by_two ((s ++ h.before) ∷ slice_split is_comma w)) (append-nil h.after)
    ∙ ap (λ ps. two_by_two ((s ++ h.before) ∷ ps)) (slice_split_none is_comma h.after (none_comma h.after h.free_after))
    ∙ ap (λ w. w ∷ []) (whole_text s u h)
second_piece s u (t ∷ ts) free h hs =
    ap two_by_two (first_cut s u (behind (t ∷ ts)) free h)
    ∙ ap (λ ps. two_by_two ((s ++ h.before) ∷ ps))
    (slice_split_at is_comma h.after comma ((space ∷ t) ++ behind ts) (none_comma h.after h.free_after) refl)
    ∙ ap (λ w. w ∷ two_by_two (slice_split is_comma ((space ∷ t) ++ behind ts))) (whole_text s u h)
    ∙ ap (λ ps. (s ++ u) ∷ ps) (second_piece (space ∷ []) t ts refl hs.0.1 hs.1)

-- without the blanks behind commas
abbrev AreEdged : List (List ℕ) → Type 0
AreEdged ts = AllByRecursion IsEdged ts

spaced_filled : (ts : List (List ℕ)) → AreEdged ts → filled (spaced ts) ≡ ts
spaced_filled [] h = refl
spaced_filled (t ∷ ts) h =
    filled_one (space ∷ t) t (spaced ts) (edged_space t h.0) (edged_filled t h.0) ∙ ap (λ us. t ∷ us) (spaced_filled ts h.1)

pieces_filled : (t : List ℕ) (ts : List (List ℕ)) → AreEdged (t ∷ ts) → filled (t ∷ spaced ts) ≡ t ∷ ts
pieces_filled t ts h =
    filled_one t t (spaced ts) (edged_trim t h.0) (edged_filled t h.0) ∙ ap (λ us. t ∷ us) (spaced_filled ts h.1)

each_edged : (ts : List (List ℕ)) → AllByRecursion (EntryStands EachComma) ts → AreEdged ts
each_edged [] h = tt
each_edged (t ∷ ts) h = (h.0.0, each_edged ts h.1)

dates_edged : (ts : List (List ℕ)) → AllByRecursion (EntryStands EverySecondComma) ts → AreEdged ts
dates_edged [] h = tt
dates_edged (t ∷ ts) h = (h.0.0, dates_edged ts h.1)

-- the entries, and the ends of the list's text
pub list_entries : WrittenTextsRead → (cut : HeaderCut) (t : List ℕ) (ts : List (List ℕ)) → AllByRecursion (EntryStands cut) (t ∷ ts)
    → entries_of cut (written_list cut (t ∷ ts)) ≡ map some_text (t ∷ ts)
list_entries quoted Quoted t ts h = quoted (t ∷ ts) h
list_entries quoted EachComma t ts h =
    ap (λ ps. map some_text (filled ps)) (each_piece t ts h.0.1 h.1)
    ∙ ap (λ us. map some_text us) (pieces_filled t ts (each_edged (t ∷ ts) h))
list_entries quoted EverySecondComma t ts h =
    ap (λ ps. map some_text (filled ps)) (second_piece [] t ts refl h.0.1 h.1)
    ∙ ap (λ us. map some_text us) (pieces_filled t ts (dates_edged (t ∷ ts) h))

quoted_edged : (ts : List (List ℕ)) → AllByRecursion IsTrimmed ts → AllByRecursion (λ t. IsEdged (written_entry Quoted t)) ts
quoted_edged [] h = tt
quoted_edged (t ∷ ts) h = (entry_edged t h.0, quoted_edged ts h.1)

pub written_edged : (cut : HeaderCut) (t : List ℕ) (ts : List (List ℕ)) → AllByRecursion (EntryStands cut) (t ∷ ts)
    → IsEdged (written_list cut (t ∷ ts))
written_edged Quoted t ts h = list_edged (written_entry Quoted) (written_entry Quoted t) ts (entry_edged t h.0) (quoted_edged ts h.1)
written_edged EachComma t ts h = list_edged (λ t. t) t ts h.0.0 (each_edged ts h.1)
written_edged EverySecondComma t ts h = list_edged (λ t. t) t ts h.0.0 (dates_edged ts h.1)
