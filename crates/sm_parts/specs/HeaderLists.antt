-- Lists in fields of a head (RFC 9110, sections 5.3, 5.6.1 and 5.6.4; Smithy 2.0, "httpHeader trait"): the fields of one name are one list
-- together, of which commas end the entries. A text may stand between quotation marks; an http-date has one comma of its own.
use Rattle.std.specs.Prelude.{ℕ, Bool, true, false, not, ◌==◌, ◌&&◌, ◌||◌, if◌then◌else◌, List, [], ◌∷◌, ◌++◌, map, codes}
use Rattle.std.specs.List.{filter, flat_map, join_by, join_with_byte, list_any, slice_split}
use Rattle.httparse.specs.Grammar.{is_ows, trim_ows}
use Rattle.sm_bytes.specs.Ascii.{backslash, comma, quote}
use Rattle.sm_http.specs.FieldLists.{is_comma}
use Rattle.sm_parts.specs.declared.list_entry.HeaderCut.{HeaderCut}
use Rattle.sm_parts.specs.declared.list_entry.HeaderCut.TheVariants.{Quoted, EachComma, EverySecondComma}
use Rattle.sm_parts.specs.declared.list_entry.ListEntry.{ListEntry}
use Rattle.sm_parts.specs.declared.list_entry.ListEntry.TheVariants.{Text as some_text, NoEntry as no_entry}

-- something is left of it
abbrev pub is_filled : List ℕ → Bool
is_filled [] = false
is_filled (b ∷ u) = true

-- without the spaces and tabs around them, but for those of which nothing is left
abbrev pub filled : List (List ℕ) → List (List ℕ)
filled texts = filter is_filled (map trim_ows texts)

-- the fields of a name as one: their values with one comma between, without those that are empty
abbrev pub joined_values : List (List ℕ) → List ℕ
joined_values values = join_with_byte comma (filled values)

-- what stands between commas; where an http-date stands between them, two pieces are one
abbrev pub two_by_two : List (List ℕ) → List (List ℕ)
two_by_two [] = []
two_by_two (piece ∷ []) = piece ∷ []
two_by_two (piece ∷ next ∷ pieces) = (piece ++ comma ∷ next) ∷ two_by_two pieces

abbrev pub pieces_of : HeaderCut → List ℕ → List (List ℕ)
pieces_of Quoted u = slice_split is_comma u
pieces_of EachComma u = slice_split is_comma u
pieces_of EverySecondComma u = two_by_two (slice_split is_comma u)

abbrev pub plain_entries : List (List ℕ) → List ListEntry
plain_entries pieces = map some_text (filled pieces)

-- the second byte of `\"` and of `\\`
abbrev pub is_escaped : ℕ → Bool
is_escaped b = (b == quote) || (b == backslash)

-- Where entries are texts, read from left to right. An entry whose first byte behind any blanks is a quotation mark runs to the next one that
-- is no part of an escape, and only blanks stand behind that one, up to a comma or the end; what is no entry ends the list. Every other entry
-- runs to the next comma. `text` is what came of the entry.
abbrev mutual
  pub quoted_entries : List ℕ → List ListEntry
  quoted_entries [] = []
  quoted_entries (b ∷ u) =
      if is_ows b then quoted_entries u
      else (if b == quote then within_quotes [] u else (if b == comma then quoted_entries u else without_quotes (b ∷ []) u))

  pub without_quotes : List ℕ → List ℕ → List ListEntry
  without_quotes text [] = plain_entries (text ∷ [])
  without_quotes text (b ∷ u) =
      if b == comma then plain_entries (text ∷ []) ++ quoted_entries u else without_quotes (text ++ b ∷ []) u

  pub within_quotes : List ℕ → List ℕ → List ListEntry
  within_quotes text [] = no_entry ∷ []
  within_quotes text (b ∷ []) = if b == quote then some_text text ∷ [] else no_entry ∷ []
  within_quotes text (b ∷ c ∷ u) =
      if b == quote then behind_quotes text (c ∷ u)
      else (if (b == backslash) && is_escaped c then within_quotes (text ++ c ∷ []) u else within_quotes (text ++ b ∷ []) (c ∷ u))

  pub behind_quotes : List ℕ → List ℕ → List ListEntry
  behind_quotes text [] = some_text text ∷ []
  behind_quotes text (b ∷ u) =
      if is_ows b then behind_quotes text u else (if b == comma then some_text text ∷ quoted_entries u else no_entry ∷ [])

-- the entries of a list
abbrev pub entries_of : HeaderCut → List ℕ → List ListEntry
entries_of Quoted u = quoted_entries u
entries_of EachComma u = plain_entries (pieces_of EachComma u)
entries_of EverySecondComma u = plain_entries (pieces_of EverySecondComma u)

-- the one text that is written for an entry: one that is empty, or in which a comma or a quotation mark stands, between quotation marks
abbrev pub needs_quotes : List ℕ → Bool
needs_quotes text = not (is_filled text) || list_any (λ b. (b == comma) || (b == quote)) text

abbrev pub escaped_byte : ℕ → List ℕ
escaped_byte b = if is_escaped b then backslash ∷ b ∷ [] else b ∷ []

abbrev pub quoted : List ℕ → List ℕ
quoted text = quote ∷ (flat_map escaped_byte text ++ quote ∷ [])

abbrev pub written_entry : HeaderCut → List ℕ → List ℕ
written_entry Quoted text = if needs_quotes text then quoted text else text
written_entry EachComma text = text
written_entry EverySecondComma text = text

-- and for a list
abbrev pub written_list : HeaderCut → List (List ℕ) → List ℕ
written_list cut texts = join_by (written_entry cut) (codes ", ") texts
