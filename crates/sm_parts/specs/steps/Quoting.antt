-- What each function of the reader of quoted entries comes to.
use Rattle.std.specs.Prelude.{◌≡◌, ◌<◌, ◌≤◌, ℕ, suc, List, [], ◌∷◌, ◌++◌, length, Option, Some, None}
use denote.Ref.{Bor}
use Rattle.std.specs.Global.{Vec}
use Rattle.httparse.specs.Grammar.{is_ows, skip_ows}
use Rattle.sm_bytes.specs.Ascii.{quote}
use Rattle.sm_parts.specs.HeaderLists.{behind_quotes, quoted_entries, within_quotes}
use Rattle.sm_parts.specs.declared.list_entry.ListEntry.{ListEntry}
use Rattle.sm_parts.specs.declared.list_entry.ListEntry.TheVariants.{NoEntry as no_entry}

-- what was put, with the entries of what is left, is what was there with all these
abbrev pub PutsAll : List ListEntry → List ListEntry → List ListEntry → ℕ → Option (Bor (List ℕ)) → Type 0
PutsAll old new all most None = new ≡ old ++ all
PutsAll old new all most (Some behind) = (new ++ quoted_entries behind.now ≡ old ++ all) × (length behind.now < most)

abbrev pub PutsEntry : List ListEntry → List ListEntry → List ℕ → Option (Bor (List ℕ)) → Type 0
PutsEntry old new rest behind = PutsAll old new (quoted_entries rest) (length rest) behind

abbrev pub PutsInside : List ListEntry → List ListEntry → List ℕ → Option (Bor (List ℕ)) → Type 0
PutsInside old new inside behind = PutsAll old new (within_quotes [] inside) (suc (length inside)) behind

abbrev pub PutsClosed : List ListEntry → List ListEntry → List ℕ → List ℕ → Option (Bor (List ℕ)) → Type 0
PutsClosed old new text rest behind = PutsAll old new (behind_quotes text rest) (suc (length rest)) behind

-- no blank stands first, nor a quotation mark
abbrev pub IsTrimmedFront : List ℕ → Type 0
IsTrimmedFront u = skip_ows u ≡ u

pub record IsNotOpened (u : List ℕ) : Type 0 where
  pub trimmed : IsTrimmedFront u
  pub no_quote : (rest : List ℕ) → u ≡ quote ∷ rest → ⊥

-- the text up to the closing quotation mark and what is behind it, or that there is none
abbrev pub IsUnquoted : List ℕ → Option (Vec ℕ × Bor (List ℕ)) → Type 0
IsUnquoted inside None = within_quotes [] inside ≡ no_entry ∷ []
IsUnquoted inside (Some found) =
    (within_quotes [] inside ≡ behind_quotes found.0.items found.1.now) × (length found.1.now ≤ length inside)

-- the text with what stood for a byte, and what is left
pub record Unescapes (old new : List ℕ) (byte : ℕ) (behind rest : List ℕ) : Type 0 where
  pub same : within_quotes new rest ≡ within_quotes old (byte ∷ behind)
  pub shorter : length rest ≤ length behind
