-- Lists of texts, of which some stand between quotation marks, from left to right.
use Rattle.std.proofs.Common.{◌≡◌, ℕ, zero, suc, ◌+◌, ◌<◌, ◌≤◌, List, [], ◌∷◌, ◌++◌, length, Bool, true, false, reverse, refl, sym, ap, ◌∙◌}
use Rattle.std.proofs.Common.{subst, append_assoc, append-nil, arith}
use denote.Ref.{Bor}
use Rattle.std.specs.Prelude.{Option, Some, None, get_or, All, ◌==◌, ◌&&◌, if◌then◌else◌}
use Rattle.std.proofs.lemmas.Bool.{false_from_ne_true}
use Rattle.std.proofs.lemmas.Bool.Decides.{Decides-eqb}
use Rattle.std.proofs.lemmas.List.Elements.{All-head, All-tail}
use Rattle.httparse.specs.Grammar.{is_ows, skip_ows, trim_ows}
use Rattle.sm_bytes.specs.Ascii.{backslash, comma, quote}
use Rattle.sm_http.specs.FieldLists.{is_comma}
use Rattle.sm_parts.specs.HeaderLists.{behind_quotes, is_escaped, plain_entries, quoted_entries, within_quotes, without_quotes}
use Rattle.sm_parts.specs.steps.Quoting.{IsNotOpened, IsTrimmedFront, PutsAll, PutsClosed, PutsEntry, PutsInside, Unescapes}
use Rattle.sm_parts.specs.Cuts.{IsCutBy}
use Rattle.sm_parts.specs.declared.list_entry.ListEntry.{ListEntry}
use Rattle.sm_parts.specs.declared.list_entry.ListEntry.TheVariants.{Text as some_text, NoEntry as no_entry}

-- blanks before an entry, and behind its closing quotation mark
entries_behind : (b : ℕ) (u : List ℕ) (t : Bool) → is_ows b ≡ t → quoted_entries u ≡ quoted_entries (skip_ows u)
    → quoted_entries (b ∷ u) ≡ quoted_entries (skip_ows (b ∷ u))
entries_behind b u true e h =
    ap (λ t. if t then quoted_entries u
    else (if b == quote then within_quotes [] u else (if b == comma then quoted_entries u else without_quotes (b ∷ []) u))) e
    ∙ h ∙ sym (ap (λ t. quoted_entries (if t then skip_ows u else b ∷ u)) e)
entries_behind b u false e h = sym (ap (λ t. quoted_entries (if t then skip_ows u else b ∷ u)) e)

pub entries_trimmed : (u : List ℕ) → quoted_entries u ≡ quoted_entries (skip_ows u)
entries_trimmed [] = refl
entries_trimmed (b ∷ u) = entries_behind b u (is_ows b) refl (entries_trimmed u)

closed_behind : (text : List ℕ) (b : ℕ) (u : List ℕ) (t : Bool) → is_ows b ≡ t → behind_quotes text u ≡ behind_quotes text (skip_ows u)
    → behind_quotes text (b ∷ u) ≡ behind_quotes text (skip_ows (b ∷ u))
closed_behind text b u true e h =
    ap (λ t. if t then behind_quotes text u else (if b == comma then some_text text ∷ quoted_entries u else no_entry ∷ [])) e
    ∙ h ∙ sym (ap (λ t. behind_quotes text (if t then skip_ows u else b ∷ u)) e)
closed_behind text b u false e h = sym (ap (λ t. behind_quotes text (if t then skip_ows u else b ∷ u)) e)

pub closed_trimmed : (text u : List ℕ) → behind_quotes text u ≡ behind_quotes text (skip_ows u)
closed_trimmed text [] = refl
closed_trimmed text (b ∷ u) = closed_behind text b u (is_ows b) refl (closed_trimmed text u)

-- what is trimmed is no longer, and stays as it is
skipped_by : (b : ℕ) (u : List ℕ) (t : Bool) → is_ows b ≡ t → length (skip_ows u) ≤ length u
    → length (skip_ows (b ∷ u)) ≤ length (b ∷ u)
skipped_by b u true e h = subst (λ t. length (if t then skip_ows u else b ∷ u) ≤ suc (length u)) (sym e) (omega (arith, h))
skipped_by b u false e h = subst (λ t. length (if t then skip_ows u else b ∷ u) ≤ suc (length u)) (sym e) (omega arith)

pub skipped_length : (u : List ℕ) → length (skip_ows u) ≤ length u
skipped_length [] = omega arith
skipped_length (b ∷ u) = skipped_by b u (is_ows b) refl (skipped_length u)

trimmed_by : (b : ℕ) (u : List ℕ) (t : Bool) → is_ows b ≡ t → skip_ows (skip_ows u) ≡ skip_ows u
    → skip_ows (skip_ows (b ∷ u)) ≡ skip_ows (b ∷ u)
trimmed_by b u true e h = subst (λ t. skip_ows (if t then skip_ows u else b ∷ u) ≡ (if t then skip_ows u else b ∷ u)) (sym e) h
trimmed_by b u false e h =
    subst (λ t. skip_ows (if t then skip_ows u else b ∷ u) ≡ (if t then skip_ows u else b ∷ u)) (sym e)
    (ap (λ t. if t then skip_ows u else b ∷ u) e)

pub skipped_twice : (u : List ℕ) → skip_ows (skip_ows u) ≡ skip_ows u
skipped_twice [] = refl
skipped_twice (b ∷ u) = trimmed_by b u (is_ows b) refl (skipped_twice u)

-- no blank stands first in what is trimmed
first_by : (b : ℕ) (u : List ℕ) (t : Bool) → is_ows b ≡ t → skip_ows (b ∷ u) ≡ b ∷ u → is_ows b ≡ false
first_by b u false e h = e
first_by b u true e h =
    let same : skip_ows u ≡ b ∷ u = sym (ap (λ t. if t then skip_ows u else b ∷ u) e) ∙ h in
    let long : length (skip_ows u) ≡ suc (length u) = ap length same in
    absurd (omega (arith, long, skipped_length u))

pub first_no_blank : (b : ℕ) (u : List ℕ) → IsTrimmedFront (b ∷ u) → is_ows b ≡ false
first_no_blank b u h = first_by b u (is_ows b) refl h

-- an entry without quotation marks, up to a comma and up to the end
without_by : (text : List ℕ) (b : ℕ) (u : List ℕ) (all : List ListEntry) → is_comma b ≡ false → without_quotes (text ++ b ∷ []) u ≡ all
    → without_quotes text (b ∷ u) ≡ all
without_by text b u all e h = ap (λ t. if t then plain_entries (text ∷ []) ++ quoted_entries u else without_quotes (text ++ b ∷ []) u) e ∙ h

pub without_before : (text taken behind : List ℕ) → All (λ b. is_comma b ≡ false) taken
    → without_quotes text (taken ++ comma ∷ behind) ≡ plain_entries ((text ++ taken) ∷ []) ++ quoted_entries behind
without_before text [] behind h = ap (λ u. plain_entries (u ∷ []) ++ quoted_entries behind) (sym (append-nil text))
without_before text (b ∷ taken) behind h =
    without_by text b (taken ++ comma ∷ behind) (plain_entries ((text ++ b ∷ taken) ∷ []) ++ quoted_entries behind)
    (All-head (λ b. is_comma b ≡ false) b taken h)
    (without_before (text ++ b ∷ []) taken behind (All-tail (λ b. is_comma b ≡ false) b taken h)
    ∙ ap (λ u. plain_entries (u ∷ []) ++ quoted_entries behind) (append_assoc text (b ∷ []) taken))

pub without_whole : (text u : List ℕ) → All (λ b. is_comma b ≡ false) u → without_quotes text u ≡ plain_entries ((text ++ u) ∷ [])
without_whole text [] h = ap (λ u. plain_entries (u ∷ [])) (sym (append-nil text))
without_whole text (b ∷ u) h =
    without_by text b u (plain_entries ((text ++ b ∷ u) ∷ [])) (All-head (λ b. is_comma b ≡ false) b u h)
    (without_whole (text ++ b ∷ []) u (All-tail (λ b. is_comma b ≡ false) b u h)
    ∙ ap (λ u. plain_entries (u ∷ [])) (append_assoc text (b ∷ []) u))

-- from its first byte on
opened_by : (b : ℕ) (u : List ℕ) → is_ows b ≡ false → (b == quote) ≡ false → is_comma b ≡ false
    → quoted_entries (b ∷ u) ≡ without_quotes (b ∷ []) u
opened_by b u blank quoted comma_first =
    ap (λ t. if t then quoted_entries u
    else (if b == quote then within_quotes [] u else (if b == comma then quoted_entries u else without_quotes (b ∷ []) u))) blank
    ∙ ap (λ t. if t then within_quotes [] u else (if b == comma then quoted_entries u else without_quotes (b ∷ []) u)) quoted
    ∙ ap (λ t. if t then quoted_entries u else without_quotes (b ∷ []) u) comma_first

pub plain_nothing : plain_entries ([] ∷ []) ≡ []
unfolding trim_ows
plain_nothing = refl

-- what isn't opened by a quotation mark
not_quote : (b : ℕ) (u : List ℕ) → IsNotOpened (b ∷ u) → (b == quote) ≡ false
not_quote b u h =
    false_from_ne_true (b == quote) (λ e. h.no_quote u (ap (λ c. c ∷ u) ((Decides-eqb b quote).0 e)))

pub unopened_whole : (u : List ℕ) → IsNotOpened u → All (λ b. is_comma b ≡ false) u → quoted_entries u ≡ plain_entries (u ∷ [])
unopened_whole [] h none = sym plain_nothing
unopened_whole (b ∷ u) h none =
    opened_by b u (first_no_blank b u h.trimmed) (not_quote b u h) (All-head (λ b. is_comma b ≡ false) b u none)
    ∙ without_whole (b ∷ []) u (All-tail (λ b. is_comma b ≡ false) b u none)

pub unopened_piece : (taken behind : List ℕ) → IsNotOpened (taken ++ comma ∷ behind) → All (λ b. is_comma b ≡ false) taken
    → quoted_entries (taken ++ comma ∷ behind) ≡ plain_entries (taken ∷ []) ++ quoted_entries behind
unopened_piece [] behind h none = sym (ap (λ es. es ++ quoted_entries behind) plain_nothing)
unopened_piece (b ∷ taken) behind h none =
    let rest = taken ++ comma ∷ behind in
    opened_by b rest (first_no_blank b rest h.trimmed) (not_quote b rest h) (All-head (λ b. is_comma b ≡ false) b taken none)
    ∙ without_before (b ∷ []) taken behind (All-tail (λ b. is_comma b ≡ false) b taken none)

-- one byte between quotation marks
pub closing_quote : (text : List ℕ) (b : ℕ) (u : List ℕ) → b ≡ quote → within_quotes text (b ∷ u) ≡ behind_quotes text u
closing_quote text b [] e = ap (λ c. within_quotes text (c ∷ [])) e
closing_quote text b (c ∷ u) e = ap (λ d. within_quotes text (d ∷ c ∷ u)) e

no_quote_is : (b : ℕ) → (b ≡ quote → ⊥) → (b == quote) ≡ false
no_quote_is b h = false_from_ne_true (b == quote) (λ e. h ((Decides-eqb b quote).0 e))

pub one_escaped : (text : List ℕ) (b c : ℕ) (u : List ℕ) → (b ≡ quote → ⊥) → ((b == backslash) && is_escaped c) ≡ true
    → within_quotes (text ++ c ∷ []) u ≡ within_quotes text (b ∷ c ∷ u)
one_escaped text b c u h e =
    sym (ap (λ t. if t then behind_quotes text (c ∷ u)
    else (if (b == backslash) && is_escaped c then within_quotes (text ++ c ∷ []) u else within_quotes (text ++ b ∷ []) (c ∷ u)))
    (no_quote_is b h)
    ∙ ap (λ t. if t then within_quotes (text ++ c ∷ []) u else within_quotes (text ++ b ∷ []) (c ∷ u)) e)

pub one_kept : (text : List ℕ) (b c : ℕ) (u : List ℕ) → (b ≡ quote → ⊥) → ((b == backslash) && is_escaped c) ≡ false
    → within_quotes (text ++ b ∷ []) (c ∷ u) ≡ within_quotes text (b ∷ c ∷ u)
one_kept text b c u h e =
    sym (ap (λ t. if t then behind_quotes text (c ∷ u)
    else (if (b == backslash) && is_escaped c then within_quotes (text ++ c ∷ []) u else within_quotes (text ++ b ∷ []) (c ∷ u)))
    (no_quote_is b h)
    ∙ ap (λ t. if t then within_quotes (text ++ c ∷ []) u else within_quotes (text ++ b ∷ []) (c ∷ u)) e)

pub last_kept : (text : List ℕ) (b : ℕ) → (b ≡ quote → ⊥) → within_quotes (text ++ b ∷ []) [] ≡ within_quotes text (b ∷ [])
last_kept text b h = sym (ap (λ t. if t then some_text text ∷ [] else no_entry ∷ []) (no_quote_is b h))

-- what stands behind a closing quotation mark, without blanks first
pub behind_comma : (text : List ℕ) (b : ℕ) (u : List ℕ) → b ≡ comma → behind_quotes text (b ∷ u) ≡ some_text text ∷ quoted_entries u
behind_comma text b u e = ap (λ c. behind_quotes text (c ∷ u)) e

pub behind_other : (text : List ℕ) (b : ℕ) (u : List ℕ) → IsTrimmedFront (b ∷ u) → (b ≡ comma → ⊥)
    → behind_quotes text (b ∷ u) ≡ no_entry ∷ []
behind_other text b u h none =
    ap (λ t. if t then behind_quotes text u else (if b == comma then some_text text ∷ quoted_entries u else no_entry ∷ []))
    (first_no_blank b u h)
    ∙ ap (λ t. if t then some_text text ∷ quoted_entries u else no_entry ∷ [])
    (false_from_ne_true (b == comma) (λ e. none ((Decides-eqb b comma).0 e)))

-- a byte that is put, or the one that it escapes
pub escaped_step : (old new behind more : List ℕ) (b c : ℕ) → new ≡ old ++ c ∷ [] → behind ≡ c ∷ more → (b ≡ quote → ⊥)
    → ((b == backslash) && is_escaped c) ≡ true → Unescapes old new b behind more
escaped_step old new behind more b c e f h t = record {
  same = ap (λ u. within_quotes u more) e ∙ one_escaped old b c more h t ∙ ap (λ u. within_quotes old (b ∷ u)) (sym f);
  shorter = omega (arith, ap length f);
}

pub kept_step : (old new behind more : List ℕ) (b c : ℕ) → new ≡ old ++ b ∷ [] → behind ≡ c ∷ more → (b ≡ quote → ⊥)
    → ((b == backslash) && is_escaped c) ≡ false → Unescapes old new b behind behind
kept_step old new behind more b c e f h t = record {
  same = ap (λ u. within_quotes u behind) e ∙ ap (λ u. within_quotes (old ++ b ∷ []) u) f ∙ one_kept old b c more h t
      ∙ ap (λ u. within_quotes old (b ∷ u)) (sym f);
  shorter = omega arith;
}

-- what is trimmed
pub trimmed_is : (u t : List ℕ) → t ≡ skip_ows u → IsTrimmedFront t
trimmed_is u t e = ap skip_ows e ∙ skipped_twice u ∙ sym e

first_is : (b c : ℕ) (u v : List ℕ) → b ∷ u ≡ c ∷ v → b ≡ c
first_is b c u v e = ap (λ l. get_or l 0 b) e

pub not_opened : (rest t : List ℕ) (b : ℕ) (u : List ℕ) → t ≡ skip_ows rest → t ≡ b ∷ u → (b ≡ quote → ⊥) → IsNotOpened t
not_opened rest t b u e f h = record {
  trimmed = trimmed_is rest t e;
  no_quote = λ more g. h (first_is b quote u more (sym f ∙ g));
}

-- an entry is put that doesn't stand between quotation marks
pub unopened_puts : (old new : List ListEntry) (text taken : List ℕ) (left : Option (Bor (List ℕ))) → IsNotOpened text
    → IsCutBy comma text taken left → new ≡ old ++ plain_entries (taken ∷ []) → PutsEntry old new text left
unopened_puts old new text taken None h cut e =
    e ∙ ap (λ u. old ++ plain_entries (u ∷ [])) cut.all
    ∙ ap (λ es. old ++ es) (sym (unopened_whole text h (subst (All (λ b. is_comma b ≡ false)) cut.all cut.none)))
unopened_puts old new text taken (Some left) h cut e = (
  ap (λ es. es ++ quoted_entries left.now) e ∙ append_assoc old (plain_entries (taken ∷ [])) (quoted_entries left.now)
      ∙ ap (λ es. old ++ es) (sym (ap quoted_entries cut.all ∙ unopened_piece taken left.now (subst IsNotOpened cut.all h) cut.none)),
  cut.shorter,
)

-- what was put, where other words say what there was to put
puts_same : (old new all other : List ListEntry) (few most : ℕ) (left : Option (Bor (List ℕ))) → all ≡ other → few ≤ most
    → PutsAll old new all few left → PutsAll old new other most left
puts_same old new all other few most None e less h = h ∙ ap (λ es. old ++ es) e
puts_same old new all other few most (Some left) e less h = (h.0 ∙ ap (λ es. old ++ es) e, omega (arith, less, h.1))

pub entry_trimmed : (old new : List ListEntry) (rest t : List ℕ) (left : Option (Bor (List ℕ))) → t ≡ skip_ows rest
    → PutsEntry old new t left → PutsEntry old new rest left
entry_trimmed old new rest t left e h =
    puts_same old new (quoted_entries t) (quoted_entries rest) (length t) (length rest) left
    (ap quoted_entries e ∙ sym (entries_trimmed rest)) (omega (arith, ap length e, skipped_length rest)) h

pub entry_quoted : (old new : List ListEntry) (rest t inside : List ℕ) (b : ℕ) (left : Option (Bor (List ℕ))) → t ≡ skip_ows rest
    → t ≡ b ∷ inside → b ≡ quote → PutsInside old new inside left → PutsEntry old new rest left
entry_quoted old new rest t inside b left e f q h =
    let opened : quoted_entries t ≡ within_quotes [] inside = ap quoted_entries f ∙ ap (λ c. quoted_entries (c ∷ inside)) q in
    puts_same old new (within_quotes [] inside) (quoted_entries rest) (suc (length inside)) (length rest) left
    (sym opened ∙ ap quoted_entries e ∙ sym (entries_trimmed rest))
    (omega (arith, ap length e, ap length f, skipped_length rest)) h

none_left : (t : List ℕ) → length t ≡ 0 → t ≡ []
none_left [] h = refl
none_left (b ∷ t) h = absurd (omega (arith, h))

pub nothing_put : (old : List ListEntry) (rest t : List ℕ) → t ≡ skip_ows rest → length t ≡ 0 → old ≡ old ++ quoted_entries rest
nothing_put old rest t e f =
    sym (ap (λ es. old ++ es) (entries_trimmed rest ∙ ap quoted_entries (sym e ∙ none_left t f)) ∙ append-nil old)

pub inside_closed : (old new : List ListEntry) (inside text behind t : List ℕ) (left : Option (Bor (List ℕ)))
    → within_quotes [] inside ≡ behind_quotes text behind → length behind ≤ length inside → t ≡ skip_ows behind
    → PutsClosed old new text t left → PutsInside old new inside left
inside_closed old new inside text behind t left e short f h =
    puts_same old new (behind_quotes text t) (within_quotes [] inside) (suc (length t)) (suc (length inside)) left
    (ap (behind_quotes text) f ∙ sym (closed_trimmed text behind) ∙ sym e)
    (omega (arith, ap length f, short, skipped_length behind)) h

-- the text ends at a quotation mark
pub text_closed : (text rest inside : List ℕ) (b : ℕ) (behind : List ℕ) → within_quotes text rest ≡ within_quotes [] inside
    → rest ≡ b ∷ behind → b ≡ quote → within_quotes [] inside ≡ behind_quotes text behind
text_closed text rest inside b behind same e q = sym same ∙ ap (within_quotes text) e ∙ closing_quote text b behind q
