-- Lists of texts that are written have their texts as entries.
use Rattle.std.proofs.Common.{◌≡◌, ℕ, suc, ◌+◌, ◌<◌, ◌≤◌, List, [], ◌∷◌, ◌++◌, length, map, reverse, Bool, true, false, ◌||◌, ◌&&◌, cond, refl, sym}
use Rattle.std.proofs.Common.{ap, ◌∙◌, subst, append_assoc, append-nil, arith}
use Rattle.std.specs.Prelude.{All, ◌==◌, if◌then◌else◌, not}
use Rattle.std.specs.List.{AllByRecursion, flat_map, list_any}
use Rattle.std.proofs.lemmas.Bool.{false_from_ne_true}
use Rattle.std.proofs.lemmas.Bool.Decides.{Decides-eqb}
use Rattle.std.proofs.lemmas.List.{length-reverse}
use Rattle.std.proofs.lemmas.List.Elements.{All-cons, All-nil}
use Rattle.httparse.specs.Grammar.{is_ows, skip_ows, trim_ows}
use Rattle.sm_bytes.specs.Ascii.{backslash, comma, quote, space}
use Rattle.sm_http.specs.FieldLists.{is_comma}
use Rattle.sm_parts.specs.HeaderLists.{behind_quotes, escaped_byte, is_escaped, is_filled, needs_quotes, plain_entries, quoted, quoted_entries}
use Rattle.sm_parts.specs.HeaderLists.{within_quotes, written_entry, written_list}
use Rattle.sm_parts.specs.Laws.{IsTrimmed}
use Rattle.sm_parts.specs.steps.Quoting.{IsNotOpened, IsTrimmedFront}
use Rattle.sm_parts.specs.declared.list_entry.HeaderCut.TheVariants.{Quoted}
use Rattle.sm_parts.specs.declared.list_entry.ListEntry.{ListEntry}
use Rattle.sm_parts.specs.declared.list_entry.ListEntry.TheVariants.{Text as some_text}
use Rattle.sm_parts.proofs.QuotedLists.{closing_quote, last_kept, one_escaped, one_kept, skipped_length, unopened_piece, unopened_whole}

no_true : false ≡ true → ⊥
no_true e = cc

or_first : (a b : Bool) → (a || b) ≡ false → a ≡ false
or_first false b h = refl
or_first true b h = h

or_second : (a b : Bool) → (a || b) ≡ false → b ≡ false
or_second false b h = h
or_second true b h = absurd (no_true (sym h))

is_no : (b c : ℕ) → (b == c) ≡ false → b ≡ c → ⊥
is_no b c h e = clash (b == c) h ((Decides-eqb b c).1 e)
  where
    clash : (t : Bool) → t ≡ false → t ≡ true → ⊥
    clash t p q = cc

-- a byte that isn't escaped stays
no_escape : (b c : ℕ) → is_escaped b ≡ false → ((b == backslash) && is_escaped c) ≡ false
no_escape b c h = ap (λ t. t && is_escaped c) (or_second (b == quote) (b == backslash) h)

stays : (acc : List ℕ) (b : ℕ) (u : List ℕ) → is_escaped b ≡ false → within_quotes acc (b ∷ u) ≡ within_quotes (acc ++ b ∷ []) u
stays acc b [] h = sym (last_kept acc b (is_no b quote (or_first (b == quote) (b == backslash) h)))
stays acc b (c ∷ u) h = sym (one_kept acc b c u (is_no b quote (or_first (b == quote) (b == backslash) h)) (no_escape b c h))

-- what is written between quotation marks
byte_within : (acc : List ℕ) (b : ℕ) (t rest : List ℕ) (e : Bool) → is_escaped b ≡ e
    → ((u : List ℕ) → within_quotes u (flat_map escaped_byte t ++ quote ∷ rest) ≡ behind_quotes (u ++ t) rest)
    → within_quotes acc (((if is_escaped b then backslash ∷ b ∷ [] else b ∷ []) ++ flat_map escaped_byte t) ++ quote ∷ rest)
    ≡ behind_quotes (acc ++ b ∷ t) rest
byte_within acc b t rest true h behind =
    let more = flat_map escaped_byte t ++ quote ∷ rest in
    ap (λ f. within_quotes acc (((if f then backslash ∷ b ∷ [] else b ∷ []) ++ flat_map escaped_byte t) ++ quote ∷ rest)) h
    ∙ sym (one_escaped acc backslash b more (is_no backslash quote refl) h)
    ∙ behind (acc ++ b ∷ []) ∙ ap (λ u. behind_quotes u rest) (append_assoc acc (b ∷ []) t)
byte_within acc b t rest false h behind =
    let more = flat_map escaped_byte t ++ quote ∷ rest in
    ap (λ f. within_quotes acc (((if f then backslash ∷ b ∷ [] else b ∷ []) ++ flat_map escaped_byte t) ++ quote ∷ rest)) h
    ∙ stays acc b more h ∙ behind (acc ++ b ∷ []) ∙ ap (λ u. behind_quotes u rest) (append_assoc acc (b ∷ []) t)

within_written : (acc t rest : List ℕ) → within_quotes acc (flat_map escaped_byte t ++ quote ∷ rest) ≡ behind_quotes (acc ++ t) rest
within_written acc [] rest = closing_quote acc quote rest refl ∙ ap (λ u. behind_quotes u rest) (sym (append-nil acc))
within_written acc (b ∷ t) rest = byte_within acc b t rest (is_escaped b) refl (λ u. within_written u t rest)

quoted_read : (t rest : List ℕ) → quoted_entries (quoted t ++ rest) ≡ behind_quotes t rest
quoted_read t rest =
    ap (within_quotes []) (append_assoc (flat_map escaped_byte t) (quote ∷ []) rest) ∙ within_written [] t rest

-- what is written without them
trim_shorter : (t : List ℕ) → length (trim_ows t) ≤ length (skip_ows t)
unfolding trim_ows
trim_shorter t =
    let back = length-reverse (skip_ows (reverse (skip_ows t))) in
    let front = length-reverse (skip_ows t) in
    omega (arith, back, front, skipped_length (reverse (skip_ows t)))

first_stays : (b : ℕ) (t : List ℕ) (e : Bool) → is_ows b ≡ e → IsTrimmed (b ∷ t) → is_ows b ≡ false
first_stays b t false e h = e
first_stays b t true e h =
    let skipped : length (skip_ows (b ∷ t)) ≡ length (skip_ows t) = ap (λ f. length (if f then skip_ows t else b ∷ t)) e in
    absurd (omega (arith, skipped, ap length h, trim_shorter (b ∷ t), skipped_length t))

no_marks : (t : List ℕ) → list_any (λ b. (b == comma) || (b == quote)) t ≡ false → All (λ b. is_comma b ≡ false) t
no_marks [] h = All-nil (λ b. is_comma b ≡ false)
no_marks (b ∷ t) h =
    let test = (b == comma) || (b == quote) in
    let rest = list_any (λ c. (c == comma) || (c == quote)) t in
    All-cons (λ c. is_comma c ≡ false) b t (or_first (b == comma) (b == quote) (or_first test rest h)) (no_marks t (or_second test rest h))

no_quote_first : (b : ℕ) (t : List ℕ) → list_any (λ b. (b == comma) || (b == quote)) (b ∷ t) ≡ false → (b == quote) ≡ false
no_quote_first b t h =
    let rest = list_any (λ c. (c == comma) || (c == quote)) t in
    or_second (b == comma) (b == quote) (or_first ((b == comma) || (b == quote)) rest h)

first_of : (b c : ℕ) (u v : List ℕ) → b ∷ u ≡ c ∷ v → b ≡ c
first_of b c u v e = ap (λ l. head_of l) e
  where
    head_of : List ℕ → ℕ
    head_of [] = b
    head_of (x ∷ xs) = x

opens_not : (b : ℕ) (u : List ℕ) → is_ows b ≡ false → (b == quote) ≡ false → IsNotOpened (b ∷ u)
opens_not b u blank mark = record {
  trimmed = ap (λ f. if f then skip_ows u else b ∷ u) blank;
  no_quote = λ rest e. is_no b quote mark (first_of b quote u rest e);
}

plain_is : (b : ℕ) (t : List ℕ) → IsTrimmed (b ∷ t) → plain_entries ((b ∷ t) ∷ []) ≡ some_text (b ∷ t) ∷ []
plain_is b t h = ap (λ u. map some_text (cond (is_filled u) (u ∷ []) [])) h

-- one entry, the last or before others
plain_last : (t : List ℕ) → IsTrimmed t → is_filled t ≡ true → list_any (λ b. (b == comma) || (b == quote)) t ≡ false
    → quoted_entries t ≡ some_text t ∷ []
plain_last [] h f n = absurd (no_true f)
plain_last (b ∷ t) h f n =
    unopened_whole (b ∷ t) (opens_not b t (first_stays b t (is_ows b) refl h) (no_quote_first b t n)) (no_marks (b ∷ t) n) ∙ plain_is b t h

plain_before : (t rest : List ℕ) → IsTrimmed t → is_filled t ≡ true → list_any (λ b. (b == comma) || (b == quote)) t ≡ false
    → quoted_entries (t ++ comma ∷ rest) ≡ some_text t ∷ quoted_entries rest
plain_before [] rest h f n = absurd (no_true f)
plain_before (b ∷ t) rest h f n =
    unopened_piece (b ∷ t) rest (opens_not b (t ++ comma ∷ rest) (first_stays b t (is_ows b) refl h) (no_quote_first b t n))
    (no_marks (b ∷ t) n)
    ∙ ap (λ es. es ++ quoted_entries rest) (plain_is b t h)

not_not : (b : Bool) → not b ≡ false → b ≡ true
not_not true h = refl
not_not false h = sym h

last_by : (t : List ℕ) (q : Bool) → needs_quotes t ≡ q → IsTrimmed t → quoted_entries (if q then quoted t else t) ≡ some_text t ∷ []
last_by t true e h = ap quoted_entries (sym (append-nil (quoted t))) ∙ quoted_read t []
last_by t false e h =
    let marks = list_any (λ b. (b == comma) || (b == quote)) t in
    plain_last t h (not_not (is_filled t) (or_first (not (is_filled t)) marks e)) (or_second (not (is_filled t)) marks e)

before_by : (t rest : List ℕ) (q : Bool) → needs_quotes t ≡ q → IsTrimmed t
    → quoted_entries ((if q then quoted t else t) ++ comma ∷ rest) ≡ some_text t ∷ quoted_entries rest
before_by t rest true e h = quoted_read t (comma ∷ rest)
before_by t rest false e h =
    let marks = list_any (λ b. (b == comma) || (b == quote)) t in
    plain_before t rest h (not_not (is_filled t) (or_first (not (is_filled t)) marks e)) (or_second (not (is_filled t)) marks e)

-- a list, one entry after the other
list_from : (t : List ℕ) (ts : List (List ℕ)) → IsTrimmed t → AllByRecursion IsTrimmed ts
    → quoted_entries (written_entry Quoted t ++ flat_map (λ t. comma ∷ space ∷ written_entry Quoted t) ts) ≡ some_text t ∷ map some_text ts
list_from t [] h hs = ap quoted_entries (append-nil (written_entry Quoted t)) ∙ last_by t (needs_quotes t) refl h
list_from t (u ∷ us) h hs =
    before_by t (space ∷ (written_entry Quoted u ++ flat_map (λ t. comma ∷ space ∷ written_entry Quoted t) us)) (needs_quotes t) refl h
    ∙ ap (λ es. some_text t ∷ es) (list_from u us hs.0 hs.1)

pub texts_read : (texts : List (List ℕ)) → AllByRecursion IsTrimmed texts → quoted_entries (written_list Quoted texts) ≡ map some_text texts
texts_read [] h = refl
texts_read (t ∷ ts) h = list_from t ts h.0 h.1
