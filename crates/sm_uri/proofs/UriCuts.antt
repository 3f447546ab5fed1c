-- What is cut from the front of a text: runs of bytes, names of labels, and what closes a label.
use Rattle.std.proofs.Common.{◌≡◌, ◌==◌, ℕ, suc, ◌+◌, ◌<◌, ◌⊎◌, inl, inr, Bool, true, false, cond, List, [], ◌∷◌, ◌++◌, length, take, drop}
use Rattle.std.proofs.Common.{get_or, append_assoc, append-nil, refl, sym, ap, subst, ◌∙◌, arith, length-append}
use Rattle.std.specs.Prelude.{IsUtf8}
use Rattle.std.specs.List.{list_all, prefix_len}
use Rattle.std.specs.Str.{IsCharBoundary}
use Rattle.std.proofs.lemmas.Bool.{eqb-true}
use Rattle.std.proofs.lemmas.List.{take-append-drop}
use Rattle.std.proofs.lemmas.List.Folds.{length-prefix_len}
use Rattle.std.proofs.lemmas.Str.{IsCharBoundary-after_ascii, IsCharBoundary-at_seam, IsCharBoundary-before_ascii, IsCharBoundary-end}
use Rattle.std.proofs.lemmas.Str.{IsUtf8-drop}
use Rattle.sm_bytes.proofs.Runs.{of_run}
use Rattle.sm_ids.specs.Identifier.{is_identifier_byte, IsIdentifier}
use Rattle.sm_ids.specs.steps.Ahead.{EndsRun, is_underscore}
use Rattle.sm_ids.proofs.Cutting.{both, and_also, heads, tails, clash, one_cut}
use Rattle.sm_ids.proofs.Identifiers.{opener, whole, shut, made_of_bytes}
use Rattle.sm_uri.specs.UriPattern.{is_text_of}
use Rattle.sm_uri.specs.steps.UriReading.{NoneGoesOn, CutsText, ends_segment, BeginsWithName, HasNoName, closing_text, BeginsWithClosing}
use Rattle.sm_uri.specs.steps.UriReading.{HasNoClosing}

-- a run that stands first
run_passes : (p : ℕ → Bool) (s : List ℕ) → list_all p (take (prefix_len p s) s) ≡ true
run_passes p s = of_run p (λ t. list_all p t ≡ true) refl (λ c t h k. and_also (p c) (list_all p t) h k) s

ends_at : (p : ℕ → Bool) (c : ℕ) (s : List ℕ) → EndsRun p (drop (prefix_len p s) s) → (b : Bool) → p c ≡ b
    → EndsRun p (drop (cond b (1 + prefix_len p s) 0) (c ∷ s))
ends_at p c s rest true h =
    let next : suc (prefix_len p s) ≡ 1 + prefix_len p s = omega arith in subst (λ n. EndsRun p (drop n (c ∷ s))) next rest
ends_at p c s rest false h = h

run_ends : (p : ℕ → Bool) (s : List ℕ) → EndsRun p (drop (prefix_len p s) s)
run_ends p [] = tt
run_ends p (c ∷ s) = ends_at p c s (run_ends p s) (p c) refl

pub run_cut : (p : ℕ → Bool) (text taken behind : List ℕ) (n : ℕ) → n ≡ prefix_len p text → taken ≡ take n text → behind ≡ drop n text
    → (text ≡ taken ++ behind) × (list_all p taken ≡ true) × EndsRun p behind
run_cut p text taken behind n e t b =
    let t2 : taken ≡ take (prefix_len p text) text = t ∙ ap (λ m. take m text) e in
    let b2 : behind ≡ drop (prefix_len p text) text = b ∙ ap (λ m. drop m text) e in (
      sym (take-append-drop n text) ∙ ap (λ x. x ++ drop n text) (sym t) ∙ ap (λ x. taken ++ x) (sym b),
      subst (λ x. list_all p x ≡ true) (sym t2) (run_passes p text),
      subst (EndsRun p) (sym b2) (run_ends p text),
    )

-- a character ends where it ends
ascii_behind : (p : ℕ → Bool) → ((c : ℕ) → p c ≡ true → c < 128) → (a b : List ℕ) → list_all p a ≡ true → IsUtf8 (a ++ b) → IsUtf8 b
ascii_behind p small [] b h u = u
ascii_behind p small (c ∷ a) b h u =
    let k = both (p c) (list_all p a) h in
    ascii_behind p small a b k.1
    (IsUtf8-drop (c ∷ (a ++ b)) 1 u (IsCharBoundary-after_ascii (c ∷ (a ++ b)) 0 u (omega arith) (small c k.0)))

byte_at : (a : List ℕ) (c : ℕ) (v : List ℕ) → get_or (a ++ c ∷ v) (length a) 0 ≡ c
byte_at [] c v = refl
byte_at (d ∷ a) c v = byte_at a c v

before_other : (p : ℕ → Bool) → ((c : ℕ) → p c ≡ false → c < 128) → (a b : List ℕ) → EndsRun p b → IsCharBoundary (a ++ b) (length a)
before_other p small a [] h =
    subst (λ n. IsCharBoundary (a ++ []) n) (ap length (append-nil a)) (IsCharBoundary-end (a ++ []))
before_other p small a (c ∷ b) h =
    let len = length-append a (c ∷ b) in
    let low : c < 128 = small c h in
    IsCharBoundary-before_ascii (a ++ c ∷ b) (length a) (omega (arith, len)) (subst (λ d. d < 128) (sym (byte_at a c b)) low)

pub cut_boundary : (p : ℕ → Bool) → CutsText p → (s : List ℕ) → IsUtf8 s → IsCharBoundary s (prefix_len p s)
cut_boundary p (inl small) s u =
    let parts = sym (take-append-drop (prefix_len p s) s) in
    subst (IsCharBoundary s) (length-prefix_len p s)
    (IsCharBoundary-at_seam s (take (prefix_len p s) s) (drop (prefix_len p s) s) parts
    (ascii_behind p small (take (prefix_len p s) s) (drop (prefix_len p s) s) (run_passes p s) (subst IsUtf8 parts u)))
cut_boundary p (inr small) s u =
    subst (IsCharBoundary s) (length-prefix_len p s)
    (subst (λ x. IsCharBoundary x (length (take (prefix_len p s) s))) (take-append-drop (prefix_len p s) s)
    (before_other p small (take (prefix_len p s) s) (drop (prefix_len p s) s) (run_ends p s)))

-- a text that is empty, or isn't
pub is_none : (t : List ℕ) (b : Bool) → b ≡ (length t == 0) → b ≡ true → t ≡ []
is_none [] b e h = refl
is_none (c ∷ t) b e h = absurd (let n : length (c ∷ t) ≡ 0 = eqb-true (length (c ∷ t)) 0 (sym e ∙ h) in cc)

pub is_some : (p : ℕ → Bool) (t : List ℕ) (b : Bool) → b ≡ (length t == 0) → b ≡ false → list_all p t ≡ true → is_text_of p t ≡ true
is_some p [] b e h k = let f : true ≡ false = sym e ∙ h in cc
is_some p (c ∷ t) b e h k = k

-- the run of a name's bytes is no name, so behind the low lines that stand first none begins
no_opener : (name behind low a b : List ℕ) (c : ℕ) → list_all is_identifier_byte name ≡ true → EndsRun is_identifier_byte behind
    → (IsIdentifier name → ⊥) → name ++ behind ≡ low ++ c ∷ (a ++ b) → list_all is_underscore low ≡ true
    → list_all is_identifier_byte a ≡ true → EndsRun is_identifier_byte b → opener low c ≡ false
no_opener name behind low a b c passes ends none e are goes stops = by_test (opener low c) refl
  where
    by_test : (t : Bool) → opener low c ≡ t → opener low c ≡ false
    by_test true h =
        let whole_name = whole low c a are h goes in
        let cut = one_cut is_identifier_byte name (low ++ c ∷ a) behind b passes (made_of_bytes (low ++ c ∷ a) whole_name) ends stops
        (e ∙ sym (append_assoc low (c ∷ a) b)) in
        absurd (none (subst IsIdentifier (sym cut.0) whole_name))
    by_test false h = h

no_name_goes_on : (name behind low rest : List ℕ) → list_all is_identifier_byte name ≡ true → EndsRun is_identifier_byte behind
    → (IsIdentifier name → ⊥) → name ++ behind ≡ low ++ rest → list_all is_underscore low ≡ true → EndsRun is_underscore rest
    → NoneGoesOn BeginsWithName low rest
no_name_goes_on name behind low [] passes ends none e are stops =
    λ (i, r, h, k). shut low [] i r are tt h (sym k ∙ sym (append-nil low))
no_name_goes_on name behind low (c ∷ rest) passes ends none e are stops =
    let p = is_identifier_byte in
    let parts = sym (take-append-drop (prefix_len p rest) rest) in
    let other = no_opener name behind low (take (prefix_len p rest) rest) (drop (prefix_len p rest) rest) c passes ends none
    (e ∙ ap (λ x. low ++ c ∷ x) parts) are (run_passes p rest) (run_ends p rest) in
    λ more (i, r, h, k). shut low (c ∷ more) i r are (other, stops) h (sym k)

pub no_name : (text name behind low rest : List ℕ) → text ≡ name ++ behind → list_all is_identifier_byte name ≡ true
    → EndsRun is_identifier_byte behind → (IsIdentifier name → ⊥) → text ≡ low ++ rest → list_all is_underscore low ≡ true
    → EndsRun is_underscore rest → HasNoName text rest
no_name text name behind low rest e passes ends none f are stops = record {
  low_lines = low;
  cut = f;
  are = are;
  none = no_name_goes_on name behind low rest passes ends none (sym e ∙ f) are stops;
}

-- what is behind a plus, or without one
abbrev pub IsMarked : List ℕ → List ℕ → Type 0
IsMarked text closing = (text ≡ 43 ∷ closing) ⊎ ((text ≡ closing) × ((more : List ℕ) → text ≡ 43 ∷ more → ⊥))

goes_on : (c : ℕ) (more rest : List ℕ) → c ∷ more ≡ rest → ends_segment rest ≡ true → ends_segment (c ∷ []) ≡ false → ⊥
goes_on c more rest e ends going = clash (ends_segment (c ∷ more)) (subst (λ x. ends_segment x ≡ true) (sym e) ends) going

plus_is_no_brace : (a b : ℕ) → a ≡ 43 → b ≡ 125 → a ≡ b → ⊥
plus_is_no_brace a b h k e = let f : 43 ≡ 125 = sym h ∙ e ∙ k in omega (arith, f)

behind_greedy : (behind : List ℕ) → ends_segment behind ≡ false → NoneGoesOn BeginsWithClosing (43 ∷ 125 ∷ []) behind
behind_greedy [] going = let f : true ≡ false = going in cc
behind_greedy (c ∷ v) going = λ more (g, rest, e, ends). by_mark g more rest e ends
  where
    by_mark : (g : Bool) (more rest : List ℕ) → 43 ∷ 125 ∷ c ∷ more ≡ closing_text g ++ rest → ends_segment rest ≡ true → ⊥
    by_mark true more rest e ends = goes_on c more rest (tails 125 125 (c ∷ more) rest (tails 43 43 (125 ∷ c ∷ more) (125 ∷ rest) e))
        ends going
    by_mark false more rest e ends = plus_is_no_brace 43 125 refl refl (heads 43 125 (125 ∷ c ∷ more) rest e)

behind_plain : (behind : List ℕ) → ends_segment behind ≡ false → NoneGoesOn BeginsWithClosing (125 ∷ []) behind
behind_plain [] going = let f : true ≡ false = going in cc
behind_plain (c ∷ v) going = λ more (g, rest, e, ends). by_mark g more rest e ends
  where
    by_mark : (g : Bool) (more rest : List ℕ) → 125 ∷ c ∷ more ≡ closing_text g ++ rest → ends_segment rest ≡ true → ⊥
    by_mark true more rest e ends = plus_is_no_brace 43 125 refl refl (sym (heads 125 43 (c ∷ more) (125 ∷ rest) e))
    by_mark false more rest e ends = goes_on c more rest (tails 125 125 (c ∷ more) rest e) ends going

-- a label is closed, and no segment ends there
pub closing_goes_on : (text closing behind : List ℕ) → IsMarked text closing → closing ≡ 125 ∷ behind → ends_segment behind ≡ false
    → HasNoClosing text behind
closing_goes_on text closing behind (inl e) k going = record {
  taken = 43 ∷ 125 ∷ [];
  cut = e ∙ ap (λ x. 43 ∷ x) k;
  greedy = true;
  more = [];
  begun = refl;
  none = behind_greedy behind going;
}
closing_goes_on text closing behind (inr e) k going = record {
  taken = 125 ∷ [];
  cut = e.0 ∙ k;
  greedy = false;
  more = [];
  begun = refl;
  none = behind_plain behind going;
}

no_brace_behind : (closing : List ℕ) → ((more : List ℕ) → closing ≡ 125 ∷ more → ⊥) → NoneGoesOn BeginsWithClosing (43 ∷ []) closing
no_brace_behind [] none = λ (g, rest, e, ends). by_mark g rest e
  where
    by_mark : (g : Bool) (rest : List ℕ) → 43 ∷ [] ≡ closing_text g ++ rest → ⊥
    by_mark true rest e = cc
    by_mark false rest e = plus_is_no_brace 43 125 refl refl (heads 43 125 [] rest e)
no_brace_behind (c ∷ v) none = λ more (g, rest, e, ends). by_mark g more rest e
  where
    by_mark : (g : Bool) (more rest : List ℕ) → 43 ∷ c ∷ more ≡ closing_text g ++ rest → ⊥
    by_mark true more rest e = none v (ap (λ d. d ∷ v) (heads c 125 more rest (tails 43 43 (c ∷ more) (125 ∷ rest) e)))
    by_mark false more rest e = plus_is_no_brace 43 125 refl refl (heads 43 125 (c ∷ more) rest e)

no_closing : (closing : List ℕ) → ((more : List ℕ) → closing ≡ 43 ∷ more → ⊥) → ((more : List ℕ) → closing ≡ 125 ∷ more → ⊥)
    → NoneGoesOn BeginsWithClosing [] closing
no_closing [] plus none = λ (g, rest, e, ends). by_mark g rest e
  where
    by_mark : (g : Bool) (rest : List ℕ) → [] ≡ closing_text g ++ rest → ⊥
    by_mark true rest e = cc
    by_mark false rest e = cc
no_closing (c ∷ v) plus none = λ more (g, rest, e, ends). by_mark g more rest e
  where
    by_mark : (g : Bool) (more rest : List ℕ) → c ∷ more ≡ closing_text g ++ rest → ⊥
    by_mark true more rest e = plus v (ap (λ d. d ∷ v) (heads c 43 more (125 ∷ rest) e))
    by_mark false more rest e = none v (ap (λ d. d ∷ v) (heads c 125 more rest e))

-- none is closed
pub closing_none : (text closing : List ℕ) → IsMarked text closing → ((more : List ℕ) → closing ≡ 125 ∷ more → ⊥)
    → HasNoClosing text closing
closing_none text closing (inl e) none = record {
  taken = 43 ∷ [];
  cut = e;
  greedy = true;
  more = 125 ∷ [];
  begun = refl;
  none = no_brace_behind closing none;
}
closing_none text closing (inr e) none = record {
  taken = [];
  cut = e.0;
  greedy = false;
  more = 125 ∷ [];
  begun = refl;
  none = no_closing closing (λ more k. e.1 more (e.0 ∙ k)) none;
}

pub not_none : (t : List ℕ) (b : Bool) → b ≡ (length t == 0) → b ≡ false → t ≡ [] → ⊥
not_none [] b e h k = let f : true ≡ false = sym e ∙ h in cc
not_none (c ∷ t) b e h k = cc
