-- What the line at the start of some bytes says of a size line there.
use Rattle.std.proofs.Common.{◌≡◌, ℕ, ◌+◌, ◌<◌, ◌≤◌, inl, inr, true, List, [], ◌∷◌, ◌++◌, length, take, drop, refl, sym, ap, subst, ◌∙◌}
use Rattle.std.proofs.Common.{arith, append_assoc, append-nil, None, Some}
use Rattle.std.proofs.lemmas.List.{length-append, length-take-le}
use Rattle.std.proofs.lemmas.List.Elements.{All-cons, All-nil}
use Rattle.std.specs.Str.Parse.{digits_value}
use Rattle.httparse.specs.Grammar.{is_extension_byte, AllPass, ChunkLine, print_chunk_line}
use Rattle.httparse.proofs.RunLemmas.{run_unique, run_unstopped}
use Rattle.sm_http.specs.declared.line.SeenLine.TheVariants as line
use Rattle.sm_http.specs.declared.size_line.SeenSize.TheVariants.{Whole, Part, Never}
use Rattle.sm_http.specs.Limits.{size_line_limit}
use Rattle.sm_http.specs.Chunks.{IsSizeLine}
use Rattle.sm_http.specs.steps.Lines.{ReadsLine, IsLinePart, SeesLine}
use Rattle.sm_http.specs.steps.SizeLines.{line_text, IsSizeText, SaysSize, HasNoSize, MayBecomeSize, SeesSize}
use Rattle.sm_http.proofs.Cuts.{right_empty}
use Rattle.sm_http.proofs.SizeTexts.{printed, printed_alone, two_cuts, text_of_line, short_text, line_passes, text_front, line_of, LineOf}

-- a line is a size line's, and then its text is the same
same_text : (text rest more : List ℕ) (bytes : List ℕ) (l : ChunkLine) (r : List ℕ) → ReadsLine bytes text rest → IsSizeLine l
    → bytes ++ more ≡ print_chunk_line l ++ r → text ≡ line_text l
same_text text rest more bytes l r reads is e =
    let both = sym (append_assoc text (13 ∷ 10 ∷ rest) more) ∙ ap (λ x. x ++ more) (sym reads.reads) ∙ e ∙ printed l r in
    let same = run_unique is_extension_byte text (line_text l) (13 ∷ 10 ∷ (rest ++ more)) (13 ∷ 10 ∷ r) reads.passes
    (line_passes l is) refl refl both in
    same.0

pub whole_long : (bytes : List ℕ) (n : ℕ) → SeesLine bytes (line.Whole n) → size_line_limit < n → SeesSize bytes Never
whole_long bytes n sees long more l r is e =
    let same = same_text (take n bytes) (drop (n + 2) bytes) more bytes l r sees.1 is e in
    let short = short_text l is in
    let len = length-take-le n bytes (omega (arith, sees.0)) in
    omega (arith, ap length same)

pub whole_other : (bytes : List ℕ) (n : ℕ) → SeesLine bytes (line.Whole n) → SaysSize (take n bytes) None → SeesSize bytes Never
whole_other bytes n sees other more l r is e =
    let same = same_text (take n bytes) (drop (n + 2) bytes) more bytes l r sees.1 is e in
    other (subst IsSizeText (sym same) (text_of_line l is))

pub whole_size : (bytes : List ℕ) (n size : ℕ) → SeesLine bytes (line.Whole n) → n ≤ size_line_limit → SaysSize (take n bytes) (Some size)
    → SeesSize bytes (Whole size (n + 2))
whole_size bytes n size sees short says =
    let len = length-take-le n bytes (omega (arith, sees.0)) in
    let of = line_of (take n bytes) says.0 sees.1.passes (omega arith) in
    record {
      line = of.line;
      is_line = of.is_line;
      within = sees.0;
      reads = sees.1.reads ∙ ap (λ t. t ++ 13 ∷ 10 ∷ drop (n + 2) bytes) (sym of.is) ∙ sym (printed of.line (drop (n + 2) bytes));
      number = says.1 ∙ ap (digits_value 16) (sym of.digits);
    }

-- a part of a line is a prefix of a size line's text, or all of it
pub front_of : (text more b r : List ℕ) → AllPass is_extension_byte text → text ++ more ≡ b ++ 13 ∷ 10 ∷ r → (w : List ℕ) × (b ≡ text ++ w)
front_of text more b r all e = elim (two_cuts text more b (13 ∷ 10 ∷ r) e) [
  | inl w ↦ (w.0, w.1)
  | inr w ↦ behind w.0 w.1 w.2
]
  where
    behind : (w : List ℕ) → text ≡ b ++ w → 13 ∷ 10 ∷ r ≡ w ++ more → (v : List ℕ) × (b ≡ text ++ v)
    behind [] t u = ([], sym (append-nil b) ∙ sym t ∙ sym (append-nil text))
    behind (x ∷ w) t u =
        let first : x ≡ 13 = cc in
        absurd (run_unstopped is_extension_byte b (x ∷ w) (subst (λ s. AllPass is_extension_byte s) t all) (ap is_extension_byte first))

pub return_text : (text more b r bytes : List ℕ) → AllPass is_extension_byte text → AllPass is_extension_byte b → bytes ≡ text ++ 13 ∷ []
    → bytes ++ more ≡ b ++ 13 ∷ 10 ∷ r → text ≡ b
return_text text more b r bytes all passes is e =
    let both = sym (append_assoc text (13 ∷ []) more) ∙ ap (λ x. x ++ more) (sym is) ∙ e in
    let same = run_unique is_extension_byte text b (13 ∷ more) (13 ∷ 10 ∷ r) all passes refl refl both in
    same.0

part_front : (bytes text more r : List ℕ) (l : ChunkLine) → IsLinePart bytes text → IsSizeLine l
    → bytes ++ more ≡ print_chunk_line l ++ r → (w : List ℕ) × (line_text l ≡ text ++ w)
part_front bytes text more r l part is e = elim part.is [
  | inl all ↦ front_of text more (line_text l) r part.passes (ap (λ x. x ++ more) (sym all) ∙ e ∙ printed l r)
  | inr cut ↦ ([], sym (append-nil text ∙ return_text text more (line_text l) r bytes part.passes (line_passes l is) cut (e ∙ printed l r)))
]

pub part_long : (bytes : List ℕ) (n : ℕ) → SeesLine bytes (line.Part n) → size_line_limit < n → SeesSize bytes Never
part_long bytes n sees long more l r is e =
    let front = part_front bytes (take n bytes) more r l sees.1 is e in
    let short = short_text l is in
    let len = length-take-le n bytes sees.0 in
    let parts = ap length front.1 ∙ length-append (take n bytes) front.0 in
    omega arith

pub part_other : (bytes : List ℕ) (n : ℕ) → SeesLine bytes (line.Part n) → 0 < length bytes → SaysSize (take n bytes) None
    → SeesSize bytes Never
part_other bytes n sees some other more l r is e = elim sees.1.is [
  | inl all ↦
      let front = part_front bytes (take n bytes) more r l sees.1 is e in
      other (text_front l (take n bytes) front.0 is front.1 (subst (λ t. 0 < length t) all some))
  | inr cut ↦
      let same = return_text (take n bytes) more (line_text l) r bytes sees.1.passes (line_passes l is) cut (e ∙ printed l r) in
      other (subst IsSizeText (sym same) (text_of_line l is))
]

-- a text that is one, and its line end is still to come
open_text : (bytes text : List ℕ) → AllPass is_extension_byte text → bytes ≡ text → LineOf text → HasNoSize bytes × MayBecomeSize bytes
open_text bytes text all is of = (
  λ l r line e. run_unstopped is_extension_byte (line_text l) (13 ∷ 10 ∷ r)
      (subst (λ s. AllPass is_extension_byte s) (sym is ∙ e ∙ printed l r) all) refl,
  record {
    more = 13 ∷ 10 ∷ [];
    line = of.line;
    is_line = of.is_line;
    reads = ap (λ t. t ++ 13 ∷ 10 ∷ []) (is ∙ sym of.is) ∙ sym (printed_alone of.line);
  },
)

one_return : (r : List ℕ) → 13 ∷ [] ≡ 13 ∷ 10 ∷ r → ⊥
one_return r e = cc

open_return : (bytes text : List ℕ) → AllPass is_extension_byte text → bytes ≡ text ++ 13 ∷ [] → LineOf text
    → HasNoSize bytes × MayBecomeSize bytes
open_return bytes text all is of = (
  λ l r line e.
      let same = run_unique is_extension_byte text (line_text l) (13 ∷ []) (13 ∷ 10 ∷ r) all (line_passes l line) refl refl
      (sym is ∙ e ∙ printed l r) in
      one_return r same.1,
  record {
    more = 10 ∷ [];
    line = of.line;
    is_line = of.is_line;
    reads = ap (λ t. t ++ 10 ∷ []) is ∙ append_assoc text (13 ∷ []) (10 ∷ []) ∙ ap (λ t. t ++ 13 ∷ 10 ∷ []) (sym of.is)
        ∙ sym (printed_alone of.line);
  },
)

pub part_size : (bytes : List ℕ) (n size : ℕ) → SeesLine bytes (line.Part n) → n ≤ size_line_limit → SaysSize (take n bytes) (Some size)
    → SeesSize bytes Part
part_size bytes n size sees short says =
    let len = length-take-le n bytes sees.0 in
    let of = line_of (take n bytes) says.0 sees.1.passes (omega arith) in
    elim sees.1.is [
      | inl all ↦ open_text bytes (take n bytes) sees.1.passes all of
      | inr cut ↦ open_return bytes (take n bytes) sees.1.passes cut of
    ]

-- the line of the number 0
pub zero_text : IsSizeText (48 ∷ [])
zero_text = record { some = omega arith; few = omega arith; tail = refl }

pub zero_line : LineOf (48 ∷ [])
zero_line =
    line_of (48 ∷ []) zero_text (All-cons (λ b. is_extension_byte b ≡ true) 48 [] refl (All-nil (λ b. is_extension_byte b ≡ true)))
    (omega arith)

no_end : (r : List ℕ) → [] ≡ 13 ∷ 10 ∷ r → ⊥
no_end r e = cc

pub none_size : (bytes : List ℕ) → length bytes ≡ 0 → SeesSize bytes Part
none_size [] none = (
  λ l r line e. no_end r (right_empty (line_text l) (13 ∷ 10 ∷ r) (e ∙ printed l r)),
  record {
    more = 48 ∷ 13 ∷ 10 ∷ [];
    line = zero_line.line;
    is_line = zero_line.is_line;
    reads = ap (λ t. t ++ 13 ∷ 10 ∷ []) (sym zero_line.is) ∙ sym (printed_alone zero_line.line);
  },
)
none_size (b ∷ bytes) none = absurd (omega arith)

-- no line goes on with these bytes, so no size line does
pub no_size : (bytes : List ℕ) → SeesLine bytes line.Never → SeesSize bytes Never
no_size bytes never more l r is e =
    never more (line_text l) r (record { passes = line_passes l is; reads = e ∙ printed l r })
