-- What the line at the start of some bytes says of trailer lines there, and how they are seen one after the other.
use Rattle.std.proofs.Common.{◌≡◌, ℕ, ◌+◌, ◌<◌, ◌≤◌, inl, inr, true, List, [], ◌∷◌, ◌++◌, length, take, drop, refl, sym, ap, subst, ◌∙◌}
use Rattle.std.proofs.Common.{arith, append_assoc, append-nil, drop-drop}
use Rattle.std.specs.Prelude.{All}
use Rattle.std.proofs.lemmas.List.{length-append, length-drop, length-take-le}
use Rattle.std.proofs.lemmas.List.Elements.{All-head, All-tail, All-cons, All-nil}
use Rattle.httparse.specs.Ascii.{crlf_bytes}
use Rattle.httparse.specs.Grammar.{is_extension_byte, AllPass}
use Rattle.httparse.proofs.RunLemmas.{run_unique}
use Rattle.sm_http.specs.Limits.{trailer_limit}
use Rattle.sm_http.specs.Chunks.{IsTrailer, print_trailer, print_trailers}
use Rattle.sm_http.specs.declared.line.SeenLine.TheVariants as line
use Rattle.sm_http.specs.declared.trailers.SeenTrailer.TheVariants as trailer
use Rattle.sm_http.specs.declared.trailers.SeenTrailers.TheVariants.{Whole, Part, Never}
use Rattle.sm_http.specs.steps.Lines.{IsLinePart, SeesLine}
use Rattle.sm_http.specs.steps.Trailers.{ReadsTrailers, HasNoTrailers, ReadsTrailer, SeesTrailer, SameTrailers, SeesTrailers}
use Rattle.sm_http.proofs.OneChunked.{behind_line, no_trailer}
use Rattle.sm_http.proofs.SizesSeen.{front_of, return_text}

-- ---- the first of the lines

-- the first line's text: none, or the first trailer's
pub record FirstLine (used : ℕ) (bytes rest : List ℕ) : Type 0 where
  pub text : List ℕ
  pub behind : List ℕ
  pub passes : AllPass is_extension_byte text
  pub reads : bytes ≡ text ++ 13 ∷ 10 ∷ behind
  pub room : 0 < length text → used + length text + 2 ≤ trailer_limit

first_of : (used : ℕ) (bytes rest : List ℕ) (ts : List (List ℕ)) → All IsTrailer ts → used + length (print_trailers ts) ≤ trailer_limit
    → bytes ≡ print_trailers ts ++ 13 ∷ 10 ∷ rest → FirstLine used bytes rest
first_of used bytes rest [] all within e = record {
  text = [];
  behind = rest;
  passes = All-nil (λ b. is_extension_byte b ≡ true);
  reads = e;
  room = λ some. absurd (omega arith);
}
first_of used bytes rest (t ∷ ts) all within e =
    let this = All-head IsTrailer t ts all in
    let parts = length-append (t ++ crlf_bytes) (print_trailers ts) in
    let inner = length-append t crlf_bytes in
    record {
      text = t;
      behind = print_trailers ts ++ 13 ∷ 10 ∷ rest;
      passes = this.bytes;
      reads = e ∙ behind_line t (print_trailers ts) (13 ∷ 10 ∷ rest);
      room = λ some. omega arith;
    }

first_line : (used : ℕ) (bytes rest : List ℕ) → ReadsTrailers used bytes rest → FirstLine used bytes rest
first_line used bytes rest x = first_of used bytes rest x.lines x.are_trailers x.within x.reads

pub no_line : (used : ℕ) (bytes : List ℕ) → SeesLine bytes line.Never → SeesTrailer used bytes trailer.Never
no_line used bytes never more rest x =
    let first = first_line used (bytes ++ more) rest x in
    never more first.text first.behind (record { passes = first.passes; reads = first.reads })

pub whole_past : (used n : ℕ) (bytes : List ℕ) → SeesLine bytes (line.Whole n) → 0 < n → trailer_limit < used + n + 2
    → SeesTrailer used bytes trailer.Never
whole_past used n bytes sees some past more rest x =
    let first = first_line used (bytes ++ more) rest x in
    let text = take n bytes in
    let behind = drop (n + 2) bytes in
    let both = sym (append_assoc text (13 ∷ 10 ∷ behind) more) ∙ ap (λ y. y ++ more) (sym sees.1.reads) ∙ first.reads in
    let same = run_unique is_extension_byte text first.text (13 ∷ 10 ∷ (behind ++ more))
    (13 ∷ 10 ∷ first.behind) sees.1.passes first.passes refl refl both in
    let len = length-take-le n bytes (omega (arith, sees.0)) in
    let same_len = ap length same.0 in
    let room = first.room (omega arith) in
    omega arith

pub part_past : (used n : ℕ) (bytes : List ℕ) → SeesLine bytes (line.Part n) → 0 < n → trailer_limit < used + n + 2
    → SeesTrailer used bytes trailer.Never
part_past used n bytes sees some past more rest x =
    let first = first_line used (bytes ++ more) rest x in
    let len = length-take-le n bytes sees.0 in
    elim sees.1.is [
      | inl all ↦
          let front = front_of (take n bytes) more first.text first.behind sees.1.passes (ap (λ y. y ++ more) (sym all) ∙ first.reads) in
          let parts = ap length front.1 ∙ length-append (take n bytes) front.0 in
          let room = first.room (omega arith) in
          omega arith
      | inr cut ↦
          let same = ap length (return_text (take n bytes) more first.text first.behind bytes sees.1.passes first.passes cut first.reads) in
          let room = first.room (omega arith) in
          omega arith
    ]

-- what hasn't ended: no line end stands in it
part_none : (used : ℕ) (bytes text : List ℕ) → IsLinePart bytes text → HasNoTrailers used bytes
part_none used bytes text part rest x =
    let first = first_line used bytes rest x in
    elim part.is [
      | inl all ↦
          let front = front_of text [] first.text first.behind part.passes (append-nil text ∙ sym all ∙ first.reads) in
          let whole = ap length (sym all ∙ first.reads) ∙ length-append first.text (13 ∷ 10 ∷ first.behind) in
          let parts = ap length front.1 ∙ length-append text front.0 in
          omega arith
      | inr cut ↦
          let same = run_unique is_extension_byte text first.text (13 ∷ []) (13 ∷ 10 ∷ first.behind) part.passes first.passes refl refl
          (sym cut ∙ first.reads) in
          let tails = ap length same.1 in
          omega arith
    ]

-- and what ends it
no_lines : (used : ℕ) (bytes : List ℕ) → used ≤ trailer_limit → bytes ≡ 13 ∷ 10 ∷ [] → ReadsTrailers used bytes []
no_lines used bytes within e =
    record { lines = []; are_trailers = All-nil IsTrailer; within = omega arith; reads = e }

one_line : (used : ℕ) (bytes text : List ℕ) → IsTrailer text → used + length text + 2 ≤ trailer_limit
    → bytes ≡ text ++ 13 ∷ 10 ∷ 13 ∷ 10 ∷ [] → ReadsTrailers used bytes []
one_line used bytes text is within e =
    let parts = length-append (text ++ crlf_bytes) [] in
    let inner = length-append text crlf_bytes in
    record {
      lines = text ∷ [];
      are_trailers = All-cons IsTrailer text [] is (All-nil IsTrailer);
      within = omega arith;
      reads = e ∙ sym (behind_line text [] (13 ∷ 10 ∷ []));
    }

pub part_empty : (used : ℕ) (bytes : List ℕ) → used ≤ trailer_limit → SeesLine bytes (line.Part 0) → SeesTrailer used bytes trailer.Part
part_empty used bytes within sees = (
  part_none used bytes (take 0 bytes) sees.1,
  elim sees.1.is [
    | inl all ↦ record { more = 13 ∷ 10 ∷ []; reads = no_lines used (bytes ++ 13 ∷ 10 ∷ []) within (ap (λ x. x ++ 13 ∷ 10 ∷ []) all) }
    | inr cut ↦ record { more = 10 ∷ []; reads = no_lines used (bytes ++ 10 ∷ []) within (ap (λ x. x ++ 10 ∷ []) cut) }
  ],
)

pub part_trailer : (used n : ℕ) (bytes : List ℕ) → SeesLine bytes (line.Part n) → 0 < n → used + n + 2 ≤ trailer_limit
    → SeesTrailer used bytes trailer.Part
part_trailer used n bytes sees some within =
    let len = length-take-le n bytes sees.0 in
    let text = take n bytes in
    let is : IsTrailer text = record { some = omega arith; bytes = sees.1.passes } in (
      part_none used bytes text sees.1,
      elim sees.1.is [
        | inl all ↦ record {
          more = 13 ∷ 10 ∷ 13 ∷ 10 ∷ [];
          reads = one_line used (bytes ++ 13 ∷ 10 ∷ 13 ∷ 10 ∷ []) text is (omega arith) (ap (λ x. x ++ 13 ∷ 10 ∷ 13 ∷ 10 ∷ []) all);
        }
        | inr cut ↦ record {
          more = 10 ∷ 13 ∷ 10 ∷ [];
          reads = one_line used (bytes ++ 10 ∷ 13 ∷ 10 ∷ []) text is (omega arith)
              (ap (λ x. x ++ 10 ∷ 13 ∷ 10 ∷ []) cut ∙ append_assoc text (13 ∷ []) (10 ∷ 13 ∷ 10 ∷ []));
        }
      ],
    )

-- ---- one line more

trailer_on : (used : ℕ) (t x rest : List ℕ) → IsTrailer t → ReadsTrailers (used + length (print_trailer t)) x rest
    → ReadsTrailers used (print_trailer t ++ x) rest
trailer_on used t x rest is more =
    let parts = length-append (print_trailer t) (print_trailers more.lines) in
    let within = more.within in
    record {
      lines = t ∷ more.lines;
      are_trailers = All-cons IsTrailer t more.lines is more.are_trailers;
      within = omega arith;
      reads = ap (λ y. print_trailer t ++ y) more.reads ∙ sym (append_assoc (print_trailer t) (print_trailers more.lines) (13 ∷ 10 ∷ rest));
    }

trailer_back : (used : ℕ) (t x rest : List ℕ) (ts : List (List ℕ)) → IsTrailer t → All IsTrailer ts
    → used + length (print_trailers ts) ≤ trailer_limit → print_trailer t ++ x ≡ print_trailers ts ++ 13 ∷ 10 ∷ rest
    → ReadsTrailers (used + length (print_trailer t)) x rest
trailer_back used t x rest [] is all within e =
    absurd (no_trailer t (13 ∷ 10 ∷ x) (10 ∷ rest) is (sym e ∙ append_assoc t crlf_bytes x))
trailer_back used t x rest (u ∷ us) is all within e =
    let that = All-head IsTrailer u us all in
    let lines = sym (append_assoc t crlf_bytes x) ∙ e ∙ behind_line u (print_trailers us) (13 ∷ 10 ∷ rest) in
    let same = run_unique is_extension_byte t u (13 ∷ 10 ∷ x)
    (13 ∷ 10 ∷ (print_trailers us ++ 13 ∷ 10 ∷ rest)) is.bytes that.bytes refl refl lines in
    let long = ap (λ y. length (print_trailer y)) same.0 in
    let parts = length-append (print_trailer u) (print_trailers us) in
    record {
      lines = us;
      are_trailers = All-tail IsTrailer u us all;
      within = omega arith;
      reads = let behind = same.1 in cc;
    }

-- the bytes from a place on begin with a trailer line
next_bytes : (at len : ℕ) (bytes line more : List ℕ) → drop at bytes ≡ print_trailer line ++ drop len (drop at bytes)
    → drop at bytes ++ more ≡ print_trailer line ++ (drop (at + len) bytes ++ more)
next_bytes at len bytes line more e =
    ap (λ x. x ++ more) (e ∙ ap (λ x. print_trailer line ++ x) (drop-drop len at bytes))
    ∙ append_assoc (print_trailer line) (drop (at + len) bytes) more

pub same_more : (at len : ℕ) (bytes : List ℕ) → SameTrailers at bytes → ReadsTrailer at (drop at bytes) len → SameTrailers (at + len) bytes
same_more at len bytes same line = record {
  on = λ more rest x. same.on more rest (subst (λ y. ReadsTrailers at y rest) (sym (next_bytes at len bytes line.line more line.reads))
      (trailer_on at line.line (drop (at + len) bytes ++ more) rest line.is_trailer
      (subst (λ n. ReadsTrailers (at + n) (drop (at + len) bytes ++ more) rest) (sym line.long) x)));
  back = λ more rest x.
      let y = same.back more rest x in
      subst (λ n. ReadsTrailers (at + n) (drop (at + len) bytes ++ more) rest) line.long
      (trailer_back at line.line (drop (at + len) bytes ++ more) rest y.lines line.is_trailer y.are_trailers y.within
      (sym (next_bytes at len bytes line.line more line.reads) ∙ y.reads));
}

pub all_last : (at : ℕ) (bytes : List ℕ) → at ≤ trailer_limit → at ≤ length bytes → SameTrailers at bytes
    → SeesTrailer at (drop at bytes) trailer.Last → SeesTrailers bytes (Whole (at + 2))
all_last at bytes within inside same sees = (
  omega (arith, sees.0, length-drop at bytes),
  subst (λ x. ReadsTrailers 0 x (drop (at + 2) bytes)) (append-nil bytes) (same.on [] (drop (at + 2) bytes) (record {
    lines = [];
    are_trailers = All-nil IsTrailer;
    within = omega arith;
    reads = append-nil (drop at bytes) ∙ sees.1 ∙ ap (λ x. 13 ∷ 10 ∷ x) (drop-drop 2 at bytes);
  })),
)

pub all_part : (at : ℕ) (bytes : List ℕ) → SameTrailers at bytes → SeesTrailer at (drop at bytes) trailer.Part → SeesTrailers bytes Part
all_part at bytes same sees = (
  λ rest x. sees.0 rest (subst (λ y. ReadsTrailers at y rest) (append-nil (drop at bytes))
      (same.back [] rest (subst (λ y. ReadsTrailers 0 y rest) (sym (append-nil bytes)) x))),
  record { more = sees.1.more; reads = same.on sees.1.more [] sees.1.reads },
)

pub all_never : (at : ℕ) (bytes : List ℕ) → SameTrailers at bytes → SeesTrailer at (drop at bytes) trailer.Never → SeesTrailers bytes Never
all_never at bytes same sees more rest x = sees more rest (same.back more rest x)
