-- Where a body ends: the last line and the trailers; and where it is refused, or the bytes end.
use Rattle.std.proofs.Common.{◌≡◌, ℕ, zero, suc, ◌+◌, ◌<◌, ◌≤◌, List, [], ◌∷◌, ◌++◌, length, replicate, refl, sym, ap, subst, ◌∙◌, arith}
use Rattle.std.proofs.Common.{append_assoc, append-nil}
use Rattle.std.specs.Prelude.{All}
use Rattle.std.proofs.lemmas.List.{length-replicate}
use Rattle.std.proofs.lemmas.List.Elements.{All-head, All-nil}
use Rattle.httparse.specs.Ascii.{crlf_bytes}
use Rattle.httparse.specs.Grammar.{ChunkLine, print_chunk_line, chunk_size}
use Rattle.httparse.proofs.ChunkLemmas.{chunk_line_unique}
use Rattle.sm_http.specs.declared.message.BodyLeft.{BodyLeft}
use Rattle.sm_http.specs.declared.message.BodyLeft.TheVariants.{Known, Size, Data, Done}
use Rattle.sm_http.specs.declared.refusal.HttpRefusal.TheVariants.{Ended, TooLong}
use Rattle.sm_http.specs.declared.refusal.HttpRefusal.TheVariants.{Chunk as BadChunk}
use Rattle.sm_http.specs.Limits.{message_body_limit}
use Rattle.sm_http.specs.Chunks.{IsSizeLine, Chunk, IsChunk, IsTrailer, ChunkedText, print_chunks, print_trailers, print_chunked}
use Rattle.sm_http.specs.Chunks.{IsChunkedText, chunks_data, PassesLimit}
use Rattle.sm_http.specs.Bodies.{HasBody, NeverHasBody, body_refused, BodyFramed}
use Rattle.sm_http.specs.steps.SizeLines.{HasNoSize, NeverHasSize, MayBecomeSize}
use Rattle.sm_http.specs.steps.Trailers.{ReadsTrailers, HasNoTrailers, NeverHasTrailers, MayBecomeTrailers}
use Rattle.sm_http.specs.steps.Places.{Steps}
use Rattle.sm_http.proofs.Cuts.{left_empty, right_empty}
use Rattle.sm_http.proofs.OneChunked.{behind_line, behind_chunk, behind_text, no_chunk}
use Rattle.sm_http.proofs.SizesSeen.{zero_line}
use Rattle.sm_http.proofs.BodySteps.{end_begins, past_begins, size_on}

-- ---- some text, so some body

abbrev least_text : ChunkedText
least_text = record { chunks = []; last = zero_line.line; trailers = [] }

least_is : IsChunkedText least_text
least_is = record {
  chunks = All-nil IsChunk;
  last = zero_line.is_line;
  zero = ap chunk_size_of zero_line.digits;
  trailers = All-nil IsTrailer;
  short = omega arith;
}
  where
    chunk_size_of : List ℕ → ℕ
    chunk_size_of ds = chunk_size (record { digits = ds; pad = []; extension = zero_line.line.extension })

-- from each place some bytes end the body
pub some_body : (left : BodyLeft) → NeverHasBody left [] → ⊥
some_body (Known count) never =
    let bytes = replicate count 0 in
    never bytes bytes [] (bytes, (length-replicate count 0, refl), sym (append-nil bytes))
some_body (Size sum) never =
    let bytes = print_chunked least_text in
    never bytes [] [] (bytes, (least_text, least_is, refl, refl), sym (append-nil bytes))
some_body (Data left total) never =
    let content = replicate left 0 in
    let bytes = content ++ crlf_bytes ++ print_chunked least_text in
    never bytes (content ++ []) [] (bytes, (content, least_text, length-replicate left 0, least_is, refl, refl), sym (append-nil bytes))
some_body Done never = never [] [] [] ([], (refl, refl), refl)

-- ---- the end of a known body

pub known_end : Steps (Known 0) [] [] Done
known_end = record {
  on = λ rest content behind x. ([], (refl, x.1.0), x.2 ∙ ap (λ b. b ++ behind) x.1.1);
  back = λ rest content behind x none. none [] rest ([], (refl, refl), refl);
  past_on = λ rest p. p;
  past_back = λ rest p. p;
}

-- ---- the bytes end where data must come

pub known_open : (k : ℕ) → 0 < k → BodyFramed (Known k) [] (body_refused Ended)
known_open k some = (
  λ content behind x. let none = ap length (left_empty x.0 behind x.2) in omega (arith, x.1.0),
  some_body (Known k),
  λ p. p,
)

no_line_end : (r : List ℕ) → [] ≡ 13 ∷ 10 ∷ r → ⊥
no_line_end r e = cc

pub data_open : (k total : ℕ) → BodyFramed (Data k total) [] (body_refused Ended)
data_open k total = (
  λ content behind x.
      no_line_end (print_chunked x.1.1 ++ behind) (right_empty x.1.0 (13 ∷ 10 ∷ (print_chunked x.1.1 ++ behind))
      (x.2 ∙ ap (λ b. b ++ behind) x.1.4 ∙ behind_line x.1.0 (print_chunked x.1.1) behind)),
  some_body (Data k total),
  λ p. no_line_end p.1 (right_empty p.0 (13 ∷ 10 ∷ p.1) (p.3 ∙ append_assoc p.0 crlf_bytes p.1)),
)

-- ---- the line end of a chunk

pub end_refused : (total : ℕ) (bytes : List ℕ) → ((more rest : List ℕ) → bytes ++ more ≡ 13 ∷ 10 ∷ rest → ⊥)
    → BodyFramed (Data 0 total) bytes (body_refused BadChunk)
end_refused total bytes other = (
  λ more content behind x.
      let y = end_begins total (bytes ++ more) content behind x in other more (print_chunked y.0 ++ behind) y.2,
  λ p. let y = past_begins total bytes p in other [] y.0 (append-nil bytes ∙ y.1),
)

one_return : (r : List ℕ) → 13 ∷ [] ≡ 13 ∷ 10 ∷ r → ⊥
one_return r e = cc

pub end_open : (total : ℕ) → BodyFramed (Data 0 total) (13 ∷ []) (body_refused Ended)
end_open total = (
  λ content behind x.
      let y = end_begins total (13 ∷ []) content behind x in one_return (print_chunked y.0 ++ behind) y.2,
  λ never. some_body (Size total) (λ more content behind x.
      never (10 ∷ more) content behind (
        13 ∷ 10 ∷ x.0,
        ([], x.1.0, refl, x.1.1, ap (λ b. 13 ∷ 10 ∷ b) x.1.2, x.1.3),
        ap
            (λ b. 13 ∷ 10 ∷ b) x.2,
      )),
  λ p. let y = past_begins total (13 ∷ []) p in one_return y.0 y.1,
)

-- ---- size lines

-- a text of chunks begins with a size line, and so do bytes past the limit
text_begins : (cs : List Chunk) (last : ChunkLine) (ts : List (List ℕ)) (bytes behind : List ℕ)
    → IsChunkedText (record { chunks = cs; last = last; trailers = ts })
    → bytes ≡ print_chunked (record { chunks = cs; last = last; trailers = ts }) ++ behind → HasNoSize bytes → ⊥
text_begins [] last ts bytes behind is e none =
    none last (print_trailers ts ++ 13 ∷ 10 ∷ behind) is.last (e ∙ behind_text [] (print_chunk_line last) (print_trailers ts) behind)
text_begins (c ∷ cs) last ts bytes behind is e none =
    let this = All-head IsChunk c cs is.chunks in
    none c.line (c.content ++ 13 ∷ 10 ∷ (print_chunks cs ++ (print_chunk_line last ++ (print_trailers ts ++ 13 ∷ 10 ∷ behind)))) this.line
    (e ∙ behind_text (print_chunks (c ∷ cs)) (print_chunk_line last) (print_trailers ts) behind
    ∙ behind_chunk (print_chunk_line c.line) c.content (print_chunks cs) (print_chunk_line last ++ (print_trailers ts ++ 13 ∷ 10 ∷ behind)))

chunks_begin : (cs : List Chunk) (l : ChunkLine) (bytes r : List ℕ) → All IsChunk cs → IsSizeLine l
    → bytes ≡ print_chunks cs ++ print_chunk_line l ++ r → HasNoSize bytes → ⊥
chunks_begin [] l bytes r all is e none = none l r is e
chunks_begin (c ∷ cs) l bytes r all is e none =
    let this = All-head IsChunk c cs all in
    none c.line (c.content ++ 13 ∷ 10 ∷ (print_chunks cs ++ (print_chunk_line l ++ r))) this.line
    (e ∙ append_assoc (print_chunks (c ∷ cs)) (print_chunk_line l) r
    ∙ behind_chunk (print_chunk_line c.line) c.content (print_chunks cs) (print_chunk_line l ++ r))

body_begins : (sum : ℕ) (bytes content behind : List ℕ) → HasBody (Size sum) bytes content behind → HasNoSize bytes → ⊥
body_begins sum bytes content behind x none =
    let t = x.1.0 in text_begins t.chunks t.last t.trailers bytes behind x.1.1 (x.2 ∙ ap (λ b. b ++ behind) x.1.2) none

past_size : (sum : ℕ) (bytes : List ℕ) → PassesLimit sum bytes → HasNoSize bytes → ⊥
past_size sum bytes p none = chunks_begin p.chunks p.line bytes p.rest p.are_chunks p.is_line p.reads none

pub size_refused : (sum : ℕ) (bytes : List ℕ) → NeverHasSize bytes → BodyFramed (Size sum) bytes (body_refused BadChunk)
size_refused sum bytes never = (
  λ more content behind x. body_begins sum (bytes ++ more) content behind x (never more),
  λ p. past_size sum bytes p (subst HasNoSize (append-nil bytes) (never [])),
)

pub too_long : (sum : ℕ) (l : ChunkLine) (bytes rest : List ℕ) → IsSizeLine l → bytes ≡ print_chunk_line l ++ rest
    → message_body_limit < sum + chunk_size l → BodyFramed (Size sum) bytes (body_refused TooLong)
too_long sum l bytes rest line e past = record {
  chunks = [];
  line = l;
  rest = rest;
  are_chunks = All-nil IsChunk;
  is_line = line;
  reads = e;
  past = omega arith;
}

-- ---- the last line and the trailers

pub last_on : (sum : ℕ) (l : ChunkLine) (bytes behind : List ℕ) → IsSizeLine l → chunk_size l ≡ 0 → ReadsTrailers 0 bytes behind
    → HasBody (Size sum) (print_chunk_line l ++ bytes) [] behind
last_on sum l bytes behind line none x =
    let text : ChunkedText = record { chunks = []; last = l; trailers = x.lines } in (
      print_chunked text,
      (
        text,
        record { chunks = All-nil IsChunk; last = line; zero = none; trailers = x.are_trailers; short = omega (arith, x.within) },
        refl,
        refl,
      ),
      ap (λ b. print_chunk_line l ++ b) x.reads ∙ sym (behind_text [] (print_chunk_line l) (print_trailers x.lines) behind),
    )

last_back : (l : ChunkLine) (bytes behind : List ℕ) (cs : List Chunk) (last : ChunkLine) (ts : List (List ℕ)) → IsSizeLine l
    → chunk_size l ≡ 0 → IsChunkedText (record { chunks = cs; last = last; trailers = ts })
    → print_chunk_line l ++ bytes ≡ print_chunked (record { chunks = cs; last = last; trailers = ts }) ++ behind
    → ReadsTrailers 0 bytes behind
last_back l bytes behind [] last ts line none is e =
    let both = e ∙ behind_text [] (print_chunk_line last) (print_trailers ts) behind in
    let same = chunk_line_unique _ l last bytes _ (line.form, refl) (is.last.form, both) in
    record { lines = ts; are_trailers = is.trailers; within = omega (arith, is.short); reads = let tails = same.1 in cc }
last_back l bytes behind (c ∷ cs) last ts line none is e =
    let inner = print_chunk_line last ++ (print_trailers ts ++ 13 ∷ 10 ∷ behind) in
    absurd (no_chunk l c bytes (c.content ++ 13 ∷ 10 ∷ (print_chunks cs ++ inner)) line (All-head IsChunk c cs is.chunks) none
    (e ∙ behind_text (print_chunks (c ∷ cs)) (print_chunk_line last) (print_trailers ts) behind
    ∙ behind_chunk (print_chunk_line c.line) c.content (print_chunks cs) inner))

body_last : (sum : ℕ) (l : ChunkLine) (bytes content behind : List ℕ) → IsSizeLine l → chunk_size l ≡ 0
    → HasBody (Size sum) (print_chunk_line l ++ bytes) content behind → ReadsTrailers 0 bytes behind
body_last sum l bytes content behind line none x =
    let t = x.1.0 in last_back l bytes behind t.chunks t.last t.trailers line none x.1.1 (x.2 ∙ ap (λ b. b ++ behind) x.1.2)

last_within : (sum : ℕ) (l : ChunkLine) (bytes : List ℕ) (cs : List Chunk) (k : ChunkLine) (r : List ℕ) → IsSizeLine l → chunk_size l ≡ 0
    → sum ≤ message_body_limit → All IsChunk cs → IsSizeLine k → print_chunk_line l ++ bytes ≡ print_chunks cs ++ print_chunk_line k ++ r
    → message_body_limit < sum + length (chunks_data cs) + chunk_size k → ⊥
last_within sum l bytes [] k r line none within all is e past =
    let same = chunk_line_unique _ l k bytes r (line.form, refl) (is.form, e) in
    let size : chunk_size k ≡ 0 = ap chunk_size (sym same.0) ∙ none in
    omega arith
last_within sum l bytes (c ∷ cs) k r line none within all is e past =
    no_chunk l c bytes (c.content ++ 13 ∷ 10 ∷ (print_chunks cs ++ (print_chunk_line k ++ r))) line (All-head IsChunk c cs all) none
    (e ∙ append_assoc (print_chunks (c ∷ cs)) (print_chunk_line k) r
    ∙ behind_chunk (print_chunk_line c.line) c.content (print_chunks cs) (print_chunk_line k ++ r))

last_not_past : (sum : ℕ) (l : ChunkLine) (bytes : List ℕ) → IsSizeLine l → chunk_size l ≡ 0 → sum ≤ message_body_limit
    → PassesLimit sum (print_chunk_line l ++ bytes) → ⊥
last_not_past sum l bytes line none within p =
    last_within sum l bytes p.chunks p.line p.rest line none within p.are_chunks p.is_line p.reads p.past

-- the last line, with its trailers
pub last_step : (sum : ℕ) (l : ChunkLine) (bytes : List ℕ) → IsSizeLine l → chunk_size l ≡ 0 → sum ≤ message_body_limit
    → ReadsTrailers 0 bytes [] → Steps (Size sum) (print_chunk_line l ++ bytes) [] Done
last_step sum l bytes line none within x =
    let followed : (rest : List ℕ) → HasBody (Size sum) ((print_chunk_line l ++ bytes) ++ rest) [] rest =
    λ rest. subst (λ b. HasBody (Size sum) b [] rest) (sym (append_assoc (print_chunk_line l) bytes rest))
    (last_on sum l (bytes ++ rest) rest line none (record {
      lines = x.lines;
      are_trailers = x.are_trailers;
      within = x.within;
      reads = ap (λ b. b ++ rest) x.reads ∙ append_assoc (print_trailers x.lines) (13 ∷ 10 ∷ []) rest;
    })) in
    record {
      on = λ rest content behind y.
          let same : rest ≡ behind = y.2 ∙ ap (λ b. b ++ behind) y.1.1 in
          subst (λ c. HasBody (Size sum) ((print_chunk_line l ++ bytes) ++ rest) c behind) (sym y.1.0)
          (subst (λ r. HasBody (Size sum) ((print_chunk_line l ++ bytes) ++ rest) [] r) same (followed rest));
      back = λ rest content behind y none_left. none_left [] rest ([], (refl, refl), refl);
      past_on = λ rest p. absurd p;
      past_back = λ rest p.
          last_not_past sum l (bytes ++ rest) line none within (subst (PassesLimit sum) (append_assoc (print_chunk_line l) bytes rest) p);
    }

pub last_refused : (sum : ℕ) (l : ChunkLine) (bytes : List ℕ) → IsSizeLine l → chunk_size l ≡ 0 → sum ≤ message_body_limit
    → NeverHasTrailers 0 bytes → BodyFramed (Size sum) (print_chunk_line l ++ bytes) (body_refused BadChunk)
last_refused sum l bytes line none within never = (
  λ more content behind x. never more behind (body_last sum l (bytes ++ more) content behind line none
      (subst (λ b. HasBody (Size sum) b content behind) (append_assoc (print_chunk_line l) bytes more) x)),
  last_not_past sum l bytes line none within,
)

pub last_open : (sum : ℕ) (l : ChunkLine) (bytes : List ℕ) → IsSizeLine l → chunk_size l ≡ 0 → sum ≤ message_body_limit
    → HasNoTrailers 0 bytes → MayBecomeTrailers 0 bytes → BodyFramed (Size sum) (print_chunk_line l ++ bytes) (body_refused Ended)
last_open sum l bytes line none within lacks may = (
  λ content behind x. lacks behind (body_last sum l bytes content behind line none x),
  λ never. never may.more [] [] (subst (λ b. HasBody (Size sum) b [] []) (sym (append_assoc (print_chunk_line l) bytes may.more))
      (last_on sum l (bytes ++ may.more) [] line none may.reads)),
  last_not_past sum l bytes line none within,
)

-- ---- the bytes end inside a size line

no_lines : ReadsTrailers 0 (13 ∷ 10 ∷ []) []
no_lines = record { lines = []; are_trailers = All-nil IsTrailer; within = omega arith; reads = refl }

-- behind a size line some bytes end the body
size_goes_on : (sum n : ℕ) (l : ChunkLine) → IsSizeLine l → chunk_size l ≡ n → NeverHasBody (Size sum) (print_chunk_line l) → ⊥
size_goes_on sum zero l line size never =
    never (13 ∷ 10 ∷ []) [] [] (last_on sum l (13 ∷ 10 ∷ []) [] line size no_lines)
size_goes_on sum (suc n) l line size never =
    some_body (Data (suc n) 0) (λ more content behind x.
    never more content behind (size_on sum (suc n) 0 l line size (omega arith) more content behind x))

pub size_open : (sum : ℕ) (bytes : List ℕ) → HasNoSize bytes → MayBecomeSize bytes → BodyFramed (Size sum) bytes (body_refused Ended)
size_open sum bytes lacks may = (
  λ content behind x. body_begins sum bytes content behind x lacks,
  λ never. size_goes_on sum (chunk_size may.line) may.line may.is_line refl (λ more content behind x.
      never (may.more ++ more) content behind (subst (λ b. HasBody (Size sum) b content behind)
      (ap (λ b. b ++ more) (sym may.reads) ∙ append_assoc bytes may.more more) x)),
  λ p. past_size sum bytes p lacks,
)
