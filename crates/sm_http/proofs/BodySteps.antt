-- Steps from one place in a body to the next, and what bytes come to where a body ends or is refused.
use Rattle.std.proofs.Common.{◌≡◌, ℕ, ◌+◌, ◌<◌, ◌≤◌, List, [], ◌∷◌, ◌++◌, length, refl, sym, ap, subst, ◌∙◌, arith, append_assoc}
use Rattle.std.specs.Prelude.{All}
use Rattle.std.proofs.lemmas.List.{length-append}
use Rattle.std.proofs.lemmas.List.Elements.{All-head, All-tail, All-cons}
use Rattle.httparse.specs.Ascii.{crlf_bytes}
use Rattle.httparse.specs.Grammar.{ChunkLine, print_chunk_line, chunk_size}
use Rattle.httparse.proofs.ChunkLemmas.{chunk_line_unique}
use Rattle.sm_http.specs.declared.message.BodyLeft.{BodyLeft}
use Rattle.sm_http.specs.declared.message.BodyLeft.TheVariants.{Known, Size, Data}
use Rattle.sm_http.specs.declared.refusal.HttpRefusal.TheVariants.{ReadFault, Ended, HeadTooLarge, Coding, Length, TooLong, NoMemory}
use Rattle.sm_http.specs.declared.refusal.HttpRefusal.TheVariants.{Head as BadHead, Chunk as BadChunk}
use Rattle.sm_http.specs.Limits.{message_body_limit}
use Rattle.sm_http.specs.Chunks.{IsSizeLine, Chunk, print_chunk, IsChunk, ChunkedText, print_chunks, print_trailers, print_chunked}
use Rattle.sm_http.specs.Chunks.{IsChunkedText, chunks_data, PassesLimit}
use Rattle.sm_http.specs.Bodies.{HasBody, HasNoBody, IsPastLimit, BodyFraming, body, body_refused, BodyFramed, behind_data}
use Rattle.sm_http.specs.steps.Places.{Steps}
use Rattle.sm_http.proofs.OneChunked.{behind_line, behind_text}

-- ---- what a step carries

pub framed_on : (left next : BodyLeft) (used piece : List ℕ) → Steps left used piece next → (rest : List ℕ) (a : BodyFraming)
    → BodyFramed next rest a → BodyFramed left (used ++ rest) (behind_data piece a)
framed_on left next used piece s rest (body content behind) x = (s.on rest content behind x.0, λ p. x.1 (s.past_back rest p))
framed_on left next used piece s rest (body_refused TooLong) x = s.past_on rest x
framed_on left next used piece s rest (body_refused BadChunk) x = (
  λ more content behind y.
      s.back (rest ++ more) content behind (subst (λ b. HasBody left b content behind) (append_assoc used rest more) y) (x.0 more),
  λ p. x.1 (s.past_back rest p),
)
framed_on left next used piece s rest (body_refused Ended) x = (
  λ content behind y. s.back rest content behind y x.0,
  λ never. x.1 (λ more content behind y.
      never more (piece ++ content) behind (subst (λ b. HasBody left b (piece ++ content) behind) (sym (append_assoc used rest more))
      (s.on (rest ++ more) content behind y))),
  λ p. x.2 (s.past_back rest p),
)
framed_on left next used piece s rest (body_refused ReadFault) x = x
framed_on left next used piece s rest (body_refused BadHead) x = x
framed_on left next used piece s rest (body_refused HeadTooLarge) x = x
framed_on left next used piece s rest (body_refused Coding) x = x
framed_on left next used piece s rest (body_refused Length) x = x
framed_on left next used piece s rest (body_refused NoMemory) x = x

-- ---- data

-- of two cuts of one list, the longer prefix begins with the shorter
long_cut : (p r t b : List ℕ) → p ++ r ≡ t ++ b → length p ≤ length t → (w : List ℕ) × (t ≡ p ++ w) × (r ≡ w ++ b)
long_cut [] r t b e le = (t, refl, e)
long_cut (x ∷ p) r [] b e le = absurd (omega arith)
long_cut (x ∷ p) r (y ∷ t) b e le =
    let rest = long_cut p r t b (cc) (omega arith) in (rest.0, let tails = rest.1 in cc, rest.2)

pub known_step : (k : ℕ) (piece : List ℕ) → Steps (Known (length piece + k)) piece piece (Known k)
known_step k piece = record {
  on = λ rest content behind x. (
    piece ++ x.0,
    (length-append piece x.0 ∙ ap (λ n. length piece + n) x.1.0, ap (λ c. piece ++ c) x.1.1),
    ap (λ r. piece ++ r) x.2 ∙ sym (append_assoc piece x.0 behind),
  );
  back = λ rest content behind x none.
      let cut = long_cut piece rest x.0 behind x.2 (omega (arith, x.1.0)) in
      let parts = ap length cut.1 ∙ length-append piece cut.0 in
      none cut.0 behind (cut.0, (omega (arith, x.1.0), refl), cut.2);
  past_on = λ rest p. p;
  past_back = λ rest p. p;
}

pub data_step : (k total : ℕ) (piece : List ℕ) → Steps (Data (length piece + k) total) piece piece (Data k total)
data_step k total piece = record {
  on = λ rest content behind x.
      let inner = x.1.0 in
      let text = x.1.1 in (
        piece ++ x.0,
        (
          piece ++ inner,
          text,
          length-append piece inner ∙ ap (λ n. length piece + n) x.1.2,
          x.1.3,
          ap (λ b. piece ++ b) x.1.4 ∙ sym (append_assoc piece (inner ++ crlf_bytes) (print_chunked text))
              ∙ ap (λ b. b ++ print_chunked text) (sym (append_assoc piece inner crlf_bytes)),
          ap (λ c. piece ++ c) x.1.5 ∙ sym (append_assoc piece inner (chunks_data text.chunks)),
        ),
        ap (λ r. piece ++ r) x.2 ∙ sym (append_assoc piece x.0 behind),
      );
  back = λ rest content behind x none.
      let text = x.1.1 in
      let whole = x.2 ∙ ap (λ b. b ++ behind) x.1.4 ∙ behind_line x.1.0 (print_chunked text) behind in
      let cut = long_cut piece rest x.1.0 (13 ∷ 10 ∷ (print_chunked text ++ behind)) whole (omega (arith, x.1.2)) in
      let parts = ap length cut.1 ∙ length-append piece cut.0 in
      none (cut.0 ++ chunks_data text.chunks) behind (
        cut.0 ++ crlf_bytes ++ print_chunked text,
        (cut.0, text, omega (arith, x.1.2), x.1.3, refl, refl),
        cut.2 ∙ sym (behind_line cut.0 (print_chunked text) behind),
      );
  past_on = λ rest p. (
    piece ++ p.0,
    p.1,
    length-append piece p.0 ∙ ap (λ n. length piece + n) p.2,
    ap (λ b. piece ++ b) p.3 ∙ sym (append_assoc piece (p.0 ++ crlf_bytes) p.1)
        ∙ ap (λ b. b ++ p.1) (sym (append_assoc piece p.0 crlf_bytes)),
    p.4,
  );
  past_back = λ rest p.
      let whole = p.3 ∙ append_assoc p.0 crlf_bytes p.1 in
      let cut = long_cut piece rest p.0 (13 ∷ 10 ∷ p.1) whole (omega (arith, p.2)) in
      let parts = ap length cut.1 ∙ length-append piece cut.0 in
      (cut.0, p.1, omega (arith, p.2), cut.2 ∙ sym (append_assoc cut.0 crlf_bytes p.1), p.4);
}

-- ---- the line end of a chunk

nil_of : (bytes : List ℕ) → length bytes ≡ 0 → bytes ≡ []
nil_of [] e = refl
nil_of (b ∷ bytes) e = absurd (omega arith)

-- a chunk of which no data is left goes on with its line end
pub end_begins : (total : ℕ) (bytes content behind : List ℕ) → HasBody (Data 0 total) bytes content behind
    → (t : ChunkedText) × IsChunkedText t × (bytes ≡ 13 ∷ 10 ∷ (print_chunked t ++ behind))
end_begins total bytes content behind x =
    let none = nil_of x.1.0 x.1.2 in (
      x.1.1,
      x.1.3,
      x.2 ∙ ap (λ b. b ++ behind) x.1.4 ∙ behind_line x.1.0 (print_chunked x.1.1) behind
          ∙ ap (λ d. d ++ 13 ∷ 10 ∷ (print_chunked x.1.1 ++ behind)) none,
    )

pub past_begins : (total : ℕ) (bytes : List ℕ) → IsPastLimit (Data 0 total) bytes
    → (rest : List ℕ) × (bytes ≡ 13 ∷ 10 ∷ rest) × PassesLimit total rest
past_begins total bytes p =
    (p.1, p.3 ∙ append_assoc p.0 crlf_bytes p.1 ∙ ap (λ d. d ++ 13 ∷ 10 ∷ p.1) (nil_of p.0 p.2), p.4)

pub end_step : (total : ℕ) → Steps (Data 0 total) (13 ∷ 10 ∷ []) [] (Size total)
end_step total = record {
  on = λ rest content behind x. (
    13 ∷ 10 ∷ x.0,
    ([], x.1.0, refl, x.1.1, ap (λ b. 13 ∷ 10 ∷ b) x.1.2, x.1.3),
    ap (λ b. 13 ∷ 10 ∷ b) x.2,
  );
  back = λ rest content behind x none.
      let y = end_begins total (13 ∷ 10 ∷ rest) content behind x in
      none (chunks_data y.0.chunks) behind (print_chunked y.0, (y.0, y.1, refl, refl), let whole = y.2 in cc);
  past_on = λ rest p. ([], rest, refl, refl, p);
  past_back = λ rest p.
      let y = past_begins total (13 ∷ 10 ∷ rest) p in
      subst (PassesLimit total) (let whole = y.1 in cc) y.2;
}

-- ---- a size line

-- a chunk before others, as it is printed
chunk_front : (a cs last tr z : List ℕ) → ((a ++ cs) ++ last ++ tr) ++ z ≡ a ++ (cs ++ last ++ tr ++ z)
chunk_front a cs last tr z =
    ap (λ y. (y ++ tr) ++ z) (append_assoc a cs last) ∙ ap (λ y. y ++ z) (append_assoc a (cs ++ last) tr)
    ∙ append_assoc a ((cs ++ last) ++ tr) z

text_front : (pl d p : List ℕ) → (pl ++ d ++ crlf_bytes) ++ p ≡ pl ++ (d ++ crlf_bytes ++ p)
text_front pl d p = ap (λ y. y ++ p) (append_assoc pl d crlf_bytes) ∙ append_assoc pl (d ++ crlf_bytes) p

-- a text with one chunk more
abbrev with_chunk : Chunk → ChunkedText → ChunkedText
with_chunk c t = record { chunks = c ∷ t.chunks; last = t.last; trailers = t.trailers }

printed_with : (c : Chunk) (t : ChunkedText)
    → print_chunked (with_chunk c t) ≡ print_chunk_line c.line ++ (c.content ++ crlf_bytes ++ print_chunked t)
printed_with c t =
    chunk_front (print_chunk c) (print_chunks t.chunks) (print_chunk_line t.last) (print_trailers t.trailers) crlf_bytes
    ∙ text_front (print_chunk_line c.line) c.content (print_chunked t)

is_with : (c : Chunk) (t : ChunkedText) → IsChunk c → IsChunkedText t → IsChunkedText (with_chunk c t)
is_with c t one rest = record {
  chunks = All-cons IsChunk c t.chunks one rest.chunks;
  last = rest.last;
  zero = rest.zero;
  trailers = rest.trailers;
  short = rest.short;
}

pub size_on : (sum n total : ℕ) (l : ChunkLine) → IsSizeLine l → chunk_size l ≡ n → 0 < n → (rest content behind : List ℕ)
    → HasBody (Data n total) rest content behind → HasBody (Size sum) (print_chunk_line l ++ rest) content behind
size_on sum n total l line size some rest content behind x =
    let chunk : Chunk = record { line = l; content = x.1.0 } in
    let one : IsChunk chunk = record { line = line; some = omega (arith, x.1.2); size = x.1.2 ∙ sym size } in (
      print_chunk_line l ++ x.0,
      (
        with_chunk chunk x.1.1,
        is_with chunk x.1.1 one x.1.3,
        ap (λ b. print_chunk_line l ++ b) x.1.4 ∙ sym (printed_with chunk x.1.1),
        x.1.5,
      ),
      ap (λ b. print_chunk_line l ++ b) x.2 ∙ sym (append_assoc (print_chunk_line l) x.0 behind),
    )

-- bytes that begin with a size line, as the chunks of a text
size_back : (n total : ℕ) (l : ChunkLine) (rest behind : List ℕ) (cs : List Chunk) (last : ChunkLine) (ts : List (List ℕ)) → IsSizeLine l
    → chunk_size l ≡ n → 0 < n → IsChunkedText (record { chunks = cs; last = last; trailers = ts })
    → print_chunk_line l ++ rest ≡ print_chunked (record { chunks = cs; last = last; trailers = ts }) ++ behind
    → HasNoBody (Data n total) rest → ⊥
size_back n total l rest behind [] last ts line size some is e none =
    let both = e ∙ behind_text [] (print_chunk_line last) (print_trailers ts) behind in
    let same = chunk_line_unique _ l last rest _ (line.form, refl) (is.last.form, both) in
    let zero_size : n ≡ 0 = sym size ∙ ap chunk_size same.0 ∙ is.zero in
    omega arith
size_back n total l rest behind (c ∷ cs) last ts line size some is e none =
    let inner : ChunkedText = record { chunks = cs; last = last; trailers = ts } in
    let this = All-head IsChunk c cs is.chunks in
    let both = e ∙ ap (λ b. b ++ behind) (printed_with c inner)
    ∙ append_assoc (print_chunk_line c.line) (c.content ++ crlf_bytes ++ print_chunked inner) behind in
    let same = chunk_line_unique _ l c.line rest _ (line.form, refl) (this.line.form, both) in
    let long : length c.content ≡ n = this.size ∙ ap chunk_size (sym same.0) ∙ size in
    none (c.content ++ chunks_data cs) behind (
      c.content ++ crlf_bytes ++ print_chunked inner,
      (
        c.content,
        inner,
        long,
        record { chunks = All-tail IsChunk c cs is.chunks; last = is.last; zero = is.zero; trailers = is.trailers; short = is.short },
        refl,
        refl,
      ),
      let behind_both = same.1 in cc,
    )

size_past_on : (sum n : ℕ) (l : ChunkLine) (rest : List ℕ) → IsSizeLine l → chunk_size l ≡ n → 0 < n
    → IsPastLimit (Data n (sum + n)) rest → PassesLimit sum (print_chunk_line l ++ rest)
size_past_on sum n l rest line size some p =
    let chunk : Chunk = record { line = l; content = p.0 } in
    let inner = p.4 in
    let one : IsChunk chunk = record { line = line; some = omega (arith, p.2); size = p.2 ∙ sym size } in
    let parts = length-append p.0 (chunks_data inner.chunks) in
    let past = inner.past in
    record {
      chunks = chunk ∷ inner.chunks;
      line = inner.line;
      rest = inner.rest;
      are_chunks = All-cons IsChunk chunk inner.chunks one inner.are_chunks;
      is_line = inner.is_line;
      reads = ap (λ b. print_chunk_line l ++ b) (p.3 ∙ ap (λ b. (p.0 ++ crlf_bytes) ++ b) inner.reads)
          ∙ sym (text_front (print_chunk_line l) p.0 (print_chunks inner.chunks ++ print_chunk_line inner.line ++ inner.rest))
          ∙ sym (append_assoc (print_chunk chunk) (print_chunks inner.chunks ++ print_chunk_line inner.line) inner.rest)
          ∙ ap (λ b. b ++ inner.rest) (sym (append_assoc (print_chunk chunk) (print_chunks inner.chunks) (print_chunk_line inner.line)));
      past = omega (arith, p.2);
    }

size_past_back : (sum n : ℕ) (l : ChunkLine) (rest : List ℕ) (cs : List Chunk) (k : ChunkLine) (r : List ℕ) → IsSizeLine l
    → chunk_size l ≡ n
    → sum + n ≤ message_body_limit → All IsChunk cs → IsSizeLine k → print_chunk_line l ++ rest ≡ print_chunks cs ++ print_chunk_line k ++ r
    → message_body_limit < sum + length (chunks_data cs) + chunk_size k → IsPastLimit (Data n (sum + n)) rest
size_past_back sum n l rest [] k r line size within all is e past =
    let same = chunk_line_unique _ l k rest r (line.form, refl) (is.form, e) in
    let long : chunk_size k ≡ n = ap chunk_size (sym same.0) ∙ size in
    absurd (omega arith)
size_past_back sum n l rest (c ∷ cs) k r line size within all is e past =
    let this = All-head IsChunk c cs all in
    let inner = print_chunks cs ++ print_chunk_line k ++ r in
    let both = e ∙ ap (λ b. b ++ r) (append_assoc (print_chunk c) (print_chunks cs) (print_chunk_line k))
    ∙ append_assoc (print_chunk c) (print_chunks cs ++ print_chunk_line k) r ∙ text_front (print_chunk_line c.line) c.content inner in
    let same = chunk_line_unique _ l c.line rest _ (line.form, refl) (this.line.form, both) in
    let long : length c.content ≡ n = this.size ∙ ap chunk_size (sym same.0) ∙ size in
    let parts = length-append c.content (chunks_data cs) in (
      c.content,
      inner,
      long,
      let behind_both = same.1 in cc,
      record { chunks = cs; line = k; rest = r; are_chunks = All-tail IsChunk c cs all; is_line = is; reads = refl; past = omega arith },
    )

pub size_step : (sum n : ℕ) (l : ChunkLine) → IsSizeLine l → chunk_size l ≡ n → 0 < n → sum + n ≤ message_body_limit
    → Steps (Size sum) (print_chunk_line l) [] (Data n (sum + n))
size_step sum n l line size some within = record {
  on = size_on sum n (sum + n) l line size some;
  back = λ rest content behind x none.
      let t = x.1.0 in
      size_back n (sum + n) l rest behind t.chunks t.last t.trailers line size some x.1.1 (x.2 ∙ ap (λ b. b ++ behind) x.1.2) none;
  past_on = λ rest p. size_past_on sum n l rest line size some p;
  past_back = λ rest p. size_past_back sum n l rest p.chunks p.line p.rest line size within p.are_chunks p.is_line p.reads p.past;
}
