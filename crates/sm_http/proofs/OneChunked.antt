-- Bytes begin with at most one chunked text.
use Rattle.std.proofs.Common.{◌≡◌, ℕ, ◌<◌, true, List, [], ◌∷◌, ◌++◌, length, refl, sym, ap, ◌∙◌, subst, arith, append_assoc}
use Rattle.std.proofs.Common.{true≢false}
use Rattle.std.specs.Prelude.{All}
use Rattle.std.proofs.lemmas.List.Elements.{All-head, All-tail}
use Rattle.httparse.specs.Ascii.{crlf_bytes}
use Rattle.httparse.specs.Grammar.{is_extension_byte, ChunkLine, print_chunk_line, chunk_size}
use Rattle.httparse.proofs.ChunkLemmas.{chunk_line_unique}
use Rattle.httparse.proofs.RunLemmas.{run_unique}
use Rattle.sm_http.specs.Chunks.{IsSizeLine, Chunk, IsChunk, IsTrailer, ChunkedText, print_chunks, print_trailers, print_chunked}
use Rattle.sm_http.specs.Chunks.{IsChunkedText, chunks_data}
use Rattle.sm_http.proofs.Cuts.{same_cut}

-- ---- how printed parts stand one behind the other

pub behind_line : (u f r : List ℕ) → ((u ++ crlf_bytes) ++ f) ++ r ≡ u ++ 13 ∷ 10 ∷ (f ++ r)
behind_line u f r = append_assoc (u ++ crlf_bytes) f r ∙ append_assoc u crlf_bytes (f ++ r)

pub behind_chunk : (l d f r : List ℕ) → ((l ++ d ++ crlf_bytes) ++ f) ++ r ≡ l ++ (d ++ 13 ∷ 10 ∷ (f ++ r))
behind_chunk l d f r = behind_line (l ++ d) f r ∙ append_assoc l d (13 ∷ 10 ∷ (f ++ r))

pub behind_text : (c l t r : List ℕ) → (c ++ l ++ t ++ crlf_bytes) ++ r ≡ c ++ (l ++ (t ++ 13 ∷ 10 ∷ r))
behind_text c l t r =
    append_assoc (c ++ l ++ t) crlf_bytes r ∙ append_assoc (c ++ l) t (13 ∷ 10 ∷ r) ∙ append_assoc c l (t ++ 13 ∷ 10 ∷ r)

-- ---- trailer lines

-- a trailer line begins with no CR
pub no_trailer : (u rest r : List ℕ) → IsTrailer u → 13 ∷ r ≡ u ++ rest → ⊥
no_trailer [] rest r line e = let none : 0 < length {A = ℕ} [] = line.some in omega arith
no_trailer (b ∷ u) rest r line e =
    let first : b ≡ 13 = cc in
    let passes = All-head (λ v. is_extension_byte v ≡ true) b u line.bytes in
    true≢false (sym (subst (λ v. is_extension_byte v ≡ true) first passes))

trailers_unique : (ts us : List (List ℕ)) (r q : List ℕ) → All IsTrailer ts → All IsTrailer us
    → print_trailers ts ++ 13 ∷ 10 ∷ r ≡ print_trailers us ++ 13 ∷ 10 ∷ q → r ≡ q
trailers_unique [] [] r q pt pu e = cc
trailers_unique [] (u ∷ us) r q pt pu e =
    absurd (no_trailer u _ _ (All-head IsTrailer u us pu) (e ∙ behind_line u (print_trailers us) (13 ∷ 10 ∷ q)))
trailers_unique (t ∷ ts) [] r q pt pu e =
    absurd (no_trailer t _ _ (All-head IsTrailer t ts pt) (sym e ∙ behind_line t (print_trailers ts) (13 ∷ 10 ∷ r)))
trailers_unique (t ∷ ts) (u ∷ us) r q pt pu e =
    let lines = sym (behind_line t (print_trailers ts) (13 ∷ 10 ∷ r)) ∙ e ∙ behind_line u (print_trailers us) (13 ∷ 10 ∷ q) in
    let this = All-head IsTrailer t ts pt in
    let that = All-head IsTrailer u us pu in
    let same = run_unique is_extension_byte t u _ _ this.bytes that.bytes refl refl lines in
    trailers_unique ts us r q (All-tail IsTrailer t ts pt) (All-tail IsTrailer u us pu) (let behind = same.1 in cc)

-- ---- chunks

-- the last line is no chunk's
pub no_chunk : (l : ChunkLine) (d : Chunk) (r q : List ℕ) → IsSizeLine l → IsChunk d → chunk_size l ≡ 0
    → print_chunk_line l ++ r ≡ print_chunk_line d.line ++ q → ⊥
no_chunk l d r q last chunk zero_size e =
    let same = chunk_line_unique _ l d.line r q (last.form, refl) (chunk.line.form, e) in
    let size : length d.content ≡ chunk_size l = chunk.size ∙ ap chunk_size (sym same.0) in
    let some = chunk.some in
    omega arith

chunks_unique : (cs ds : List Chunk) (l k : ChunkLine) (r q : List ℕ) → All IsChunk cs → All IsChunk ds
    → IsSizeLine l → IsSizeLine k → chunk_size l ≡ 0 → chunk_size k ≡ 0
    → print_chunks cs ++ (print_chunk_line l ++ r) ≡ print_chunks ds ++ (print_chunk_line k ++ q)
    → (chunks_data cs ≡ chunks_data ds) × (r ≡ q)
chunks_unique [] [] l k r q pc pd pl pk zl zk e =
    let same = chunk_line_unique _ l k r q (pl.form, refl) (pk.form, e) in (refl, same.1)
chunks_unique [] (d ∷ ds) l k r q pc pd pl pk zl zk e =
    absurd (no_chunk l d r _ pl (All-head IsChunk d ds pd) zl
    (e ∙ behind_chunk (print_chunk_line d.line) d.content (print_chunks ds) (print_chunk_line k ++ q)))
chunks_unique (c ∷ cs) [] l k r q pc pd pl pk zl zk e =
    absurd (no_chunk k c q _ pk (All-head IsChunk c cs pc) zk
    (sym e ∙ behind_chunk (print_chunk_line c.line) c.content (print_chunks cs) (print_chunk_line l ++ r)))
chunks_unique (c ∷ cs) (d ∷ ds) l k r q pc pd pl pk zl zk e =
    let this = All-head IsChunk c cs pc in
    let that = All-head IsChunk d ds pd in
    let both = sym (behind_chunk (print_chunk_line c.line) c.content (print_chunks cs) (print_chunk_line l ++ r)) ∙ e
    ∙ behind_chunk (print_chunk_line d.line) d.content (print_chunks ds) (print_chunk_line k ++ q) in
    let lines = chunk_line_unique _ c.line d.line _ _ (this.line.form, refl) (that.line.form, both) in
    let sizes : length c.content ≡ length d.content = this.size ∙ ap chunk_size lines.0 ∙ sym that.size in
    let contents = same_cut c.content d.content _ _ sizes lines.1 in
    let rest = chunks_unique cs ds l k r q (All-tail IsChunk c cs pc) (All-tail IsChunk d ds pd) pl pk zl zk
    (let behind = contents.1 in cc) in
    (ap (λ x. x ++ chunks_data cs) contents.0 ∙ ap (λ y. d.content ++ y) rest.0, rest.1)

pub chunked_unique : (t u : ChunkedText) (r q : List ℕ) → IsChunkedText t → IsChunkedText u
    → print_chunked t ++ r ≡ print_chunked u ++ q → (chunks_data t.chunks ≡ chunks_data u.chunks) × (r ≡ q)
chunked_unique t u r q pt pu e =
    let both = sym (behind_text (print_chunks t.chunks) (print_chunk_line t.last) (print_trailers t.trailers) r) ∙ e
    ∙ behind_text (print_chunks u.chunks) (print_chunk_line u.last) (print_trailers u.trailers) q in
    let same = chunks_unique t.chunks u.chunks t.last u.last _ _ pt.chunks pu.chunks pt.last pu.last pt.zero pu.zero both in
    (same.0, trailers_unique t.trailers u.trailers r q pt.trailers pu.trailers same.1)
