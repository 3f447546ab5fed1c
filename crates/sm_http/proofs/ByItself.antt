-- What stands behind a message has no part in it.
use Rattle.std.proofs.Common.{◌≡◌, ℕ, ◌+◌, List, [], ◌∷◌, ◌++◌, length, refl, sym, ap, ◌∙◌, subst, append_assoc}
use Rattle.std.specs.Prelude.{All}
use Rattle.std.proofs.lemmas.List.Elements.{All-head, All-tail}
use Rattle.httparse.specs.Ascii.{crlf_bytes}
use Rattle.httparse.specs.Grammar.{ChunkLine, print_chunk_line, chunk_size}
use Rattle.httparse.proofs.ChunkLemmas.{chunk_line_unique}
use Rattle.sm_http.specs.declared.message.MessageSide.{MessageSide}
use Rattle.sm_http.specs.declared.message.BodyLeft.{BodyLeft}
use Rattle.sm_http.specs.declared.message.BodyLeft.TheVariants.{Known, Size, Data, Done}
use Rattle.sm_http.specs.Heads.{HeadStands}
use Rattle.sm_http.specs.BodyFields.{body_begin}
use Rattle.sm_http.specs.Chunks.{IsSizeLine, Chunk, IsChunk, ChunkedText, IsChunkedText, print_chunks, print_trailers, print_chunked}
use Rattle.sm_http.specs.Chunks.{PassesLimit}
use Rattle.sm_http.specs.Bodies.{BodyText, IsPastLimit, body, BodyFramed}
use Rattle.sm_http.specs.Laws.{HasMessageByItself}
use Rattle.sm_http.proofs.Cuts.{same_cut}
use Rattle.sm_http.proofs.OneChunked.{behind_line, behind_chunk, behind_text, no_chunk}
use Rattle.sm_http.proofs.ReadingHeads.{head_used, used_stands}

-- ---- chunks and a size line before a whole chunked text's end stand there whatever follows it

-- a chunked text by its parts, before some bytes
abbrev text_before : List Chunk → ChunkLine → List ℕ → List ℕ → List ℕ
text_before cs last tr more = print_chunks cs ++ (print_chunk_line last ++ (tr ++ 13 ∷ 10 ∷ more))

line_moves : (ts cs : List Chunk) (last k : ChunkLine) (tr r more rest : List ℕ) → All IsChunk ts → All IsChunk cs
    → IsSizeLine last → IsSizeLine k → chunk_size last ≡ 0
    → text_before ts last tr more ≡ print_chunks cs ++ (print_chunk_line k ++ r)
    → (q : List ℕ) × (text_before ts last tr rest ≡ print_chunks cs ++ (print_chunk_line k ++ q))
line_moves [] [] last k tr r more rest pt pc pl pk zl e =
    let same = chunk_line_unique _ last k (tr ++ 13 ∷ 10 ∷ more) r (pl.form, refl) (pk.form, e) in
    (tr ++ 13 ∷ 10 ∷ rest, ap (λ l. print_chunk_line l ++ (tr ++ 13 ∷ 10 ∷ rest)) same.0)
line_moves [] (c ∷ cs) last k tr r more rest pt pc pl pk zl e =
    absurd (no_chunk last c _ _ pl (All-head IsChunk c cs pc) zl
    (e ∙ behind_chunk (print_chunk_line c.line) c.content (print_chunks cs) (print_chunk_line k ++ r)))
line_moves (t ∷ ts) [] last k tr r more rest pt pc pl pk zl e =
    let this = All-head IsChunk t ts pt in
    let lines = sym (behind_chunk (print_chunk_line t.line) t.content (print_chunks ts) (print_chunk_line last ++ (tr ++ 13 ∷ 10 ∷ more)))
    ∙ e in
    let same = chunk_line_unique _ t.line k _ r (this.line.form, refl) (pk.form, lines) in
    let after = t.content ++ 13 ∷ 10 ∷ text_before ts last tr rest in (
      after,
      behind_chunk (print_chunk_line t.line) t.content (print_chunks ts) (print_chunk_line last ++ (tr ++ 13 ∷ 10 ∷ rest))
          ∙ ap (λ l. print_chunk_line l ++ after) same.0,
    )
line_moves (t ∷ ts) (c ∷ cs) last k tr r more rest pt pc pl pk zl e =
    let this = All-head IsChunk t ts pt in
    let that = All-head IsChunk c cs pc in
    let behind = behind_chunk (print_chunk_line c.line) c.content (print_chunks cs) (print_chunk_line k ++ r) in
    let both = sym (behind_chunk (print_chunk_line t.line) t.content (print_chunks ts) (print_chunk_line last ++ (tr ++ 13 ∷ 10 ∷ more)))
    ∙ e ∙ behind in
    let lines = chunk_line_unique _ t.line c.line _ _ (this.line.form, refl) (that.line.form, both) in
    let sizes : length t.content ≡ length c.content = this.size ∙ ap chunk_size lines.0 ∙ sym that.size in
    let contents = same_cut t.content c.content _ _ sizes lines.1 in
    let inner = line_moves ts cs last k tr r more rest (All-tail IsChunk t ts pt) (All-tail IsChunk c cs pc) pl pk zl
    (let tails = contents.1 in cc) in (
      inner.0,
      behind_chunk (print_chunk_line t.line) t.content (print_chunks ts) (print_chunk_line last ++ (tr ++ 13 ∷ 10 ∷ rest))
          ∙ ap (λ l. print_chunk_line l ++ (t.content ++ 13 ∷ 10 ∷ text_before ts last tr rest)) lines.0
          ∙ ap (λ d. print_chunk_line c.line ++ (d ++ 13 ∷ 10 ∷ text_before ts last tr rest)) contents.0
          ∙ ap (λ b. print_chunk_line c.line ++ (c.content ++ 13 ∷ 10 ∷ b)) inner.1
          ∙ sym (behind_chunk (print_chunk_line c.line) c.content (print_chunks cs) (print_chunk_line k ++ inner.0)),
    )

opened : (t : ChunkedText) (bytes : List ℕ)
    → print_chunked t ++ bytes ≡ text_before t.chunks t.last (print_trailers t.trailers) bytes
opened t bytes = behind_text (print_chunks t.chunks) (print_chunk_line t.last) (print_trailers t.trailers) bytes

passes_moves : (sum : ℕ) (t : ChunkedText) (more rest : List ℕ) → IsChunkedText t → PassesLimit sum (print_chunked t ++ more)
    → PassesLimit sum (print_chunked t ++ rest)
passes_moves sum t more rest is p =
    let both = sym (opened t more) ∙ p.reads ∙ append_assoc (print_chunks p.chunks) (print_chunk_line p.line) p.rest in
    let moved = line_moves t.chunks p.chunks t.last p.line (print_trailers t.trailers) p.rest more rest is.chunks p.are_chunks
    is.last p.is_line is.zero both in
    record {
      chunks = p.chunks;
      line = p.line;
      rest = moved.0;
      are_chunks = p.are_chunks;
      is_line = p.is_line;
      reads = opened t rest ∙ moved.1 ∙ sym (append_assoc (print_chunks p.chunks) (print_chunk_line p.line) moved.0);
      past = p.past;
    }

past_moves : (left : BodyLeft) (text content more rest : List ℕ) → BodyText left content text → IsPastLimit left (text ++ more)
    → IsPastLimit left (text ++ rest)
past_moves (Known count) text content more rest x p = p
past_moves (Size sum) text content more rest x p =
    subst (λ b. PassesLimit sum (b ++ rest)) (sym x.2) (passes_moves sum x.0 more rest x.1
    (subst (λ b. PassesLimit sum (b ++ more)) x.2 p))
past_moves (Data left total) text content more rest x p =
    let t = x.1 in
    let both = sym (behind_line x.0 (print_chunked t) more) ∙ ap (λ b. b ++ more) (sym x.4) ∙ p.3 ∙ append_assoc p.0 crlf_bytes p.1 in
    let same = same_cut x.0 p.0 _ _ (x.2 ∙ sym p.2) both in
    let behind : p.1 ≡ print_chunked t ++ more = let tails = same.1 in cc in (
      x.0,
      print_chunked t ++ rest,
      x.2,
      ap (λ b. b ++ rest) x.4 ∙ append_assoc (x.0 ++ crlf_bytes) (print_chunked t) rest,
      passes_moves total t more rest x.3 (subst (PassesLimit total) behind p.4),
    )
past_moves Done text content more rest x p = p

-- ---- a body, and a message

body_by_itself : (left : BodyLeft) (bytes content rest : List ℕ) → BodyFramed left bytes (body content rest)
    → (used : List ℕ) × (bytes ≡ used ++ rest) × ((more : List ℕ) → BodyFramed left (used ++ more) (body content more))
body_by_itself left bytes content rest ((text, is, e), short) = (
  text,
  e,
  λ more. ((text, is, refl), λ p. short (subst (IsPastLimit left) (sym e) (past_moves left text content more rest is p))),
)

pub message_by_itself : (side : MessageSide) → HasMessageByItself side
message_by_itself side bytes said rest (behind, (text, stands, taken, is), framed) =
    let head = head_used side bytes behind text stands.reads in
    let content = body_by_itself (body_begin said.head) behind said.body rest framed in (
      head.used ++ content.0,
      head.is ∙ ap (λ b. head.used ++ b) content.1 ∙ sym (append_assoc head.used content.0 rest),
      λ more. (
        content.0 ++ more,
        (
          text,
          subst (λ b. HeadStands side b text (content.0 ++ more)) (sym (append_assoc head.used content.0 more))
              (used_stands side bytes behind (content.0 ++ more) text stands.within head),
          taken,
          is,
        ),
        content.2 more,
      ),
    )
