-- The text of a chunked body (RFC 9112, section 7.1), in the limits of the profile. A size line is a chunk line of httparse's
-- grammar. Trailer lines are passed over, so any bytes but CR and LF stand in them.
use Rattle.std.specs.Prelude.{◌≡◌, ℕ, ◌+◌, ◌<◌, ◌≤◌, List, ◌++◌, length, All}
use Rattle.std.specs.List.{flat_map}
use Rattle.httparse.specs.Ascii.{crlf_bytes}
use Rattle.httparse.specs.Grammar.{AllPass, is_extension_byte, ChunkLine, IsChunkLine, print_chunk_line, chunk_size}
use Rattle.sm_http.specs.Limits.{message_body_limit, most_size_digits, size_line_limit, trailer_limit}

-- chunk-size [ chunk-ext ] CRLF
pub record IsSizeLine (line : ChunkLine) : Type 0 where
  pub form : IsChunkLine line
  pub digits : length line.digits ≤ most_size_digits
  pub short : length (print_chunk_line line) ≤ size_line_limit + length crlf_bytes

-- chunk = size line, data, CRLF
pub record Chunk : Type 0 where
  pub line : ChunkLine
  pub content : List ℕ

abbrev pub print_chunk : Chunk → List ℕ
print_chunk chunk = print_chunk_line chunk.line ++ chunk.content ++ crlf_bytes

-- the number isn't 0, and the data has so many bytes
pub record IsChunk (chunk : Chunk) : Type 0 where
  pub line : IsSizeLine chunk.line
  pub some : 0 < length chunk.content
  pub size : length chunk.content ≡ chunk_size chunk.line

-- a trailer line, without its line end
abbrev pub print_trailer : List ℕ → List ℕ
print_trailer line = line ++ crlf_bytes

pub record IsTrailer (line : List ℕ) : Type 0 where
  pub some : 0 < length line
  pub bytes : AllPass is_extension_byte line

-- chunked-body = *chunk last-chunk trailer-section CRLF
pub record ChunkedText : Type 0 where
  pub chunks : List Chunk
  pub last : ChunkLine
  pub trailers : List (List ℕ)

abbrev pub print_chunks : List Chunk → List ℕ
print_chunks chunks = flat_map print_chunk chunks

abbrev pub print_trailers : List (List ℕ) → List ℕ
print_trailers lines = flat_map print_trailer lines

abbrev pub print_chunked : ChunkedText → List ℕ
print_chunked text = print_chunks text.chunks ++ print_chunk_line text.last ++ print_trailers text.trailers ++ crlf_bytes

pub record IsChunkedText (text : ChunkedText) : Type 0 where
  pub chunks : All IsChunk text.chunks
  pub last : IsSizeLine text.last
  pub zero : chunk_size text.last ≡ 0
  pub trailers : All IsTrailer text.trailers
  pub short : length (print_trailers text.trailers) ≤ trailer_limit

-- the data of chunks, one after the other
abbrev pub chunks_data : List Chunk → List ℕ
chunks_data chunks = flat_map (λ chunk. chunk.content) chunks

-- behind chunks of so many bytes, the bytes begin with chunks and a size line that brings the sum past the limit
pub record PassesLimit (sum : ℕ) (bytes : List ℕ) : Type 0 where
  pub chunks : List Chunk
  pub line : ChunkLine
  pub rest : List ℕ
  pub are_chunks : All IsChunk chunks
  pub is_line : IsSizeLine line
  pub reads : bytes ≡ print_chunks chunks ++ print_chunk_line line ++ rest
  pub past : message_body_limit < sum + length (chunks_data chunks) + chunk_size line
