-- What size lines, trailers and line ends that are seen say of the place behind them.
use Rattle.std.proofs.Common.{◌≡◌, ℕ, zero, suc, ◌+◌, ◌<◌, ◌≤◌, List, [], ◌∷◌, ◌++◌, length, take, drop, get_or, refl, sym, ap, subst}
use Rattle.std.proofs.Common.{◌∙◌, arith, append_assoc, Ok, Err}
use Rattle.std.proofs.lemmas.List.{length-append, length-drop, length-take-le, take-append-drop}
use Rattle.std.proofs.Math.Seq.{take-add}
use Rattle.httparse.specs.Grammar.{print_chunk_line}
use Rattle.sm_http.specs.declared.message.BodyLeft.{BodyLeft}
use Rattle.sm_http.specs.declared.message.BodyLeft.TheVariants.{Size, Data, Done}
use Rattle.sm_http.specs.declared.refusal.HttpRefusal.TheVariants.{Ended, TooLong}
use Rattle.sm_http.specs.declared.refusal.HttpRefusal.TheVariants.{Chunk as BadChunk}
use Rattle.sm_http.specs.declared.place.SeenPlace.TheVariants.{Next, Part}
use Rattle.sm_http.specs.declared.trailers.SeenTrailers.TheVariants as trailers
use Rattle.sm_http.specs.Limits.{message_body_limit}
use Rattle.sm_http.specs.Chunks.{print_trailers}
use Rattle.sm_http.specs.Bodies.{body_refused, BodyFramed}
use Rattle.sm_http.specs.Calls.{IsWithinLimit}
use Rattle.sm_http.specs.steps.SizeLines.{HasNoSize, NeverHasSize, MayBecomeSize, ReadsSize}
use Rattle.sm_http.specs.steps.Trailers.{ReadsTrailers, SeesTrailers}
use Rattle.sm_http.specs.steps.Places.{Steps}
use Rattle.sm_http.specs.steps.Passing.{lines_before, SeesPlace}
use Rattle.sm_http.proofs.Cuts.{same_cut}
use Rattle.sm_http.proofs.BodySteps.{end_step, size_step}
use Rattle.sm_http.proofs.BodyEnds.{data_open, end_open, size_refused, too_long, size_open, last_step, last_refused, last_open}

pub front_is : (bytes front : List ℕ) (len : ℕ) → len ≤ length bytes → bytes ≡ front ++ drop len bytes → take len bytes ≡ front
front_is bytes front len inside e =
    let whole = ap length e ∙ length-append front (drop len bytes) in
    let behind = length-drop len bytes in
    let count = length-take-le len bytes inside in
    let same = same_cut (take len bytes) front (drop len bytes) (drop len bytes) (omega arith) (take-append-drop len bytes ∙ e) in
    same.0

pub none_before : (k total : ℕ) → 0 < k → lines_before (Data k total) ≡ 0
none_before zero total some = absurd (omega arith)
none_before (suc k) total some = refl

-- where data or nothing comes next, no bytes lead to the same place
pub stays : (left : BodyLeft) (bytes : List ℕ) → lines_before left ≡ 0 → IsWithinLimit left → SeesPlace left bytes (Ok (Next 0 left))
stays left bytes plain within = record {
  inside = omega arith;
  steps = record {
    on = λ rest content behind x. x;
    back = λ rest content behind x none. none content behind x;
    past_on = λ rest p. p;
    past_back = λ rest p. p;
  };
  fewer = omega arith;
  within = within;
  room = omega arith;
}

-- ---- the line end of a chunk

pub end_none : (total : ℕ) (bytes : List ℕ) → length bytes ≡ 0 → SeesPlace (Data 0 total) bytes (Ok Part)
end_none total [] none = (omega arith, data_open 0 total)
end_none total (b ∷ bytes) none = absurd (omega arith)

pub end_return : (total : ℕ) (bytes : List ℕ) → length bytes ≡ 1 → get_or bytes 0 0 ≡ 13 → SeesPlace (Data 0 total) bytes (Ok Part)
end_return total [] one first = absurd (omega arith)
end_return total (b ∷ []) one first =
    (omega arith, subst (λ c. BodyFramed (Data 0 total) (c ∷ []) (body_refused Ended)) (sym first) (end_open total))
end_return total (b ∷ c ∷ bytes) one first = absurd (omega arith)

pub end_whole : (total : ℕ) (bytes : List ℕ) → total ≤ message_body_limit → 1 < length bytes → get_or bytes 0 0 ≡ 13 → get_or bytes 1 0 ≡ 10
    → SeesPlace (Data 0 total) bytes (Ok (Next 2 (Size total)))
end_whole total [] within some first second = absurd (omega arith)
end_whole total (b ∷ []) within some first second = absurd (omega arith)
end_whole total (b ∷ c ∷ bytes) within some first second = record {
  inside = omega arith;
  steps = subst (λ u. Steps (Data 0 total) u [] (Size total)) (sym (ap (λ x. x ∷ c ∷ []) first ∙ ap (λ x. 13 ∷ x ∷ []) second))
      (end_step total);
  fewer = omega arith;
  within = within;
  room = omega arith;
}

-- ---- size lines

pub size_chunk : (sum : ℕ) (bytes : List ℕ) (size len : ℕ) → ReadsSize bytes size len → 0 < size → sum + size ≤ message_body_limit
    → SeesPlace (Size sum) bytes (Ok (Next len (Data size (sum + size))))
size_chunk sum bytes size len x some within = record {
  inside = x.within;
  steps = subst (λ u. Steps (Size sum) u [] (Data size (sum + size))) (sym (front_is bytes (print_chunk_line x.line) len x.within x.reads))
      (size_step sum size x.line x.is_line (sym x.number) some within);
  fewer = let none = none_before size (sum + size) some in omega arith;
  within = (omega arith, within);
  room = omega arith;
}

pub size_past : (sum : ℕ) (bytes : List ℕ) (size len : ℕ) → ReadsSize bytes size len → message_body_limit < sum + size
    → SeesPlace (Size sum) bytes (Err TooLong)
size_past sum bytes size len x past more =
    too_long sum x.line (bytes ++ more) (drop len bytes ++ more) x.is_line
    (ap (λ b. b ++ more) x.reads ∙ append_assoc (print_chunk_line x.line) (drop len bytes) more)
    (subst (λ n. message_body_limit < sum + n) x.number past)

pub size_part : (sum : ℕ) (bytes : List ℕ) → HasNoSize bytes → MayBecomeSize bytes → SeesPlace (Size sum) bytes (Ok Part)
size_part sum bytes lacks may =
    let whole = sym (length-append bytes may.more) ∙ ap length may.reads in
    let short = may.is_line.short in
    (omega arith, size_open sum bytes lacks may)

pub size_never : (sum : ℕ) (bytes : List ℕ) → NeverHasSize bytes → SeesPlace (Size sum) bytes (Err BadChunk)
size_never sum bytes never more =
    size_refused sum (bytes ++ more) (λ m. subst HasNoSize (sym (append_assoc bytes more m)) (never (more ++ m)))

-- ---- the last line and the trailers

pub last_whole : (sum : ℕ) (bytes : List ℕ) (len more : ℕ) → sum ≤ message_body_limit → ReadsSize bytes 0 len
    → SeesTrailers (drop len bytes) (trailers.Whole more) → SeesPlace (Size sum) bytes (Ok (Next (len + more) Done))
last_whole sum bytes len more within x sees =
    let behind = drop len bytes in
    let lines = print_trailers sees.1.lines in
    let section : take more behind ≡ lines ++ 13 ∷ 10 ∷ [] =
    front_is behind (lines ++ 13 ∷ 10 ∷ []) more sees.0 (sees.1.reads ∙ sym (append_assoc lines (13 ∷ 10 ∷ []) (drop more behind))) in
    let front = front_is bytes (print_chunk_line x.line) len x.within x.reads in
    let used : take (len + more) bytes ≡ print_chunk_line x.line ++ take more behind =
    take-add len more bytes ∙ ap (λ b. b ++ take more behind) front in
    record {
      inside = let rest = length-drop len bytes in let inner = sees.0 in let whole = x.within in omega arith;
      steps = subst (λ u. Steps (Size sum) u [] Done) (sym used)
          (last_step sum x.line (take more behind) x.is_line (sym x.number) within
          (record { lines = sees.1.lines; are_trailers = sees.1.are_trailers; within = sees.1.within; reads = section }));
      fewer = omega arith;
      within = tt;
      room = omega arith;
    }

pub last_part : (sum : ℕ) (bytes : List ℕ) (len : ℕ) → sum ≤ message_body_limit → ReadsSize bytes 0 len
    → SeesTrailers (drop len bytes) trailers.Part
    → SeesPlace (Size sum) bytes (Ok Part)
last_part sum bytes len within x sees =
    let behind = drop len bytes in
    let whole = ap length x.reads ∙ length-append (print_chunk_line x.line) behind in
    let short = x.is_line.short in
    let lines = sees.1.reads in
    let section = sym (length-append behind sees.1.more) ∙ ap length lines.reads
    ∙ length-append (print_trailers lines.lines) (13 ∷ 10 ∷ []) in
    let few = lines.within in (
      omega arith,
      subst (λ b. BodyFramed (Size sum) b (body_refused Ended)) (sym x.reads)
          (last_open sum x.line behind x.is_line (sym x.number) within sees.0 sees.1),
    )

pub last_never : (sum : ℕ) (bytes : List ℕ) (len : ℕ) → sum ≤ message_body_limit → ReadsSize bytes 0 len
    → SeesTrailers (drop len bytes) trailers.Never
    → SeesPlace (Size sum) bytes (Err BadChunk)
last_never sum bytes len within x sees more =
    let behind = drop len bytes in
    subst (λ b. BodyFramed (Size sum) b (body_refused BadChunk))
    (sym (ap (λ b. b ++ more) x.reads ∙ append_assoc (print_chunk_line x.line) behind more))
    (last_refused sum x.line (behind ++ more) x.is_line (sym x.number) within
    (λ m rest y. sees (more ++ m) rest (subst (λ b. ReadsTrailers 0 b rest) (append_assoc behind more m) y)))
