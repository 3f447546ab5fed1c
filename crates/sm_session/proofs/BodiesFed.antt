-- A body that is handed on piece by piece is handed on whole.
use Rattle.std.proofs.Common.{◌≡◌, ◌<◌, ℕ, zero, suc, List, [], ◌∷◌, ◌++◌, length, take, refl, sym, ap, ◌∙◌, subst, arith}
use Rattle.std.proofs.Common.{append_assoc, append-nil, Option, Some, None}
use Rattle.std.specs.Prelude.{IfSome, ◌==◌}
use Rattle.std.proofs.lemmas.Bool.{ne_eqb}
use Rattle.std.specs.Io.KnownBytes.{Consumes}
use Rattle.sm_io.proofs.Told.{consumes_both, consumes_none}
use Rattle.sm_http.specs.declared.message.BodyLeft.{BodyLeft}
use Rattle.sm_http.specs.declared.message.BodyLeft.TheVariants.{Done}
use Rattle.sm_http.specs.declared.refusal.HttpRefusal.{HttpRefusal}
use Rattle.sm_http.specs.declared.refusal.HttpRefusal.TheVariants.{ReadFault, Ended, HeadTooLarge, Coding, Length, TooLong, Chunk, NoMemory}
use Rattle.sm_http.specs.declared.refusal.HttpRefusal.TheVariants.{Head as BadHead}
use Rattle.sm_http.specs.Bodies.{BodyFraming, BodyFramed, body, body_refused, behind_data}
use Rattle.sm_http.specs.Calls.{Uses, GoesOn}
use Rattle.sm_http.specs.steps.Passing.{RefusesBody}
use Rattle.sm_session.specs.Responding.{HasRead, Reads, ReadsOn, is_empty}
use Rattle.sm_session.specs.steps.Feeding.{Feeding}

behind_none : (framing : BodyFraming) → behind_data [] framing ≡ framing
behind_none (body content rest) = refl
behind_none (body_refused why) = refl

behind_both : (a b : List ℕ) (framing : BodyFraming) → behind_data a (behind_data b framing) ≡ behind_data (a ++ b) framing
behind_both a b (body content rest) = ap (λ s. body s rest) (sym (append_assoc a b content))
behind_both a b (body_refused why) = refl

-- nothing is left behind the end
done_here : (more : List ℕ) → BodyFramed Done more (body [] more)
done_here more = (([], (refl, refl), refl), λ p. p)

pub begins_feeding : (before : Reads) (place : BodyLeft) (ahead : Option (List ℕ)) (first : List ℕ)
    → Feeding before before place place ahead ahead first first
begins_feeding before place ahead first = record {
  used = [];
  consumes = consumes_none ahead;
  got = [];
  on = λ more framing x. subst (λ f. BodyFramed place more f) (sym (behind_none framing)) x;
  given = [];
  handed = λ begun bytes x. subst (λ s. before begun s) (sym (append-nil bytes)) x;
  same = append-nil first;
}

-- of what a piece more was read, some was read
pub has_read_on : (before now : Reads) (piece : List ℕ) → ReadsOn before now piece → HasRead before → HasRead now
has_read_on before now piece on (begun, bytes, x) = (begun, bytes ++ piece, on begun bytes x)

-- a piece more was handed on, and the next one read
pub feeds_on : (before reads next : Reads) (begun place behind : BodyLeft) (ahead now after : Option (List ℕ))
    (first piece buffer : List ℕ) (count : ℕ)
    → Feeding before reads begun place ahead now first piece → ReadsOn reads next piece
    → Uses now after (λ used more. GoesOn place behind buffer count used more)
    → Feeding before next begun behind ahead after first (take count buffer)
feeds_on before reads next begun place behind ahead now after first piece buffer count f on (used, consumes, goes) = record {
  used = f.used ++ used;
  consumes = consumes_both ahead now after f.used used f.consumes consumes;
  got = f.got ++ take count buffer;
  on = λ more framing x.
      subst (λ s. BodyFramed begun s (behind_data (f.got ++ take count buffer) framing)) (sym (append_assoc f.used used more))
      (subst (λ a. BodyFramed begun (f.used ++ (used ++ more)) a) (behind_both f.got (take count buffer) framing)
      (f.on (used ++ more) (behind_data (take count buffer) framing) ((goes more).on framing x)));
  given = f.given ++ piece;
  handed = λ b bytes x. subst (λ s. next b s) (append_assoc bytes f.given piece) (on b (bytes ++ f.given) (f.handed b bytes x));
  same = sym (append_assoc first f.got (take count buffer)) ∙ ap (λ s. s ++ take count buffer) f.same;
}

pub feeds_whole : (before reads : Reads) (begun place : BodyLeft) (ahead now : Option (List ℕ)) (first piece : List ℕ)
    → Feeding before reads begun place ahead now first piece → piece ≡ [] → place ≡ Done
    → (content : List ℕ) × Uses ahead now (λ used more. BodyFramed begun (used ++ more) (body content more))
    × ReadsOn before reads (first ++ content)
feeds_whole before reads begun place ahead now first piece f none is =
    let given_all : f.given ≡ first ++ f.got = sym (f.same ∙ ap (λ s. f.given ++ s) none ∙ append-nil f.given) in (
      f.got,
      (
        f.used,
        f.consumes,
        λ more.
            subst (λ s. BodyFramed begun (f.used ++ more) (body s more)) (append-nil f.got)
            (f.on more (body [] more) (subst (λ p. BodyFramed p more (body [] more)) (sym is) (done_here more))),
      ),
      λ b bytes x. subst (λ s. reads b (bytes ++ s)) given_all (f.handed b bytes x),
    )

-- ---- refusals

told_on : (begun place : BodyLeft) (ahead now : Option (List ℕ)) (used : List ℕ) (why : HttpRefusal) → Consumes ahead now used
    → ((more : List ℕ) → BodyFramed place more (body_refused why) → BodyFramed begun (used ++ more) (body_refused why))
    → IfSome now (λ bytes. BodyFramed place bytes (body_refused why)) → IfSome ahead (λ bytes. BodyFramed begun bytes (body_refused why))
told_on begun place None now used why consumes on x = tt
told_on begun place (Some a) None used why consumes on x = absurd consumes
told_on begun place (Some a) (Some b) used why consumes on x =
    subst (λ s. BodyFramed begun s (body_refused why)) (sym consumes) (on b x)

-- what is refused behind some bytes is refused
pub refused_on : (begun place : BodyLeft) (ahead now left : Option (List ℕ)) (used : List ℕ) (why : HttpRefusal) → Consumes ahead now used
    → ((more : List ℕ) (word : HttpRefusal) → BodyFramed place more (body_refused word) → BodyFramed begun (used ++ more) (body_refused word))
    → RefusesBody place now left why → RefusesBody begun ahead left why
refused_on begun place ahead now left used ReadFault consumes on (taken, takes, opened) =
    (used ++ taken, consumes_both ahead now left used taken consumes takes, on taken Ended opened)
refused_on begun place ahead now left used Ended consumes on x =
    told_on begun place ahead now used Ended consumes (λ more. on more Ended) x
refused_on begun place ahead now left used BadHead consumes on x =
    told_on begun place ahead now used BadHead consumes (λ more. on more BadHead) x
refused_on begun place ahead now left used HeadTooLarge consumes on x =
    told_on begun place ahead now used HeadTooLarge consumes (λ more. on more HeadTooLarge) x
refused_on begun place ahead now left used Coding consumes on x =
    told_on begun place ahead now used Coding consumes (λ more. on more Coding) x
refused_on begun place ahead now left used Length consumes on x =
    told_on begun place ahead now used Length consumes (λ more. on more Length) x
refused_on begun place ahead now left used TooLong consumes on x =
    told_on begun place ahead now used TooLong consumes (λ more. on more TooLong) x
refused_on begun place ahead now left used Chunk consumes on x =
    told_on begun place ahead now used Chunk consumes (λ more. on more Chunk) x
refused_on begun place ahead now left used NoMemory consumes on x = tt

pub refused_feeding : (before reads : Reads) (begun place : BodyLeft) (ahead now left : Option (List ℕ)) (first piece : List ℕ)
    (why : HttpRefusal)
    → Feeding before reads begun place ahead now first piece → RefusesBody place now left why → RefusesBody begun ahead left why
refused_feeding before reads begun place ahead now left first piece why f x =
    refused_on begun place ahead now left f.used why f.consumes (λ more word y. f.on more (body_refused word) y) x

-- ---- behind the first piece

pub refused_piece : (begun place : BodyLeft) (ahead now left : Option (List ℕ)) (buffer : List ℕ) (count : ℕ) (why : HttpRefusal)
    → Uses ahead now (λ used more. GoesOn begun place buffer count used more)
    → RefusesBody place now left why → RefusesBody begun ahead left why
refused_piece begun place ahead now left buffer count why (used, consumes, goes) x =
    refused_on begun place ahead now left used why consumes (λ more word y. (goes more).on (body_refused word) y) x

-- a body at its end has no more data
none_behind : (content : List ℕ) (bytes rest : List ℕ) → BodyFramed Done bytes (body content rest) → content ≡ []
none_behind content bytes rest x = x.0.1.0

empty_as : (count : ℕ) (buffer content : List ℕ) → 0 < length buffer → (count ≡ 0 → content ≡ [])
    → (count == 0) ≡ is_empty (take count buffer ++ content)
empty_as zero buffer content some none = ap is_empty (sym (none refl))
empty_as (suc k) [] content some none = absurd (omega arith)
empty_as (suc k) (b ∷ buffer) content some none = ne_eqb (suc k) zero (λ same. absurd (omega arith))

-- a first piece, and the rest behind it, are the body; and whether the first is empty says whether the body is
pub whole_behind : (before reads : Reads) (begun place : BodyLeft) (ahead now after : Option (List ℕ)) (buffer : List ℕ) (count : ℕ)
    (rest : List ℕ) → 0 < length buffer → (count ≡ 0 → place ≡ Done)
    → Uses ahead now (λ used more. GoesOn begun place buffer count used more)
    → Uses now after (λ used more. BodyFramed place (used ++ more) (body rest more))
    → ReadsOn before reads (take count buffer ++ rest)
    → (content : List ℕ) × Uses ahead after (λ used more. BodyFramed begun (used ++ more) (body content more))
    × ReadsOn before reads content × ((count == 0) ≡ is_empty content)
whole_behind before reads begun place ahead now after buffer count rest some ends (used, consumes, goes) (next, uses, framed) on = (
  take count buffer ++ rest,
  (
    used ++ next,
    consumes_both ahead now after used next consumes uses,
    λ more.
        subst (λ s. BodyFramed begun s (body (take count buffer ++ rest) more)) (sym (append_assoc used next more))
        ((goes (next ++ more)).on (body rest more) (framed more)),
  ),
  on,
  empty_as count buffer rest some (λ is. none_behind rest (next ++ []) [] (subst (λ p. BodyFramed p (next ++ []) (body rest [])) (ends is)
      (framed []))),
)
