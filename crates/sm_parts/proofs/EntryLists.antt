-- Entries between commas, one piece after the other.
use Rattle.std.proofs.Common.{◌≡◌, ℕ, zero, suc, ◌+◌, ◌<◌, ◌≤◌, List, [], ◌∷◌, ◌++◌, length, take, drop, Bool, true, false, map, reverse, refl, sym}
use Rattle.std.proofs.Common.{ap, ◌∙◌, subst, append_assoc, append-nil, arith}
use denote.Ref.{Bor}
use Rattle.std.specs.Prelude.{cond, Option, Some, None}
use Rattle.std.specs.List.{slice_split}
use Rattle.std.proofs.Math.Seq.{take-append_seam}
use Rattle.std.proofs.Common.{length-append}
use Rattle.httparse.specs.Grammar.{trim_ows, skip_ows}
use Rattle.sm_bytes.specs.Ascii.{comma}
use Rattle.sm_http.specs.FieldLists.{is_comma}
use Rattle.sm_parts.specs.HeaderLists.{is_filled, filled, pieces_of, plain_entries, two_by_two}
use Rattle.sm_parts.specs.declared.list_entry.HeaderCut.TheVariants.{Quoted, EachComma, EverySecondComma}
use Rattle.sm_parts.specs.Cuts.{IsCutBy, IsFirstPiece, IsWhole}
use Rattle.sm_parts.specs.steps.Cutting.{IsPieceBy}
use Rattle.sm_parts.specs.declared.list_entry.ListEntry.{ListEntry}
use Rattle.sm_parts.specs.declared.list_entry.ListEntry.TheVariants.{Text as some_text}

-- one piece before others
plain_by : (t : Bool) (text : List ℕ) (texts : List (List ℕ))
    → map some_text (cond t (text ∷ texts) texts) ≡ map some_text (cond t (text ∷ []) []) ++ map some_text texts
plain_by true text texts = refl
plain_by false text texts = refl

pub plain_more : (piece : List ℕ) (pieces : List (List ℕ))
    → plain_entries (piece ∷ pieces) ≡ plain_entries (piece ∷ []) ++ plain_entries pieces
plain_more piece pieces = plain_by (is_filled (trim_ows piece)) (trim_ows piece) (filled pieces)

-- what was put and what is left
pub listed_on : (all pieces rest : List (List ℕ)) (before now : List ListEntry) (piece : List ℕ)
    → now ≡ before ++ plain_entries (piece ∷ []) → pieces ≡ piece ∷ rest → before ++ plain_entries pieces ≡ plain_entries all
    → now ++ plain_entries rest ≡ plain_entries all
listed_on all pieces rest before now piece e cut h =
    ap (λ n. n ++ plain_entries rest) e ∙ append_assoc before (plain_entries (piece ∷ [])) (plain_entries rest)
    ∙ ap (λ n. before ++ n) (sym (plain_more piece rest)) ∙ ap (λ ps. before ++ plain_entries ps) (sym cut) ∙ h

pub listed_last : (all pieces : List (List ℕ)) (before now : List ListEntry) (piece : List ℕ) → now ≡ before ++ plain_entries (piece ∷ [])
    → pieces ≡ piece ∷ [] → before ++ plain_entries pieces ≡ plain_entries all → now ≡ plain_entries all
listed_last all pieces before now piece e cut h = e ∙ ap (λ ps. before ++ plain_entries ps) (sym cut) ∙ h

-- two pieces as one
pair_length : (first second : List ℕ) → length (first ++ comma ∷ second) ≡ length first + 1 + length second
pair_length first second = let joined = length-append first (comma ∷ second) in omega (arith, joined)

second_taken : (first second more rest : List ℕ) → rest ≡ first ++ comma ∷ (second ++ more)
    → first ++ comma ∷ second ≡ take (length first + 1 + length second) rest
second_taken first second more rest e =
    let all : rest ≡ (first ++ comma ∷ second) ++ more = e ∙ sym (append_assoc first (comma ∷ second) more) in
    sym (ap (λ n. take n rest) (sym (pair_length first second)) ∙ ap (take (length (first ++ comma ∷ second))) all
    ∙ take-append_seam (first ++ comma ∷ second) more)

-- the first piece where two are one
pub second_piece_is : (rest first behind second : List ℕ) (left : Option (Bor (List ℕ))) → IsFirstPiece comma rest first behind
    → IsCutBy comma behind second left → IsPieceBy EverySecondComma rest (take (length first + 1 + length second) rest) left
second_piece_is rest first behind second None h k =
    ap two_by_two (h.split ∙ ap (λ ps. first ∷ ps) k.split)
    ∙ ap (λ u. u ∷ [])
    (second_taken first second [] rest (h.all ∙ ap (λ u. first ++ comma ∷ u) (sym k.all ∙ sym (append-nil second))))
second_piece_is rest first behind second (Some left) h k = (
  ap two_by_two (h.split ∙ ap (λ ps. first ∷ ps) k.split)
      ∙ ap (λ u. u ∷ two_by_two (slice_split is_comma left.now))
      (second_taken first second (comma ∷ left.now) rest (h.all ∙ ap (λ u. first ++ comma ∷ u) k.all)),
  omega (arith, h.shorter, k.shorter),
)

-- a list whose entries each comma ends
pub each_piece : (rest taken : List ℕ) (left : Option (Bor (List ℕ))) → IsCutBy comma rest taken left → IsPieceBy EachComma rest taken left
each_piece rest taken None h = h.split
each_piece rest taken (Some left) h = (h.split, h.shorter)

pub quoted_piece : (rest taken : List ℕ) (left : Option (Bor (List ℕ))) → IsCutBy comma rest taken left → IsPieceBy Quoted rest taken left
quoted_piece rest taken None h = h.split
quoted_piece rest taken (Some left) h = (h.split, h.shorter)

pub one_piece : (rest taken : List ℕ) → IsWhole comma rest taken → IsPieceBy EverySecondComma rest taken None
one_piece rest taken h = ap two_by_two h.split
