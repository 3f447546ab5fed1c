-- The path of a target that is written: its segments are cut where they were put, and its labels have their texts again.
use Rattle.std.proofs.Common.{◌≡◌, ℕ, suc, ◌+◌, List, [], ◌∷◌, ◌++◌, length, take, drop, Bool, true, false, cond, refl, sym, ap, ◌∙◌, arith}
use Rattle.std.proofs.Common.{append-nil, length-append}
use Rattle.std.specs.Prelude.{◌==◌, IsTrue, Some}
use Rattle.std.specs.List.{flat_map, join_with_byte, list_all, onto_first, slice_split}
use Rattle.std.proofs.Math.Seq.{drop-append-add, take-append_seam}
use Rattle.std.proofs.lemmas.List.Elements.{All-append, All-cons, All-nil}
use Rattle.std.proofs.lemmas.List.Splits.{join_with_byte-slice_split, slice_split_none}
use Rattle.percent_encoding.specs.Percent.{percent_decode}
use Rattle.sm_bytes.specs.Ascii.{slash}
use Rattle.sm_time.proofs.StampForms.{and_first}
use Rattle.sm_uri.specs.UriPattern.{IsGreedyLast, ampersand, is_literal_byte, is_segment, is_text_of, label_names, question_mark}
use Rattle.sm_uri.specs.declared.pattern.Segment.{Segment}
use Rattle.sm_uri.specs.declared.pattern.Segment.TheVariants.{Literal, Label, Greedy}
use Rattle.sm_parts.specs.HeaderLists.{is_filled}
use Rattle.sm_parts.specs.Targets.{escaped, escaped_path, is_question_mark, is_slash, path_of, segments_of, split_path, written_query}
use Rattle.sm_routes.specs.Routes.{greedy_count, greedy_text, labels_of}
use Rattle.sm_routes.specs.WrittenTargets.{LabelText, label_text, labels_by, written_path, written_segment}
use Rattle.sm_bind_laws.specs.WrittenLabels.{AreAllLabelled, IsLabelled, texts_for}
use Rattle.sm_bind_laws.proofs.EscapedTexts.{HasNo, cut_before, decoded_again, decoded_path, escaped_filled, escaped_no}
use Rattle.sm_bind_laws.proofs.EscapedTexts.{escaped_path_filled}
use Rattle.sm_bind_laws.proofs.EscapedTexts.{escaped_path_no, no_question_mark, no_slash, whole_before}

-- pieces of what is cut: there is one at least, and those of two parts are those of each
abbrev pub HasParts : List (List ℕ) → Type 0
HasParts [] = ⊥
HasParts (x ∷ xs) = Unit {0}

parts_by : (b : ℕ) (t : Bool) (xs : List (List ℕ)) → HasParts (cond t ([] ∷ xs) (onto_first b xs))
parts_by b true xs = tt
parts_by b false [] = tt
parts_by b false (x ∷ xs) = tt

pub some_parts : (p : ℕ → Bool) (u : List ℕ) → HasParts (slice_split p u)
some_parts p [] = tt
some_parts p (b ∷ u) = parts_by b (p b) (slice_split p u)

onto_both : (b : ℕ) (xs ys : List (List ℕ)) → HasParts xs → onto_first b (xs ++ ys) ≡ onto_first b xs ++ ys
onto_both b [] ys h = absurd h
onto_both b (x ∷ xs) ys h = refl

both_by : (b : ℕ) (t : Bool) (xs ys zs : List (List ℕ)) → HasParts xs → zs ≡ xs ++ ys
    → cond t ([] ∷ zs) (onto_first b zs) ≡ cond t ([] ∷ xs) (onto_first b xs) ++ ys
both_by b true xs ys zs some e = ap (λ ps. [] ∷ ps) e
both_by b false xs ys zs some e = ap (onto_first b) e ∙ onto_both b xs ys some

split_both : (u v : List ℕ) → slice_split is_slash (u ++ slash ∷ v) ≡ slice_split is_slash u ++ slice_split is_slash v
split_both [] v = refl
split_both (b ∷ u) v =
    both_by b (is_slash b) (slice_split is_slash u) (slice_split is_slash v) (slice_split is_slash (u ++ slash ∷ v)) (some_parts is_slash u)
    (split_both u v)

split_filled : (u v : List ℕ) → is_filled u ≡ true → split_path (u ++ v) ≡ slice_split is_slash (u ++ v)
split_filled [] v h = absurd cc
split_filled (b ∷ u) v h = refl

-- a text that is escaped is one piece
pub one_piece : (u : List ℕ) → slice_split is_slash (escaped u) ≡ escaped u ∷ []
one_piece u = slice_split_none is_slash (escaped u) (escaped_no slash refl no_slash u)

literal_filled : (text : List ℕ) → is_text_of is_literal_byte text ≡ true → is_filled text ≡ true
literal_filled [] h = h
literal_filled (b ∷ text) h = refl

greedy_by : (name : List ℕ) (ss : List Segment) (xs : List (List ℕ)) → HasParts xs
    → labels_of (Greedy name ∷ ss) xs ≡ (name, percent_decode (greedy_text ss xs)) ∷ labels_of ss (drop (greedy_count ss xs) xs)
greedy_by name ss [] h = absurd h
greedy_by name ss (x ∷ xs) h = refl

pub some_before : (xs ys : List (List ℕ)) → HasParts xs → HasParts (xs ++ ys)
some_before [] ys h = absurd h
some_before (x ∷ xs) ys h = tt

-- of these pieces the first so many are the label's, where those behind are as many as the segments behind
count_first : (ss : List Segment) (xs ys : List (List ℕ)) → length ys ≡ length ss → greedy_count ss (xs ++ ys) ≡ length xs
count_first ss xs ys same = let both = length-append xs ys in omega (arith, both, same)

pub take_first : (ss : List Segment) (xs ys : List (List ℕ)) → length ys ≡ length ss → greedy_text ss (xs ++ ys) ≡ join_with_byte slash xs
take_first ss xs ys same =
    ap (λ n. join_with_byte slash (take n (xs ++ ys))) (count_first ss xs ys same) ∙ ap (join_with_byte slash) (take-append_seam xs ys)

pub drop_first : (ss : List Segment) (xs ys : List (List ℕ)) → length ys ≡ length ss → drop (greedy_count ss (xs ++ ys)) (xs ++ ys) ≡ ys
drop_first ss xs ys same =
    ap (λ n. drop n (xs ++ ys)) (count_first ss xs ys same ∙ add_none (length xs)) ∙ drop-append-add xs ys 0
  where
    add_none : (n : ℕ) → n ≡ n + 0
    add_none n = omega arith

module _ (labels : List LabelText) where
  -- what stands behind the slash of a segment, and the pieces in which it is cut
  abbrev segment_text : Segment → List ℕ
  segment_text (Literal text) = escaped text
  segment_text (Label name) = escaped (label_text name labels)
  segment_text (Greedy name) = escaped_path (label_text name labels)

  behind_slash : (s : Segment) → written_segment labels s ≡ slash ∷ segment_text s
  behind_slash (Literal text) = refl
  behind_slash (Label name) = refl
  behind_slash (Greedy name) = refl

  abbrev pub pieces_of : List Segment → List (List ℕ)
  pieces_of [] = []
  pieces_of (s ∷ ss) = slice_split is_slash (segment_text s) ++ pieces_of ss

  path_pieces : (s : Segment) (ss : List Segment)
      → slice_split is_slash (segment_text s ++ flat_map (written_segment labels) ss) ≡ pieces_of (s ∷ ss)
  path_pieces s [] =
      ap (slice_split is_slash) (append-nil (segment_text s)) ∙ sym (append-nil (slice_split is_slash (segment_text s)))
  path_pieces s (r ∷ ss) =
      ap (λ u. slice_split is_slash (segment_text s ++ (u ++ flat_map (written_segment labels) ss))) (behind_slash r)
      ∙ split_both (segment_text s) (segment_text r ++ flat_map (written_segment labels) ss)
      ∙ ap (λ ps. slice_split is_slash (segment_text s) ++ ps) (path_pieces r ss)

  pub segments_again : (s : Segment) (ss : List Segment) → is_filled (segment_text s) ≡ true
      → segments_of (written_path (s ∷ ss) labels) ≡ Some (pieces_of (s ∷ ss))
  segments_again s ss some =
      let rest = flat_map (written_segment labels) ss in
      ap (λ u. segments_of (u ++ rest)) (behind_slash s) ∙ ap (λ ps. Some ps) (split_filled (segment_text s) rest some ∙ path_pieces s ss)

  pub first_filled : (s : Segment) (ss : List Segment) → is_segment s ≡ true → AreAllLabelled labels (label_names (s ∷ ss))
      → is_filled (segment_text s) ≡ true
  first_filled (Literal text) ss h has = escaped_filled text (literal_filled text h)
  first_filled (Label name) ss h has = escaped_filled (label_text name labels) has.0.0
  first_filled (Greedy name) ss h has = escaped_path_filled (label_text name labels) has.0.0

  -- behind a greedy label stand literals alone
  pub literals_alone : (ss : List Segment) → label_names ss ≡ [] → length (pieces_of ss) ≡ length ss
  literals_alone [] h = refl
  literals_alone (Literal text ∷ ss) h = ap (λ ps. length (ps ++ pieces_of ss)) (one_piece text) ∙ ap suc (literals_alone ss h)
  literals_alone (Label name ∷ ss) h = absurd cc
  literals_alone (Greedy name ∷ ss) h = absurd cc

  no_labels : (ss : List Segment) → label_names ss ≡ [] → labels_of ss (pieces_of ss) ≡ []
  no_labels [] h = refl
  no_labels (Literal text ∷ ss) h = ap (λ ps. labels_of (Literal text ∷ ss) (ps ++ pieces_of ss)) (one_piece text) ∙ no_labels ss h
  no_labels (Label name ∷ ss) h = absurd cc
  no_labels (Greedy name ∷ ss) h = absurd cc

  greedy_again : (name : List ℕ) (ss : List Segment) → label_names ss ≡ [] → IsLabelled labels name
      → labels_of (Greedy name ∷ ss) (pieces_of (Greedy name ∷ ss)) ≡ texts_for (label_names (Greedy name ∷ ss)) labels
  greedy_again name ss last has =
      let text = label_text name labels in
      let own = slice_split is_slash (escaped_path text) in
      let rest = pieces_of ss in
      let same = literals_alone ss last in
      greedy_by name ss (own ++ rest) (some_before own rest (some_parts is_slash (escaped_path text)))
      ∙ ap (λ u. (name, percent_decode u) ∷ labels_of ss (drop (greedy_count ss (own ++ rest)) (own ++ rest)))
      (take_first ss own rest same ∙ join_with_byte-slice_split slash (escaped_path text))
      ∙ ap (λ ps. (name, percent_decode (escaped_path text)) ∷ labels_of ss ps) (drop_first ss own rest same)
      ∙ ap (λ u. (name, u) ∷ labels_of ss rest) (decoded_path text has.1)
      ∙ ap (λ ls. (name, text) ∷ ls) (no_labels ss last)
      ∙ ap (λ names. (name, text) ∷ texts_for names labels) (sym last)

  labels_again : (ss : List Segment) → IsGreedyLast ss → AreAllLabelled labels (label_names ss)
      → labels_of ss (pieces_of ss) ≡ texts_for (label_names ss) labels
  labels_again [] last has = refl
  labels_again (Literal text ∷ ss) last has =
      ap (λ ps. labels_of (Literal text ∷ ss) (ps ++ pieces_of ss)) (one_piece text) ∙ labels_again ss last has
  labels_again (Label name ∷ ss) last has =
      let text = label_text name labels in
      ap (λ ps. labels_of (Label name ∷ ss) (ps ++ pieces_of ss)) (one_piece text)
      ∙ ap (λ u. (name, u) ∷ labels_of ss (pieces_of ss)) (decoded_again text has.0.1)
      ∙ ap (λ ls. (name, text) ∷ ls) (labels_again ss last has.1)
  labels_again (Greedy name ∷ ss) last has = greedy_again name ss last has.0

  path_labels : (ss : List Segment) → IsTrue (list_all is_segment ss) → IsGreedyLast ss → AreAllLabelled labels (label_names ss)
      → labels_by ss (segments_of (written_path ss labels)) ≡ texts_for (label_names ss) labels
  path_labels [] are last has = refl
  path_labels (s ∷ ss) are last has =
      ap (labels_by (s ∷ ss)) (segments_again s ss (first_filled s ss (and_first (is_segment s) (list_all is_segment ss) are) has))
      ∙ labels_again (s ∷ ss) last has

  -- no question mark stands in it, so it ends where the query begins
  segment_no : (s : Segment) → HasNo question_mark (written_segment labels s)
  segment_no (Literal text) =
      All-cons (λ c. (c == question_mark) ≡ false) slash (escaped text) refl (escaped_no question_mark refl no_question_mark text)
  segment_no (Label name) =
      All-cons (λ c. (c == question_mark) ≡ false) slash (escaped (label_text name labels)) refl
      (escaped_no question_mark refl no_question_mark (label_text name labels))
  segment_no (Greedy name) =
      All-cons (λ c. (c == question_mark) ≡ false) slash (escaped_path (label_text name labels)) refl
      (escaped_path_no question_mark refl no_question_mark refl (label_text name labels))

  segments_no : (ss : List Segment) → HasNo question_mark (flat_map (written_segment labels) ss)
  segments_no [] = All-nil (λ c. (c == question_mark) ≡ false)
  segments_no (s ∷ ss) =
      All-append (λ c. (c == question_mark) ≡ false) (written_segment labels s) (flat_map (written_segment labels) ss) (segment_no s)
      (segments_no ss)

  pub path_no : (ss : List Segment) → HasNo question_mark (written_path ss labels)
  path_no [] = All-cons (λ c. (c == question_mark) ≡ false) slash [] refl (All-nil (λ c. (c == question_mark) ≡ false))
  path_no (s ∷ ss) = segments_no (s ∷ ss)

  pub path_before : (ss : List Segment) (ps : List (List ℕ)) → path_of (written_path ss labels ++ written_query ps) ≡ written_path ss labels
  path_before ss [] = ap path_of (append-nil (written_path ss labels)) ∙ whole_before is_question_mark (written_path ss labels) (path_no ss)
  path_before ss (p ∷ ps) =
      cut_before is_question_mark (written_path ss labels) question_mark (join_with_byte ampersand (p ∷ ps)) (path_no ss) refl

  pub labels_read : (ss : List Segment) (ps : List (List ℕ)) → IsTrue (list_all is_segment ss) → IsGreedyLast ss
      → AreAllLabelled labels (label_names ss)
      → labels_by ss (segments_of (path_of (written_path ss labels ++ written_query ps))) ≡ texts_for (label_names ss) labels
  labels_read ss ps are last has =
      ap (λ u. labels_by ss (segments_of u)) (path_before ss ps) ∙ path_labels ss are last has
