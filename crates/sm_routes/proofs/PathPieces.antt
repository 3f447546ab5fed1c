-- Segments of paths, cut one after the other.
use Rattle.std.proofs.Common.{◌≡◌, ℕ, zero, suc, ◌+◌, ◌-◌, ◌<◌, ◌≤◌, List, [], ◌∷◌, ◌++◌, length, take, drop, Bool, true, false, not, ◌&&◌, cond, refl}
use Rattle.std.proofs.Common.{sym, ap, ◌∙◌, subst, append_assoc, length-append, arith}
use Rattle.std.specs.Prelude.{nat_lt, is_none, is_some, Option, Some, None}
use Rattle.std.specs.List.{join_with_byte, onto_first, slice_split}
use Rattle.std.specs.Str.{bytes_eq}
use Rattle.std.proofs.Math.Seq.{drop-append-add, take-add, take-append-add, take-append_seam}
use Rattle.std.proofs.lemmas.List.{drop-drop, length-drop, take-append-drop, take_rest}
use Rattle.std.proofs.lemmas.Bool.{false_from_ne_true}
use Rattle.std.proofs.lemmas.Bool.Decides.{Decides-ltb}
use denote.Ref.{Bor}
use Rattle.percent_encoding.specs.Percent.{percent_decode}
use Rattle.sm_bytes.specs.Ascii.{slash}
use Rattle.sm_uri.specs.declared.pattern.Segment.{Segment}
use Rattle.sm_uri.specs.declared.pattern.Segment.TheVariants.{Literal, Label, Greedy}
use Rattle.sm_parts.specs.Cuts.{IsCutBy, IsFirstPiece, IsWhole}
use Rattle.sm_parts.specs.HeaderLists.{is_filled}
use Rattle.sm_parts.specs.Targets.{is_slash}
use Rattle.sm_routes.specs.Routes.{greedy_count, greedy_text, segments_match}
use Rattle.sm_routes.specs.steps.Matching.{pieces_left}

-- a path cut at its first slash
pub cut_pieces : (rest taken : List ℕ) (behind : Option (Bor (List ℕ))) → IsCutBy slash rest taken behind
    → slice_split is_slash rest ≡ taken ∷ pieces_left behind
cut_pieces rest taken None h = h.split
cut_pieces rest taken (Some behind) h = h.split

module _ (more : List Segment) (rest taken : List ℕ) (behind : Option (Bor (List ℕ))) (cut : IsCutBy slash rest taken behind) where
  pub literal_goes : (text : List ℕ) → bytes_eq (percent_decode taken) text ≡ true
      → segments_match (Literal text ∷ more) (slice_split is_slash rest) ≡ segments_match more (pieces_left behind)
  literal_goes text h =
      ap (segments_match (Literal text ∷ more)) (cut_pieces rest taken behind cut)
      ∙ ap (λ t. t && segments_match more (pieces_left behind)) h

  pub literal_ends : (text : List ℕ) → bytes_eq (percent_decode taken) text ≡ false
      → segments_match (Literal text ∷ more) (slice_split is_slash rest) ≡ false
  literal_ends text h =
      ap (segments_match (Literal text ∷ more)) (cut_pieces rest taken behind cut)
      ∙ ap (λ t. t && segments_match more (pieces_left behind)) h

  pub label_goes : (name : List ℕ) → is_filled taken ≡ true
      → segments_match (Label name ∷ more) (slice_split is_slash rest) ≡ segments_match more (pieces_left behind)
  label_goes name h =
      ap (segments_match (Label name ∷ more)) (cut_pieces rest taken behind cut)
      ∙ ap (λ t. t && segments_match more (pieces_left behind)) h

  pub label_ends : (name : List ℕ) → is_filled taken ≡ false → segments_match (Label name ∷ more) (slice_split is_slash rest) ≡ false
  label_ends name h =
      ap (segments_match (Label name ∷ more)) (cut_pieces rest taken behind cut)
      ∙ ap (λ t. t && segments_match more (pieces_left behind)) h

pub filled_is : (u : List ℕ) → (length u ≡ 0 → ⊥) → is_filled u ≡ true
filled_is [] h = absurd (h refl)
filled_is (b ∷ u) h = refl

pub filled_is_none : (u : List ℕ) → length u ≡ 0 → is_filled u ≡ false
filled_is_none [] h = refl
filled_is_none (b ∷ u) h = absurd (omega (arith, h))

-- there is a segment at least
pub record HasPiece (pieces : List (List ℕ)) : Type 0 where
  pub first : List ℕ
  pub more : List (List ℕ)
  pub are : pieces ≡ first ∷ more

onto_some : (b : ℕ) (pieces : List (List ℕ)) → HasPiece (onto_first b pieces)
onto_some b [] = record { first = b ∷ []; more = []; are = refl }
onto_some b (piece ∷ pieces) = record { first = b ∷ piece; more = pieces; are = refl }

some_by : (t : Bool) (b : ℕ) (pieces : List (List ℕ)) → HasPiece (cond t ([] ∷ pieces) (onto_first b pieces))
some_by true b pieces = record { first = []; more = pieces; are = refl }
some_by false b pieces = onto_some b pieces

pub some_piece : (path : List ℕ) → HasPiece (slice_split is_slash path)
some_piece [] = record { first = []; more = []; are = refl }
some_piece (b ∷ path) = some_by (is_slash b) b (slice_split is_slash path)

-- a greedy label before other segments
greedy_by : (name : List ℕ) (more : List Segment) (pieces : List (List ℕ)) → HasPiece pieces
    → segments_match (Greedy name ∷ more) pieces
    ≡ (nat_lt (length more) (length pieces)
    && (is_filled (greedy_text more pieces) && segments_match more (drop (greedy_count more pieces) pieces)))
greedy_by name more pieces some =
    subst (λ ps. segments_match (Greedy name ∷ more) ps
    ≡ (nat_lt (length more) (length ps) && (is_filled (greedy_text more ps) && segments_match more (drop (greedy_count more ps) ps))))
    (sym some.are) refl

pub greedy_short : (name : List ℕ) (more : List Segment) (path : List ℕ) → (length more < length (slice_split is_slash path) → ⊥)
    → segments_match (Greedy name ∷ more) (slice_split is_slash path) ≡ false
greedy_short name more path h =
    let pieces = slice_split is_slash path in
    greedy_by name more pieces (some_piece path)
    ∙ ap (λ t. t && (is_filled (greedy_text more pieces) && segments_match more (drop (greedy_count more pieces) pieces)))
    (false_from_ne_true (nat_lt (length more) (length pieces)) (λ e. h ((Decides-ltb (length more) (length pieces)).0 e)))

module _ (name : List ℕ) (more : List Segment) (path taken : List ℕ) (left : List (List ℕ))
    (long : length more < length (slice_split is_slash path))
    (is_taken : join_with_byte slash (take (length (slice_split is_slash path) - length more) (slice_split is_slash path)) ≡ taken)
    (is_left : drop (length (slice_split is_slash path) - length more) (slice_split is_slash path) ≡ left) where
  greedy_is : segments_match (Greedy name ∷ more) (slice_split is_slash path) ≡ (is_filled taken && segments_match more left)
  greedy_is =
      let pieces = slice_split is_slash path in
      greedy_by name more pieces (some_piece path)
      ∙ ap (λ t. t && (is_filled (greedy_text more pieces) && segments_match more (drop (greedy_count more pieces) pieces)))
      ((Decides-ltb (length more) (length pieces)).1 long)
      ∙ ap (λ t. is_filled t && segments_match more (drop (greedy_count more pieces) pieces)) is_taken
      ∙ ap (λ ps. is_filled taken && segments_match more ps) is_left

  pub greedy_goes : is_filled taken ≡ true → segments_match (Greedy name ∷ more) (slice_split is_slash path) ≡ segments_match more left
  greedy_goes h = greedy_is ∙ ap (λ t. t && segments_match more left) h

  pub greedy_ends : is_filled taken ≡ false → segments_match (Greedy name ∷ more) (slice_split is_slash path) ≡ false
  greedy_ends h = greedy_is ∙ ap (λ t. t && segments_match more left) h

-- what a walk over the first segments has passed, and what of them is left
pub record IsWalked (count : ℕ) (path : List ℕ) (len left : ℕ) (rest : List ℕ) : Type 0 where
  pub within : len ≤ length path
  pub is_rest : drop len path ≡ rest
  pub some : 0 < left
  pub few : left ≤ length (slice_split is_slash rest)
  pub joined : join_with_byte slash (take count (slice_split is_slash path))
      ≡ take len path ++ join_with_byte slash (take left (slice_split is_slash rest))
  pub behind : drop count (slice_split is_slash path) ≡ drop left (slice_split is_slash rest)

pub walk_begun : (count : ℕ) (path : List ℕ) → 0 < count → count ≤ length (slice_split is_slash path) → IsWalked count path 0 count path
walk_begun count path some few = record { within = omega arith; is_rest = refl; some = some; few = few; joined = refl; behind = refl }

last_one : (pieces : List (List ℕ)) (left : ℕ) (taken : List ℕ) → 0 < left → left ≤ length pieces → pieces ≡ taken ∷ [] → left ≡ 1
last_one pieces left taken some few e = omega (arith, some, subst (λ ps. left ≤ length ps) e few)

two_more : (left : ℕ) → (left - 1 ≡ 0 → ⊥) → 0 < left → left ≡ suc (suc (left - 2))
two_more zero more some = absurd (omega (arith, some))
two_more (suc zero) more some = absurd (more (omega arith))
two_more (suc (suc n)) more some = omega arith

one_less : (left : ℕ) → (left - 1 ≡ 0 → ⊥) → 0 < left → left - 1 ≡ suc (left - 2)
one_less left more some = omega (arith, two_more left more some)

module _ (count : ℕ) (path : List ℕ) (len left : ℕ) (rest taken : List ℕ) (w : IsWalked count path len left rest) where
  pub walk_last : IsWhole slash rest taken → join_with_byte slash (take count (slice_split is_slash path)) ≡ path
  walk_last h =
      let one = last_one (slice_split is_slash rest) left taken w.some w.few h.split in
      w.joined ∙ ap (λ ps. take len path ++ join_with_byte slash (take left ps)) h.split
      ∙ ap (λ n. take len path ++ join_with_byte slash (take n (taken ∷ []))) one
      ∙ ap (λ u. take len path ++ u) (h.all ∙ sym w.is_rest) ∙ take-append-drop len path

  pub walk_last_left : IsWhole slash rest taken → drop count (slice_split is_slash path) ≡ []
  walk_last_left h =
      let one = last_one (slice_split is_slash rest) left taken w.some w.few h.split in
      w.behind ∙ ap (drop left) h.split ∙ ap (λ n. drop n (taken ∷ [])) one

  module _ (behind : List ℕ) (h : IsFirstPiece slash rest taken behind) where
    taken_first : take (length taken) (drop len path) ≡ taken
    taken_first = ap (take (length taken)) (w.is_rest ∙ h.all) ∙ take-append_seam taken (slash ∷ behind)

    long_enough : len + length taken + 1 ≤ length path
    long_enough =
        let whole : length rest ≡ length path - len = ap length (sym w.is_rest) ∙ length-drop len path in
        let parts : length rest ≡ length (taken ++ slash ∷ behind) = ap length h.all in
        omega (arith, w.within, whole, parts, length-append taken (slash ∷ behind))

    pub walk_cut : left ≡ 1 → join_with_byte slash (take count (slice_split is_slash path)) ≡ take (len + length taken) path
    walk_cut one =
        w.joined ∙ ap (λ n. take len path ++ join_with_byte slash (take n (slice_split is_slash rest))) one
        ∙ ap (λ ps. take len path ++ join_with_byte slash (take 1 ps)) h.split
        ∙ ap (λ u. take len path ++ u) (sym taken_first) ∙ sym (take-add len (length taken) path)

    pub walk_cut_left : left ≡ 1 → drop count (slice_split is_slash path) ≡ slice_split is_slash behind
    walk_cut_left one =
        w.behind ∙ ap (λ n. drop n (slice_split is_slash rest)) one ∙ ap (drop 1) h.split

    joined_on : (n : ℕ) → left ≡ suc (suc n)
        → join_with_byte slash (take left (slice_split is_slash rest))
        ≡ taken ++ slash ∷ join_with_byte slash (take (suc n) (slice_split is_slash behind))
    joined_on n e =
        let next = some_piece behind in
        ap (λ k. join_with_byte slash (take k (slice_split is_slash rest))) e
        ∙ ap (λ ps. join_with_byte slash (take (suc (suc n)) ps)) (h.split ∙ ap (λ ps. taken ∷ ps) next.are)
        ∙ sym (ap (λ ps. taken ++ slash ∷ join_with_byte slash (take (suc n) ps)) next.are)

    front : take (len + length taken + 1) path ≡ take len path ++ (taken ++ (slash ∷ []))
    front =
        ap (λ n. take n path) (same_sum len (length taken)) ∙ take-add len (length taken + 1) path
        ∙ ap (λ u. take len path ++ take (length taken + 1) u) (w.is_rest ∙ h.all)
        ∙ ap (λ u. take len path ++ u) (take-append-add taken (slash ∷ behind) 1)
      where
        same_sum : (a b : ℕ) → a + b + 1 ≡ a + (b + 1)
        same_sum a b = omega arith

    rest_on : drop (len + length taken + 1) path ≡ behind
    rest_on =
        ap (λ n. drop n path) (same_sum len (length taken)) ∙ sym (drop-drop (length taken + 1) len path)
        ∙ ap (drop (length taken + 1)) (w.is_rest ∙ h.all) ∙ drop-append-add taken (slash ∷ behind) 1
      where
        same_sum : (a b : ℕ) → a + b + 1 ≡ a + (b + 1)
        same_sum a b = omega arith

    pub walk_on : (n : ℕ) → left ≡ suc (suc n) → IsWalked count path (len + length taken + 1) (suc n) behind
    walk_on n e = record {
      within = long_enough;
      is_rest = rest_on;
      some = omega arith;
      few = omega (arith, e, w.few, ap length h.split);
      joined = w.joined ∙ ap (λ u. take len path ++ u) (joined_on n e)
          ∙ ap (λ u. take len path ++ u) (sym (append_assoc taken (slash ∷ []) (join_with_byte slash (take (suc n) (slice_split is_slash behind)))))
          ∙ sym (append_assoc (take len path) (taken ++ slash ∷ []) (join_with_byte slash (take (suc n) (slice_split is_slash behind))))
          ∙ ap (λ u. u ++ join_with_byte slash (take (suc n) (slice_split is_slash behind))) (sym front);
      behind = w.behind ∙ ap (λ k. drop k (slice_split is_slash rest)) e ∙ ap (drop (suc (suc n))) h.split;
    }

    pub walk_next : (left - 1 ≡ 0 → ⊥)
        → IsWalked count path (len + length taken + 1) (left - 1) (drop (len + length taken + 1) path)
    walk_next more =
        let two = two_more left more w.some in
        subst (λ k. IsWalked count path (len + length taken + 1) k (drop (len + length taken + 1) path)) (sym (one_less left more w.some))
        (subst (λ u. IsWalked count path (len + length taken + 1) (suc (left - 2)) u) (sym rest_on) (walk_on (left - 2) two))

-- what stands behind the passed segments is cut at its first slash
pub cut_on : (path taken : List ℕ) (len : ℕ) (behind : Option (Bor (List ℕ))) → IsCutBy slash (take (length path - len) (drop len path)) taken behind
    → IsCutBy slash (drop len path) taken behind
cut_on path taken len behind h = subst (λ u. IsCutBy slash u taken behind) (take_rest path len) h

pub only_one : (left : ℕ) → 0 < left → left - 1 ≡ 0 → left ≡ 1
only_one left some e = omega (arith, some, e)

-- where no segment of a pattern is left
pub no_more : (left : Option (Bor (List ℕ))) → is_none left ≡ segments_match [] (pieces_left left)
no_more None = refl
no_more (Some path) = let some = some_piece path.now in sym (ap (segments_match []) some.are)

pub none_of : (own : List Segment) (left : Option (Bor (List ℕ))) → length own ≡ 0 → is_none left ≡ segments_match own (pieces_left left)
none_of [] left h = no_more left
none_of (s ∷ own) left h = absurd (omega (arith, h))

-- what asking whether there is none answers
pub none_is : (left : Option (Bor (List ℕ))) (r : Bool) → is_some left ≡ not r → r ≡ is_none left
none_is None true h = refl
none_is None false h = h
none_is (Some path) true h = h
none_is (Some path) false h = refl
