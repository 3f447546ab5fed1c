-- The label that a greedy segment is, and texts in order.
use Rattle.std.proofs.Common.{◌≡◌, ℕ, ◌<◌, ◌≤◌, ◌-◌, List, [], ◌∷◌, length, take, drop, refl, sym, ap, ◌∙◌, subst, arith}
use Rattle.std.specs.List.{join_with_byte, slice_split}
use Rattle.std.specs.declared.cmp.Ordering.TheVariants.{Greater}
use Rattle.std.proofs.lemmas.List.{drop_more}
use Rattle.percent_encoding.specs.Percent.{percent_decode}
use Rattle.sm_bytes.specs.Ascii.{slash}
use Rattle.sm_model.specs.Graphs.{text_cmp}
use Rattle.sm_uri.specs.declared.pattern.Segment.{Segment}
use Rattle.sm_uri.specs.declared.pattern.Segment.TheVariants.{Greedy}
use Rattle.sm_parts.specs.Targets.{is_slash}
use Rattle.sm_routes.specs.Routes.{greedy_count, greedy_text, labels_of}
use Rattle.sm_routes.proofs.PathPieces.{HasPiece, some_piece}

greedy_label : (name : List ℕ) (more : List Segment) (pieces : List (List ℕ)) → HasPiece pieces
    → labels_of (Greedy name ∷ more) pieces
    ≡ (name, percent_decode (greedy_text more pieces)) ∷ labels_of more (drop (greedy_count more pieces) pieces)
greedy_label name more pieces some =
    subst (λ ps. labels_of (Greedy name ∷ more) ps
    ≡ (name, percent_decode (greedy_text more ps)) ∷ labels_of more (drop (greedy_count more ps) ps))
    (sym some.are) refl

-- no segment is left for it
pub greedy_none : (name : List ℕ) (more : List Segment) (path : List ℕ) → length (slice_split is_slash path) ≤ length more
    → labels_of (Greedy name ∷ more) (slice_split is_slash path)
    ≡ (name, percent_decode []) ∷ labels_of more (slice_split is_slash path)
greedy_none name more path h =
    let pieces = slice_split is_slash path in
    let zero_left : length pieces - length more ≡ 0 = omega (arith, h) in
    greedy_label name more pieces (some_piece path)
    ∙ ap (λ n. (name, percent_decode (join_with_byte slash (take n pieces))) ∷ labels_of more (drop n pieces)) zero_left

-- the first so many are taken
pub greedy_some : (name : List ℕ) (more : List Segment) (path taken : List ℕ) (left : List (List ℕ))
    → join_with_byte slash (take (length (slice_split is_slash path) - length more) (slice_split is_slash path)) ≡ taken
    → drop (length (slice_split is_slash path) - length more) (slice_split is_slash path) ≡ left
    → labels_of (Greedy name ∷ more) (slice_split is_slash path) ≡ (name, percent_decode taken) ∷ labels_of more left
greedy_some name more path taken left is_taken is_left =
    let pieces = slice_split is_slash path in
    greedy_label name more pieces (some_piece path)
    ∙ ap (λ u. (name, percent_decode u) ∷ labels_of more (drop (greedy_count more pieces) pieces)) is_taken
    ∙ ap (λ ps. (name, percent_decode taken) ∷ labels_of more ps) is_left

-- a text that goes on where another ends
pub text_longer : (text other : List ℕ) (i d : ℕ) → i < length text → other ≡ [] → text_cmp (drop i text) other ≡ Greater
text_longer text other i d h e = ap (text_cmp (drop i text)) e ∙ ap (λ l. text_cmp l []) (drop_more text i d h)
