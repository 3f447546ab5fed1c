-- A walk along a pattern and a path.
use Rattle.std.proofs.Common.{◌≡◌, ℕ, zero, suc, ◌+◌, List, [], ◌∷◌, drop, length, Bool, true, false, ◌&&◌, cond, refl, sym, ap, ◌∙◌, subst, arith}
use Rattle.std.specs.Prelude.{Option}
use Rattle.std.specs.Option.{option_copied}
use Rattle.std.specs.Str.{bytes_eq}
use Rattle.std.specs.declared.cmp.Ordering.{Ordering}
use Rattle.std.specs.declared.cmp.Ordering.TheVariants.{Less, Equal, Greater}
use Rattle.std.proofs.lemmas.Bool.{and_from, and_parts, both_ways}
use Rattle.std.proofs.lemmas.List.{drop-drop}
use Rattle.std.proofs.lemmas.Map.Lookups.{exact_bytes}
use Rattle.std.proofs.lemmas.Slice.Eq.{bytes_eq-Decides}
use Rattle.percent_encoding.specs.Percent.{percent_decode}
use Rattle.sm_model.specs.Graphs.{text_cmp}
use Rattle.sm_uri.specs.declared.pattern.Segment.{Segment}
use Rattle.sm_uri.specs.declared.pattern.Segment.TheVariants.{Literal, Label, Greedy}
use Rattle.sm_parts.specs.HeaderLists.{is_filled}
use Rattle.sm_routes.specs.Routes.{segments_match}
use Rattle.sm_routes.specs.declared.stand.Stand.{Stand}
use Rattle.sm_routes.specs.declared.stand.Stand.TheVariants.{Over, Open}
use Rattle.sm_routes.specs.declared.walk.Stop.{Stop}
use Rattle.sm_routes.specs.steps.Passing.{StopsAt, begin_alike, first_piece, is_alike, is_wide, literal_stand, misses, stand_of}

-- what code has tested of the next segments
pub live : (test : Stand → Bool) (own : List Segment) (piece : Option (List ℕ)) (left : List (List ℕ)) (stand : Stand) (b : Bool)
    → stand ≡ stand_of own piece → piece ≡ first_piece left → b ≡ test stand → b ≡ false → test (stand_of own (first_piece left)) ≡ false
live test own piece left stand b is first h e = ap test (ap (stand_of own) (sym first) ∙ sym is) ∙ sym h ∙ e

-- what a walk has passed, and what is left
pub record Walked (segments : List Segment) (pieces : List (List ℕ)) (depth : ℕ) (own : List Segment) (left : List (List ℕ)) : Type 0 where
  pub begins : begin_alike depth segments segments ≡ true
  pub own_is : drop depth segments ≡ own
  pub left_is : drop depth pieces ≡ left
  pub same : segments_match own left ≡ segments_match segments pieces

pub walk_begun : (segments : List Segment) (pieces : List (List ℕ)) → Walked segments pieces 0 segments pieces
walk_begun segments pieces = record { begins = refl; own_is = refl; left_is = refl; same = refl }

literal_tied : (t p : List ℕ) (o : Ordering) → text_cmp t (percent_decode p) ≡ o → misses (literal_stand o) ≡ false
    → bytes_eq (percent_decode p) t ≡ true
literal_tied t p Less e h = absurd (both_ways true h refl)
literal_tied t p Equal e h = (bytes_eq-Decides (percent_decode p) t).1 (sym (exact_bytes t (percent_decode p) e))
literal_tied t p Greater e h = absurd (both_ways true h refl)

label_filled : (b : Bool) → misses (cond b Open Over) ≡ false → b ≡ true
label_filled true h = refl
label_filled false h = absurd (both_ways true h refl)

-- a segment that takes one
goes_on : (s : Segment) (more : List Segment) (left : List (List ℕ)) → misses (stand_of (s ∷ more) (first_piece left)) ≡ false
    → is_wide (stand_of (s ∷ more) (first_piece left)) ≡ false → segments_match (s ∷ more) left ≡ segments_match more (drop 1 left)
goes_on s more [] h narrow = absurd (both_ways true h refl)
goes_on (Literal t) more (p ∷ ps) h narrow =
    ap (λ b. b && segments_match more ps) (literal_tied t p (text_cmp t (percent_decode p)) refl h)
goes_on (Label t) more (p ∷ ps) h narrow = ap (λ b. b && segments_match more ps) (label_filled (is_filled p) h)
goes_on (Greedy t) more (p ∷ ps) h narrow = absurd (both_ways true narrow refl)

-- it isn't greedy
plain : (s : Segment) (more : List Segment) (left : List (List ℕ)) → misses (stand_of (s ∷ more) (first_piece left)) ≡ false
    → is_wide (stand_of (s ∷ more) (first_piece left)) ≡ false → is_alike s s ≡ true
plain s more [] h narrow = absurd (both_ways true h refl)
plain (Literal t) more (p ∷ ps) h narrow = (bytes_eq-Decides t t).1 refl
plain (Label t) more (p ∷ ps) h narrow = refl
plain (Greedy t) more (p ∷ ps) h narrow = absurd (both_ways true narrow refl)

abbrev head_alike : List Segment → Bool
head_alike [] = true
head_alike (u ∷ us) = is_alike u u

begin_more : (depth : ℕ) (segments : List Segment) (s : Segment) (more : List Segment) → begin_alike depth segments segments ≡ true
    → drop depth segments ≡ s ∷ more → is_alike s s ≡ true → begin_alike (suc depth) segments segments ≡ true
begin_more zero [] s more begins e h = absurd (omega (arith, ap length e))
begin_more zero (t ∷ ts) s more begins e h =
    and_from (is_alike t t) true (subst (λ l. head_alike l ≡ true) (sym e) h) refl
begin_more (suc depth) [] s more begins e h = absurd (both_ways false refl begins)
begin_more (suc depth) (t ∷ ts) s more begins e h =
    let parts = and_parts (is_alike t t) (begin_alike depth ts ts) begins in
    and_from (is_alike t t) (begin_alike (suc depth) ts ts) parts.0 (begin_more depth ts s more parts.1 e h)

module _ (segments : List Segment) (pieces : List (List ℕ)) (depth : ℕ) (own : List Segment) (left : List (List ℕ))
    (w : Walked segments pieces depth own left) where
  pub walk_on : (s : Segment) (more : List Segment) → own ≡ s ∷ more → misses (stand_of own (first_piece left)) ≡ false
      → is_wide (stand_of own (first_piece left)) ≡ false → Walked segments pieces (depth + 1) more (drop 1 left)
  walk_on s more is h narrow =
      let taken = subst (λ l. misses (stand_of l (first_piece left)) ≡ false) is h in
      let thin = subst (λ l. is_wide (stand_of l (first_piece left)) ≡ false) is narrow in
      let next : suc depth ≡ depth + 1 = omega arith in
      record {
        begins = subst (λ n. begin_alike n segments segments ≡ true) next
            (begin_more depth segments s more w.begins (w.own_is ∙ is) (plain s more left taken thin));
        own_is = sym (drop-drop 1 depth segments) ∙ ap (drop 1) (w.own_is ∙ is);
        left_is = sym (drop-drop 1 depth pieces) ∙ ap (drop 1) w.left_is;
        same = sym (goes_on s more left taken thin) ∙ sym (ap (λ l. segments_match l left) is) ∙ w.same;
      }

  pub walk_stops : (stop : Stop) → stop.depth ≡ depth → option_copied stop.piece ≡ first_piece left
      → stop.stand ≡ stand_of own (option_copied stop.piece) → misses stop.stand ≡ true → StopsAt segments pieces stop
  walk_stops stop d first is miss = record {
    begins = subst (λ n. begin_alike n segments segments ≡ true) (sym d) w.begins;
    piece = first ∙ ap first_piece (sym w.left_is ∙ ap (λ n. drop n pieces) (sym d));
    stand = ap (λ n. stand_of (drop n segments) (option_copied stop.piece)) d
        ∙ ap (λ l. stand_of l (option_copied stop.piece)) w.own_is ∙ sym is;
    missed = miss;
  }

  -- where no segment is left, and the path hasn't more
  pub walk_ends : own ≡ [] → misses (stand_of own (first_piece left)) ≡ false → segments_match segments pieces ≡ true
  walk_ends is h = sym w.same ∙ ap (λ l. segments_match l left) is
      ∙ all_taken left (subst (λ l. misses (stand_of l (first_piece left)) ≡ false) is h)
    where
      all_taken : (left : List (List ℕ)) → misses (stand_of [] (first_piece left)) ≡ false → segments_match [] left ≡ true
      all_taken [] h = refl
      all_taken (p ∷ ps) h = absurd (both_ways true h refl)
