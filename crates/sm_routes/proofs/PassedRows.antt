-- What stands between two patterns that begin alike and miss alike misses too.
use Rattle.std.proofs.Common.{◌≡◌, ℕ, zero, suc, ◌≤◌, List, [], ◌∷◌, drop, Bool, true, false, ◌&&◌, cond, refl, sym, ap, ◌∙◌, subst, arith}
use Rattle.std.specs.Prelude.{Option, Some, None}
use Rattle.std.specs.Cmp.Lexicographic.{nat_list_cmp_total}
use Rattle.std.specs.Ordering.{is_lt, ordering_reverse, ordering_then}
use Rattle.std.specs.Str.{bytes_eq}
use Rattle.std.specs.declared.cmp.Ordering.{Ordering}
use Rattle.std.specs.declared.cmp.Ordering.TheVariants.{Less, Equal, Greater}
use Rattle.std.proofs.lemmas.Bool.{and_parts, and_right, both_ways}
use Rattle.std.proofs.lemmas.Cmp.{alike_right, tied_itself}
use Rattle.std.proofs.lemmas.Slice.Eq.{bytes_eq-Decides}
use Rattle.percent_encoding.specs.Percent.{percent_decode}
use Rattle.sm_model.specs.Graphs.{text_cmp}
use Rattle.sm_uri.specs.declared.pattern.Segment.{Segment}
use Rattle.sm_uri.specs.declared.pattern.Segment.TheVariants.{Literal, Label, Greedy}
use Rattle.sm_parts.specs.HeaderLists.{is_filled}
use Rattle.sm_routes.specs.KeptOrder.{places_cmp}
use Rattle.sm_routes.specs.Routes.{segments_match}
use Rattle.sm_routes.specs.declared.stand.Stand.{Stand}
use Rattle.sm_routes.specs.declared.stand.Stand.TheVariants.{Under, Alike, Over, Open, Wide, Short}
use Rattle.sm_routes.specs.steps.Passing.{begin_alike, first_piece, literal_stand, misses, stand_of}

-- the order in which patterns that begin alike stand to the next segment of a path
abbrev stand_rank : Stand → ℕ
stand_rank Under = 0
stand_rank Alike = 1
stand_rank Over = 2
stand_rank Open = 3
stand_rank Wide = 4
stand_rank Short = 5

one_rank : (one other : Stand) → stand_rank one ≡ stand_rank other → one ≡ other
one_rank Under Under h = refl
one_rank Under Alike h = absurd (omega (arith, h))
one_rank Under Over h = absurd (omega (arith, h))
one_rank Under Open h = absurd (omega (arith, h))
one_rank Under Wide h = absurd (omega (arith, h))
one_rank Under Short h = absurd (omega (arith, h))
one_rank Alike Under h = absurd (omega (arith, h))
one_rank Alike Alike h = refl
one_rank Alike Over h = absurd (omega (arith, h))
one_rank Alike Open h = absurd (omega (arith, h))
one_rank Alike Wide h = absurd (omega (arith, h))
one_rank Alike Short h = absurd (omega (arith, h))
one_rank Over Under h = absurd (omega (arith, h))
one_rank Over Alike h = absurd (omega (arith, h))
one_rank Over Over h = refl
one_rank Over Open h = absurd (omega (arith, h))
one_rank Over Wide h = absurd (omega (arith, h))
one_rank Over Short h = absurd (omega (arith, h))
one_rank Open Under h = absurd (omega (arith, h))
one_rank Open Alike h = absurd (omega (arith, h))
one_rank Open Over h = absurd (omega (arith, h))
one_rank Open Open h = refl
one_rank Open Wide h = absurd (omega (arith, h))
one_rank Open Short h = absurd (omega (arith, h))
one_rank Wide Under h = absurd (omega (arith, h))
one_rank Wide Alike h = absurd (omega (arith, h))
one_rank Wide Over h = absurd (omega (arith, h))
one_rank Wide Open h = absurd (omega (arith, h))
one_rank Wide Wide h = refl
one_rank Wide Short h = absurd (omega (arith, h))
one_rank Short Under h = absurd (omega (arith, h))
one_rank Short Alike h = absurd (omega (arith, h))
one_rank Short Over h = absurd (omega (arith, h))
one_rank Short Open h = absurd (omega (arith, h))
one_rank Short Wide h = absurd (omega (arith, h))
one_rank Short Short h = refl

not_less : (o p : Ordering) → is_lt (ordering_then o p) ≡ false → o ≡ Less → ⊥
not_less o p h e = both_ways true (sym (ap (λ o. is_lt (ordering_then o p)) e) ∙ h) refl

-- of two literals the greater one stands no lower to a text
literals_rise : (t v q : List ℕ) (o p : Ordering) → (text_cmp v t ≡ Less → ⊥) → text_cmp t q ≡ o → text_cmp v q ≡ p
    → stand_rank (literal_stand o) ≤ stand_rank (literal_stand p)
literals_rise t v q Less p h e f = omega arith
literals_rise t v q Equal Less h e f = absurd (h (alike_right nat_list_cmp_total t q v e ∙ f))
literals_rise t v q Equal Equal h e f = omega arith
literals_rise t v q Equal Greater h e f = omega arith
literals_rise t v q Greater Less h e f =
    absurd (h (nat_list_cmp_total.trans v q t f (nat_list_cmp_total.antisymm q t ∙ ap ordering_reverse e)))
literals_rise t v q Greater Equal h e f =
    absurd (h (nat_list_cmp_total.congr v q t f ∙ nat_list_cmp_total.antisymm q t ∙ ap ordering_reverse e))
literals_rise t v q Greater Greater h e f = omega arith

below_label : (o : Ordering) (filled : Bool) → stand_rank (literal_stand o) ≤ stand_rank (cond filled Open Over)
below_label Less true = omega arith
below_label Less false = omega arith
below_label Equal true = omega arith
below_label Equal false = omega arith
below_label Greater true = omega arith
below_label Greater false = omega arith

below_wide : (o : Ordering) → stand_rank (literal_stand o) ≤ 4
below_wide Less = omega arith
below_wide Equal = omega arith
below_wide Greater = omega arith

label_below : (filled : Bool) → stand_rank (cond filled Open Over) ≤ 4
label_below true = omega arith
label_below false = omega arith

-- of two patterns the one that is kept later stands no lower
rise : (ss ks : List Segment) (piece : Option (List ℕ)) → is_lt (places_cmp ks ss) ≡ false
    → stand_rank (stand_of ss piece) ≤ stand_rank (stand_of ks piece)
rise [] [] None h = omega arith
rise [] (Literal v ∷ ks) None h = absurd (both_ways true h refl)
rise [] (Label v ∷ ks) None h = absurd (both_ways true h refl)
rise [] (Greedy v ∷ ks) None h = absurd (both_ways true h refl)
rise (a ∷ ss) [] None h = omega arith
rise (a ∷ ss) (k ∷ ks) None h = omega arith
rise [] [] (Some p) h = omega arith
rise [] (Literal v ∷ ks) (Some p) h = absurd (both_ways true h refl)
rise [] (Label v ∷ ks) (Some p) h = absurd (both_ways true h refl)
rise [] (Greedy v ∷ ks) (Some p) h = absurd (both_ways true h refl)
rise (Literal t ∷ ss) [] (Some p) h = omega (arith, below_wide (text_cmp t (percent_decode p)))
rise (Literal t ∷ ss) (Literal v ∷ ks) (Some p) h =
    literals_rise t v (percent_decode p) (text_cmp t (percent_decode p)) (text_cmp v (percent_decode p))
    (λ e. not_less (text_cmp v t) (places_cmp ks ss) h e) refl refl
rise (Literal t ∷ ss) (Label v ∷ ks) (Some p) h = below_label (text_cmp t (percent_decode p)) (is_filled p)
rise (Literal t ∷ ss) (Greedy v ∷ ks) (Some p) h = below_wide (text_cmp t (percent_decode p))
rise (Label t ∷ ss) [] (Some p) h = omega (arith, label_below (is_filled p))
rise (Label t ∷ ss) (Literal v ∷ ks) (Some p) h = absurd (both_ways true h refl)
rise (Label t ∷ ss) (Label v ∷ ks) (Some p) h = omega arith
rise (Label t ∷ ss) (Greedy v ∷ ks) (Some p) h = label_below (is_filled p)
rise (Greedy t ∷ ss) [] (Some p) h = omega arith
rise (Greedy t ∷ ss) (Literal v ∷ ks) (Some p) h = absurd (both_ways true h refl)
rise (Greedy t ∷ ss) (Label v ∷ ks) (Some p) h = absurd (both_ways true h refl)
rise (Greedy t ∷ ss) (Greedy v ∷ ks) (Some p) h = omega arith

-- what misses at its first segment doesn't match
no_match : (ks : List Segment) (ps : List (List ℕ)) → misses (stand_of ks (first_piece ps)) ≡ true → segments_match ks ps ≡ false
no_match [] [] h = absurd (both_ways false refl h)
no_match [] (p ∷ ps) h = refl
no_match (k ∷ ks) [] h = refl
no_match (Literal t ∷ ks) (p ∷ ps) h = by (bytes_eq (percent_decode p) t) refl
  where
    by : (b : Bool) → bytes_eq (percent_decode p) t ≡ b → (b && segments_match ks ps) ≡ false
    by false e = refl
    by true e =
        let same : percent_decode p ≡ t = (bytes_eq-Decides (percent_decode p) t).0 e in
        let stands : text_cmp t (percent_decode p) ≡ Equal =
        subst (λ u. text_cmp t u ≡ Equal) (sym same) (tied_itself nat_list_cmp_total t) in
        absurd (both_ways (misses (literal_stand (text_cmp t (percent_decode p)))) (ap (λ o. misses (literal_stand o)) stands) h)
no_match (Label t ∷ ks) (p ∷ ps) h = by (is_filled p) h
  where
    by : (b : Bool) → misses (cond b Open Over) ≡ true → (b && segments_match ks ps) ≡ false
    by true m = absurd (both_ways false refl m)
    by false m = refl
no_match (Greedy t ∷ ks) (p ∷ ps) h = absurd (both_ways false refl h)

-- a literal between two that are one is it
pub record Squeezed (o x y : Ordering) : Type 0 where
  pub tied : o ≡ Equal
  pub before : is_lt x ≡ false
  pub behind : is_lt y ≡ false

squeeze : (o p x y : Ordering) → p ≡ ordering_reverse o → is_lt (ordering_then o x) ≡ false → is_lt (ordering_then p y) ≡ false → Squeezed o x y
squeeze Less p x y e h k = absurd (both_ways true h refl)
squeeze Equal p x y e h k = record { tied = refl; before = h; behind = sym (ap (λ o. is_lt (ordering_then o y)) e) ∙ k }
squeeze Greater p x y e h k = absurd (both_ways true (sym (ap (λ o. is_lt (ordering_then o y)) e) ∙ k) refl)

stands_between : (one own other stand : Stand) → stand_rank one ≤ stand_rank own → stand_rank own ≤ stand_rank other → one ≡ stand → other ≡ stand
    → own ≡ stand
stands_between one own other stand low high e f =
    one_rank own stand (omega (arith, low, high, ap stand_rank e, ap stand_rank f))

pub between : (depth : ℕ) (ss ks ts : List Segment) (ps : List (List ℕ)) (stand : Stand)
    → is_lt (places_cmp ks ss) ≡ false → is_lt (places_cmp ts ks) ≡ false → begin_alike depth ss ts ≡ true
    → stand_of (drop depth ss) (first_piece (drop depth ps)) ≡ stand → stand_of (drop depth ts) (first_piece (drop depth ps)) ≡ stand
    → misses stand ≡ true → segments_match ks ps ≡ false
between zero ss ks ts ps stand low high begins one other miss =
    let own = stands_between (stand_of ss (first_piece ps)) (stand_of ks (first_piece ps)) (stand_of ts (first_piece ps)) stand
    (rise ss ks (first_piece ps) low) (rise ks ts (first_piece ps) high) one other in
    no_match ks ps (ap misses own ∙ miss)
between (suc depth) [] ks ts ps stand low high begins one other miss = absurd (both_ways false refl begins)
between (suc depth) (a ∷ ss) ks [] ps stand low high begins one other miss = absurd (both_ways false refl begins)
between (suc depth) (a ∷ ss) [] (b ∷ ts) [] stand low high begins one other miss = absurd (ends_before b ts high)
  where
    ends_before : (b : Segment) (ts : List Segment) → is_lt (places_cmp (b ∷ ts) []) ≡ false → ⊥
    ends_before (Literal t) ts h = both_ways true h refl
    ends_before (Label t) ts h = both_ways true h refl
    ends_before (Greedy t) ts h = both_ways true h refl
between (suc depth) (a ∷ ss) [] (b ∷ ts) (p ∷ ps) stand low high begins one other miss = refl
between (suc depth) (a ∷ ss) (k ∷ ks) (b ∷ ts) [] stand low high begins one other miss = refl
between (suc depth) (Literal t ∷ ss) (Literal v ∷ ks) (Literal u ∷ ts) (p ∷ ps) stand low high begins one other miss =
    let alike = and_parts (bytes_eq t u) (begin_alike depth ss ts) begins in
    let same : t ≡ u = (bytes_eq-Decides t u).0 alike.0 in
    let back : text_cmp u v ≡ ordering_reverse (text_cmp v t) =
    ap (λ w. text_cmp w v) (sym same) ∙ nat_list_cmp_total.antisymm t v in
    let tight = squeeze (text_cmp v t) (text_cmp u v) (places_cmp ks ss) (places_cmp ts ks) back low high in
    and_right (bytes_eq (percent_decode p) v) (segments_match ks ps)
    (between depth ss ks ts ps stand tight.before tight.behind alike.1 one other miss)
between (suc depth) (Literal t ∷ ss) (Label v ∷ ks) (Literal u ∷ ts) (p ∷ ps) stand low high begins one other miss =
    absurd (both_ways true high refl)
between (suc depth) (Literal t ∷ ss) (Greedy v ∷ ks) (Literal u ∷ ts) (p ∷ ps) stand low high begins one other miss =
    absurd (both_ways true high refl)
between (suc depth) (Literal t ∷ ss) (k ∷ ks) (Label u ∷ ts) (p ∷ ps) stand low high begins one other miss =
    absurd (both_ways false refl begins)
between (suc depth) (Literal t ∷ ss) (k ∷ ks) (Greedy u ∷ ts) (p ∷ ps) stand low high begins one other miss =
    absurd (both_ways false refl begins)
between (suc depth) (Label t ∷ ss) (k ∷ ks) (Literal u ∷ ts) (p ∷ ps) stand low high begins one other miss =
    absurd (both_ways false refl begins)
between (suc depth) (Label t ∷ ss) (Literal v ∷ ks) (Label u ∷ ts) (p ∷ ps) stand low high begins one other miss =
    absurd (both_ways true low refl)
between (suc depth) (Label t ∷ ss) (Label v ∷ ks) (Label u ∷ ts) (p ∷ ps) stand low high begins one other miss =
    and_right (is_filled p) (segments_match ks ps) (between depth ss ks ts ps stand low high begins one other miss)
between (suc depth) (Label t ∷ ss) (Greedy v ∷ ks) (Label u ∷ ts) (p ∷ ps) stand low high begins one other miss =
    absurd (both_ways true high refl)
between (suc depth) (Label t ∷ ss) (k ∷ ks) (Greedy u ∷ ts) (p ∷ ps) stand low high begins one other miss =
    absurd (both_ways false refl begins)
between (suc depth) (Greedy t ∷ ss) (k ∷ ks) (b ∷ ts) (p ∷ ps) stand low high begins one other miss = absurd (both_ways false refl begins)
