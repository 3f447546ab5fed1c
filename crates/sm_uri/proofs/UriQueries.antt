-- Literals of a pattern's query: each cut from what is behind it in one way, what was read of them, and where reading them stops.
use Rattle.std.proofs.Common.{◌≡◌, ◌==◌, ℕ, Bool, true, false, not, ◌&&◌, List, [], ◌∷◌, ◌++◌, append_assoc, append-nil, Option, Some, None}
use Rattle.std.proofs.Common.{Err, refl, sym, ap, subst, ◌∙◌}
use Rattle.std.proofs.lemmas.Bool.{eqb-true}
use Rattle.std.specs.List.{list_all}
use Rattle.sm_ids.specs.steps.Ahead.{EndsRun}
use Rattle.sm_ids.proofs.Cutting.{both, and_also, list_all_weaker, heads, tails, clash, one_cut}
use Rattle.sm_uri.specs.UriPattern.{QueryLiteral, is_value_byte, is_key_byte, is_text_of, is_value, is_query_literal, value_text}
use Rattle.sm_uri.specs.UriPattern.{literal_text, more_text, query_text}
use Rattle.sm_uri.specs.steps.UriReading.{NoneGoesOn, StopsBefore, IsQuery, QueryAhead, IsLiteralRead, TakesLiteral, ReadsQuery}
use Rattle.sm_uri.specs.declared.stop.PatternStop.{PatternStop}
use Rattle.sm_uri.specs.declared.stop.PatternStop.TheVariants.{At, NoMemory}
use Rattle.sm_uri.proofs.UriBytes.{key_value}
use Rattle.sm_uri.proofs.UriStops.{stops_behind, ends_none}
use Rattle.sm_uri.proofs.UriSegments.{all_both, text_passes, text_first}

-- the bytes of a literal
value_passes : (v : Option (List ℕ)) → is_value v ≡ true → list_all is_value_byte (value_text v) ≡ true
value_passes None h = refl
value_passes (Some t) h = h

pub literal_passes : (l : QueryLiteral) → is_query_literal l ≡ true → list_all is_value_byte (literal_text l) ≡ true
literal_passes l h =
    let k = both (is_text_of is_key_byte l.0) (is_value l.1) h in
    all_both is_value_byte l.0 (value_text l.1) (list_all_weaker is_key_byte is_value_byte key_value l.0 (text_passes is_key_byte l.0 k.0))
    (value_passes l.1 k.1)

pub more_ends : (ls : List QueryLiteral) → EndsRun is_value_byte (more_text ls)
more_ends [] = tt
more_ends (l ∷ ls) = refl

-- a literal and what is behind it: one cut
behind_literal : (l m : QueryLiteral) (ms : List QueryLiteral) (x : List ℕ) → is_query_literal l ≡ true → is_query_literal m ≡ true
    → EndsRun is_value_byte x → literal_text l ++ x ≡ literal_text m ++ more_text ms → x ≡ more_text ms
behind_literal l m ms x h k ends e =
    (one_cut is_value_byte (literal_text l) (literal_text m) x (more_text ms) (literal_passes l h) (literal_passes m k) ends
    (more_ends ms) e).1

-- behind a literal of a query come no more, or an `&` and more
after_literal : (l : QueryLiteral) (x : List ℕ) → is_query_literal l ≡ true → EndsRun is_value_byte x → QueryAhead (literal_text l ++ x)
    → (ms : List QueryLiteral) × (x ≡ more_text ms) × (list_all is_query_literal ms ≡ true)
after_literal l x h ends (ls, q) = by_list ls q.spelled q.are
  where
    by_list : (ls : List QueryLiteral) → 63 ∷ (literal_text l ++ x) ≡ query_text ls → list_all is_query_literal ls ≡ true
        → (ms : List QueryLiteral) × (x ≡ more_text ms) × (list_all is_query_literal ms ≡ true)
    by_list [] e are = cc
    by_list (m ∷ ms) e are =
        let k = both (is_query_literal m) (list_all is_query_literal ms) are in
        (ms, behind_literal l m ms x h k.0 ends (tails 63 63 (literal_text l ++ x) (literal_text m ++ more_text ms) e), k.1)

next_literal : (l : QueryLiteral) (x : List ℕ) → is_query_literal l ≡ true → QueryAhead (literal_text l ++ 38 ∷ x) → QueryAhead x
next_literal l x h q = let a = after_literal l (38 ∷ x) h refl q in by_list a.0 a.1 a.2
  where
    by_list : (ms : List QueryLiteral) → 38 ∷ x ≡ more_text ms → list_all is_query_literal ms ≡ true → QueryAhead x
    by_list [] e are = cc
    by_list (m ∷ ms) e are = (m ∷ ms, record { spelled = ap (λ y. 63 ∷ y) (tails 38 38 x (literal_text m ++ more_text ms) e); are = are })

-- what was read of a query
pub record QueryTaken (start : List ℕ) (before : List QueryLiteral) (rest : List ℕ) : Type 0 where
  pub taken : List ℕ
  pub cut : start ≡ taken ++ rest
  pub onward : (x : List ℕ) → QueryAhead (taken ++ x) → QueryAhead x
  pub back : (m : QueryLiteral) (ms : List QueryLiteral) → 63 ∷ (taken ++ (literal_text m ++ more_text ms)) ≡ query_text (before ++ m ∷ ms)
  pub are : list_all is_query_literal before ≡ true

pub query_begun : (start : List ℕ) → QueryTaken start [] start
query_begun start = record {
  taken = [];
  cut = refl;
  onward = λ x q. q;
  back = λ m ms. refl;
  are = refl;
}

all_more : (before : List QueryLiteral) (l : QueryLiteral) → list_all is_query_literal before ≡ true → is_query_literal l ≡ true
    → list_all is_query_literal (before ++ l ∷ []) ≡ true
all_more before l h k = all_both is_query_literal before (l ∷ []) h (ap (λ b. b && true) k)

pub query_more : (start : List ℕ) (before : List QueryLiteral) (l : QueryLiteral) (rest behind next : List ℕ) → QueryTaken start before rest
    → IsLiteralRead rest l behind → behind ≡ 38 ∷ next → QueryTaken start (before ++ l ∷ []) next
query_more start before l rest behind next t r e =
    let joined : (x : List ℕ) → (t.taken ++ (literal_text l ++ 38 ∷ [])) ++ x ≡ t.taken ++ (literal_text l ++ 38 ∷ x) =
    λ x. append_assoc t.taken (literal_text l ++ 38 ∷ []) x ∙ ap (λ y. t.taken ++ y) (append_assoc (literal_text l) (38 ∷ []) x) in record {
      taken = t.taken ++ (literal_text l ++ 38 ∷ []);
      cut = t.cut ∙ ap (λ x. t.taken ++ x) (r.spelled ∙ ap (λ x. literal_text l ++ x) e) ∙ sym (joined next);
      onward = λ x q. next_literal l x r.is (t.onward (literal_text l ++ 38 ∷ x) (subst QueryAhead (joined x) q));
      back = λ m ms.
          ap (λ y. 63 ∷ y) (joined (literal_text m ++ more_text ms)) ∙ t.back l (m ∷ ms)
          ∙ ap query_text (sym (append_assoc before (l ∷ []) (m ∷ ms)));
      are = all_more before l t.are r.is;
    }

pub query_end : (start : List ℕ) (before : List QueryLiteral) (l : QueryLiteral) (rest behind : List ℕ) → QueryTaken start before rest
    → IsLiteralRead rest l behind → behind ≡ [] → IsQuery (before ++ l ∷ []) start
query_end start before l rest behind t r e = record {
  spelled = ap (λ x. 63 ∷ x) (t.cut ∙ ap (λ x. t.taken ++ x) (r.spelled ∙ ap (λ x. literal_text l ++ x) e)) ∙ t.back l [];
  are = all_more before l t.are r.is;
}

query_whole : (start : List ℕ) (before : List QueryLiteral) (rest : List ℕ) (t : QueryTaken start before rest) (x : List ℕ) → QueryAhead x
    → QueryAhead (t.taken ++ x)
query_whole start before rest t x (ls, q) = by_list ls q.spelled q.are
  where
    by_list : (ls : List QueryLiteral) → 63 ∷ x ≡ query_text ls → list_all is_query_literal ls ≡ true → QueryAhead (t.taken ++ x)
    by_list [] e are = cc
    by_list (m ∷ ms) e are = (
      before ++ m ∷ ms,
      record {
        spelled = ap (λ y. 63 ∷ (t.taken ++ y)) (tails 63 63 x (literal_text m ++ more_text ms) e) ∙ t.back m ms;
        are = all_both is_query_literal before (m ∷ ms) t.are are;
      },
    )

-- where the rest of a query stops, the query does
pub query_left : (start : List ℕ) (before : List QueryLiteral) (rest left : List ℕ) → QueryTaken start before rest
    → StopsBefore QueryAhead rest left → StopsBefore QueryAhead start left
query_left start before rest left t b =
    subst (λ y. StopsBefore QueryAhead y left) (sym t.cut)
    (stops_behind (λ c. Bool.false) QueryAhead QueryAhead t.taken rest left (λ x o q. t.onward x q) (query_whole start before rest t)
    (ends_none rest) b)

-- no literal is there
key_first : (ls : List QueryLiteral) (c : ℕ) (more : List ℕ) → 63 ∷ c ∷ more ≡ query_text ls → list_all is_query_literal ls ≡ true
    → is_key_byte c ≡ true
key_first [] c more e are = cc
key_first (m ∷ ms) c more e are =
    let k = both (is_query_literal m) (list_all is_query_literal ms) are in
    let l = both (is_text_of is_key_byte m.0) (is_value m.1) k.0 in
    text_first is_key_byte m.0 (value_text m.1 ++ more_text ms) more c l.0
    (sym (append_assoc m.0 (value_text m.1) (more_text ms)) ∙ sym (tails 63 63 (c ∷ more) (literal_text m ++ more_text ms) e))

some_key : (ls : List QueryLiteral) → 63 ∷ [] ≡ query_text ls → list_all is_query_literal ls ≡ true → ⊥
some_key [] e are = cc
some_key ((k, v) ∷ ms) e are = by_key k (both (is_query_literal (k, v)) (list_all is_query_literal ms) are).0 e
  where
    by_key : (k : List ℕ) → is_query_literal (k, v) ≡ true → 63 ∷ [] ≡ query_text ((k, v) ∷ ms) → ⊥
    by_key [] h e = cc
    by_key (c ∷ k) h e = cc

no_key_goes_on : (rest : List ℕ) → EndsRun is_key_byte rest → NoneGoesOn QueryAhead [] rest
no_key_goes_on [] ends = λ (ls, q). some_key ls q.spelled q.are
no_key_goes_on (c ∷ rest) ends = λ more (ls, q). clash (is_key_byte c) (key_first ls c more q.spelled q.are) ends

pub no_key : (rest : List ℕ) → EndsRun is_key_byte rest → StopsBefore QueryAhead rest rest
no_key rest ends = record {
  taken = [];
  cut = refl;
  begun = (97 ∷ [], ((97 ∷ [], None) ∷ [], record { spelled = refl; are = refl }));
  none = no_key_goes_on rest ends;
}

-- behind a literal stands what is no `&`
no_more_goes_on : (l : QueryLiteral) (behind : List ℕ) → is_query_literal l ≡ true → EndsRun is_value_byte behind → (behind ≡ [] → ⊥)
    → ((more : List ℕ) → behind ≡ 38 ∷ more → ⊥) → NoneGoesOn QueryAhead (literal_text l) behind
no_more_goes_on l [] h ends some none = absurd (some refl)
no_more_goes_on l (c ∷ behind) h ends some none = λ more q. let a = after_literal l (c ∷ more) h ends q in by_list a.0 more a.1
  where
    by_list : (ms : List QueryLiteral) (more : List ℕ) → c ∷ more ≡ more_text ms → ⊥
    by_list [] more e = cc
    by_list (m ∷ ms) more e = none behind (ap (λ d. d ∷ behind) (heads c 38 more (literal_text m ++ more_text ms) e))

pub no_more : (l : QueryLiteral) (rest behind : List ℕ) → IsLiteralRead rest l behind → (behind ≡ [] → ⊥)
    → ((more : List ℕ) → behind ≡ 38 ∷ more → ⊥) → StopsBefore QueryAhead rest behind
no_more l rest behind r some none = record {
  taken = literal_text l;
  cut = r.spelled;
  begun = ([], (l ∷ [], record { spelled = refl; are = ap (λ b. b && true) r.is }));
  none = no_more_goes_on l behind r.is r.ends some none;
}

-- a literal by its parts
pub key_alone : (text key behind : List ℕ) → text ≡ key ++ behind → is_text_of is_key_byte key ≡ true → EndsRun is_key_byte behind
    → ((more : List ℕ) → behind ≡ 61 ∷ more → ⊥) → IsLiteralRead text (key, None) behind
key_alone text key behind e h ends none = record {
  spelled = e ∙ ap (λ x. x ++ behind) (sym (append-nil key));
  is = ap (λ b. b && true) h;
  ends = no_value behind ends none;
}
  where
    is_equals : (c : ℕ) → is_key_byte c ≡ false → (c == 61) ≡ false → is_value_byte c ≡ false
    is_equals c h k = by_value (is_value_byte c) (c == 61) h k
      where
        by_value : (a b : Bool) → (a && not b) ≡ false → b ≡ false → a ≡ false
        by_value true true h k = cc
        by_value true false h k = h
        by_value false b h k = refl

    no_value : (x : List ℕ) → EndsRun is_key_byte x → ((more : List ℕ) → x ≡ 61 ∷ more → ⊥) → EndsRun is_value_byte x
    no_value [] h f = tt
    no_value (c ∷ x) h f = by_equals (c == 61) refl
      where
        by_equals : (b : Bool) → (c == 61) ≡ b → is_value_byte c ≡ false
        by_equals true e = absurd (f x (ap (λ d. d ∷ x) (eqb-true c 61 e)))
        by_equals false e = is_equals c h e

pub key_and_value : (text key more value behind : List ℕ) → text ≡ key ++ 61 ∷ more → is_text_of is_key_byte key ≡ true
    → more ≡ value ++ behind → list_all is_value_byte value ≡ true → EndsRun is_value_byte behind
    → IsLiteralRead text (key, Some value) behind
key_and_value text key more value behind e h f k ends = record {
  spelled = e ∙ ap (λ x. key ++ 61 ∷ x) f ∙ sym (append_assoc key (61 ∷ value) behind);
  is = and_also (is_text_of is_key_byte key) (list_all is_value_byte value) h k;
  ends = ends;
}

-- the steps of the reader
pub query_failed : (start : List ℕ) (before : List QueryLiteral) (rest : List ℕ) (stop : PatternStop) → QueryTaken start before rest
    → TakesLiteral rest (Err stop) → ReadsQuery start (Err stop)
query_failed start before rest (At left) t r =
    query_left start before rest left.now t (subst (λ x. StopsBefore QueryAhead rest x) (sym r.0) (no_key rest r.1))
query_failed start before rest NoMemory t r = tt
