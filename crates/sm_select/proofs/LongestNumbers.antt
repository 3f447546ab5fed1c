-- Numbers at the start of a text: whether bytes end in a run, and the longest number that may end, byte by byte.
use Rattle.std.proofs.Common.{◌≡◌, ◌⊎◌, inl, inr, ℕ, zero, suc, ◌+◌, ◌≤◌, ◌<◌, ◌-◌, Bool, true, false, ◌&&◌, ◌||◌, List, [], ◌∷◌, ◌++◌}
use Rattle.std.proofs.Common.{length, take, drop}
use Rattle.std.proofs.Common.{get_or, refl, sym, ap, ◌∙◌, subst, arith, length-append}
use Rattle.std.specs.List.{list_all}
use Rattle.std.proofs.Math.Seq.{take-length, take-suc}
use Rattle.std.proofs.lemmas.Bool.{cases_lt}
use Rattle.std.proofs.lemmas.List.{take-append-drop, length-drop}
use Rattle.std.proofs.lemmas.List.Sums.{AllPass-from_list_all, list_all-from_AllPass}
use Rattle.sm_ids.proofs.Cutting.{both, and_also, clash, heads}
use Rattle.sm_tree.specs.Numbers.{IsNumber}
use Rattle.sm_tree.specs.NumberTail.{NumberLeads, NumberStops}
use Rattle.sm_tree.specs.declared.number.Phase.{Phase}
use Rattle.sm_tree.specs.declared.number.Phase.TheVariants.{Start}
use Rattle.sm_tree.proofs.Numbers.{number_from_whole, whole_from_number}
use Rattle.sm_tree.proofs.NumberRuns.{leads_joined}
use Rattle.sm_select.specs.Tokens.{numeral, BeginsOther, EndsInRun, GoesOnWithRun, TokenThen, begins_run, is_run_byte}
use Rattle.sm_select.specs.steps.Signs.{goes_on_with_run}
use Rattle.sm_select.specs.steps.Taking.{EndsHere, IsLongestTo, IsLongestNumber, run_after, run_open}
use Rattle.sm_select.proofs.NumberBytes.{begins_number, number_head}
use Rattle.sm_select.proofs.SignTexts.{drop_joined}

-- one byte more
pub open_more : (b : Bool) (s : List ℕ) (c : ℕ) → run_open b (s ++ c ∷ []) ≡ run_after (run_open b s) c
open_more b [] c = refl
open_more b (d ∷ s) c = open_more (run_after b d) s c

or_right : (a b : Bool) → b ≡ true → (a || b) ≡ true
or_right true b h = refl
or_right false b h = h

or_left : (a b : Bool) → a ≡ true → (a || b) ≡ true
or_left true b h = refl
or_left false b h = absurd cc

-- a run that has begun goes on
open_run : (s : List ℕ) → list_all is_run_byte s ≡ true → run_open true s ≡ true
open_run [] h = refl
open_run (c ∷ s) h =
    let k = both (is_run_byte c) (list_all is_run_byte s) h in
    subst (λ b. run_open b s ≡ true) (sym (or_right (begins_run c) (true && is_run_byte c) k.0)) (open_run s k.1)

open_behind : (b : Bool) (before : List ℕ) (c : ℕ) (s : List ℕ) → begins_run c ≡ true → list_all is_run_byte s ≡ true
    → run_open b (before ++ c ∷ s) ≡ true
open_behind b [] c s h k =
    subst (λ x. run_open x s ≡ true) (sym (or_left (begins_run c) (b && is_run_byte c) h)) (open_run s k)
open_behind b (d ∷ before) c s h k = open_behind (run_after b d) before c s h k

-- bytes that end in a run leave it open
pub open_ends : (t : List ℕ) → EndsInRun t → run_open false t ≡ true
open_ends t e = subst (λ x. run_open false x ≡ true) (sym e.whole)
    (open_behind false e.before e.first e.run e.begins (list_all-from_AllPass is_run_byte e.run e.goes_on))

ends_more : (c : ℕ) (s : List ℕ) → EndsInRun s → EndsInRun (c ∷ s)
ends_more c s e = record {
  before = c ∷ e.before;
  first = e.first;
  run = e.run;
  begins = e.begins;
  goes_on = e.goes_on;
  whole = ap (λ x. c ∷ x) e.whole;
}

-- and the other way round: they end in a run, or all of them go on with one that was open
by_begins : (b : Bool) (c : ℕ) (s : List ℕ) → list_all is_run_byte s ≡ true → run_after b c ≡ true → (x : Bool) → begins_run c ≡ x
    → EndsInRun (c ∷ s) ⊎ ((b ≡ true) × (list_all is_run_byte (c ∷ s) ≡ true))
by_begins b c s all h true e = inl (record {
  before = [];
  first = c;
  run = s;
  begins = e;
  goes_on = AllPass-from_list_all is_run_byte s all;
  whole = refl;
})
by_begins b c s all h false e =
    let k = both b (is_run_byte c) (subst (λ x. (x || (b && is_run_byte c)) ≡ true) e h) in
    inr (k.0, and_also (is_run_byte c) (list_all is_run_byte s) k.1 all)

ends_or_all : (b : Bool) (s : List ℕ) → run_open b s ≡ true → EndsInRun s ⊎ ((b ≡ true) × (list_all is_run_byte s ≡ true))
ends_or_all b [] h = inr (h, refl)
ends_or_all b (c ∷ s) h = elim (ends_or_all (run_after b c) s h) [
  | inl e ↦ inl (ends_more c s e)
  | inr (k, all) ↦ by_begins b c s all k (begins_run c) refl
]

pub ends_open : (t : List ℕ) → run_open false t ≡ true → EndsInRun t
ends_open t h = elim (ends_or_all false t h) [ inl e ↦ e | inr (k, all) ↦ absurd (let f : false ≡ true = k in cc) ]

goes_test : (s : List ℕ) → GoesOnWithRun s → goes_on_with_run s ≡ true
goes_test [] g = absurd g
goes_test (c ∷ s) g = g

test_goes : (s : List ℕ) → goes_on_with_run s ≡ true → GoesOnWithRun s
test_goes [] h = absurd (let f : false ≡ true = h in cc)
test_goes (c ∷ s) h = h

-- a number begins no other form
no_number_bracket : (c : ℕ) (s : List ℕ) → begins_number c ≡ true → BeginsOther (c ∷ s) → ⊥
no_number_bracket c s h (inl (more, e)) =
    absurd (let f : false ≡ true = subst (λ x. begins_number x ≡ true) (heads c 60 s (45 ∷ 91 ∷ more) e) h in cc)
no_number_bracket c s h (inr (more, e)) =
    absurd (let f : false ≡ true = subst (λ x. begins_number x ≡ true) (heads c 91 s (64 ∷ more) e) h in cc)

no_other : (v r s : List ℕ) → s ≡ v ++ r → IsNumber v → BeginsOther s → ⊥
no_other v r s e is other = by_head (number_head v is)
  where
    by_head : (c : ℕ) × (cs : List ℕ) × (v ≡ c ∷ cs) × (begins_number c ≡ true) → ⊥
    by_head (c, cs, f, h) = no_number_bracket c (cs ++ r) h (subst BeginsOther (e ∙ ap (λ x. x ++ r) f) other)

-- the number that a phase says has come, where it may end
module _ (s : List ℕ) (n : ℕ) (phase : Phase) (leads : NumberLeads Start (take n s) phase) where
  pub ends_token : EndsHere phase (run_open false (take n s)) (drop n s) → TokenThen (numeral (take n s)) s (drop n s)
  ends_token (tail, stops) =
      let is : IsNumber (take n s) = number_from_whole (take n s) phase leads tail in
      record {
        bytes = take n s;
        is_token = (refl, is);
        spelled = sym (take-append-drop n s);
        may_end = λ e g. clash (run_open false (take n s) && goes_on_with_run (drop n s))
            (and_also (run_open false (take n s)) (goes_on_with_run (drop n s)) (open_ends (take n s) e) (goes_test (drop n s) g))
            stops;
        not_other = no_other (take n s) (drop n s) s (sym (take-append-drop n s)) is;
      }

  may_stop : TokenThen (numeral (take n s)) s (drop n s) → (b : Bool)
      → (run_open false (take n s) && goes_on_with_run (drop n s)) ≡ b
      → (run_open false (take n s) && goes_on_with_run (drop n s)) ≡ false
  may_stop t false e = e
  may_stop t true e =
      let k = both (run_open false (take n s)) (goes_on_with_run (drop n s)) e in
      absurd (t.may_end (subst EndsInRun (sym t.is_token.0) (ends_open (take n s) k.0)) (test_goes (drop n s) k.1))

  pub token_ends : TokenThen (numeral (take n s)) s (drop n s) → EndsHere phase (run_open false (take n s)) (drop n s)
  token_ends t = (
    whole_from_number (take n s) phase leads t.is_token.1,
    may_stop t (run_open false (take n s) && goes_on_with_run (drop n s)) refl,
  )

-- a number that stands first is said by its length
pub number_cut : (s v c : List ℕ) → TokenThen (numeral v) s c → s ≡ v ++ c
number_cut s v c t = t.spelled ∙ ap (λ x. x ++ c) t.is_token.0

pub take_joined : (v c : List ℕ) → take (length v) (v ++ c) ≡ v
take_joined [] c = refl
take_joined (x ∷ v) c = ap (λ y. x ∷ y) (take_joined v c)

pub number_here : (s v c : List ℕ) (n : ℕ) → TokenThen (numeral v) s c → length v ≡ n → TokenThen (numeral (take n s)) s (drop n s)
number_here s v c n t e =
    let cut = number_cut s v c t in
    let first : v ≡ take n s = sym (take_joined v c) ∙ ap (take (length v)) (sym cut) ∙ ap (λ k. take k s) e in
    let rest : c ≡ drop n s = sym (drop_joined v c) ∙ ap (drop (length v)) (sym cut) ∙ ap (λ k. drop k s) e in
    subst (λ x. TokenThen (numeral x) s (drop n s)) first (subst (TokenThen (numeral v) s) rest t)

pub number_within : (s v c : List ℕ) → TokenThen (numeral v) s c → length s ≡ length v + length c
number_within s v c t = ap length (number_cut s v c t) ∙ length-append v c

-- one byte more
pub longest_more : (s : List ℕ) (at len new : ℕ) (phase : Phase) → NumberLeads Start (take (at + 1) s) phase → IsLongestTo s at len
    → (EndsHere phase (run_open false (take (at + 1) s)) (drop (at + 1) s) × (new ≡ at + 1))
    ⊎ ((EndsHere phase (run_open false (take (at + 1) s)) (drop (at + 1) s) → ⊥) × (new ≡ len))
    → IsLongestTo s (at + 1) new
longest_more s at len new phase leads l (inl (ends, e)) = subst (IsLongestTo s (at + 1)) (sym e) (record {
  within = omega arith;
  found = inr (ends_token s (at + 1) phase leads ends);
  longest = λ v c t short. short;
})
longest_more s at len new phase leads l (inr (never, e)) = subst (IsLongestTo s (at + 1)) (sym e) (record {
  within = let w = l.within in omega arith;
  found = l.found;
  longest = λ v c t short. by_length v c t (cases_lt at (length v)) short;
})
  where
    by_length : (v c : List ℕ) → TokenThen (numeral v) s c → (at < length v) ⊎ (length v ≤ at) → length v ≤ at + 1 → length v ≤ len
    by_length v c t (inl more) short =
        absurd (never (token_ends s (at + 1) phase leads (number_here s v c (at + 1) t (omega arith))))
    by_length v c t (inr few) short = l.longest v c t few

-- all bytes are read
pub longest_all : (s : List ℕ) (at len : ℕ) → IsLongestTo s at len → at ≤ length s → length s ≤ at → IsLongestNumber s len
longest_all s at len l few all = record {
  within = let w = l.within in omega arith;
  found = l.found;
  longest = λ v c t. let e = number_within s v c t in l.longest v c t (omega arith);
}

-- no number goes on with the byte behind those that are read
split_longer : (v c s : List ℕ) (at : ℕ) → s ≡ v ++ c → at < length v
    → (u : List ℕ) × (v ≡ take at s ++ get_or s at 0 ∷ u)
split_longer [] c s at e less = absurd (let f : at < 0 = less in omega arith)
split_longer (x ∷ v) c s zero e less =
    (v, ap (λ y. y ∷ v) (sym (ap (λ y. get_or y 0 0) e)))
split_longer (x ∷ v) c [] (suc at) e less = absurd cc
split_longer (x ∷ v) c (y ∷ s) (suc at) e less =
    let more = split_longer v c s at (tails_of e) (omega (arith, less)) in
    (more.0, ap (λ z. z ∷ v) (sym (heads y x s (v ++ c) e)) ∙ ap (λ z. y ∷ z) more.1)
  where
    tails_of : y ∷ s ≡ x ∷ (v ++ c) → s ≡ v ++ c
    tails_of f = ap (drop 1) f

pub longest_stopped : (s : List ℕ) (at len : ℕ) (phase : Phase) → NumberLeads Start (take at s) phase → IsLongestTo s at len
    → at ≤ length s
    → NumberStops phase (get_or s at 0)
    → IsLongestNumber s len
longest_stopped s at len phase leads l few stops = record {
  within = let w = l.within in omega arith;
  found = l.found;
  longest = λ v c t. by_length v c t (cases_lt at (length v));
}
  where
    by_length : (v c : List ℕ) → TokenThen (numeral v) s c → (at < length v) ⊎ (length v ≤ at) → length v ≤ len
    by_length v c t (inl more) =
        let parts = split_longer v c s at (number_cut s v c t) more in
        absurd (stops parts.0 (leads.onward (get_or s at 0 ∷ parts.0) (subst IsNumber parts.1 t.is_token.1)))
    by_length v c t (inr few) = l.longest v c t few

-- the prefix is one byte longer
pub prefix_more : (s : List ℕ) (at : ℕ) → at < length s → take (at + 1) s ≡ take at s ++ get_or s at 0 ∷ []
prefix_more s at less =
    let one : suc at ≡ at + 1 = omega arith in
    subst (λ n. take n s ≡ take at s ++ get_or s at 0 ∷ []) one (take-suc s at 0 less)

pub leads_more : (s : List ℕ) (at : ℕ) (phase next : Phase) → at < length s → NumberLeads Start (take at s) phase
    → NumberLeads phase (get_or s at 0 ∷ []) next
    → NumberLeads Start (take (at + 1) s) next
leads_more s at phase next less before here = subst (λ t. NumberLeads Start t next) (sym (prefix_more s at less))
    (leads_joined Start phase next (take at s) (get_or s at 0 ∷ []) before here)

pub open_next : (s : List ℕ) (at : ℕ) → at < length s → run_open false (take (at + 1) s) ≡ run_after (run_open false (take at s))
    (get_or s at 0)
open_next s at less = ap (run_open false) (prefix_more s at less) ∙ open_more false (take at s) (get_or s at 0)

-- all that is behind a place
whole_rest : (s : List ℕ) (n : ℕ) → take (length s - n) (drop n s) ≡ drop n s
whole_rest s n = ap (λ k. take k (drop n s)) (sym (length-drop n s)) ∙ take-length (drop n s)

-- the same, as the loop of the reader has it
pub longest_next : (s : List ℕ) (at len new : ℕ) (phase : Phase) (run : Bool) → at < length s → NumberLeads Start (take (at + 1) s) phase
    → run ≡ run_open false (take (at + 1) s)
    → IsLongestTo s at len
    → (EndsHere phase run (take (length s - (at + 1)) (drop (at + 1) s)) × (new ≡ at + 1))
    ⊎ ((EndsHere phase run (take (length s - (at + 1)) (drop (at + 1) s)) → ⊥) × (new ≡ len))
    → IsLongestTo s (at + 1) new
longest_next s at len new phase run less leads e l h =
    longest_more s at len new phase leads l
    (subst (λ b. (EndsHere phase b (drop (at + 1) s) × (new ≡ at + 1)) ⊎ ((EndsHere phase b (drop (at + 1) s) → ⊥) × (new ≡ len))) e
    (subst (λ r. (EndsHere phase run r × (new ≡ at + 1)) ⊎ ((EndsHere phase run r → ⊥) × (new ≡ len))) (whole_rest s (at + 1)) h))
