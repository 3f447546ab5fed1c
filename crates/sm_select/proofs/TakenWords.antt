-- Words at the start of a text: the run that stands there, or that run, a `$` and another.
use Rattle.std.proofs.Common.{◌≡◌, ◌≢◌, ◌==◌, ◌<◌, inl, inr, ℕ, ◌+◌, ◌≤◌, Bool, List, [], ◌∷◌, ◌++◌, length, drop, take, Option, Some, None}
use Rattle.std.proofs.Common.{true, false}
use Rattle.std.proofs.Common.{refl, sym, ap, ◌∙◌, subst, append_assoc, append-nil, arith, length-append}
use Rattle.std.specs.Prelude.{IsUtf8}
use Rattle.std.specs.List.{list_all, prefix_len}
use Rattle.std.specs.Option.{ForSome}
use Rattle.std.specs.Str.{IsCharBoundary}
use Rattle.std.proofs.lemmas.Bool.Decides.{nat_tests}
use Rattle.std.proofs.lemmas.Str.{IsCharBoundary-at_seam}
use Rattle.sm_ids.specs.Identifier.{IsIdentifier}
use Rattle.sm_ids.specs.IdText.{IsIdText, member_text}
use Rattle.sm_ids.specs.steps.Ahead.{EndsRun}
use Rattle.sm_ids.proofs.Cutting.{clash, one_cut}
use Rattle.sm_model.specs.PreludeShapes.{api_id}
use Rattle.sm_select.specs.Tokens.{Token, word, BeginsOther, GoesOnWithRun, TokenThen, begins_run, is_run_byte}
use Rattle.sm_select.specs.SelectorText.{IsRun}
use Rattle.sm_select.specs.steps.Reader.{BeginsNoRun, IsRunAt, begins_a_run}
use Rattle.sm_select.specs.steps.Taking.{IsIdToken, IsIdentifierToken, IsTraitToken, NoneAs, TakenAs, IsTaken, IsMemberRun, IsLongerWord}
use Rattle.sm_select.specs.steps.Taking.{IsRunId}
use Rattle.sm_select.specs.declared.parser_taken.Taken.{Taken}
use Rattle.sm_select.specs.Grammar.{MeansTrait}
use Rattle.sm_select.proofs.WordBytes.{WordThen, WordShape, word_then, id_shape, identifier_run, member_run_ends}
use Rattle.sm_select.proofs.WordBytes.{run_stops}
use Rattle.sm_select.proofs.LongestNumbers.{take_joined}
use Rattle.sm_select.proofs.SignTexts.{drop_joined}
use Rattle.sm_select.proofs.ReadWords.{identifier_at, no_bracket, run_all, run_token}
use Rattle.sm_select.proofs.Boundaries.{ascii_behind, run_ascii, run_found, no_run_found}

-- a word is the run that stands there, or goes on with a `$` and an identifier behind it
pub data WordAt (s run v c : List ℕ) : Type 0 where
  the_run : v ≡ run → drop (length run) s ≡ c → WordAt s run v c
  with_member : (m : List ℕ) → v ≡ run ++ 36 ∷ m → IsIdentifier m → drop (length run) s ≡ 36 ∷ (m ++ c) → EndsRun is_run_byte c
      → WordAt s run v c

by_member : (s run v c r : List ℕ) (m : Option (List ℕ)) → v ≡ r ++ member_text m → ForSome m IsIdentifier → r ≡ run
    → member_text m ++ c ≡ drop (length run) s
    → EndsRun is_run_byte c
    → WordAt s run v c
by_member s run v c r None e h same rest ends = the_run (e ∙ append-nil r ∙ same) (sym rest)
by_member s run v c r (Some m) e h same rest ends =
    with_member m (e ∙ ap (λ x. x ++ 36 ∷ m) same) (h m refl) (sym rest) ends

word_is : (s run v c : List ℕ) → WordThen v s c → IsRunAt s run → WordAt s run v c
word_is s run v c t (inl (none, e)) =
    absurd (clash (begins_run t.shape.of_run.first) t.shape.of_run.begins
    (subst BeginsNoRun (t.spelled ∙ ap (λ x. x ++ c) t.shape.is ∙ ap (λ x. (x ++ member_text t.shape.member) ++ c) t.shape.of_run.is)
    none))
word_is s run v c t (inr (behind, r)) =
    let cut = one_cut is_run_byte t.shape.run run (member_text t.shape.member ++ c) behind t.shape.of_run.all (run_all run s behind r)
    (member_run_ends t.shape.member c t.ends) (run_stops behind r.ends)
    (sym (append_assoc t.shape.run (member_text t.shape.member) c) ∙ ap (λ x. x ++ c) (sym t.shape.is) ∙ sym t.spelled ∙ r.spelled) in
    by_member s run v c t.shape.run t.shape.member t.shape.is t.shape.of_member cut.0
    (cut.1 ∙ sym (ap (drop (length run)) r.spelled ∙ drop_joined run behind))
    t.ends

pub word_at : (s run v c : List ℕ) → TokenThen (word v) s c → IsRunAt s run → WordAt s run v c
word_at s run v c t at = word_is s run v c (word_then v s c t) at

-- an identifier that stands first is the run
pub identifier_taken : (s run : List ℕ) → IsRunAt s run → IsIdentifier run → TakenAs IsIdentifierToken run s (drop (length run) s)
identifier_taken s run at is = record {
  token = word run;
  kind = (is, refl);
  then = run_token run s is at;
  longest = λ w u c k t. let same = identifier_at w s c k.0 (subst (λ x. TokenThen x s c) k.1 t) run at in
      let size = ap length same.1 in omega arith;
}

pub no_identifier : (s run : List ℕ) → IsRunAt s run → (IsIdentifier run → ⊥) → NoneAs IsIdentifierToken s
no_identifier s run at none w u c k t =
    let same = identifier_at w s c k.0 (subst (λ x. TokenThen x s c) k.1 t) run at in none (subst IsIdentifier same.0 k.0)

-- an empty text is no id
id_not_empty : (w : List ℕ) → IsIdText w → w ≡ [] → ⊥
id_not_empty w is e = by_shape (id_shape w is)
  where
    by_shape : WordShape w → ⊥
    by_shape h = let f : [] ≡ h.of_run.first ∷ (h.of_run.more ++ member_text h.member) =
        sym e ∙ h.is ∙ ap (λ x. x ++ member_text h.member) h.of_run.is in absurd cc

-- what an id cuts off is a token
id_token : (w s c : List ℕ) → IsIdText w → s ≡ w ++ c → (GoesOnWithRun c → ⊥) → TokenThen (word w) s c
id_token w s c is e stops = record {
  bytes = w;
  is_token = (refl, inr is);
  spelled = e;
  may_end = λ _ g. stops g;
  not_other = by_shape (id_shape w is);
}
  where
    by_shape : WordShape w → BeginsOther s → ⊥
    by_shape h other = no_bracket h.of_run.first ((h.of_run.more ++ member_text h.member) ++ c) h.of_run.begins
        (subst BeginsOther (e ∙ ap (λ x. x ++ c) (h.is ∙ ap (λ x. x ++ member_text h.member) h.of_run.is)) other)

-- the longer word, of a run, a `$` and a run
module _ (s run : List ℕ) (at : IsRunAt s run) where
  longer_word : (m b w : List ℕ) (u : Token) (c : List ℕ) → IsMemberRun s run m b → IsIdToken w u → TokenThen u s c → length b ≤ length c
  longer_word m b w u c long k t = by_word (word_at s run w c (subst (λ x. TokenThen x s c) k.1 t) at)
    where
      by_word : WordAt s run w c → length b ≤ length c
      by_word (the_run e f) =
          let size = ap length (sym long.spelled ∙ f) in let sum = length-append m b in omega arith
      by_word (with_member n e is f ends) =
          let cut = one_cut is_run_byte n m c b (identifier_run n is) (run_all m (m ++ b) b long.of_run) ends (run_stops b long.of_run.ends)
          (ap (drop 1) (sym f ∙ long.spelled)) in
          let size = ap length cut.1 in omega arith

  pub member_id : (m b v : List ℕ) → IsMemberRun s run m b → v ≡ run ++ 36 ∷ m → s ≡ v ++ b → IsIdText v → TakenAs IsIdToken v s b
  member_id m b v long e cut is = record {
    token = word v;
    kind = (is, refl);
    then = id_token v s b is cut long.of_run.ends;
    longest = λ w u c k t. longer_word m b w u c long k t;
  }

  -- where no longer word is an id, one is the run
  only_run : ((m c : List ℕ) → drop (length run) s ≡ 36 ∷ (m ++ c) → IsIdentifier m → EndsRun is_run_byte c → IsIdText (run ++ 36 ∷ m) → ⊥)
      → (w : List ℕ) (u : Token) (c : List ℕ)
      → IsIdToken w u
      → TokenThen u s c
      → (w ≡ run) × (drop (length run) s ≡ c)
  only_run none w u c k t = by_word (word_at s run w c (subst (λ x. TokenThen x s c) k.1 t) at)
    where
      by_word : WordAt s run w c → (w ≡ run) × (drop (length run) s ≡ c)
      by_word (the_run e f) = (e, f)
      by_word (with_member m e is f ends) = absurd (none m c f is ends (subst IsIdText e k.0))

  run_spelled : IsIdText run → (s ≡ run ++ drop (length run) s) × (GoesOnWithRun (drop (length run) s) → ⊥)
  run_spelled is = by_run at
    where
      by_run : IsRunAt s run → (s ≡ run ++ drop (length run) s) × (GoesOnWithRun (drop (length run) s) → ⊥)
      by_run (inl (none, e)) = absurd (id_not_empty run is e)
      by_run (inr (behind, r)) =
          let rest : drop (length run) s ≡ behind = ap (drop (length run)) r.spelled ∙ drop_joined run behind in
          (r.spelled ∙ ap (λ x. run ++ x) (sym rest), subst (λ x. GoesOnWithRun x → ⊥) (sym rest) r.ends)

  by_answer : ((m c : List ℕ) → drop (length run) s ≡ 36 ∷ (m ++ c) → IsIdentifier m → EndsRun is_run_byte c → IsIdText (run ++ 36 ∷ m) → ⊥)
      → (r : Option Taken)
      → IsRunId s run r
      → IsTaken IsIdToken s r
  by_answer none (Some taken) (is, e, f) = record {
    token = word run;
    kind = (subst IsIdText (sym e) is, ap word (sym e));
    then = subst (TokenThen (word run) s) (sym f)
        (id_token run s (drop (length run) s) is (run_spelled is).0 (run_spelled is).1);
    longest = λ w u c k t. let same = only_run none w u c k t in let size = ap length (f ∙ same.1) in omega arith;
  }
  by_answer none None refuted = λ w u c k t. refuted (subst IsIdText (only_run none w u c k t).0 k.0)

  -- no longer word stands there
  pub run_id : (r : Option Taken) → IsLongerWord s run None → IsRunId s run r → IsTaken IsIdToken s r
  run_id r none h = by_answer (λ m c e is ends is_id. none m c e is) r h

  -- it is no id
  pub run_id_alone : (r : Option Taken) (m b v : List ℕ) → IsMemberRun s run m b → v ≡ run ++ 36 ∷ m → (IsIdText v → ⊥) → IsRunId s run r
      → IsTaken IsIdToken s r
  run_id_alone r m b v long e refuted h = by_answer (λ n c f is ends is_id. refuted (subst IsIdText (same n c f is ends) is_id)) r h
    where
      same : (n c : List ℕ) → drop (length run) s ≡ 36 ∷ (n ++ c) → IsIdentifier n → EndsRun is_run_byte c → run ++ 36 ∷ n ≡ v
      same n c f is ends =
          ap (λ x. run ++ 36 ∷ x)
          (one_cut is_run_byte n m c b (identifier_run n is) (run_all m (m ++ b) b long.of_run) ends (run_stops b long.of_run.ends)
          (ap (drop 1) (sym f ∙ long.spelled))).0
          ∙ sym e

-- a run stands first, or none does
run_there : (s : List ℕ) → (run : List ℕ) × IsRunAt s run
run_there s = by_first (begins_a_run s) refl
  where
    by_first : (b : Bool) → begins_a_run s ≡ b → (run : List ℕ) × IsRunAt s run
    by_first true e = (take (prefix_len is_run_byte s) s, run_found s e)
    by_first false e = ([], no_run_found s e)

-- the id of a trait
pub trait_absolute : (v s b : List ℕ) → TakenAs IsIdToken v s b → TakenAs IsTraitToken v s b
trait_absolute v s b h = record {
  token = h.token;
  kind = (v, h.kind.1, inl (h.kind.0, refl));
  then = h.then;
  longest = λ w u c k t. by_means w u c k.0 k.1 k.2 t;
}
  where
    by_run : (run : List ℕ) → IsRunAt s run → (w c : List ℕ) → IsIdentifier w → TokenThen (word w) s c → length b ≤ length c
    by_run run at w c is t =
        by_word (word_at s run v b (subst (λ x. TokenThen x s b) h.kind.1 h.then) at) (identifier_at w s c is t run at).1
      where
        by_word : WordAt s run v b → drop (length run) s ≡ c → length b ≤ length c
        by_word (the_run e f) g = let size = ap length (sym f ∙ g) in omega arith
        by_word (with_member m e is' f ends) g =
            let size = ap length (sym f ∙ g) in let sum = length-append m b in omega arith

    by_means : (w : List ℕ) (u : Token) (c x : List ℕ) → u ≡ word x → MeansTrait x w → TokenThen u s c → length b ≤ length c
    by_means w u c x e (inl (is, f)) t = h.longest x u c (is, e) t
    by_means w u c x e (inr (is, f)) t = let at = run_there s in by_run at.0 at.1 x c is (subst (λ y. TokenThen y s c) e t)

pub trait_prelude : (v s b : List ℕ) → NoneAs IsIdToken s → TakenAs IsIdentifierToken v s b → TakenAs IsTraitToken (api_id v) s b
trait_prelude v s b none h = record {
  token = h.token;
  kind = (v, h.kind.1, inr (h.kind.0, refl));
  then = h.then;
  longest = λ w u c k t. by_means w u c k.0 k.1 k.2 t;
}
  where
    by_means : (w : List ℕ) (u : Token) (c x : List ℕ) → u ≡ word x → MeansTrait x w → TokenThen u s c → length b ≤ length c
    by_means w u c x e (inl (is, f)) t = absurd (none x u c (is, e) t)
    by_means w u c x e (inr (is, f)) t = h.longest x u c (is, e) t

pub no_trait : (s : List ℕ) → NoneAs IsIdToken s → NoneAs IsIdentifierToken s → NoneAs IsTraitToken s
no_trait s no_id no_word w u c (x, e, means) t = by_means means
  where
    by_means : MeansTrait x w → ⊥
    by_means (inl (is, f)) = no_id x u c (is, e) t
    by_means (inr (is, f)) = no_word x u c (is, e) t

-- the run that stands first, and what is behind it
run_front : (s run : List ℕ) → IsRunAt s run → (s ≡ run ++ drop (length run) s) × (list_all is_run_byte run ≡ true)
run_front s run (inl (none, e)) = (
  ap (λ x. x ++ drop (length x) s) (sym e),
  ap (list_all is_run_byte) e,
)
run_front s run (inr (behind, r)) = (
  r.spelled ∙ ap (λ x. run ++ x) (sym (ap (drop (length run)) r.spelled ∙ drop_joined run behind)),
  run_all run s behind r,
)

some_run : (s w : List ℕ) → IsRunAt s w → (w ≡ [] → ⊥) → (behind : List ℕ) × IsRun w s behind
some_run s w (inl (none, e)) some = absurd (some e)
some_run s w (inr r) some = r

dollar_small : (c : ℕ) → (c == 36) ≡ true → c < 128
dollar_small c h = grind (arith, nat_tests)

module _ (s run more m behind : List ℕ) (at : IsRunAt s run) (rest : drop (length run) s ≡ 36 ∷ more) (second : IsRun m more behind) where
  both_spelled : s ≡ (run ++ 36 ∷ m) ++ behind
  both_spelled = (run_front s run at).0 ∙ ap (λ x. run ++ x) (rest ∙ ap (λ x. 36 ∷ x) second.spelled) ∙ sym (append_assoc run (36 ∷ m)
      behind)

  both_size : length (run ++ 36 ∷ m) ≡ length run + 1 + length m
  both_size = let l = length-append run (36 ∷ m) in omega arith

  boundary_of : IsUtf8 s → IsCharBoundary s (length run + 1 + length m)
  boundary_of u =
      let parts = run_front s run at in
      let first : IsUtf8 (36 ∷ more) = ascii_behind is_run_byte run_ascii run (36 ∷ more) parts.1
      (subst IsUtf8 (parts.0 ∙ ap (λ x. run ++ x) rest) u) in
      let inner : IsUtf8 more = ascii_behind (λ c. c == 36) dollar_small (36 ∷ []) more refl first in
      let last : IsUtf8 behind = ascii_behind is_run_byte run_ascii m behind (run_all m more behind second)
      (subst IsUtf8 second.spelled inner) in
      subst (IsCharBoundary s) both_size (IsCharBoundary-at_seam s (run ++ 36 ∷ m) behind both_spelled last)

  found_of : (t b : List ℕ) → t ≡ take (length run + 1 + length m) s → b ≡ drop (length run + 1 + length m) s
      → (x : List ℕ) × (t ≡ run ++ 36 ∷ x) × (s ≡ t ++ b) × IsMemberRun s run x b
  found_of t b e f =
      let text : t ≡ run ++ 36 ∷ m = e ∙ ap (λ n. take n s) (sym both_size) ∙ ap (take (length (run ++ 36 ∷ m))) both_spelled
      ∙ take_joined (run ++ 36 ∷ m) behind in
      let tail : b ≡ behind = f ∙ ap (λ n. drop n s) (sym both_size) ∙ ap (drop (length (run ++ 36 ∷ m))) both_spelled
      ∙ drop_joined (run ++ 36 ∷ m) behind in (
        m,
        text,
        both_spelled ∙ ap (λ x. x ++ behind) (sym text) ∙ ap (λ x. t ++ x) (sym tail),
        record {
          spelled = rest ∙ ap (λ x. 36 ∷ x) (second.spelled ∙ ap (λ x. m ++ x) (sym tail));
          of_run = subst (λ x. IsRun m (m ++ x) x) (sym tail) (subst (λ x. IsRun m x behind) second.spelled second);
        },
      )

-- where a longer word ends, a character does
pub longer_boundary : (s run more m : List ℕ) → IsRunAt s run → drop (length run) s ≡ 36 ∷ more → IsRunAt more m → (m ≡ [] → ⊥) → IsUtf8 s
    → IsCharBoundary s (length run + 1 + length m)
longer_boundary s run more m at rest there some u =
    let r = some_run more m there some in boundary_of s run more m r.0 at rest r.1 u

pub longer_found : (s run more m : List ℕ) → IsRunAt s run → drop (length run) s ≡ 36 ∷ more → IsRunAt more m → (m ≡ [] → ⊥)
    → (t b : List ℕ)
    → t ≡ take (length run + 1 + length m) s
    → b ≡ drop (length run + 1 + length m) s
    → (x : List ℕ) × (t ≡ run ++ 36 ∷ x) × (s ≡ t ++ b) × IsMemberRun s run x b
longer_found s run more m at rest there some t b e f =
    let r = some_run more m there some in found_of s run more m r.0 at rest r.1 t b e f

pub no_dollar_behind : (s run : List ℕ) → ((more : List ℕ) → drop (length run) s ≢ 36 ∷ more) → IsLongerWord s run None
no_dollar_behind s run none x c e is = none (x ++ c) e

-- a text that isn't empty by its test
pub some_text : (t : List ℕ) (b : Bool) → b ≡ (length t == 0) → b ≡ false → t ≡ [] → ⊥
some_text t b e f g = absurd (let h : true ≡ false = sym (ap (λ x. length x == 0) g) ∙ sym e ∙ f in cc)
