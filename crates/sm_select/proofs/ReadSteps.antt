-- The reader of steps: what each sign, or a type's name, leads to where a step may come, and what is refused there.
use Rattle.std.proofs.Common.{◌≡◌, ◌⊎◌, inl, inr, ℕ, suc, ◌==◌, ◌<◌, ◌≤◌, Bool, true, false, cond, List, [], ◌∷◌, ◌++◌, length, drop}
use Rattle.std.proofs.Common.{Option, Some, None, refl, sym, ap}
use Rattle.std.proofs.Common.{◌∙◌, subst, codes, arith, Result, Ok, Err}
use Rattle.sm_model.specs.declared.kind.Kind.{Kind}
use Rattle.sm_select.specs.Grammar.{type_word}
use Rattle.sm_select.specs.Selectors.{Step, of_kind, steps_of}
use Rattle.sm_select.specs.View.{step_view}
use Rattle.sm_select.specs.declared.selector.SelectorStep.TheVariants.{Any, Forward, Back, Walk}
use Rattle.sm_select.specs.declared.tokens.SelectorForm.TheVariants.{Is, Not, Test}
use Rattle.sm_select.specs.Answers.{ParsesSelector}
use Rattle.sm_select.specs.declared.refusal.SelectorRefusal.{SelectorRefusal}
use Rattle.sm_select.specs.declared.refusal.SelectorRefusal.TheVariants.{Syntax, OutOfProfile, NoMemory}
use Rattle.sm_select.specs.declared.tokens.Sign.{Sign}
use Rattle.sm_select.specs.declared.tokens.Sign.TheVariants.{Star, Greater, Smaller, Tilde, OpenNames, OpenPath, OpenIs, OpenNot}
use Rattle.sm_select.specs.declared.tokens.Sign.TheVariants.{OpenTest, Close}
use Rattle.sm_select.specs.declared.tokens.Sign.TheVariants.{Comma}
use Rattle.sm_select.specs.Tokens.{Token, terminal, word, EndsWhite, SkipsWhite, TokensThen}
use Rattle.sm_select.specs.steps.Signs.{sign_text, sign_ends, opens, stands, first_sign, step_signs}
use Rattle.sm_select.specs.steps.Places.{Piece, sign, kind, Frame, frame, Place, stepping, Moves, star, a_kind, greater, smaller, tilde}
use Rattle.sm_select.specs.steps.Places.{opens_path}
use Rattle.sm_select.specs.steps.Places.{opens_names, opens_is, opens_not, opens_test, closes, another, IsWhole, Runs}
use Rattle.sm_select.specs.steps.Standing.{Passes, StopsAt}
use Rattle.sm_select.specs.steps.Reader.{BeginsNoRun, IsNotWhole, IsRunAt, Refuses}
use Rattle.sm_select.specs.steps.Stack.{IsMoved, IsNow, IsOnlySelector, IsRefusedStep, NoPlainSign, StepsTo}
use Rattle.std.proofs.lemmas.Bool.Decides.{nat_tests}
use Rattle.sm_ids.specs.Identifier.{IsIdentifier}
use Rattle.sm_ids.proofs.Cutting.{both}
use Rattle.sm_select.proofs.SignTexts.{opens_cut, sign_token}
use Rattle.sm_select.proofs.SignPairs.{some_same}
use Rattle.sm_select.proofs.Passing.{begun_shorter, no_white, passes_joined, passes_white, token_begins, tokens_shorter, white_shorter}
use Rattle.sm_select.proofs.ReadWords.{Named, NoSign, none_no_sign, named_stops, run_token, sign_passes, type_identifier, word_passes}
use Rattle.sm_select.proofs.Stopped.{breaks, leaves, refused_behind}
use Rattle.sm_select.proofs.SelectorViews.{step_any, step_forward, step_back, step_walk}

-- what is left is no more, and less behind a sign or a type's name
pub passes_within : (p q : Place) (s r : List ℕ) → Passes p s q r → length r ≤ length s
passes_within p q s r a = by_tokens a.tokens a.cut.0 a.cut.1 a.cut.2 a.run
  where
    by_tokens : (ts : List Token) (b : List ℕ) → TokensThen ts s b → SkipsWhite b r → Runs p ts q → length r ≤ length s
    by_tokens ts b cut gone run =
        let x = tokens_shorter ts p q s b cut run in let y = white_shorter b r gone in omega arith

pub sign_shorter : (a : Sign) (s r : List ℕ) → stands a s ≡ true → SkipsWhite (drop (length (sign_text a)) s) r → length r < length s
sign_shorter a s r e gone =
    let x = begun_shorter s (drop (length (sign_text a)) s)
    (token_begins (terminal (sign_text a)) s (drop (length (sign_text a)) s) (sign a) refl (sign_token a s e)) in
    let y = white_shorter (drop (length (sign_text a)) s) r gone in omega arith

-- a sign by itself
pub sign_steps : (len : ℕ) (p q : Place) (a : Sign) (s r : List ℕ) (now : Place) {A : Type 0} (result : Result A SelectorRefusal)
    → stands a s ≡ true
    → Moves p (sign a) q
    → SkipsWhite (drop (length (sign_text a)) s) r
    → EndsWhite r
    → IsNow q now result
    → StepsTo len p s r now result
sign_steps len p q a s r now (Ok x) e m gone dark is =
    (subst (λ n. Passes p s n r) (sym is) (sign_passes p q a s r e m gone dark), sign_shorter a s r e gone)
sign_steps len p q a s r now (Err (Syntax at)) e m gone dark refuted = absurd refuted
sign_steps len p q a s r now (Err (OutOfProfile at)) e m gone dark refuted = absurd refuted
sign_steps len p q a s r now (Err NoMemory) e m gone dark refuted = tt

-- what was read, and then a step
pub passed_steps : (len : ℕ) (p q : Place) (s r : List ℕ) (now : Place) {A : Type 0} (result : Result A SelectorRefusal)
    → Passes p s q r
    → length r < length s
    → IsNow q now result
    → StepsTo len p s r now result
passed_steps len p q s r now (Ok x) passes less is = (subst (λ n. Passes p s n r) (sym is) passes, less)
passed_steps len p q s r now (Err (Syntax at)) passes less refuted = absurd refuted
passed_steps len p q s r now (Err (OutOfProfile at)) passes less refuted = absurd refuted
passed_steps len p q s r now (Err NoMemory) passes less refuted = tt

-- a type's name
pub kind_steps : (len : ℕ) (ss : List Step) (fs : List Frame) (k : Option Kind) (s w r : List ℕ) (now : Place) {A : Type 0}
    (result : Result A SelectorRefusal) → first_sign step_signs s ≡ None
    → IsRunAt s w
    → w ≡ type_word k
    → SkipsWhite (drop (length w) s) r
    → EndsWhite r
    → IsNow (stepping (ss ++ of_kind k ∷ []) fs) now result
    → StepsTo len (stepping ss fs) s r now result
kind_steps len ss fs k s w r now result none at e gone dark is =
    passed_steps len (stepping ss fs) (stepping (ss ++ of_kind k ∷ []) fs) s r now result
    (word_passes (stepping ss fs) (stepping (ss ++ of_kind k ∷ []) fs) (kind k) w s r at e a_kind none gone dark)
    (let x = begun_shorter s (drop (length w) s)
    (token_begins (word w) s (drop (length w) s) (kind k) (ap word e)
    (run_token w s (subst IsIdentifier (sym e) (type_identifier k)) at)) in
    let y = white_shorter (drop (length w) s) r gone in omega arith) is

-- refusals where a step may come
step_kinds : {ss : List Step} {fs : List Frame} {x : Piece} {q : Place} → Moves (stepping ss fs) x q
    → ((v : List ℕ) × Named x v) ⊎ ((a : Sign) × (x ≡ sign a))
step_kinds star = inr (Star, refl)
step_kinds (a_kind {k = k}) = inl (type_word k, refl)
step_kinds greater = inr (Greater, refl)
step_kinds smaller = inr (Smaller, refl)
step_kinds tilde = inr (Tilde, refl)
step_kinds opens_path = inr (OpenPath, refl)
step_kinds opens_names = inr (OpenNames, refl)
step_kinds opens_is = inr (OpenIs, refl)
step_kinds opens_not = inr (OpenNot, refl)
step_kinds opens_test = inr (OpenTest, refl)
step_kinds closes = inr (Close, refl)
step_kinds (another several) = inr (Comma, refl)

no_kind : {ss : List Step} {fs : List Frame} {x : Piece} {q : Place} (w : List ℕ) → ((k : Option Kind) → w ≡ type_word k → ⊥)
    → Moves (stepping ss fs) x q
    → Named x w
    → ⊥
no_kind w none star n = n
no_kind w none (a_kind {k = k}) n = none k n
no_kind w none greater n = n
no_kind w none smaller n = n
no_kind w none tilde n = n
no_kind w none opens_path n = n
no_kind w none opens_names n = n
no_kind w none opens_is n = n
no_kind w none opens_not n = n
no_kind w none opens_test n = n
no_kind w none closes n = n
no_kind w none (another several) n = n

pub step_refused : (len : ℕ) (ss : List Step) (fs : List Frame) (s w : List ℕ) (e : SelectorRefusal) → NoSign (stepping ss fs) s
    → IsRunAt s w
    → ((k : Option Kind) → w ≡ type_word k → ⊥)
    → IsNotWhole (stepping ss fs) s
    → EndsWhite s
    → IsRefusedStep len s e
    → Refuses len (stepping ss fs) s e
step_refused len ss fs s w e no_sign at none never dark refused = by_refusal e refused
  where
    stops : StopsAt (stepping ss fs) s
    stops = named_stops (stepping ss fs) s w no_sign at (λ x q m. step_kinds m) (λ x q m n. no_kind w none m n)

    by_refusal : (e : SelectorRefusal) → IsRefusedStep len s e → Refuses len (stepping ss fs) s e
    by_refusal (Syntax at) (no_other, placed) = (
      stepping ss fs,
      s,
      record { passes = passes_white (stepping ss fs) s s (no_white s) dark; dark = dark; stops = stops },
      never,
      λ steps other. no_other other,
      placed,
    )
    by_refusal (OutOfProfile at) (other, placed) = (
      stepping ss fs,
      s,
      record { passes = passes_white (stepping ss fs) s s (no_white s) dark; dark = dark; stops = stops },
      tt,
      other,
      placed,
    )
    by_refusal NoMemory refuted = absurd refuted

-- no sign of all these
pub no_step_sign : (s : List ℕ) → NoPlainSign s → stands OpenIs s ≡ false → stands OpenNot s ≡ false → stands OpenTest s ≡ false
    → stands Close s ≡ false
    → stands Comma s ≡ false
    → first_sign step_signs s ≡ None
no_step_sign s (a, b, c, d, e, f) g h i j k =
    skip Star (Greater ∷ Smaller ∷ Tilde ∷ OpenPath ∷ OpenNames ∷ OpenIs ∷ OpenNot ∷ OpenTest ∷ Close ∷ Comma ∷ []) a
    ∙ skip Greater (Smaller ∷ Tilde ∷ OpenPath ∷ OpenNames ∷ OpenIs ∷ OpenNot ∷ OpenTest ∷ Close ∷ Comma ∷ []) b
    ∙ skip Smaller (Tilde ∷ OpenPath ∷ OpenNames ∷ OpenIs ∷ OpenNot ∷ OpenTest ∷ Close ∷ Comma ∷ []) c
    ∙ skip Tilde (OpenPath ∷ OpenNames ∷ OpenIs ∷ OpenNot ∷ OpenTest ∷ Close ∷ Comma ∷ []) d
    ∙ skip OpenPath (OpenNames ∷ OpenIs ∷ OpenNot ∷ OpenTest ∷ Close ∷ Comma ∷ []) e
    ∙ skip OpenNames (OpenIs ∷ OpenNot ∷ OpenTest ∷ Close ∷ Comma ∷ []) f
    ∙ skip OpenIs (OpenNot ∷ OpenTest ∷ Close ∷ Comma ∷ []) g
    ∙ skip OpenNot (OpenTest ∷ Close ∷ Comma ∷ []) h
    ∙ skip OpenTest (Close ∷ Comma ∷ []) i
    ∙ skip Close (Comma ∷ []) j
    ∙ skip Comma [] k
  where
    skip : (a : Sign) (more : List Sign) → stands a s ≡ false → first_sign (a ∷ more) s ≡ first_sign more s
    skip a more none = ap (λ b. cond b (Some a) (first_sign more s)) none

pub no_word_refused : (len : ℕ) (ss : List Step) (fs : List Frame) (s w : List ℕ) (e : SelectorRefusal) → first_sign step_signs s ≡ None
    → IsRunAt s w
    → ((k : Option Kind) → w ≡ type_word k → ⊥)
    → IsNotWhole (stepping ss fs) s
    → EndsWhite s
    → IsRefusedStep len s e
    → Refuses len (stepping ss fs) s e
no_word_refused len ss fs s w e none at refuted never dark refused =
    step_refused len ss fs s w e (none_no_sign (stepping ss fs) s none) at refuted never dark refused

-- `)` or `,` that doesn't lead on
no_type : (k : Option Kind) → [] ≡ type_word k → ⊥
no_type k e = let h : IsIdentifier [] = subst IsIdentifier (sym e) (type_identifier k) in absurd (let f : false ≡ true = h in cc)

sign_refused : (len : ℕ) (ss : List Step) (fs : List Frame) (a : Sign) (s : List ℕ) (e : SelectorRefusal) → first_sign step_signs s ≡ Some a
    → BeginsNoRun s
    → ((q : Place) → Moves (stepping ss fs) (sign a) q → ⊥)
    → IsNotWhole (stepping ss fs) s
    → EndsWhite s
    → IsRefusedStep len s e
    → Refuses len (stepping ss fs) s e
sign_refused len ss fs a s e first no_run never whole dark refused =
    step_refused len ss fs s [] e
    (λ c q f m. never q (subst (λ x. Moves (stepping ss fs) (sign x) q) (some_same c a (sym f ∙ first)) m))
    (inl (no_run, refl)) no_type whole dark refused

close_first : (s : List ℕ) → stands Close s ≡ true → (first_sign step_signs s ≡ Some Close) × BeginsNoRun s
close_first s e =
    let cut = opens_cut (codes ")") s (both (opens (codes ")") s) (sign_ends Close (drop 1 s)) e).0 in
    subst (λ x. (first_sign step_signs x ≡ Some Close) × BeginsNoRun x) (sym cut) (refl, refl)

comma_first : (s : List ℕ) → stands Comma s ≡ true → (first_sign step_signs s ≡ Some Comma) × BeginsNoRun s
comma_first s e =
    let cut = opens_cut (codes ",") s (both (opens (codes ",") s) (sign_ends Comma (drop 1 s)) e).0 in
    subst (λ x. (first_sign step_signs x ≡ Some Comma) × BeginsNoRun x) (sym cut) (refl, refl)

pub close_refused : (len : ℕ) (ss : List Step) (fs : List Frame) (s : List ℕ) (e : SelectorRefusal) → stands Close s ≡ true
    → ((q : Place) → Moves (stepping ss fs) (sign Close) q → ⊥)
    → IsNotWhole (stepping ss fs) s
    → EndsWhite s
    → IsRefusedStep len s e
    → Refuses len (stepping ss fs) s e
close_refused len ss fs s e first never whole dark refused =
    sign_refused len ss fs Close s e (close_first s first).0 (close_first s first).1 never whole dark refused

pub comma_refused : (len : ℕ) (ss : List Step) (fs : List Frame) (s : List ℕ) (e : SelectorRefusal) → stands Comma s ≡ true
    → ((q : Place) → Moves (stepping ss fs) (sign Comma) q → ⊥)
    → IsNotWhole (stepping ss fs) s
    → EndsWhite s
    → IsRefusedStep len s e
    → Refuses len (stepping ss fs) s e
comma_refused len ss fs s e first never whole dark refused =
    sign_refused len ss fs Comma s e (comma_first s first).0 (comma_first s first).1 never whole dark refused

-- the only refusal of the stack is that there is no memory
pub moved_memory : (len : ℕ) (p q : Place) (a : Sign) (s : List ℕ) (e : SelectorRefusal) → IsMoved p a q (Err e) → Refuses len p s e
moved_memory len p q a s (Syntax at) refuted = absurd refuted
moved_memory len p q a s (OutOfProfile at) refuted = absurd refuted
moved_memory len p q a s NoMemory refuted = tt

-- a refusal of a part is one of the whole
pub parse_refused : (text : List ℕ) (e : SelectorRefusal) → Refuses (length text) (stepping [] []) text e → ParsesSelector text (Err e)
parse_refused text (Syntax at) (q, rest, stuck, never, profile, placed) = breaks text q rest stuck at never profile placed
parse_refused text (OutOfProfile at) (q, rest, stuck, steps, other, placed) = leaves text q rest stuck at steps other placed
parse_refused text NoMemory h = tt

-- a sign, and what follows it
pub sign_read : (p q : Place) (a : Sign) (s r : List ℕ) → stands a s ≡ true → Moves p (sign a) q
    → SkipsWhite (drop (length (sign_text a)) s) r
    → EndsWhite r
    → Passes p s q r × (length r < length s)
sign_read p q a s r e m gone dark = (sign_passes p q a s r e m gone dark, sign_shorter a s r e gone)

pub opened_read : (len : ℕ) (p q m : Place) (a : Sign) (s r x : List ℕ) (now : Place) {A : Type 0} (result : Result A SelectorRefusal)
    → stands a s ≡ true
    → Moves p (sign a) q
    → SkipsWhite (drop (length (sign_text a)) s) r
    → EndsWhite r
    → Passes q r m x
    → IsNow m now result
    → StepsTo len p s x now result
opened_read len p q m a s r x now result e moves gone dark passes is =
    passed_steps len p m s x now result (passes_joined p q m s r x (sign_passes p q a s r e moves gone dark) passes)
    (let less = sign_shorter a s r e gone in let few = passes_within q m r x passes in omega arith) is

pub opened_refused : (len n : ℕ) (p q : Place) (a : Sign) (s r : List ℕ) (e : SelectorRefusal) → stands a s ≡ true → Moves p (sign a) q
    → SkipsWhite (drop (length (sign_text a)) s) r
    → EndsWhite r
    → n ≡ len
    → Refuses n q r e
    → Refuses len p s e
opened_refused len n p q a s r e st moves gone dark same refused =
    refused_behind len p q s r e (sign_passes p q a s r st moves gone dark) (subst (λ k. Refuses k q r e) same refused)

-- steps that are one sign
pub any_moves : (ss : List Step) (fs : List Frame) → Moves (stepping ss fs) (sign Star) (stepping (ss ++ step_view Any ∷ []) fs)
any_moves ss fs = subst (λ x. Moves (stepping ss fs) (sign Star) (stepping (ss ++ x ∷ []) fs)) (sym step_any) star

pub forward_moves : (ss : List Step) (fs : List Frame) → Moves (stepping ss fs) (sign Greater) (stepping (ss ++ step_view Forward ∷ []) fs)
forward_moves ss fs = subst (λ x. Moves (stepping ss fs) (sign Greater) (stepping (ss ++ x ∷ []) fs)) (sym step_forward) greater

pub back_moves : (ss : List Step) (fs : List Frame) → Moves (stepping ss fs) (sign Smaller) (stepping (ss ++ step_view Back ∷ []) fs)
back_moves ss fs = subst (λ x. Moves (stepping ss fs) (sign Smaller) (stepping (ss ++ x ∷ []) fs)) (sym step_back) smaller

pub walk_moves : (ss : List Step) (fs : List Frame) → Moves (stepping ss fs) (sign Tilde) (stepping (ss ++ step_view Walk ∷ []) fs)
walk_moves ss fs = subst (λ x. Moves (stepping ss fs) (sign Tilde) (stepping (ss ++ x ∷ []) fs)) (sym step_walk) tilde

pub is_moves : (ss : List Step) (fs : List Frame) → Moves (stepping ss fs) (sign OpenIs) (stepping [] (frame Is ss [] ∷ fs))
is_moves ss fs = opens_is

pub not_moves : (ss : List Step) (fs : List Frame) → Moves (stepping ss fs) (sign OpenNot) (stepping [] (frame Not ss [] ∷ fs))
not_moves ss fs = opens_not

pub test_moves : (ss : List Step) (fs : List Frame) → Moves (stepping ss fs) (sign OpenTest) (stepping [] (frame Test ss [] ∷ fs))
test_moves ss fs = opens_test

-- one selector that is whole, and no other place
pub only_whole : (ss : List Step) (fs : List Frame) → IsOnlySelector (stepping ss fs) → IsWhole (stepping ss fs) (steps_of ss)
only_whole [] fs h = absurd h
only_whole (s ∷ ss) [] h = refl
only_whole (s ∷ ss) (f ∷ fs) h = absurd h

suc_zero : (n : ℕ) → (suc n == 0) ≡ false
suc_zero n = grind (arith, nat_tests)

-- a text without bytes, by its test
pub empty_text : (t : List ℕ) (b : Bool) → b ≡ (length t == 0) → b ≡ true → t ≡ []
empty_text [] b e f = refl
empty_text (c ∷ t) b e f = absurd (let g : true ≡ false = sym f ∙ e ∙ suc_zero (length t) in cc)
