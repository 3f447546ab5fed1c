-- From what is seen of the bytes held to what a body from a place on comes to.
use Rattle.std.proofs.Common.{◌≡◌, ℕ, ◌+◌, ◌-◌, ◌<◌, ◌≤◌, List, [], ◌∷◌, ◌++◌, length, take, drop, refl, sym, ap, subst, ◌∙◌, arith}
use Rattle.std.proofs.Common.{append_assoc, append-nil, Option, Some, None, Ok, Err}
use Rattle.std.specs.Prelude.{IfSome, IsErrOf, Result}
use Rattle.std.proofs.lemmas.List.{length-take-le, take-append-drop}
use Rattle.std.proofs.Math.Seq.{take-append_seam}
use Rattle.std.specs.Io.KnownBytes.{prepend_known, Consumes, Keeps}
use Rattle.sm_http.specs.declared.message.BodyLeft.{BodyLeft}
use Rattle.sm_http.specs.declared.message.BodyLeft.TheVariants.{Known, Data, Done}
use Rattle.sm_http.specs.declared.refusal.HttpRefusal.{HttpRefusal}
use Rattle.sm_http.specs.declared.refusal.HttpRefusal.TheVariants.{ReadFault, Ended, HeadTooLarge, Coding, Length, TooLong, Chunk, NoMemory}
use Rattle.sm_http.specs.declared.refusal.HttpRefusal.TheVariants.{Head as BadHead}
use Rattle.sm_http.specs.declared.place.SeenPlace.{SeenPlace}
use Rattle.sm_http.specs.declared.place.SeenPlace.TheVariants.{Next, Part}
use Rattle.sm_http.specs.Limits.{piece_limit}
use Rattle.sm_http.specs.Bodies.{HasBody, IsPastLimit, body, body_refused, BodyFramed}
use Rattle.sm_http.specs.Calls.{IsWithinLimit, data_room, DecidesBody, ReadsAPiece}
use Rattle.sm_http.specs.steps.Holding.{Fills}
use Rattle.sm_http.specs.steps.Places.{Steps}
use Rattle.sm_http.specs.steps.Passing.{SeesPlace, RefusesBody, Gives, GoesTo, PassesTo, GivesPiece}
use Rattle.sm_io.proofs.Told.{consumes_both, consumes_none}
use Rattle.sm_http.proofs.ReadingHeads.{ahead_same, by_some, consumed_part, some_end, taken_ahead}
use Rattle.sm_http.proofs.BodySteps.{framed_on, known_step, data_step}
use Rattle.sm_http.proofs.BodyEnds.{known_end, known_open, data_open}

-- ---- one call to the next place

consumed : (a l : Option (List ℕ)) (h : List ℕ) (used : ℕ) → Keeps a (prepend_known h l)
    → Consumes a (prepend_known (drop used h) l) (take used h)
consumed a l h used kept = consumed_part a l h (take used h) (drop used h) (sym (take-append-drop used h)) kept

-- where the bytes held decide, those behind the place do
pub decides_next : (before next : BodyLeft) (h : List ℕ) (used : ℕ) → SeesPlace before h (Ok (Next used next)) → DecidesBody before h
    → DecidesBody next (drop used h)
decides_next before next h used sees decides = λ opened.
    decides (subst (λ bytes. BodyFramed before bytes (body_refused Ended)) (take-append-drop used h)
    (framed_on before next (take used h) [] sees.steps (drop used h) (body_refused Ended) opened))

pub next_ahead : (before next : BodyLeft) (a l : Option (List ℕ)) (h : List ℕ) (used : ℕ) → Keeps a (prepend_known h l)
    → SeesPlace before h (Ok (Next used next)) → PassesTo before next a (prepend_known (drop used h) l)
next_ahead before next a l h used kept sees = record {
  goes = record { used = take used h; consumes = consumed a l h used kept; steps = sees.steps; within = sees.within };
  fewer = sees.fewer;
  room = sees.room;
}

-- where the bytes held at first decide, no part is seen
pub undecided : (before : BodyLeft) (at_first h : List ℕ) → h ≡ at_first → SeesPlace before h (Ok Part) → DecidesBody before at_first → ⊥
undecided before at_first h e sees decides = decides (subst (λ x. BodyFramed before x (body_refused Ended)) e sees.1)

-- bytes that decide aren't none, where none are open
some_held : (left : BodyLeft) (h : List ℕ) → BodyFramed left [] (body_refused Ended) → DecidesBody left h → 0 < length h
some_held left [] opened decides = absurd (decides opened)
some_held left (b ∷ h) opened decides = omega arith

pub known_some : (k : ℕ) (h : List ℕ) → 0 < k → DecidesBody (Known k) h → 0 < length h
known_some k h some decides = some_held (Known k) h (known_open k some) decides

pub data_some : (k total : ℕ) (h : List ℕ) → DecidesBody (Data k total) h → 0 < length h
data_some k total h decides = some_held (Data k total) h (data_open k total) decides

pub refused_ahead : (before : BodyLeft) (a l r : Option (List ℕ)) (h : List ℕ) (why : HttpRefusal) → Keeps a (prepend_known h l)
    → SeesPlace before h (Err why) → RefusesBody before a r why
refused_ahead before a l r h ReadFault kept sees = absurd (sees [])
refused_ahead before a l r h Ended kept sees = by_some a l h (λ bytes. BodyFramed before bytes (body_refused Ended)) kept sees
refused_ahead before a l r h BadHead kept sees = by_some a l h (λ bytes. BodyFramed before bytes (body_refused BadHead)) kept sees
refused_ahead before a l r h HeadTooLarge kept sees = by_some a l h (λ bytes. BodyFramed before bytes (body_refused HeadTooLarge)) kept sees
refused_ahead before a l r h Coding kept sees = by_some a l h (λ bytes. BodyFramed before bytes (body_refused Coding)) kept sees
refused_ahead before a l r h Length kept sees = by_some a l h (λ bytes. BodyFramed before bytes (body_refused Length)) kept sees
refused_ahead before a l r h TooLong kept sees = by_some a l h (λ bytes. BodyFramed before bytes (body_refused TooLong)) kept sees
refused_ahead before a l r h Chunk kept sees = by_some a l h (λ bytes. BodyFramed before bytes (body_refused Chunk)) kept sees
refused_ahead before a l r h NoMemory kept sees = tt

pub ended_ahead : (before : BodyLeft) (a l r : Option (List ℕ)) (h k : List ℕ) → Keeps a (prepend_known h l) → Fills l r h k (Ok 0)
    → SeesPlace before h (Ok Part) → RefusesBody before a r Ended
ended_ahead before a l r h k kept fills sees =
    some_end a l r h k (λ bytes. BodyFramed before bytes (body_refused Ended)) kept fills sees.1

pub failed_ahead : (before : BodyLeft) (a l r : Option (List ℕ)) (h : List ℕ) → Keeps a (prepend_known h l) → Keeps l r
    → SeesPlace before h (Ok Part) → RefusesBody before a r ReadFault
failed_ahead before a l r h kept same sees = (h, taken_ahead a l r h kept same, sees.1)

pub sees_at : (before : BodyLeft) (s h : List ℕ) (r q : Result SeenPlace HttpRefusal) → s ≡ h → r ≡ q → SeesPlace before s r
    → SeesPlace before h q
sees_at before s h r q e f sees = subst (λ x. SeesPlace before h x) f (subst (λ x. SeesPlace before x r) e sees)

-- ---- calls one after the other

steps_joined : (a b c : BodyLeft) (u v p q : List ℕ) → Steps a u p b → Steps b v q c → Steps a (u ++ v) (p ++ q) c
steps_joined a b c u v p q s t = record {
  on = λ rest content behind x.
      subst (λ y. HasBody a y ((p ++ q) ++ content) behind) (sym (append_assoc u v rest))
      (subst (λ y. HasBody a (u ++ (v ++ rest)) y behind) (sym (append_assoc p q content))
      (s.on (v ++ rest) (q ++ content) behind (t.on rest content behind x)));
  back = λ rest content behind x none.
      s.back (v ++ rest) content behind (subst (λ y. HasBody a y content behind) (append_assoc u v rest) x)
      (λ inner r y. t.back rest inner r y none);
  past_on = λ rest x. subst (λ y. IsPastLimit a y) (sym (append_assoc u v rest)) (s.past_on (v ++ rest) (t.past_on rest x));
  past_back = λ rest x. t.past_back rest (s.past_back (v ++ rest) (subst (λ y. IsPastLimit a y) (append_assoc u v rest) x));
}

pub goes_joined : (a b c : BodyLeft) (x y z : Option (List ℕ)) (p q : List ℕ) → GoesTo a b x y p → GoesTo b c y z q
    → GoesTo a c x z (p ++ q)
goes_joined a b c x y z p q s t = record {
  used = s.used ++ t.used;
  consumes = consumes_both x y z s.used t.used s.consumes t.consumes;
  steps = steps_joined a b c s.used t.used p q s.steps t.steps;
  within = t.within;
}

some_behind : (P Q : List ℕ → Type 0) (x y : Option (List ℕ)) (used : List ℕ) → Consumes x y used
    → ((rest : List ℕ) → Q rest → P (used ++ rest)) → IfSome y Q → IfSome x P
some_behind P Q None y used e f q = tt
some_behind P Q (Some x) None used e f q = absurd e
some_behind P Q (Some x) (Some y) used e f q = subst P (sym e) (f y q)

word_behind : (a b : BodyLeft) (x y : Option (List ℕ)) (piece : List ℕ) (why : HttpRefusal) → (s : GoesTo a b x y piece)
    → IfSome y (λ bytes. BodyFramed b bytes (body_refused why)) → IfSome x (λ bytes. BodyFramed a bytes (body_refused why))
word_behind a b x y piece why s said =
    some_behind (λ bytes. BodyFramed a bytes (body_refused why)) (λ bytes. BodyFramed b bytes (body_refused why)) x y s.used s.consumes
    (λ rest framed. framed_on a b s.used piece s.steps rest (body_refused why) framed) said

pub refused_behind : (a b : BodyLeft) (x y left : Option (List ℕ)) (piece : List ℕ) (why : HttpRefusal) → GoesTo a b x y piece
    → RefusesBody b y left why → RefusesBody a x left why
refused_behind a b x y left piece ReadFault s said = (
  s.used ++ said.0,
  consumes_both x y left s.used said.0 s.consumes said.1,
  framed_on a b s.used piece s.steps said.0 (body_refused Ended) said.2,
)
refused_behind a b x y left piece Ended s said = word_behind a b x y piece Ended s said
refused_behind a b x y left piece BadHead s said = word_behind a b x y piece BadHead s said
refused_behind a b x y left piece HeadTooLarge s said = word_behind a b x y piece HeadTooLarge s said
refused_behind a b x y left piece Coding s said = word_behind a b x y piece Coding s said
refused_behind a b x y left piece Length s said = word_behind a b x y piece Length s said
refused_behind a b x y left piece TooLong s said = word_behind a b x y piece TooLong s said
refused_behind a b x y left piece Chunk s said = word_behind a b x y piece Chunk s said
refused_behind a b x y left piece NoMemory s said = tt

-- ---- data

pub gives_refused : (before : BodyLeft) (most : ℕ) (x y left : Option (List ℕ)) (buffer : List ℕ) (why : HttpRefusal)
    → BodyFramed before [] (body_refused Ended) → Gives most x y left buffer (Err why) → RefusesBody before x left why
gives_refused before most x y left buffer ReadFault opened said = ([], said, opened)
gives_refused before most None y left buffer Ended opened said = tt
gives_refused before most (Some x) y left buffer Ended opened said =
    subst (λ bytes. BodyFramed before bytes (body_refused Ended)) (sym said) opened
gives_refused before most x y left buffer BadHead opened said = absurd said
gives_refused before most x y left buffer HeadTooLarge opened said = absurd said
gives_refused before most x y left buffer Coding opened said = absurd said
gives_refused before most x y left buffer Length opened said = absurd said
gives_refused before most x y left buffer TooLong opened said = absurd said
gives_refused before most x y left buffer Chunk opened said = absurd said
gives_refused before most x y left buffer NoMemory opened said = absurd said

gives_step : (before now : BodyLeft) (most count : ℕ) (x y left : Option (List ℕ)) (buffer : List ℕ) → Gives most x y left buffer (Ok count)
    → length buffer ≡ piece_limit → IsWithinLimit now → data_room now + count ≤ data_room before
    → ((piece : List ℕ) → length piece + (most - count) ≡ most → Steps before piece piece now) → GivesPiece before now x y buffer count
gives_step before now most count x y left buffer said long within room step =
    let len = length-take-le count buffer (omega (arith, said.2)) in
    let all : length (take count buffer) + (most - count) ≡ most = omega (arith, said.1) in
    record {
      few = said.2;
      goes = record { used = take count buffer; consumes = said.3; steps = step (take count buffer) all; within = within };
      ends = λ none. absurd (omega (arith, said.0));
      room = room;
    }

pub gives_known : (most count : ℕ) (x y left : Option (List ℕ)) (buffer : List ℕ) → IsWithinLimit (Known most) → length buffer ≡ piece_limit
    → Gives most x y left buffer (Ok count) → GivesPiece (Known most) (Known (most - count)) x y buffer count
gives_known most count x y left buffer within long said =
    gives_step (Known most) (Known (most - count)) most count x y left buffer said long (omega arith) (omega (arith, said.1))
    (λ piece all. subst (λ n. Steps (Known n) piece piece (Known (most - count))) all (known_step (most - count) piece))

pub gives_data : (most total count : ℕ) (x y left : Option (List ℕ)) (buffer : List ℕ) → IsWithinLimit (Data most total)
    → length buffer ≡ piece_limit → Gives most x y left buffer (Ok count)
    → GivesPiece (Data most total) (Data (most - count) total) x y buffer count
gives_data most total count x y left buffer within long said =
    gives_step (Data most total) (Data (most - count) total) most count x y left buffer said long (omega (arith, within.0), within.1)
    (omega (arith, said.1))
    (λ piece all. subst (λ n. Steps (Data n total) piece piece (Data (most - count) total)) all (data_step (most - count) total piece))

pub begins_empty : (a : BodyLeft) (x : Option (List ℕ)) → IsWithinLimit a → GoesTo a a x x []
begins_empty a x within = record {
  used = [];
  consumes = consumes_none x;
  steps = record {
    on = λ rest content behind y. y;
    back = λ rest content behind y none. none content behind y;
    past_on = λ rest p. p;
    past_back = λ rest p. p;
  };
  within = within;
}

pub gives_none : (x : Option (List ℕ)) (buffer : List ℕ) → GivesPiece (Known 0) Done x x buffer 0
gives_none x buffer = record {
  few = omega arith;
  goes = record { used = []; consumes = consumes_none x; steps = known_end; within = tt };
  ends = λ none. refl;
  room = omega arith;
}

pub gives_done : (x : Option (List ℕ)) (buffer : List ℕ) → GivesPiece Done Done x x buffer 0
gives_done x buffer = record {
  few = omega arith;
  goes = begins_empty Done x tt;
  ends = λ none. refl;
  room = omega arith;
}

-- ---- the whole call

pub gives_behind : (a b c d : BodyLeft) (x y z v : Option (List ℕ)) (buffer : List ℕ) (count : ℕ) → PassesTo a b x y → PassesTo b c y z
    → GivesPiece c d z v buffer count → GivesPiece a d x v buffer count
gives_behind a b c d x y z v buffer count first second gives = record {
  few = gives.few;
  goes = goes_joined a c d x z v [] (take count buffer) (goes_joined a b c x y z [] [] first.goes second.goes) gives.goes;
  ends = gives.ends;
  room = let one = first.room in let two = second.room in let three = gives.room in omega arith;
}

ended_here : (a d : BodyLeft) (used more : List ℕ) (piece : List ℕ) → d ≡ Done → piece ≡ [] → Steps a used piece d
    → BodyFramed a (used ++ more) (body [] more)
ended_here a d used more piece e none steps =
    framed_on a Done used [] (subst (λ p. Steps a used p Done) none (subst (λ x. Steps a used piece x) e steps)) more (body [] more)
    (([], (refl, refl), refl), λ p. p)

pub piece_ahead : (a d : BodyLeft) (x v left : Option (List ℕ)) (buffer : List ℕ) (count : ℕ) → GivesPiece a d x v buffer count
    → ReadsAPiece a d x v left buffer (Ok count)
piece_ahead a d x v left buffer count gives =
    let goes = gives.goes in (
      gives.few,
      gives.ends,
      (
        goes.used,
        goes.consumes,
        λ more. record {
          on = λ framing framed. framed_on a d goes.used (take count buffer) goes.steps more framing framed;
          ends = λ none. ended_here a d goes.used more (take count buffer) (gives.ends none) (ap (λ n. take n buffer) none) goes.steps;
        },
      ),
    )

-- ---- pieces one after the other

pub whole_body : (a b d : BodyLeft) (x y z : Option (List ℕ)) (before buffer : List ℕ) (count : ℕ) → count ≡ 0 → GoesTo a b x y before
    → GivesPiece b d y z buffer count → GoesTo a Done x z before
whole_body a b d x y z before buffer count none goes gives =
    subst (λ s. GoesTo a Done x z s) (append-nil before) (subst (λ n. GoesTo a Done x z (before ++ take n buffer)) none
    (subst (λ e. GoesTo a e x z (before ++ take count buffer)) (gives.ends none)
    (goes_joined a b d x y z before (take count buffer) goes gives.goes)))

pub more_body : (a b d : BodyLeft) (x y z : Option (List ℕ)) (before now buffer : List ℕ) (count : ℕ) → now ≡ before ++ take count buffer
    → GoesTo a b x y before → GivesPiece b d y z buffer count → GoesTo a d x z now
more_body a b d x y z before now buffer count e goes gives =
    subst (λ s. GoesTo a d x z s) (sym e) (goes_joined a b d x y z before (take count buffer) goes gives.goes)

-- no bytes are refused as a failed read
pub never_fault : (before : BodyLeft) (h : List ℕ) (why : HttpRefusal) → IsErrOf {T = Unit {0}} {E = HttpRefusal} (Err why) ReadFault
    → SeesPlace before h (Err why) → ⊥
never_fault before h why e sees =
    let same : why ≡ ReadFault = cc in
    subst (λ w. BodyFramed before (h ++ []) (body_refused w)) same (sees [])

-- data from the bytes held
pub held_gives : (most n : ℕ) (l : Option (List ℕ)) (h k xs ys : List ℕ) → 0 < n → n ≤ most → n ≤ piece_limit → n ≤ length h → k ≡ drop n h
    → xs ≡ take n h → Gives most (prepend_known h l) (prepend_known k l) l (xs ++ ys) (Ok n)
held_gives most n l h k xs ys some within few inside e f =
    let long : n ≡ length xs = sym (ap length f ∙ length-take-le n h inside) in
    let front : take n h ≡ take n (xs ++ ys) = sym f ∙ sym (take-append_seam xs ys) ∙ ap (λ i. take i (xs ++ ys)) (sym long) in (
      some,
      within,
      few,
      subst (λ t. Consumes (prepend_known h l) (prepend_known k l) t) front
          (subst (λ d. Consumes (prepend_known h l) (prepend_known d l) (take n h)) (sym e)
          (consumed (prepend_known h l) l h n (ahead_same l h))),
    )

-- all that was left of a body, from the bytes held
pub held_whole : (n : ℕ) (l : Option (List ℕ)) (h k xs : List ℕ) → n ≤ length h → k ≡ drop n h → xs ≡ take n h
    → GoesTo (Known n) Done (prepend_known h l) (prepend_known k l) xs
held_whole n l h k xs inside e f =
    let long = length-take-le n h inside in
    let all : length (take n h) + 0 ≡ n = omega arith in
    subst (λ b. GoesTo (Known n) Done (prepend_known h l) (prepend_known b l) xs) (sym e)
    (subst (λ b. GoesTo (Known n) Done (prepend_known h l) (prepend_known (drop n h) l) b) (append-nil (take n h) ∙ sym f)
    (goes_joined (Known n) (Known 0) Done (prepend_known h l) (prepend_known (drop n h) l) (prepend_known (drop n h) l) (take n h) []
    (record {
      used = take n h;
      consumes = consumed (prepend_known h l) l h n (ahead_same l h);
      steps = subst (λ m. Steps (Known m) (take n h) (take n h) (Known 0)) all (known_step 0 (take n h));
      within = omega arith;
    })
    (record { used = []; consumes = consumes_none (prepend_known (drop n h) l); steps = known_end; within = tt })))
