-- The link that comes next of those that are given.
use Rattle.std.proofs.Common.{◌≡◌, ◌<◌, ◌≤◌, ℕ, ◌+◌, ◌-◌, ◌^◌, List, [], ◌∷◌, ◌++◌, drop, length, map, take, Option, Some, ap, sym, ◌∙◌, arith, get_or}
use Rattle.std.proofs.lemmas.List.{drop_more, length-drop, length-map, take_more}
use Rattle.std.proofs.lemmas.List.{map_push}
use Rattle.sm_io.specs.Causes.{next_count}
use Rattle.sm_io.specs.Seen.{link_seen, stream}
use Rattle.sm_doors.specs.DoorsSeen.{ClosedLink, DoorsSeen, IsUnwritten, OpenedLink, behind_accept}
use Rattle.sm_doors.specs.MemSeen.{given_link}
use Rattle.sm_doors.specs.declared.doors.Phase.{Phase}
use Rattle.sm_doors.specs.declared.doors.Phase.TheVariants.{Lent}

-- what begins the list behind some is within it, and so are those behind
is_within : {A : Type 0} (xs : List A) (n : ℕ) (x : A) (rest : List A) → x ∷ rest ≡ drop n xs → n < length xs
is_within xs n x rest is = let lengths : length (x ∷ rest) ≡ length xs - n = ap length is ∙ length-drop n xs in omega arith

rest_is : {A : Type 0} (xs : List A) (n : ℕ) (x : A) (rest : List A) → x ∷ rest ≡ drop n xs → rest ≡ drop (n + 1) xs
rest_is xs n x rest is = let more = is ∙ drop_more xs n x (is_within xs n x rest is) in cc

taken_is : {A : Type 0} (xs : List A) (n : ℕ) (x : A) (rest : List A) → x ∷ rest ≡ drop n xs → take (n + 1) xs ≡ take n xs ++ x ∷ []
taken_is xs n x rest is =
    let more = is ∙ drop_more xs n x (is_within xs n x rest is) in
    let same : get_or xs n x ≡ x = cc in
    take_more xs n x (is_within xs n x rest is) ∙ ap (λ y. take n xs ++ y ∷ []) same

-- behind the next one, seen by their bytes, the rest waits; and it is one of those given
pub next_waits : {X B : Type 0} (f : X → B) (given old new : List X) (x : X) (a : ℕ) → old ≡ x ∷ new → map f old ≡ drop a (map f given)
    → map f new ≡ drop (a + 1) (map f given)
next_waits f given old new x a is waits = rest_is (map f given) a (f x) (map f new) (sym (ap (map f) is) ∙ waits)

pub next_is_given : {X B : Type 0} (f : X → B) (given old new : List X) (x : X) (a : ℕ) → old ≡ x ∷ new → map f old ≡ drop a (map f given)
    → a + 1 ≤ length given
next_is_given f given old new x a is waits =
    let within = is_within (map f given) a (f x) (map f new) (sym (ap (map f) is) ∙ waits) in
    let same = length-map given f in
    omega arith

abbrev opened_at : Option (List ℕ) → Option (List ℕ) → Option (List ℕ) → Option (List ℕ) → ℕ → OpenedLink
opened_at front back answers requests faults =
    record { front = front; back = back; answers = answers; requests = requests; faults = faults }

abbrev lent_at : ℕ → ℕ → List OpenedLink → List ClosedLink → DoorsSeen
lent_at accepted count opened closed = record {
  phase = Lent;
  accepted = accepted;
  closed = count;
  links = Some (record { opened = opened; closed = closed });
}

-- the doors behind it, where its streams hold what was given and nothing
pub next_accepted : {X : Type 0} (f : X → List ℕ × List ℕ) (given old new : List X) (x : X) (a n : ℕ) (closed : List ClosedLink) (p : Phase)
    (asked told answered put : Option (List ℕ)) (asked_faults told_faults answered_faults put_faults : ℕ)
    → old ≡ x ∷ new → map f old ≡ drop a (map f given) → a + 1 < 2 ^ 64
    → asked ≡ Some (f x).0 → asked_faults ≡ 0 → told ≡ Some [] → told_faults ≡ 0
    → answered ≡ Some (f x).1 → answered_faults ≡ 0 → put ≡ Some [] → put_faults ≡ 0
    → (lent_at (a + 1) n (map given_link (take (a + 1) (map f given))) closed ≡ behind_accept (record {
      phase = p;
      accepted = a;
      closed = n;
      links = Some (record { opened = map given_link (take a (map f given)); closed = closed });
    }) (link_seen (stream asked asked_faults) (stream told told_faults) (stream answered answered_faults) (stream put put_faults)))
    × IsUnwritten (link_seen (stream asked asked_faults) (stream told told_faults) (stream answered answered_faults) (stream put put_faults))
next_accepted f given old new x a n closed p asked told answered put af tf nf pf is waits small e1 g1 e2 g2 e3 g3 e4 g4 =
    let counted : a + 1 ≡ next_count a = omega arith in
    let calm : 0 ≡ af + tf + nf + pf = omega arith in
    let same = ap (λ y. opened_at y (Some (f x).1) (Some []) (Some []) 0) (sym e1)
    ∙ ap (λ y. opened_at asked y (Some []) (Some []) 0) (sym e3) ∙ ap (λ y. opened_at asked answered y (Some []) 0) (sym e2)
    ∙ ap (λ y. opened_at asked answered told y 0) (sym e4) ∙ ap (λ y. opened_at asked answered told put y) calm in
    let taken = ap (map given_link) (taken_is (map f given) a (f x) (map f new) (sym (ap (map f) is) ∙ waits))
    ∙ map_push given_link (take a (map f given)) (f x) ∙ ap (λ y. map given_link (take a (map f given)) ++ y ∷ []) same in (
      ap (λ y. lent_at y n (map given_link (take (a + 1) (map f given))) closed) counted ∙ ap (λ y. lent_at (next_count a) n y closed) taken,
      record { answers = rw e2; requests = rw e4 },
    )
