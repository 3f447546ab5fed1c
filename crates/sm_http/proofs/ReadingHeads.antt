-- From what is seen of the bytes held to what the bytes ahead come to.
use Rattle.std.proofs.Common.{◌≡◌, ℕ, ◌+◌, ◌-◌, ◌<◌, ◌≤◌, Bool, true, false, List, [], ◌∷◌, ◌++◌, length, take, drop, refl, sym, ap, ◌∙◌}
use Rattle.std.proofs.Common.{subst, arith, append-nil, append_assoc, inl, inr, Option, Some, None, Ok, Err}
use Rattle.std.specs.Prelude.{IfSome, IsErrOf, if◌then◌else◌, Result}
use Rattle.std.proofs.lemmas.List.{length-append, take_all}
use Rattle.std.proofs.Math.Seq.{take-append-add, take-append_seam}
use Rattle.std.specs.Io.KnownBytes.{prepend_known, Consumes, Keeps}
use Rattle.httparse.specs.Grammar.{print_request, print_response}
use Rattle.httparse.proofs.GrammarLemmas.{ReadsRequest-append, ReadsResponse-append}
use Rattle.sm_http.specs.declared.message.Head.{Head}
use Rattle.sm_http.specs.declared.message.MessageSide.{MessageSide}
use Rattle.sm_http.specs.declared.message.MessageSide.TheVariants.{Request as of_requests, Response as of_responses}
use Rattle.sm_http.specs.declared.message.BodyLeft.{BodyLeft}
use Rattle.sm_http.specs.declared.head.HeadFound.{HeadFound}
use Rattle.sm_http.specs.declared.refusal.HttpRefusal.{HttpRefusal}
use Rattle.sm_http.specs.declared.refusal.HttpRefusal.TheVariants.{ReadFault, Ended, HeadTooLarge, Coding, Length, TooLong, Chunk, NoMemory}
use Rattle.sm_http.specs.declared.refusal.HttpRefusal.TheVariants.{Head as BadHead}
use Rattle.sm_http.specs.declared.see.SeenHead.{SeenHead}
use Rattle.sm_http.specs.declared.see.SeenHead.TheVariants.{Whole, Part}
use Rattle.sm_http.specs.declared.held.Unfilled.{Unfilled}
use Rattle.sm_http.specs.Limits.{head_limit}
use Rattle.sm_http.specs.Heads.{HeadText, ReadsHead, HasNoHead, NeverHasHead, HeadStands, IsNoHead, AwaitsHead, has_first_line}
use Rattle.sm_http.specs.Framed.{no_head, head, head_refused, HeadFramed}
use Rattle.sm_http.specs.Calls.{IfAhead, IsOpenHead, DecidesHead, ReadsAHead}
use Rattle.sm_http.specs.steps.Finding.{found_text}
use Rattle.sm_http.specs.steps.Seeing.{IsLost, RefusesRead, SeesHead}
use Rattle.sm_http.specs.steps.Holding.{Fills}
use Rattle.sm_http.proofs.HeadLines.{first_line_stays}

-- ---- bytes that follow

pub reads_on : (side : MessageSide) (bytes rest more : List ℕ) (text : HeadText) → ReadsHead side bytes text rest
    → ReadsHead side (bytes ++ more) text (rest ++ more)
reads_on of_requests bytes rest more text x = (x.0, ReadsRequest-append bytes x.0 rest more x.1, x.2)
reads_on of_responses bytes rest more text x = (x.0, ReadsResponse-append bytes x.0 rest more x.1, x.2)

never_on : (side : MessageSide) (bytes more : List ℕ) → NeverHasHead side bytes → NeverHasHead side (bytes ++ more)
never_on of_requests bytes more never = λ next h rest x. never (more ++ next) h rest (x.0, sym (append_assoc bytes more next) ∙ x.1)
never_on of_responses bytes more never = λ next h rest x. never (more ++ next) h rest (x.0, sym (append_assoc bytes more next) ∙ x.1)

stands_on : (side : MessageSide) (bytes rest more : List ℕ) (text : HeadText) → length bytes ≤ head_limit → ReadsHead side bytes text rest
    → HeadStands side (bytes ++ more) text (rest ++ more)
stands_on side bytes rest more text few reads = record {
  reads = reads_on side bytes rest more text reads;
  within = let whole = length-append bytes more in let behind = length-append rest more in omega arith;
}

cut_on : (bytes more : List ℕ) → length bytes ≤ head_limit → take head_limit (bytes ++ more) ≡ bytes ++ take
    (head_limit - length bytes) more
cut_on bytes more few =
    let fits : head_limit ≡ length bytes + (head_limit - length bytes) = omega arith in
    ap (λ n. take n (bytes ++ more)) fits ∙ take-append-add bytes more (head_limit - length bytes)

lost_on : (side : MessageSide) (bytes more : List ℕ) → length bytes ≤ head_limit → IsLost side bytes → IsNoHead side (bytes ++ more)
lost_on side bytes more few lost = record {
  ended = ap has_first_line (cut_on bytes more few) ∙ first_line_stays bytes (take (head_limit - length bytes) more) lost.0;
  never = subst (λ bs. NeverHasHead side bs) (sym (cut_on bytes more few))
      (never_on side bytes (take (head_limit - length bytes) more) lost.1);
}

refuses_on : (side : MessageSide) (bytes more : List ℕ) (why : HttpRefusal) → length bytes ≤ head_limit → RefusesRead side bytes why
    → HeadFramed side (bytes ++ more) (head_refused why)
refuses_on side bytes more why few x = inr (x.0, x.1 ++ more, stands_on side bytes x.1 more x.0 few x.2, x.3)

-- a part, of which these are all bytes within the limit
awaits : (side : MessageSide) (bytes held : List ℕ) → 0 < length bytes → take head_limit bytes ≡ held → HasNoHead side held
    → (IsLost side held → ⊥) → AwaitsHead side bytes
awaits side bytes held some cut none hopes = record {
  some = some;
  no_head = subst (λ bs. HasNoHead side bs) (sym cut) none;
  not_refused = λ refused. hopes (ap has_first_line (sym cut) ∙ refused.ended, subst (λ bs. NeverHasHead side bs) cut refused.never);
}

-- ---- what is ahead, held and then left

pub ahead_kept : (a : Option (List ℕ)) (l r : Option (List ℕ)) (h k : List ℕ) (n : ℕ) → Keeps a (prepend_known h l)
    → Fills l r h k (Ok n) → Keeps a (prepend_known k r)
ahead_kept None l r h k n kept fills = tt
ahead_kept (Some a) None r h k n kept fills = absurd kept
ahead_kept (Some a) (Some l) None h k n kept fills = absurd fills.1
ahead_kept (Some a) (Some l) (Some r) h k n kept fills =
    ap (λ x. x ++ r) fills.2 ∙ append_assoc h fills.0 r ∙ ap (λ x. h ++ x) (sym fills.1) ∙ kept

pub ahead_same : (l : Option (List ℕ)) (h : List ℕ) → Keeps (prepend_known h l) (prepend_known h l)
ahead_same None h = tt
ahead_same (Some l) h = refl

pub by_some : (a l : Option (List ℕ)) (h : List ℕ) (P : List ℕ → Type 0) → Keeps a (prepend_known h l)
    → ((more : List ℕ) → P (h ++ more)) → IfSome a P
by_some None l h P kept p = tt
by_some (Some a) None h P kept p = absurd kept
by_some (Some a) (Some l) h P kept p = subst P kept (p l)

-- ---- what is used of what is held

pub consumed_part : (a l : Option (List ℕ)) (h used k : List ℕ) → h ≡ used ++ k → Keeps a (prepend_known h l)
    → Consumes a (prepend_known k l) used
consumed_part None l h used k e kept = tt
consumed_part (Some a) None h used k e kept = absurd kept
consumed_part (Some a) (Some l) h used k e kept = sym kept ∙ ap (λ x. x ++ l) e ∙ append_assoc used k l

-- a head stands before whatever follows it
pub record HeadUsed (side : MessageSide) (bytes rest : List ℕ) (text : HeadText) : Type 0 where
  pub used : List ℕ
  pub is : bytes ≡ used ++ rest
  pub on : (more : List ℕ) → ReadsHead side (used ++ more) text more

pub head_used : (side : MessageSide) (bytes rest : List ℕ) (text : HeadText) → ReadsHead side bytes text rest
    → HeadUsed side bytes rest text
head_used of_requests bytes rest text x = record { used = print_request x.0; is = x.1.1; on = λ more. (x.0, (x.1.0, refl), x.2) }
head_used of_responses bytes rest text x = record { used = print_response x.0; is = x.1.1; on = λ more. (x.0, (x.1.0, refl), x.2) }

pub used_stands : (side : MessageSide) (bytes rest more : List ℕ) (text : HeadText) → length bytes ≤ head_limit + length rest
    → (u : HeadUsed side bytes rest text) → HeadStands side (u.used ++ more) text more
used_stands side bytes rest more text few u = record {
  reads = u.on more;
  within =
      let whole = ap length u.is ∙ length-append u.used rest in
      let parts = length-append u.used more in
      omega arith;
}

-- ---- the answers

-- a head is never refused as a failed read
no_fault : (a b c d e : Bool) → (if a then Some BadHead else (if b then Some HeadTooLarge else (if c then Some Coding else (
    if d then Some Length else (if e then Some TooLong else None))))) ≡ Some ReadFault → ⊥
no_fault true b c d e x = cc
no_fault false true c d e x = cc
no_fault false false true d e x = cc
no_fault false false false true e x = cc
no_fault false false false false true x = cc
no_fault false false false false false x = cc

no_read_fault : (side : MessageSide) (h : List ℕ) → RefusesRead side h ReadFault → ⊥
no_read_fault side h x = no_fault _ _ _ _ _ x.3

pub whole_ahead : (side : MessageSide) (a l : Option (List ℕ)) (h : List ℕ) (found : HeadFound) (left : BodyLeft)
    → Keeps a (prepend_known h l) → length h ≤ head_limit → SeesHead side h (Ok (Whole found left))
    → ReadsAHead side a (prepend_known (drop found.len h) l) l (Ok (Some (found.head, left)))
whole_ahead side a l h found left kept few sees =
    let u = head_used side h (drop found.len h) (found_text found) sees.0 in (
      sees.3,
      (
        u.used,
        consumed_part a l h u.used (drop found.len h) u.is kept,
        λ more. (found_text found, used_stands side h (drop found.len h) more (found_text found) (omega arith) u, sees.2, refl),
      ),
    )

pub refused_ahead : (side : MessageSide) (a n l : Option (List ℕ)) (h : List ℕ) (why : HttpRefusal) → Keeps a (prepend_known h l)
    → length h ≤ head_limit → SeesHead side h (Err why) → ReadsAHead side a n l (Err why)
refused_ahead side a n l h ReadFault kept few sees = absurd (no_read_fault side h sees)
refused_ahead side a n l h Ended kept few sees =
    by_some a l h (λ bytes. HeadFramed side bytes (head_refused Ended)) kept (λ more. refuses_on side h more Ended few sees)
refused_ahead side a n l h BadHead kept few (inl lost) =
    by_some a l h (λ bytes. HeadFramed side bytes (head_refused BadHead)) kept (λ more. inl (lost_on side h more few lost))
refused_ahead side a n l h BadHead kept few (inr read) =
    by_some a l h (λ bytes. HeadFramed side bytes (head_refused BadHead)) kept (λ more. refuses_on side h more BadHead few read)
refused_ahead side a n l h HeadTooLarge kept few sees =
    by_some a l h (λ bytes. HeadFramed side bytes (head_refused HeadTooLarge)) kept (λ more. refuses_on side h more HeadTooLarge few sees)
refused_ahead side a n l h Coding kept few sees =
    by_some a l h (λ bytes. HeadFramed side bytes (head_refused Coding)) kept (λ more. refuses_on side h more Coding few sees)
refused_ahead side a n l h Length kept few sees =
    by_some a l h (λ bytes. HeadFramed side bytes (head_refused Length)) kept (λ more. refuses_on side h more Length few sees)
refused_ahead side a n l h TooLong kept few sees =
    by_some a l h (λ bytes. HeadFramed side bytes (head_refused TooLong)) kept (λ more. refuses_on side h more TooLong few sees)
refused_ahead side a n l h Chunk kept few sees =
    by_some a l h (λ bytes. HeadFramed side bytes (head_refused Chunk)) kept (λ more. refuses_on side h more Chunk few sees)
refused_ahead side a n l h NoMemory kept few sees = tt

-- all that may be held is, and no whole head
pub large_ahead : (side : MessageSide) (a n l : Option (List ℕ)) (h : List ℕ) → Keeps a (prepend_known h l) → length h ≡ head_limit
    → SeesHead side h (Ok Part) → ReadsAHead side a n l (Err HeadTooLarge)
large_ahead side a n l h kept full sees =
    by_some a l h (λ bytes. HeadFramed side bytes (head_refused HeadTooLarge)) kept (λ more.
    let whole = length-append h more in
    let cut = ap (λ n. take n (h ++ more)) (sym full) ∙ take-append_seam h more in
    inl (awaits side (h ++ more) h (omega arith) cut sees.0 sees.1, omega arith))

-- the bytes end
part_ended : (side : MessageSide) (h : List ℕ) → 0 < length h → length h < head_limit → SeesHead side h (Ok Part)
    → HeadFramed side h (head_refused Ended)
part_ended side h some short sees = inl (awaits side h h some (take_all head_limit h (omega arith)) sees.0 sees.1, short)

empty : (h : List ℕ) → length h ≡ 0 → h ≡ []
empty [] e = refl
empty (x ∷ h) e = absurd (omega arith)

pub at_end : (a l r : Option (List ℕ)) (h k : List ℕ) (P : List ℕ → List ℕ → Type 0) → Keeps a (prepend_known h l) → Fills l r h k (Ok 0)
    → P h k → IfAhead a (prepend_known k r) P
at_end None l r h k P kept fills p = tt
at_end (Some a) None r h k P kept fills p = absurd kept
at_end (Some a) (Some l) None h k P kept fills p = absurd fills.1
at_end (Some a) (Some l) (Some r) h k P kept fills p =
    let taken : fills.0 ≡ [] = empty fills.0 fills.3 in
    let rest : r ≡ [] = fills.4 refl in
    let left : l ≡ [] = fills.1 ∙ ap (λ x. x ++ r) taken ∙ rest in
    let before : a ≡ h = sym kept ∙ ap (λ x. h ++ x) left ∙ append-nil h in
    let now : k ++ r ≡ k = ap (λ x. k ++ x) rest ∙ append-nil k in
    subst (λ x. P x (k ++ r)) (sym before) (subst (λ y. P h y) (sym now) p)

pub some_end : (a l r : Option (List ℕ)) (h k : List ℕ) (P : List ℕ → Type 0) → Keeps a (prepend_known h l) → Fills l r h k (Ok 0)
    → P h → IfSome a P
some_end None l r h k P kept fills p = tt
some_end (Some a) None r h k P kept fills p = absurd kept
some_end (Some a) (Some l) None h k P kept fills p = absurd fills.1
some_end (Some a) (Some l) (Some r) h k P kept fills p =
    let taken : fills.0 ≡ [] = empty fills.0 fills.3 in
    let rest : r ≡ [] = fills.4 refl in
    let left : l ≡ [] = fills.1 ∙ ap (λ x. x ++ r) taken ∙ rest in
    let before : a ≡ h = sym kept ∙ ap (λ x. h ++ x) left ∙ append-nil h in
    subst P (sym before) p

pub same_held : (l r : Option (List ℕ)) (h k : List ℕ) → Fills l r h k (Ok 0) → k ≡ h
same_held l r h k fills = fills.2 ∙ ap (λ x. h ++ x) (empty fills.0 fills.3) ∙ append-nil h

pub ended_ahead : (side : MessageSide) (a n l r : Option (List ℕ)) (h k : List ℕ) → Keeps a (prepend_known h l) → Fills l r h k (Ok 0)
    → 0 < length k → length h < head_limit → SeesHead side h (Ok Part) → ReadsAHead side a n r (Err Ended)
ended_ahead side a n l r h k kept fills some short sees =
    let held = same_held l r h k fills in
    some_end a l r h k (λ bytes. HeadFramed side bytes (head_refused Ended)) kept fills
    (part_ended side h (subst (λ x. 0 < length x) held some) short sees)

-- the source failed
pub open_part : (side : MessageSide) (h : List ℕ) → length h < head_limit → SeesHead side h (Ok Part) → IsOpenHead side h
open_part side [] short sees = inl refl
open_part side (b ∷ h) short sees = inr (part_ended side (b ∷ h) (omega arith) short sees)

-- where the bytes held at first decide, no part is seen
pub part_undecided : (side : MessageSide) (at_first h k : List ℕ) → h ≡ at_first → (k ≡ h) × SeesHead side h (Ok Part)
    → length k < head_limit → DecidesHead side at_first → ⊥
part_undecided side at_first h k e part short decides =
    decides (open_part side at_first (subst (λ x. length x < head_limit) (part.0 ∙ e) short)
    (subst (λ x. SeesHead side x (Ok Part)) e part.1))

-- no bytes are refused as a failed read
pub never_fault : (side : MessageSide) (h : List ℕ) (why : HttpRefusal)
    → IsErrOf {T = Option (Head × BodyLeft)} {E = HttpRefusal} (Err why) ReadFault → SeesHead side h (Err why) → ⊥
never_fault side h why e sees =
    let same : why ≡ ReadFault = cc in
    no_read_fault side h (subst (λ w. SeesHead side h (Err w)) same sees)

pub taken_ahead : (a l r : Option (List ℕ)) (h : List ℕ) → Keeps a (prepend_known h l) → Keeps l r → Consumes a r h
taken_ahead None l r h kept same = tt
taken_ahead (Some a) None r h kept same = absurd kept
taken_ahead (Some a) (Some l) None h kept same = absurd same
taken_ahead (Some a) (Some l) (Some r) h kept same = sym kept ∙ ap (λ x. h ++ x) (sym same)

pub failed_ahead : (side : MessageSide) (a n l r : Option (List ℕ)) (h : List ℕ) → Keeps a (prepend_known h l) → Keeps l r
    → length h < head_limit → SeesHead side h (Ok Part) → ReadsAHead side a n r (Err ReadFault)
failed_ahead side a n l r h kept same short sees = (h, taken_ahead a l r h kept same, open_part side h short sees)

-- ---- what a call said, of what was held

pub sees_at : (side : MessageSide) (s h : List ℕ) (r q : Result SeenHead HttpRefusal) → s ≡ h → r ≡ q → SeesHead side s r
    → SeesHead side h q
sees_at side s h r q e f sees = subst (λ x. SeesHead side h x) f (subst (λ x. SeesHead side x r) e sees)

pub fills_at : (l r : Option (List ℕ)) (h k : List ℕ) (a b : Result ℕ Unfilled) → a ≡ b → Fills l r h k a → Fills l r h k b
fills_at l r h k a b e fills = subst (λ x. Fills l r h k x) e fills
