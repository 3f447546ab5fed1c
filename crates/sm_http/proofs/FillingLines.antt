-- Fills one after the other.
use Rattle.std.proofs.Common.{◌≡◌, ℕ, ◌+◌, ◌<◌, ◌≤◌, List, ◌++◌, length, refl, sym, ap, subst, ◌∙◌, arith, append_assoc}
use Rattle.std.proofs.Common.{Option, Some, None, Ok, Err}
use Rattle.std.specs.Prelude.{Result}
use Rattle.std.proofs.lemmas.List.{length-append}
use Rattle.std.specs.Io.KnownBytes.{prepend_known, Consumes, Keeps}
use Rattle.sm_http.specs.declared.message.Head.{Head}
use Rattle.sm_http.specs.declared.message.BodyLeft.{BodyLeft}
use Rattle.sm_http.specs.declared.message.MessageSide.{MessageSide}
use Rattle.sm_http.specs.declared.held.Unfilled.TheVariants.{Failed, NoMemory}
use Rattle.sm_http.specs.Limits.{head_limit}
use Rattle.sm_http.specs.declared.held.Unfilled.{Unfilled}
use Rattle.sm_http.specs.declared.refusal.HttpRefusal.{HttpRefusal}
use Rattle.sm_http.specs.Framed.{head}
use Rattle.sm_http.specs.Calls.{ReadsAHead, IsWithinLimit}
use Rattle.sm_io.specs.Reading.{LosesPrefix}
use Rattle.sm_http.specs.steps.Finding.{found_text}
use Rattle.sm_http.specs.steps.Holding.{Fills}
use Rattle.sm_http.specs.steps.Looking.{FindsWhole, LooksAHead, HasTaken, FillsOn}
use Rattle.sm_http.proofs.ReadingHeads.{whole_ahead}
use Rattle.sm_http.proofs.ReadingMessages.{begins_within}
use Rattle.sm_io.proofs.Told.{consumes_both, loses_kept}

pub taken_more : (l m r : Option (List ℕ)) (h i k : List ℕ) (n count : ℕ) → HasTaken l m h i n → Fills m r i k (Ok count)
    → HasTaken l r h k (n + count)
taken_more l m r h i k n count x fills = record {
  taken = x.taken ++ fills.0;
  consumes = consumes_both l m r x.taken fills.0 x.consumes fills.1;
  now_is = fills.2 ∙ ap (λ t. t ++ fills.0) x.now_is ∙ append_assoc h x.taken fills.0;
  long = let one = x.long in let two = fills.3 in let parts = length-append x.taken fills.0 in omega arith;
}

-- the source has ended
pub taken_end : (l m r : Option (List ℕ)) (h i k : List ℕ) (n : ℕ) → HasTaken l m h i n → Fills m r i k (Ok 0) → Fills l r h k (Ok n)
taken_end l m r h i k n x fills =
    let whole = taken_more l m r h i k n 0 x fills in
    (whole.taken, whole.consumes, whole.now_is, let long = whole.long in omega arith, λ none. fills.4 refl)

pub taken_some : (l m r : Option (List ℕ)) (h i k : List ℕ) (n count : ℕ) → HasTaken l m h i n → Fills m r i k (Ok count) → 0 < count
    → Fills l r h k (Ok (n + count))
taken_some l m r h i k n count x fills some =
    let whole = taken_more l m r h i k n count x fills in
    (whole.taken, whole.consumes, whole.now_is, whole.long, λ none. absurd (omega arith))

-- a fill that failed or ran out of memory took nothing
still_taken : (l m r : Option (List ℕ)) (h i k : List ℕ) (n : ℕ) → HasTaken l m h i n → Keeps m r × (k ≡ i)
    → (count : ℕ) × HasTaken l r h k count
still_taken l m r h i k n x fills = (
  n,
  record {
    taken = x.taken;
    consumes = kept l m r x.taken x.consumes fills.0;
    now_is = fills.1 ∙ x.now_is;
    long = x.long;
  },
)
  where
    kept : (l m r : Option (List ℕ)) (taken : List ℕ) → Consumes l m taken → Keeps m r → Consumes l r taken
    kept None m r taken x y = tt
    kept (Some l) None r taken x y = absurd x
    kept (Some l) (Some m) None taken x y = absurd y
    kept (Some l) (Some m) (Some r) taken x y = x ∙ ap (λ s. taken ++ s) (sym y)

-- a fill only takes a prefix
pub loses_filled : (l r : Option (List ℕ)) (h k : List ℕ) (result : Result ℕ Unfilled) → Fills l r h k result → LosesPrefix l r
loses_filled l r h k (Ok count) fills = (fills.0, fills.1)
loses_filled l r h k (Err Failed) fills = loses_kept l r fills.0
loses_filled l r h k (Err NoMemory) fills = loses_kept l r fills.0

pub loses_filled_on : (l r : Option (List ℕ)) (h k : List ℕ) (result : Result ℕ Unfilled) → FillsOn l r h k result → LosesPrefix l r
loses_filled_on l r h k (Ok count) fills = (fills.0, fills.1)
loses_filled_on l r h k (Err Failed) fills = (fills.1.taken, fills.1.consumes)
loses_filled_on l r h k (Err NoMemory) fills = (fills.1.taken, fills.1.consumes)

-- ---- what is ahead, held and then left

pub ahead_taken : (a l r : Option (List ℕ)) (h k : List ℕ) (n : ℕ) → Keeps a (prepend_known h l) → HasTaken l r h k n
    → Keeps a (prepend_known k r)
ahead_taken None l r h k n kept x = tt
ahead_taken (Some a) None r h k n kept x = absurd kept
ahead_taken (Some a) (Some l) None h k n kept x = absurd x.consumes
ahead_taken (Some a) (Some l) (Some r) h k n kept x =
    ap (λ t. t ++ r) x.now_is ∙ append_assoc h x.taken r ∙ ap (λ t. h ++ t) (sym x.consumes) ∙ kept

pub consumed_whole : (a l : Option (List ℕ)) (h : List ℕ) → Keeps a (prepend_known h l) → Consumes a l h
consumed_whole None l h kept = tt
consumed_whole (Some a) None h kept = absurd kept
consumed_whole (Some a) (Some l) h kept = sym kept

pub found_ahead : (side : MessageSide) (a l : Option (List ℕ)) (h k : List ℕ) (pair : Head × BodyLeft) → Keeps a (prepend_known h l)
    → length h ≤ head_limit → FindsWhole side h k pair → ReadsAHead side a (prepend_known k l) l (Ok (Some pair))
found_ahead side a l h k pair kept few x =
    let whole = whole_ahead side a l h x.found pair.1 kept few x.sees in
    let moved = subst (λ s. ReadsAHead side a (prepend_known s l) l (Ok (Some (x.found.head, pair.1)))) (sym x.now_is) whole in
    subst (λ s. ReadsAHead side a (prepend_known k l) l (Ok (Some (s, pair.1)))) (sym x.head_is) moved

pub found_within : (side : MessageSide) (h k : List ℕ) (pair : Head × BodyLeft) → FindsWhole side h k pair → IsWithinLimit pair.1
found_within side h k pair x = let sees = x.sees in begins_within (found_text x.found) pair.1 sees.2 sees.3

-- ---- what a call said

pub looks_at : (side : MessageSide) (h k : List ℕ) (r q : Result (Option (Head × BodyLeft)) HttpRefusal) → r ≡ q → LooksAHead side h k r
    → LooksAHead side h k q
looks_at side h k r q e looks = subst (λ x. LooksAHead side h k x) e looks

pub fills_on_at : (l r : Option (List ℕ)) (h k : List ℕ) (a b : Result ℕ Unfilled) → a ≡ b → FillsOn l r h k a → FillsOn l r h k b
fills_on_at l r h k a b e fills = subst (λ x. FillsOn l r h k x) e fills

-- a look saw no whole head, and then a take failed: what is held is what was ahead, up to what is left
pub failed_ahead : (side : MessageSide) (a l r : Option (List ℕ)) (h k f : List ℕ) (looked : Result (Option (Head × BodyLeft)) HttpRefusal)
    (filled : Result ℕ Unfilled) → looked ≡ Ok None → LooksAHead side h k looked → filled ≡ Err Failed → FillsOn l r k f filled
    → Keeps a (prepend_known h l) → Keeps a (prepend_known f r)
failed_ahead side a l r h k f looked filled none looks failed fills kept =
    let before = looks_at side h k looked (Ok None) none looks in
    let taken = fills_on_at l r k f filled (Err Failed) failed fills in
    ahead_taken a l r k f taken.0 (subst (λ s. Keeps a (prepend_known s l)) (sym before.0) kept) taken.1
