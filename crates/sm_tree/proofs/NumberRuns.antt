-- Runs of bytes that go on with a number: one after another, and of digits alone.
use Rattle.std.proofs.Common.{◌≡◌, ℕ, ◌+◌, ◌-◌, ◌≤◌, ◌<◌, List, [], ◌∷◌, ◌++◌, length, get_or, take, drop, sym, ap, subst, ◌∙◌}
use Rattle.std.proofs.Common.{append_assoc, inl, arith}
use Rattle.std.proofs.Math.Seq.{take-add}
use Rattle.std.proofs.lemmas.List.{take-take}
use Rattle.std.proofs.lemmas.Grind.{common_steps}
use Rattle.sm_tree.specs.Numbers.{IsDigit, AreDigits}
use Rattle.sm_tree.specs.NumberTail.{IsNumberByte, AreNumberBytes, NumberTail, NumberLeads}
use Rattle.sm_tree.specs.declared.number.Phase.{Phase}

pub bytes_joined : (xs ys : List ℕ) → AreNumberBytes xs → AreNumberBytes ys → AreNumberBytes (xs ++ ys)
bytes_joined [] ys h k = k
bytes_joined (x ∷ xs) ys h k = (h.0, bytes_joined xs ys h.1 k)

pub digits_are_bytes : (ds : List ℕ) → AreDigits ds → AreNumberBytes ds
digits_are_bytes [] h = tt
digits_are_bytes (d ∷ ds) h = (inl h.0, digits_are_bytes ds h.1)

pub leads_nowhere : (p : Phase) → NumberLeads p [] p
leads_nowhere p = record { onward = λ u t. t; back = λ u t. t }

pub leads_joined : (p q r : Phase) (s t : List ℕ) → NumberLeads p s q → NumberLeads q t r → NumberLeads p (s ++ t) r
leads_joined p q r s t h k = record {
  onward = λ u whole. k.onward u (h.onward (t ++ u) (subst (NumberTail p) (append_assoc s t u) whole));
  back = λ u rest. subst (NumberTail p) (sym (append_assoc s t u)) (h.back (t ++ u) (k.back u rest));
}

-- where each digit leads back to the phase, so do digits
pub digits_lead : (p : Phase) (ds : List ℕ) → ((c : ℕ) → IsDigit c → NumberLeads p (c ∷ []) p) → AreDigits ds → NumberLeads p ds p
digits_lead p [] each h = leads_nowhere p
digits_lead p (d ∷ ds) each h = leads_joined p p p (d ∷ []) ds (each d h.0) (digits_lead p ds each h.1)

-- a run, the byte behind it, and a run behind that: the slice from a place on is taken whole
pub prefix_grows : (bs : List ℕ) (i k : ℕ) → i < length bs → k ≤ length bs - (i + 1)
    → take (i + 1 + k) bs ≡ take i bs ++ (get_or bs i 0 ∷ take k (take (length bs - (i + 1)) (drop (i + 1) bs)))
prefix_grows bs i k lt few =
    let one : take (i + 1) bs ≡ take i bs ++ get_or bs i 0 ∷ [] = grind (arith, common_steps) in
    let rest : take k (take (length bs - (i + 1)) (drop (i + 1) bs)) ≡ take k (drop (i + 1) bs) = take-take k (length bs - (i + 1))
    (drop (i + 1) bs) few in
    take-add (i + 1) k bs ∙ ap (λ s. s ++ take k (drop (i + 1) bs)) one
    ∙ append_assoc (take i bs) (get_or bs i 0 ∷ []) (take k (drop (i + 1) bs)) ∙ ap (λ s. take i bs ++ (get_or bs i 0 ∷ s)) (sym rest)

pub run_leads : (p q r : Phase) (bs : List ℕ) (i k : ℕ) → i < length bs → k ≤ length bs - (i + 1) → NumberLeads p (take i bs) q
    → NumberLeads q (get_or bs i 0 ∷ []) r → NumberLeads r (take k (take (length bs - (i + 1)) (drop (i + 1) bs))) r
    → NumberLeads p (take (i + 1 + k) bs) r
run_leads p q r bs i k lt few before here behind = let rest = take k (take (length bs - (i + 1)) (drop (i + 1) bs)) in
    subst (λ s. NumberLeads p s r) (sym (prefix_grows bs i k lt few))
    (leads_joined p q r (take i bs) (get_or bs i 0 ∷ rest) before (leads_joined q r r (get_or bs i 0 ∷ []) rest here behind))

pub run_bytes : (bs : List ℕ) (i k : ℕ) → i < length bs → k ≤ length bs - (i + 1) → AreNumberBytes (take i bs)
    → IsNumberByte (get_or bs i 0) → AreDigits (take k (take (length bs - (i + 1)) (drop (i + 1) bs)))
    → AreNumberBytes (take (i + 1 + k) bs)
run_bytes bs i k lt few before here behind = let rest = take k (take (length bs - (i + 1)) (drop (i + 1) bs)) in
    subst AreNumberBytes (sym (prefix_grows bs i k lt few))
    (bytes_joined (take i bs) (get_or bs i 0 ∷ rest) before (here, digits_are_bytes rest behind))
