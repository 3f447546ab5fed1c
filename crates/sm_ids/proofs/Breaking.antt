-- Where a text breaks: from the place in it where the part begins that breaks, and behind a run of bytes.
use Rattle.std.proofs.Common.{◌≡◌, ℕ, suc, ◌+◌, ◌-◌, ◌<◌, ◌≤◌, inl, inr, true, List, [], ◌∷◌, ◌++◌, length, take, append_assoc}
use Rattle.std.proofs.Common.{append-nil, None, refl, sym, ap, subst, ◌∙◌, arith, length-append}
use Rattle.std.proofs.Math.Seq.{take-append_seam, take-append-add}
use Rattle.std.proofs.lemmas.Bool.{cases_lt}
use Rattle.std.specs.List.{list_all}
use Rattle.sm_ids.specs.Identifier.{is_identifier_byte, IsIdentifier}
use Rattle.sm_ids.specs.IdText.{BeginsText, BreaksAt}
use Rattle.sm_ids.specs.steps.Ahead.{is_underscore, Part, in_namespace, in_name, in_member, EndsRun, Ahead}
use Rattle.sm_ids.proofs.Identifiers.{opener, Shuts, whole, shut, letter_opens, made_of_bytes}
use Rattle.sm_ids.proofs.Aheads.{After, Opened, opened, joined, after_run, no_member}

-- some bytes more of the second list reach past the first
past : (a v : List ℕ) (n : ℕ) → length a < n → n ≤ length (a ++ v)
    → (c : ℕ) × (w : List ℕ) × (k : ℕ) × (v ≡ c ∷ w) × (take n (a ++ v) ≡ a ++ c ∷ take k w)
past a [] n above within = absurd (let same : length (a ++ []) ≡ length a = ap length (append-nil a) in omega arith)
past a (c ∷ w) n above within = let e : length a + suc (n - length a - 1) ≡ n = omega arith in
    (c, w, n - length a - 1, refl, ap (λ k. take k (a ++ c ∷ w)) (sym e) ∙ take-append-add a (c ∷ w) (suc (n - length a - 1)))

-- a prefix begins a text of the kind, and with the byte behind it none goes on
pub breaks : (L : List ℕ → Type 0) (a v : List ℕ) → (L (a ++ v) → ⊥) → BeginsText L a
    → ((c : ℕ) (w more : List ℕ) → v ≡ c ∷ w → L (a ++ c ∷ more) → ⊥) → BreaksAt L (a ++ v) (length a)
breaks L a v none begun stop = record {
  none = none;
  within = let e = length-append a v in omega arith;
  begun = subst (BeginsText L) (sym (take-append_seam a v)) begun;
  most = λ n within (more, t). elim (cases_lt (length a) n) [
    | inl above ↦
        let p = past a v n above within in
        absurd (stop p.0 p.1 (take p.2 p.1 ++ more) p.3 (subst L (ap (λ x. x ++ more) p.4 ∙ append_assoc a (p.0 ∷ take p.2 p.1) more) t))
    | inr le ↦ le
  ];
}

-- where the rest breaks, so does the whole
pub breaks_after : (L M : List ℕ → Type 0) (w u : List ℕ) (n : ℕ) → ((x : List ℕ) → L (w ++ x) → M x) → ((x : List ℕ) → M x → L (w ++ x))
    → BreaksAt M u n → BreaksAt L (w ++ u) (length w + n)
breaks_after L M w u n onward back b = record {
  none = λ t. b.none (onward u t);
  within = let e = length-append w u in let le = b.within in omega arith;
  begun = (
    b.begun.0,
    subst L (sym (ap (λ x. x ++ b.begun.0) (take-append-add w u n) ∙ append_assoc w (take n u) b.begun.0))
        (back (take n u ++ b.begun.0) b.begun.1),
  );
  most = λ k within (more, t). elim (cases_lt (length w) k) [
    | inl above ↦
        let e : length w + (k - length w) ≡ k = omega arith in
        let len = length-append w u in
        let le : k - length w ≤ n = b.most (k - length w) (omega arith) (
          more,
          onward (take (k - length w) u ++ more)
              (subst L (ap (λ x. x ++ more) (ap (λ j. take j (w ++ u)) (sym e) ∙ take-append-add w u (k - length w))
              ∙ append_assoc w (take (k - length w) u) more) t),
        ) in
        omega arith
    | inr le ↦ omega arith
  ];
}

-- bytes that may stand behind an identifier of each part
tail_of : Part → List ℕ
tail_of in_namespace = 35 ∷ 65 ∷ []
tail_of in_name = []
tail_of in_member = []

tail_follows : (part : Part) → After part (tail_of part)
unfolding tail_of
tail_follows in_namespace = inr (
  65 ∷ [],
  refl,
  record
      { name = 65 ∷ []; member = None; is_name = refl; is_member = no_member; spelled = refl },
)
tail_follows in_name = inl refl
tail_follows in_member = refl

-- behind underscores that nothing opens
pub breaks_shut : (part : Part) (us v : List ℕ) → list_all is_underscore us ≡ true → Shuts (opener us) v
    → BreaksAt (Ahead part) (us ++ v) (length us)
breaks_shut part us v hu hv = breaks (Ahead part) us v (λ a. no_opening v hv (opened part (us ++ v) a)) (
  65 ∷ tail_of part,
  subst (Ahead part) (append_assoc us (65 ∷ []) (tail_of part))
      (joined part (us ++ 65 ∷ []) (tail_of part) (whole us 65 [] hu (letter_opens us) refl) (tail_follows part)),
)
    (λ c w more e a. no_opening (c ∷ more) (subst (Shuts (opener us)) e hv) (opened part (us ++ c ∷ more) a))
  where
    no_opening : (x : List ℕ) → Shuts (opener us) x → Opened part (us ++ x) → ⊥
    no_opening x h o = shut us x o.opening o.behind hu h o.is_opening (sym o.parts)

-- behind an identifier with which nothing that comes goes on
pub breaks_behind : (part : Part) (i v : List ℕ) → IsIdentifier i → EndsRun is_identifier_byte v → (After part v → ⊥)
    → ((c : ℕ) (w more : List ℕ) → v ≡ c ∷ w → After part (c ∷ more) → ⊥) → BreaksAt (Ahead part) (i ++ v) (length i)
breaks_behind part i v h o none stop = breaks (Ahead part) i v (λ a. none (after_run part i v (made_of_bytes i h) o a))
    (tail_of part, joined part i (tail_of part) h (tail_follows part))
    (λ c w more e a. stop c w more e (after_run part i (c ∷ more) (made_of_bytes i h) (subst (EndsRun is_identifier_byte) e o) a))
