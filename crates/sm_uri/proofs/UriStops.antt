-- Where nothing goes on: carried outwards from a rest to the whole, and told as a place.
use Rattle.std.proofs.Common.{◌≡◌, ℕ, suc, ◌+◌, ◌-◌, ◌<◌, ◌≤◌, inl, inr, Bool, List, [], ◌∷◌, ◌++◌, length, take, append_assoc, append-nil}
use Rattle.std.proofs.Common.{refl, sym, ap, subst, ◌∙◌, arith, length-append}
use Rattle.std.proofs.Math.Seq.{take-append_seam, take-append-add}
use Rattle.std.proofs.lemmas.Bool.{cases_lt}
use Rattle.sm_ids.specs.IdText.{BeginsText, BreaksAt}
use Rattle.sm_ids.specs.steps.Ahead.{EndsRun}
use Rattle.sm_uri.specs.steps.UriReading.{NoneGoesOn, StopsBefore}

-- where a run ends before some bytes, it ends before all that begin as they do
pub same_end : (p : ℕ → Bool) (a : List ℕ) (c : ℕ) (v more : List ℕ) → EndsRun p (a ++ c ∷ v) → EndsRun p (a ++ c ∷ more)
same_end p [] c v more h = h
same_end p (d ∷ a) c v more h = h

pub none_behind : (p : ℕ → Bool) (L M : List ℕ → Type 0) (w s taken r : List ℕ) → ((x : List ℕ) → EndsRun p x → L (w ++ x) → M x)
    → EndsRun p s → s ≡ taken ++ r → NoneGoesOn M taken r → NoneGoesOn L (w ++ taken) r
none_behind p L M w s taken [] onward ends e none = λ l. none (onward taken (subst (EndsRun p) (e ∙ append-nil taken) ends) l)
none_behind p L M w s taken (c ∷ v) onward ends e none = λ more l.
    none more (onward (taken ++ c ∷ more) (same_end p taken c v more (subst (EndsRun p) e ends))
    (subst L (append_assoc w taken (c ∷ more)) l))

-- where the rest stops, the whole does
pub stops_behind : (p : ℕ → Bool) (L M : List ℕ → Type 0) (w s r : List ℕ) → ((x : List ℕ) → EndsRun p x → L (w ++ x) → M x)
    → ((x : List ℕ) → M x → L (w ++ x)) → EndsRun p s → StopsBefore M s r → StopsBefore L (w ++ s) r
stops_behind p L M w s r onward back ends b = record {
  taken = w ++ b.taken;
  cut = ap (λ x. w ++ x) b.cut ∙ sym (append_assoc w b.taken r);
  begun = (b.begun.0, subst L (sym (append_assoc w b.taken b.begun.0)) (back (b.taken ++ b.begun.0) b.begun.1));
  none = none_behind p L M w s b.taken r onward ends b.cut b.none;
}

-- what ends no run at all
pub ends_none : (s : List ℕ) → EndsRun (λ c. Bool.false) s
ends_none [] = tt
ends_none (c ∷ s) = refl

not_whole : (L : List ℕ → Type 0) (taken r : List ℕ) → NoneGoesOn L taken r → L (taken ++ r) → ⊥
not_whole L taken [] none l = none (subst L (append-nil taken) l)
not_whole L taken (c ∷ r) none l = none r l

-- a prefix that is longer than what was taken
longer : (taken r : List ℕ) (n : ℕ) → length taken < n → n ≤ length (taken ++ r)
    → (c : ℕ) × (v : List ℕ) × (k : ℕ) × (r ≡ c ∷ v) × (take n (taken ++ r) ≡ taken ++ c ∷ take k v)
longer taken [] n above within = absurd (let same = ap length (append-nil taken) in omega (arith, above, within, same))
longer taken (c ∷ v) n above within = let e : length taken + suc (n - length taken - 1) ≡ n = omega (arith, above) in (
  c,
  v,
  n - length taken - 1,
  refl,
  ap (λ k. take k (taken ++ c ∷ v)) (sym e) ∙ take-append-add taken (c ∷ v) (suc (n - length taken - 1)),
)

none_longer : (L : List ℕ → Type 0) (taken r : List ℕ) → NoneGoesOn L taken r → (c : ℕ) (v rest : List ℕ) → r ≡ c ∷ v
    → L (taken ++ c ∷ rest) → ⊥
none_longer L taken [] none c v rest e l = cc
none_longer L taken (d ∷ r) none c v rest e l = none rest (subst (λ y. L (taken ++ y ∷ rest)) (let f : c ≡ d = cc in f) l)

-- a stop is where the bytes break
breaks_cut : (L : List ℕ → Type 0) (taken r : List ℕ) → BeginsText L taken → NoneGoesOn L taken r → BreaksAt L (taken ++ r) (length taken)
breaks_cut L taken r begun none = record {
  none = not_whole L taken r none;
  within = let e = length-append taken r in omega (arith, e);
  begun = subst (BeginsText L) (sym (take-append_seam taken r)) begun;
  most = λ n within (more, t). elim (cases_lt (length taken) n) [
    | inl above ↦
        let p = longer taken r n above within in
        absurd (none_longer L taken r none p.0 p.1 (take p.2 p.1 ++ more) p.3
        (subst L (ap (λ x. x ++ more) p.4 ∙ append_assoc taken (p.0 ∷ take p.2 p.1) more) t))
    | inr le ↦ le
  ];
}

pub breaks_before : (L : List ℕ → Type 0) (bytes rest : List ℕ) → StopsBefore L bytes rest → BreaksAt L bytes (length bytes - length rest)
breaks_before L bytes rest b =
    let len : length bytes ≡ length b.taken + length rest = ap length b.cut ∙ length-append b.taken rest in
    let at : length b.taken ≡ length bytes - length rest = omega (arith, len) in
    subst (BreaksAt L bytes) at (subst (λ x. BreaksAt L x (length b.taken)) (sym b.cut) (breaks_cut L b.taken rest b.begun b.none))
