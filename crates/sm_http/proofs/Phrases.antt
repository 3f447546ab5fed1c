-- No status outside 100 to 999 has a phrase.
use Rattle.std.proofs.Common.{◌≡◌, ℕ, ◌<◌, ◌≤◌, ◌⊎◌, inl, inr, Bool, true, false, List, [], refl, ap, ◌∙◌, arith, Option, None}
use Rattle.std.specs.Prelude.{◌==◌, if◌then◌else◌, unwrap_or}
use Rattle.std.proofs.lemmas.Bool.{eqb-true, cases_lt}
use Rattle.http.specs.StatusCode.{reason_phrase}
use Rattle.sm_http.specs.Written.{phrase}

-- a number that isn't within
abbrev Outside : ℕ → Type 0
Outside n = (n < 100) ⊎ (999 < n)

other : (n k : ℕ) → Outside n → 100 ≤ k → k ≤ 999 → n ≡ k → ⊥
other n k (inl low) from to e = omega arith
other n k (inr high) from to e = omega arith

skipped : (n k : ℕ) (t : Bool) (a b : Option (List ℕ)) → (n == k) ≡ t → (n ≡ k → ⊥) → (if t then a else b) ≡ b
skipped n k true a b e not_k = absurd (not_k (eqb-true n k e))
skipped n k false a b e not_k = refl

skip : (n k : ℕ) (a b : Option (List ℕ)) → Outside n → 100 ≤ k → k ≤ 999 → (if n == k then a else b) ≡ b
skip n k a b out from to = skipped n k (n == k) a b refl (other n k out from to)

none_outside : (n : ℕ) → Outside n → reason_phrase n ≡ None
none_outside n out =
    skip n 100 _ _ out (omega arith) (omega arith)
    ∙ skip n 101 _ _ out (omega arith) (omega arith)
    ∙ skip n 102 _ _ out (omega arith) (omega arith)
    ∙ skip n 103 _ _ out (omega arith) (omega arith)
    ∙ skip n 200 _ _ out (omega arith) (omega arith)
    ∙ skip n 201 _ _ out (omega arith) (omega arith)
    ∙ skip n 202 _ _ out (omega arith) (omega arith)
    ∙ skip n 203 _ _ out (omega arith) (omega arith)
    ∙ skip n 204 _ _ out (omega arith) (omega arith)
    ∙ skip n 205 _ _ out (omega arith) (omega arith)
    ∙ skip n 206 _ _ out (omega arith) (omega arith)
    ∙ skip n 207 _ _ out (omega arith) (omega arith)
    ∙ skip n 208 _ _ out (omega arith) (omega arith)
    ∙ skip n 226 _ _ out (omega arith) (omega arith)
    ∙ skip n 300 _ _ out (omega arith) (omega arith)
    ∙ skip n 301 _ _ out (omega arith) (omega arith)
    ∙ skip n 302 _ _ out (omega arith) (omega arith)
    ∙ skip n 303 _ _ out (omega arith) (omega arith)
    ∙ skip n 304 _ _ out (omega arith) (omega arith)
    ∙ skip n 305 _ _ out (omega arith) (omega arith)
    ∙ skip n 307 _ _ out (omega arith) (omega arith)
    ∙ skip n 308 _ _ out (omega arith) (omega arith)
    ∙ skip n 400 _ _ out (omega arith) (omega arith)
    ∙ skip n 401 _ _ out (omega arith) (omega arith)
    ∙ skip n 402 _ _ out (omega arith) (omega arith)
    ∙ skip n 403 _ _ out (omega arith) (omega arith)
    ∙ skip n 404 _ _ out (omega arith) (omega arith)
    ∙ skip n 405 _ _ out (omega arith) (omega arith)
    ∙ skip n 406 _ _ out (omega arith) (omega arith)
    ∙ skip n 407 _ _ out (omega arith) (omega arith)
    ∙ skip n 408 _ _ out (omega arith) (omega arith)
    ∙ skip n 409 _ _ out (omega arith) (omega arith)
    ∙ skip n 410 _ _ out (omega arith) (omega arith)
    ∙ skip n 411 _ _ out (omega arith) (omega arith)
    ∙ skip n 412 _ _ out (omega arith) (omega arith)
    ∙ skip n 413 _ _ out (omega arith) (omega arith)
    ∙ skip n 414 _ _ out (omega arith) (omega arith)
    ∙ skip n 415 _ _ out (omega arith) (omega arith)
    ∙ skip n 416 _ _ out (omega arith) (omega arith)
    ∙ skip n 417 _ _ out (omega arith) (omega arith)
    ∙ skip n 418 _ _ out (omega arith) (omega arith)
    ∙ skip n 421 _ _ out (omega arith) (omega arith)
    ∙ skip n 422 _ _ out (omega arith) (omega arith)
    ∙ skip n 423 _ _ out (omega arith) (omega arith)
    ∙ skip n 424 _ _ out (omega arith) (omega arith)
    ∙ skip n 425 _ _ out (omega arith) (omega arith)
    ∙ skip n 426 _ _ out (omega arith) (omega arith)
    ∙ skip n 428 _ _ out (omega arith) (omega arith)
    ∙ skip n 429 _ _ out (omega arith) (omega arith)
    ∙ skip n 431 _ _ out (omega arith) (omega arith)
    ∙ skip n 451 _ _ out (omega arith) (omega arith)
    ∙ skip n 500 _ _ out (omega arith) (omega arith)
    ∙ skip n 501 _ _ out (omega arith) (omega arith)
    ∙ skip n 502 _ _ out (omega arith) (omega arith)
    ∙ skip n 503 _ _ out (omega arith) (omega arith)
    ∙ skip n 504 _ _ out (omega arith) (omega arith)
    ∙ skip n 505 _ _ out (omega arith) (omega arith)
    ∙ skip n 506 _ _ out (omega arith) (omega arith)
    ∙ skip n 507 _ _ out (omega arith) (omega arith)
    ∙ skip n 508 _ _ out (omega arith) (omega arith)
    ∙ skip n 510 _ _ out (omega arith) (omega arith)
    ∙ skip n 511 _ _ out (omega arith) (omega arith)

no_phrase : (n : ℕ) → Outside n → phrase n ≡ []
no_phrase n out = ap (λ p. unwrap_or p []) (none_outside n out)

-- a number that is no status
pub no_status : (n : ℕ) → ((100 ≤ n) × (n < 1000) → ⊥) → phrase n ≡ []
no_status n none = elim (cases_lt n 100) [
  | inl low ↦ no_phrase n (inl low)
  | inr from ↦ elim (cases_lt 999 n) [
    | inl high ↦ no_phrase n (inr high)
    | inr to ↦ absurd (none (from, omega arith))
  ]
]
