-- Where `connection: close` is put.
use Rattle.std.proofs.Common.{◌≡◌, ℕ, zero, suc, ◌+◌, ◌-◌, ◌≤◌, List, [], ◌∷◌, length, get_or, Bool, true, false, refl, sym, ap, ◌∙◌, arith}
use Rattle.std.specs.Prelude.{if◌then◌else◌}
use Rattle.std.specs.List.{insert}
use Rattle.sm_http.specs.declared.message.Field.{Field}
use Rattle.sm_http.specs.Connections.{close_field, is_length_field, fields_with_close}
use Rattle.sm_http.specs.steps.Placing.{close_place}

one_placed : (f : Field) (is : Bool)
    → insert (f ∷ []) (if is then 0 else 1) close_field ≡ (if is then close_field ∷ f ∷ [] else f ∷ close_field ∷ [])
one_placed f true = refl
one_placed f false = refl

pub close_placed : (fs : List Field) → insert fs (close_place fs) close_field ≡ fields_with_close fs
close_placed [] = refl
close_placed (f ∷ []) = one_placed f (is_length_field f)
close_placed (f ∷ g ∷ fs) = ap (λ l. f ∷ l) (close_placed (g ∷ fs))

one_further : (is : Bool) (n : ℕ) → suc (if is then n else n + 1) ≡ (if is then suc n else suc n + 1)
one_further true n = refl
one_further false n = omega arith

-- the place is the last field's where that is a length, else behind it
place_at : (fields : List Field) (n : ℕ) (d : Field) → length fields ≡ n + 1
    → close_place fields ≡ (if is_length_field (get_or fields n d) then n else n + 1)
place_at [] n d long = absurd (omega arith)
place_at (f ∷ []) zero d long = refl
place_at (f ∷ []) (suc n) d long = absurd (omega arith)
place_at (f ∷ g ∷ fields) zero d long = absurd (omega arith)
place_at (f ∷ g ∷ fields) (suc n) d long =
    ap suc (place_at (g ∷ fields) n d (omega arith)) ∙ one_further (is_length_field (get_or (g ∷ fields) n d)) n

last_place : (fields : List Field) (last : Field) (is : Bool) → 1 ≤ length fields → last ≡ get_or fields (length fields - 1) last
    → is_length_field last ≡ is → close_place fields ≡ (if is then length fields - 1 else length fields - 1 + 1)
last_place fields last is some at e =
    let n = length fields - 1 in
    place_at fields n last (omega arith) ∙ ap (λ f. if is_length_field f then n else n + 1) (sym at) ∙ ap (λ b. if b then n else n + 1) e

pub place_of_length : (fields : List Field) (last : Field) → 1 ≤ length fields → last ≡ get_or fields (length fields - 1) last
    → is_length_field last ≡ true → length fields - 1 ≡ close_place fields
place_of_length fields last some at e = sym (last_place fields last true some at e)

pub place_of_other : (fields : List Field) (last : Field) → 1 ≤ length fields → last ≡ get_or fields (length fields - 1) last
    → is_length_field last ≡ false → length fields ≡ close_place fields
place_of_other fields last some at e = let place = last_place fields last false some at e in omega arith
