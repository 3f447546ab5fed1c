-- Which bytes may come behind a value: with them some text goes on, and with others none does.
use Rattle.std.specs.Prelude.{Bool, IsTrue, ◌↔◌}
use Rattle.std.proofs.Common.{◌≡◌, ℕ, ◌≤◌, ◌⊎◌, inl, inr, true, false, List, [], ◌∷◌, ◌++◌, refl, sym, subst, arith, length}
use Rattle.sm_tree.specs.Events.{NodeEvent}
use Rattle.sm_tree.specs.Syntax.{most_levels}
use Rattle.sm_tree.specs.Building.{IsIn}
use Rattle.sm_tree.specs.declared.build.OpenKind.{OpenKind}
use Rattle.sm_tree.specs.declared.build.OpenKind.TheVariants.{List as a_list, Object as an_object}
use Rattle.sm_json.specs.Strings.{is_whitespace}
use Rattle.sm_json.specs.steps.Rest.{after, value, next_key, JsonState, JsonLeads, JsonGoesOn}
use Rattle.sm_json.specs.steps.Machine.{lists_of, behind_value, Halts, MayFollow}
use Rattle.sm_json.specs.declared.read.Reader.{Reader}
use Rattle.sm_json.proofs.Opening.{at}
use Rattle.sm_json.proofs.White.{white_leads}
use Rattle.sm_json.proofs.After.{list_goes_on, list_ends, list_stops, object_goes_on, object_ends, object_stops}
use Rattle.sm_json.proofs.Closing.{after_goes_on, value_goes_on, next_key_goes_on}
use Rattle.sm_json.proofs.Readers.{room_in, inside}

-- what leads to a state from which some text goes on
goes_with : (x y : JsonState) (w : List ℕ) (out : List NodeEvent) → JsonLeads most_levels x w out y → JsonGoesOn most_levels y []
    → JsonGoesOn most_levels x w
goes_with x y w out leads (s, us, rest) = let (os, hands, before) = leads.back s us rest in (s, os ++ us, before)

pub white_follows : (r : Reader) (c : ℕ) → is_whitespace c ≡ true → JsonGoesOn most_levels (behind_value r) (c ∷ [])
white_follows r c white =
    goes_with (behind_value r) (behind_value r) (c ∷ []) [] (white_leads most_levels (behind_value r) c tt white)
    (after_goes_on most_levels (lists_of r) (room_in r most_levels (omega arith)))

entry_goes_with : (ks : List OpenKind) (c : ℕ) → length (a_list ∷ ks) ≤ most_levels → (c ≡ 44) ⊎ (c ≡ 93)
    → JsonGoesOn most_levels (at after (a_list ∷ ks)) (c ∷ [])
entry_goes_with ks c room (inl is) =
    subst (λ b. JsonGoesOn most_levels (at after (a_list ∷ ks)) (b ∷ [])) (sym is)
    (goes_with (at after (a_list ∷ ks)) (at value (a_list ∷ ks)) (44 ∷ []) [] (list_goes_on most_levels ks)
    (value_goes_on most_levels (a_list ∷ ks) room))
entry_goes_with ks c room (inr is) =
    subst (λ b. JsonGoesOn most_levels (at after (a_list ∷ ks)) (b ∷ [])) (sym is)
    (goes_with (at after (a_list ∷ ks)) (at after ks) (93 ∷ []) _ (list_ends most_levels ks room)
    (after_goes_on most_levels ks (omega arith)))

pair_goes_with : (ks : List OpenKind) (c : ℕ) → length (an_object ∷ ks) ≤ most_levels → (c ≡ 44) ⊎ (c ≡ 125)
    → JsonGoesOn most_levels (at after (an_object ∷ ks)) (c ∷ [])
pair_goes_with ks c room (inl is) =
    subst (λ b. JsonGoesOn most_levels (at after (an_object ∷ ks)) (b ∷ [])) (sym is)
    (goes_with (at after (an_object ∷ ks)) (at next_key (an_object ∷ ks)) (44 ∷ []) [] (object_goes_on most_levels ks)
    (next_key_goes_on most_levels (an_object ∷ ks) room))
pair_goes_with ks c room (inr is) =
    subst (λ b. JsonGoesOn most_levels (at after (an_object ∷ ks)) (b ∷ [])) (sym is)
    (goes_with (at after (an_object ∷ ks)) (at after ks) (125 ∷ []) _ (object_ends most_levels ks room)
    (after_goes_on most_levels ks (omega arith)))

-- behind an entry, behind a pair, and behind the whole
pub entry_follows : (r : Reader) (c : ℕ) → IsIn a_list (lists_of r) → (c ≡ 44) ⊎ (c ≡ 93) → JsonGoesOn most_levels (behind_value r) (c ∷ [])
entry_follows r c within is =
    let (ks, same) = inside (lists_of r) a_list within in
    subst (λ ls. JsonGoesOn most_levels (at after ls) (c ∷ [])) (sym same)
    (entry_goes_with ks c (subst (λ ls. length ls ≤ most_levels) same (room_in r most_levels (omega arith))) is)

pub pair_follows : (r : Reader) (c : ℕ) → IsIn an_object (lists_of r) → (c ≡ 44) ⊎ (c ≡ 125)
    → JsonGoesOn most_levels (behind_value r) (c ∷ [])
pair_follows r c within is =
    let (ks, same) = inside (lists_of r) an_object within in
    subst (λ ls. JsonGoesOn most_levels (at after ls) (c ∷ [])) (sym same)
    (pair_goes_with ks c (subst (λ ls. length ls ≤ most_levels) same (room_in r most_levels (omega arith))) is)

pub no_entry_follows : (r : Reader) (c : ℕ) → IsIn a_list (lists_of r) → is_whitespace c ≡ false → ((c ≡ 44) ⊎ (c ≡ 93) → ⊥)
    → Halts (behind_value r) c
no_entry_follows r c within white other =
    let (ks, same) = inside (lists_of r) a_list within in
    subst (λ ls. Halts (at after ls) c) (sym same) (λ limit. list_stops limit c ks white (λ e. other (inl e)) (λ e. other (inr e)))

pub no_pair_follows : (r : Reader) (c : ℕ) → IsIn an_object (lists_of r) → is_whitespace c ≡ false → ((c ≡ 44) ⊎ (c ≡ 125) → ⊥)
    → Halts (behind_value r) c
no_pair_follows r c within white other =
    let (ks, same) = inside (lists_of r) an_object within in
    subst (λ ls. Halts (at after ls) c) (sym same) (λ limit. object_stops limit c ks white (λ e. other (inl e)) (λ e. other (inr e)))

-- as tests
pub entry_may_follow : (r : Reader) (c : ℕ) (result : Bool) → IsIn a_list (lists_of r) → is_whitespace c ≡ false
    → (IsTrue result ↔ (c ≡ 44) ⊎ (c ≡ 93)) → MayFollow r c result
entry_may_follow r c true within white is = entry_follows r c within (is.0 refl)
entry_may_follow r c false within white is = no_entry_follows r c within white (λ e. let clash : false ≡ true = is.1 e in cc)

pub pair_may_follow : (r : Reader) (c : ℕ) (result : Bool) → IsIn an_object (lists_of r) → is_whitespace c ≡ false
    → (IsTrue result ↔ (c ≡ 44) ⊎ (c ≡ 125)) → MayFollow r c result
pair_may_follow r c true within white is = pair_follows r c within (is.0 refl)
pair_may_follow r c false within white is = no_pair_follows r c within white (λ e. let clash : false ≡ true = is.1 e in cc)
