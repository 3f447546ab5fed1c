-- Words with a namespace have a number sign, and those without one have none.
use Rattle.std.proofs.Common.{◌≡◌, inl, inr, ℕ, Bool, true, false, cond, List, [], ◌∷◌}
use Rattle.std.proofs.Common.{◌++◌, Option, Some, None, Err, refl, sym, ap, ◌∙◌, arith, ◌==◌}
use Rattle.std.proofs.Common.{true≢false, append-nil}
use Rattle.std.specs.Prelude.{◌||◌}
use Rattle.std.specs.List.{list_any, list_all, filter}
use Rattle.std.proofs.lemmas.Bool.Decides.{nat_tests}
use Rattle.std.proofs.lemmas.List.Folds.{list_any-append}
use Rattle.sm_ids.specs.Answers.{Parses}
use Rattle.sm_ids.specs.Identifier.{is_identifier_byte, IsIdentifier}
use Rattle.sm_ids.specs.IdText.{IdText, IsIdText, member_text, printed}
use Rattle.sm_ids.specs.View.{id_of}
use Rattle.sm_ids.specs.declared.id.ShapeIdRef.{ShapeIdRef}
use Rattle.sm_ids.specs.declared.refusal.IdRefusal.{IdRefusal}
use Rattle.sm_ids.specs.declared.refusal.IdRefusal.TheVariants.{Empty, BadIdentifier}
use Rattle.sm_ids.proofs.Cutting.{both}
use Rattle.sm_ids.proofs.Identifiers.{made_of_bytes}
use Rattle.sm_model.specs.References.{IsRelativeId}
use Rattle.sm_idl.specs.Words.{IsWordId}
use Rattle.sm_idl.specs.Idl.{is_absolute}

abbrev is_sign : ℕ → Bool
is_sign c = c == 35

or_true : (b : Bool) → (b || true) ≡ true
or_true true = refl
or_true false = refl

pub id_absolute : (w : List ℕ) → IsIdText w → is_absolute w ≡ true
id_absolute w (id, t) =
    ap is_absolute t.spelled ∙ list_any-append is_sign id.namespace _ ∙ or_true (list_any is_sign id.namespace)

plain_byte : (c : ℕ) → is_identifier_byte c ≡ true → is_sign c ≡ false
plain_byte c h = grind (arith, nat_tests)

or_false : (a b : Bool) → a ≡ false → b ≡ false → (a || b) ≡ false
or_false false false e f = refl
or_false true b e f = absurd (true≢false e)
or_false false true e f = absurd (true≢false f)

none_in : (cs : List ℕ) → list_all is_identifier_byte cs ≡ true → list_any is_sign cs ≡ false
none_in [] h = refl
none_in (c ∷ cs) h = let k = both (is_identifier_byte c) (list_all is_identifier_byte cs) h in
    or_false (is_sign c) (list_any is_sign cs) (plain_byte c k.0) (none_in cs k.1)

none_in_member : (m : Option (List ℕ)) → ((t : List ℕ) → m ≡ Some t → IsIdentifier t) → list_any is_sign (member_text m) ≡ false
none_in_member None k = refl
none_in_member (Some t) k = none_in t (made_of_bytes t (k t refl))

pub relative_not_absolute : (w : List ℕ) → IsRelativeId w → is_absolute w ≡ false
relative_not_absolute w (n, m, h, k, e) =
    ap is_absolute e ∙ list_any-append is_sign n (member_text m)
    ∙ or_false (list_any is_sign n) (list_any is_sign (member_text m)) (none_in n (made_of_bytes n h)) (none_in_member m k)

-- a word that is an id, and one that is none
kept : (w : List ℕ) (b : Bool) → is_absolute w ≡ b → filter is_absolute (w ∷ []) ≡ cond b (w ∷ []) []
kept w b e = ap (λ z. cond z (w ∷ []) []) e

pub used_kept : (w : List ℕ) (id : ShapeIdRef) (printed_text : List ℕ) (old new : List (List ℕ)) → IdText (id_of id) w
    → printed_text ≡ printed (id_of id) → new ≡ old ++ printed_text ∷ [] → new ≡ old ++ filter is_absolute (w ∷ [])
used_kept w id t old new h e f =
    f ∙ ap (λ z. old ++ z ∷ []) (e ∙ sym h.spelled) ∙ ap (λ l. old ++ l) (sym (kept w true (id_absolute w (id_of id, h))))

pub not_id : (w : List ℕ) (e : IdRefusal) → Parses w (Err e) → IsIdText w → ⊥
not_id w Empty h (id, t) = true≢false (sym (id_absolute w (id, t)) ∙ ap is_absolute h)
not_id w (BadIdentifier at) h k = h.1.none k

pub used_skipped : (w : List ℕ) (e : IdRefusal) (old : List (List ℕ)) → Parses w (Err e) → IsWordId w
    → old ≡ old ++ filter is_absolute (w ∷ [])
used_skipped w e old h (inl k) = absurd (not_id w e h k)
used_skipped w e old h (inr k) = sym (ap (λ l. old ++ l) (kept w false (relative_not_absolute w k)) ∙ append-nil old)
