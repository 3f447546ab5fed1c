-- The test for shape ids says exactly which texts are ids.
use Rattle.std.proofs.Common.{◌≡◌, ℕ, Bool, true, false, cond, List, [], ◌∷◌, ◌++◌, Option, Some, None, Err, refl, sym, ap}
use Rattle.std.proofs.Common.{subst, ◌∙◌, arith}
use Rattle.std.specs.Prelude.{◌||◌, ◌==◌}
use Rattle.std.specs.Option.{ForSome, unwrap_or}
use Rattle.std.specs.List.{list_all, list_any, slice_split, join_with_byte, All}
use Rattle.std.proofs.lemmas.Bool.Decides.{nat_tests}
use Rattle.std.proofs.lemmas.List.{append-nil}
use Rattle.std.proofs.lemmas.List.Folds.{list_any-append, list_all-append}
use Rattle.std.proofs.lemmas.List.Sums.{AllPass-from_list_all}
use Rattle.std.proofs.lemmas.List.Splits.{join_with_byte-slice_split, slice_split_none, slice_split_at}
use Rattle.sm_ids.specs.Identifier.{is_identifier_byte, is_identifier, IsIdentifier, identifiers, IsNamespace}
use Rattle.sm_ids.specs.IdText.{Id, IsId, IdText, IsIdText, member_text, printed}
use Rattle.sm_ids.specs.Answers.{Parses}
use Rattle.sm_ids.specs.declared.refusal.IdRefusal.{IdRefusal}
use Rattle.sm_ids.specs.declared.refusal.IdRefusal.TheVariants.{Empty, BadIdentifier}
use Rattle.sm_ids.proofs.Cutting.{both, and_also, list_all_weaker}
use Rattle.sm_ids.proofs.Identifiers.{made_of_bytes}
use Rattle.sm_ids.proofs.Namespaces.{is_namespace_byte, namespace_bytes}
use Rattle.sm_model.specs.References.{IsShapeId}
use Rattle.sm_ast.specs.Ids.{are_names, are_id_parts, is_id, has_member}
use Rattle.sm_bytes.specs.Ascii.{dollar, number_sign}
use Rattle.sm_ids.specs.TextParts.{is_byte}

-- what is behind the namespace of an id
is_name_byte : ℕ → Bool
is_name_byte c = is_identifier_byte c || (c == 36)

name_identifier : (t : List ℕ) → IsIdentifier t → list_all is_name_byte t ≡ true
unfolding is_name_byte
name_identifier t h = list_all_weaker is_identifier_byte is_name_byte (λ c k. ap (λ b. b || (c == 36)) k) t (made_of_bytes t h)

member_bytes : (m : Option (List ℕ)) → ForSome m IsIdentifier → list_all is_name_byte (member_text m) ≡ true
unfolding is_name_byte
member_bytes None h = refl
member_bytes (Some m) h = name_identifier m (h m refl)

all_false : (p q : ℕ → Bool) → ((c : ℕ) → q c ≡ true → p c ≡ false) → (xs : List ℕ) → list_all q xs ≡ true → All (λ c. p c ≡ false) xs
all_false p q other xs h = let passes = AllPass-from_list_all q xs h in λ k d lt. other _ (passes k d lt)

namespace_is_no_sign : (c : ℕ) → is_namespace_byte c ≡ true → is_byte number_sign c ≡ false
namespace_is_no_sign c h = grind (arith, nat_tests)

name_is_no_sign : (c : ℕ) → is_name_byte c ≡ true → is_byte number_sign c ≡ false
unfolding is_name_byte
name_is_no_sign c h = grind (arith, nat_tests)

pub identifier_is_no_dollar : (c : ℕ) → is_identifier_byte c ≡ true → is_byte dollar c ≡ false
identifier_is_no_dollar c h = grind (arith, nat_tests)

no_dollars : (t : List ℕ) → IsIdentifier t → All (λ c. is_byte dollar c ≡ false) t
no_dollars t h = all_false (is_byte dollar) is_identifier_byte identifier_is_no_dollar t (made_of_bytes t h)

-- the names behind a namespace pass
names_pass : (name : List ℕ) (m : Option (List ℕ)) → IsIdentifier name → ForSome m IsIdentifier
    → are_names (slice_split (is_byte dollar) (name ++ member_text m)) ≡ true
names_pass name None h k =
    ap (λ t. are_names (slice_split (is_byte dollar) t)) (append-nil name) ∙ ap are_names (slice_split_none (is_byte dollar) name (no_dollars name h)) ∙ h
names_pass name (Some m) h k =
    ap are_names (slice_split_at (is_byte dollar) name 36 m (no_dollars name h) refl
    ∙ ap (λ ps. name ∷ ps) (slice_split_none (is_byte dollar) m (no_dollars m (k m refl))))
    ∙ and_also (is_identifier name) (is_identifier m) h (k m refl)

printed_passes : (id : Id) → IsId id → is_id (printed id) ≡ true
printed_passes id h =
    let rest = id.name ++ member_text id.member in
    ap are_id_parts (slice_split_at (is_byte number_sign) id.namespace 35 rest
    (all_false (is_byte number_sign) is_namespace_byte namespace_is_no_sign id.namespace (namespace_bytes id.namespace h.namespace)) refl
    ∙ ap (λ ps. id.namespace ∷ ps) (slice_split_none (is_byte number_sign) rest
    (all_false (is_byte number_sign) is_name_byte name_is_no_sign rest
    (list_all-append is_name_byte id.name _ ∙ and_also _ _ (name_identifier id.name h.name) (member_bytes id.member h.member)))))
    ∙ and_also (list_all is_identifier (identifiers id.namespace)) _ h.namespace (names_pass id.name id.member h.name h.member)

no_member : ForSome None IsIdentifier
no_member x e = cc

some_member : (m : List ℕ) → IsIdentifier m → ForSome (Some m) IsIdentifier
some_member m h x e = subst IsIdentifier (some_is_same e) h
  where
    some_is_same : {x y : List ℕ} → ◌≡◌ {A = Option (List ℕ)} (Some x) (Some y) → x ≡ y
    some_is_same {x} e = ap (λ o. unwrap_or o x) e

from_names : (ns rest t : List ℕ) → t ≡ ns ++ 35 ∷ rest → IsNamespace ns → (qs : List (List ℕ)) → join_with_byte 36 qs ≡ rest
    → are_names qs ≡ true → IsIdText t
from_names ns rest t e h [] j k = absurd (subst (λ c. cond c ⊥ (Unit {0})) k tt)
from_names ns rest t e h (name ∷ []) j k = (
  record { namespace = ns; name = name; member = None },
  record {
    is_id = record { namespace = h; name = k; member = no_member };
    spelled = e ∙ ap (λ r. ns ++ 35 ∷ r) (sym j ∙ sym (append-nil name));
  },
)
from_names ns rest t e h (name ∷ m ∷ []) j k =
    let l = both (is_identifier name) (is_identifier m) k in (
      record { namespace = ns; name = name; member = Some m },
      record {
        is_id = record { namespace = h; name = l.0; member = some_member m l.1 };
        spelled = e ∙ ap (λ r. ns ++ 35 ∷ r) (sym j);
      },
    )
from_names ns rest t e h (name ∷ m ∷ more ∷ qs) j k = absurd (subst (λ c. cond c ⊥ (Unit {0})) k tt)

from_parts : (t : List ℕ) (ps : List (List ℕ)) → join_with_byte 35 ps ≡ t → are_id_parts ps ≡ true → IsIdText t
from_parts t [] j h = absurd (subst (λ c. cond c ⊥ (Unit {0})) h tt)
from_parts t (ns ∷ []) j h = absurd (subst (λ c. cond c ⊥ (Unit {0})) h tt)
from_parts t (ns ∷ rest ∷ []) j h =
    let l = both (list_all is_identifier (identifiers ns)) _ h in
    from_names ns rest t (sym j) l.0 (slice_split (is_byte dollar) rest) (join_with_byte-slice_split 36 rest) l.1
from_parts t (a ∷ b ∷ c ∷ ps) j h = absurd (subst (λ c. cond c ⊥ (Unit {0})) h tt)

-- both ways
pub passed_is_id : (t : List ℕ) → is_id t ≡ true → IsIdText t
passed_is_id t h = from_parts t (slice_split (is_byte number_sign) t) (join_with_byte-slice_split 35 t) h

pub id_passes : (t : List ℕ) → IsIdText t → is_id t ≡ true
id_passes t (id, h) = ap is_id h.spelled ∙ printed_passes id h.is_id

-- what `parse` of ids answers, and what a text lacks that is refused
pub parsed_passes : (t : List ℕ) (id : Id) → IdText id t → true ≡ is_id t
parsed_passes t id h = sym (id_passes t (id, h))

refused_fails : (b : Bool) → (b ≡ true → ⊥) → false ≡ b
refused_fails true h = absurd (h refl)
refused_fails false h = refl

pub no_id_fails : (t : List ℕ) (refusal : IdRefusal) → Parses t (Err refusal) → false ≡ is_id t
no_id_fails t Empty e = sym (ap is_id e)
no_id_fails t (BadIdentifier at) h = refused_fails (is_id t) (λ p. h.1.none (passed_is_id t p))

-- the id of a shape passes, and has no `$`
pub namespace_is_no_dollar : (c : ℕ) → is_namespace_byte c ≡ true → is_byte dollar c ≡ false
namespace_is_no_dollar c h = grind (arith, nat_tests)

none_is_dollar : (q : ℕ → Bool) → ((c : ℕ) → q c ≡ true → is_byte dollar c ≡ false) → (xs : List ℕ) → list_all q xs ≡ true
    → list_any (is_byte dollar) xs ≡ false
none_is_dollar q f [] h = refl
none_is_dollar q f (x ∷ xs) h =
    let l = both (q x) (list_all q xs) h in ap (λ b. b || list_any (is_byte dollar) xs) (f x l.0) ∙ none_is_dollar q f xs l.1

pub plain_id : (k : List ℕ) → IsShapeId k → (is_id k ≡ true) × (has_member k ≡ false)
plain_id k (id, h, alone) =
    let space = none_is_dollar is_namespace_byte namespace_is_no_dollar id.namespace (namespace_bytes id.namespace h.is_id.namespace) in
    let name = none_is_dollar is_identifier_byte identifier_is_no_dollar id.name (made_of_bytes id.name h.is_id.name) in
    let rest = id.name ++ member_text id.member in (
      id_passes k (id, h),
      ap has_member h.spelled ∙ list_any-append (is_byte dollar) id.namespace (35 ∷ rest) ∙ ap (λ b. b || list_any (is_byte dollar) (35 ∷ rest)) space
          ∙ list_any-append (is_byte dollar) id.name (member_text id.member) ∙ ap (λ b. b || list_any (is_byte dollar) (member_text id.member)) name
          ∙ ap (λ o. list_any (is_byte dollar) (member_text o)) alone,
    )
