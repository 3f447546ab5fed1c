-- The namespaces of ids, and what stands behind them: a `#` stands in neither.
use Rattle.std.proofs.Common.{◌≡◌, ℕ, Bool, true, not, List, [], ◌∷◌, Option, Some, None, ◌++◌, take, drop, ◌+◌, refl, sym, ap, subst, ◌∙◌, append_assoc}
use Rattle.std.proofs.Common.{arith}
use Rattle.std.specs.List.{list_all}
use Rattle.std.specs.Option.{ForSome}
use Rattle.std.proofs.Math.Seq.{take-append_seam, drop-append-add}
use Rattle.std.proofs.lemmas.Bool.Decides.{nat_tests}
use Rattle.std.proofs.lemmas.List.Folds.{list_all-append}
use Rattle.sm_bytes.specs.Ascii.{number_sign}
use Rattle.sm_ids.specs.Identifier.{is_identifier_byte, IsIdentifier, IsNamespace}
use Rattle.sm_ids.specs.IdText.{IsIdText, IsShapeId, member_text}
use Rattle.sm_ids.specs.TextParts.{absolute_id, is_byte, local_part, member_id, namespace_part}
use Rattle.sm_ids.proofs.Cutting.{and_also, list_all_weaker}
use Rattle.sm_ids.proofs.Identifiers.{made_of_bytes}
use Rattle.sm_ids.proofs.Namespaces.{is_namespace_byte, name_byte, namespace_bytes}
use Rattle.sm_ids.proofs.TextCuts.{all_run}

abbrev pub is_no_sign : ℕ → Bool
is_no_sign c = not (is_byte number_sign c)

no_sign : (c : ℕ) → is_namespace_byte c ≡ true → is_no_sign c ≡ true
no_sign c h = grind (arith, nat_tests)

pub signless : (ns : List ℕ) → IsNamespace ns → list_all is_no_sign ns ≡ true
signless ns is = list_all_weaker is_namespace_byte is_no_sign no_sign ns (namespace_bytes ns is)

module _ (ns rest : List ℕ) (is : IsNamespace ns) where
  pub namespace_of : namespace_part (absolute_id ns rest) ≡ ns
  namespace_of =
      ap (λ n. take n (ns ++ 35 ∷ rest)) (sym (all_run is_no_sign ns (35 ∷ rest) (signless ns is) refl)) ∙ take-append_seam ns (35 ∷ rest)

  pub local_of : local_part (absolute_id ns rest) ≡ rest
  local_of =
      ap (λ n. drop (n + 1) (ns ++ 35 ∷ rest)) (sym (all_run is_no_sign ns (35 ∷ rest) (signless ns is) refl))
      ∙ drop-append-add ns (35 ∷ rest) 1

-- an id is its namespace and what stands behind it
pub record IsInParts (id : List ℕ) : Type 0 where
  pub namespace : IsNamespace (namespace_part id)
  pub whole : id ≡ absolute_id (namespace_part id) (local_part id)
  pub local : list_all is_no_sign (local_part id) ≡ true

identifier_signless : (t : List ℕ) → IsIdentifier t → list_all is_no_sign t ≡ true
identifier_signless t h = list_all_weaker is_identifier_byte is_no_sign (λ c k. no_sign c (name_byte c k)) t (made_of_bytes t h)

member_signless : (m : Option (List ℕ)) → ForSome m IsIdentifier → list_all is_no_sign (member_text m) ≡ true
member_signless None h = refl
member_signless (Some m) h = identifier_signless m (h m refl)

rest_signless : (name : List ℕ) (m : Option (List ℕ)) → IsIdentifier name → ForSome m IsIdentifier
    → list_all is_no_sign (name ++ member_text m) ≡ true
rest_signless name m h k =
    list_all-append is_no_sign name (member_text m)
    ∙ and_also (list_all is_no_sign name) (list_all is_no_sign (member_text m)) (identifier_signless name h) (member_signless m k)

pub id_parts : (id : List ℕ) → IsIdText id → IsInParts id
id_parts text (id, spelt) =
    let rest = id.name ++ member_text id.member in
    let front : namespace_part text ≡ id.namespace = ap namespace_part spelt.spelled
    ∙ namespace_of id.namespace rest spelt.is_id.namespace in
    let back : local_part text ≡ rest = ap local_part spelt.spelled ∙ local_of id.namespace rest spelt.is_id.namespace in
    record {
      namespace = subst IsNamespace (sym front) spelt.is_id.namespace;
      whole = spelt.spelled ∙ ap (λ n. n ++ 35 ∷ rest) (sym front) ∙ ap (λ n. namespace_part text ++ 35 ∷ n) (sym back);
      local = ap (list_all is_no_sign) back ∙ rest_signless id.name id.member spelt.is_id.name spelt.is_id.member;
    }

-- a member is of the namespace of its shape
pub shape_text : (id : List ℕ) → IsShapeId id → IsIdText id
shape_text text (id, spelt, alone) = (id, spelt)

pub member_namespace : (shape name : List ℕ) → IsShapeId shape → namespace_part (member_id shape name) ≡ namespace_part shape
member_namespace shape name is =
    let p = id_parts shape (shape_text shape is) in
    let ns = namespace_part shape in
    let rest = local_part shape in
    ap (λ s. namespace_part (s ++ 36 ∷ name)) p.whole ∙ ap namespace_part (append_assoc ns (35 ∷ rest) (36 ∷ name))
    ∙ namespace_of ns (rest ++ 36 ∷ name) p.namespace
