-- The parts of ids: a `#` stands in neither namespace nor name, so a member is of the namespace of its shape.
use Rattle.std.proofs.Common.{◌≡◌, ◌+◌, ℕ, Bool, true, false, not, List, [], ◌∷◌, ◌++◌, take, drop, refl, sym}
use Rattle.std.proofs.Common.{ap, subst, ◌∙◌}
use Rattle.std.proofs.Common.{append_assoc, arith, bytes_eq}
use Rattle.std.specs.Prelude.{◌||◌}
use Rattle.std.specs.List.{list_all, list_any}
use Rattle.std.proofs.Math.Seq.{take-append_seam, drop-append-add}
use Rattle.std.proofs.lemmas.Bool.{and_parts, true≢false}
use Rattle.std.proofs.lemmas.Bool.Decides.{nat_tests}
use Rattle.std.proofs.lemmas.Slice.Eq.{bytes_eq-Decides}
use Rattle.sm_bytes.specs.Ascii.{number_sign}
use Rattle.sm_ids.specs.Identifier.{IsNamespace}
use Rattle.sm_ids.specs.IdText.{IsIdText, IsShapeId, member_text}
use Rattle.sm_ids.specs.TextParts.{absolute_id, is_byte, local_part, member_id, namespace_part}
use Rattle.sm_ids.proofs.Cutting.{list_all_weaker}
use Rattle.sm_ids.proofs.Namespaces.{is_namespace_byte, namespace_bytes}
use Rattle.sm_ids.proofs.TextCuts.{all_run}
use Rattle.sm_model.specs.Graphs.{Entry, ShapeGiven, given_entries, given_members, given_shape}
use Rattle.sm_model.specs.Given.{given_ids}
use Rattle.sm_model.specs.PreludeShapes.{is_prelude_id, prelude_shapes}
use Rattle.sm_model.proofs.MapFacts.{Each, each_joined}
use Rattle.sm_merge.specs.Merged.{IsOfPrelude}
use Rattle.sm_merge.proofs.EntriesFound.{has_each, made_has}
use Rattle.sm_merge.proofs.PreludeGiven.{AreOfPrelude, shapes_are}
use Rattle.sm_transform.specs.Namespaces.{is_of_api}

abbrev is_no_sign : ℕ → Bool
is_no_sign c = not (is_byte number_sign c)

no_sign : (c : ℕ) → is_namespace_byte c ≡ true → is_no_sign c ≡ true
no_sign c h = grind (arith, nat_tests)

signless : (ns : List ℕ) → IsNamespace ns → list_all is_no_sign ns ≡ true
signless ns is = list_all_weaker is_namespace_byte is_no_sign no_sign ns (namespace_bytes ns is)

module _ (ns rest : List ℕ) (is : IsNamespace ns) where
  pub namespace_of : namespace_part (absolute_id ns rest) ≡ ns
  namespace_of =
      ap (λ n. take n (ns ++ 35 ∷ rest)) (sym (all_run is_no_sign ns (35 ∷ rest) (signless ns is) refl)) ∙ take-append_seam ns (35 ∷ rest)

  pub local_of : local_part (absolute_id ns rest) ≡ rest
  local_of =
      ap (λ n. drop (n + 1) (ns ++ 35 ∷ rest)) (sym (all_run is_no_sign ns (35 ∷ rest) (signless ns is) refl))
      ∙ drop-append-add ns (35 ∷ rest) 1

-- an id is its namespace and what stands behind it
pub record IsInParts (id : List ℕ) : Type 0 where
  pub namespace : IsNamespace (namespace_part id)
  pub whole : id ≡ absolute_id (namespace_part id) (local_part id)

pub id_parts : (id : List ℕ) → IsIdText id → IsInParts id
id_parts text (id, spelt) =
    let rest = id.name ++ member_text id.member in
    let front : namespace_part text ≡ id.namespace = ap namespace_part spelt.spelled
    ∙ namespace_of id.namespace rest spelt.is_id.namespace in
    let back : local_part text ≡ rest = ap local_part spelt.spelled ∙ local_of id.namespace rest spelt.is_id.namespace in
    record {
      namespace = subst IsNamespace (sym front) spelt.is_id.namespace;
      whole = spelt.spelled ∙ ap (λ n. n ++ 35 ∷ rest) (sym front) ∙ ap (λ n. namespace_part text ++ 35 ∷ n) (sym back);
    }

pub shape_text : (id : List ℕ) → IsShapeId id → IsIdText id
shape_text text (id, spelt, alone) = (id, spelt)

pub member_namespace : (shape name : List ℕ) → IsShapeId shape → namespace_part (member_id shape name) ≡ namespace_part shape
member_namespace shape name is =
    let p = id_parts shape (shape_text shape is) in
    let ns = namespace_part shape in
    let rest = local_part shape in
    ap (λ s. namespace_part (s ++ 36 ∷ name)) p.whole ∙ ap namespace_part (append_assoc ns (35 ∷ rest) (36 ∷ name))
    ∙ namespace_of ns (rest ++ 36 ∷ name) p.namespace

-- what the prelude has is of its namespace
abbrev IsOfApi : List ℕ → Entry → Type 0
IsOfApi id e = is_of_api id ≡ true

all_of_api : (ss : List ShapeGiven) → AreOfPrelude ss → list_all (λ (s : ShapeGiven). is_of_api s.id) ss ≡ true
    → Each IsOfApi (given_entries ss)
all_of_api [] are test = tt
all_of_api (s ∷ ss) are test =
    let parts = and_parts (is_of_api s.id) (list_all (λ (x : ShapeGiven). is_of_api x.id) ss) test in
    each_joined IsOfApi (given_shape s) (given_entries ss)
    (parts.0, subst (λ ms. Each IsOfApi (given_members s.id ms)) (sym are.0.bare) tt) (all_of_api ss are.1 parts.1)

pub prelude_of_api : (id : List ℕ) (e : Entry) → IsOfPrelude id e → is_of_api id ≡ true
prelude_of_api id e is =
    has_each IsOfApi id e (given_entries prelude_shapes) (all_of_api prelude_shapes shapes_are refl)
    (made_has (given_entries prelude_shapes) id e is)

id_tested : (ks : List (List ℕ)) → list_all is_of_api ks ≡ true → (id : List ℕ) → list_any (bytes_eq id) ks ≡ true → is_of_api id ≡ true
id_tested [] test id is = absurd (true≢false (sym is))
id_tested (k ∷ ks) test id is =
    let parts = and_parts (is_of_api k) (list_all is_of_api ks) test in
    by (bytes_eq id k) refl parts.0 (id_tested ks parts.1 id) is
  where
    by : (b : Bool) → bytes_eq id k ≡ b → is_of_api k ≡ true → (list_any (bytes_eq id) ks ≡ true → is_of_api id ≡ true)
        → (b || list_any (bytes_eq id) ks) ≡ true → is_of_api id ≡ true
    by true same api later any = ap is_of_api ((bytes_eq-Decides id k).0 same) ∙ api
    by false other api later any = later any

pub id_of_api : (id : List ℕ) → is_prelude_id id ≡ true → is_of_api id ≡ true
id_of_api id is = id_tested (given_ids prelude_shapes) refl id is
