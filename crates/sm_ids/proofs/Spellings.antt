-- The texts of ids have one reading: a `#` ends the namespace, and a `$` ends the name.
use Rattle.std.proofs.Common.{◌≡◌, ◌↔◌, ℕ, true, List, [], ◌∷◌, ◌++◌, Option, Some, None, refl, sym, ap, subst, ◌∙◌, arith}
use Rattle.std.specs.Ordering.{nat_cmp, ordering_then}
use Rattle.std.specs.Cmp.Lexicographic.{slice_cmp}
use Rattle.std.specs.declared.cmp.Ordering.TheVariants.{Less, Equal}
use Rattle.std.proofs.lemmas.Bool.Decides.{nat_tests}
use Rattle.std.specs.Str.{bytes_eq}
use Rattle.std.proofs.lemmas.Slice.Eq.{bytes_eq-Decides}
use Rattle.sm_ids.specs.Identifier.{is_identifier_byte, IsIdentifier, IsNamespace}
use Rattle.sm_ids.specs.IdText.{Id, IsId, IdText, member_text, printed}
use Rattle.sm_ids.specs.steps.Ahead.{EndsRun}
use Rattle.sm_ids.proofs.Cutting.{one_cut, tails}
use Rattle.sm_ids.proofs.Identifiers.{made_of_bytes}
use Rattle.sm_ids.proofs.Namespaces.{is_namespace_byte, namespace_bytes}

-- a member's text doesn't go on with a name
pub member_ends : (m : Option (List ℕ)) → EndsRun is_identifier_byte (member_text m)
member_ends None = tt
member_ends (Some m) = refl

-- what stands before the first `#`, and what behind it
pub hash_cut : (ns ns' x y : List ℕ) → IsNamespace ns → IsNamespace ns' → ns ++ 35 ∷ x ≡ ns' ++ 35 ∷ y → (ns ≡ ns') × (x ≡ y)
hash_cut ns ns' x y h h' e =
    let k = one_cut is_namespace_byte ns ns' (35 ∷ x) (35 ∷ y) (namespace_bytes ns h) (namespace_bytes ns' h') refl refl e in
    (k.0, tails 35 35 x y k.1)

same_member : (m m' : Option (List ℕ)) → member_text m ≡ member_text m' → m ≡ m'
same_member None None e = refl
same_member None (Some m') e = cc
same_member (Some m) None e = cc
same_member (Some m) (Some m') e = ap Some (tails 36 36 m m' e)

-- a name, and what is behind it
pub name_cut : (n n' : List ℕ) (m m' : Option (List ℕ)) → IsIdentifier n → IsIdentifier n' → n ++ member_text m ≡ n' ++ member_text m'
    → (n ≡ n') × (m ≡ m')
name_cut n n' m m' h h' e =
    let k = one_cut is_identifier_byte n n' (member_text m) (member_text m') (made_of_bytes n h) (made_of_bytes n' h') (member_ends m)
    (member_ends m') e in
    (k.0, same_member m m' k.1)

pub same_id : (ns ns' n n' : List ℕ) (m m' : Option (List ℕ)) → ns ≡ ns' → n ≡ n' → m ≡ m'
    → Path Id (record { namespace = ns; name = n; member = m }) (record { namespace = ns'; name = n'; member = m' })
same_id ns ns' n n' m m' a b c = cc

pub one_id : (id other : Id) (text : List ℕ) → IdText id text → IdText other text → id ≡ other
one_id id other text h k =
    let hash = hash_cut id.namespace other.namespace (id.name ++ member_text id.member) (other.name ++ member_text other.member)
    h.is_id.namespace k.is_id.namespace (sym h.spelled ∙ k.spelled) in
    let dollar = name_cut id.name other.name id.member other.member h.is_id.name k.is_id.name hash.1 in
    same_id id.namespace other.namespace id.name other.name id.member other.member hash.0 dollar.0 dollar.1

pub printed_alone : (id other : Id) → IsId id → IdText other (printed id) ↔ (other ≡ id)
printed_alone id other h = (
  λ t. one_id other id (printed id) t (record { is_id = h; spelled = refl }),
  λ e. subst (λ x. IdText x (printed id)) (sym e) (record { is_id = h; spelled = refl }),
)

-- printed texts are equal exactly where the ids are
pub printed_once : (id other : Id) → IsId id → IsId other → (bytes_eq (printed id) (printed other) ≡ true) ↔ (id ≡ other)
printed_once id other h k = (
  λ t. one_id id other (printed id) (record { is_id = h; spelled = refl })
      (record { is_id = k; spelled = (bytes_eq-Decides (printed id) (printed other)).0 t }),
  λ e. (bytes_eq-Decides (printed id) (printed other)).1 (ap printed e),
)

-- a text and more of it
shorter_first : (s : List ℕ) (c : ℕ) (t : List ℕ) → slice_cmp nat_cmp (s ++ []) (s ++ c ∷ t) ≡ Less
shorter_first [] c t = refl
shorter_first (x ∷ s) c t = let same : nat_cmp x x ≡ Equal = grind (arith, nat_tests) in
    ap (λ o. ordering_then o (slice_cmp nat_cmp (s ++ []) (s ++ c ∷ t))) same ∙ shorter_first s c t

behind_same : (s x y : List ℕ) → slice_cmp nat_cmp x y ≡ Less → slice_cmp nat_cmp (s ++ x) (s ++ y) ≡ Less
behind_same [] x y h = h
behind_same (c ∷ s) x y h = let same : nat_cmp c c ≡ Equal = grind (arith, nat_tests) in
    ap (λ o. ordering_then o (slice_cmp nat_cmp (s ++ x) (s ++ y))) same ∙ behind_same s x y h

pub shape_first : (ns name member : List ℕ)
    → slice_cmp nat_cmp (printed (record { namespace = ns; name = name; member = None }))
    (printed (record { namespace = ns; name = name; member = Some member })) ≡ Less
shape_first ns name member = behind_same ns (35 ∷ (name ++ [])) (35 ∷ (name ++ 36 ∷ member)) (shorter_first name 36 member)

pub shape_before_members : (shape : Id) (member : List ℕ) → shape.member ≡ None
    → slice_cmp nat_cmp (printed shape) (printed (record shape { member = Some member })) ≡ Less
shape_before_members shape member e = ap
    (λ m. slice_cmp nat_cmp (printed (record shape { member = m })) (printed (record shape { member = Some member }))) e
    ∙ shape_first shape.namespace shape.name member
