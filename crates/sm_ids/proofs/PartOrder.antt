-- The order of printed texts is that of their parts: a `#` and a `$` come before every byte of a part.
use Rattle.std.proofs.Common.{◌≡◌, ℕ, ◌<◌, Bool, true, false, List, [], ◌∷◌, ◌++◌, Option, Some, None, Bor, refl, sym, ap, ◌∙◌, arith}
use Rattle.std.specs.Ordering.{nat_cmp, ordering_then, is_ne}
use Rattle.std.specs.Cmp.Lexicographic.{slice_cmp}
use Rattle.std.specs.declared.cmp.Ordering.{Ordering}
use Rattle.std.specs.declared.cmp.Ordering.TheVariants.{Less, Equal, Greater}
use Rattle.std.proofs.lemmas.Bool.Decides.{nat_tests}
use Rattle.std.specs.List.{list_all}
use Rattle.std.specs.Option.{ForSome, option_copied, unwrap_or}
use Rattle.sm_ids.specs.Identifier.{is_identifier_byte, IsIdentifier}
use Rattle.sm_ids.specs.IdText.{Id, IsId, member_text, printed}
use Rattle.sm_ids.proofs.Cutting.{both}
use Rattle.sm_ids.proofs.Identifiers.{made_of_bytes}
use Rattle.sm_ids.proofs.Namespaces.{is_namespace_byte, namespace_bytes}

-- nothing, or a byte that comes before each that passes the test
abbrev pub ComesBefore : (ℕ → Bool) → List ℕ → Type 0
ComesBefore p [] = Unit {0}
ComesBefore p (c ∷ cs) = (d : ℕ) → p d ≡ true → c < d

less : (c d : ℕ) → c < d → nat_cmp c d ≡ Less
less c d lt = grind (arith, nat_tests)

greater : (c d : ℕ) → d < c → nat_cmp c d ≡ Greater
greater c d lt = grind (arith, nat_tests)

then_joined : (o p q : Ordering) → ordering_then o (ordering_then p q) ≡ ordering_then (ordering_then o p) q
then_joined Less p q = refl
then_joined Equal p q = refl
then_joined Greater p q = refl

-- a part ends where another goes on: the shorter comes first
ends_first : (p : ℕ → Bool) (x : List ℕ) (d : ℕ) (t : List ℕ) → ComesBefore p x → p d ≡ true → slice_cmp nat_cmp x (d ∷ t) ≡ Less
ends_first p [] d t h k = refl
ends_first p (c ∷ x) d t h k = ap (λ o. ordering_then o (slice_cmp nat_cmp x t)) (less c d (h d k))

ends_last : (p : ℕ → Bool) (y : List ℕ) (c : ℕ) (t : List ℕ) → ComesBefore p y → p c ≡ true → slice_cmp nat_cmp (c ∷ t) y ≡ Greater
ends_last p [] c t h k = refl
ends_last p (d ∷ y) c t h k = ap (λ o. ordering_then o (slice_cmp nat_cmp t y)) (greater c d (h c k))

-- parts, and what ends them
pub part_first : (p : ℕ → Bool) (a b x y : List ℕ) → list_all p a ≡ true → list_all p b ≡ true → ComesBefore p x → ComesBefore p y
    → slice_cmp nat_cmp (a ++ x) (b ++ y) ≡ ordering_then (slice_cmp nat_cmp a b) (slice_cmp nat_cmp x y)
part_first p [] [] x y ha hb hx hy = refl
part_first p [] (d ∷ b) x y ha hb hx hy = ends_first p x d (b ++ y) hx (both (p d) (list_all p b) hb).0
part_first p (c ∷ a) [] x y ha hb hx hy = ends_last p y c (a ++ x) hy (both (p c) (list_all p a) ha).0
part_first p (c ∷ a) (d ∷ b) x y ha hb hx hy =
    ap (ordering_then (nat_cmp c d)) (part_first p a b x y (both (p c) (list_all p a) ha).1 (both (p d) (list_all p b) hb).1 hx hy)
    ∙ then_joined (nat_cmp c d) (slice_cmp nat_cmp a b) (slice_cmp nat_cmp x y)

hash_before : (d : ℕ) → is_namespace_byte d ≡ true → 35 < d
hash_before d h = grind (arith, nat_tests)

dollar_before : (d : ℕ) → is_identifier_byte d ≡ true → 36 < d
dollar_before d h = grind (arith, nat_tests)

member_before : (m : Option (List ℕ)) → ComesBefore is_identifier_byte (member_text m)
member_before None = tt
member_before (Some m) = dollar_before

-- the order of what is behind the namespaces
abbrev behind_namespaces : Id → Id → Ordering
behind_namespaces id other = ordering_then (slice_cmp nat_cmp id.name other.name)
    (slice_cmp nat_cmp (member_text id.member) (member_text other.member))

-- the namespaces decide, or else the names, or else the members
pub printed_order : (id other : Id) → IsId id → IsId other
    → slice_cmp nat_cmp (printed id) (printed other) ≡ ordering_then (slice_cmp nat_cmp id.namespace other.namespace)
    (behind_namespaces id other)
printed_order id other h k =
    part_first is_namespace_byte id.namespace other.namespace (35 ∷ (id.name ++ member_text id.member))
    (35 ∷ (other.name ++ member_text other.member))
    (namespace_bytes id.namespace h.namespace) (namespace_bytes other.namespace k.namespace) hash_before hash_before
    ∙ ap (ordering_then (slice_cmp nat_cmp id.namespace other.namespace))
    (part_first is_identifier_byte id.name other.name (member_text id.member) (member_text other.member)
    (made_of_bytes id.name h.name) (made_of_bytes other.name k.name) (member_before id.member) (member_before other.member))

decided : (o r : Ordering) → is_ne o ≡ true → ordering_then o r ≡ o
decided Less r h = refl
decided Equal r h = cc
decided Greater r h = refl

tied : (o r : Ordering) → is_ne o ≡ false → ordering_then o r ≡ r
tied Less r h = cc
tied Equal r h = refl
tied Greater r h = cc

-- a member's name, or nothing
abbrev pub name_or_nothing : Option (List ℕ) → List ℕ
name_or_nothing None = []
name_or_nothing (Some m) = m

-- no member is empty, so nothing may stand for none
members_order : (m n : Option (List ℕ)) → ForSome m IsIdentifier → ForSome n IsIdentifier
    → slice_cmp nat_cmp (member_text m) (member_text n) ≡ slice_cmp nat_cmp (name_or_nothing m) (name_or_nothing n)
members_order None None h k = refl
members_order None (Some []) h k = let e : IsIdentifier [] = k [] refl in cc
members_order None (Some (d ∷ n)) h k = refl
members_order (Some []) None h k = let e : IsIdentifier [] = h [] refl in cc
members_order (Some (c ∷ m)) None h k = refl
members_order (Some m) (Some n) h k = refl

-- where one part decides
pub by_namespaces : (id other : Id) (o : Ordering) → IsId id → IsId other → o ≡ slice_cmp nat_cmp id.namespace other.namespace
    → is_ne o ≡ true
    → o ≡ slice_cmp nat_cmp (printed id) (printed other)
by_namespaces id other o h k e differ = sym
    (printed_order id other h k ∙ ap (λ p. ordering_then p (behind_namespaces id other)) (sym e)
    ∙ decided o (behind_namespaces id other) differ)

same_namespaces : (id other : Id) (o : Ordering) → IsId id → IsId other → o ≡ slice_cmp nat_cmp id.namespace other.namespace
    → is_ne o ≡ false
    → slice_cmp nat_cmp (printed id) (printed other) ≡ behind_namespaces id other
same_namespaces id other o h k e tie = printed_order id other h k ∙ ap (λ p. ordering_then p (behind_namespaces id other)) (sym e)
    ∙ tied o (behind_namespaces id other) tie

pub by_names : (id other : Id) (o p : Ordering) → IsId id → IsId other → o ≡ slice_cmp nat_cmp id.namespace other.namespace
    → is_ne o ≡ false
    → p ≡ slice_cmp nat_cmp id.name other.name → is_ne p ≡ true → p ≡ slice_cmp nat_cmp (printed id) (printed other)
by_names id other o p h k e tie f differ =
    let members = slice_cmp nat_cmp (member_text id.member) (member_text other.member) in
    sym (same_namespaces id other o h k e tie ∙ ap (λ q. ordering_then q members) (sym f) ∙ decided p members differ)

pub by_members : (id other : Id) (o p q : Ordering) → IsId id → IsId other → o ≡ slice_cmp nat_cmp id.namespace other.namespace
    → is_ne o ≡ false
    → p ≡ slice_cmp nat_cmp id.name other.name → is_ne p ≡ false
    → q ≡ slice_cmp nat_cmp (name_or_nothing id.member) (name_or_nothing other.member)
    → q ≡ slice_cmp nat_cmp (printed id) (printed other)
by_members id other o p q h k e tie f tie' g =
    let members = slice_cmp nat_cmp (member_text id.member) (member_text other.member) in
    sym (same_namespaces id other o h k e tie ∙ ap (λ r. ordering_then r members) (sym f) ∙ tied p members tie'
    ∙ members_order id.member other.member h.member k.member ∙ sym g)

-- a borrowed member's name, or nothing
pub given_name : (o : Option (Bor (List ℕ))) (x none : Bor (List ℕ)) → x ≡ unwrap_or o none → none.now ≡ []
    → x.now ≡ name_or_nothing (option_copied o)
given_name None x none e empty = ap (λ y. y.now) e ∙ empty
given_name (Some y) x none e empty = ap (λ z. z.now) e
