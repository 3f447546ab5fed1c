-- The properties of an object, one after the other, and their names in byte order.
use Rattle.std.proofs.Common.{◌≡◌, inl, inr, ℕ, suc, Bool, true, List, [], ◌∷◌, length, refl, ap, ◌∙◌}
use Rattle.std.specs.List.{list_all}
use Rattle.std.specs.Ordering.{match_ordering}
use Rattle.std.specs.declared.cmp.Ordering.{Ordering}
use Rattle.std.specs.declared.cmp.Ordering.TheVariants.{Less, Equal, Greater}
use Rattle.std.proofs.lemmas.Bool.{and_parts, and_from}
use Rattle.sm_tree.specs.Node.{Node, Members, text, no_members, member}
use Rattle.sm_tree.specs.Same.{HasPair, HasName, AreDistinct}
use Rattle.sm_shapes.specs.Fitting.{Test}
use Rattle.sm_codec.specs.Codec.{Codec}
use Rattle.sm_codec.specs.Named.{names_of, put_name, in_byte_order}
use Rattle.sm_codec.specs.Readings.{named_children}
use Rattle.sm_codec.proofs.KeyOrder.{IsIn, order, same_where_equal, ordered_is}
use Rattle.sm_schema.specs.Equal.{count_pairs}
use Rattle.sm_schema.specs.Keywords.{Property}
use Rattle.sm_schema.specs.Valid.{accepts, asked, leaf_instance, instance_of, properties_of}

abbrev pub property_of : Test → Node → List ℕ → Node → Property
property_of test root name n = record {
  name = name;
  name_accepted = λ schema. accepts (asked test root (leaf_instance (text name))) schema;
  value = record { tree = n; accepted = λ schema. accepts (asked test root (instance_of test root n)) schema };
}

-- all properties pass a test where those of all pairs do
pub all_properties : (test : Test) (root : Node) (passes : Property → Bool) (ms : Members)
    → ((name : List ℕ) (n : Node) → HasPair name n ms → passes (property_of test root name n) ≡ true)
    → list_all passes (properties_of test root ms) ≡ true
all_properties test root passes no_members h = refl
all_properties test root passes (member k n ms) h =
    and_from (passes (property_of test root k n)) (list_all passes (properties_of test root ms)) (h k n (inl (refl, refl)))
    (all_properties test root passes ms (λ name m is. h name m (inr is)))

pub each_property : (test : Test) (root : Node) (passes : Property → Bool) (ms : Members)
    → list_all passes (properties_of test root ms) ≡ true → (name : List ℕ) (n : Node) → HasPair name n ms
    → passes (property_of test root name n) ≡ true
each_property test root passes no_members h name n is = absurd is
each_property test root passes (member k m ms) h name n (inl e) =
    let w = and_parts (passes (property_of test root k m)) (list_all passes (properties_of test root ms)) h in
    ap (λ x. passes (property_of test root x n)) e.0 ∙ ap (λ x. passes (property_of test root k x)) e.1 ∙ w.0
each_property test root passes (member k m ms) h name n (inr is) =
    let w = and_parts (passes (property_of test root k m)) (list_all passes (properties_of test root ms)) h in
    each_property test root passes ms w.1 name n is

-- the names of an object, as those of its children
pub among_names : (c : Codec) (name : List ℕ) (n : Node) (ms : Members) → HasPair name n ms → IsIn name (names_of (named_children c ms))
among_names c name n no_members is = absurd is
among_names c name n (member k m ms) (inl e) = inl e.0
among_names c name n (member k m ms) (inr is) = inr (among_names c name n ms is)

pub pair_among : (c : Codec) (name : List ℕ) (ms : Members) → IsIn name (names_of (named_children c ms)) → (n : Node) × HasPair name n ms
pair_among c name no_members is = absurd is
pair_among c name (member k m ms) (inl e) = (m, inl (e, refl))
pair_among c name (member k m ms) (inr is) = let found = pair_among c name ms is in (found.0, inr found.1)

name_among : (c : Codec) (name : List ℕ) (ms : Members) → IsIn name (names_of (named_children c ms)) → HasName name ms
name_among c name no_members is = is
name_among c name (member k m ms) (inl e) = inl e
name_among c name (member k m ms) (inr is) = inr (name_among c name ms is)

-- a name that isn't there yet is one more
put_length : (name : List ℕ) (ks : List (List ℕ)) → (IsIn name ks → ⊥) → length (put_name name ks) ≡ suc (length ks)
put_length name [] h = refl
put_length name (k ∷ ks) h = by (order name k) refl (put_length name ks (λ is. h (inr is)))
  where
    by : (o : Ordering) → order name k ≡ o → length (put_name name ks) ≡ suc (length ks)
        → length (match_ordering o (name ∷ k ∷ ks) (k ∷ ks) (k ∷ put_name name ks)) ≡ suc (suc (length ks))
    by Less e more = refl
    by Equal e more = absurd (h (inl (same_where_equal name k e)))
    by Greater e more = ap suc more

pub ordered_length : (c : Codec) (ms : Members) → AreDistinct ms → length (in_byte_order (names_of (named_children c ms))) ≡ count_pairs ms
ordered_length c no_members d = refl
ordered_length c (member k n ms) d =
    put_length k (in_byte_order (names_of (named_children c ms)))
    (λ is. d.0 (name_among c k ms (ordered_is k (names_of (named_children c ms)) is)))
    ∙ ap suc (ordered_length c ms d.2)
