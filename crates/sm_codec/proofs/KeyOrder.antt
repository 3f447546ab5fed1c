-- Names in byte order, each once: which names they are, and that a list of names in that order is one list.
use Rattle.std.proofs.Common.{◌≡◌, ◌⊎◌, inl, inr, ℕ, zero, suc, ◌<◌, Bool, true, false, cond, List, [], ◌∷◌, length, refl, sym, ap, ◌∙◌}
use Rattle.std.proofs.Common.{subst, arith}
use Rattle.std.specs.Prelude.{slice_index_or}
use Rattle.std.specs.Ordering.{nat_cmp, match_ordering, is_eq, ordering_reverse}
use Rattle.std.specs.declared.cmp.Ordering.{Ordering}
use Rattle.std.specs.declared.cmp.Ordering.TheVariants.{Less, Equal, Greater}
use Rattle.std.specs.Cmp.Lexicographic.{slice_cmp}
use Rattle.std.specs.List.{AllByRecursion, Contains}
use Rattle.std.specs.List.Sorted.{IsStrictlySortedBy}
use Rattle.std.specs.Str.{bytes_eq}
use Rattle.std.proofs.lemmas.Cmp.{nat_list_cmp_total}
use Rattle.std.proofs.lemmas.List.Elements.{Contains-append_right}
use Rattle.std.proofs.lemmas.Map.Text.{is_eq-slice_cmp}
use Rattle.std.proofs.lemmas.Slice.Eq.{bytes_eq-Decides}
use Rattle.sm_codec.specs.Named.{named, names_of, put_name, in_byte_order}

-- the name is one of these
abbrev pub IsIn : List ℕ → List (List ℕ) → Type 0
IsIn x [] = ⊥
IsIn x (k ∷ ks) = (x ≡ k) ⊎ IsIn x ks

abbrev pub order : List ℕ → List ℕ → Ordering
order x y = slice_cmp nat_cmp x y

-- the name comes before each of these
abbrev pub IsBefore : List ℕ → List (List ℕ) → Type 0
IsBefore x ks = AllByRecursion (λ y. order x y ≡ Less) ks

abbrev pub InOrder : List (List ℕ) → Type 0
InOrder ks = IsStrictlySortedBy (slice_cmp nat_cmp) ks

pub same_where_equal : (x y : List ℕ) → order x y ≡ Equal → x ≡ y
same_where_equal x y h = (bytes_eq-Decides x y).0 (sym (is_eq-slice_cmp x y) ∙ ap is_eq h)

pub less_where_greater : (x y : List ℕ) → order x y ≡ Greater → order y x ≡ Less
less_where_greater x y h = nat_list_cmp_total.antisymm y x ∙ ap ordering_reverse h

greater_where_less : (x y : List ℕ) → order x y ≡ Less → order y x ≡ Greater
greater_where_less x y h = nat_list_cmp_total.antisymm y x ∙ ap ordering_reverse h

pub not_both : (o : Ordering) → o ≡ Less → o ≡ Greater → ⊥
not_both o h g = cc

not_below : (x y : List ℕ) → order x y ≡ Less → order y x ≡ Less → ⊥
not_below x y h g = not_both (order y x) g (greater_where_less x y h)

-- no name comes before itself
pub never_before_itself : (x y : List ℕ) → x ≡ y → order x y ≡ Less → ⊥
never_before_itself x y e h =
    let below : order x x ≡ Less = subst (λ w. order x w ≡ Less) (sym e) h in not_below x x below below

pub before_all : (x k : List ℕ) (ks : List (List ℕ)) → order x k ≡ Less → IsBefore k ks → IsBefore x ks
before_all x k [] h b = b
before_all x k (j ∷ ks) h b = (nat_list_cmp_total.trans x k j h b.0, before_all x k ks h b.1)

pub before_one : (x z : List ℕ) (ks : List (List ℕ)) → IsBefore x ks → IsIn z ks → order x z ≡ Less
before_one x z [] b i = absurd i
before_one x z (k ∷ ks) b (inl e) = subst (λ y. order x y ≡ Less) (sym e) b.0
before_one x z (k ∷ ks) b (inr i) = before_one x z ks b.1 i

-- a name that is put in its place; `more` is what is said of the rest
before_put_by : (x name k : List ℕ) (ks : List (List ℕ)) (o : Ordering) → order x name ≡ Less → IsBefore x (k ∷ ks)
    → IsBefore x (put_name name ks) → IsBefore x (match_ordering o (name ∷ k ∷ ks) (k ∷ ks) (k ∷ put_name name ks))
before_put_by x name k ks Less h b more = (h, b)
before_put_by x name k ks Equal h b more = b
before_put_by x name k ks Greater h b more = (b.0, more)

before_put : (x name : List ℕ) (ks : List (List ℕ)) → order x name ≡ Less → IsBefore x ks → IsBefore x (put_name name ks)
before_put x name [] h b = (h, b)
before_put x name (k ∷ ks) h b = before_put_by x name k ks (order name k) h b (before_put x name ks h b.1)

put_in_order_by : (name k : List ℕ) (ks : List (List ℕ)) (o : Ordering) → order name k ≡ o → InOrder (k ∷ ks)
    → InOrder (put_name name ks) → InOrder (match_ordering o (name ∷ k ∷ ks) (k ∷ ks) (k ∷ put_name name ks))
unfolding IsStrictlySortedBy
put_in_order_by name k ks Less e h more = ((e, before_all name k ks e h.0), h)
put_in_order_by name k ks Equal e h more = h
put_in_order_by name k ks Greater e h more = (before_put k name ks (less_where_greater name k e) h.0, more)

pub put_in_order : (name : List ℕ) (ks : List (List ℕ)) → InOrder ks → InOrder (put_name name ks)
unfolding IsStrictlySortedBy
put_in_order name [] h = (h, h)
put_in_order name (k ∷ ks) h = put_in_order_by name k ks (order name k) refl h (put_in_order name ks h.1)

in_put_by : (x name k : List ℕ) (ks : List (List ℕ)) (o : Ordering) → (IsIn x (put_name name ks) → (x ≡ name) ⊎ IsIn x ks)
    → IsIn x (match_ordering o (name ∷ k ∷ ks) (k ∷ ks) (k ∷ put_name name ks)) → (x ≡ name) ⊎ IsIn x (k ∷ ks)
in_put_by x name k ks Less more i = i
in_put_by x name k ks Equal more i = inr i
in_put_by x name k ks Greater more (inl e) = inr (inl e)
in_put_by x name k ks Greater more (inr i) = elim (more i) [ inl e ↦ inl e | inr j ↦ inr (inr j) ]

pub in_put : (x name : List ℕ) (ks : List (List ℕ)) → IsIn x (put_name name ks) → (x ≡ name) ⊎ IsIn x ks
in_put x name [] i = i
in_put x name (k ∷ ks) i = in_put_by x name k ks (order name k) (in_put x name ks) i

put_in_by : (x name k : List ℕ) (ks : List (List ℕ)) (o : Ordering) → order name k ≡ o
    → ((x ≡ name) ⊎ IsIn x ks → IsIn x (put_name name ks)) → (x ≡ name) ⊎ IsIn x (k ∷ ks)
    → IsIn x (match_ordering o (name ∷ k ∷ ks) (k ∷ ks) (k ∷ put_name name ks))
put_in_by x name k ks Less e more i = i
put_in_by x name k ks Equal e more (inl h) = inl (h ∙ same_where_equal name k e)
put_in_by x name k ks Equal e more (inr i) = i
put_in_by x name k ks Greater e more (inl h) = inr (more (inl h))
put_in_by x name k ks Greater e more (inr (inl h)) = inl h
put_in_by x name k ks Greater e more (inr (inr i)) = inr (more (inr i))

pub put_in : (x name : List ℕ) (ks : List (List ℕ)) → (x ≡ name) ⊎ IsIn x ks → IsIn x (put_name name ks)
put_in x name [] i = i
put_in x name (k ∷ ks) i = put_in_by x name k ks (order name k) refl (put_in x name ks) i

-- in byte order, and the same names
pub none_in_order : InOrder []
unfolding IsStrictlySortedBy
none_in_order = tt

pub ordered : (names : List (List ℕ)) → InOrder (in_byte_order names)
ordered [] = none_in_order
ordered (n ∷ ns) = put_in_order n (in_byte_order ns) (ordered ns)

pub ordered_is : (x : List ℕ) (names : List (List ℕ)) → IsIn x (in_byte_order names) → IsIn x names
ordered_is x [] i = i
ordered_is x (n ∷ ns) i = elim (in_put x n (in_byte_order ns) i) [ inl e ↦ inl e | inr j ↦ inr (ordered_is x ns j) ]

pub is_ordered : (x : List ℕ) (names : List (List ℕ)) → IsIn x names → IsIn x (in_byte_order names)
is_ordered x [] i = i
is_ordered x (n ∷ ns) (inl e) = put_in x n (in_byte_order ns) (inl e)
is_ordered x (n ∷ ns) (inr i) = put_in x n (in_byte_order ns) (inr (is_ordered x ns i))

-- one list of names in order has these names
heads_same : (x y : List ℕ) (xs ys : List (List ℕ)) → IsBefore x xs → IsBefore y ys → IsIn x (y ∷ ys) → IsIn y (x ∷ xs) → x ≡ y
heads_same x y xs ys b d (inl e) j = e
heads_same x y xs ys b d (inr i) (inl e) = sym e
heads_same x y xs ys b d (inr i) (inr j) = absurd (not_below x y (before_one x y xs b j) (before_one y x ys d i))

in_tail : (x y z : List ℕ) (xs ys : List (List ℕ)) → x ≡ y → IsBefore x xs → IsIn z xs → IsIn z (y ∷ ys) → IsIn z ys
in_tail x y z xs ys e b i (inl h) =
    let below : order x x ≡ Less = subst (λ w. order x w ≡ Less) (h ∙ sym e) (before_one x z xs b i) in absurd (not_below x x below below)
in_tail x y z xs ys e b i (inr j) = j

pub same_order : (xs ys : List (List ℕ)) → InOrder xs → InOrder ys → ((z : List ℕ) → IsIn z xs → IsIn z ys)
    → ((z : List ℕ) → IsIn z ys → IsIn z xs) → xs ≡ ys
unfolding IsStrictlySortedBy
same_order [] [] h g there back = refl
same_order [] (y ∷ ys) h g there back = absurd (back y (inl refl))
same_order (x ∷ xs) [] h g there back = absurd (there x (inl refl))
same_order (x ∷ xs) (y ∷ ys) h g there back =
    let e = heads_same x y xs ys h.0 g.0 (there x (inl refl)) (back y (inl refl)) in
    ap (λ k. k ∷ xs) e
    ∙ ap (λ ks. y ∷ ks) (same_order xs ys h.1 g.1 (λ z i. in_tail x y z xs ys e h.0 i (there z (inr i)))
    (λ z i. in_tail y x z ys xs (sym e) g.0 i (back z (inr i))))

-- the same as std says it
contains_more : (x k : List ℕ) (ks : List (List ℕ)) → Contains ks x → Contains (k ∷ ks) x
contains_more x k ks h = Contains-append_right (k ∷ []) ks x h

pub contains_in : (x : List ℕ) (ks : List (List ℕ)) → IsIn x ks → Contains ks x
contains_in x [] i = absurd i
contains_in x (k ∷ ks) (inl e) = (0, omega arith, sym e)
contains_in x (k ∷ ks) (inr i) = contains_more x k ks (contains_in x ks i)

in_at : (x : List ℕ) (ks : List (List ℕ)) (i : ℕ) → i < length ks → slice_index_or ks i x ≡ x → IsIn x ks
in_at x [] i h e = absurd (omega (arith, h))
in_at x (k ∷ ks) zero h e = inl (sym e)
in_at x (k ∷ ks) (suc i) h e = inr (in_at x ks i (omega (arith, h)) e)

pub in_contains : (x : List ℕ) (ks : List (List ℕ)) → Contains ks x → IsIn x ks
in_contains x ks h = in_at x ks h.0 h.1 h.2

-- the names of pairs are those under which something stands
stands_if : {A : Type 0} (b : Bool) (n : A) (ns : List A) (k x : List ℕ) (ks : List (List ℕ)) → bytes_eq k x ≡ b → cond b (n ∷ ns) ns ≡ []
    → IsIn x (k ∷ ks) → (ns ≡ [] → IsIn x ks → ⊥) → ⊥
stands_if true n ns k x ks e h i more = cc
stands_if false n ns k x ks e h (inl same) more = let yes_it : bytes_eq k x ≡ true = (bytes_eq-Decides k x).1 (sym same) in cc
stands_if false n ns k x ks e h (inr i) more = more h i

pub stands_in : {A : Type 0} (x : List ℕ) (ps : List (List ℕ × A)) → IsIn x (names_of ps) → named x ps ≡ [] → ⊥
stands_in x [] i h = i
stands_in x (p ∷ ps) i h = stands_if (bytes_eq p.0 x) p.1 (named x ps) p.0 x (names_of ps) refl h i (λ g j. stands_in x ps j g)

named_if : {A : Type 0} (b : Bool) (n m : A) (ns ms : List A) (k x : List ℕ) (ks : List (List ℕ)) → bytes_eq k x ≡ b
    → cond b (n ∷ ns) ns ≡ m ∷ ms → (ns ≡ m ∷ ms → IsIn x ks) → IsIn x (k ∷ ks)
named_if true n m ns ms k x ks e h more = inl (sym ((bytes_eq-Decides k x).0 e))
named_if false n m ns ms k x ks e h more = inr (more h)

pub named_in : {A : Type 0} (x : List ℕ) (ps : List (List ℕ × A)) (m : A) (ms : List A) → named x ps ≡ m ∷ ms → IsIn x (names_of ps)
named_in x [] m ms h = absurd cc
named_in x (p ∷ ps) m ms h = named_if (bytes_eq p.0 x) p.1 m (named x ps) ms p.0 x (names_of ps) refl h (λ g. named_in x ps m ms g)
