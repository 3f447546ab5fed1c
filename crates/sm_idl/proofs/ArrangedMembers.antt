-- The members of a list and of a map, by their names.
use Rattle.std.proofs.Common.{◌≡◌, ◌⊎◌, inl, inr, ℕ, if◌then◌else◌, List, [], ◌∷◌, ◌++◌, codes}
use Rattle.std.proofs.Common.{Some, None, Vec, refl, sym, ap, subst, ◌∙◌, length, arith, slice_index_or}
use Rattle.std.specs.declared.alloc.Global.{Global}
use Rattle.std.proofs.lemmas.List.{length-map}
use Rattle.sm_model.specs.Said.{MemberSaid}
use Rattle.sm_model.specs.SaidView.{member_view, member_statements_view}
use Rattle.sm_model.specs.declared.statement.MemberStatement.{MemberStatement}
use Rattle.sm_tree.proofs.Equal.{bytes_equal_is}
use Rattle.sm_idl.specs.Members.{HasMembers, member_under, arranged}
use Rattle.sm_idl.specs.declared.members.MemberKind.{MemberKind}
use Rattle.sm_idl.specs.declared.members.MemberKind.TheVariants.{Item, Pair}
use Rattle.sm_idl.specs.steps.MemberSteps.{form_of, AreNamed, Arranges}
use Rattle.sm_idl.proofs.TokenClasses.{unlike}
use Rattle.sm_idl.proofs.PairsAhead.{differ}

pub under_first : (k : List ℕ) (m : MemberSaid) (ms : List MemberSaid) → m.name ≡ k → member_under k (m ∷ ms) ≡ m ∷ []
under_first k m ms e = ap (λ b. if b then m ∷ [] else member_under k ms) ((bytes_equal_is m.name k).1 e)

pub under_later : (k : List ℕ) (m : MemberSaid) (ms : List MemberSaid) → (m.name ≡ k → ⊥) → member_under k (m ∷ ms) ≡ member_under k ms
under_later k m ms n = ap (λ b. if b then m ∷ [] else member_under k ms) (differ m.name k n)

key_no_value : codes "key" ≡ codes "value" → ⊥
key_no_value e = unlike (codes "key") (codes "value") refl e

-- the one of a list
item_name : (k : List ℕ) → (k ≡ codes "member") ⊎ ⊥ → k ≡ codes "member"
item_name k (inl e) = e
item_name k (inr n) = absurd n

pub item_arranged : (ms : List MemberSaid) → AreNamed (form_of Item) [] ms → length ms ≡ 1
    → HasMembers (form_of Item) ms × (ms ≡ arranged (form_of Item) ms)
item_arranged [] h e = absurd (omega (arith, e))
item_arranged (m ∷ []) (n, fresh, rest) e =
    let name : m.name ≡ codes "member" = item_name m.name n in
    ((inl (sym name), tt), sym (ap (λ l. l ++ []) (under_first (codes "member") m [] name)))
item_arranged (m ∷ (o ∷ ms)) h e = absurd (omega (arith, e))

pub item_missing : (ms : List MemberSaid) → AreNamed (form_of Item) [] ms → (length ms ≡ 1 → ⊥) → HasMembers (form_of Item) ms → ⊥
item_missing [] h n (k, rest) = k
item_missing (m ∷ []) h n k = n refl
item_missing (m ∷ (o ∷ ms)) (a, fresh, (b, other, rest)) n k =
    other (inl (item_name o.name b ∙ sym (item_name m.name a)))

-- the two of a map
pair_name : (k : List ℕ) → (k ≡ codes "key") ⊎ ((k ≡ codes "value") ⊎ ⊥) → (k ≡ codes "key") ⊎ (k ≡ codes "value")
pair_name k (inl e) = inl e
pair_name k (inr (inl e)) = inr e
pair_name k (inr (inr n)) = absurd n

same_or : (a b c : List ℕ) → (a ≡ codes "key") ⊎ (a ≡ codes "value") → (b ≡ codes "key") ⊎ (b ≡ codes "value")
    → (c ≡ codes "key") ⊎ (c ≡ codes "value") → (a ≡ b) ⊎ ((a ≡ c) ⊎ (b ≡ c))
same_or a b c (inl d) (inl e) f = inl (d ∙ sym e)
same_or a b c (inr d) (inr e) f = inl (d ∙ sym e)
same_or a b c (inl d) (inr e) (inl f) = inr (inl (d ∙ sym f))
same_or a b c (inl d) (inr e) (inr f) = inr (inr (e ∙ sym f))
same_or a b c (inr d) (inl e) (inl f) = inr (inr (e ∙ sym f))
same_or a b c (inr d) (inl e) (inr f) = inr (inl (d ∙ sym f))

pub pair_missing : (ms : List MemberSaid) → AreNamed (form_of Pair) [] ms → (length ms ≡ 2 → ⊥) → HasMembers (form_of Pair) ms → ⊥
pair_missing [] h n (k, rest) = k
pair_missing (m ∷ []) h n (inl k, (inl v, rest)) = key_no_value (k ∙ sym v)
pair_missing (m ∷ []) h n (inl k, (inr v, rest)) = v
pair_missing (m ∷ []) h n (inr k, rest) = k
pair_missing (m ∷ (o ∷ [])) h n k = n refl
pair_missing (m ∷ (o ∷ (p ∷ ms))) (a, fresh, (b, second, (c, third, rest))) n k =
    elim (same_or m.name o.name p.name (pair_name m.name a) (pair_name o.name b) (pair_name p.name c)) [
      | inl e ↦ second (inl (sym e))
      | inr f ↦ elim f [ inl e ↦ third (inl (sym e)) | inr e ↦ third (inr (inl (sym e))) ]
    ]

two_arranged : (m o : MemberSaid) → m.name ≡ codes "key" → o.name ≡ codes "value"
    → HasMembers (form_of Pair) (m ∷ (o ∷ [])) × (m ∷ (o ∷ []) ≡ arranged (form_of Pair) (m ∷ (o ∷ [])))
two_arranged m o k v =
    let no_value : m.name ≡ codes "value" → ⊥ = λ e. key_no_value (sym k ∙ e) in (
      (inl (sym k), (inr (inl (sym v)), tt)),
      sym (ap (λ l. l ++ (member_under (codes "value") (m ∷ (o ∷ [])) ++ [])) (under_first (codes "key") m (o ∷ []) k)
          ∙ ap (λ l. m ∷ (l ++ [])) (under_later (codes "value") m (o ∷ []) no_value ∙ under_first (codes "value") o [] v)),
    )

two_turned : (m o : MemberSaid) → m.name ≡ codes "value" → o.name ≡ codes "key"
    → HasMembers (form_of Pair) (m ∷ (o ∷ [])) × (o ∷ (m ∷ []) ≡ arranged (form_of Pair) (m ∷ (o ∷ [])))
two_turned m o v k =
    let no_key : m.name ≡ codes "key" → ⊥ = λ e. key_no_value (sym e ∙ v) in (
      (inr (inl (sym k)), (inl (sym v), tt)),
      sym (ap (λ l. l ++ (member_under (codes "value") (m ∷ (o ∷ [])) ++ []))
          (under_later (codes "key") m (o ∷ []) no_key ∙ under_first (codes "key") o [] k)
          ∙ ap (λ l. o ∷ (l ++ [])) (under_first (codes "value") m (o ∷ []) v)),
    )

-- by the name of the first
pub pair_as_it_is : (m o : MemberSaid) → AreNamed (form_of Pair) [] (m ∷ (o ∷ [])) → (m.name ≡ codes "value" → ⊥)
    → HasMembers (form_of Pair) (m ∷ (o ∷ [])) × (m ∷ (o ∷ []) ≡ arranged (form_of Pair) (m ∷ (o ∷ [])))
pair_as_it_is m o (a, fresh, (b, second, rest)) none = elim (pair_name m.name a) [
  | inr v ↦ absurd (none v)
  | inl k ↦ elim (pair_name o.name b) [ inl e ↦ absurd (second (inl (e ∙ sym k))) | inr v ↦ two_arranged m o k v ]
]

pub pair_turned : (m o : MemberSaid) → AreNamed (form_of Pair) [] (m ∷ (o ∷ [])) → m.name ≡ codes "value"
    → HasMembers (form_of Pair) (m ∷ (o ∷ [])) × (o ∷ (m ∷ []) ≡ arranged (form_of Pair) (m ∷ (o ∷ [])))
pair_turned m o (a, fresh, (b, second, rest)) v = elim (pair_name o.name b) [
  | inl k ↦ two_turned m o v k
  | inr e ↦ absurd (second (inl (e ∙ sym v)))
]

-- the same of what the reader holds
module _ (v : Vec MemberStatement Global) where
  pub item_there : (kind : MemberKind) → kind ≡ Item → length v.items ≡ 1 → AreNamed (form_of kind) [] (member_statements_view v.items)
      → Arranges (form_of kind) (member_statements_view v.items) (Some v)
  item_there kind e one named =
      subst (λ k. Arranges (form_of k) (member_statements_view v.items) (Some v)) (sym e)
      (item_arranged (member_statements_view v.items) (subst (λ k. AreNamed (form_of k) [] (member_statements_view v.items)) e named)
      (length-map v.items member_view ∙ one))

  pub item_not_there : (kind : MemberKind) → kind ≡ Item → (length v.items ≡ 1 → ⊥)
      → AreNamed (form_of kind) [] (member_statements_view v.items) → Arranges (form_of kind) (member_statements_view v.items) None
  item_not_there kind e other named =
      subst (λ k. Arranges (form_of k) (member_statements_view v.items) None) (sym e)
      (item_missing (member_statements_view v.items) (subst (λ k. AreNamed (form_of k) [] (member_statements_view v.items)) e named)
      (λ one. other (sym (length-map v.items member_view) ∙ one)))

  pub pair_not_there : (length v.items ≡ 2 → ⊥) → AreNamed (form_of Pair) [] (member_statements_view v.items)
      → Arranges (form_of Pair) (member_statements_view v.items) None
  pair_not_there other named =
      pair_missing (member_statements_view v.items) named (λ two. other (sym (length-map v.items member_view) ∙ two))

pair_first : (xs : List MemberStatement) (d : MemberStatement) → length xs ≡ 2 → AreNamed (form_of Pair) [] (member_statements_view xs)
    → ((slice_index_or xs 0 d).name ≡ codes "value" → ⊥)
    → HasMembers (form_of Pair) (member_statements_view xs) × (member_statements_view xs ≡ arranged (form_of Pair)
    (member_statements_view xs))
pair_first [] d e named none = absurd (omega (arith, e))
pair_first (m ∷ []) d e named none = absurd (omega (arith, e))
pair_first (m ∷ (o ∷ [])) d e named none = pair_as_it_is (member_view m) (member_view o) named none
pair_first (m ∷ (o ∷ (p ∷ xs))) d e named none = absurd (omega (arith, e))

pub pair_kept : (v : Vec MemberStatement Global) (d : MemberStatement) → length v.items ≡ 2
    → AreNamed (form_of Pair) [] (member_statements_view v.items) → ((slice_index_or v.items 0 d).name ≡ codes "value" → ⊥)
    → Arranges (form_of Pair) (member_statements_view v.items) (Some v)
pair_kept v d two named none = pair_first v.items d two named none
