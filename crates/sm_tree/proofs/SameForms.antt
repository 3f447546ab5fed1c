-- Two nodes have one canonical form exactly where they are the same.
use Rattle.std.proofs.Common.{◌≡◌, ◌⊎◌, inl, inr, ℕ, ℤ, Bool, true, false, nat_eq, List, [], ◌∷◌, ◌++◌, refl, sym, ap, subst, ◌∙◌}
use Rattle.std.proofs.Common.{append_assoc}
use Rattle.std.specs.Prelude.{pos, negsuc, IsTrue, ◌↔◌}
use Rattle.std.specs.Ordering.{int_cmp, nat_cmp, eq_by_cmp, is_eq}
use Rattle.std.specs.Cmp.Lexicographic.{slice_cmp}
use Rattle.std.specs.BTreeSet.{insert_key}
use Rattle.std.proofs.lemmas.Cmp.{tied_itself}
use Rattle.std.proofs.lemmas.Map.Views.{tells_apart}
use Rattle.std.proofs.lemmas.Map.Lookups.{CmpEqualImpliesEq, exact_pairs, exact_signed, exact_bytes}
use Rattle.sm_tree.specs.Node.{Node, Nodes, Members, null, bool, int, number, text, bytes, tag, opaque, list, object, no_nodes, node}
use Rattle.sm_tree.specs.Node.{no_members, member}
use Rattle.sm_tree.specs.Same.{HasPair, Same, SameEntries, AllIn, HasSamePair}
use Rattle.sm_tree.specs.steps.Canonical.{Word, word_cmp, form_cmp, tag_word, list_word, object_word, end_word, bit, name_word, joined}
use Rattle.sm_tree.specs.steps.Canonical.{form, entries_form, pair_forms, pair_form}
use Rattle.sm_tree.specs.steps.FormOrder.{form_total}
use Rattle.sm_tree.proofs.Sameness.{reflexive}
use Rattle.sm_tree.proofs.SameOrder.{clash, Has, Ascends, ascends_in, has_new, has_kept, has_from, one_list, exact_lists}

pub exact_forms : CmpEqualImpliesEq form_cmp
exact_forms = exact_lists word_cmp (exact_pairs int_cmp (slice_cmp nat_cmp) exact_signed exact_bytes)

-- the form of a pair of the object
abbrev IsFormIn : List Word → Members → Type 0
IsFormIn x no_members = ⊥
IsFormIn x (member k n ms) = (x ≡ pair_form k n) ⊎ IsFormIn x ms

form_of_pair : (qs : Members) (k : List ℕ) (q : Node) → HasPair k q qs → (x : List Word) → x ≡ pair_form k q → IsFormIn x qs
form_of_pair no_members k q h x e = absurd h
form_of_pair (member l m qs) k q (inl here) x e = inl (e ∙ ap (λ t. pair_form t q) here.0 ∙ ap (pair_form l) here.1)
form_of_pair (member l m qs) k q (inr later) x e = inr (form_of_pair qs k q later x e)

pair_of : (qs : Members) (x : List Word) → IsFormIn x qs → (k : List ℕ) × (q : Node) × HasPair k q qs × (x ≡ pair_form k q)
pair_of no_members x i = absurd i
pair_of (member k q qs) x (inl here) = (k, q, inl (refl, refl), here)
pair_of (member k q qs) x (inr later) = let found = pair_of qs x later in (found.0, found.1, inr found.2, found.3)

-- the forms of pairs are in order, and are those of the pairs
forms_ascend : (ms : Members) (fs : List (List Word)) → Ascends form_cmp fs → Ascends form_cmp (pair_forms fs ms)
forms_ascend no_members fs s = s
forms_ascend (member k n ms) fs s = forms_ascend ms (insert_key form_cmp fs (pair_form k n))
    (ascends_in form_total exact_forms fs (pair_form k n) s)

forms_keep : (ms : Members) (fs : List (List Word)) (x : List Word) → Has x fs → Has x (pair_forms fs ms)
forms_keep no_members fs x h = h
forms_keep (member k n ms) fs x h = forms_keep ms (insert_key form_cmp fs (pair_form k n)) x
    (has_kept form_total exact_forms fs (pair_form k n) x h)

forms_have : (ms : Members) (fs : List (List Word)) (x : List Word) → IsFormIn x ms → Has x (pair_forms fs ms)
forms_have no_members fs x h = absurd h
forms_have (member k n ms) fs x (inl here) =
    let more = insert_key form_cmp fs (pair_form k n) in
    forms_keep ms more x (subst (λ y. Has y more) (sym here) (has_new form_total exact_forms fs (pair_form k n)))
forms_have (member k n ms) fs x (inr later) = forms_have ms (insert_key form_cmp fs (pair_form k n)) x later

forms_from : (ms : Members) (fs : List (List Word)) (x : List Word) → Has x (pair_forms fs ms) → Has x fs ⊎ IsFormIn x ms
forms_from no_members fs x h = inl h
forms_from (member k n ms) fs x h = elim (forms_from ms (insert_key form_cmp fs (pair_form k n)) x h) [
  | inl old ↦ elim (has_from form_total exact_forms fs (pair_form k n) x old) [ inl here ↦ inr (inl here) | inr before ↦ inl before ]
  | inr later ↦ inr (inr later)
]

only : (ms : Members) (x : List Word) → Has x (pair_forms [] ms) → IsFormIn x ms
only ms x h = elim (forms_from ms [] x h) [ inl none ↦ absurd none | inr i ↦ i ]

-- nodes that are the same have one form
mutual
  pub alike : (n m : Node) → Same n m → form n ≡ form m
  alike null m h = ap form (sym h)
  alike (bool b) m h = ap form (sym h)
  alike (int z) m h = ap form (sym h)
  alike (number t) m h = ap form (sym h)
  alike (text t) m h = ap form (sym h)
  alike (bytes t) m h = ap form (sym h)
  alike (tag k n) m h = ap (λ ws. tag_word ∷ (pos k, []) ∷ ws) (alike n h.0 h.2) ∙ ap form (sym h.1)
  alike (opaque b) m h = ap form (sym h)
  alike (list ns) m h = ap (λ ws. list_word ∷ ws) (entries_alike ns h.0 h.2) ∙ ap form (sym h.1)
  alike (object ps) m h =
      let forth : (z : List Word) → Has z (pair_forms [] ps) → Has z (pair_forms [] h.0) =
      λ z i. forms_have h.0 [] z (in_alike ps h.0 h.2 z (only ps z i)) in
      let back : (z : List Word) → Has z (pair_forms [] h.0) → Has z (pair_forms [] ps) =
      λ z i. let found = pair_of h.0 z (only h.0 z i) in forms_have ps [] z
      (some_alike ps found.0 found.1 (h.3 found.0 found.1 found.2) z found.3) in
      let one = one_list form_total exact_forms (pair_forms [] ps) (pair_forms [] h.0) (forms_ascend ps [] tt)
      (forms_ascend h.0 [] tt) forth back in
      ap (λ fs. object_word ∷ (joined fs ++ (end_word ∷ []))) one ∙ ap form (sym h.1)

  entries_alike : (ns ms : Nodes) → SameEntries ns ms → entries_form ns ≡ entries_form ms
  entries_alike no_nodes ms h = ap entries_form (sym h)
  entries_alike (node n ns) ms h =
      ap (λ ws. ws ++ entries_form ns) (alike n h.0 h.3) ∙ ap (λ ws. form h.0 ++ ws) (entries_alike ns h.1 h.4) ∙ ap entries_form (sym h.2)

  in_alike : (ps qs : Members) → AllIn ps qs → (z : List Word) → IsFormIn z ps → IsFormIn z qs
  in_alike no_members qs h z i = absurd i
  in_alike (member k n ps) qs h z (inl here) = form_of_pair qs k h.0.0 h.0.1 z (here ∙ ap (λ ws. name_word k ∷ ws) (alike n h.0.0 h.0.2))
  in_alike (member k n ps) qs h z (inr later) = in_alike ps qs h.1 z later

  some_alike : (ps : Members) (k : List ℕ) (q : Node) → HasSamePair ps k q → (z : List Word) → z ≡ pair_form k q → IsFormIn z ps
  some_alike no_members k q h z e = absurd h
  some_alike (member l n ps) k q (inl here) z e = inl (e ∙ ap (λ t. pair_form t q) (sym here.0)
      ∙ ap (λ ws. name_word l ∷ ws) (sym (alike n q here.1)))
  some_alike (member l n ps) k q (inr later) z e = inr (some_alike ps k q later z e)

-- the first word and what follows it
abbrev first : List Word → Word
first [] = end_word
first (w ∷ ws) = w

abbrev rest : List Word → List Word
rest [] = []
rest (w ∷ ws) = ws

abbrev magnitude : ℤ → ℕ
magnitude (pos n) = n
magnitude (negsuc n) = n

abbrev kind : List Word → ℕ
kind ws = magnitude (first ws).0

bit_exact : (b c : Bool) → magnitude (bit b) ≡ magnitude (bit c) → b ≡ c
bit_exact true true h = refl
bit_exact false false h = refl
bit_exact true false h = absurd (clash 1 0 refl h)
bit_exact false true h = absurd (clash 0 1 refl h)

-- a form doesn't begin as what ends a list does
no_end : (n : Node) (ws : List Word) → nat_eq (kind (form n ++ ws)) 10 ≡ false
no_end null ws = refl
no_end (bool b) ws = refl
no_end (int z) ws = refl
no_end (number t) ws = refl
no_end (text t) ws = refl
no_end (bytes t) ws = refl
no_end (tag k n) ws = refl
no_end (opaque b) ws = refl
no_end (list ns) ws = refl
no_end (object ms) ws = refl

-- where a form and a pair's form begin two equal lists, they are one, and so is what follows
abbrev Parts : List Word → Type 0
Parts x = (l : List ℕ) (m : Node) (a b : List Word) → x ++ a ≡ pair_form l m ++ b → (x ≡ pair_form l m) × (a ≡ b)

abbrev IsPairForm : List Word → Type 0
IsPairForm x = (l : List ℕ) × (m : Node) × (x ≡ pair_form l m)

is_pair_form : (qs : Members) (x : List Word) → IsFormIn x qs → IsPairForm x
is_pair_form qs x i = let found = pair_of qs x i in (found.0, found.1, found.3)

rows_part : (xs ys : List (List Word)) → ((x : List Word) → Has x xs → Parts x) → ((x : List Word) → Has x xs → IsPairForm x)
    → ((y : List Word) → Has y ys → IsPairForm y)
    → (r s : List Word) → joined xs ++ end_word ∷ r ≡ joined ys ++ end_word ∷ s → (xs ≡ ys) × (r ≡ s)
rows_part [] [] parts form_x form_y r s e = (refl, ap rest e)
rows_part [] (y ∷ ys) parts form_x form_y r s e =
    let found = form_y y (inl refl) in
    let bad : 10 ≡ 11 = ap kind (e ∙ ap (λ w. (w ++ joined ys) ++ end_word ∷ s) found.2) in
    absurd (clash 10 11 refl bad)
rows_part (x ∷ xs) [] parts form_x form_y r s e =
    let found = form_x x (inl refl) in
    let bad : 10 ≡ 11 = ap kind (sym e ∙ ap (λ w. (w ++ joined xs) ++ end_word ∷ r) found.2) in
    absurd (clash 10 11 refl bad)
rows_part (x ∷ xs) (y ∷ ys) parts form_x form_y r s e =
    let found = form_y y (inl refl) in
    let together : x ++ (joined xs ++ end_word ∷ r) ≡ pair_form found.0 found.1 ++ (joined ys ++ end_word ∷ s) =
    sym (append_assoc x (joined xs) (end_word ∷ r)) ∙ e ∙ append_assoc y (joined ys) (end_word ∷ s)
    ∙ ap (λ w. w ++ (joined ys ++ end_word ∷ s)) found.2 in
    let part = parts x (inl refl) found.0 found.1 (joined xs ++ end_word ∷ r) (joined ys ++ end_word ∷ s) together in
    let more = rows_part xs ys (λ z i. parts z (inr i)) (λ z i. form_x z (inr i)) (λ z i. form_y z (inr i)) r s part.1 in
    (ap (λ w. w ∷ xs) (part.0 ∙ sym found.2) ∙ ap (λ ws. y ∷ ws) more.0, more.1)

mutual
  -- where two forms begin two equal lists, the nodes are the same, and so is what follows
  pub parts : (n m : Node) (r s : List Word) → form n ++ r ≡ form m ++ s → Same n m × (r ≡ s)
  parts null null r s e = (refl, ap rest e)
  parts (bool b) (bool c) r s e = (ap bool (sym (bit_exact b c (ap (λ ws. kind (rest ws)) e))), ap (λ ws. rest (rest ws)) e)
  parts (int z) (int y) r s e = (ap int (sym (ap (λ ws. (first (rest ws)).0) e)), ap (λ ws. rest (rest ws)) e)
  parts (number t) (number u) r s e = (ap number (sym (ap (λ ws. (first ws).1) e)), ap rest e)
  parts (text t) (text u) r s e = (ap text (sym (ap (λ ws. (first ws).1) e)), ap rest e)
  parts (bytes t) (bytes u) r s e = (ap bytes (sym (ap (λ ws. (first ws).1) e)), ap rest e)
  parts (tag k n) (tag l m) r s e =
      let more = parts n m r s (ap (λ ws. rest (rest ws)) e) in
      ((m, ap (λ j. tag j m) (sym (ap (λ ws. kind (rest ws)) e)), more.0), more.1)
  parts (opaque b) (opaque c) r s e = (ap opaque (sym (ap (λ ws. kind (rest ws)) e)), ap (λ ws. rest (rest ws)) e)
  parts (list ns) (list ms) r s e = let more = entries_part ns ms r s (ap rest e) in ((ms, refl, more.0), more.1)
  parts (object ps) (object qs) r s e =
      let inside : joined (pair_forms [] ps) ++ end_word ∷ r ≡ joined (pair_forms [] qs) ++ end_word ∷ s =
      sym (append_assoc (joined (pair_forms [] ps)) (end_word ∷ []) r) ∙ ap rest e
      ∙ append_assoc (joined (pair_forms [] qs)) (end_word ∷ []) s in
      let both = rows_part (pair_forms [] ps) (pair_forms [] qs) (λ x i. pair_parts ps x (only ps x i))
      (λ x i. is_pair_form ps x (only ps x i))
      (λ y i. is_pair_form qs y (only qs y i)) r s inside in (
        (
          qs,
          refl,
          all_same ps qs (λ x i. only qs x (subst (λ fs. Has x fs) both.0 (forms_have ps [] x i))),
          λ k q has. some_same ps k q (only ps (pair_form k q)
              (subst (λ fs. Has (pair_form k q) fs) (sym both.0)
              (forms_have qs [] (pair_form k q) (form_of_pair qs k q has (pair_form k q) refl)))),
        ),
        both.1,
      )
  parts n m r s e = absurd (clash (kind (form n ++ r)) (kind (form m ++ s)) refl (ap kind e))

  entries_part : (ns ms : Nodes) (r s : List Word) → entries_form ns ++ r ≡ entries_form ms ++ s → SameEntries ns ms × (r ≡ s)
  entries_part no_nodes no_nodes r s e = (refl, ap rest e)
  entries_part no_nodes (node m ms) r s e =
      let begins : 10 ≡ kind (form m ++ (entries_form ms ++ s)) = ap kind (e ∙ append_assoc (form m) (entries_form ms) s) in
      absurd (clash (kind (form m ++ (entries_form ms ++ s))) 10 (no_end m (entries_form ms ++ s)) (sym begins))
  entries_part (node n ns) no_nodes r s e =
      let begins : 10 ≡ kind (form n ++ (entries_form ns ++ r)) = ap kind (sym e ∙ append_assoc (form n) (entries_form ns) r) in
      absurd (clash (kind (form n ++ (entries_form ns ++ r))) 10 (no_end n (entries_form ns ++ r)) (sym begins))
  entries_part (node n ns) (node m ms) r s e =
      let part = parts n m (entries_form ns ++ r) (entries_form ms ++ s)
      (sym (append_assoc (form n) (entries_form ns) r) ∙ e ∙ append_assoc (form m) (entries_form ms) s) in
      let more = entries_part ns ms r s part.1 in
      ((m, ms, refl, part.0, more.0), more.1)

  pair_parts : (ps : Members) (x : List Word) → IsFormIn x ps → Parts x
  pair_parts no_members x h l m a b e = absurd h
  pair_parts (member k n ps) x (inl here) l m a b e =
      let together : pair_form k n ++ a ≡ pair_form l m ++ b = ap (λ w. w ++ a) (sym here) ∙ e in
      let part = parts n m a b (ap rest together) in
      (here ∙ ap (λ t. pair_form t n) (ap (λ ws. (first ws).1) together) ∙ ap (λ ws. name_word l ∷ ws) (alike n m part.0), part.1)
  pair_parts (member k n ps) x (inr later) l m a b e = pair_parts ps x later l m a b e

  all_same : (ps qs : Members) → ((x : List Word) → IsFormIn x ps → IsFormIn x qs) → AllIn ps qs
  all_same no_members qs h = tt
  all_same (member k n ps) qs h =
      let found = pair_of qs (pair_form k n) (h (pair_form k n) (inl refl)) in
      let part = parts n found.1 [] [] (ap (λ ws. rest ws ++ []) found.3) in (
        (found.1, subst (λ t. HasPair t found.1 qs) (sym (ap (λ ws. (first ws).1) found.3)) found.2, part.0),
        all_same ps qs
            (λ x i. h x (inr i)),
      )

  some_same : (ps : Members) (k : List ℕ) (q : Node) → IsFormIn (pair_form k q) ps → HasSamePair ps k q
  some_same no_members k q h = absurd h
  some_same (member l n ps) k q (inl here) = inl (
    sym (ap (λ ws. (first ws).1) here),
    (parts n q [] [] (ap (λ ws. rest ws ++ []) (sym here))).0,
  )
  some_same (member l n ps) k q (inr later) = inr (some_same ps k q later)

pub same_form : (n m : Node) → form n ≡ form m → Same n m
same_form n m h = (parts n m [] [] (ap (λ ws. ws ++ []) h)).0

pub answers_same : (n m : Node) (r : Bool) → r ≡ eq_by_cmp form_cmp (form n) (form m) → IsTrue r ↔ Same n m
answers_same n m r is = (
  λ t. same_form n m (tells_apart exact_forms (form n) (form m) (sym is ∙ t)),
  λ same. is ∙ ap (eq_by_cmp form_cmp (form n)) (sym (alike n m same)) ∙ ap is_eq (tied_itself form_total (form n)),
)

pub answers_equal : (n m : Node) (r : Bool) → r ≡ true → n ≡ m → IsTrue r ↔ Same n m
answers_equal n m r is one = (λ t. subst (Same n) one (reflexive n), λ same. is)
