-- What a graph has under an id, where it is made of given shapes: one of these, or a member of one.
use Rattle.std.proofs.Common.{◌≡◌, inl, inr, ℕ, suc, Bool, true, false, cond, List, [], ◌∷◌, ◌++◌, map, Some, refl, sym, ap, subst}
use Rattle.std.proofs.Common.{◌∙◌, arith}
use Rattle.std.specs.FinMap as fin
use Rattle.std.specs.FinMap.{slice_cmp-IsAntisymmetric, nat_cmp-IsAntisymmetric}
use Rattle.std.specs.FinMap.Entries.{find}
use Rattle.std.specs.List.{Contains}
use Rattle.std.specs.Ordering.{is_eq}
use Rattle.std.specs.declared.cmp.Ordering.{Ordering}
use Rattle.std.specs.declared.cmp.Ordering.TheVariants.{Less, Equal, Greater}
use Rattle.std.proofs.lemmas.Option.{none-some, same_Some}
use Rattle.sm_ids.proofs.TextCuts.{member_is_no_shape}
use Rattle.sm_model.specs.Formed.{StandsAmong, DifferInNames}
use Rattle.sm_model.specs.Given.{AreGivenShapes, IsGivenShape, given_ids}
use Rattle.sm_model.specs.Graphs.{text_cmp, Entry, shape_entry, member_entry, ShapeEntry, MemberGiven, ShapeGiven, member_id}
use Rattle.sm_model.specs.Graphs.{given_entries, given_members, given_shape}
use Rattle.sm_model.specs.References.{IsShapeId}
use Rattle.sm_model.proofs.LinkedEntries.{cons_cases, cons_here}
use Rattle.sm_model.proofs.MapFacts.{Each, keys, each_joined}
use Rattle.sm_model.proofs.Worklist.{apart}

-- a shape as a graph has it
abbrev pub entry_given : ShapeGiven → ShapeEntry
entry_given s = record {
  kind = s.kind;
  members = map (λ m. member_id s.id m.name) s.members;
  properties = s.properties;
  traits = fin.from_entries s.traits;
}

-- what stands among the rest
pub behind_head : {X : Type 0} (x : X) (xs : List X) (y : X) → Contains xs y → Contains (x ∷ xs) y
behind_head x xs y h = (suc h.0, omega (arith, h.1), h.2)

-- what is found among entries is one of them
tied : (r : Ordering) → is_eq r ≡ true → r ≡ Equal
tied Less h = absurd (apart h)
tied Equal h = refl
tied Greater h = absurd (apart h)

one_key : (q k : List ℕ) → is_eq (text_cmp q k) ≡ true → k ≡ q
one_key q k h = sym (slice_cmp-IsAntisymmetric nat_cmp-IsAntisymmetric q k (tied (text_cmp q k) h))

module _ {X : Type 0} (P : List ℕ → X → Type 0) (q : List ℕ) (x : X) where
  found_here : (e : List ℕ × X) (es : List (List ℕ × X)) → P e.0 e.1 → (find text_cmp q es ≡ Some x → P q x) → (b : Bool)
      → is_eq (text_cmp q e.0) ≡ b → cond b (Some e.1) (find text_cmp q es) ≡ Some x → P q x
  found_here e es here later true same is = subst (P q) (same_Some e.1 x is) (subst (λ k. P k e.1) (one_key q e.0 same) here)
  found_here e es here later false other is = later is

  pub found_each : (es : List (List ℕ × X)) → Each P es → find text_cmp q es ≡ Some x → P q x
  found_each [] all h = absurd (none-some x h)
  found_each (e ∷ es) all h = found_here e es all.0 (λ rest. found_each es all.1 rest) (is_eq (text_cmp q e.0)) refl h

-- a key in front of more, and behind
module _ {X : Type 0} (k : List ℕ) where
  pub key_before : (es fs : List (List ℕ × X)) → StandsAmong k (keys es) → StandsAmong k (keys (es ++ fs))
  key_before [] fs h = absurd h
  key_before (e ∷ es) fs (inl is) = inl is
  key_before (e ∷ es) fs (inr h) = inr (key_before es fs h)

  pub key_behind : (es fs : List (List ℕ × X)) → StandsAmong k (keys fs) → StandsAmong k (keys (es ++ fs))
  key_behind [] fs h = h
  key_behind (e ∷ es) fs h = inr (key_behind es fs h)

-- a given shape with this id, as it stands in a graph
pub record IsGivenAs (shapes : List ShapeGiven) (id : List ℕ) (s : ShapeEntry) : Type 0 where
  pub given : ShapeGiven
  pub among : Contains shapes given
  pub id_is : id ≡ given.id
  pub is : s ≡ entry_given given

-- an entry is one of the given shapes, or that of a member
abbrev pub IsOneOf : List ShapeGiven → List ℕ → Entry → Type 0
IsOneOf shapes id (shape_entry s) = IsGivenAs shapes id s
IsOneOf shapes id (member_entry m) = IsShapeId id → ⊥

module _ (shapes : List ShapeGiven) where
  each_member : (id : List ℕ) → IsShapeId id → (ms : List MemberGiven) → Each (IsOneOf shapes) (given_members id ms)
  each_member id is [] = tt
  each_member id is (m ∷ ms) = ((λ shape. member_is_no_shape id m.name shape), each_member id is ms)

  each_entry : (ss : List ShapeGiven) → AreGivenShapes ss → ((s : ShapeGiven) → Contains ss s → Contains shapes s)
      → Each (IsOneOf shapes) (given_entries ss)
  each_entry [] given inside = tt
  each_entry (s ∷ ss) given inside =
      each_joined (IsOneOf shapes) (given_shape s) (given_entries ss) (
        record { given = s; among = inside s (cons_here s ss); id_is = refl; is = refl },
        each_member s.id given.0.id s.members,
      )
      (each_entry ss given.1 (λ t among. inside t (behind_head s ss t among)))

  pub each_one : AreGivenShapes shapes → Each (IsOneOf shapes) (given_entries shapes)
  each_one given = each_entry shapes given (λ s among. among)

-- what holds of each given shape holds of one
pub shape_among : (ss : List ShapeGiven) → AreGivenShapes ss → (s : ShapeGiven) → Contains ss s → IsGivenShape s
shape_among [] given s among = absurd (omega (arith, among.1))
shape_among (t ∷ ss) given s among = elim (cons_cases t ss s among) [
  | inl is ↦ subst IsGivenShape is given.0
  | inr later ↦ shape_among ss given.1 s later
]

-- two given shapes of one id are one
id_among : (ss : List ShapeGiven) (s : ShapeGiven) → Contains ss s → StandsAmong s.id (given_ids ss)
id_among [] s among = absurd (omega (arith, among.1))
id_among (t ∷ ss) s among = elim (cons_cases t ss s among) [
  | inl is ↦ inl (ap (λ (x : ShapeGiven). x.id) (sym is))
  | inr later ↦ inr (id_among ss s later)
]

pub one_given : (ss : List ShapeGiven) → DifferInNames (given_ids ss) → (s t : ShapeGiven) → Contains ss s → Contains ss t → s.id ≡ t.id
    → s ≡ t
one_given [] differ s t h k same = absurd (omega (arith, h.1))
one_given (x ∷ ss) differ s t h k same = elim (cons_cases x ss s h) [
  | inl here ↦ elim (cons_cases x ss t k) [
    | inl there ↦ sym here ∙ there
    | inr later ↦ absurd (differ.0 (subst (λ i. StandsAmong i (given_ids ss)) (sym same ∙ ap (λ (y : ShapeGiven). y.id) (sym here))
        (id_among ss t later)))
  ]
  | inr rest ↦ elim (cons_cases x ss t k) [
    | inl there ↦ absurd (differ.0 (subst (λ i. StandsAmong i (given_ids ss)) (same ∙ ap (λ (y : ShapeGiven). y.id) (sym there))
        (id_among ss s rest)))
    | inr later ↦ one_given ss differ.1 s t rest later same
  ]
]

-- the keys of a shape are among those of all
pub keys_among : (ss : List ShapeGiven) (s : ShapeGiven) → Contains ss s → (k : List ℕ) → StandsAmong k (keys (given_shape s))
    → StandsAmong k (keys (given_entries ss))
keys_among [] s among k h = absurd (omega (arith, among.1))
keys_among (t ∷ ss) s among k h = elim (cons_cases t ss s among) [
  | inl is ↦ key_before k (given_shape t) (given_entries ss) (subst (λ x. StandsAmong k (keys (given_shape x))) (sym is) h)
  | inr later ↦ key_behind k (given_shape t) (given_entries ss) (keys_among ss s later k h)
]
