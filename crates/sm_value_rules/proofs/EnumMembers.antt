-- What is told of the members of enums, one after the other, is what the rule says of them.
use Rattle.std.proofs.Common.{◌≡◌, ◌⊎◌, ◌<◌, ◌+◌, inl, inr, ℕ, ℤ, Bool, true, false, cond, List, [], ◌∷◌, ◌++◌, Option, Some, None, get_or}
use Rattle.std.proofs.Common.{length, map, take, drop, refl, sym, ap, ◌∙◌, subst, arith}
use Rattle.std.specs.Prelude.{◌↔◌, FitsSigned, not, slice_get}
use Rattle.std.specs.Int.{w32}
use Rattle.std.specs.List.{Contains, take-map}
use Rattle.std.specs.Option.{option_map}
use Rattle.std.proofs.Math.Seq.{take-append_seam}
use Rattle.std.proofs.lemmas.List.{get_or_default, map-append, take_more}
use Rattle.std.proofs.lemmas.List.Elements.{Contains-append_left, Contains-push, Contains-push_cases}
use Rattle.std.proofs.lemmas.Option.{none-some, same_Some, slice_get-map, slice_get_read, slice_get_within}
use Rattle.sm_tree.specs.Node.{Node, null, bool, int, number, text, bytes, tag, opaque, list, object}
use Rattle.sm_model.specs.EventView.{EventTold}
use Rattle.sm_model.specs.Graphs.{ShapeEntry, GraphMaps}
use Rattle.sm_model.specs.GraphView.{maps_of}
use Rattle.sm_model.specs.Reaching.{id_of_number}
use Rattle.sm_model.specs.declared.event.ModelEvent.{ModelEvent}
use Rattle.sm_model.specs.declared.graph.Graph.{Graph}
use Rattle.sm_model.specs.declared.kind.Kind.{Kind}
use Rattle.sm_model.specs.declared.kind.Kind.TheVariants.{Enum, IntEnum}
use Rattle.sm_model.specs.Joins.{Joins}
use Rattle.sm_model.proofs.Linking.{joins_none, joins_same}
use Rattle.sm_model.proofs.Worklist.{apart}
use Rattle.sm_compile.specs.Looked.{listed_in, listed_under}
use Rattle.sm_compile.specs.Sound.{HasNumber, HasText, trait_of}
use Rattle.sm_compile.specs.TraitIds.{enum_value_id}
use Rattle.sm_compile.specs.TraitNodes.{number_of, text_of, fits_word}
use Rattle.sm_rules.specs.Constraints.{HasItsValue, HasWrongEnum, IsEnumKind, has_none, wrong_value}
use Rattle.sm_rules.specs.Words.{IsOwnShape}
use Rattle.sm_compile.proofs.SoundTests.{fits_back, fits_from}
use Rattle.sm_compile.proofs.TabledShapes.{mapped_from, mapped_to}
use Rattle.sm_rules.specs.RuleEvents.{IsEventAt, IsEventIn, IsEventOf, Puts, rule_event}
use Rattle.sm_rules.specs.declared.rule.Rule.TheVariants.{EnumValues}
use Rattle.sm_passes.specs.Putting.{Below, IsWhere}
use Rattle.sm_passes.proofs.EventsPut.{puts_both, puts_none, puts_same}
use Rattle.sm_passes.proofs.ListParts.{parts_at, seam_at}
use Rattle.sm_value_rules.specs.steps.Enums.{HasNone, HasWrong, IsValueAmong, IsWrongAfter, ToldValue, ToldValueAt, enum_of, enum_where}
use Rattle.sm_value_rules.specs.steps.Enums.{are_none, home_of, own_enum, right_number, right_text, right_value, value_at}
use Rattle.sm_passes.specs.Owned.{own_kind}
use Rattle.sm_passes.proofs.OwnKinds.{is_own_kind, own_shape}

-- which types are those of enums
enum_kind : (k kind : Kind) → enum_of k ≡ Some kind → (k ≡ kind) × IsEnumKind kind
enum_kind Enum kind h = (same_Some Enum kind h, inl (sym (same_Some Enum kind h)))
enum_kind IntEnum kind h = (same_Some IntEnum kind h, inr (sym (same_Some IntEnum kind h)))
enum_kind k kind h = absurd (none-some kind h)

kind_enum : (k : Kind) → IsEnumKind k → enum_of k ≡ Some k
kind_enum k (inl is) = ap enum_of is ∙ ap Some (sym is)
kind_enum k (inr is) = ap enum_of is ∙ ap Some (sym is)

-- an enum outside of the prelude
pub own_enum_shape : (g : GraphMaps) (id : List ℕ) (kind : Kind) → own_enum g id ≡ Some kind
    → (s : ShapeEntry) × IsOwnShape g id s × (s.kind ≡ kind) × IsEnumKind kind
own_enum_shape g id kind h = by (own_kind g id) refl h
  where
    by : (o : Option Kind) → own_kind g id ≡ o → enum_where o ≡ Some kind
        → (s : ShapeEntry) × IsOwnShape g id s × (s.kind ≡ kind) × IsEnumKind kind
    by None is h = absurd (none-some kind h)
    by (Some k) is h =
        let s = own_shape g id k is in
        let e = enum_kind k kind h in
        (s.0, s.1, s.2 ∙ e.0, e.1)

pub is_own_enum : (g : GraphMaps) (id : List ℕ) (s : ShapeEntry) → IsOwnShape g id s → IsEnumKind s.kind → own_enum g id ≡ Some s.kind
is_own_enum g id s own enum = ap enum_where (is_own_kind g id s own) ∙ kind_enum s.kind enum

-- a list that isn't empty
abbrev IsFilled : {X : Type 0} → List X → Type 0
IsFilled [] = ⊥
IsFilled (x ∷ xs) = Unit {0}

-- a value that is right is the trait's
filled_text : (n : Option Node) (o : Option (List ℕ)) → text_of n ≡ o → (v : Node) → right_text o ≡ Some v
    → (n ≡ Some v) × ((t : List ℕ) × (v ≡ text t) × (t ≡ [] → ⊥))
filled_text n None is v h = absurd (none-some v h)
filled_text n (Some []) is v h = absurd (none-some v h)
filled_text n (Some (c ∷ cs)) is v h =
    let same : text (c ∷ cs) ≡ v = same_Some (text (c ∷ cs)) v h in
    (by n is ∙ ap Some same, (c ∷ cs, sym same, λ e. subst IsFilled e tt))
  where
    by : (n : Option Node) → text_of n ≡ Some (c ∷ cs) → n ≡ Some (text (c ∷ cs))
    by None e = absurd (none-some (c ∷ cs) e)
    by (Some (text t)) e = ap (λ x. Some (text x)) (same_Some t (c ∷ cs) e)
    by (Some null) e = absurd (none-some (c ∷ cs) e)
    by (Some (bool b)) e = absurd (none-some (c ∷ cs) e)
    by (Some (int z)) e = absurd (none-some (c ∷ cs) e)
    by (Some (number t)) e = absurd (none-some (c ∷ cs) e)
    by (Some (bytes t)) e = absurd (none-some (c ∷ cs) e)
    by (Some (tag k m)) e = absurd (none-some (c ∷ cs) e)
    by (Some (opaque b)) e = absurd (none-some (c ∷ cs) e)
    by (Some (list ns)) e = absurd (none-some (c ∷ cs) e)
    by (Some (object ms)) e = absurd (none-some (c ∷ cs) e)

fitting_number : (g : GraphMaps) (n : Option Node) (o : Option ℤ) → number_of n ≡ o → (v : Node) → right_number o ≡ Some v
    → (n ≡ Some v) × ((z : ℤ) × (v ≡ int z) × FitsSigned w32 z)
fitting_number g n None is v h = absurd (none-some v h)
fitting_number g n (Some z) is v h = by (fits_word z) refl h
  where
    from : (n : Option Node) → number_of n ≡ Some z → n ≡ Some (int z)
    from None e = absurd (none-some z e)
    from (Some (int y)) e = ap (λ x. Some (int x)) (same_Some y z e)
    from (Some null) e = absurd (none-some z e)
    from (Some (bool b)) e = absurd (none-some z e)
    from (Some (text t)) e = absurd (none-some z e)
    from (Some (number t)) e = absurd (none-some z e)
    from (Some (bytes t)) e = absurd (none-some z e)
    from (Some (tag k m)) e = absurd (none-some z e)
    from (Some (opaque b)) e = absurd (none-some z e)
    from (Some (list ns)) e = absurd (none-some z e)
    from (Some (object ms)) e = absurd (none-some z e)

    by : (b : Bool) → fits_word z ≡ b → cond b (Some (int z)) None ≡ Some v → (n ≡ Some v) × ((y : ℤ) × (v ≡ int y) × FitsSigned w32 y)
    by false fits e = absurd (none-some v e)
    by true fits e =
        let same : int z ≡ v = same_Some (int z) v e in
        (from n is ∙ ap Some same, (z, sym same, fits_from g z fits))

-- a member has its value exactly where it is right
module _ (g : GraphMaps) (id : List ℕ) where
  abbrev value : Option Node
  value = trait_of g id enum_value_id

  pub its_value : (kind : Kind) → IsEnumKind kind → (v : Node) → right_value kind value ≡ Some v → (value ≡ Some v) × HasItsValue g kind id
  its_value kind (inl is) v h =
      let r = filled_text value (text_of value) refl v (subst (λ k. right_value k value ≡ Some v) is h) in
      let t = r.1 in
      (r.0, subst (λ k. HasItsValue g k id) (sym is) (t.0, r.0 ∙ ap Some t.1, t.2))
  its_value kind (inr is) v h =
      let r = fitting_number g value (number_of value) refl v (subst (λ k. right_value k value ≡ Some v) is h) in
      let z = r.1 in
      (r.0, subst (λ k. HasItsValue g k id) (sym is) (z.0, r.0 ∙ ap Some z.1, z.2))

  text_right : HasText g id → (v : Node) × (right_value Enum value ≡ Some v)
  text_right (t, is, some) = by t is some
    where
      by : (t : List ℕ) → value ≡ Some (text t) → (t ≡ [] → ⊥) → (v : Node) × (right_value Enum value ≡ Some v)
      by [] is some = absurd (some refl)
      by (c ∷ cs) is some = (text (c ∷ cs), ap (right_value Enum) is)

  pub right_of : (kind : Kind) → IsEnumKind kind → HasItsValue g kind id → (v : Node) × (right_value kind value ≡ Some v)
  right_of kind (inl is) h =
      let r = text_right (subst (λ k. HasItsValue g k id) is h) in
      (r.0, ap (λ k. right_value k value) is ∙ r.1)
  right_of kind (inr is) h =
      let n : HasNumber g id = subst (λ k. HasItsValue g k id) is h in (
        int n.0,
        ap (λ k. right_value k value) is ∙ ap (right_value IntEnum) n.1 ∙ ap (λ b. cond b (Some (int n.0)) None) (fits_back g n.0 n.2),
      )

-- member by member
module _ (g : Graph) (kind : Kind) where
  pub none_among : (Seen : Node → Type 0) → ((n : Node) → Seen n → ⊥) → (n : Node) → Seen n ↔ IsValueAmong g kind [] n
  none_among Seen none n = (λ h. absurd (none n h), λ h. let k = h.1.0 in let small = h.1.1 in absurd (omega (arith, small)))

  pub among_next : (ks : List ℕ) (i : ℕ) (d : ℕ) → i < length ks → (Seen Now : Node → Type 0)
      → ((n : Node) → Seen n ↔ IsValueAmong g kind (take i ks) n)
      → Joins Seen (λ n. value_at g kind (get_or ks i d) ≡ Some n) Now
      → (n : Node) → Now n ↔ IsValueAmong g kind (take (i + 1) ks) n
  among_next ks i d within Seen Now before joins n =
      let k = get_or ks i d in
      let parts : take (i + 1) ks ≡ take i ks ++ k ∷ [] = take_more ks i d within in (
        λ h. elim ((joins n).0 h) [
          | inl old ↦
              let a = (before n).0 old in
              (a.0, subst (λ xs. Contains xs a.0) (sym parts) (Contains-append_left (take i ks) (k ∷ []) a.0 a.1), a.2)
          | inr is ↦ (k, subst (λ xs. Contains xs k) (sym parts) (Contains-push (take i ks) k), is)
        ],
        λ h. (joins n).1 (elim (Contains-push_cases (take i ks) k h.0 (subst (λ xs. Contains xs h.0) parts h.1)) [
          | inl old ↦ inl ((before n).1 (h.0, old, h.2))
          | inr same ↦ inr (ap (value_at g kind) same ∙ h.2)
        ]),
      )

  same_after : (A B : Node → Type 0) → ((n : Node) → A n → B n) → (o : Option Node) → IsWrongAfter A o → IsWrongAfter B o
  same_after A B to None h = h
  same_after A B to (Some n) h = to n h

  pub told_here : (ks : List ℕ) (i : ℕ) (d : ℕ) → i < length ks → (Seen : Node → Type 0)
      → ((n : Node) → Seen n ↔ IsValueAmong g kind (take i ks) n) → (a b : List ModelEvent)
      → Puts (ToldValue g Seen (value_at g kind (get_or ks i d)) (get_or ks i d)) a b → Puts (ToldValueAt g kind ks i) a b
  told_here ks i d within Seen before a b h =
      let k = get_or ks i d in
      let at : slice_get ks i ≡ Some k = slice_get_read ks (length ks) i k refl within (get_or_default ks i d k within) in
      puts_same (ToldValue g Seen (value_at g kind k) k) (ToldValueAt g kind ks i) a b
      (λ e. (
        λ t. (k, at, (same_after Seen (IsValueAmong g kind (take i ks)) (λ n. (before n).0) (value_at g kind k) t.0, t.1)),
        λ t.
            let same : t.0 ≡ k = same_Some t.0 k (sym t.1 ∙ at) in
            subst (λ j. ToldValue g Seen (value_at g kind j) j e) same
            (same_after (IsValueAmong g kind (take i ks)) Seen (λ n. (before n).1) (value_at g kind t.0) t.2.0, t.2.1),
      )) h

-- of the members of one enum
module _ (g : Graph) (k : ℕ) where
  abbrev pub AtEnum : EventTold → Type 0
  AtEnum e = IsEventIn EnumValues (HasWrong (maps_of g)) (home_of (maps_of g)) (id_of_number g k) e

  module _ (kind : Kind) (own : own_enum (maps_of g) (id_of_number g k) ≡ Some kind) (ks : List ℕ)
      (listed : map (id_of_number g) ks ≡ listed_under (maps_of g) (id_of_number g k)) where
    abbrev Rows : EventTold → Type 0
    Rows e = Below (ToldValueAt g kind ks) (length ks) e

    forth : (e : EventTold) → Rows e → AtEnum e
    forth e (i, small, (n, at, (wrong, is))) =
        let s = own_enum_shape (maps_of g) (id_of_number g k) kind own in (
          id_of_number g n,
          [],
          (
            record {
              shape = id_of_number g k;
              s = s.0;
              before = map (id_of_number g) (take i ks);
              behind = record {
                home = s.1;
                later = map (id_of_number g) (drop (i + 1) ks);
                members = sym (ap listed_in s.1.0) ∙ sym listed ∙ ap (map (id_of_number g)) (parts_at ks i n at)
                    ∙ map-append (id_of_number g) (take i ks) (n ∷ drop (i + 1) ks);
              };
              kind = subst IsEnumKind (sym s.2) s.3;
              wrong = by s.0 s.2 s.3 (value_at g kind n) refl wrong;
            },
            refl,
          ),
          refl,
          is,
        )
      where
        by : (s : ShapeEntry) → s.kind ≡ kind → IsEnumKind kind → (o : Option Node) → value_at g kind n ≡ o
            → IsWrongAfter (IsValueAmong g kind (take i ks)) o
            → (HasItsValue (maps_of g) s.kind (id_of_number g n) → ⊥)
            ⊎ ((earlier : List ℕ) × Contains (map (id_of_number g) (take i ks)) earlier
            × ((v : Node) × (trait_of (maps_of g) (id_of_number g n) enum_value_id ≡ Some v)
            × (trait_of (maps_of g) earlier enum_value_id ≡ Some v)))
        by s same enum None at w =
            inl (λ has.
            let r = right_of (maps_of g) (id_of_number g n) kind enum (subst (λ x. HasItsValue (maps_of g) x
            (id_of_number g n)) same has) in
            none-some r.0 (sym at ∙ r.1))
        by s same enum (Some v) at w = inr (
          id_of_number g w.0,
          mapped_to (id_of_number g) (take i ks) w.0 w.1,
          (
            v,
            (its_value (maps_of g) (id_of_number g n) kind enum v at).0,
            (its_value (maps_of g) (id_of_number g w.0) kind enum v w.2).0,
          ),
        )

    back : (e : EventTold) → AtEnum e → Rows e
    back e (id, detail, (h, none), same, is) =
        by (slice_get ks (length h.before)) refl
        (sym (slice_get-map (id_of_number g) ks (length h.before)) ∙ ap (λ xs. slice_get xs (length h.before)) ids
        ∙ seam_at h.before id h.behind.later)
      where
        ids : map (id_of_number g) ks ≡ h.before ++ id ∷ h.behind.later
        ids = listed ∙ ap (listed_under (maps_of g)) (sym same) ∙ ap listed_in h.behind.home.0 ∙ h.behind.members

        before_is : map (id_of_number g) (take (length h.before) ks) ≡ h.before
        before_is =
            sym (take-map (id_of_number g) (length h.before) ks) ∙ ap (take (length h.before)) ids
            ∙ take-append_seam h.before (id ∷ h.behind.later)

        of_kind : h.s.kind ≡ kind
        of_kind =
            same_Some h.s.kind kind
            (sym (is_own_enum (maps_of g) h.shape h.s h.behind.home h.kind) ∙ ap (own_enum (maps_of g)) same ∙ own)

        enum : IsEnumKind kind
        enum = subst IsEnumKind of_kind h.kind

        seen : (n : ℕ) → id_of_number g n ≡ id → (o : Option Node) → value_at g kind n ≡ o
            → IsWrongAfter (IsValueAmong g kind (take (length h.before) ks)) o
        seen n named None at = tt
        seen n named (Some w) at =
            let mine = its_value (maps_of g) (id_of_number g n) kind enum w at in elim h.wrong [
              | inl never ↦ absurd (never (subst (λ x. HasItsValue (maps_of g) h.s.kind x) named
                  (subst (λ x. HasItsValue (maps_of g) x (id_of_number g n)) (sym of_kind) mine.1)))
              | inr earlier ↦
                  let value = earlier.2 in
                  let r = mapped_from (id_of_number g) (take (length h.before) ks) earlier.0
                  (subst (λ xs. Contains xs earlier.0) (sym before_is) earlier.1) in
                  let trait : trait_of (maps_of g) (id_of_number g r.0) enum_value_id ≡ trait_of (maps_of g)
                  (id_of_number g n) enum_value_id =
                  ap (λ x. trait_of (maps_of g) x enum_value_id) r.2 ∙ value.2 ∙ sym value.1
                  ∙ ap (λ x. trait_of (maps_of g) x enum_value_id) (sym named) in
                  (r.0, r.1, ap (right_value kind) trait ∙ at)
            ]

        by : (o : Option ℕ) → slice_get ks (length h.before) ≡ o → option_map (id_of_number g) o ≡ Some id → Rows e
        by None at q = absurd (none-some id q)
        by (Some n) at q =
            let named = same_Some (id_of_number g n) id q in (
              length h.before,
              slice_get_within ks (length h.before) n at,
              (
                n,
                at,
                (
                  seen n named (value_at g kind n) refl,
                  is ∙ ap (rule_event EnumValues id) none ∙ ap (λ x. rule_event EnumValues x []) (sym named),
                ),
              ),
            )

    pub values_put : (a b : List ModelEvent) → Puts Rows a b → Puts AtEnum a b
    values_put a b h = puts_same Rows AtEnum a b (λ e. (forth e, back e)) h

  pub no_values : own_enum (maps_of g) (id_of_number g k) ≡ None → (es : List ModelEvent) → Puts AtEnum es es
  no_values none es =
      puts_none AtEnum es
      (λ e t. none-some (t.2).0.s.kind (sym none ∙ ap (own_enum (maps_of g)) (sym t.3)
      ∙ is_own_enum (maps_of g) (t.2).0.shape (t.2).0.s (t.2).0.behind.home (t.2).0.kind))

-- enums without members
module _ (g : GraphMaps) (id : List ℕ) where
  abbrev pub AtEmpty : EventTold → Type 0
  AtEmpty e = IsEventAt EnumValues (HasNone g) id e

  pub empty_put : (kind : Kind) → own_enum g id ≡ Some kind → (none : Bool) → (none ≡ true → listed_under g id ≡ [])
      → (listed_under g id ≡ [] → none ≡ true) → (a b : List ModelEvent)
      → Puts (IsWhere none (rule_event EnumValues id [])) a b → Puts AtEmpty a b
  empty_put kind own none to from a b h =
      puts_same (IsWhere none (rule_event EnumValues id [])) AtEmpty a b
      (λ e. (
        λ t.
            let s = own_enum_shape g id kind own in (
              [],
              ((s.0, s.1, subst IsEnumKind (sym s.2) s.3, sym (ap listed_in s.1.0) ∙ to t.0), refl),
              t.1,
            ),
        λ t.
            let s = (t.1).0 in
            (from (ap listed_in s.1.0 ∙ s.3), t.2 ∙ ap (rule_event EnumValues id) (t.1).1),
      )) h

  pub no_empty : own_enum g id ≡ None → (es : List ModelEvent) → Puts AtEmpty es es
  no_empty none es =
      puts_none AtEmpty es
      (λ e t. let s = (t.1).0 in none-some s.0.kind (sym none ∙ is_own_enum g id s.0 s.1 s.2))

-- both cases
module _ (g : GraphMaps) where
  both_told : (e : EventTold)
      → (IsEventOf EnumValues (HasNone g) e ⊎ IsEventOf EnumValues (HasWrong g) e) ↔ IsEventOf EnumValues (HasWrongEnum g) e
  both_told e = (
    λ h. elim h [
      | inl t ↦ (t.0, t.1, has_none (t.2).0 (t.2).1, t.3)
      | inr t ↦ (t.0, t.1, wrong_value (t.2).0 (t.2).1, t.3)
    ],
    λ h. by h.0 h.1 h.2 h.3,
  )
    where
      by : (id detail : List ℕ) → HasWrongEnum g id detail → e ≡ rule_event EnumValues id detail
          → IsEventOf EnumValues (HasNone g) e ⊎ IsEventOf EnumValues (HasWrong g) e
      by id detail (has_none h none) is = inl (id, detail, (h, none), is)
      by id detail (wrong_value h none) is = inr (id, detail, (h, none), is)

  pub enums_put : (a b c : List ModelEvent) → Puts (IsEventOf EnumValues (HasNone g)) a b → Puts (IsEventOf EnumValues (HasWrong g)) b c
      → Puts (IsEventOf EnumValues (HasWrongEnum g)) a c
  enums_put a b c h k =
      puts_same (λ e. IsEventOf EnumValues (HasNone g) e ⊎ IsEventOf EnumValues (HasWrong g) e) (IsEventOf EnumValues (HasWrongEnum g)) a c
      both_told
      (puts_both (IsEventOf EnumValues (HasNone g)) (IsEventOf EnumValues (HasWrong g)) a b c h k)

-- that there are no members, by their numbers
pub empty_members : (g : Graph) (k : ℕ) (ks : List ℕ) → map (id_of_number g) ks ≡ listed_under (maps_of g) (id_of_number g k)
    → (none : Bool) → none ≡ are_none ks
    → (none ≡ true → listed_under (maps_of g) (id_of_number g k) ≡ []) × (listed_under (maps_of g) (id_of_number g k) ≡ [] → none ≡ true)
empty_members g k [] listed none is = (λ h. sym listed, λ h. is)
empty_members g k (j ∷ ks) listed none is = (λ h. absurd (apart (sym is ∙ h)), λ h. absurd (subst IsFilled (listed ∙ h) tt))

-- one value, or none
pub value_joined : (Seen Now : Node → Type 0) (o : Option Node) (v : Node) → o ≡ Some v → Joins Seen (λ n. v ≡ n) Now
    → Joins Seen (λ n. o ≡ Some n) Now
value_joined Seen Now o v is joins =
    joins_same Seen (λ n. v ≡ n) (λ n. o ≡ Some n) Now (λ n. (λ same. is ∙ ap Some same, λ h. same_Some v n (sym is ∙ h))) joins

pub none_joined : (Seen : Node → Type 0) (o : Option Node) → o ≡ None → Joins Seen (λ n. o ≡ Some n) Seen
none_joined Seen o none = joins_none Seen (λ n. o ≡ Some n) (λ n h. none-some n (sym none ∙ h))

pub value_told : (g : Graph) (holds : Node → Bool) (o : Option Node) (k : ℕ) (v : Node) → o ≡ Some v → (new : Bool) → new ≡ not (holds v)
    → (a b : List ModelEvent) → Puts (IsWhere (not new) (rule_event EnumValues (id_of_number g k) [])) a b
    → Puts (ToldValue g (λ n. holds n ≡ true) o k) a b
value_told g holds o k v is new fresh a b h =
    puts_same (IsWhere (not new) (rule_event EnumValues (id_of_number g k) [])) (ToldValue g (λ n. holds n ≡ true) o k) a b
    (λ e. (
      λ t. (subst (IsWrongAfter (λ n. holds n ≡ true)) (sym is) (sym (twice (holds v)) ∙ ap not (sym fresh) ∙ t.0), t.1),
      λ t. (ap not fresh ∙ twice (holds v) ∙ subst (IsWrongAfter (λ n. holds n ≡ true)) is t.0, t.1),
    )) h
  where
    twice : (b : Bool) → not (not b) ≡ b
    twice true = refl
    twice false = refl

pub none_told : (g : Graph) (Seen : Node → Type 0) (o : Option Node) (k : ℕ) → o ≡ None → (a b : List ModelEvent)
    → Puts (λ e. e ≡ rule_event EnumValues (id_of_number g k) []) a b → Puts (ToldValue g Seen o k) a b
none_told g Seen o k none a b h =
    puts_same (λ e. e ≡ rule_event EnumValues (id_of_number g k) []) (ToldValue g Seen o k) a b
    (λ e. (λ is. (subst (IsWrongAfter Seen) (sym none) tt, is), λ t. t.1)) h
