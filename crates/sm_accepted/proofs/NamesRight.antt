-- The names that members have in JSON differ where no rule fails.
use Rattle.std.proofs.Common.{◌≡◌, ◌⊎◌, inl, inr, ℕ, true, false, ◌||◌, List, [], ◌∷◌, map, length, drop, Option, Some, None, refl, sym, ap}
use Rattle.std.proofs.Common.{subst, ◌∙◌, arith, append_assoc}
use Rattle.std.specs.Prelude.{unwrap_or, is_some}
use Rattle.std.specs.FinMap as fin
use Rattle.std.specs.List.{Contains}
use Rattle.std.proofs.Math.Seq.{drop-append_seam}
use Rattle.std.proofs.lemmas.List.{map-append}
use Rattle.std.proofs.lemmas.List.Elements.{Contains-append_left}
use Rattle.sm_bytes.specs.Ascii.{dollar}
use Rattle.sm_tree.specs.Node.{Node}
use Rattle.sm_tree.specs.Parts.{text_in}
use Rattle.sm_model.specs.Formed.{DifferInNames, HaveForm, StandsAmong}
use Rattle.sm_model.specs.FormedGraph.{IsFormedGraph}
use Rattle.sm_model.specs.Graphs.{GraphMaps, ShapeEntry, member_id}
use Rattle.sm_model.specs.Kinds.{member_form}
use Rattle.sm_model.specs.declared.kind.Kind.{Kind}
use Rattle.sm_model.specs.declared.kind.Kind.TheVariants as model
use Rattle.sm_model.proofs.LinkedEntries.{cons_cases, cons_here}
use Rattle.sm_model.proofs.Worklist.{apart}
use Rattle.sm_shapes.specs.Names.{AllDiffer, NoneIs}
use Rattle.sm_compile.specs.Compiled.{IdSet}
use Rattle.sm_compile.specs.Sound.{json_name_of, trait_of}
use Rattle.sm_compile.specs.TraitIds.{json_name_id}
use Rattle.sm_compile.specs.TraitNodes.{is_text, text_of}
use Rattle.sm_rules.specs.Ready.{NoneFailsIn}
use Rattle.sm_rules.specs.TraitRows.{at_member, is_among}
use Rattle.sm_rules.specs.WireNames.{json_again, name_in_json, named_by, own_name}
use Rattle.sm_rules.specs.Words.{IsOwnShape}
use Rattle.sm_accepted.proofs.ClosedSets.{AreIn, is_there}
use Rattle.sm_accepted.proofs.FormedShapes.{AreThere, IsThere, member_own}
use Rattle.sm_accepted.proofs.GivenShapes.{behind_head}
use Rattle.sm_accepted.proofs.Lists.{NoneAgain, all_differ, any_named, stands_at}
use Rattle.sm_accepted.proofs.MembersRight.{stands}
use Rattle.sm_accepted.proofs.TraitsRight.{by_row, or_false, placed}

-- names of a shape's type differ
none_among : (name : List ℕ) (names : List (List ℕ)) → (StandsAmong name names → ⊥) → NoneIs name names
none_among name [] h = tt
none_among name (k ∷ ks) h = ((λ e. h (inl (sym e))), none_among name ks (λ later. h (inr later)))

any_differ : (names : List (List ℕ)) → DifferInNames names → AllDiffer names
any_differ [] h = tt
any_differ (k ∷ ks) h = (none_among k ks h.0, any_differ ks h.1)

names_of_kind : (kind : Kind) (names : List (List ℕ)) → HaveForm (member_form kind) names → AllDiffer names
names_of_kind model.List names h = subst AllDiffer (sym h) (tt, tt)
names_of_kind model.Map names h = subst AllDiffer (sym h) (((λ e. omega (arith, ap length e)), tt), (tt, tt))
names_of_kind model.Structure names h = any_differ names h
names_of_kind model.Union names h = any_differ names h
names_of_kind model.Enum names h = any_differ names h
names_of_kind model.IntEnum names h = any_differ names h
names_of_kind kind names h = subst AllDiffer (sym h) tt

-- the name that is in a text, where there is one
text_there : (o : Option (List ℕ)) (name : List ℕ) → is_some o ≡ true → o ≡ Some (unwrap_or o name)
text_there None name h = absurd (apart h)
text_there (Some t) name h = refl

id_among : (shape : List ℕ) (names : List (List ℕ)) (name : List ℕ) → Contains names name
    → Contains (map (member_id shape) names) (member_id shape name)
id_among shape [] name among = absurd (omega (arith, among.1))
id_among shape (n ∷ names) name among = elim (cons_cases n names name among) [
  | inl is ↦ subst (λ x. Contains (member_id shape n ∷ map (member_id shape) names) (member_id shape x)) is (cons_here _ _)
  | inr later ↦ behind_head (member_id shape n) (map (member_id shape) names) (member_id shape name) (id_among shape names name later)
]

own_is : (shape name : List ℕ) → own_name shape (member_id shape name) ≡ name
own_is shape name =
    ap (drop (length (member_id shape []))) (sym (append_assoc shape (dollar ∷ []) name)) ∙ drop-append_seam (member_id shape []) name

module _ (g : GraphMaps) (f : IsFormedGraph g) (In : IdSet) (none : NoneFailsIn g In) (shape : List ℕ) (s : ShapeEntry)
    (home : IsOwnShape g shape s) (members_in : AreIn In s.members) (names : List (List ℕ))
    (members : s.members ≡ map (member_id shape) names) (there : AreThere g s.members) where
  listed : (name : List ℕ) → Contains names name → Contains s.members (member_id shape name)
  listed name among = subst (λ ms. Contains ms (member_id shape name)) (sym members) (id_among shape names name among)

  there_is : (name : List ℕ) → Contains names name → IsThere g (member_id shape name)
  there_is name among = is_there g s.members (member_id shape name) there (listed name among)

  name_in : (name : List ℕ) → Contains names name → In (member_id shape name)
  name_in name among = members_in (member_id shape name) (listed name among)

  -- what is said is a text, and stands at members of structures and of unions alone
  json_text : (name : List ℕ) → Contains names name → (n : Node) → trait_of g (member_id shape name) json_name_id ≡ Some n
      → is_text n ≡ true
  json_text name among n is =
      let m = there_is name among in
      let id = member_id shape name in
      sym (or_false (is_text n))
      ∙ by_row g In none id (name_in name among) (member_own g f id m.0 m.1) (at_member s.kind (fin.get g.shapes m.0.target))
      (stands g f In none shape s home members_in id (listed name among) m.0 m.1) json_name_id n refl is

  none_said : is_among (model.Structure ∷ model.Union ∷ []) s.kind ≡ false → (name : List ℕ) → Contains names name
      → (o : Option Node) → trait_of g (member_id shape name) json_name_id ≡ o → unwrap_or (text_of o) name ≡ name
  none_said other name among None is = refl
  none_said other name among (Some n) is =
      let m = there_is name among in
      let id = member_id shape name in
      let may = placed g In none id (name_in name among) (member_own g f id m.0 m.1) (at_member s.kind (fin.get g.shapes m.0.target))
      (stands g f In none shape s home members_in id (listed name among) m.0 m.1) json_name_id n refl is in
      let not_here : ((is_among (model.Structure ∷ model.Union ∷ []) s.kind || false) || false) ≡ false =
      ap (λ b. (b || false) || false) other in
      absurd (apart (sym not_here ∙ may))

  -- the rule's name of a member is the name that it has
  named : (name : List ℕ) → Contains names name → name_in_json g shape (member_id shape name) ≡ Some (json_name_of g shape name)
  named name among = by (trait_of g (member_id shape name) json_name_id) refl
    where
      by : (o : Option Node) → trait_of g (member_id shape name) json_name_id ≡ o
          → named_by (own_name shape (member_id shape name)) o ≡ Some (unwrap_or (text_of o) name)
      by None is = ap Some (own_is shape name)
      by (Some n) is = text_there (text_in n) name (json_text name among n is)

  json_differ : (s.kind ≡ model.Structure) ⊎ (s.kind ≡ model.Union) → AllDiffer (map (json_name_of g shape) names)
  json_differ kind = all_differ (json_name_of g shape) names again
    where
      again : NoneAgain (json_name_of g shape) names
      again before x later is y among same =
          let x_in : Contains names x = subst (λ ns. Contains ns x) (sym is) (stands_at before x later) in
          let y_in : Contains names y = subst (λ ns. Contains ns y) (sym is) (Contains-append_left before (x ∷ later) y among) in
          let name = json_name_of g shape x in
          none.wire_names (member_id shape x) name (name_in x x_in) (json_again shape s kind (record {
            before = map (member_id shape) before;
            behind = record {
              home = home;
              later = map (member_id shape) later;
              members = members ∙ ap (map (member_id shape)) is ∙ map-append (member_id shape) before (x ∷ later);
            };
            is = named x x_in;
            again = any_named (name_in_json g shape) name (map (member_id shape) before) (member_id shape y)
                (id_among shape before y among) (named y y_in ∙ ap Some same);
          }))

  names_same : is_among (model.Structure ∷ model.Union ∷ []) s.kind ≡ false → (ns : List (List ℕ))
      → ((n : List ℕ) → Contains ns n → Contains names n) → map (json_name_of g shape) ns ≡ ns
  names_same other [] inside = refl
  names_same other (n ∷ ns) inside =
      ap (λ x. x ∷ map (json_name_of g shape) ns)
      (none_said other n (inside n (cons_here n ns)) (trait_of g (member_id shape n) json_name_id) refl)
      ∙ ap (λ xs. n ∷ xs) (names_same other ns (λ k among. inside k (behind_head n ns k among)))

  plain_differ : is_among (model.Structure ∷ model.Union ∷ []) s.kind ≡ false → HaveForm (member_form s.kind) names
      → AllDiffer (map (json_name_of g shape) names)
  plain_differ other form =
      subst AllDiffer (sym (names_same other names (λ n among. among))) (names_of_kind s.kind names form)

  -- so they differ
  pub json_names : HaveForm (member_form s.kind) names → AllDiffer (map (json_name_of g shape) names)
  json_names form = by s.kind refl
    where
      by : (kind : Kind) → s.kind ≡ kind → AllDiffer (map (json_name_of g shape) names)
      by model.Structure is = json_differ (inl is)
      by model.Union is = json_differ (inr is)
      by kind is = plain_differ (ap (is_among (model.Structure ∷ model.Union ∷ [])) is) form
