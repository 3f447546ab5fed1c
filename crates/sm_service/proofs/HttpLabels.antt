-- Labels of the pattern of an operation and members of its input that are bound to one are the same by name, where no rule fails.
use Rattle.std.proofs.Common.{◌≡◌, ◌⊎◌, inl, inr, ℕ, Bool, true, false, List, [], ◌∷◌, length, drop, Some, refl, sym}
use Rattle.std.proofs.Common.{ap, subst, ◌∙◌, arith, bytes_eq, append_assoc}
use Rattle.std.specs.FinMap as fin
use Rattle.std.specs.List.{Contains}
use Rattle.std.proofs.Math.Seq.{drop-append_seam}
use Rattle.std.proofs.lemmas.Slice.Eq.{bytes_eq-Decides}
use Rattle.sm_bytes.specs.Ascii.{dollar}
use Rattle.sm_model.specs.FormedGraph.{IsFormedGraph}
use Rattle.sm_model.specs.Graphs.{Entry, GraphMaps, MemberEntry, ShapeEntry, member_entry, member_id, shape_entry, traits_in}
use Rattle.sm_model.specs.Relations.{HasEntry, IsRelated}
use Rattle.sm_model.specs.declared.kind.Kind.{Kind}
use Rattle.sm_model.specs.declared.kind.Kind.TheVariants as model
use Rattle.sm_model.specs.declared.relation.Relation.TheVariants.{Input}
use Rattle.sm_model.proofs.LinkedEntries.{cons_cases, cons_here}
use Rattle.sm_model.proofs.NumberedIds.{one_entry}
use Rattle.sm_model.proofs.Worklist.{apart}
use Rattle.sm_shapes.specs.TableData.{label}
use Rattle.sm_shapes.specs.declared.kinds.ShapeKind.TheVariants as table
use Rattle.sm_compile.specs.Compiled.{EachSays, IdSet}
use Rattle.sm_compile.specs.Kinds.{table_kind}
use Rattle.sm_compile.specs.Looked.{kind_in}
use Rattle.sm_compile.specs.TraitIds.{required_id}
use Rattle.sm_uri.specs.UriPattern.{UriSaid, greedy_names, label_names}
use Rattle.sm_rules.specs.Bindings.{a_label, has_binding, is_string, passes}
use Rattle.sm_rules.specs.Http.{HasLabelled, HasUri, IsLabelled, TakesLabels, greedy_target, no_label, no_member, not_required}
use Rattle.sm_rules.specs.Ready.{NoneFailsIn}
use Rattle.sm_rules.specs.Words.{IsMemberOf, has_trait}
use Rattle.sm_accepted.proofs.ClosedSets.{AreIn}
use Rattle.sm_accepted.proofs.GivenShapes.{behind_head}
use Rattle.sm_accepted.proofs.TraitsRight.{must}
use Rattle.sm_service.specs.HttpServable.{AreLabelled}
use Rattle.sm_service.specs.WireMembers.{TargetSeen, WireMember, is_bound_by}
use Rattle.sm_service.specs.steps.WireSaid.{SaysWireMember, kind_in_table}
use Rattle.sm_service.proofs.HttpLists.{id_of, said_of}
use Rattle.sm_service.proofs.HttpMembers.{has_label, is_member, label_is, label_told, target_there}

-- the name in a member's id
own_part : (shape name : List ℕ) → drop (length (member_id shape [])) (member_id shape name) ≡ name
own_part shape name =
    ap (drop (length (member_id shape []))) (sym (append_assoc shape (dollar ∷ []) name)) ∙ drop-append_seam (member_id shape []) name

one_name : (shape a b : List ℕ) → member_id shape a ≡ member_id shape b → a ≡ b
one_name shape a b h = sym (own_part shape a) ∙ ap (drop (length (member_id shape []))) h ∙ own_part shape b

-- whether a name is among these, and whether a member with this name is bound to a label
name_among : (xs : List (List ℕ)) (t : List ℕ) → Contains xs t ⊎ (Contains xs t → ⊥)
name_among [] t = inr (λ h. omega (arith, h.1))
name_among (x ∷ xs) t = by (name_among xs t) (bytes_eq x t) refl
  where
    by : Contains xs t ⊎ (Contains xs t → ⊥) → (b : Bool) → bytes_eq x t ≡ b → Contains (x ∷ xs) t ⊎ (Contains (x ∷ xs) t → ⊥)
    by rest true is = inl (subst (Contains (x ∷ xs)) ((bytes_eq-Decides x t).0 is) (cons_here x xs))
    by (inl there) false is = inl (behind_head x xs t there)
    by (inr none) false is = inr (λ h. elim (cons_cases x xs t h) [
      | inl same ↦ apart (sym is ∙ (bytes_eq-Decides x t).1 same)
      | inr later ↦ none later
    ])

abbrev IsLabel : List WireMember → List ℕ → Type 0
IsLabel ws name = (m : WireMember) × Contains ws m × (m.name ≡ name) × (m.binding ≡ Some label)

abbrev IsNone : List WireMember → List ℕ → Type 0
IsNone ws name = (m : WireMember) → Contains ws m → m.name ≡ name → m.binding ≡ Some label → ⊥

label_among : (ws : List WireMember) (name : List ℕ) → IsLabel ws name ⊎ IsNone ws name
label_among [] name = inr (λ m h named bound. omega (arith, h.1))
label_among (w ∷ ws) name =
    by (label_among ws name) (bytes_eq w.name name) refl (is_bound_by w.binding a_label) refl
  where
    none_here : IsNone ws name → (w.name ≡ name → w.binding ≡ Some label → ⊥) → IsNone (w ∷ ws) name
    none_here none first m h named bound = elim (cons_cases w ws m h) [
      | inl same ↦ first (ap (λ (x : WireMember). x.name) same ∙ named) (ap (λ (x : WireMember). x.binding) same ∙ bound)
      | inr later ↦ none m later named bound
    ]

    by : IsLabel ws name ⊎ IsNone ws name → (b : Bool) → bytes_eq w.name name ≡ b → (c : Bool) → is_bound_by w.binding a_label ≡ c
        → IsLabel (w ∷ ws) name ⊎ IsNone (w ∷ ws) name
    by rest true named true bound =
        inl (w, cons_here w ws, (bytes_eq-Decides w.name name).0 named, label_told w.binding bound)
    by (inl later) b named c bound = inl (later.0, behind_head w ws later.0 later.1, later.2, later.3)
    by (inr none) false named c bound =
        inr (none_here none (λ same is. apart (sym named ∙ (bytes_eq-Decides w.name name).1 same)))
    by (inr none) true named false bound =
        inr (none_here none (λ same is. apart (sym bound ∙ ap (λ b. is_bound_by b a_label) is)))

text_kind : (kind : Kind) → is_string kind ≡ true → table_kind kind ≡ table.Text
text_kind model.Text h = refl
text_kind kind h = absurd (apart h)

-- the kind of the target, by what stands there
abbrev HasTargetKind : GraphMaps → MemberEntry → WireMember → Type 0
HasTargetKind g x w = (t : ShapeEntry) × HasEntry g x.target (shape_entry t) × (w.target.kind ≡ table_kind t.kind)

-- the members of what is a shape
abbrev entry_members : Entry → List (List ℕ)
entry_members (shape_entry s) = s.members
entry_members (member_entry m) = []

module _ (g : GraphMaps) (f : IsFormedGraph g) (In : IdSet) (none : NoneFailsIn g In) (shape : List ℕ) (s : ShapeEntry)
    (home : HasEntry g shape (shape_entry s)) (members_in : AreIn In s.members)
    (ws : List WireMember) (says : EachSays (SaysWireMember g shape) s.members ws) (operation : List ℕ) (op_in : In operation) (u : UriSaid)
    (uri : HasUri g operation u) (related : IsRelated Input g operation shape) where
  takes : TakesLabels g operation u shape
  takes = record { uri = uri; input_of = related }

  -- a member that is bound to a label, as the rule looks at it
  labelled : (m : WireMember) → Contains ws m → m.binding ≡ Some label
      → (x : MemberEntry) × IsLabelled g shape m.name x × (m.required ≡ has_trait required_id x.traits)
      × HasTargetKind g x m
  labelled m among bound =
      let i = id_of (SaysWireMember g shape) s.members ws says m among in
      let member = is_member g f In none shape s home members_in i.0 m i.1 i.2 in
      let t = target_there g f In none shape s home members_in i.0 m i.1 i.2 in (
        i.2.m,
        record {
          s = s;
          member = subst (λ j. IsMemberOf g shape s j i.2.m) i.2.name member;
          bound = has_label g f In none shape s home members_in i.0 m i.1 i.2 bound;
        },
        i.2.required,
        (t.0, t.1, ap (λ (x : TargetSeen). x.kind) i.2.target ∙ ap (λ e. kind_in_table (kind_in e)) t.1),
      )

  -- the member that the rule looks at is shown
  shown : (name : List ℕ) → HasLabelled g shape name → IsNone ws name → ⊥
  shown name has nothing =
      let one = one_entry g shape (shape_entry has.1.s) (shape_entry s) has.1.member.home.0 home in
      let among : Contains s.members (member_id shape name) =
      subst (λ ms. Contains ms (member_id shape name)) (ap entry_members one) has.1.member.among in
      let w = said_of (SaysWireMember g shape) s.members ws says (member_id shape name) among in
      let same = one_entry g (member_id shape name) (member_entry has.0) (member_entry w.2.m) has.1.member.there w.2.there in
      let bound : has_binding w.2.m.traits a_label ≡ true =
      sym (ap (λ e. has_binding (traits_in e) a_label) same) ∙ has.1.bound in
      nothing w.0 w.1 (sym (one_name shape name w.0.name w.2.name))
      (label_is g f In none shape s home members_in (member_id shape name) w.0 among w.2 bound)

  each_label : (name : List ℕ) → Contains (label_names u.segments) name → IsLabel ws name
  each_label name among = elim (label_among ws name) [
    | inl found ↦ found
    | inr nothing ↦ absurd (none.labels operation name op_in (no_member u shape takes among (λ has. shown name has nothing)))
  ]

  each_member : (m : WireMember) → Contains ws m → m.binding ≡ Some label → Contains (label_names u.segments) m.name
  each_member m among bound = elim (name_among (label_names u.segments) m.name) [
    | inl there ↦ there
    | inr not_there ↦
        let l = labelled m among bound in
        absurd (none.labels operation m.name op_in (no_label u shape takes (l.0, l.1) not_there))
  ]

  each_required : (m : WireMember) → Contains ws m → m.binding ≡ Some label → m.required ≡ true
  each_required m among bound =
      let l = labelled m among bound in
      l.2 ∙ must (has_trait required_id l.0.traits) (λ wrong. none.labels operation m.name op_in
      (not_required u shape takes l.0 l.1 wrong))

  each_greedy : (m : WireMember) → Contains ws m → m.binding ≡ Some label → Contains (greedy_names u.segments) m.name
      → m.target.kind ≡ table.Text
  each_greedy m among bound greedy =
      let l = labelled m among bound in
      let t = l.3 in
      let right = must (passes is_string (fin.get g.shapes l.0.target)) (λ wrong. none.labels operation m.name op_in
      (greedy_target u shape takes l.0 l.1 greedy wrong)) in
      t.2 ∙ text_kind t.0.kind (sym (ap (passes is_string) t.1) ∙ right)

  pub are_labelled : AreLabelled u ws
  are_labelled = record { members = each_label; labels = each_member; required = each_required; greedy = each_greedy }
