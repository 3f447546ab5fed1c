-- What is told of the defaults of members is what the rule says.
use Rattle.std.proofs.Common.{◌≡◌, ℕ, true, false, List, [], ◌∷◌, ◌++◌, Option, Some, None, map, refl, sym, ap, ◌∙◌, subst}
use Rattle.std.specs.Prelude.{◌↔◌}
use Rattle.std.specs.FinMap as fin
use Rattle.std.specs.List.{Contains}
use Rattle.std.proofs.lemmas.Option.{none-some, same_Some}
use Rattle.sm_tree.specs.Node.{Node}
use Rattle.sm_model.specs.EventView.{EventTold}
use Rattle.sm_model.specs.Graphs.{Entry, GraphMaps, MemberEntry, ShapeEntry, member_entry, shape_entry}
use Rattle.sm_model.specs.GraphView.{IsShapeNumber, maps_of}
use Rattle.sm_model.specs.Reaching.{id_of_number}
use Rattle.sm_model.specs.Relations.{IsInGraph}
use Rattle.sm_model.specs.declared.event.ModelEvent.{ModelEvent}
use Rattle.sm_model.specs.declared.graph.Graph.{Graph}
use Rattle.sm_model.proofs.Worklist.{apart}
use Rattle.sm_shapes.specs.FaultWords.{fault_word}
use Rattle.sm_shapes.specs.declared.fault.FaultKind.{FaultKind}
use Rattle.sm_codec.specs.FaultLists.{FaultAt, first_fault}
use Rattle.sm_compile.specs.Looked.{listed_in, listed_under, target_in}
use Rattle.sm_compile.specs.Sound.{trait_in}
use Rattle.sm_compile.specs.TraitIds.{default_id}
use Rattle.sm_rules.specs.Words.{IsOwnShape}
use Rattle.sm_compile.proofs.ReachedNumbers.{same_number}
use Rattle.sm_rules.specs.RuleEvents.{Puts, rule_event}
use Rattle.sm_rules.specs.declared.rule.Rule.TheVariants.{DefaultValue}
use Rattle.sm_passes.specs.Owned.{is_own_shape}
use Rattle.sm_passes.specs.Putting.{ToldOf}
use Rattle.sm_passes.proofs.EventsPut.{puts_none, puts_same}
use Rattle.sm_trait_rules.proofs.JudgedTraits.{told_mapped}
use Rattle.sm_passes.proofs.OwnShapes.{own_told, told_own}
use Rattle.sm_rules.specs.NodeChecks.{HasNodeFaults}
use Rattle.sm_value_rules.specs.steps.Defaulting.{HasFaultyDefault, IsDefault, IsWantedTarget, ToldDefault, ToldDefaults, WantsTarget}
use Rattle.sm_value_rules.specs.steps.Nodes.{AddsRoots, TellsFaults}
use Rattle.sm_rules.specs.Defaults.{HasWrongDefault}
use Rattle.sm_value_rules.proofs.NodesTold.{adds_one}
use Rattle.sm_value_rules.proofs.SameFaults.{one_fault_list}

-- the number of the target is wanted, and no other
module _ (g : Graph) (number : ℕ) (old : List ℕ) where
  pub target_added : (k : ℕ) (n : Node) → IsShapeNumber g k
      → IsDefault (maps_of g) (id_of_number g number) (id_of_number g k) n → (now : List ℕ) → now ≡ old ++ k ∷ []
      → AddsRoots g (WantsTarget g number) old now
  target_added k n lt is now more =
      subst (AddsRoots g (WantsTarget g number) old) (sym more)
      (adds_one g (WantsTarget g number) old k (lt, is.leads.1)
      (λ j w.
      let other = w.1.1 in
      same_number g k j lt w.0
      (same_Some (id_of_number g k) (id_of_number g j) (sym is.leads.0 ∙ other.leads.0))))

-- what is told of one member
module _ (g : GraphMaps) (id : List ℕ) where
  module _ (target : List ℕ) (n : Node) (is : IsDefault g id target n) where
    -- its default is one node, for one target
    faults_here : (other : List ℕ) (m : Node) → IsDefault g id other m → (faults : List FaultAt) → HasNodeFaults g other m faults
        → HasNodeFaults g target n faults
    faults_here other m d faults h =
        let where_to : other ≡ target = same_Some other target (sym d.leads.0 ∙ is.leads.0) in
        let what : m ≡ n = same_Some m n (sym d.said.0 ∙ is.said.0) in
        subst (λ t. HasNodeFaults g t n faults) where_to (subst (λ x. HasNodeFaults g other x faults) what h)

    pub kind_told : (kind : FaultKind) → TellsFaults g target n (Some kind) → (e : EventTold)
        → (e ≡ rule_event DefaultValue id (fault_word kind)) ↔ ToldDefault g id e
    kind_told kind told e = (
      λ h. (
        fault_word kind,
        record {
          target = target;
          n = n;
          is = is;
          faults = told.0;
          faulty = told.2;
          path = told.1;
          kind_of_first = kind;
          first = told.3;
          detail_is = refl;
        },
        h,
      ),
      λ t.
          let h = t.1 in
          let faults = one_fault_list g target n h.faults told.0 (faults_here h.target h.n h.is h.faults h.faulty) told.2 in
          let first = same_Some (h.path, h.kind_of_first) (told.1, kind) (sym h.first ∙ ap first_fault faults ∙ told.3) in
          t.2 ∙ ap (rule_event DefaultValue id) (h.detail_is ∙ ap (λ (f : FaultAt). fault_word f.1) first),
    )

    pub kind_put : (kind : FaultKind) → TellsFaults g target n (Some kind) → (a b : List ModelEvent)
        → Puts (λ e. e ≡ rule_event DefaultValue id (fault_word kind)) a b → Puts (ToldDefault g id) a b
    kind_put kind told a b h =
        puts_same (λ e. e ≡ rule_event DefaultValue id (fault_word kind)) (ToldDefault g id) a b (kind_told kind told) h

    pub faultless_put : TellsFaults g target n None → (es : List ModelEvent) → Puts (ToldDefault g id) es es
    faultless_put none es =
        puts_none (ToldDefault g id) es
        (λ e t. let h = t.1 in none h.faults (faults_here h.target h.n h.is h.faults h.faulty))

  -- of a member that a shape lists
  member_there : (o : Option Entry) (target : List ℕ) → target_in o ≡ Some target
      → (m : MemberEntry) × (o ≡ Some (member_entry m)) × (m.target ≡ target)
  member_there None target h = absurd (none-some target h)
  member_there (Some (shape_entry s)) target h = absurd (none-some target h)
  member_there (Some (member_entry m)) target h = (m, refl, same_Some m.target target h)

  wrong_of : (shape : List ℕ) (s : ShapeEntry) → IsOwnShape g shape s → Contains s.members id → (detail : List ℕ)
      → HasFaultyDefault g id detail → (h : HasWrongDefault g id detail) × (h.shape ≡ shape)
  wrong_of shape s own among detail h =
      let m = member_there (fin.get g.shapes id) h.target h.is.leads.0 in (
        record {
          shape = shape;
          s = s;
          m = m.0;
          member = record { home = own; among = among; there = m.1 };
          n = h.n;
          has_default = sym (ap (trait_in default_id) m.1) ∙ h.is.said.0;
          some = h.is.said.1;
          faults = h.faults;
          faulty = subst (λ t. HasNodeFaults g t h.n h.faults) (sym m.2) h.faulty;
          path = h.path;
          kind_of_first = h.kind_of_first;
          first = h.first;
          detail_is = h.detail_is;
        },
        refl,
      )

  faulty_of : (detail : List ℕ) → HasWrongDefault g id detail → HasFaultyDefault g id detail
  faulty_of detail h = record {
    target = h.m.target;
    n = h.n;
    is = record {
      said = (ap (trait_in default_id) h.member.there ∙ h.has_default, h.some);
      leads = (ap target_in h.member.there, h.faulty.checked);
    };
    faults = h.faults;
    faulty = h.faulty;
    path = h.path;
    kind_of_first = h.kind_of_first;
    first = h.first;
    detail_is = h.detail_is;
  }

-- of the members of a shape
module _ (g : GraphMaps) (shape : List ℕ) where
  members_told : is_own_shape g shape ≡ true → (e : EventTold) → ToldOf (ToldDefault g) (listed_under g shape) e ↔ ToldDefaults g shape e
  members_told own e = (
    λ t.
        let s = own_told g shape own in
        let among : Contains s.0.members t.0 = subst (λ ids. Contains ids t.0) (ap listed_in s.1.0) t.1 in
        let h = wrong_of g t.0 shape s.0 s.1 among t.2.0 t.2.1 in
        (t.0, t.2.0, h.0, h.1, t.2.2),
    λ t.
        let h = t.2 in
        let among : Contains (listed_under g h.shape) t.0 =
        subst (λ ids. Contains ids t.0) (sym (ap listed_in h.member.home.0)) h.member.among in
        (t.0, subst (λ s. Contains (listed_under g s) t.0) t.3 among, (t.1, faulty_of g t.0 t.1 h, t.4)),
  )

  pub no_shape_put : is_own_shape g shape ≡ false → (es : List ModelEvent) → Puts (ToldDefaults g shape) es es
  no_shape_put other es =
      puts_none (ToldDefaults g shape) es
      (λ e t.
      let h = t.2 in
      apart (sym other ∙ ap (is_own_shape g) (sym t.3) ∙ told_own g h.shape h.s h.member.home))

pub members_put : (g : Graph) (k : ℕ) → is_own_shape (maps_of g) (id_of_number g k) ≡ true → (ms : List ℕ)
    → map (id_of_number g) ms ≡ listed_under (maps_of g) (id_of_number g k) → (a b : List ModelEvent)
    → Puts (ToldOf (λ j. ToldDefault (maps_of g) (id_of_number g j)) ms) a b → Puts (ToldDefaults (maps_of g) (id_of_number g k)) a b
members_put g k own ms are a b h =
    let m = maps_of g in
    let shape = id_of_number g k in
    puts_same (ToldOf (ToldDefault m) (listed_under m shape)) (ToldDefaults m shape) a b (members_told m shape own)
    (subst (λ ids. Puts (ToldOf (ToldDefault m) ids) a b) are
    (puts_same _ (ToldOf (ToldDefault m) (map (id_of_number g) ms)) a b (told_mapped (id_of_number g) (ToldDefault m) ms) h))

-- and of all of them
abbrev pub home_of : (g : GraphMaps) (id detail : List ℕ) → HasWrongDefault g id detail → List ℕ
home_of g id detail h = h.shape

pub homes_there : (g : GraphMaps) (id detail : List ℕ) (h : HasWrongDefault g id detail) → IsInGraph g (home_of g id detail h)
homes_there g id detail h = (shape_entry h.s, h.member.home.0)

-- the target of a default is wanted
pub wanted : (g : Graph) (j k : ℕ) (n : Node) → IsShapeNumber g j → IsShapeNumber g k
    → IsDefault (maps_of g) (id_of_number g j) (id_of_number g k) n → IsWantedTarget g k
wanted g j k n lt gt is = (j, lt, (gt, (n, is)))
