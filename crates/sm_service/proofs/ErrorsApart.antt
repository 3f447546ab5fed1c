-- Errors of a service that is ready have names that differ; what an operation and a service refer to is of the types that may stand there.
use Rattle.std.proofs.Common.{◌≡◌, inl, inr, ℕ, Bool, true, false, not, List, [], ◌∷◌, map, Option, Some, None, refl, sym, ap}
use Rattle.std.proofs.Common.{◌∙◌, subst, arith}
use Rattle.std.specs.Prelude.{codes, is_some}
use Rattle.std.specs.Char.{to_ascii_lowercase}
use Rattle.std.specs.FinMap.{get-from_entries}
use Rattle.std.specs.FinMap.Entries.{find}
use Rattle.std.specs.Cmp.Lexicographic.{nat_list_cmp_total}
use Rattle.std.specs.FinMap.{slice_cmp-IsAntisymmetric, nat_cmp-IsAntisymmetric}
use Rattle.std.specs.Ordering.{ordering_reverse}
use Rattle.std.specs.List.{Contains, list_all}
use Rattle.std.specs.Option.{unwrap_or}
use Rattle.std.specs.declared.cmp.Ordering.{Ordering}
use Rattle.std.specs.declared.cmp.Ordering.TheVariants.{Less, Equal, Greater}
use Rattle.sm_ids.specs.TextParts.{name_part}
use Rattle.sm_tree.specs.Node.{Node, Members, null, bool, int, number, text, bytes, tag, opaque, list, object}
use Rattle.sm_tree.specs.Parts.{tree_named}
use Rattle.sm_model.specs.FormedGraph.{IsFormedGraph}
use Rattle.sm_model.specs.Graphs.{GraphMaps, ShapeEntry, ShapeGiven, shape_entry, text_cmp}
use Rattle.sm_model.specs.PreludeShapes.{is_prelude_id, prelude_shapes}
use Rattle.sm_model.specs.Relations.{HasEntry, IsNeighbor, Reaches, WalksBy}
use Rattle.sm_model.specs.declared.kind.Kind.{Kind}
use Rattle.sm_model.specs.declared.kind.Kind.TheVariants as model
use Rattle.sm_model.proofs.LinkedEntries.{cons_cases}
use Rattle.sm_model.proofs.NumberedIds.{one_entry}
use Rattle.sm_model.proofs.Worklist.{apart}
use Rattle.sm_shapes.specs.Names.{AllDiffer}
use Rattle.sm_compile.specs.Compiled.{EachSays, Numbering}
use Rattle.sm_compile.specs.TraitIds.{error_id}
use Rattle.sm_compile.specs.TraitNodes.{field_of, text_of}
use Rattle.sm_compile.proofs.SoundTests.{first_of, second_of}
use Rattle.sm_rules.specs.Ready.{IsOfService, NoneFailsIn}
use Rattle.sm_rules.specs.Services.{IsNamedIn, KeepsName, name_again, name_given, named_kinds, wrong_rename}
use Rattle.sm_rules.specs.Targets.{is_error_structure, is_plain_structure}
use Rattle.sm_rules.specs.TraitRows.{is_among, is_kind}
use Rattle.sm_rules.specs.Words.{IsInClosure, IsOwnShape, IsService, field_in, has_trait}
use Rattle.sm_accepted.proofs.FormedShapes.{prelude_entry}
use Rattle.sm_accepted.proofs.GivenShapes.{entry_given}
use Rattle.sm_service.specs.Compiled.{SaysError}
use Rattle.sm_service.specs.ServiceData.{name_of_error}
use Rattle.sm_service.specs.declared.error.ErrorShape.{ErrorShape}
use Rattle.sm_service.proofs.ErrorNames.{names_apart}
use Rattle.sm_service.proofs.SaidReferences.{body_pair, name_of_pair}
use Rattle.sm_service.proofs.ServableIds.{name_of_id, shape_id}

pub structure_kind : (kind : Kind) → is_kind model.Structure kind ≡ true → kind ≡ model.Structure
structure_kind model.Structure h = refl
structure_kind kind h = absurd (apart h)

-- no shape of the prelude is an error
abbrev is_no_error : ShapeGiven → Bool
is_no_error p = not (is_some (find text_cmp error_id p.traits))

none_error : list_all is_no_error prelude_shapes ≡ true
none_error = refl

among_all : (ss : List ShapeGiven) → list_all is_no_error ss ≡ true → (p : ShapeGiven) → Contains ss p → is_no_error p ≡ true
among_all [] all p among = absurd (omega (arith, among.1))
among_all (s ∷ ss) all p among = elim (cons_cases s ss p among) [
  | inl is ↦ ap is_no_error (sym is) ∙ first_of (is_no_error s) (list_all is_no_error ss) all
  | inr later ↦ among_all ss (second_of (is_no_error s) (list_all is_no_error ss) all) p later
]

pub own_error : (g : GraphMaps) → IsFormedGraph g → (id : List ℕ) (s : ShapeEntry) → HasEntry g id (shape_entry s)
    → has_trait error_id s.traits ≡ true → is_prelude_id id ≡ false
own_error g f id s there error = by (is_prelude_id id) refl
  where
    by : (b : Bool) → is_prelude_id id ≡ b → b ≡ false
    by false is = refl
    by true is =
        let p = prelude_entry g f id (shape_entry s) is there in
        let e = p.2 in
        let same : s ≡ entry_given p.0 = cc in
        let none = among_all prelude_shapes none_error p.0 p.1 in
        let told : is_some (find text_cmp error_id p.0.traits) ≡ true =
        ap is_some (sym (get-from_entries nat_list_cmp_total p.0.traits error_id))
        ∙ sym (ap (λ (x : ShapeEntry). has_trait error_id x.traits) same) ∙ error in
        absurd (apart (sym (ap not told) ∙ none))

-- what is related to what a service leads to
reaches_on : (g : GraphMaps) (between : List (List ℕ)) (from last to : List ℕ) → WalksBy g from between last → IsNeighbor g last to
    → Reaches g from to
reaches_on g [] from last to walk step = (last ∷ [], (walk, step))
reaches_on g (next ∷ more) from last to walk step =
    let rest = reaches_on g more next last to walk.1 step in (next ∷ rest.0, (walk.0, rest.1))

pub closure_next : (g : GraphMaps) (service : List ℕ) → IsService g service → (from to : List ℕ) → IsOfService g service from
    → IsNeighbor g from to → IsInClosure g service to
closure_next g service is from to (inl same) step = (is, ([], subst (λ i. IsNeighbor g i to) same step))
closure_next g service is from to (inr inside) step = (is, reaches_on g inside.1.0 service from to inside.1.1 step)

-- a trait that makes a name stay
named_error : (ms : Members) (id : List ℕ) (o : Option Node) → tree_named id ms ≡ o → ((n : Node) → tree_named id ms ≡ Some n → ⊥)
    → text_of o ≡ None
named_error ms id None is none = refl
named_error ms id (Some n) is none = absurd (none n is)

-- an error of a service
pub record IsErrorOf (g : GraphMaps) (service id : List ℕ) : Type 0 where
  pub s : ShapeEntry
  pub there : HasEntry g id (shape_entry s)
  pub inside : IsInClosure g service id
  pub is_error : is_error_structure s ≡ true

module _ (g : GraphMaps) (f : IsFormedGraph g) (service : List ℕ) (v : ShapeEntry) (own : IsOwnShape g service v)
    (kind : v.kind ≡ model.Service) (none : NoneFailsIn g (IsOfService g service)) where
  pub no_new_name : (id : List ℕ) → KeepsName g id → name_given v id ≡ None
  no_new_name id keeps = by (field_of (codes "rename") v.properties) refl
    where
      by : (o : Option Node) → field_of (codes "rename") v.properties ≡ o → text_of (field_in id o) ≡ None
      by None is = refl
      by (Some null) is = refl
      by (Some (bool b)) is = refl
      by (Some (int z)) is = refl
      by (Some (number t)) is = refl
      by (Some (text t)) is = refl
      by (Some (bytes t)) is = refl
      by (Some (tag i n)) is = refl
      by (Some (opaque b)) is = refl
      by (Some (list ns)) is = refl
      by (Some (object ms)) is =
          named_error ms id (tree_named id ms) refl (λ n has. none.names service id (inl refl) (wrong_rename (record {
            v = v;
            own = own;
            kind = kind;
            pairs = ms;
            rename = is;
            among = name_of_pair id n ms (body_pair id n (object ms) has);
            wrong = inl keeps;
          })))

  error_named : (id : List ℕ) → IsErrorOf g service id → IsNamedIn g service v id (name_part id)
  error_named id e =
      let error = second_of (is_kind model.Structure e.s.kind) (has_trait error_id e.s.traits) e.is_error in
      let structure = structure_kind e.s.kind (first_of (is_kind model.Structure e.s.kind) (has_trait error_id e.s.traits) e.is_error) in
      let spelt = shape_id g f id e.s e.there in
      record {
        s = e.s;
        own = (e.there, own_error g f id e.s e.there error);
        kind = ap (is_among named_kinds) structure;
        inside = e.inside;
        named = (
          spelt.0,
          spelt.1,
          name_of_id id spelt.0 spelt.1 spelt.2
              ∙ sym (ap (λ o. unwrap_or o spelt.0.name) (no_new_name id (e.s, e.there, inl error))),
        );
      }

  -- no two that are named have one name
  smaller_again : (smaller id : List ℕ) → IsNamedIn g service v smaller (name_part smaller) → IsNamedIn g service v id (name_part id)
      → text_cmp smaller id ≡ Less → name_part smaller ≡ name_part id → ⊥
  smaller_again smaller id e f order same =
      none.names service id (inl refl) (name_again (record {
        v = v;
        own = own;
        name = name_part id;
        named = f;
        smaller = smaller;
        other = name_part smaller;
        other_named = e;
        order = order;
        same = ap (map to_ascii_lowercase) same;
      }))

  pub one_named : (a b : List ℕ) → IsNamedIn g service v a (name_part a) → IsNamedIn g service v b (name_part b)
      → name_part a ≡ name_part b → a ≡ b
  one_named a b e f same = by (text_cmp a b) refl
    where
      by : (r : Ordering) → text_cmp a b ≡ r → a ≡ b
      by Less is = absurd (smaller_again a b e f is same)
      by Equal is = slice_cmp-IsAntisymmetric nat_cmp-IsAntisymmetric a b is
      by Greater is = absurd (smaller_again b a f e (nat_list_cmp_total.antisymm b a ∙ ap ordering_reverse is) (sym same))

  pub one_error : (a b : List ℕ) → IsErrorOf g service a → IsErrorOf g service b → name_part a ≡ name_part b → a ≡ b
  one_error a b e f same = one_named a b (error_named a e) (error_named b f) same

  -- so errors whose ids differ have names that differ
  pub error_names_differ : (n : Numbering) (ids : List (List ℕ)) (es : List ErrorShape) → EachSays (SaysError g n) ids es → AllDiffer ids
      → ((id : List ℕ) → Contains ids id → IsErrorOf g service id) → AllDiffer (map name_of_error es)
  error_names_differ n ids es says differ each =
      names_apart g n ids es says differ (λ a b x y same. one_error a b (each a x) (each b y) same)

-- an id has one shape
pub one_shape : (g : GraphMaps) (id : List ℕ) (s t : ShapeEntry) → HasEntry g id (shape_entry s) → HasEntry g id (shape_entry t) → s ≡ t
one_shape g id s t there again = let is = one_entry g id (shape_entry s) (shape_entry t) there again in cc

-- a structure is no error and none that isn't one
pub never_both : (g : GraphMaps) (id : List ℕ) (s t : ShapeEntry) → HasEntry g id (shape_entry s) → HasEntry g id (shape_entry t)
    → is_plain_structure s ≡ true → is_error_structure t ≡ true → ⊥
never_both g id s t there again plain error =
    let same = one_shape g id s t there again in
    let none = second_of (is_kind model.Structure s.kind) (not (has_trait error_id s.traits)) plain in
    let some = second_of (is_kind model.Structure t.kind) (has_trait error_id t.traits) error in
    apart (sym (ap not (ap (λ (x : ShapeEntry). has_trait error_id x.traits) same ∙ some)) ∙ none)
