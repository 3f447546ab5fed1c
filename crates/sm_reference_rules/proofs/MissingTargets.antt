-- References that name no shape, by what members target and bodies say.
use Rattle.std.proofs.Common.{◌≡◌, ◌⊎◌, inl, inr, ℕ, Bool, true, false, List, [], ◌∷◌, Option, Some, None, refl, sym, ap, ◌∙◌, subst}
use Rattle.std.specs.Prelude.{◌↔◌, ◌&&◌, if◌then◌else◌, nat_eq}
use Rattle.std.specs.Cmp.Lexicographic.{pointwise}
use Rattle.std.specs.FinMap as fin
use Rattle.std.proofs.lemmas.Option.{none-some, same_Some}
use Rattle.sm_model.specs.EventView.{EventTold}
use Rattle.sm_model.specs.GraphView.{Stands, maps_of}
use Rattle.sm_model.specs.Graphs.{Entry, shape_entry, member_entry, ShapeEntry, MemberEntry, GraphMaps}
use Rattle.sm_model.specs.PreludeShapes.{is_prelude_id}
use Rattle.sm_model.specs.Relations.{HasEntry, IsInGraph, RelationFields, SaysInBody, SaysRelated, field_relations, relation_under}
use Rattle.sm_model.specs.declared.event.ModelEvent.{ModelEvent}
use Rattle.sm_model.specs.declared.graph.Graph.{Graph}
use Rattle.sm_model.specs.declared.kind.Kind.{Kind}
use Rattle.sm_model.specs.declared.kind.Kind.TheVariants as kind
use Rattle.sm_model.specs.declared.relation.Relation.{Relation}
use Rattle.sm_model.specs.declared.relation.Relation.TheVariants.{Member, Container, Target, Input, Output, Error, Operation, Resource}
use Rattle.sm_model.specs.declared.relation.Relation.TheVariants.{Identifier, Property}
use Rattle.sm_model.proofs.LinkNumbers.{at_opened}
use Rattle.sm_model.proofs.Searching.{and_left, and_right}
use Rattle.sm_model.proofs.Worklist.{apart}
use Rattle.sm_compile.specs.Looked.{target_in, target_under}
use Rattle.sm_rules.specs.Targets.{RefersToNothing}
use Rattle.sm_rules.specs.Words.{IsOwn}
use Rattle.sm_rules.specs.RuleEvents.{IsEventAt, IsEventOf, Puts, rule_event}
use Rattle.sm_rules.specs.declared.rule.Rule.TheVariants.{TargetMissing}
use Rattle.sm_passes.proofs.EventsPut.{puts_both, puts_none, puts_same}
use Rattle.sm_reference_rules.specs.steps.Missing.{TargetsNothing, ToldMissing}
use Rattle.sm_reference_rules.specs.steps.References.{ToldByBodies}
use Rattle.sm_reference_rules.proofs.TargetKinds.{target_from}

-- the fields of bodies say other relations than that to a member
abbrev is_other : Relation → Bool
is_other Member = false
is_other Container = true
is_other Target = true
is_other Input = true
is_other Output = true
is_other Error = true
is_other Operation = true
is_other Resource = true
is_other Identifier = true
is_other Property = true

abbrev are_other : RelationFields → Bool
are_other [] = true
are_other (f ∷ fs) = is_other f.1 && are_other fs

all_other : (k : Kind) → are_other (field_relations k) ≡ true
all_other kind.Operation = refl
all_other kind.Service = refl
all_other kind.Resource = refl
all_other kind.List = refl
all_other kind.Map = refl
all_other kind.Structure = refl
all_other kind.Union = refl
all_other kind.Enum = refl
all_other kind.IntEnum = refl
all_other kind.Blob = refl
all_other kind.Boolean = refl
all_other kind.Text = refl
all_other kind.Byte = refl
all_other kind.Short = refl
all_other kind.Integer = refl
all_other kind.Long = refl
all_other kind.Float = refl
all_other kind.Double = refl
all_other kind.BigInteger = refl
all_other kind.BigDecimal = refl
all_other kind.Timestamp = refl
all_other kind.Document = refl

other_under : (name : List ℕ) (fs : RelationFields) → are_other fs ≡ true → (r : Relation) → relation_under name fs ≡ Some r
    → is_other r ≡ true
other_under name [] all r h = absurd (none-some r h)
other_under name (f ∷ fs) all r h = by (pointwise nat_eq name f.0) h
    (other_under name fs (and_right (is_other f.1) (are_other fs) all) r)
  where
    by : (b : Bool) → (if b then Some f.1 else relation_under name fs) ≡ Some r → (relation_under name fs ≡ Some r → is_other r ≡ true)
        → is_other r ≡ true
    by true e later = subst (λ x. is_other x ≡ true) (same_Some f.1 r e) (and_left (is_other f.1) (are_other fs) all)
    by false e later = later e

no_member_said : (r : Relation) (s : ShapeEntry) (id : List ℕ) → SaysInBody r s id → r ≡ Member → ⊥
no_member_said r s id says is =
    apart (ap is_other (sym is) ∙ other_under says.0 (field_relations s.kind) (all_other s.kind) r says.3)

-- an id that the graph doesn't have
none_of : (g : GraphMaps) (id : List ℕ) → (IsInGraph g id → ⊥) → fin.get g.shapes id ≡ None
none_of g id not = by (fin.get g.shapes id) refl
  where
    by : (o : Option Entry) → fin.get g.shapes id ≡ o → o ≡ None
    by None is = refl
    by (Some e) is = absurd (not (e, is))

not_there : (g : GraphMaps) (id : List ℕ) → fin.get g.shapes id ≡ None → IsInGraph g id → ⊥
not_there g id none there = none-some there.0 (sym none ∙ there.1)

pub told_missing : (g : GraphMaps) (from id : List ℕ) → fin.get g.shapes id ≡ None → (a b : List ModelEvent)
    → Puts (λ e. e ≡ rule_event TargetMissing from id) a b → Puts (ToldMissing g from id) a b
told_missing g from id none a b h =
    puts_same (λ e. e ≡ rule_event TargetMissing from id) (ToldMissing g from id) a b (λ e. (λ is. (none, is), λ t. t.1)) h

pub nothing_missing : (g : GraphMaps) (from id : List ℕ) → IsInGraph g id → (es : List ModelEvent) → Puts (ToldMissing g from id) es es
nothing_missing g from id there es = puts_none (ToldMissing g from id) es (λ e t. not_there g id t.0 there)

-- what is told of a member
module _ (g : GraphMaps) (from : List ℕ) where
  abbrev pub AtMember : EventTold → Type 0
  AtMember e = IsEventAt TargetMissing (TargetsNothing g) from e

  target_is : (m : MemberEntry) → HasEntry g from (member_entry m) → (id : List ℕ) → target_under g from ≡ Some id → m.target ≡ id
  target_is m there id is = same_Some m.target id (sym (ap target_in there) ∙ is)

  pub target_put : is_prelude_id from ≡ false → (id : List ℕ) → target_under g from ≡ Some id → (a b : List ModelEvent)
      → Puts (ToldMissing g from id) a b → Puts AtMember a b
  target_put own id is a b h =
      puts_same (ToldMissing g from id) AtMember a b
      (λ e. (
        λ t. let m = target_from (fin.get g.shapes from) id is in (id, (m.0, (m.1, own), m.2, not_there g id t.0), t.1),
        λ t.
            let m = t.1 in
            let same : t.0 ≡ id = sym m.2 ∙ target_is m.0 m.1.0 id is in (
              subst (λ i. fin.get g.shapes i ≡ None) same (none_of g t.0 m.3),
              t.2 ∙ ap (rule_event TargetMissing from) same,
            ),
      )) h

  pub no_target : target_under g from ≡ None → (es : List ModelEvent) → Puts AtMember es es
  no_target none es = puts_none AtMember es (λ e t. none-some (t.1).0.target (sym none ∙ ap target_in (t.1).1.0))

-- all of them
module _ (g : GraphMaps) where
  abbrev pub ByBodies : EventTold → Type 0
  ByBodies e = ToldByBodies g (λ from relation. ToldMissing g from) e

  both_told : (e : EventTold) → (IsEventOf TargetMissing (TargetsNothing g) e ⊎ ByBodies e) ↔ IsEventOf TargetMissing (RefersToNothing g) e
  both_told e = (
    λ h. forth h,
    λ h. back h.0 h.1 h.2.refers.e h.2.refers.own h.2.refers.relation h.2.refers.other h.2.refers.says
        h.2.nothing h.3,
  )
    where
      forth : IsEventOf TargetMissing (TargetsNothing g) e ⊎ ByBodies e → IsEventOf TargetMissing (RefersToNothing g) e
      forth (inl (from, id, h, is)) = (
        from,
        id,
        record {
          refers = record {
            e = member_entry h.0;
            own = h.1;
            relation = Target;
            other = λ same. apart (sym (ap is_other same));
            says = (refl, h.2);
          };
          nothing = h.3;
        },
        is,
      )
      forth (inr (from, s, own, said)) = (
        from,
        said.1,
        record {
          refers = record {
            e = shape_entry s;
            own = own;
            relation = said.0;
            other = no_member_said said.0 s said.1 said.2;
            says = inr said.2;
          };
          nothing = not_there g said.1 said.3.0;
        },
        said.3.1,
      )

      back : (from id : List ℕ) (x : Entry) → IsOwn g from x → (r : Relation) → (r ≡ Member → ⊥) → SaysRelated r x id
          → (IsInGraph g id → ⊥) → e ≡ rule_event TargetMissing from id → IsEventOf TargetMissing (TargetsNothing g) e ⊎ ByBodies e
      back from id (member_entry m) own r other says nothing is = inl (from, id, (m, own, says.1, nothing), is)
      back from id (shape_entry s) own r other (inl member) nothing is = absurd (other member.0)
      back from id (shape_entry s) own r other (inr says) nothing is = inr (from, s, own, (r, id, says, (none_of g id nothing, is)))

  pub missing_put : (a b c : List ModelEvent) → Puts (IsEventOf TargetMissing (TargetsNothing g)) a b → Puts ByBodies b c
      → Puts (IsEventOf TargetMissing (RefersToNothing g)) a c
  missing_put a b c h k =
      puts_same (λ e. IsEventOf TargetMissing (TargetsNothing g) e ⊎ ByBodies e) (IsEventOf TargetMissing (RefersToNothing g)) a c both_told
      (puts_both (IsEventOf TargetMissing (TargetsNothing g)) ByBodies a b c h k)

-- what stands at a number is there
pub standing_there : (g : Graph) (s : ℕ) (id : List ℕ) → Stands g s id → IsInGraph (maps_of g) id
standing_there g s id at =
    let o = at_opened g s (λ found e. (found ≡ id) × (fin.get (maps_of g).shapes id ≡ Some e)) at in
    (o.entry, o.is.1)
