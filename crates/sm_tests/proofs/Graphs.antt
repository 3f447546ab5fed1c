-- What a graph is made from in the tests.
use Rattle.std.proofs.Common.{◌≡◌, ◌∷◌, [], List, codes, length, map, sym, ap, subst, arith, ⊎_elim}
use Rattle.std.proofs.lemmas.List.{length-map, length-append}
use Rattle.sm_tree.specs.Node.{no_members, object}
use Rattle.sm_model.specs.Formed.{DifferInNames, HaveForm}
use Rattle.sm_model.specs.Given.{AreGiven, AreGivenMembers, AreNodes, HasShapeBody, are_under, given_names}
use Rattle.sm_model.specs.Graphs.{MemberGiven, ShapeGiven, given_member}
use Rattle.sm_model.specs.Kinds.{member_form}
use Rattle.sm_tree.specs.Same.{IsNode}
use Rattle.sm_model.specs.References.{IsShapeId}
use Rattle.sm_model.specs.declared.kind.Kind.TheVariants.{Structure}

two_names : DifferInNames (codes "second" ∷ codes "first" ∷ [])
two_names = ((λ s. ⊎_elim (λ e. cc) (λ n. n) s), ((λ n. n), tt))

names_long : (ms : List MemberGiven) → given_names ms ≡ codes "second" ∷ codes "first" ∷ [] → length ms ≡ 2
names_long ms e = subst (λ n. n ≡ 2) (length-map ms (λ m. m.name)) (ap length e)

pub given_one : (s : ShapeGiven) → IsShapeId s.id → s.kind ≡ Structure → AreGivenMembers s.members
    → given_names s.members ≡ codes "second" ∷ codes "first" ∷ [] → s.properties ≡ object no_members → s.traits ≡ [] → AreGiven (s ∷ []) []
given_one s id kind members names body traits = record {
  each = (
    record {
      id = id;
      names = subst (λ k. HaveForm (member_form k) (given_names s.members)) (sym kind) (subst DifferInNames (sym names) two_names);
      members = members;
      body = subst (λ k. HasShapeBody k s.properties) (sym kind)
          (record { pairs = no_members; is_object = body; is_node = subst IsNode (sym body) (tt, tt); fields = tt; needed = tt });
      traits = record { differ = subst (λ ts. DifferInNames (are_under ts)) (sym traits) tt; nodes = subst AreNodes (sym traits) tt };
    },
    tt,
  );
  differ = ((λ e. e), tt);
  few = omega (
    arith,
    names_long s.members names,
    length-map s.members (given_member s.id),
    length-append (map (given_member s.id) s.members) [],
  );
  metadata_is = record { differ = tt; nodes = tt };
}
