-- What is said with absolute ids means itself, whatever shapes there are.
use Rattle.std.proofs.Common.{◌≡◌, ℕ, Bool, true, false, cond, List, [], ◌∷◌, ◌++◌}
use Rattle.std.proofs.Common.{Option, Some}
use Rattle.std.proofs.Common.{refl, sym, ap, subst, ◌∙◌}
use Rattle.std.specs.Prelude.{◌||◌, if◌then◌else◌}
use Rattle.std.specs.List.{list_any}
use Rattle.std.proofs.lemmas.List.Folds.{list_any-append}
use Rattle.sm_bytes.specs.Ascii.{number_sign}
use Rattle.sm_ids.specs.IdText.{IsIdText, member_text}
use Rattle.sm_tree.specs.Node.{Node, Nodes, Members, text, list, object, no_nodes, node}
use Rattle.sm_tree.specs.Node.{no_members, member}
use Rattle.sm_model.specs.Given.{AreIdNodes, AreNamedIds, IsIdNode, NodeHasForm}
use Rattle.sm_model.specs.Raw.{Raw, raw_of, raws_of, raw_members_of, raw_leaf, raw_list, raw_object}
use Rattle.sm_model.specs.declared.property.PropertyForm.{PropertyForm}
use Rattle.sm_model.specs.declared.property.PropertyForm.TheVariants.{Reference, References, NamedReferences, Text, Rename}
use Rattle.sm_merge.specs.Meaning.{Defined, is_absolute, meaning, member_part, members_meant, node_meant, nodes_meant}
use Rattle.sm_model.specs.Used.{is_byte}
use Rattle.sm_merge.specs.Meaning.{relative_meaning}
use Rattle.sm_model.specs.Used.{shape_part}
use Rattle.sm_merge.specs.Stated.{is_empty, traits_stated}
use Rattle.sm_merge.proofs.GraphSound.{IsNamedNode}
use Rattle.sm_merge.proofs.RestatedFiles.{meant_itself}
use Rattle.sm_model.proofs.MapFacts.{Each}
use Rattle.sm_idl.specs.Nodes.{Home, written}
use Rattle.sm_idl.specs.Written.{NodePairs}
use Rattle.sm_idl.specs.WrittenFile.{id_said, ids_said, leaves_said, list_said, named_ids_said, named_said}
use Rattle.sm_idl.specs.WrittenFile.{renamed_said, traits_said, value_said, value_there_said}
use Rattle.sm_merge.proofs.BodiesAgain.{SaysForms}

-- an id has a number sign
or_true : (b : Bool) → (b || true) ≡ true
or_true true = refl
or_true false = refl

pub id_absolute : (t : List ℕ) → IsIdText t → is_absolute t ≡ true
id_absolute t (id, is) =
    ap is_absolute is.spelled
    ∙ list_any-append (is_byte number_sign) id.namespace (number_sign ∷ (id.name ++ member_text id.member))
    ∙ or_true (list_any (is_byte number_sign) id.namespace)

module _ (defined : Defined) (home : Home) where
  pub written_meant : (t : List ℕ) (in_trait : Bool) → IsIdText t → meaning defined (written home t in_trait) ≡ t
  written_meant t in_trait is =
      ap (λ b. if b then t else relative_meaning defined (written home t in_trait) home.namespace (shape_part t) ++ member_part t)
      (id_absolute t is)

  -- traits
  pub traits_meant : (ts : NodePairs) → Each (IsNamedNode IsIdText) ts → traits_stated defined (traits_said home ts) ≡ ts
  traits_meant [] h = refl
  traits_meant (t ∷ ts) h =
      let id : meaning defined (written home t.0 true) ≡ t.0 = written_meant t.0 true h.0.0 in
      let value : node_meant defined (raw_of t.1) ≡ t.1 = meant_itself defined t.1 in
      let rest = traits_meant ts h.1 in
      λ i. (id i, value i) ∷ rest i

  -- the fields of bodies
  id_meant : (n : Node) → IsIdNode n → node_meant defined (id_said home n) ≡ n
  id_meant n (t, is, id) =
      ap (λ m. node_meant defined (id_said home m)) is ∙ ap (λ x. text x) (written_meant t false id) ∙ sym is

  ids_meant : (ns : Nodes) → AreIdNodes ns → nodes_meant defined (raws_of (ids_said home ns)) ≡ ns
  ids_meant no_nodes h = refl
  ids_meant (node n ns) h =
      let first = id_meant n h.0 in
      let rest = ids_meant ns h.1 in
      λ i. node (first i) (rest i)

  named_meant : (ms : Members) → AreNamedIds ms → members_meant defined (raw_members_of (named_ids_said home ms)) ≡ ms
  named_meant no_members h = refl
  named_meant (member k n ms) h =
      let first = id_meant n h.0 in
      let rest = named_meant ms h.1 in
      λ i. member k (first i) (rest i)

  leaves_meant : (ms : Members) → members_meant defined (raw_members_of (leaves_said ms)) ≡ ms
  leaves_meant no_members = refl
  leaves_meant (member k n ms) = ap (λ rest. member k n rest) (leaves_meant ms)

  abbrev Comes : Node → Option Raw → Type 0
  Comes n o = (r : Raw) × (o ≡ Some r) × (node_meant defined r ≡ n)

  no_empty : {A : Type 0} → true ≡ false → A
  no_empty e = absurd (subst (λ c. cond c (Unit {0}) ⊥) e tt)

  list_comes : (ns : Nodes) → AreIdNodes ns → is_empty (list ns) ≡ false → Comes (list ns) (list_said home (Some ns))
  list_comes no_nodes h full = no_empty full
  list_comes (node n ns) h full = (raw_list (raws_of (ids_said home (node n ns))), refl, ap list (ids_meant (node n ns) h))

  named_comes : (ms : Members) → AreNamedIds ms → is_empty (object ms) ≡ false → Comes (object ms) (named_said home (Some ms))
  named_comes no_members h full = no_empty full
  named_comes (member k n ms) h full =
      (raw_object (raw_members_of (named_ids_said home (member k n ms))), refl, ap object (named_meant (member k n ms) h))

  renamed_comes : (ms : Members) → is_empty (object ms) ≡ false → Comes (object ms) (renamed_said (Some ms))
  renamed_comes no_members full = no_empty full
  renamed_comes (member k n ms) full =
      (raw_object (raw_members_of (leaves_said (member k n ms))), refl, ap object (leaves_meant (member k n ms)))

  form_comes : (form : PropertyForm) (n : Node) → NodeHasForm form n → is_empty n ≡ false → Comes n (value_said home form n)
  form_comes Reference n h full = (id_said home n, refl, id_meant n h)
  form_comes References n (ns, is, each) full =
      subst (λ m. Comes m (value_said home References m)) (sym is) (list_comes ns each (sym (ap is_empty is) ∙ full))
  form_comes NamedReferences n (ms, is, each) full =
      subst (λ m. Comes m (value_said home NamedReferences m)) (sym is) (named_comes ms each (sym (ap is_empty is) ∙ full))
  form_comes Text n h full = (raw_leaf n, refl, refl)
  form_comes Rename n (ms, is, each) full =
      subst (λ m. Comes m (value_said home Rename m)) (sym is) (renamed_comes ms (sym (ap is_empty is) ∙ full))

  pub says_forms : SaysForms defined (value_there_said home)
  says_forms = record {
    none = λ form. refl;
    some = λ form n h full. form_comes form n h full;
  }
