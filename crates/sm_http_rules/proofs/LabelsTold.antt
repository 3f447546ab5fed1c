-- What is told of the labels of a pattern by rows is what the rule says.
use Rattle.std.proofs.lemmas.Option.{none-some, same_Some}
use Rattle.std.proofs.Common.{◌≡◌, ◌⊎◌, inl, inr, ℕ, Bool, true, false, List, Option, Some, None, refl, sym, ap, ◌∙◌, subst}
use Rattle.std.specs.Prelude.{◌&&◌, ◌||◌, codes, is_none, is_some, not}
use Rattle.std.specs.FinMap as fin
use Rattle.std.specs.FinMap.Entries.{find}
use Rattle.std.specs.List.{Contains}
use Rattle.sm_model.specs.EventView.{EventTold}
use Rattle.sm_model.specs.Graphs.{member_entry, MemberEntry, GraphMaps, member_id, text_cmp}
use Rattle.sm_model.specs.GraphView.{IsShapeNumber, maps_of}
use Rattle.sm_model.specs.Reaching.{id_of_number}
use Rattle.sm_model.specs.declared.event.ModelEvent.{ModelEvent}
use Rattle.sm_model.specs.declared.graph.Graph.{Graph}
use Rattle.sm_model.specs.Links.{AreLinks, IsLinked}
use Rattle.sm_model.specs.Relations.{IsRelated}
use Rattle.sm_model.specs.declared.link.Link.{Link}
use Rattle.sm_model.specs.declared.relation.Relation.{Relation}
use Rattle.sm_model.specs.declared.relation.Relation.TheVariants.{Input}
use Rattle.sm_model.proofs.NumberedIds.{number_of}
use Rattle.sm_model.proofs.Searching.{and_left, and_right}
use Rattle.sm_model.proofs.Worklist.{apart}
use Rattle.sm_compile.specs.Looked.{listed_in, listed_under}
use Rattle.sm_compile.specs.Sound.{trait_in}
use Rattle.sm_compile.specs.TraitIds.{http_label_id, required_id}
use Rattle.sm_uri.specs.UriPattern.{IsUriText, UriSaid, UriText}
use Rattle.sm_uri.proofs.UriOnce.{one_uri}
use Rattle.sm_uri.specs.declared.pattern.Segment.{Segment}
use Rattle.sm_rules.specs.Bindings.{is_string, passes, target_passes, targets}
use Rattle.sm_rules.specs.Http.{HasUri, HasWrongLabel, IsLabelled, TakesLabels, greedy_target, no_label, no_member, not_required}
use Rattle.sm_rules.specs.Words.{has_trait}
use Rattle.sm_rules.specs.RuleEvents.{IsEventOf, Puts, rule_event}
use Rattle.sm_rules.specs.declared.rule.Rule.TheVariants.{HttpLabels}
use Rattle.sm_http_traits.specs.Http.{uri_seen}
use Rattle.sm_http_traits.proofs.HttpSaid.{said_seen, seen_said}
use Rattle.sm_passes.specs.Carrying.{carries}
use Rattle.sm_passes.specs.Owned.{is_member_in}
use Rattle.sm_http_rules.specs.steps.Labels.{AreBoundOf, IsWrongLabel, ToldByLink, ToldByRows, ToldLabels, ToldOfUri, free, is_bound}
use Rattle.sm_http_rules.specs.steps.Labels.{is_wrong_member, other_shape, is_input, rows_of_labels, unbound, unnamed}
use Rattle.sm_passes.specs.Putting.{ToldOf}
use Rattle.sm_passes.proofs.EventsPut.{puts_none, puts_same}
use Rattle.sm_http_rules.proofs.HttpUris.{field_text}
use Rattle.sm_http_rules.proofs.LabelRows.{is_greedy_row, is_label_row, none_found, row_is_greedy, row_is_label, some_found}
use Rattle.sm_passes.proofs.OwnShapes.{member_in, not_so, own_told, told_own}

either : (b : Bool) → (b ≡ true) ⊎ (b ≡ false)
either true = inl refl
either false = inr refl

or_true : (b : Bool) → (b || true) ≡ true
or_true true = refl
or_true false = refl

some_not_none : {X : Type 0} (o : Option X) → is_some o ≡ not (is_none o)
some_not_none None = refl
some_not_none (Some x) = refl

module _ (g : Graph) (input : ℕ) (rows : List (List ℕ × ℕ)) (are : AreBoundOf g input rows) where
  -- a row is that of a member that is bound to a label of its name, and such a member has a row
  row_bound : (name : List ℕ) (k : ℕ) → Contains rows (name, k)
      → (m : MemberEntry) × IsLabelled (maps_of g) (id_of_number g input) name m
      × (id_of_number g k ≡ member_id (id_of_number g input) name)
      × (fin.get (maps_of g).shapes (id_of_number g k) ≡ Some (member_entry m))
  row_bound name k c =
      let h = (are (name, k)).0 c in
      let row = h.3 in
      let s = own_told (maps_of g) (id_of_number g input) h.0 in
      let o = fin.get (maps_of g).shapes (id_of_number g k) in
      let m = member_in o (and_left (is_member_in o) _ row.1) in
      let carried = and_right (is_member_in o) _ row.1 in (
        m.0,
        record {
          s = s.0;
          member = record {
            home = s.1;
            among = subst (Contains s.0.members) row.2 (subst (λ ids. Contains ids (id_of_number g k)) (ap listed_in s.1.0) h.1);
            there = ap (fin.get (maps_of g).shapes) (sym row.2) ∙ m.1;
          };
          bound = ap (λ x. is_some (trait_in http_label_id x)) (sym m.1) ∙ carried;
        },
        row.2,
        m.1,
      )

  bound_row : (name : List ℕ) (m : MemberEntry) → IsLabelled (maps_of g) (id_of_number g input) name m
      → (k : ℕ) × Contains rows (name, k) × (id_of_number g k ≡ member_id (id_of_number g input) name)
  bound_row name m h =
      let of = h.member in
      let n = number_of g (member_id (id_of_number g input) name) (member_entry m, of.there) in
      let has : fin.get (maps_of g).shapes (id_of_number g n.0) ≡ Some (member_entry m) =
      ap (fin.get (maps_of g).shapes) n.2 ∙ of.there in
      let bound : is_bound (maps_of g) (id_of_number g n.0) ≡ true =
      ap (λ x. is_member_in x && is_some (trait_in http_label_id x)) has ∙ h.bound in
      let among : Contains (listed_under (maps_of g) (id_of_number g input)) (id_of_number g n.0) =
      subst (Contains (listed_under (maps_of g) (id_of_number g input))) (sym n.2)
      (subst (λ ids. Contains ids (member_id (id_of_number g input) name)) (sym (ap listed_in of.home.0)) of.among) in
      (n.0, (are (name, n.0)).1 (told_own (maps_of g) (id_of_number g input) h.s of.home, among, n.1, (refl, bound, n.2)), n.2)

  at_row : (name : List ℕ) (m : MemberEntry) → IsLabelled (maps_of g) (id_of_number g input) name m → (k : ℕ)
      → id_of_number g k ≡ member_id (id_of_number g input) name → fin.get (maps_of g).shapes (id_of_number g k) ≡ Some (member_entry m)
  at_row name m h k is = ap (fin.get (maps_of g).shapes) is ∙ h.member.there

  -- what is asked of a member, in the words of the definition
  required_same : (id : List ℕ) (m : MemberEntry) → fin.get (maps_of g).shapes id ≡ Some (member_entry m)
      → carries (maps_of g) required_id id ≡ has_trait required_id m.traits
  required_same id m has = ap (λ x. is_some (trait_in required_id x)) has

  string_same : (id : List ℕ) (m : MemberEntry) → fin.get (maps_of g).shapes id ≡ Some (member_entry m)
      → targets (passes is_string) (maps_of g) id ≡ passes is_string (fin.get (maps_of g).shapes m.target)
  string_same id m has = ap (target_passes (passes is_string) (maps_of g)) has

  module _ (segments : List Segment) (operation : List ℕ) where
    abbrev AnyTold : EventTold → Type 0
    AnyTold e = ToldByRows g operation (rows_of_labels false segments) (rows_of_labels true segments) rows e

    label_forth : (r : List ℕ × ℕ) → Contains (rows_of_labels false segments) r → is_none (find text_cmp r.0 rows) ≡ true
        → IsWrongLabel (maps_of g) (id_of_number g input) segments r.0
    label_forth r c none =
        unbound (row_is_label segments r.0 r.1 c)
        (λ has. let b = bound_row r.0 has.0 has.1 in none_found r.0 rows none b.0 b.1)

    member_forth : (r : List ℕ × ℕ) → Contains rows r
        → is_wrong_member (maps_of g) (id_of_number g r.1) (find text_cmp r.0 (rows_of_labels false segments))
        (find text_cmp r.0 (rows_of_labels true segments)) ≡ true
        → IsWrongLabel (maps_of g) (id_of_number g input) segments r.0
    member_forth r c wrong =
        by (is_none (find text_cmp r.0 (rows_of_labels false segments))) (carries (maps_of g) required_id (id_of_number g r.1))
        (is_some (find text_cmp r.0 (rows_of_labels true segments)))
        (targets (passes is_string) (maps_of g) (id_of_number g r.1)) refl refl refl refl wrong
      where
        by : (a b d e : Bool) → is_none (find text_cmp r.0 (rows_of_labels false segments)) ≡ a
            → carries (maps_of g) required_id (id_of_number g r.1) ≡ b → is_some (find text_cmp r.0 (rows_of_labels true segments)) ≡ d
            → targets (passes is_string) (maps_of g) (id_of_number g r.1) ≡ e → (a || (not b || (d && not e))) ≡ true
            → IsWrongLabel (maps_of g) (id_of_number g input) segments r.0
        by true b d e ia ib id ie h =
            let x = row_bound r.0 r.1 c in
            unnamed (x.0, x.1) (λ named. none_found r.0 (rows_of_labels false segments) ia 0 (is_label_row segments r.0 named))
        by false false d e ia ib id ie h =
            let x = row_bound r.0 r.1 c in
            free x.0 x.1 (sym (required_same (id_of_number g r.1) x.0 x.3) ∙ ib)
        by false true true false ia ib id ie h =
            let x = row_bound r.0 r.1 c in
            let f = some_found r.0 (rows_of_labels true segments)
            (not_so (is_none (find text_cmp r.0 (rows_of_labels true segments)))
            (sym (some_not_none (find text_cmp r.0 (rows_of_labels true segments))) ∙ id)) in
            other_shape x.0 x.1 (row_is_greedy segments r.0 f.0 f.1) (sym (string_same (id_of_number g r.1) x.0 x.3) ∙ ie)
        by false true true true ia ib id ie h = absurd (apart h)
        by false true false e ia ib id ie h = absurd (apart h)

    told_forth : (e : EventTold) → AnyTold e → ToldOfUri (maps_of g) operation (id_of_number g input) segments e
    told_forth e (inl h) = let r = h.0 in (r.0, label_forth r h.1 h.2.0, h.2.1)
    told_forth e (inr h) = let r = h.0 in (r.0, member_forth r h.1 h.2.0, h.2.1)

    -- a member's row is told
    member_told : (name : List ℕ) (e : EventTold) → e ≡ rule_event HttpLabels operation name → (k : ℕ) → Contains rows (name, k)
        → is_wrong_member (maps_of g) (id_of_number g k) (find text_cmp name (rows_of_labels false segments))
        (find text_cmp name (rows_of_labels true segments)) ≡ true → AnyTold e
    member_told name e is k c wrong = inr ((name, k), c, (wrong, is))

    told_back : (e : EventTold) → ToldOfUri (maps_of g) operation (id_of_number g input) segments e → AnyTold e
    told_back e (name, unbound among none, is) =
        inl (
          (name, 0),
          is_label_row segments name among,
          (
            elim (either (is_none (find text_cmp name rows))) [
              | inl none_there ↦ none_there
              | inr some_there ↦ let f = some_found name rows some_there in let x = row_bound name f.0 f.1 in absurd (none (x.0, x.1))
            ],
            is,
          ),
        )
    told_back e (name, unnamed has none, is) =
        let b = bound_row name has.0 has.1 in
        let missing : is_none (find text_cmp name (rows_of_labels false segments)) ≡ true =
        elim (either (is_none (find text_cmp name (rows_of_labels false segments)))) [
          | inl none_there ↦ none_there
          | inr some_there ↦ let f = some_found name (rows_of_labels false segments) some_there in absurd
              (none (row_is_label segments name f.0 f.1))
        ] in
        member_told name e is b.0 b.1 (ap (λ x. x || (not (carries (maps_of g) required_id (id_of_number g b.0))
        || (is_some (find text_cmp name (rows_of_labels true segments)) && not
        (targets (passes is_string) (maps_of g) (id_of_number g b.0))))) missing)
    told_back e (name, free m has other, is) =
        let b = bound_row name m has in
        let here = at_row name m has b.0 b.2 in
        let optional : carries (maps_of g) required_id (id_of_number g b.0) ≡ false = required_same (id_of_number g b.0) m here ∙ other in
        member_told name e is b.0 b.1
        (ap (λ x. is_none (find text_cmp name (rows_of_labels false segments)) || (not x
        || (is_some (find text_cmp name (rows_of_labels true segments)) && not
        (targets (passes is_string) (maps_of g) (id_of_number g b.0))))) optional
        ∙ or_true (is_none (find text_cmp name (rows_of_labels false segments))))
    told_back e (name, other_shape m has among wrong, is) =
        let b = bound_row name m has in
        let here = at_row name m has b.0 b.2 in
        let found : is_some (find text_cmp name (rows_of_labels true segments)) ≡ true =
        some_not_none (find text_cmp name (rows_of_labels true segments))
        ∙ elim (either (is_none (find text_cmp name (rows_of_labels true segments)))) [
          | inl none_there ↦ absurd (none_found name (rows_of_labels true segments) none_there 0 (is_greedy_row segments name among))
          | inr some_there ↦ ap not some_there
        ] in
        let other : targets (passes is_string) (maps_of g) (id_of_number g b.0) ≡ false = string_same (id_of_number g b.0) m here ∙ wrong in
        member_told name e is b.0 b.1
        ((λ i. is_none (find text_cmp name (rows_of_labels false segments)) || (not (carries (maps_of g) required_id (id_of_number g b.0))
        || (found i && not (other i))))
        ∙ ap (λ x. is_none (find text_cmp name (rows_of_labels false segments)) || x) (or_true _)
        ∙ or_true (is_none (find text_cmp name (rows_of_labels false segments))))

    -- rows that are these
    pub labels_put : (labels greedy bound : List (List ℕ × ℕ)) → labels ≡ rows_of_labels false segments
        → greedy ≡ rows_of_labels true segments → bound ≡ rows → (a b : List ModelEvent)
        → Puts (ToldByRows g operation labels greedy bound) a b → Puts (ToldOfUri (maps_of g) operation (id_of_number g input) segments) a b
    labels_put labels greedy bound all some members a b h =
        puts_same AnyTold (ToldOfUri (maps_of g) operation (id_of_number g input) segments) a b (λ e. (told_forth e, told_back e))
        (subst (λ x. Puts (ToldByRows g operation (rows_of_labels false segments) (rows_of_labels true segments) x) a b) members
        (subst (λ x. Puts (ToldByRows g operation (rows_of_labels false segments) x bound) a b) some
        (subst (λ x. Puts (ToldByRows g operation x greedy bound) a b) all h)))

-- by links: each operation with each of its inputs
module _ (g : Graph) (links : List Link) (are : AreLinks g links) where
  takes : (l : Link) → Contains links l → l.relation ≡ Input → (u : UriSaid) → HasUri (maps_of g) (id_of_number g l.from) u
      → TakesLabels (maps_of g) (id_of_number g l.from) u (id_of_number g l.to)
  takes l c is u uri = record {
    uri = uri;
    input_of = subst (λ r. IsRelated r (maps_of g) (id_of_number g l.from) (id_of_number g l.to)) is ((are l).0 c).related;
  }

  links_forth : (e : EventTold) → ToldOf (ToldByLink g) links e → IsEventOf HttpLabels (HasWrongLabel (maps_of g)) e
  links_forth e (l, c, (relation, (u, uri, (name, wrong, is)))) = (id_of_number g l.from, name, by wrong, is)
    where
      t : TakesLabels (maps_of g) (id_of_number g l.from) u (id_of_number g l.to)
      t = takes l c relation u uri

      by : IsWrongLabel (maps_of g) (id_of_number g l.to) u.segments name → HasWrongLabel (maps_of g) (id_of_number g l.from) name
      by (unbound among none) = no_member u (id_of_number g l.to) t among none
      by (unnamed has none) = no_label u (id_of_number g l.to) t has none
      by (free m has other) = not_required u (id_of_number g l.to) t m has other
      by (other_shape m has among other) = greedy_target u (id_of_number g l.to) t m has among other

  told_at : (operation input name : List ℕ) (u : UriSaid) → TakesLabels (maps_of g) operation u input
      → IsWrongLabel (maps_of g) input u.segments name → (e : EventTold) → e ≡ rule_event HttpLabels operation name
      → ToldOf (ToldByLink g) links e
  told_at operation input name u t wrong e is =
      let from = number_of g operation (t.input_of.0, t.input_of.1) in
      let to = number_of g input t.input_of.3 in
      let l : Link = record { relation = Input; from = from.0; to = to.0 } in
      let linked : IsLinked g l = record {
        from = from.1;
        to = to.1;
        related = subst (λ a. IsRelated Input (maps_of g) a (id_of_number g to.0)) (sym from.2)
            (subst (IsRelated Input (maps_of g) operation) (sym to.2) t.input_of);
      } in
      let told : ToldLabels (maps_of g) (id_of_number g from.0) (id_of_number g to.0) e =
      subst (λ a. ToldLabels (maps_of g) a (id_of_number g to.0) e) (sym from.2)
      (subst (λ b. ToldLabels (maps_of g) operation b e) (sym to.2) (u, t.uri, (name, wrong, is))) in
      (l, (are l).1 linked, (refl, told))

  links_back : (e : EventTold) → IsEventOf HttpLabels (HasWrongLabel (maps_of g)) e → ToldOf (ToldByLink g) links e
  links_back e (operation, name, no_member u input t among none, is) = told_at operation input name u t (unbound among none) e is
  links_back e (operation, name, no_label u input t has none, is) = told_at operation input name u t (unnamed has none) e is
  links_back e (operation, name, not_required u input t m has other, is) = told_at operation input name u t (free m has other) e is
  links_back e (operation, name, greedy_target u input t m has among other, is) =
      told_at operation input name u t (other_shape m has among other) e is

  pub links_put : (a b : List ModelEvent) → Puts (ToldOf (ToldByLink g) links) a b
      → Puts (IsEventOf HttpLabels (HasWrongLabel (maps_of g))) a b
  links_put a b h =
      puts_same (ToldOf (ToldByLink g) links) (IsEventOf HttpLabels (HasWrongLabel (maps_of g))) a b (λ e. (links_forth e, links_back e)) h

-- of an operation whose `uri` is a pattern, or isn't
module _ (g : GraphMaps) (operation input : List ℕ) where
  pub pattern_put : (t : List ℕ) → Some t ≡ uri_seen g operation → (u : UriSaid) → UriText u t → (a b : List ModelEvent)
      → Puts (ToldOfUri g operation input u.segments) a b → Puts (ToldLabels g operation input) a b
  pattern_put t is u spells a b h =
      let said = seen_said g operation (field_text (codes "uri")) refl t (sym is) in
      let uri : HasUri g operation u = record { is_operation = said.0; t = t; said = said.1; spells = spells } in
      puts_same (ToldOfUri g operation input u.segments) (ToldLabels g operation input) a b
      (λ e. (λ x. (u, uri, x), λ x. back x.0 x.1 e x.2)) h
    where
      back : (v : UriSaid) → HasUri g operation v → (e : EventTold) → ToldOfUri g operation input v.segments e
          → ToldOfUri g operation input u.segments e
      back v uri e told =
          let seen = said_seen g operation (field_text (codes "uri")) refl uri.t uri.is_operation uri.said in
          let same : t ≡ uri.t = same_Some t uri.t (is ∙ seen) in
          let one : v ≡ u = one_uri v u t (subst (UriText v) (sym same) uri.spells) spells in
          subst (λ (w : UriSaid). ToldOfUri g operation input w.segments e) one told

  pub no_pattern : (t : List ℕ) → Some t ≡ uri_seen g operation → (IsUriText t → ⊥) → (es : List ModelEvent)
      → Puts (ToldLabels g operation input) es es
  no_pattern t is none es =
      puts_none (ToldLabels g operation input) es
      (λ e h.
      let uri = h.1 in
      let seen = said_seen g operation (field_text (codes "uri")) refl uri.t uri.is_operation uri.said in
      none (h.0, subst (UriText h.0) (sym (same_Some t uri.t (is ∙ seen))) uri.spells))

  pub no_text : None ≡ uri_seen g operation → (es : List ModelEvent) → Puts (ToldLabels g operation input) es es
  no_text is es =
      puts_none (ToldLabels g operation input) es
      (λ e h. none-some h.1.t (is ∙ said_seen g operation (field_text (codes "uri")) refl h.1.t h.1.is_operation h.1.said))

-- rows have numbers of the graph
pub row_numbers : (g : Graph) (input : ℕ) (rows : List (List ℕ × ℕ)) → AreBoundOf g input rows → (r : List ℕ × ℕ) → Contains rows r
    → IsShapeNumber g r.1
row_numbers g input rows are r c = ((are r).0 c).2

-- by a link
input_is : (r : Relation) → is_input r ≡ true → r ≡ Input
input_is Input h = refl
input_is r h = absurd (apart h)

pub input_put : (g : Graph) (l : Link) → is_input l.relation ≡ true → (a b : List ModelEvent)
    → Puts (ToldLabels (maps_of g) (id_of_number g l.from) (id_of_number g l.to)) a b → Puts (ToldByLink g l) a b
input_put g l is a b h =
    puts_same (ToldLabels (maps_of g) (id_of_number g l.from) (id_of_number g l.to)) (ToldByLink g l) a b
    (λ e. (λ x. (input_is l.relation is, x), λ x. x.1)) h

pub no_input : (g : Graph) (l : Link) → is_input l.relation ≡ false → (es : List ModelEvent) → Puts (ToldByLink g l) es es
no_input g l other es = puts_none (ToldByLink g l) es (λ e h. apart (sym other ∙ ap is_input h.0))
