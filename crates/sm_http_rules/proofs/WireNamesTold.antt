-- What is told of the names of a shape's members is what the rule says.
use Rattle.std.proofs.Common.{◌≡◌, ◌⊎◌, inl, inr, ℕ, Bool, true, false, List, [], ◌∷◌, ◌++◌, Option, Some, None, get_or, map, refl, sym, ap}
use Rattle.std.proofs.Common.{◌∙◌, subst}
use Rattle.std.specs.Prelude.{◌↔◌, ◌||◌}
use Rattle.std.specs.FinMap as fin
use Rattle.std.specs.List.{Contains, cons_option, filter_map}
use Rattle.std.specs.Str.{bytes_eq, str_eq_ignore_ascii_case}
use Rattle.std.proofs.lemmas.Option.{none-some, same_Some}
use Rattle.sm_model.specs.EventView.{EventTold}
use Rattle.sm_model.specs.Graphs.{Entry, shape_entry, GraphMaps, ShapeEntry}
use Rattle.sm_model.specs.GraphView.{IsShapeNumber, maps_of}
use Rattle.sm_model.specs.Reaching.{id_of_number}
use Rattle.sm_model.specs.declared.event.ModelEvent.{ModelEvent}
use Rattle.sm_model.specs.declared.graph.Graph.{Graph}
use Rattle.sm_model.specs.declared.kind.Kind.{Kind}
use Rattle.sm_model.specs.declared.kind.Kind.TheVariants.{Structure, Union}
use Rattle.sm_model.proofs.OneRising.{contains_behind, contains_either, contains_head, contains_none}
use Rattle.sm_model.proofs.Worklist.{apart}
use Rattle.sm_compile.specs.Looked.{kind_in, kind_under, listed_in, listed_under}
use Rattle.sm_rules.specs.Bindings.{BoundSide, an_input, an_output, an_error, IsBound}
use Rattle.sm_rules.specs.WireNames.{BeginsWithPrefix, HasWireNameAgain, IsNamedAgain, has_prefix, header_again, header_name, header_prefix}
use Rattle.sm_rules.specs.WireNames.{json_again, name_in_json, query_again, query_name}
use Rattle.sm_rules.specs.Words.{IsOwnShape}
use Rattle.sm_compile.proofs.TabledShapes.{mapped_from, mapped_to}
use Rattle.sm_rules.specs.RuleEvents.{IsEventIn, Puts, rule_event}
use Rattle.sm_rules.specs.declared.rule.Rule.TheVariants.{WireNames}
use Rattle.sm_passes.specs.Folded.{folded}
use Rattle.sm_passes.specs.Owned.{is_own_shape}
use Rattle.sm_passes.specs.Putting.{ToldOf}
use Rattle.sm_passes.proofs.EventsPut.{puts_both, puts_none, puts_same}
use Rattle.sm_passes.proofs.OwnShapes.{own_told, told_own}
use Rattle.sm_http_rules.specs.declared.naming.Naming.TheVariants.{Header, Query, Json}
use Rattle.sm_http_rules.specs.declared.sides.Sides.{Sides}
use Rattle.sm_http_rules.specs.steps.Naming.{ToldAgain}
use Rattle.sm_http_rules.specs.Sides.{AreSides}
use Rattle.sm_http_rules.specs.steps.WireNames.{BeginsWith, BeginsWithOne, IsHeader, ToldBegun, ToldHeaders, ToldJson, ToldNames}
use Rattle.sm_http_rules.specs.steps.WireNames.{ToldPrefixed, ToldQueries, home_of, is_named, is_on_side, prefix_in, prefix_of, prefixes_of}
use Rattle.sm_http_rules.proofs.Splits.{IsThere}

-- a text begins with one of what is kept of a list
module _ {X : Type 0} (h : X → Option (List ℕ)) (text : List ℕ) where
  begun_from : (xs : List X) → BeginsWithOne text (filter_map h xs)
      → (x : X) × Contains xs x × (p : List ℕ) × (h x ≡ Some p) × BeginsWith text p
  begun_from [] b = absurd b
  begun_from (x ∷ xs) b = by (h x) refl b (begun_from xs)
    where
      by : (o : Option (List ℕ)) → h x ≡ o → BeginsWithOne text (cons_option o (filter_map h xs))
          → (BeginsWithOne text (filter_map h xs) → (y : X) × Contains xs y × (p : List ℕ) × (h y ≡ Some p) × BeginsWith text p)
          → (y : X) × Contains (x ∷ xs) y × (p : List ℕ) × (h y ≡ Some p) × BeginsWith text p
      by None is b rest = let r = rest b in (r.0, contains_behind x r.0 xs r.1, r.2, r.3, r.4)
      by (Some p) is (inl here) rest = (x, contains_head x xs, p, is, here)
      by (Some p) is (inr more) rest = let r = rest more in (r.0, contains_behind x r.0 xs r.1, r.2, r.3, r.4)

  begun_to : (xs : List X) (x : X) → Contains xs x → (p : List ℕ) → h x ≡ Some p → BeginsWith text p → BeginsWithOne text (filter_map h xs)
  begun_to [] x c p is b = absurd (contains_none x c)
  begun_to (y ∷ xs) x c p is b = by (h y) refl (contains_either y x xs c) (λ more. begun_to xs x more p is b)
    where
      by : (o : Option (List ℕ)) → h y ≡ o → (y ≡ x) ⊎ Contains xs x → (Contains xs x → BeginsWithOne text (filter_map h xs))
          → BeginsWithOne text (cons_option o (filter_map h xs))
      by None other (inl same) rest = absurd (none-some p (sym other ∙ ap h same ∙ is))
      by None other (inr more) rest = rest more
      by (Some q) other (inl same) rest =
          inl (subst (BeginsWith text) (same_Some p q (sym is ∙ ap h (sym same) ∙ other)) b)
      by (Some q) other (inr more) rest = inr (rest more)

-- prefixes
prefix_read : (o : Option (List ℕ)) (p : List ℕ) → prefix_in o ≡ Some p
    → (prefix : List ℕ) × (o ≡ Some prefix) × (prefix ≡ [] → ⊥) × (p ≡ folded prefix)
prefix_read None p h = absurd (none-some p h)
prefix_read (Some []) p h = absurd (none-some p h)
prefix_read (Some (c ∷ cs)) p h = (c ∷ cs, refl, some c cs, sym (same_Some (folded (c ∷ cs)) p h))
  where
    some : (c : ℕ) (cs : List ℕ) → c ∷ cs ≡ [] → ⊥
    some c cs is = subst IsThere is tt

read_prefix : (prefix : List ℕ) → (prefix ≡ [] → ⊥) → prefix_in (Some prefix) ≡ Some (folded prefix)
read_prefix [] some = absurd (some refl)
read_prefix (c ∷ cs) some = refl

module _ (g : Graph) (shape : ℕ) (own : is_own_shape (maps_of g) (id_of_number g shape) ≡ true) (ks : List ℕ)
    (listed : map (id_of_number g) ks ≡ listed_under (maps_of g) (id_of_number g shape)) where
  abbrev Begun : EventTold → Type 0
  Begun e = ToldOf (ToldBegun g (prefixes_of g ks)) ks e

  among : (s : ShapeEntry) → IsOwnShape (maps_of g) (id_of_number g shape) s → (k : ℕ) → Contains ks k
      → Contains s.members (id_of_number g k)
  among s is k c =
      subst (λ ids. Contains ids (id_of_number g k)) (listed ∙ ap listed_in is.0) (mapped_to (id_of_number g) ks k c)

  from_among : (s : ShapeEntry) → IsOwnShape (maps_of g) (id_of_number g shape) s → (id : List ℕ) → Contains s.members id
      → (k : ℕ) × Contains ks k × (id_of_number g k ≡ id)
  from_among s is id c = mapped_from (id_of_number g) ks id (subst (λ ids. Contains ids id) (sym (listed ∙ ap listed_in is.0)) c)

  begun_forth : (e : EventTold) → Begun e → ToldPrefixed (maps_of g) (id_of_number g shape) e
  begun_forth e (k, c, (header, said, (begins, told))) =
      let s = own_told (maps_of g) (id_of_number g shape) own in
      let b = begun_from (λ j. prefix_of (maps_of g) (id_of_number g j)) (folded header) ks begins in
      let p = prefix_read (header_prefix (maps_of g) (id_of_number g b.0)) b.2 b.3 in (
        id_of_number g k,
        header,
        s.0,
        record {
          home = s.1;
          among = among s.0 s.1 k c;
          is = said;
          other = id_of_number g b.0;
          other_among = among s.0 s.1 b.0 b.1;
          prefix = p.0;
          has_prefix = p.1;
          some = p.2;
          more = b.4.0;
          begins = b.4.1 ∙ ap (λ q. q ++ b.4.0) p.3;
        },
        told,
      )

  begun_back : (e : EventTold) → ToldPrefixed (maps_of g) (id_of_number g shape) e → Begun e
  begun_back e (id, header, s, h, told) =
      let k = from_among s h.home id h.among in
      let j = from_among s h.home h.other h.other_among in
      let here : prefix_of (maps_of g) (id_of_number g j.0) ≡ Some (folded h.prefix) =
      ap (prefix_of (maps_of g)) j.2 ∙ ap prefix_in h.has_prefix ∙ read_prefix h.prefix h.some in (
        k.0,
        k.1,
        (
          header,
          ap (header_name (maps_of g)) k.2 ∙ h.is,
          (
            begun_to (λ i. prefix_of (maps_of g) (id_of_number g i)) (folded header) ks j.0 j.1 (folded h.prefix) here (h.more, h.begins),
            told ∙ ap (λ x. rule_event WireNames x header) (sym k.2),
          ),
        ),
      )

  pub prefixed_put : (a b : List ModelEvent) → Puts Begun a b → Puts (ToldPrefixed (maps_of g) (id_of_number g shape)) a b
  prefixed_put a b h = puts_same Begun (ToldPrefixed (maps_of g) (id_of_number g shape)) a b (λ e. (begun_forth e, begun_back e)) h

-- on some side
module _ (g : Graph) (sides : Sides) (are : AreSides g sides) where
  pub side_told : (k : ℕ) → is_on_side sides k ≡ true → (side : BoundSide) × IsBound (maps_of g) side (id_of_number g k)
  side_told k h = by (get_or sides.inputs.items k false) (get_or sides.outputs.items k false) refl refl h
    where
      by : (a b : Bool) → get_or sides.inputs.items k false ≡ a → get_or sides.outputs.items k false ≡ b
          → (a || (b || get_or sides.errors.items k false)) ≡ true → (side : BoundSide) × IsBound (maps_of g) side (id_of_number g k)
      by true b ia ib h = (an_input, ((are.are_inputs.marked k).0 ia).1)
      by false true ia ib h = (an_output, ((are.are_outputs.marked k).0 ib).1)
      by false false ia ib h = (an_error, ((are.are_errors.marked k).0 h).1)

  told_side : (k : ℕ) → IsShapeNumber g k → (side : BoundSide) → IsBound (maps_of g) side (id_of_number g k) → is_on_side sides k ≡ true
  told_side k small an_input h =
      ap (λ b. b || (get_or sides.outputs.items k false || get_or sides.errors.items k false)) ((are.are_inputs.marked k).1 (small, h))
  told_side k small an_output h =
      ap (λ b. get_or sides.inputs.items k false || (b || get_or sides.errors.items k false)) ((are.are_outputs.marked k).1 (small, h))
      ∙ or_true (get_or sides.inputs.items k false)
    where
      or_true : (b : Bool) → (b || true) ≡ true
      or_true true = refl
      or_true false = refl
  told_side k small an_error h =
      ap (λ b. get_or sides.inputs.items k false || (get_or sides.outputs.items k false || b)) ((are.are_errors.marked k).1 (small, h))
      ∙ two (get_or sides.inputs.items k false) (get_or sides.outputs.items k false)
    where
      two : (a b : Bool) → (a || (b || true)) ≡ true
      two true b = refl
      two false true = refl
      two false false = refl

  pub headers_put : (k : ℕ) → is_on_side sides k ≡ true → (a b c : List ModelEvent)
      → Puts (ToldAgain Header (maps_of g) (id_of_number g k)) a b → Puts (ToldPrefixed (maps_of g) (id_of_number g k)) b c
      → Puts (ToldHeaders (maps_of g) (id_of_number g k)) a c
  headers_put k on a b c first second =
      puts_same _ (ToldHeaders (maps_of g) (id_of_number g k)) a c (λ e. (λ x. (side_told k on, x), λ x. x.1))
      (puts_both (ToldAgain Header (maps_of g) (id_of_number g k)) (ToldPrefixed (maps_of g) (id_of_number g k)) a b c first second)

  pub no_headers : (k : ℕ) → IsShapeNumber g k → is_on_side sides k ≡ false → (es : List ModelEvent)
      → Puts (ToldHeaders (maps_of g) (id_of_number g k)) es es
  no_headers k small off es =
      puts_none (ToldHeaders (maps_of g) (id_of_number g k)) es (λ e h. apart (sym off ∙ told_side k small h.0.0 h.0.1))

  pub queries_put : (k : ℕ) → get_or sides.inputs.items k false ≡ true → (a b : List ModelEvent)
      → Puts (ToldAgain Query (maps_of g) (id_of_number g k)) a b → Puts (ToldQueries (maps_of g) (id_of_number g k)) a b
  queries_put k on a b h =
      puts_same (ToldAgain Query (maps_of g) (id_of_number g k)) (ToldQueries (maps_of g) (id_of_number g k)) a b
      (λ e. (λ x. (((are.are_inputs.marked k).0 on).1, x), λ x. x.1)) h

  pub no_queries : (k : ℕ) → IsShapeNumber g k → get_or sides.inputs.items k false ≡ false → (es : List ModelEvent)
      → Puts (ToldQueries (maps_of g) (id_of_number g k)) es es
  no_queries k small off es =
      puts_none (ToldQueries (maps_of g) (id_of_number g k)) es (λ e h. apart (sym off ∙ (are.are_inputs.marked k).1 (small, h.0)))

named_kind : (k : Kind) → is_named (Some k) ≡ true → (k ≡ Structure) ⊎ (k ≡ Union)
named_kind Structure h = inl refl
named_kind Union h = inr refl
named_kind k h = absurd (apart h)

kind_named : (k : Kind) → (k ≡ Structure) ⊎ (k ≡ Union) → is_named (Some k) ≡ true
kind_named k (inl is) = ap (λ x. is_named (Some x)) is
kind_named k (inr is) = ap (λ x. is_named (Some x)) is

-- a shape of the model has it
own_of : (g : GraphMaps) (id detail : List ℕ) (h : HasWireNameAgain g id detail) → (s : ShapeEntry) × IsOwnShape g (home_of g id detail h) s
own_of g id detail (header_again side at s bound again) = (s, again.behind.home)
own_of g id detail (query_again at s bound again) = (s, again.behind.home)
own_of g id detail (json_again at s kind again) = (s, again.behind.home)
own_of g id detail (has_prefix side at s bound begins) = (s, begins.home)

pub home_there : (g : GraphMaps) (id detail : List ℕ) (h : HasWireNameAgain g id detail)
    → (e : Entry) × (fin.get g.shapes (home_of g id detail h) ≡ Some e)
home_there g id detail h = let s = own_of g id detail h in (shape_entry s.0, s.1.0)

module _ (g : GraphMaps) (shape : List ℕ) where
  pub json_put : is_named (kind_under g shape) ≡ true → (a b : List ModelEvent) → Puts (ToldAgain Json g shape) a b
      → Puts (ToldJson g shape) a b
  json_put on a b h = puts_same (ToldAgain Json g shape) (ToldJson g shape) a b (λ e. (λ x. (on, x), λ x. x.1)) h

  pub no_json : is_named (kind_under g shape) ≡ false → (es : List ModelEvent) → Puts (ToldJson g shape) es es
  no_json off es = puts_none (ToldJson g shape) es (λ e h. apart (sym off ∙ h.0))

  kind_here : (s : ShapeEntry) → IsOwnShape g shape s → is_named (kind_under g shape) ≡ is_named (Some s.kind)
  kind_here s own = ap (λ (o : Option Entry). is_named (kind_in o)) own.0

  abbrev ToldHere : EventTold → Type 0
  ToldHere e = IsEventIn WireNames (HasWireNameAgain g) (home_of g) shape e

  forth : (e : EventTold) → ToldNames g shape e → ToldHere e
  forth e (inl (inl ((side, bound), inl (id, detail, s, again, is)))) = (id, detail, header_again side shape s bound again, refl, is)
  forth e (inl (inl ((side, bound), inr (id, detail, s, begins, is)))) = (id, detail, has_prefix side shape s bound begins, refl, is)
  forth e (inl (inr (bound, (id, detail, s, again, is)))) = (id, detail, query_again shape s bound again, refl, is)
  forth e (inr (named, (id, detail, s, again, is))) =
      (id, detail, json_again shape s (named_kind s.kind (sym (kind_here s again.behind.home) ∙ named)) again, refl, is)

  back : (e : EventTold) → ToldHere e → ToldNames g shape e
  back e (id, detail, header_again side at s bound again, home, is) =
      inl (inl (
        (side, subst (IsBound g side) home bound),
        inl (id, detail, s, subst (λ x. IsNamedAgain g (header_name g) str_eq_ignore_ascii_case x s id detail) home again, is),
      ))
  back e (id, detail, query_again at s bound again, home, is) =
      inl (inr (
        subst (IsBound g an_input) home bound,
        (id, detail, s, subst (λ x. IsNamedAgain g (query_name g) bytes_eq x s id detail) home again, is),
      ))
  back e (id, detail, json_again at s kind again, home, is) =
      let here = subst (λ x. IsNamedAgain g (name_in_json g x) bytes_eq x s id detail) home again in
      inr (kind_here s here.behind.home ∙ kind_named s.kind kind, (id, detail, s, here, is))
  back e (id, detail, has_prefix side at s bound begins, home, is) =
      inl (inl (
        (side, subst (IsBound g side) home bound),
        inr (id, detail, s, subst (λ x. BeginsWithPrefix g x s id detail) home begins, is),
      ))

  pub names_put : (a b : List ModelEvent) → Puts (ToldNames g shape) a b → Puts ToldHere a b
  names_put a b h = puts_same (ToldNames g shape) ToldHere a b (λ e. (forth e, back e)) h

  pub no_names : is_own_shape g shape ≡ false → (es : List ModelEvent) → Puts ToldHere es es
  no_names other es =
      puts_none ToldHere es
      (λ e h. let s = own_of g h.0 h.1 h.2 in apart (sym other ∙ told_own g shape s.0 (subst (λ x. IsOwnShape g x s.0) h.3 s.1)))

-- the header of a member
module _ (g : Graph) (prefixes : List (List ℕ)) (k : ℕ) where
  pub header_put : (header : List ℕ) → Some header ≡ header_name (maps_of g) (id_of_number g k) → (a b : List ModelEvent)
      → Puts (IsHeader (id_of_number g k) prefixes header) a b → Puts (ToldBegun g prefixes k) a b
  header_put header is a b h =
      puts_same (IsHeader (id_of_number g k) prefixes header) (ToldBegun g prefixes k) a b
      (λ e. (
        λ x. (header, sym is, x),
        λ t. subst (λ x. IsHeader (id_of_number g k) prefixes x e) (same_Some t.0 header (sym t.1 ∙ sym is)) t.2,
      )) h

  pub no_header : None ≡ header_name (maps_of g) (id_of_number g k) → (es : List ModelEvent) → Puts (ToldBegun g prefixes k) es es
  no_header is es = puts_none (ToldBegun g prefixes k) es (λ e t. none-some t.0 (is ∙ t.1))

module _ (id : List ℕ) (prefixes : List (List ℕ)) (header : List ℕ) where
  pub begun_put : BeginsWithOne (folded header) prefixes → (a b : List ModelEvent) → Puts (λ e. e ≡ rule_event WireNames id header) a b
      → Puts (IsHeader id prefixes header) a b
  begun_put begins a b h =
      puts_same (λ e. e ≡ rule_event WireNames id header) (IsHeader id prefixes header) a b (λ e. (λ is. (begins, is), λ x. x.1)) h

  pub not_begun : (BeginsWithOne (folded header) prefixes → ⊥) → (es : List ModelEvent) → Puts (IsHeader id prefixes header) es es
  not_begun none es = puts_none (IsHeader id prefixes header) es (λ e x. none x.0)

-- of prefixes that begin the same texts the same is told
pub same_begun : (g : Graph) (ps qs : List (List ℕ)) → ((text : List ℕ) → BeginsWithOne text ps ↔ BeginsWithOne text qs) → (ks : List ℕ)
    → (a b : List ModelEvent) → Puts (ToldOf (ToldBegun g ps) ks) a b → Puts (ToldOf (ToldBegun g qs) ks) a b
same_begun g ps qs same ks a b h =
    puts_same (ToldOf (ToldBegun g ps) ks) (ToldOf (ToldBegun g qs) ks) a b
    (λ e. (
      λ x. (x.0, x.1, (x.2.0, x.2.1, ((same (folded x.2.0)).0 x.2.2.0, x.2.2.1))),
      λ x. (x.0, x.1, (x.2.0, x.2.1, ((same (folded x.2.0)).1 x.2.2.0, x.2.2.1))),
    )) h
