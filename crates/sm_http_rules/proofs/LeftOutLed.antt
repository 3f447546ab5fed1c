-- From where members and targets lead to values that aren't carried, by numbers.
use Rattle.std.proofs.Common.{◌≡◌, ◌⊎◌, inl, inr, ℕ, ◌<◌, ◌^◌, Bool, true, false, List, [], ◌∷◌, ◌++◌, length, Option, Some, None, refl}
use Rattle.std.proofs.Common.{sym, ap, ◌∙◌, subst, arith}
use Rattle.std.specs.Prelude.{◌↔◌, cond}
use Rattle.std.specs.FinMap as fin
use Rattle.std.specs.List.{Contains, cons_option, filter_map}
use Rattle.std.proofs.lemmas.List.{length-map}
use Rattle.std.proofs.lemmas.Option.{none-some, same_Some}
use Rattle.sm_model.specs.Graphs.{Entry, shape_entry, member_entry, GraphMaps, MemberEntry, ShapeEntry}
use Rattle.sm_model.specs.GraphView.{IsShapeNumber, entries_of, ids, maps_of}
use Rattle.sm_model.specs.GraphRows.{row_entry}
use Rattle.sm_model.specs.Links.{AreLinks, IsLinked}
use Rattle.sm_model.specs.Reaching.{AreMarks, IsMarked, id_of_number}
use Rattle.sm_model.specs.Relations.{HasEntry, IsInGraph, IsRelated, RefersBy, SaysRelated}
use Rattle.sm_model.specs.declared.graph.Graph.{Graph}
use Rattle.sm_model.specs.declared.kind.Kind.{Kind}
use Rattle.sm_model.specs.declared.kind.Kind.TheVariants.{Float, Double, BigInteger, BigDecimal, Document, Service, Operation, Resource}
use Rattle.sm_model.specs.declared.link.Link.{Link}
use Rattle.sm_model.specs.declared.relation.Relation.{Relation}
use Rattle.sm_model.specs.declared.relation.Relation.TheVariants.{Member, Target}
use Rattle.sm_model.proofs.NumberedIds.{number_of, related_in}
use Rattle.sm_model.proofs.OneRising.{contains_behind, contains_either, contains_head, contains_none}
use Rattle.sm_model.proofs.Worklist.{apart, marked_within}
use Rattle.sm_shapes.specs.declared.kinds.ShapeKind.TheVariants.{LeftOut}
use Rattle.sm_select.specs.Neighbors.{AreBelow, AreNeighbors, AreReached, HasStep, IsReached as LeadsFrom, IsStepOf, StayBelow, StepsBy}
use Rattle.sm_compile.specs.Kinds.{has_values, is_left_out, table_kind}
use Rattle.sm_compile.specs.Looked.{kind_in}
use Rattle.sm_compile.specs.Reached.{LeadsBy, LeadsTo}
use Rattle.sm_rules.specs.Http.{ReachesLeftOutValue}
use Rattle.sm_http_rules.specs.steps.LeftOut.{AreLeading, AreValueSteps, LeadsToLeftOut, has_left_out, is_left_out_kind, is_left_out_where}
use Rattle.sm_http_rules.specs.steps.LeftOut.{is_of_values, value_link}

-- types whose values aren't carried
left_out_value : (kind : Kind) → is_left_out_kind kind ≡ true → (table_kind kind ≡ LeftOut) × (has_values kind ≡ true)
left_out_value Float h = (refl, refl)
left_out_value Double h = (refl, refl)
left_out_value BigInteger h = (refl, refl)
left_out_value BigDecimal h = (refl, refl)
left_out_value Document h = (refl, refl)
left_out_value kind h = absurd (apart h)

value_left_out : (kind : Kind) → table_kind kind ≡ LeftOut → has_values kind ≡ true → is_left_out_kind kind ≡ true
value_left_out Float out has = refl
value_left_out Double out has = refl
value_left_out BigInteger out has = refl
value_left_out BigDecimal out has = refl
value_left_out Document out has = refl
value_left_out Service out has = absurd (apart has)
value_left_out Operation out has = absurd (apart has)
value_left_out Resource out has = absurd (apart has)
value_left_out kind out has = absurd (apart (ap is_left_out out))

left_out_told : (g : GraphMaps) (id : List ℕ) → has_left_out g id ≡ true
    → (s : ShapeEntry) × HasEntry g id (shape_entry s) × (table_kind s.kind ≡ LeftOut) × (has_values s.kind ≡ true)
left_out_told g id h = by (fin.get g.shapes id) refl h
  where
    by : (o : Option Entry) → fin.get g.shapes id ≡ o → is_left_out_where (kind_in o) ≡ true
        → (s : ShapeEntry) × HasEntry g id (shape_entry s) × (table_kind s.kind ≡ LeftOut) × (has_values s.kind ≡ true)
    by None is h = absurd (apart h)
    by (Some (shape_entry s)) is h = let v = left_out_value s.kind h in (s, is, v.0, v.1)
    by (Some (member_entry m)) is h = absurd (apart h)

told_left_out : (g : GraphMaps) (id : List ℕ) (s : ShapeEntry) → HasEntry g id (shape_entry s) → table_kind s.kind ≡ LeftOut
    → has_values s.kind ≡ true → has_left_out g id ≡ true
told_left_out g id s has out value = ap (λ (o : Option Entry). is_left_out_where (kind_in o)) has ∙ value_left_out s.kind out value

-- what is kept of a list
module _ {X Y : Type 0} (h : X → Option Y) where
  kept_from : (xs : List X) (y : Y) → Contains (filter_map h xs) y → (x : X) × Contains xs x × (h x ≡ Some y)
  kept_from [] y c = absurd (contains_none y c)
  kept_from (x ∷ xs) y c = by (h x) refl c (kept_from xs y)
    where
      by : (o : Option Y) → h x ≡ o → Contains (cons_option o (filter_map h xs)) y
          → (Contains (filter_map h xs) y → (z : X) × Contains xs z × (h z ≡ Some y)) → (z : X) × Contains (x ∷ xs) z × (h z ≡ Some y)
      by None is c rest = let r = rest c in (r.0, contains_behind x r.0 xs r.1, r.2)
      by (Some z) is c rest = elim (contains_either z y (filter_map h xs) c) [
        | inl same ↦ (x, contains_head x xs, is ∙ ap (λ w. Some w) same)
        | inr more ↦ let r = rest more in (r.0, contains_behind x r.0 xs r.1, r.2)
      ]

  kept_to : (xs : List X) (x : X) (y : Y) → Contains xs x → h x ≡ Some y → Contains (filter_map h xs) y
  kept_to [] x y c is = absurd (contains_none x c)
  kept_to (z ∷ xs) x y c is = by (h z) refl (contains_either z x xs c) (λ more. kept_to xs x y more is)
    where
      by : (o : Option Y) → h z ≡ o → (z ≡ x) ⊎ Contains xs x → (Contains xs x → Contains (filter_map h xs) y)
          → Contains (cons_option o (filter_map h xs)) y
      by None other (inl same) rest = absurd (none-some y (sym other ∙ ap h same ∙ is))
      by None other (inr more) rest = rest more
      by (Some w) other (inl same) rest =
          subst (λ v. Contains (v ∷ filter_map h xs) y) (same_Some y w (sym is ∙ ap h (sym same) ∙ other))
          (contains_head y (filter_map h xs))
      by (Some w) other (inr more) rest = contains_behind w y (filter_map h xs) (rest more)

-- links by which values have parts
value_relation : (r : Relation) → is_of_values r ≡ true → (r ≡ Member) ⊎ (r ≡ Target)
value_relation Member h = inl refl
value_relation Target h = inr refl
value_relation r h = absurd (apart h)

kept_link : (l k : Link) → value_link l ≡ Some k → (l ≡ k) × (is_of_values l.relation ≡ true)
kept_link l k h = by (is_of_values l.relation) refl h
  where
    by : (b : Bool) → is_of_values l.relation ≡ b → cond b (Some l) None ≡ Some k → (l ≡ k) × (is_of_values l.relation ≡ true)
    by true is h = (same_Some l k h, is)
    by false is h = absurd (none-some k h)

module _ (g : Graph) (links kept : List Link) (are : AreLinks g links) (of_values : kept ≡ filter_map value_link links) where
  link_told : (l : Link) → Contains kept l → IsLinked g l × (is_of_values l.relation ≡ true)
  link_told l c =
      let x = kept_from value_link links l (subst (λ ls. Contains ls l) of_values c) in
      let k = kept_link x.0 l x.2 in
      (subst (IsLinked g) k.0 ((are x.0).0 x.1), subst (λ (y : Link). is_of_values y.relation ≡ true) k.0 k.1)

  told_link : (l : Link) → IsLinked g l → is_of_values l.relation ≡ true → Contains kept l
  told_link l linked is =
      subst (λ ls. Contains ls l) (sym of_values)
      (kept_to value_link links l l ((are l).1 linked) (ap (λ (b : Bool). cond b (Some l) None) is))

  pub kept_below : (count : ℕ) → count ≡ length (entries_of g) → AreBelow count kept
  kept_below count long l c =
      let at = (link_told l c).0 in (subst (λ n. l.from < n) (sym long) at.from, subst (λ n. l.to < n) (sym long) at.to)

  leads : (l : Link) → IsLinked g l → (l.relation ≡ Member) ⊎ (l.relation ≡ Target)
      → LeadsTo (maps_of g) (id_of_number g l.from) (id_of_number g l.to)
  leads l h (inl e) = inl (subst (λ r. IsRelated r (maps_of g) (id_of_number g l.from) (id_of_number g l.to)) e h.related)
  leads l h (inr e) = inr (subst (λ r. IsRelated r (maps_of g) (id_of_number g l.from) (id_of_number g l.to)) e h.related)

  seen : (a b : ℕ) → (l : Link) × Contains kept l × IsStepOf true l a b
      → IsShapeNumber g a × IsShapeNumber g b × LeadsTo (maps_of g) (id_of_number g b) (id_of_number g a)
  seen a b x =
      let l = x.0 in
      let s = x.2 in
      let is = link_told l x.1 in (
        subst (IsShapeNumber g) s.1 is.0.to,
        subst (IsShapeNumber g) s.2 is.0.from,
        subst (λ k. LeadsTo (maps_of g) (id_of_number g b) (id_of_number g k)) s.1
            (subst (λ k. LeadsTo (maps_of g) (id_of_number g k) (id_of_number g l.to)) s.2 (leads l is.0 (value_relation l.relation is.1))),
      )

  made : (a b : ℕ) → IsShapeNumber g a → IsShapeNumber g b → LeadsTo (maps_of g) (id_of_number g b) (id_of_number g a)
      → (l : Link) × Contains kept l × IsStepOf true l a b
  made a b lt gt (inl h) =
      let l : Link = record { relation = Member; from = b; to = a } in
      let linked : IsLinked g l = record { from = gt; to = lt; related = h } in
      (l, told_link l linked refl, (λ e. absurd cc, refl, refl))
  made a b lt gt (inr h) =
      let l : Link = record { relation = Target; from = b; to = a } in
      let linked : IsLinked g l = record { from = gt; to = lt; related = h } in
      (l, told_link l linked refl, (λ e. absurd cc, refl, refl))

  pub value_steps : (count : ℕ) → count ≡ length (entries_of g) → (rows : List (List ℕ)) → AreNeighbors count kept true rows
      → AreValueSteps g rows
  value_steps count long rows near = record {
    whole = near.whole ∙ long;
    steps = λ a b. (λ h. seen a b ((near.steps a b).0 h), λ h. (near.steps a b).1 (made a b h.0 h.1 h.2));
  }

-- one step more
one_more : (g : GraphMaps) (from next : List ℕ) → LeadsTo g from next → ReachesLeftOutValue g next → ReachesLeftOutValue g from
one_more g from next step r = (r.0, r.1, (next ∷ r.2.0, (step, r.2.1)), r.3, r.4, r.5)

steps_on : (rows : List (List ℕ)) (a : ℕ) (between : List ℕ) (c b : ℕ) → StepsBy rows a between c → HasStep rows c b
    → StepsBy rows a (between ++ c ∷ []) b
steps_on rows a [] c b h step = (h, step)
steps_on rows a (next ∷ between) c b h step = (h.0, steps_on rows next between c b h.1 step)

led_in : (g : GraphMaps) (a b : List ℕ) → LeadsTo g a b → IsInGraph g a × IsInGraph g b
led_in g a b (inl h) = related_in Member g a b h
led_in g a b (inr h) = related_in Target g a b h

module _ (g : Graph) (rows : List (List ℕ)) (steps : AreValueSteps g rows) (starts : List Bool)
    (are : AreMarks (length (entries_of g)) (λ k. has_left_out (maps_of g) (id_of_number g k) ≡ true) starts) where
  pub starts_count : length starts ≡ length rows
  starts_count = are.whole ∙ sym steps.whole

  pub few_steps : length rows < 2 ^ 32
  few_steps =
      let long = length-map g.rows.items (row_entry (ids g)) in
      let whole = steps.whole in
      omega (arith, long, whole, g.few)

  pub stay_below : StayBelow (length rows) rows
  stay_below a b h = subst (λ n. b < n) (sym steps.whole) ((steps.steps a b).0 h).1

  led : (between : List ℕ) (a b : ℕ) → ReachesLeftOutValue (maps_of g) (id_of_number g a) → StepsBy rows a between b
      → LeadsToLeftOut (maps_of g) (id_of_number g b)
  led [] a b reaches h = let s = (steps.steps a b).0 h in (id_of_number g a, s.2, reaches)
  led (next ∷ between) a b reaches h =
      let s = (steps.steps a next).0 h.0 in
      led between next b (one_more (maps_of g) (id_of_number g next) (id_of_number g a) s.2 reaches) h.1

  begins : (a : ℕ) → IsMarked starts a → ReachesLeftOutValue (maps_of g) (id_of_number g a)
  begins a marked =
      let o = left_out_told (maps_of g) (id_of_number g a) ((are.marked a).0 marked).1 in
      (id_of_number g a, o.0, ([], refl), o.1, o.2, o.3)

  back : (by : List (List ℕ)) (b : ℕ) (next left : List ℕ) → IsShapeNumber g b → LeadsTo (maps_of g) (id_of_number g b) next
      → LeadsBy (maps_of g) next by left → has_left_out (maps_of g) left ≡ true → LeadsFrom rows starts b
  back [] b next left gt step same out =
      let a = number_of g next (led_in (maps_of g) (id_of_number g b) next step).1 in
      let marked : IsMarked starts a.0 = (are.marked a.0).1 (a.1, ap (has_left_out (maps_of g)) (a.2 ∙ same) ∙ out) in
      (a.0, marked, ([], (steps.steps a.0 b).1 (a.1, gt, subst (LeadsTo (maps_of g) (id_of_number g b)) (sym a.2) step)))
  back (later ∷ by) b next left gt step way out =
      let c = number_of g next (led_in (maps_of g) (id_of_number g b) next step).1 in
      let rest = back by c.0 later left c.1 (subst (λ i. LeadsTo (maps_of g) i later) (sym c.2) way.0) way.1 out in
      let last : HasStep rows c.0 b =
      (steps.steps c.0 b).1 (c.1, gt, subst (LeadsTo (maps_of g) (id_of_number g b)) (sym c.2) step) in
      (rest.0, rest.1, (rest.2.0 ++ c.0 ∷ [], steps_on rows rest.0 rest.2.0 c.0 b rest.2.1 last))

  pub leading_marked : (marks : List Bool) → length marks ≡ length rows → AreReached rows starts marks → AreLeading g marks
  leading_marked marks whole reached = record {
    whole = whole ∙ steps.whole;
    marked = λ k. (
      λ h.
          let x = (reached k).0 h in
          (subst (λ n. k < n) (whole ∙ steps.whole) (marked_within marks k h), led x.2.0 x.0 k (begins x.0 x.1) x.2.1),
      λ h.
          let x = h.1 in
          let r = x.2 in
          (reached k).1 (back r.2.0 k x.0 r.0 h.0 x.1 r.2.1 (told_left_out (maps_of g) r.0 r.1 r.3 r.4 r.5)),
    );
  }

-- a member leads to such a value where its target reaches one
module _ (g : GraphMaps) (id : List ℕ) (m : MemberEntry) (has : HasEntry g id (member_entry m)) where
  target_is : (r : Relation) (next : List ℕ) → RefersBy r g id next → m.target ≡ next
  target_is r next x = (subst (λ e. SaysRelated r e next) (same_Some x.0 (member_entry m) (sym x.1 ∙ has)) x.2).1

  forth : (next : List ℕ) → LeadsTo g id next → ReachesLeftOutValue g next → ReachesLeftOutValue g m.target
  forth next (inl h) r = subst (ReachesLeftOutValue g) (sym (target_is Member next h)) r
  forth next (inr h) r = subst (ReachesLeftOutValue g) (sym (target_is Target next h)) r

  there : (by : List (List ℕ)) (left : List ℕ) (s : ShapeEntry) → LeadsBy g m.target by left → HasEntry g left (shape_entry s)
      → IsInGraph g m.target
  there [] left s same at = (shape_entry s, subst (λ i. HasEntry g i (shape_entry s)) (sym same) at)
  there (next ∷ by) left s way at = (led_in g m.target next way.0).0

  pub leads_by_target : LeadsToLeftOut g id ↔ ReachesLeftOutValue g m.target
  leads_by_target = (
    λ h. forth h.0 h.1 h.2,
    λ r. (m.target, inr (member_entry m, has, (refl, refl), there r.2.0 r.0 r.1 r.2.1 r.3), r),
  )
