-- What a graph says of the operations of a service is one: each row, and their order.
use Rattle.std.proofs.Common.{◌≡◌, inl, inr, ℕ, List, [], ◌∷◌, ◌++◌, Option, Some, None, map, refl, sym, ap, ◌∙◌, subst}
use Rattle.std.specs.Prelude.{ℤ, pos, negsuc, codes}
use Rattle.std.specs.Cmp.Lexicographic.{nat_list_cmp_total}
use Rattle.std.specs.List.{Contains, join_with_byte}
use Rattle.std.specs.List.Sorted.{IsStrictlySortedBy}
use Rattle.std.specs.Option.{option_map}
use Rattle.std.specs.declared.cmp.Ordering.TheVariants.{Less}
use Rattle.std.proofs.lemmas.Map.Keys.{sorted_head, sorted_tail}
use Rattle.std.proofs.lemmas.Option.{none-some, same_Some}
use Rattle.sm_bytes.specs.Ascii.{slash}
use Rattle.sm_ids.specs.TextParts.{name_part}
use Rattle.sm_uri.specs.UriPattern.{UriText}
use Rattle.sm_uri.proofs.UriOnce.{one_uri}
use Rattle.sm_model.specs.Graphs.{GraphMaps, ShapeEntry, shape_entry, text_cmp}
use Rattle.sm_model.specs.Relations.{HasEntry}
use Rattle.sm_model.proofs.OneRising.{before_one, contains_behind, contains_either, contains_head, contains_none, not_before_itself}
use Rattle.sm_shapes.specs.Names.{AllDiffer}
use Rattle.sm_compile.specs.Compiled.{EachSays, Numbering}
use Rattle.sm_compile.specs.Served.{IsServed}
use Rattle.sm_compile.specs.Sound.{trait_of}
use Rattle.sm_compile.specs.TraitIds.{http_id}
use Rattle.sm_compile.specs.TraitNodes.{text_of}
use Rattle.sm_compile.specs.declared.compiled.Served.{Served}
use Rattle.sm_compile.specs.declared.compiled.Served.TheVariants.{Yes, Unserved}
use Rattle.sm_compile.proofs.OnePatterns.{same_shape}
use Rattle.sm_compile.proofs.OneWay.{one_way}
use Rattle.sm_compile.proofs.RowsAlike.{same_place}
use Rattle.sm_compile.proofs.TabledShapes.{mapped_from, mapped_to}
use Rattle.sm_rules.specs.TraitRows.{that_reads}
use Rattle.sm_rules.specs.Words.{field_in}
use Rattle.sm_service.specs.Compiled.{AreOperationsOf, SaysError, SaysHttp, SaysHttpRule, SaysOperation}
use Rattle.sm_service.specs.References.{errors_said, reference_in}
use Rattle.sm_service.specs.ServedOperation.{IsFirstPath, IsPathFrom, TellsAllServed, WalkRoot, walk_roots}
use Rattle.sm_service.specs.ServiceData.{HttpData, OperationData}
use Rattle.sm_service.specs.declared.error.ErrorShape.{ErrorShape}

-- numbers without a sign are one where they are as numbers with one
abbrev unsigned : ℤ → ℕ
unsigned (pos n) = n
unsigned (negsuc n) = n

same_pos : (n m : ℕ) → pos n ≡ pos m → n ≡ m
same_pos n m e = ap unsigned e

one_status : (a b : Option ℕ) → option_map pos a ≡ option_map pos b → a ≡ b
one_status None None e = refl
one_status None (Some m) e = absurd (none-some (pos m) e)
one_status (Some n) None e = absurd (none-some (pos n) (sym e))
one_status (Some n) (Some m) e = ap Some (same_pos n m (same_Some (pos n) (pos m) e))

module _ (g : GraphMaps) where
  -- the path of the first root that isn't served is one
  never_served : (root : WalkRoot) (path : List ℕ) → IsPathFrom g root path → IsServed g root.id → ⊥
  never_served root path p served = served p.0 p.1.simple.0

  one_path : (roots : List WalkRoot) (a b : List ℕ) → IsFirstPath g roots a → IsFirstPath g roots b → a ≡ b
  one_path [] a b h k = absurd h
  one_path (root ∷ roots) a b (inl p) (inl q) =
      p.2 ∙ ap (λ names. join_with_byte slash (root.names ++ names)) (one_way g root.id p.0 q.0 p.1 q.1) ∙ sym q.2
  one_path (root ∷ roots) a b (inl p) (inr q) = absurd (never_served root a p q.0)
  one_path (root ∷ roots) a b (inr p) (inl q) = absurd (never_served root b q p.0)
  one_path (root ∷ roots) a b (inr p) (inr q) = one_path roots a b p.1 q.1

  no_path : (roots : List WalkRoot) (a : List ℕ) → ((root : WalkRoot) → Contains roots root → IsServed g root.id)
      → IsFirstPath g roots a → ⊥
  no_path [] a all h = h
  no_path (root ∷ roots) a all (inl p) = never_served root a p (all root (contains_head root roots))
  no_path (root ∷ roots) a all (inr p) = no_path roots a (λ r there. all r (contains_behind root r roots there)) p.1

  one_told : (roots : List WalkRoot) (a b : Served) → TellsAllServed g roots a → TellsAllServed g roots b → Path Served a b
  one_told roots Yes Yes h k = refl
  one_told roots Yes (Unserved path) h k = absurd (no_path roots path h k)
  one_told roots (Unserved path) Yes h k = absurd (no_path roots path k h)
  one_told roots (Unserved path) (Unserved other) h k = ap (λ p. Unserved p) (one_path roots path other h k)

  -- what `http` says
  one_rule : (id : List ℕ) (a b : HttpData) → SaysHttpRule g id a → SaysHttpRule g id b → Path HttpData a b
  one_rule id a b h k =
      let method = same_Some a.method b.method (sym h.method ∙ k.method) in
      let text = same_Some h.uri.t k.uri.t (sym h.uri.said ∙ k.uri.said) in
      let uri = one_uri a.uri b.uri k.uri.t (subst (UriText a.uri) text h.uri.spells) k.uri.spells in
      let code = same_pos a.code b.code (h.code ∙ sym k.code) in
      λ i. record { method = method i; uri = uri i; code = code i }

  never_there : (id : List ℕ) (b : HttpData) → trait_of g id http_id ≡ None → SaysHttpRule g id b → ⊥
  never_there id b none h =
      none-some b.method
      (sym (ap (λ o. text_of (field_in (codes "method") (that_reads http_id o))) none) ∙ h.method)

  one_http : (id : List ℕ) (a b : Option HttpData) → SaysHttp g id a → SaysHttp g id b → Path (Option HttpData) a b
  one_http id None None h k = refl
  one_http id None (Some b) h k = absurd (never_there id b h k)
  one_http id (Some a) None h k = absurd (never_there id a k h)
  one_http id (Some a) (Some b) h k = ap (λ r. Some r) (one_rule id a b h k)

  module _ (n : Numbering) (differ : AllDiffer n.shapes) where
    one_error : (id : List ℕ) (a b : ErrorShape) → SaysError g n id a → SaysError g n id b → Path ErrorShape a b
    one_error id a b h k =
        let id_is = h.id_is ∙ sym k.id_is in
        let shape = same_place n.shapes differ a.shape b.shape id h.number k.number in
        let client = h.client ∙ sym k.client in
        let status = one_status a.status b.status (h.status ∙ sym k.status) in
        λ i. record { id = id_is i; shape = shape i; client = client i; status = status i }

    same_errors : (ids : List (List ℕ)) (es fs : List ErrorShape) → EachSays (SaysError g n) ids es → EachSays (SaysError g n) ids fs
        → Path (List ErrorShape) es fs
    same_errors [] [] [] h k = refl
    same_errors [] (e ∷ es) fs h k = absurd h
    same_errors [] [] (f ∷ fs) h k = absurd k
    same_errors (id ∷ ids) [] fs h k = absurd h
    same_errors (id ∷ ids) (e ∷ es) [] h k = absurd k
    same_errors (id ∷ ids) (e ∷ es) (f ∷ fs) h k =
        let one = one_error id e f h.0 k.0 in
        let rest = same_errors ids es fs h.1 k.1 in
        λ i. one i ∷ rest i

    module _ (service : ShapeEntry) where
      one_row : (a b : OperationData) → a.id ≡ b.id → SaysOperation g n service a → SaysOperation g n service b → Path OperationData a b
      one_row a b id h k =
          let s = same_shape g b.id h.s k.s (subst (λ x. HasEntry g x (shape_entry h.s)) id h.own.0) k.own.0 in
          let name = h.name ∙ ap name_part id ∙ sym k.name in
          let into = same_Some h.input k.input
          (sym h.input_said ∙ ap (reference_in (codes "input")) s ∙ k.input_said) in
          let out = same_Some h.output k.output
          (sym h.output_said ∙ ap (reference_in (codes "output")) s ∙ k.output_said) in
          let input = same_place n.shapes differ a.input b.input k.input (h.input_number ∙ ap Some into) k.input_number in
          let output = same_place n.shapes differ a.output b.output k.output (h.output_number ∙ ap Some out) k.output_number in
          let errors = same_errors (errors_said k.s service) a.errors b.errors
          (subst (λ (x : ShapeEntry). EachSays (SaysError g n) (errors_said x service) a.errors) s h.errors) k.errors in
          let http = one_http b.id a.http b.http (subst (λ x. SaysHttp g x a.http) id h.http) k.http in
          let roots : Path (List WalkRoot) (walk_roots h.input h.output (errors_said h.s service))
          (walk_roots k.input k.output (errors_said k.s service)) =
          λ i. walk_roots (into i) (out i) (errors_said (s i) service) in
          let served = one_told (walk_roots k.input k.output (errors_said k.s service)) a.served b.served
          (subst (λ rs. TellsAllServed g rs a.served) roots h.served) k.served in
          λ i. record {
            id = id i;
            name = name i;
            input = input i;
            output = output i;
            errors = errors i;
            http = http i;
            served = served i;
          }

-- lists that rise by a name and have the same entries are one
abbrev operation_name : OperationData → List ℕ
operation_name o = o.name

abbrev Rises : List OperationData → Type 0
Rises os = IsStrictlySortedBy text_cmp (map operation_name os)

before_rest : (x y : OperationData) (xs : List OperationData) → Rises (x ∷ xs) → Contains xs y → text_cmp x.name y.name ≡ Less
before_rest x y xs h there =
    before_one nat_list_cmp_total x.name y.name (map operation_name xs) (sorted_head text_cmp x.name (map operation_name xs) h)
    (mapped_to operation_name xs y there)

heads : (x y : OperationData) (xs ys : List OperationData) → Rises (x ∷ xs) → Rises (y ∷ ys) → Contains (y ∷ ys) x → Contains (x ∷ xs) y
    → Path OperationData x y
heads x y xs ys h k there back = elim (contains_either y x ys there) [
  | inl same ↦ sym same
  | inr here ↦ elim (contains_either x y xs back) [
    | inl same ↦ same
    | inr after ↦ absurd (not_before_itself nat_list_cmp_total x.name
        (nat_list_cmp_total.trans x.name y.name x.name (before_rest x y xs h after) (before_rest y x ys k here)))
  ]
]

rest_contains : (x y e : OperationData) (xs ys : List OperationData) → Path OperationData x y → Rises (x ∷ xs) → Contains xs e
    → Contains (y ∷ ys) e → Contains ys e
rest_contains x y e xs ys same h there among = elim (contains_either y e ys among) [
  | inl is ↦ absurd (not_before_itself nat_list_cmp_total x.name
      (subst (λ (w : OperationData). text_cmp x.name w.name ≡ Less) (sym (same ∙ is)) (before_rest x e xs h there)))
  | inr later ↦ later
]

one_listed : (xs ys : List OperationData) → Rises xs → Rises ys → ((e : OperationData) → Contains xs e → Contains ys e)
    → ((e : OperationData) → Contains ys e → Contains xs e) → Path (List OperationData) xs ys
one_listed [] [] h k forth back = refl
one_listed [] (y ∷ ys) h k forth back = absurd (contains_none y (back y (contains_head y ys)))
one_listed (x ∷ xs) [] h k forth back = absurd (contains_none x (forth x (contains_head x xs)))
one_listed (x ∷ xs) (y ∷ ys) h k forth back =
    let same = heads x y xs ys h k (forth x (contains_head x xs)) (back y (contains_head y ys)) in
    let behind = sorted_tail text_cmp x.name (map operation_name xs) h in
    let also = sorted_tail text_cmp y.name (map operation_name ys) k in
    let rest = one_listed xs ys behind also
    (λ e there. rest_contains x y e xs ys same h there (forth e (contains_behind x e xs there)))
    (λ e there. rest_contains y x e ys xs (sym same) k there (back e (contains_behind y e ys there))) in
    λ i. same i ∷ rest i

module _ (g : GraphMaps) (service : List ℕ) (n : Numbering) (s : ShapeEntry) (differ : AllDiffer n.shapes) where
  also_there : (os ps : List OperationData) → AreOperationsOf g service n s os → AreOperationsOf g service n s ps → (o : OperationData)
      → Contains os o → Contains ps o
  also_there os ps h k o there =
      let is = h.each o there in
      let found = mapped_from (λ (p : OperationData). p.id) ps o.id (k.all o.id is.0) in
      subst (Contains ps) (one_row g n differ s found.0 o found.2 (k.each found.0 found.1).1 is.1) found.1

  pub one_operations : (os ps : List OperationData) → AreOperationsOf g service n s os → AreOperationsOf g service n s ps
      → Path (List OperationData) os ps
  one_operations os ps h k = one_listed os ps h.rise k.rise (also_there os ps h k) (also_there ps os k h)
