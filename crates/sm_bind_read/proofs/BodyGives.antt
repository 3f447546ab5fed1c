-- From what a body gives to what the members come to.
use Rattle.std.proofs.Common.{◌≡◌, ℕ, zero, suc, ◌<◌, Bool, true, false, cond, List, [], ◌∷◌, ◌++◌, drop, get_or, length, reverse, refl, sym, ap, ◌∙◌}
use Rattle.std.proofs.Common.{subst, arith}
use Rattle.std.proofs.lemmas.Bool.{true≢false}
use Rattle.std.specs.Prelude.{◌&&◌, Err, IfSome, None, Ok, Option, Some, is_some, not}
use Rattle.std.specs.Global.{Vec}
use Rattle.std.specs.List.{AllByRecursion}
use denote.Ref.{Bor}
use Rattle.sm_tree.specs.Node.{Node, Members, null, bool, int, number, text, bytes, tag, opaque, list, object, no_members}
use Rattle.sm_tree.specs.declared.path.Step.TheVariants.{Member}
use Rattle.sm_shapes.specs.Fitting.{Test}
use Rattle.sm_shapes.specs.InOrder.{Shaped}
use Rattle.sm_shapes.specs.Places.{kind_of, member_place, root_place}
use Rattle.sm_shapes.specs.TableData.{BindingData, TableData, kind_at, label, member_count, members_at, name_at, payload, shape_count, shape_format_at}
use Rattle.sm_shapes.specs.TableData.{query, query_params, header, prefix_headers, response_code}
use Rattle.sm_shapes.specs.TableData.{target_at}
use Rattle.sm_shapes.specs.Values.{Val, fields_of, structure_val}
use Rattle.sm_shapes.specs.ValueView.{each_field_view, val_of}
use Rattle.sm_shapes.specs.declared.fault.Fault.{Fault}
use Rattle.sm_shapes.specs.declared.fault.FaultKind.TheVariants.{WrongType}
use Rattle.sm_shapes.specs.declared.kinds.ShapeKind.TheVariants.{Structure}
use Rattle.sm_shapes.specs.declared.values.Value.{Value}
use Rattle.sm_codec.specs.Codec.{Codec, codec_of, sort_at}
use Rattle.sm_codec.specs.Conventions.{json_convention}
use Rattle.sm_codec.specs.Decoding as decoding
use Rattle.sm_codec.specs.FaultLists.{FaultAt, Reading, settled, under}
use Rattle.sm_codec.specs.FrameView.{fault_at, outcome_of}
use Rattle.sm_codec.specs.Kept.{IsOutcome}
use Rattle.sm_codec.specs.Named.{is_null}
use Rattle.sm_codec.specs.Readings.{absent_reading, children, leaf_by, list_by, member_faults, member_fields, member_reading}
use Rattle.sm_codec.specs.Readings.{named_children, object_by}
use Rattle.sm_codec.specs.Readings.{one_here, present_reading, reading, when_closed}
use Rattle.sm_codec.specs.Sorts.{a_structure, sort_by}
use Rattle.sm_codec.specs.declared.frames.Outcome.TheVariants.{Bad, Good}
use Rattle.sm_excerpts.specs.Excerpts.{Extends, IsExcerpt}
use Rattle.sm_excerpts.proofs.Extending.{members_there}
use Rattle.sm_messages.specs.MessageForm.{Content, a_tree, nothing, raw_bytes}
use Rattle.sm_part_values.specs.Joins.{ErrsWith}
use Rattle.sm_part_values.specs.PartTexts.{raw_by}
use Rattle.sm_messages.specs.service.HttpServable.{HaveOwnParts}
use Rattle.sm_messages.specs.service.WireMembers.{wire_members}
use Rattle.sm_bind.specs.Documents.{IsBodyBy, is_tree_kind, payload_shape}
use Rattle.sm_bind.specs.PartsData.{PartsData}
use Rattle.sm_bind.specs.Roles.{Bound, binding_on, bound_members, document_members, has_document, is_bound_payload, is_in_document}
use Rattle.sm_bind_read.specs.Outcomes.{IsTreeOf, StandsForContent}
use Rattle.sm_bind_read.specs.PartFaults.{bound_codec, is_no_object, is_object, parts_reading}
use Rattle.sm_bind_read.specs.Parts.{bound_children}
use Rattle.sm_bind_read.specs.declared.bodies.BodyComing.{BodyComing}
use Rattle.sm_bind_read.specs.declared.bodies.BodyComing.TheVariants as coming
use Rattle.sm_bind_read.specs.declared.body.PartBody.{PartBody}
use Rattle.sm_bind_read.specs.declared.body.PartBody.TheVariants.{Empty, Raw, Tree}
use Rattle.sm_bind_read.specs.steps.Bodies.{ComingIs, GivesReading, IsNothing, PayloadGives, RawGives, SomeGives, fields_in, is_payload_on}
use Rattle.sm_bind_read.specs.steps.Bodies.{payload_place}
use Rattle.sm_bind_read.specs.steps.Coming.{BodyComes, Came, all_faults, all_fields, came_of, is_body}
use Rattle.sm_bind_read.specs.steps.Coming.{is_body_by}
use Rattle.sm_bind_read.proofs.DocumentComes.{all_rise, fault_comes, fields_come, its_came, its_faults, its_fields}
use Rattle.sm_bind_read.proofs.PayloadComes.{all_absent, no_document, none_taken, not_placed, payload_alone, payload_faulty, payload_is, payload_taken}
use Rattle.sm_bind_read.proofs.PayloadComes.{placed}
use Rattle.sm_bind_read.proofs.StructureFields.{fields_listed}
use Rattle.sm_bind_read.proofs.TablesExtended.{root_alike}
use Rattle.sm_bind_read.proofs.TreePlaces.{tree_same}

good_bad : (w : Val) (f : FaultAt) → decoding.good w ≡ decoding.bad f → ⊥
good_bad w f e = cc

one_bad : (g i : FaultAt) → decoding.bad g ≡ decoding.bad i → g ≡ i
one_bad g i e = cc

good_err : (v : Val) (fs : List FaultAt) → Path Reading (Err fs) (Ok v) → ⊥
good_err v fs e = cc

first_of : (g i : FaultAt) (gs is : List FaultAt) → Path Reading (Err (g ∷ gs)) (Err (i ∷ is)) → g ≡ i
first_of g i gs is e = cc

-- outcomes of the code
pub outcome_good : (r : Reading) (v : Value) → IsOutcome r (outcome_of (Good v)) → r ≡ Ok (val_of v)
outcome_good (Ok w) v h = let same : val_of v ≡ w = cc in ap Ok (sym same)
outcome_good (Err fs) v h = absurd (good_bad (val_of v) h.0 h.3)

pub outcome_bad : (r : Reading) (f : Fault) → IsOutcome r (outcome_of (Bad f)) → ErrsWith r (fault_at f)
outcome_bad (Ok w) f h = absurd (good_bad w (fault_at f) (sym h))
outcome_bad (Err fs) f h = (h.1, ap Err (h.2 ∙ ap (λ g. g ∷ h.1) (sym (one_bad (fault_at f) h.0 h.3))))

settled_good : (fs : List FaultAt) (v w : Val) → settled fs v ≡ Ok w → (fs ≡ []) × (v ≡ w)
settled_good [] v w h = let same : v ≡ w = cc in (refl, same)
settled_good (f ∷ fs) v w h = absurd cc

settled_bad : (fs gs : List FaultAt) (v : Val) → settled fs v ≡ Err gs → fs ≡ gs
settled_bad [] gs v h = absurd cc
settled_bad (f ∷ fs) gs v h = cc

and_false : (z : Bool) → (z && false) ≡ false
and_false true = refl
and_false false = refl

an_object : (n : Node) → (is_object n ≡ false → ⊥) → (ms : Members) × (n ≡ object ms)
an_object null h = absurd (h refl)
an_object (bool z) h = absurd (h refl)
an_object (int z) h = absurd (h refl)
an_object (number u) h = absurd (h refl)
an_object (text u) h = absurd (h refl)
an_object (bytes u) h = absurd (h refl)
an_object (tag k n) h = absurd (h refl)
an_object (opaque k) h = absurd (h refl)
an_object (list ns) h = absurd (h refl)
an_object (object ms) h = (ms, refl)

unbound : (o : Option BindingData) → is_bound_payload o ≡ false → is_body_by o ≡ true → o ≡ None
unbound None h body = refl
unbound (Some payload) h body = absurd (true≢false h)
unbound (Some label) h body = absurd (true≢false (sym body))
unbound (Some (query name)) h body = absurd (true≢false (sym body))
unbound (Some query_params) h body = absurd (true≢false (sym body))
unbound (Some (header name)) h body = absurd (true≢false (sym body))
unbound (Some (prefix_headers prefix)) h body = absurd (true≢false (sym body))
unbound (Some response_code) h body = absurd (true≢false (sym body))

-- where no member is in the document, a member for which the body stands is a payload
as_payload : (o : Option BindingData) → not (is_some o) ≡ false → is_body_by o ≡ true → is_bound_payload o ≡ true
as_payload None h body = absurd (true≢false h)
as_payload (Some payload) h body = refl
as_payload (Some label) h body = absurd (true≢false (sym body))
as_payload (Some (query name)) h body = absurd (true≢false (sym body))
as_payload (Some query_params) h body = absurd (true≢false (sym body))
as_payload (Some (header name)) h body = absurd (true≢false (sym body))
as_payload (Some (prefix_headers prefix)) h body = absurd (true≢false (sym body))
as_payload (Some response_code) h body = absurd (true≢false (sym body))

first_there : (w : List ℕ) (gs more : List FaultAt) (f : FaultAt) (rest : List FaultAt) → under (Member w) gs ++ more ≡ f ∷ rest → f.0 ≡ []
    → (more ≡ f ∷ rest → ⊥) → ⊥
first_there w [] more f rest h e behind = behind h
first_there w (g ∷ gs) more f rest h e behind = never (ap (λ xs. (get_or xs 0 f).0) h ∙ e)
  where
    never : Member w ∷ g.0 ≡ [] → ⊥
    never h = cc

pub one_there : (P : ℕ → Type 0) (xs : List ℕ) (n : ℕ) → n < length xs → AllByRecursion P xs → P (get_or xs n 0)
one_there P [] n lt all = absurd (omega (arith, lt))
one_there P (y ∷ xs) zero lt all = all.0
one_there P (y ∷ xs) (suc n) lt all = one_there P xs n (omega (arith, lt)) all.1

no_shape : (c : Codec) (m : Node) (given : PartBody) → IsTreeOf false c None m given → ⊥
no_shape c m Empty h = h
no_shape c m (Raw bs) h = h
no_shape c m (Tree o) h = h

-- bytes of which there are some
pub raw_gives : (t : TableData) (test : Test) (members : List ℕ) (n k : ℕ) (bs : List ℕ) (r : BodyComing) → (bs ≡ [] → ⊥)
    → GivesReading t members n k (raw_by (kind_of t (member_place k)) (codec_of t (json_convention true) test) (member_place k) bs) r
    → RawGives t test members n k bs r
raw_gives t test members n k [] r some gives = absurd (some refl)
raw_gives t test members n k (c ∷ bs) r some gives = gives

module _ (b : Bound) (d : TableData) (x : Extends d b.table) (shaped : Shaped b.table) (other : Shaped d) (test : Test) (parts : PartsData) where
  abbrev cd : Codec
  cd = codec_of d (json_convention true) test

  abbrev ks : List ℕ
  ks = bound_members b

  abbrev came : Content → ℕ → Came
  came content = came_of b test parts content

  -- what stands for a member by its binding
  abbrev by_binding : Option BindingData → Content → ℕ → Came
  by_binding o content k = member_reading (when_closed b.table) k (bound_children o b (bound_codec b test) parts content k)

  -- a structure of documents
  module _ (s : ℕ) (kind : kind_at d s ≡ Structure) where
    root_sort : sort_at cd (root_place s) ≡ a_structure
    root_sort = ap (λ k. sort_by k (shape_format_at d s)) kind

    leaf : (n : Node) → leaf_by (sort_at cd (root_place s)) cd (root_place s) n ≡ Err (one_here WrongType)
    leaf n = ap (λ z. leaf_by z cd (root_place s) n) root_sort

    no_object : (n : Node) → is_object n ≡ false → reading cd n (root_place s) ≡ Err (one_here WrongType)
    no_object null h = leaf null
    no_object (bool z) h = leaf (bool z)
    no_object (int z) h = leaf (int z)
    no_object (number u) h = leaf (number u)
    no_object (text u) h = leaf (text u)
    no_object (bytes u) h = leaf (bytes u)
    no_object (tag k n) h = leaf (tag k n)
    no_object (opaque k) h = leaf (opaque k)
    no_object (list ns) h = ap (λ z. list_by z cd (root_place s) (list ns) (children cd ns)) root_sort
    no_object (object ms) h = absurd (true≢false h)

    abbrev faults : Members → List FaultAt
    faults ms = its_faults b d x shaped test parts ms s (members_at d s)

    abbrev fields : Members → List (ℕ × Val)
    fields ms = its_fields b d x shaped test parts ms s (members_at d s)

    object_is : (ms : Members) → reading cd (object ms) (root_place s) ≡ settled (faults ms) (structure_val (fields_of (fields ms)))
    object_is ms = ap (λ z. object_by z cd (root_place s) (object ms) (named_children cd ms)) root_sort

  -- beside a document
  module _ (lt : b.shape < shape_count b.table) (own : HaveOwnParts b.side (wire_members b.table b.shape)) (doc : has_document b ≡ true) where
    there : AllByRecursion (λ k. k < member_count b.table) ks
    there = members_there b.table b.shape ks (shaped.members b.shape lt)

    alone : AllByRecursion (λ k. is_payload_on b k ≡ false) ks
    alone = payload_alone b own doc ks (λ k found. found)

    -- a document that isn't there, or has no members
    left_absent : (content : Content) → ((k : ℕ) → by_binding None content k ≡ absent_reading (when_closed b.table k)) → (js : List ℕ)
        → AllByRecursion (λ k. is_payload_on b k ≡ false) js → AllByRecursion (λ k. is_body b k ≡ true → came content k ≡ absent_reading (when_closed b.table k)) js
    left_absent content none [] h = tt
    left_absent content none (k ∷ js) h = (
      (λ body. ap (λ o. by_binding o content k) (unbound (binding_on b k) h.0 body) ∙ none k),
      left_absent content none js h.1,
    )

    nothing_left : (content : Content) → is_no_object content ≡ false
        → ((k : ℕ) → by_binding None content k ≡ absent_reading (when_closed b.table k)) → (r : BodyComing) → IsNothing r
        → ComingIs b test parts content r
    nothing_left content tree none (coming.Fields p) e = (
      ap (λ z. has_document b && z) tree ∙ and_false (has_document b),
      subst (λ z. BodyComes b (came content) z (drop p.next p.copies.now) ks (each_field_view p.fields.items)) (sym e)
          (all_absent b (came content) (drop p.next p.copies.now) (each_field_view p.fields.items) ks (left_absent content none ks alone)),
    )
    nothing_left content tree none (coming.Fault f) e = absurd e
    nothing_left content tree none (coming.Alone f) e = absurd e
    nothing_left content tree none coming.NoMemory e = absurd e

    pub no_body : (shape : Option ℕ) (content : Content) (r : BodyComing) → StandsForContent b cd shape content Empty → IsNothing r
        → ComingIs b test parts content r
    no_body shape nothing r h e = nothing_left nothing refl (λ k. refl) r e
    no_body shape (raw_bytes u) r h e = absurd h
    no_body None (a_tree n) r h e = absurd (subst (λ z. IsTreeOf z cd None n Empty) doc h)
    no_body (Some s) (a_tree n) r h e =
        let is : Path Node n (object no_members) = subst (λ z. IsTreeOf z cd (Some s) n Empty) doc h in
        subst (λ m. ComingIs b test parts (a_tree m) r) (sym is) (nothing_left (a_tree (object no_members)) refl (λ k. refl) r e)

    pub raw_body : (shape : Option ℕ) (content : Content) (bs : List ℕ) (r : BodyComing) → StandsForContent b cd shape content (Raw bs)
        → IsNothing r → ComingIs b test parts content r
    raw_body shape nothing bs r h e = absurd h
    raw_body shape (raw_bytes u) bs r h e = nothing_left (raw_bytes u) refl (λ k. refl) r e
    raw_body None (a_tree n) bs r h e = absurd (subst (λ z. IsTreeOf z cd None n (Raw bs)) doc h)
    raw_body (Some s) (a_tree n) bs r h e = absurd (subst (λ z. IsTreeOf z cd (Some s) n (Raw bs)) doc h)

    pub good_body : (shape : Option ℕ) → IsBodyBy (has_document b) d b shape → (content : Content) (v : Value) (copies : Bor (List ℕ))
        (fs : Vec (ℕ × Value)) → StandsForContent b cd shape content (Tree (Good v)) → IfSome shape (λ s. copies.now ≡ members_at d s)
        → each_field_view fs.items ≡ reverse (fields_in (val_of v))
        → ComingIs b test parts content (coming.Fields (record { there = true; copies = copies; next = 0; fields = fs }))
    good_body shape body nothing v copies fs h are turned = absurd h
    good_body shape body (raw_bytes u) v copies fs h are turned = absurd h
    good_body None body (a_tree n) v copies fs h are turned = absurd (subst (λ z. IsTreeOf z cd None n (Tree (Good v))) doc h)
    good_body (Some s) body (a_tree n) v copies fs h are turned =
        let excerpt : IsExcerpt d b.table s (document_members b) = subst (λ z. IsBodyBy z d b (Some s)) doc body in
        let outcome = subst (λ z. IsTreeOf z cd (Some s) n (Tree (Good v))) doc h in
        let read = outcome_good (reading cd n (root_place s)) v outcome in
        let tree = an_object n (λ e. good_err (val_of v) (one_here WrongType) (sym (no_object s excerpt.kind n e) ∙ read)) in
        let settled_as = settled_good (faults s excerpt.kind tree.0) (structure_val (fields_of (fields s excerpt.kind tree.0))) (val_of v)
        (sym (object_is s excerpt.kind tree.0) ∙ ap (λ m. reading cd m (root_place s)) (sym tree.1) ∙ read) in
        subst (λ m. ComingIs b test parts (a_tree m) (coming.Fields (record { there = true; copies = copies; next = 0; fields = fs })))
        (sym tree.1) (
          and_false (has_document b),
          subst (λ is. BodyComes b (came (a_tree (object tree.0))) true is ks (each_field_view fs.items)) (sym are)
              (subst (λ gs. BodyComes b (came (a_tree (object tree.0))) true (members_at d s) ks gs)
              (sym (turned ∙ ap (λ w. reverse (fields_in w)) (sym settled_as.1) ∙ ap reverse (fields_listed (fields s excerpt.kind tree.0))))
              (fields_come b d x shaped test parts tree.0 s ks there alone (members_at d s) excerpt.copies
              (all_rise (members_at d s) (other.rises s excerpt.there)) settled_as.0)),
        )

    -- its fault: of a member, or its own
    path_there : (ms : Members) (s : ℕ) (js : List ℕ) (f : FaultAt) (rest : List FaultAt)
        → its_faults b d x shaped test parts ms s js ≡ f ∷ rest → f.0 ≡ [] → ⊥
    path_there ms s [] f rest h e = absurd cc
    path_there ms s (j ∷ js) f rest h e =
        first_there (name_at d j) (member_faults (its_came b d x shaped test parts ms s j)) (its_faults b d x shaped test parts ms s js) f rest h e
        (λ more. path_there ms s js f rest more e)

    pub bad_body : (shape : Option ℕ) → IsBodyBy (has_document b) d b shape → (content : Content) (f : Fault)
        → StandsForContent b cd shape content (Tree (Bad f)) → ((fault_at f).0 ≡ [] → ⊥) → ComingIs b test parts content (coming.Fault f)
    bad_body shape body nothing f h some = absurd h
    bad_body shape body (raw_bytes u) f h some = absurd h
    bad_body None body (a_tree n) f h some = absurd (subst (λ z. IsTreeOf z cd None n (Tree (Bad f))) doc h)
    bad_body (Some s) body (a_tree n) f h some =
        let excerpt : IsExcerpt d b.table s (document_members b) = subst (λ z. IsBodyBy z d b (Some s)) doc body in
        let outcome = subst (λ z. IsTreeOf z cd (Some s) n (Tree (Bad f))) doc h in
        let read = outcome_bad (reading cd n (root_place s)) f outcome in
        let tree = an_object n (λ e. some (ap (λ g. g.0) (sym (first_of ([], WrongType) (fault_at f) [] read.0 (sym (no_object s excerpt.kind n e) ∙ read.1))))) in
        let found = settled_bad (faults s excerpt.kind tree.0) (fault_at f ∷ read.0) (structure_val (fields_of (fields s excerpt.kind tree.0)))
        (sym (object_is s excerpt.kind tree.0) ∙ ap (λ m. reading cd m (root_place s)) (sym tree.1) ∙ read.1) in
        subst (λ m. ComingIs b test parts (a_tree m) (coming.Fault f)) (sym tree.1) (
          and_false (has_document b),
          fault_comes b d x shaped test parts tree.0 s (fault_at f) read.0 ks there alone (members_at d s) excerpt.copies
              (other.names s excerpt.there) found,
        )

    pub whole_body : (shape : Option ℕ) → IsBodyBy (has_document b) d b shape → (content : Content) (f : Fault)
        → StandsForContent b cd shape content (Tree (Bad f)) → (fault_at f).0 ≡ [] → ComingIs b test parts content (coming.Alone f)
    whole_body shape body nothing f h none = absurd h
    whole_body shape body (raw_bytes u) f h none = absurd h
    whole_body None body (a_tree n) f h none = absurd (subst (λ z. IsTreeOf z cd None n (Tree (Bad f))) doc h)
    whole_body (Some s) body (a_tree n) f h none = by (is_object n) refl
      where
        excerpt : IsExcerpt d b.table s (document_members b)
        excerpt = subst (λ z. IsBodyBy z d b (Some s)) doc body

        read : ErrsWith (reading cd n (root_place s)) (fault_at f)
        read = outcome_bad (reading cd n (root_place s)) f (subst (λ z. IsTreeOf z cd (Some s) n (Tree (Bad f))) doc h)

        same : Path Reading (Err (one_here WrongType)) (Err (fault_at f ∷ read.0)) → Path Reading (Err (one_here WrongType)) (Err (fault_at f ∷ []))
        same e = ap (λ g. Err (g ∷ [])) (first_of ([], WrongType) (fault_at f) [] read.0 e)

        by : (z : Bool) → is_object n ≡ z → parts_reading b test parts (a_tree n) ≡ Err (fault_at f ∷ [])
        by false e =
            (λ i. cond (doc i && not (e i)) (Err (one_here WrongType))
            (settled (all_faults b test parts (a_tree n) ks) (structure_val (fields_of (all_fields b test parts (a_tree n) ks)))))
            ∙ same (sym (no_object s excerpt.kind n e) ∙ read.1)
        by true e =
            let tree = an_object n (λ off. true≢false (sym e ∙ off)) in
            let found = settled_bad (faults s excerpt.kind tree.0) (fault_at f ∷ read.0) (structure_val (fields_of (fields s excerpt.kind tree.0)))
            (sym (object_is s excerpt.kind tree.0) ∙ ap (λ m. reading cd m (root_place s)) (sym tree.1) ∙ read.1) in
            absurd (path_there tree.0 s (members_at d s) (fault_at f) read.0 found none)

  -- where no document is
  module _ (lt : b.shape < shape_count b.table) (own : HaveOwnParts b.side (wire_members b.table b.shape)) (off : has_document b ≡ false)
      (shape : Option ℕ) (body : payload_shape b (bound_members b) ≡ shape) where
    there_too : AllByRecursion (λ k. k < member_count b.table) ks
    there_too = members_there b.table b.shape ks (shaped.members b.shape lt)

    outside : AllByRecursion (λ k. is_in_document b k ≡ false) ks
    outside = no_document b ks off

    no_alone : (content : Content) → (has_document b && is_no_object content) ≡ false
    no_alone content = ap (λ z. z && is_no_object content) off

    -- no payload at all
    without : payload_place b ks ≡ None → (content : Content) (r : BodyComing) → IsNothing r → ComingIs b test parts content r
    without e content (coming.Fields p) none = (
      no_alone content,
      none_taken b (came content) p.there (drop p.next p.copies.now) (each_field_view p.fields.items) ks outside (not_placed b ks e).0,
    )
    without e content (coming.Fault f) none = absurd none
    without e content (coming.Alone f) none = absurd none
    without e content coming.NoMemory none = absurd none

    -- one that is absent: all of which the body stands are payloads
    absent_payload : (content : Content) → ((k : ℕ) → by_binding (Some payload) content k ≡ absent_reading (when_closed b.table k))
        → (js : List ℕ) → AllByRecursion (λ k. is_in_document b k ≡ false) js
        → AllByRecursion (λ k. is_body b k ≡ true → came content k ≡ absent_reading (when_closed b.table k)) js
    absent_payload content none [] h = tt
    absent_payload content none (k ∷ js) h = (
      (λ body. ap (λ o. by_binding o content k) (payload_is (binding_on b k) (as_payload (binding_on b k) h.0 body)) ∙ none k),
      absent_payload content none js h.1,
    )

    nothing_paid : (content : Content) → ((k : ℕ) → by_binding (Some payload) content k ≡ absent_reading (when_closed b.table k))
        → (r : BodyComing) → IsNothing r → ComingIs b test parts content r
    nothing_paid content none (coming.Fields p) e = (
      no_alone content,
      subst (λ z. BodyComes b (came content) z (drop p.next p.copies.now) ks (each_field_view p.fields.items)) (sym e)
          (all_absent b (came content) (drop p.next p.copies.now) (each_field_view p.fields.items) ks (absent_payload content none ks outside)),
    )
    nothing_paid content none (coming.Fault f) e = absurd e
    nothing_paid content none (coming.Alone f) e = absurd e
    nothing_paid content none coming.NoMemory e = absurd e

    -- one that is there
    module _ (n : ℕ) (e : payload_place b ks ≡ Some n) (content : Content) (rd : Reading) where
      abbrev k : ℕ
      k = get_or ks n 0

      some_paid : came content k ≡ present_reading rd → (r : BodyComing) → GivesReading b.table ks n k rd r → ComingIs b test parts content r
      some_paid is (coming.Fields p) (v, good, up, copies, next, fields) = (
        no_alone content,
        subst (λ z. BodyComes b (came content) z (drop p.next p.copies.now) ks (each_field_view p.fields.items)) (sym up)
            (subst (λ js. BodyComes b (came content) true js ks (each_field_view p.fields.items))
            (ap (drop n) (sym copies) ∙ ap (λ m. drop m p.copies.now) (sym next))
            (subst (λ fs. BodyComes b (came content) true (drop n ks) ks fs) (sym fields)
            (payload_taken b (came content) ks n v outside own.one_payload e
            (ap member_faults (is ∙ ap present_reading good), (λ m. ap (member_fields m) (is ∙ ap present_reading good)))))),
      )
      some_paid is (coming.Fault f) gives = (
        no_alone content,
        payload_faulty b (came content) ks n (fault_at f) outside e
            (gives.0, (gives.1.0, is ∙ ap present_reading gives.1.1), gives.2),
      )
      some_paid is (coming.Alone f) gives = absurd gives
      some_paid is coming.NoMemory gives = tt

    by_payload : (n : ℕ) → payload_place b ks ≡ Some n → (content : Content)
        → came content (get_or ks n 0) ≡ by_binding (Some payload) content (get_or ks n 0)
    by_payload n e content = ap (λ o. by_binding o content (get_or ks n 0)) (payload_is (binding_on b (get_or ks n 0)) (placed b ks n e).1)

    -- a tree
    tree_read : (n : ℕ) → payload_place b ks ≡ Some n → (s : ℕ) → shape ≡ Some s → (m : Node)
        → reading (bound_codec b test) m (member_place (get_or ks n 0)) ≡ reading cd m (root_place s)
    tree_read n e s at_s m = by (is_tree_kind (kind_of b.table (member_place (get_or ks n 0)))) refl (sym (placed b ks n e).2 ∙ body ∙ at_s)
      where
        by : (z : Bool) → is_tree_kind (kind_of b.table (member_place (get_or ks n 0))) ≡ z
            → cond z (Some (target_at b.table (get_or ks n 0))) None ≡ Some s
            → reading (bound_codec b test) m (member_place (get_or ks n 0)) ≡ reading cd m (root_place s)
        by true tree is =
            let same : target_at b.table (get_or ks n 0) ≡ s = cc in
            let low = shaped.targets (get_or ks n 0) (one_there (λ j. j < member_count b.table) ks n (placed b ks n e).0 there_too) in
            tree_same b.table test (get_or ks n 0) tree m
            ∙ sym (root_alike d b.table x shaped test m (target_at b.table (get_or ks n 0)) low)
            ∙ ap (λ t. reading cd m (root_place t)) same
        by false tree is = absurd cc

    paid : (n : ℕ) → payload_place b ks ≡ Some n → (content : Content) (given : PartBody) (r : BodyComing) → StandsForContent b cd shape content given
        → SomeGives b.table test ks n (get_or ks n 0) given r → ComingIs b test parts content r
    paid n e nothing Empty r h gives = nothing_paid nothing (λ k. refl) r gives
    paid n e nothing (Raw bs) r h gives = absurd h
    paid n e nothing (Tree o) r h gives = absurd h
    paid n e (raw_bytes u) Empty r h gives = absurd h
    paid n e (raw_bytes u) (Tree o) r h gives = absurd h
    paid n e (raw_bytes u) (Raw bs) r h gives = raw_paid u bs h r gives
      where
        raw_paid : (u bs : List ℕ) → u ≡ bs → (r : BodyComing) → SomeGives b.table test ks n (get_or ks n 0) (Raw bs) r → ComingIs b test parts (raw_bytes u) r
        raw_paid u [] same r gives =
            subst (λ w. ComingIs b test parts (raw_bytes w) r) (sym same) (nothing_paid (raw_bytes []) (λ k. refl) r gives)
        raw_paid u (c ∷ bs) same r gives =
            subst (λ w. ComingIs b test parts (raw_bytes w) r) (sym same)
            (some_paid n e (raw_bytes (c ∷ bs))
            (raw_by (kind_of b.table (member_place (get_or ks n 0))) (bound_codec b test) (member_place (get_or ks n 0)) (c ∷ bs))
            (by_payload n e (raw_bytes (c ∷ bs))) r gives)
    paid n e (a_tree m) given r h gives = tree_paid shape refl given h gives
      where
        tree_paid : (o : Option ℕ) → shape ≡ o → (given : PartBody) → IsTreeOf (has_document b) cd o m given
            → SomeGives b.table test ks n (get_or ks n 0) given r → ComingIs b test parts (a_tree m) r
        tree_paid None at_s given h gives = absurd (no_shape cd m given (subst (λ z. IsTreeOf z cd None m given) off h))
        tree_paid (Some s) at_s Empty h gives =
            let null_there : is_null m ≡ true = subst (λ z. IsTreeOf z cd (Some s) m Empty) off h in
            nothing_paid (a_tree m)
            (λ k. ap (λ z. cond z (absent_reading (when_closed b.table k)) (present_reading (reading (bound_codec b test) m (member_place k)))) null_there)
            r gives
        tree_paid (Some s) at_s (Raw bs) h gives = absurd (subst (λ z. IsTreeOf z cd (Some s) m (Raw bs)) off h)
        tree_paid (Some s) at_s (Tree o) h gives =
            let some = subst (λ z. IsTreeOf z cd (Some s) m (Tree o)) off h in
            some_paid n e (a_tree m) (reading cd m (root_place s))
            (by_payload n e (a_tree m)
            ∙ ap (λ z. cond z (absent_reading (when_closed b.table (get_or ks n 0)))
            (present_reading (reading (bound_codec b test) m (member_place (get_or ks n 0))))) some.0
            ∙ ap present_reading (tree_read n e s at_s m))
            r (gives (reading cd m (root_place s)) some.1)

    pub payload_body : (content : Content) (given : PartBody) (r : BodyComing) → StandsForContent b cd shape content given
        → PayloadGives b test (payload_place b ks) given r → ComingIs b test parts content r
    payload_body content given r h gives = by (payload_place b ks) refl gives
      where
        by : (o : Option ℕ) → payload_place b ks ≡ o → PayloadGives b test o given r → ComingIs b test parts content r
        by None e gives = without e content r gives
        by (Some n) e gives = paid n e content given r h gives
