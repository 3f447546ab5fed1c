-- Lists whose events are handed on, one element after the other: what may come next, and what came.
use Rattle.std.proofs.Common.{◌≡◌, ℕ, suc, ◌+◌, ◌<◌, length, get_or, drop, Bool, true, false, cond, List, []}
use Rattle.std.proofs.Common.{◌∷◌, ◌++◌, refl, sym, ap, ◌∙◌, subst}
use Rattle.std.specs.Prelude.{Option, None, Some, Result, OnOk}
use Rattle.std.proofs.lemmas.List.{drop_more, length-map}
use Rattle.sm_tree.specs.Node.{Node, Members, text, member, no_members}
use Rattle.sm_tree.specs.Events.{NodeEvent, end_object, start_list, start_object}
use Rattle.sm_tree.proofs.Handing.{takes_none}
use Rattle.sm_tree.specs.Streams.{StandsFor, Takes, entry_count, numbered_pairs, pair_count}
use Rattle.sm_shapes.specs.Places.{Place, entry_place, member_place, value_place}
use Rattle.sm_shapes.specs.TableData.{TableData}
use Rattle.sm_shapes.specs.Values.{Val, FieldVals, no_fields, field, vals_of, entries_of, fields_of}
use Rattle.sm_shapes.specs.ValueView.{val_of, vals_view, each_entry_view, each_field_view}
use Rattle.sm_shapes.specs.declared.values.Value.{Value}
use Rattle.sm_codec.specs.Codec.{wire_name_in}
use Rattle.sm_codec.specs.Convention.{Convention}
use Rattle.sm_codec.specs.Written.{written, written_entries, written_pairs, written_fields}
use Rattle.sm_codec.specs.WrittenObjects.{is_written, fields_among, with_pair}
use Rattle.sm_codec.specs.steps.EventsHanded.{IsReady, Came, CameUpTo, before_stream, chosen_stream, entries_left, entries_stream}
use Rattle.sm_codec.specs.steps.EventsHanded.{field_count, field_stream, fields_left, fields_stream, items_left, items_stream, named_stream}
use Rattle.sm_codec.specs.steps.EventsHanded.{FieldHolds, object_count, union_stream, value_stream}
use Rattle.sm_codec.specs.steps.ValueParts.{FieldsHold, LeafWord}
use Rattle.sm_codec.proofs.HandedEvents.{come_more, entries_counted, entry_then, fields_counted, first_ready, last_came, list_begun}
use Rattle.sm_codec.proofs.HandedEvents.{list_opener_ready, object_begun, object_opener_ready, one_pair_came, one_pair_ready, pair_then}
use Rattle.sm_codec.proofs.HandedEvents.{pairs_counted}

-- what is left of a list is its element and those behind it
pub cut_at : {X : Type 0} (xs : List X) (i : ℕ) (x : X) → i < length xs → x ≡ get_or xs i x → drop i xs ≡ x ∷ drop (i + 1) xs
cut_at xs i x less is = drop_more xs i x less ∙ ap (λ y. y ∷ drop (i + 1) xs) (sym is)

-- of any list: left tells the events of what is left, and one those of an element
module _ {X : Type 0} (left : List X → List NodeEvent) (one : X → List NodeEvent)
    (splits : (x : X) (xs : List X) → left (x ∷ xs) ≡ one x ++ left xs) {S M : StandsFor} {T U : Takes} {out : List NodeEvent}
    {xs more : List X} {x : X} (cut : xs ≡ x ∷ more) (h : CameUpTo S T out M U (left xs)) where
  split : CameUpTo S T out M U (one x ++ left more)
  split = subst (CameUpTo S T out M U) (ap left cut ∙ splits x more) h

  next_ready : IsReady M U (one x)
  next_ready = first_ready M U (one x) (left more) split.3

  next_came : (N : StandsFor) (V : Takes) → Came M U (one x) N V → CameUpTo S T out N V (left more)
  next_came N V came = come_more S M N T U V out (one x) (left more) split came

-- nothing is left
module _ {X : Type 0} (left : List X → List NodeEvent) {S M : StandsFor} {T U : Takes} {out : List NodeEvent} {xs : List X} (none : xs ≡ [])
    (h : CameUpTo S T out M U (left xs)) where
  at_end : CameUpTo S T out M U (left [])
  at_end = subst (λ ys. CameUpTo S T out M U (left ys)) none h

  pub end_ready : IsReady M U (left [])
  end_ready = at_end.3

  pub end_came : {A E : Type 0} (N : StandsFor) (V : Takes) (r : Result A E) → OnOk r (Came M U (left []) N V) → OnOk r (Came S T out N V)
  end_came N V r came = last_came S M N T U V out (left []) r at_end came

-- the fields that are written, one after the other: what holds of them, and how many they are
pub among_next : (o : Option (List ℕ)) (k : ℕ) (v : Val) (fs : FieldVals)
    → fields_among o (field k v fs) ≡ cond (is_written o k) (field k v (fields_among o fs)) (fields_among o fs)
among_next None k v fs = refl
among_next (Some ks) k v fs = refl

module _ (t : TableData) (leaf : LeafWord) (o : Option (List ℕ)) {xs more : List (ℕ × Value)} {x : ℕ × Value} (cut : xs ≡ x ∷ more)
    (h : FieldsHold t leaf (fields_among o (fields_of (each_field_view xs)))) where
  abbrev others : FieldVals
  others = fields_among o (fields_of (each_field_view more))

  told : FieldsHold t leaf (cond (is_written o x.0) (field x.0 (val_of x.1) others) others)
  told =
      subst (FieldsHold t leaf) (ap (λ ys. fields_among o (fields_of (each_field_view ys))) cut
      ∙ among_next o x.0 (val_of x.1) (fields_of (each_field_view more))) h

  pub part_holds : is_written o x.0 ≡ true → FieldHolds t leaf x.0 (val_of x.1)
  part_holds e = let all = subst (λ b. FieldsHold t leaf (cond b (field x.0 (val_of x.1) others) others)) e told in (all.0, all.1)

  pub others_hold : FieldsHold t leaf others
  others_hold = by (is_written o x.0) told
    where
      by : (b : Bool) → FieldsHold t leaf (cond b (field x.0 (val_of x.1) others) others) → FieldsHold t leaf others
      by true g = g.2
      by false g = g

pub among_hold : (t : TableData) (leaf : LeafWord) (o : Option (List ℕ)) (fs : FieldVals) → FieldsHold t leaf fs
    → FieldsHold t leaf (fields_among o fs)
among_hold t leaf None fs h = h
among_hold t leaf (Some ks) no_fields h = tt
among_hold t leaf (Some ks) (field k v fs) h = by (is_written (Some ks) k) (among_hold t leaf (Some ks) fs h.2)
  where
    by : (b : Bool) → FieldsHold t leaf (fields_among (Some ks) fs)
        → FieldsHold t leaf (cond b (field k v (fields_among (Some ks) fs)) (fields_among (Some ks) fs))
    by true g = (h.0, h.1, g)
    by false g = g

pub pairs_of_fields : (t : TableData) (l : Convention) (p : Place) (fs : FieldVals) → pair_count (written_fields t l p fs) ≡ field_count fs
pairs_of_fields t l p no_fields = refl
pairs_of_fields t l p (field k v fs) = ap suc (pairs_of_fields t l p fs)

pub pairs_of_object : (t : TableData) (l : Convention) (p : Place) (before : Option (List ℕ × List ℕ)) (fs : FieldVals)
    → pair_count (with_pair before (written_fields t l p fs)) ≡ object_count before fs
pairs_of_object t l p None fs = pairs_of_fields t l p fs
pairs_of_object t l p (Some pair) fs = ap suc (pairs_of_fields t l p fs)

-- the pair before them, if there is one, comes first
before_then : (before : Option (List ℕ × List ℕ)) (ms : Members)
    → numbered_pairs (with_pair before ms) [] ≡ before_stream before ++ numbered_pairs ms []
before_then None ms = refl
before_then (Some pair) ms = pair_then pair.0 (text pair.1) ms

pub came_nothing : (S : StandsFor) (T : Takes) → Came S T [] S T
came_nothing S T = record { stands = takes_none S; same = λ e h. h }

module _ (t : TableData) (l : Convention) (p : Place) where
  -- the opener of a list, of a map's object and of a structure's
  module _ {S : StandsFor} {T : Takes} where
    module _ (all : List Value) (h : IsReady S T (items_stream t l p all)) where
      items_count : entry_count (written_entries t l p (vals_of (vals_view all))) ≡ length all
      items_count = entries_counted t l p (vals_view all) ∙ length-map all val_of

      pub list_opens : IsReady S T (start_list (Some (length all)) ∷ [])
      list_opens = list_opener_ready S T (written_entries t l p (vals_of (vals_view all))) (length all) items_count h

      pub list_opened : (M : StandsFor) (U : Takes) → Came S T (start_list (Some (length all)) ∷ []) M U
          → CameUpTo S T (items_stream t l p all) M U (items_left t l p all)
      list_opened M U came = list_begun S M T U (written_entries t l p (vals_of (vals_view all))) (length all) items_count h came

    module _ (all : List (List ℕ × Value)) (h : IsReady S T (entries_stream t l p all)) where
      entries_count : pair_count (written_pairs t l p (entries_of (each_entry_view all))) ≡ length all
      entries_count = pairs_counted t l p (each_entry_view all) ∙ length-map all (λ e. (e.0, val_of e.1))

      pub map_opens : IsReady S T (start_object (Some (length all)) ∷ [])
      map_opens = object_opener_ready S T (written_pairs t l p (entries_of (each_entry_view all))) (length all) entries_count h

      pub map_opened : (M : StandsFor) (U : Takes) → Came S T (start_object (Some (length all)) ∷ []) M U
          → CameUpTo S T (entries_stream t l p all) M U (entries_left t l p all)
      map_opened M U came = object_begun S M T U (written_pairs t l p (entries_of (each_entry_view all))) (length all) entries_count h came

    module _ (all : List (ℕ × Value)) (h : IsReady S T (fields_stream t l p all)) where
      fields_count : pair_count (written_fields t l p (fields_of (each_field_view all))) ≡ length all
      fields_count = fields_counted t l p (each_field_view all) ∙ length-map all (λ f. (f.0, val_of f.1))

      pub structure_opens : IsReady S T (start_object (Some (length all)) ∷ [])
      structure_opens = object_opener_ready S T (written_fields t l p (fields_of (each_field_view all))) (length all) fields_count h

      pub structure_opened : (M : StandsFor) (U : Takes) → Came S T (start_object (Some (length all)) ∷ []) M U
          → CameUpTo S T (fields_stream t l p all) M U (fields_left t l p None all)
      structure_opened M U came =
          object_begun S M T U (written_fields t l p (fields_of (each_field_view all))) (length all) fields_count h came

  -- the entries of a list, and the pairs of a map, whose values stand at a place that may be told by another word
  module _ (q : Place) where
    abbrev item_stream : Value → List NodeEvent
    item_stream x = value_stream t l q (val_of x)

    items_split : q ≡ entry_place t p → (x : Value) (xs : List Value) → items_left t l p (x ∷ xs) ≡ item_stream x ++ items_left t l p xs
    items_split e x xs =
        entry_then (written t l (entry_place t p) (val_of x)) (written_entries t l p (vals_of (vals_view xs)))
        ∙ ap (λ r. value_stream t l r (val_of x) ++ items_left t l p xs) (sym e)

    abbrev entry_stream : List ℕ × Value → List NodeEvent
    entry_stream x = named_stream t l q x.0 (val_of x.1)

    entries_split : q ≡ value_place t p → (x : List ℕ × Value) (xs : List (List ℕ × Value))
        → entries_left t l p (x ∷ xs) ≡ entry_stream x ++ entries_left t l p xs
    entries_split e x xs =
        pair_then x.0 (written t l (value_place t p) (val_of x.1)) (written_pairs t l p (entries_of (each_entry_view xs)))
        ∙ ap (λ r. named_stream t l r x.0 (val_of x.1) ++ entries_left t l p xs) (sym e)

    module _ (e : q ≡ entry_place t p) {S M : StandsFor} {T U : Takes} {out : List NodeEvent} {xs more : List Value} {x : Value}
        (cut : xs ≡ x ∷ more) (h : CameUpTo S T out M U (items_left t l p xs)) where
      pub item_ready : IsReady M U (value_stream t l q (val_of x))
      item_ready = next_ready (items_left t l p) item_stream (items_split e) cut h

      pub item_came : (N : StandsFor) (V : Takes) → Came M U (value_stream t l q (val_of x)) N V
          → CameUpTo S T out N V (items_left t l p more)
      item_came = next_came (items_left t l p) item_stream (items_split e) cut h

    module _ (e : q ≡ value_place t p) {S M : StandsFor} {T U : Takes} {out : List NodeEvent} {xs more : List (List ℕ × Value)}
        {x : List ℕ × Value} {w : List ℕ} (same : w ≡ x.0) (cut : xs ≡ x ∷ more) (h : CameUpTo S T out M U (entries_left t l p xs)) where
      pub entry_ready : IsReady M U (named_stream t l q w (val_of x.1))
      entry_ready = subst (λ k. IsReady M U (named_stream t l q k (val_of x.1))) (sym same)
          (next_ready (entries_left t l p) entry_stream (entries_split e) cut h)

      pub entry_came : (N : StandsFor) (V : Takes) → Came M U (named_stream t l q w (val_of x.1)) N V
          → CameUpTo S T out N V (entries_left t l p more)
      entry_came N V came =
          next_came (entries_left t l p) entry_stream (entries_split e) cut h N V
          (subst (λ k. Came M U (named_stream t l q k (val_of x.1)) N V) same came)

  -- the fields of a structure that are written
  module _ (o : Option (List ℕ)) where
    abbrev part_stream : ℕ × Value → List NodeEvent
    part_stream x = field_stream t l p o x.0 (val_of x.1)

    fields_split : (x : ℕ × Value) (xs : List (ℕ × Value)) → fields_left t l p o (x ∷ xs) ≡ part_stream x ++ fields_left t l p o xs
    fields_split x xs =
        ap (λ fs. numbered_pairs (written_fields t l p fs) []) (among_next o x.0 (val_of x.1) (fields_of (each_field_view xs)))
        ∙ by (is_written o x.0)
      where
        by : (b : Bool)
            → numbered_pairs (written_fields t l p (cond b (field x.0 (val_of x.1) (fields_among o (fields_of (each_field_view xs))))
            (fields_among o (fields_of (each_field_view xs))))) []
            ≡ cond b (named_stream t l (member_place x.0) (wire_name_in t l p x.0) (val_of x.1)) [] ++ fields_left t l p o xs
        by true = pair_then (wire_name_in t l p x.0) (written t l (member_place x.0) (val_of x.1)) (written_fields t l p (fields_among o
            (fields_of (each_field_view xs))))
        by false = refl

    module _ {S M : StandsFor} {T U : Takes} {out : List NodeEvent} {xs more : List (ℕ × Value)} {x : ℕ × Value} (cut : xs ≡ x ∷ more)
        (h : CameUpTo S T out M U (fields_left t l p o xs)) where
      pub part_ready : IsReady M U (field_stream t l p o x.0 (val_of x.1))
      part_ready = next_ready (fields_left t l p o) part_stream fields_split cut h

      pub part_came : (N : StandsFor) (V : Takes) → Came M U (field_stream t l p o x.0 (val_of x.1)) N V
          → CameUpTo S T out N V (fields_left t l p o more)
      part_came = next_came (fields_left t l p o) part_stream fields_split cut h

    -- behind the last one the object ends
    pub fields_end : fields_left t l p o [] ≡ end_object ∷ []
    fields_end = by o
      where
        by : (x : Option (List ℕ)) → fields_left t l p x [] ≡ end_object ∷ []
        by None = refl
        by (Some ks) = refl

    -- one field, whose name may be told by another word
    module _ (k : ℕ) (v : Val) (S : StandsFor) (T : Takes) where
      pub field_ready : {w : List ℕ} → is_written o k ≡ true → w ≡ wire_name_in t l p k → IsReady S T (field_stream t l p o k v)
          → IsReady S T (named_stream t l (member_place k) w v)
      field_ready e same h =
          subst (λ x. IsReady S T (named_stream t l (member_place k) x v)) (sym same)
          (subst (λ b. IsReady S T (cond b (named_stream t l (member_place k) (wire_name_in t l p k) v) [])) e h)

      pub field_came : {A E : Type 0} {w : List ℕ} (M : StandsFor) (U : Takes) (r : Result A E) → is_written o k ≡ true
          → w ≡ wire_name_in t l p k → OnOk r (Came S T (named_stream t l (member_place k) w v) M U)
          → OnOk r (Came S T (field_stream t l p o k v) M U)
      field_came M U r e same h =
          subst (λ b. OnOk r (Came S T (cond b (named_stream t l (member_place k) (wire_name_in t l p k) v) []) M U)) (sym e)
          (subst (λ x. OnOk r (Came S T (named_stream t l (member_place k) x v) M U)) same h)

      pub none_came : is_written o k ≡ false → Came S T (field_stream t l p o k v) S T
      none_came e =
          subst (λ b. Came S T (cond b (named_stream t l (member_place k) (wire_name_in t l p k) v) []) S T) (sym e)
          (came_nothing S T)

    -- the object of a pair and of these fields
    module _ (before : Option (List ℕ × List ℕ)) (all : List (ℕ × Value)) {S : StandsFor} {T : Takes} (k : ℕ)
        (is : k ≡ object_count before (fields_among o (fields_of (each_field_view all))))
        (h : IsReady S T (chosen_stream t l p before o all)) where
      abbrev chosen : Members
      chosen = written_fields t l p (fields_among o (fields_of (each_field_view all)))

      count_is : pair_count (with_pair before chosen) ≡ k
      count_is = pairs_of_object t l p before (fields_among o (fields_of (each_field_view all))) ∙ sym is

      pub chosen_opens : IsReady S T (start_object (Some k) ∷ [])
      chosen_opens = object_opener_ready S T (with_pair before chosen) k count_is h

      module _ {M : StandsFor} {U : Takes} (came : Came S T (start_object (Some k) ∷ []) M U) where
        begun : CameUpTo S T (chosen_stream t l p before o all) M U (before_stream before ++ fields_left t l p o all)
        begun =
            subst (CameUpTo S T (chosen_stream t l p before o all) M U) (before_then before chosen)
            (object_begun S M T U (with_pair before chosen) k count_is h came)

        pub before_ready : IsReady M U (before_stream before)
        before_ready = first_ready M U (before_stream before) (fields_left t l p o all) begun.3

        pub before_came : (N : StandsFor) (V : Takes) → Came M U (before_stream before) N V
            → CameUpTo S T (chosen_stream t l p before o all) N V (fields_left t l p o all)
        before_came N V pair =
            come_more S M N T U V (chosen_stream t l p before o all) (before_stream before) (fields_left t l p o all) begun pair

  -- the one pair of a union, whose name may be told by another word
  module _ (k : ℕ) (v : Val) {S : StandsFor} {T : Takes} (h : IsReady S T (union_stream t l p k v)) where
    abbrev one : Node
    one = written t l (member_place k) v

    pub union_opens : IsReady S T (start_object (Some 1) ∷ [])
    union_opens = object_opener_ready S T (member (wire_name_in t l p k) one no_members) 1 refl h

    module _ {M : StandsFor} {U : Takes} {w : List ℕ} (same : w ≡ wire_name_in t l p k) (came : Came S T (start_object (Some 1) ∷ []) M U)
      where
        pub union_ready : IsReady M U (named_stream t l (member_place k) w v)
        union_ready = one_pair_ready S M T U (wire_name_in t l p k) w one same h came

        pub union_came : (N : StandsFor) (V : Takes) → Came M U (named_stream t l (member_place k) w v) N V
            → CameUpTo S T (union_stream t l p k v) N V (end_object ∷ [])
        union_came N V pair = one_pair_came S M N T U V (wire_name_in t l p k) w one same h came pair
