-- One member after the other takes what the body has for it.
use Rattle.std.proofs.Common.{◌≡◌, ◌⊎◌, inl, inr, ℕ, Bool, true, false, List, [], ◌∷◌, ◌++◌, drop, refl, sym, ap, subst, ◌∙◌}
use Rattle.std.proofs.lemmas.Bool.{true≢false}
use Rattle.std.specs.Prelude.{◌↔◌, Err, Ok, Option, Result}
use Rattle.std.specs.Option.{option_map}
use Rattle.sm_shapes.specs.TableData.{name_at}
use Rattle.sm_shapes.specs.Values.{Val}
use Rattle.sm_shapes.specs.ValueView.{each_field_view, val_of}
use Rattle.sm_shapes.specs.declared.values.Value.{Value}
use Rattle.sm_codec.specs.FaultLists.{FaultAt}
use Rattle.sm_codec.specs.Readings.{absent_reading, member_faults, member_fields, when_closed}
use Rattle.sm_codec.specs.declared.decoder.Refusal.{Refusal}
use Rattle.sm_codec.specs.declared.decoder.Refusal.TheVariants.{Fault as a_fault, NoMemory}
use Rattle.sm_part_values.specs.Joins.{MemberJoins}
use Rattle.sm_bind.specs.Roles.{Bound}
use Rattle.sm_bind_read.specs.declared.pending.Pending.{Pending}
use Rattle.sm_bind_read.specs.steps.Coming.{BodyComes, Came, ComesWith, Either, FaultComes, FieldsAre, IsAtMember, IsFaultOf, IsNotLast, PendingComes}
use Rattle.sm_bind_read.specs.steps.Coming.{StopsAt, is_body}
use Rattle.sm_bind_read.proofs.MembersJoined.{fields_of_value}

first_of_both : (z y : Bool) (A B C : Type 0) → z ≡ true → y ≡ true → Either z (Either y A B) C → A
first_of_both true true A B C h i x = x
first_of_both true false A B C h i x = absurd (true≢false (sym i))
first_of_both false y A B C h i x = absurd (true≢false (sym h))

second_of_both : (z y : Bool) (A B C : Type 0) → z ≡ true → y ≡ false → Either z (Either y A B) C → B
second_of_both true true A B C h i x = absurd (true≢false i)
second_of_both true false A B C h i x = x
second_of_both false y A B C h i x = absurd (true≢false (sym h))

one_of : (z : Bool) (A C : Type 0) → z ≡ true → Either z A C → A
one_of true A C h x = x
one_of false A C h x = absurd (true≢false (sym h))

other_of : (z : Bool) (A C : Type 0) → z ≡ false → Either z A C → C
other_of true A C h x = absurd (true≢false h)
other_of false A C h x = x

-- what a member comes to by itself
pub from_joins : (reading : Came) (More : Type 0) (result : Result (Option Value) Refusal) → MemberJoins reading result → More
    → ComesWith reading More result
from_joins reading More (Ok v) h more = (fields_of_value reading (option_map val_of v) h, more)
from_joins reading More (Err (a_fault f)) h more = h
from_joins reading More (Err NoMemory) h more = tt

module _ (b : Bound) (came : ℕ → Came) (k : ℕ) (ks : List ℕ) where
  -- what the next field is, by what it may be
  abbrev pub Takes : Pending → Pending → Option Val → Type 0
  Takes old new given = (j : ℕ) (rest : List ℕ) (o : Option Val) (left : List (ℕ × Val)) → drop old.next old.copies.now ≡ j ∷ rest
      → each_field_view old.fields.items ≡ left ++ member_fields j (Ok o) → IsNotLast j left
      → (given ≡ o) × (drop new.next new.copies.now ≡ rest) × (each_field_view new.fields.items ≡ left)

  abbrev Inside : List ℕ → List (ℕ × Val) → Type 0
  Inside js fs = (j : ℕ) × (rest : List ℕ) × (o : Option Val) × (left : List (ℕ × Val)) × (js ≡ j ∷ rest) × FieldsAre (came k) o
      × (fs ≡ left ++ member_fields j (Ok o)) × IsNotLast j left × BodyComes b came true rest ks left

  abbrev Opened : List ℕ → List (ℕ × Val) → Type 0
  Opened js fs = (j : ℕ) × (rest : List ℕ) × (o : Option Val) × (left : List (ℕ × Val)) × (js ≡ j ∷ rest) × FieldsAre (came k) o
      × (fs ≡ left ++ member_fields j (Ok o)) × IsNotLast j left × BodyComes b came false rest ks left

  taken : (old new : Pending) (given : Option Val) → new.there ≡ true → Takes old new given
      → Inside (drop old.next old.copies.now) (each_field_view old.fields.items) → FieldsAre (came k) given × PendingComes b came ks new
  taken old new given up takes (j, rest, o, left, js, are, fs, last, behind) =
      let next = takes j rest o left js fs last in (
        subst (FieldsAre (came k)) (sym next.0) are,
        subst (λ z. BodyComes b came z (drop new.next new.copies.now) ks (each_field_view new.fields.items)) (sym up)
            (subst (λ is. BodyComes b came true is ks (each_field_view new.fields.items)) (sym next.1)
            (subst (λ gs. BodyComes b came true rest ks gs) (sym next.2) behind)),
      )

  opened : (there : Bool) (js : List ℕ) (fs : List (ℕ × Val)) → is_body b k ≡ true → there ≡ true → BodyComes b came there js (k ∷ ks) fs
      → Inside js fs
  opened there js fs body up comes =
      first_of_both (is_body b k) true (Inside js fs) ((came k ≡ absent_reading (when_closed b.table k)) × BodyComes b came true js ks fs)
      (BodyComes b came true js ks fs) body refl (subst (λ z. BodyComes b came z js (k ∷ ks) fs) up comes)

  pub takes_next : (old new : Pending) (given : Option Val) → is_body b k ≡ true → old.there ≡ true → new.there ≡ old.there
      → Takes old new given → PendingComes b came (k ∷ ks) old → FieldsAre (came k) given × PendingComes b came ks new
  takes_next old new given body up same takes comes =
      taken old new given (same ∙ up) takes (opened old.there (drop old.next old.copies.now) (each_field_view old.fields.items) body up comes)

  closed : (there : Bool) (js : List ℕ) (fs : List (ℕ × Val)) → is_body b k ≡ true → there ≡ false → BodyComes b came there js (k ∷ ks) fs
      → (came k ≡ absent_reading (when_closed b.table k)) × BodyComes b came there js ks fs
  closed there js fs body down comes =
      let both = second_of_both (is_body b k) false (Opened js fs) ((came k ≡ absent_reading (when_closed b.table k)) × BodyComes b came false js ks fs)
      (BodyComes b came false js ks fs) body refl (subst (λ z. BodyComes b came z js (k ∷ ks) fs) down comes) in
      (both.0, subst (λ z. BodyComes b came z js ks fs) (sym down) both.1)

  pub takes_none : (p : Pending) (result : Result (Option Value) Refusal) → is_body b k ≡ true → p.there ≡ false
      → MemberJoins (absent_reading (when_closed b.table k)) result → PendingComes b came (k ∷ ks) p
      → ComesWith (came k) (PendingComes b came ks p) result
  takes_none p result body down joins comes =
      let both = closed p.there (drop p.next p.copies.now) (each_field_view p.fields.items) body down comes in
      from_joins (came k) (PendingComes b came ks p) result (subst (λ r. MemberJoins r result) (sym both.0) joins) both.1

  -- a member for which the body doesn't stand
  pub passes_by : (p : Pending) → is_body b k ≡ false → PendingComes b came (k ∷ ks) p → PendingComes b came ks p
  passes_by p body comes = other_of (is_body b k) _ _ body comes

  -- the body's fault
  pub stops_body : (f : FaultAt) (z : Bool) → is_body b k ≡ true → (z ≡ true ↔ IsAtMember (name_at b.table k) f.0)
      → FaultComes b came f (k ∷ ks) → StopsAt b came f k ks (Ok z)
  stops_body f z body at comes = by z at (one_of (is_body b k) _ _ body comes)
    where
      by : (z : Bool) → (z ≡ true ↔ IsAtMember (name_at b.table k) f.0)
          → IsFaultOf b came f k ⊎ ((member_faults (came k) ≡ []) × (IsAtMember (name_at b.table k) f.0 → ⊥) × FaultComes b came f ks)
          → StopsAt b came f k ks (Ok z)
      by true at (inl is) = is
      by true at (inr off) = absurd (off.1 (at.0 refl))
      by false at (inl is) = absurd (true≢false (sym (at.1 (is.0.0, ap (λ g. g.0) is.2))))
      by false at (inr off) = (off.0, off.2)

  pub stops_bound : (f : FaultAt) (v : Option Value) → is_body b k ≡ false → MemberJoins (came k) (Ok v) → FaultComes b came f (k ∷ ks)
      → StopsAt b came f k ks (Ok false)
  stops_bound f v body joins comes = (ap member_faults joins, other_of (is_body b k) _ _ body comes)

  pub stops_refused : (f : FaultAt) (refusal : Refusal) → MemberJoins (came k) (Err refusal) → StopsAt b came f k ks (Err refusal)
  stops_refused f (a_fault g) joins = joins
  stops_refused f NoMemory joins = tt
