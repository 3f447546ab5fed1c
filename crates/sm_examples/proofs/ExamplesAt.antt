-- The example that stands at a place, and how it stands to others.
use Rattle.std.proofs.Common.{◌≡◌, ℕ, Bool, true, false, List, None, Some, map, length, get_or, ltb, refl, sym, ap, ◌∙◌}
use Rattle.std.specs.Prelude.{slice_get}
use Rattle.std.specs.Option.{option_map}
use Rattle.std.specs.Ordering.{is_lt, nat_cmp, ordering_then}
use Rattle.std.specs.declared.cmp.Ordering.{Ordering}
use Rattle.std.specs.declared.cmp.Ordering.TheVariants.{Less, Equal, Greater}
use Rattle.std.proofs.lemmas.Bool.Decides.{Decides-ltb}
use Rattle.std.proofs.lemmas.Option.{slice_get-get_or, slice_get-map, slice_get_past}
use Rattle.sm_shapes.specs.ValueOrder.{val_cmp}
use Rattle.sm_shapes.specs.Values.{Val}
use Rattle.sm_shapes.proofs.FieldPlaces.{at_least}
use Rattle.sm_examples.specs.ExampleData.{ExampleData}
use Rattle.sm_examples.specs.ExampleView.{example_data}
use Rattle.sm_examples.specs.InputOrder.{rank, rank_at, rank_cmp, rank_of}
use Rattle.sm_examples.specs.declared.example.Example.{Example}
use Rattle.sm_examples.proofs.InputOrders.{never_below}

-- what `get` gives
pub taken : {X : Type 0} (xs : List X) (k : ℕ) (x : X) → true ≡ ltb k (length xs) → x ≡ get_or xs k x → slice_get xs k ≡ Some x
taken xs k x small is = slice_get-get_or xs k x ((Decides-ltb k (length xs)).0 (sym small)) ∙ ap (λ y. Some y) (sym is)

pub taken_none : {X : Type 0} (xs : List X) (k : ℕ) → false ≡ ltb k (length xs) → slice_get xs k ≡ None
taken_none xs k past = slice_get_past xs k (at_least k (length xs) (sym past))

pub got : (es : List Example) (k : ℕ) (e : Example) → true ≡ ltb k (length es) → e ≡ get_or es k e
    → slice_get (map example_data es) k ≡ Some (example_data e)
got es k e small is =
    slice_get-map example_data es k ∙ ap (option_map example_data) (taken es k e small is)

pub got_none : (es : List Example) (k : ℕ) → false ≡ ltb k (length es) → slice_get (map example_data es) k ≡ None
got_none es k past =
    slice_get-map example_data es k ∙ ap (option_map example_data) (taken_none es k past)

-- its rank
ranked : (es : List ExampleData) (k : ℕ) (e : ExampleData) → slice_get es k ≡ Some e → rank_at es k ≡ rank 1 e.operation e.input k
ranked es k e there = ap (λ x. rank_of x k) there

ranked_past : (es : List ExampleData) (k : ℕ) → slice_get es k ≡ None → rank_at es k ≡ rank_of None k
ranked_past es k none = ap (λ x. rank_of x k) none

then_all : (x y z : Ordering) → ordering_then (ordering_then x y) z ≡ ordering_then x (ordering_then y z)
then_all Less y z = refl
then_all Equal y z = refl
then_all Greater y z = refl

-- the order of two places, by what stands at them
pub both_there : (es : List ExampleData) (a b : ℕ) (x y : ExampleData) (r order : Ordering) → slice_get es a ≡ Some x
    → slice_get es b ≡ Some y → order ≡ ordering_then (nat_cmp x.operation y.operation) (val_cmp x.input y.input)
    → r ≡ ordering_then order (nat_cmp a b) → r ≡ rank_cmp (rank_at es a) (rank_at es b)
both_there es a b x y r order at_a at_b is so =
    so ∙ ap (λ q. ordering_then q (nat_cmp a b)) is
    ∙ then_all (nat_cmp x.operation y.operation) (val_cmp x.input y.input) (nat_cmp a b)
    ∙ ap (λ k. rank_cmp k (rank 1 y.operation y.input b)) (sym (ranked es a x at_a))
    ∙ ap (λ k. rank_cmp (rank_at es a) k) (sym (ranked es b y at_b))

pub first_alone : (es : List ExampleData) (a b : ℕ) (x : ExampleData) → slice_get es a ≡ Some x → slice_get es b ≡ None
    → Greater ≡ rank_cmp (rank_at es a) (rank_at es b)
first_alone es a b x at_a at_b =
    ap (λ k. rank_cmp k (rank_of None b)) (sym (ranked es a x at_a)) ∙ ap (λ k. rank_cmp (rank_at es a) k) (sym (ranked_past es b at_b))

pub second_alone : (es : List ExampleData) (a b : ℕ) (y : ExampleData) → slice_get es a ≡ None → slice_get es b ≡ Some y
    → Less ≡ rank_cmp (rank_at es a) (rank_at es b)
second_alone es a b y at_a at_b =
    ap (λ k. rank_cmp k (rank 1 y.operation y.input b)) (sym (ranked_past es a at_a))
    ∙ ap (λ k. rank_cmp (rank_at es a) k) (sym (ranked es b y at_b))

pub both_past : (es : List ExampleData) (a b : ℕ) (r : Ordering) → slice_get es a ≡ None → slice_get es b ≡ None → r ≡ nat_cmp a b
    → r ≡ rank_cmp (rank_at es a) (rank_at es b)
both_past es a b r at_a at_b is =
    is ∙ ap (λ k. rank_cmp k (rank_of None b)) (sym (ranked_past es a at_a))
    ∙ ap (λ k. rank_cmp (rank_at es a) k) (sym (ranked_past es b at_b))

-- and whether it stands before all of an operation with an input
less_then : (x y z : Ordering) → is_lt z ≡ false → is_lt (ordering_then x y) ≡ is_lt (ordering_then x (ordering_then y z))
less_then Less y z h = refl
less_then Equal Less z h = refl
less_then Equal Equal z h = sym h
less_then Equal Greater z h = refl
less_then Greater y z h = refl

pub stands_before : (es : List ExampleData) (k : ℕ) (e : ExampleData) (o : ℕ) (v : Val) (r : Bool) (order : Ordering)
    → slice_get es k ≡ Some e → order ≡ ordering_then (nat_cmp e.operation o) (val_cmp e.input v) → r ≡ is_lt order
    → r ≡ is_lt (rank_cmp (rank_at es k) (rank 1 o v 0))
stands_before es k e o v r order there is so =
    so ∙ ap is_lt is ∙ less_then (nat_cmp e.operation o) (val_cmp e.input v) (nat_cmp k 0) (never_below k)
    ∙ ap (λ q. is_lt (rank_cmp q (rank 1 o v 0))) (sym (ranked es k e there))

pub past_before : (es : List ExampleData) (k o : ℕ) (v : Val) → slice_get es k ≡ None
    → true ≡ is_lt (rank_cmp (rank_at es k) (rank 1 o v 0))
past_before es k o v none = ap (λ q. is_lt (rank_cmp q (rank 1 o v 0))) (sym (ranked_past es k none))
