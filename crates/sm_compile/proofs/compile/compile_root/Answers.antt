use Rattle.std.proofs.Common.{◌≡◌, ◌∷◌, [], ◌<◌, Some, length, subst, sym}
use Rattle.std.specs.Prelude.{◌^◌, slice_get}
use Rattle.std.specs.List.{Contains}
use Rattle.std.specs.List.Sorted.{IsStrictlySortedBy}
use Rattle.std.specs.Ordering.{nat_cmp}
use Rattle.sm_model.specs.GraphView.{entries_of}
use Rattle.sm_model.specs.Reaching.{AreMarks, id_of_number}
use Rattle.sm_shapes.specs.Fitting.{any_text}
use Rattle.sm_compile.specs.steps.Looked.{IsReachedFrom}
use Rattle.sm_compile.proofs.CompiledRoots.{root_closed, root_compiled, root_refused, root_sound, root_there}
use Rattle.sm_compile.proofs.compile.compile_root.Goals as goal

pub compile_marked-requires-clause-whole : goal.compile_marked-requires-clause-whole
compile_marked-requires-clause-whole g c =
    let m = c.args.graph.now in
    let are = subst (AreMarks (length (entries_of m)) (λ j. IsReachedFrom m (c.args.root ∷ []) (id_of_number m j)))
    (sym c.as_slice.ensures.value)
    c.in-Ok.ensures in
    are.whole

pub compile_marked-requires-clause-sound : goal.compile_marked-requires-clause-sound
compile_marked-requires-clause-sound g c =
    let m = c.args.graph.now in
    let are = subst (AreMarks (length (entries_of m)) (λ j. IsReachedFrom m (c.args.root ∷ []) (id_of_number m j)))
    (sym c.as_slice.ensures.value)
    c.in-Ok.ensures in
    root_sound m c.args.root c.as_slice.result.now are c.requires.value c.requires.sound

pub compile_marked-requires-clause-closed : goal.compile_marked-requires-clause-closed
compile_marked-requires-clause-closed g c =
    let m = c.args.graph.now in
    let are = subst (AreMarks (length (entries_of m)) (λ j. IsReachedFrom m (c.args.root ∷ []) (id_of_number m j)))
    (sym c.as_slice.ensures.value)
    c.in-Ok.ensures in
    root_closed m c.args.root c.as_slice.result.now are c.requires.value

pub returns-in-Err-compile_marked : goal.returns-in-Err-compile_marked
returns-in-Err-compile_marked g c =
    let m = c.args.graph.now in
    let are = subst (AreMarks (length (entries_of m)) (λ j. IsReachedFrom m (c.args.root ∷ []) (id_of_number m j)))
    (sym c.as_slice.ensures.value)
    c.in-Ok.ensures in
    root_refused m c.args.root c.as_slice.result.now are c.requires.value any_text _ _ c.in-Err-compile_marked.refusal
    c.in-Err-compile_marked.ensures

pub row_at-row-requires-clause-few : goal.row_at-row-requires-clause-few
row_at-row-requires-clause-few g c =
    subst (λ ks. length ks < 2 ^ 32) (sym c.as_slice-2.ensures.value) c.in-Ok-compile_marked.ensures.ready.few

pub row_at-row-requires-clause-rise : goal.row_at-row-requires-clause-rise
row_at-row-requires-clause-rise g c =
    subst (IsStrictlySortedBy nat_cmp) (sym c.as_slice-2.ensures.value) c.in-Ok-compile_marked.ensures.ready.rise

pub row_at-row-requires-clause-there : goal.row_at-row-requires-clause-there
row_at-row-requires-clause-there g c =
    let m = c.args.graph.now in
    let are = subst (AreMarks (length (entries_of m)) (λ j. IsReachedFrom m (c.args.root ∷ []) (id_of_number m j)))
    (sym c.as_slice.ensures.value)
    c.in-Ok.ensures in
    subst (λ ks. Contains ks c.args.root) (sym c.as_slice-2.ensures.value)
    (root_there m c.args.root c.as_slice.result.now are c.requires.value _ _ c.in-Ok-compile_marked.tabled c.in-Ok-compile_marked.ensures
    c.requires.number)

pub returns-in-Ok-served : goal.returns-in-Ok-served
returns-in-Ok-served g c =
    let m = c.args.graph.now in
    let are = subst (AreMarks (length (entries_of m)) (λ j. IsReachedFrom m (c.args.root ∷ []) (id_of_number m j)))
    (sym c.as_slice.ensures.value)
    c.in-Ok.ensures in
    root_compiled m c.args.root c.as_slice.result.now are c.requires.value _ _ c.in-Ok-compile_marked.tabled
    c.in-Ok-compile_marked.ensures _
    c.in-Ok-served.served c.row_at-row.result c.in-Ok-served.ensures
    (subst (λ ks. slice_get ks c.row_at-row.result ≡ Some c.args.root) c.as_slice-2.ensures.value c.row_at-row.ensures)
