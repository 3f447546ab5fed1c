use Rattle.std.proofs.Common.{length, subst, sym}
use Rattle.sm_model.specs.GraphView.{entries_of}
use Rattle.sm_model.specs.Reaching.{AreMarks, id_of_number}
use Rattle.sm_compile.specs.steps.Looked.{IsReachedFrom}
use Rattle.sm_compile.proofs.CompiledSome.{some_closed, some_compiled, some_refusal, some_sound}
use Rattle.sm_compile.proofs.roots.compile_roots.Goals as goal

pub compile_marked-requires-clause-whole : goal.compile_marked-requires-clause-whole
compile_marked-requires-clause-whole g c =
    let m = c.args.graph.now in
    let are = subst (AreMarks (length (entries_of m)) (λ j. IsReachedFrom m c.args.roots.now (id_of_number m j))) (sym c.as_slice.ensures.value)
    c.in-Ok.ensures in
    are.whole

pub compile_marked-requires-clause-sound : goal.compile_marked-requires-clause-sound
compile_marked-requires-clause-sound g c =
    let m = c.args.graph.now in
    let are = subst (AreMarks (length (entries_of m)) (λ j. IsReachedFrom m c.args.roots.now (id_of_number m j))) (sym c.as_slice.ensures.value)
    c.in-Ok.ensures in
    some_sound m c.args.roots.now c.as_slice.result.now are c.requires.sound

pub compile_marked-requires-clause-closed : goal.compile_marked-requires-clause-closed
compile_marked-requires-clause-closed g c =
    let m = c.args.graph.now in
    let are = subst (AreMarks (length (entries_of m)) (λ j. IsReachedFrom m c.args.roots.now (id_of_number m j))) (sym c.as_slice.ensures.value)
    c.in-Ok.ensures in
    some_closed m c.args.roots.now c.as_slice.result.now are

pub returns-in-Ok-compile_marked : goal.returns-in-Ok-compile_marked
returns-in-Ok-compile_marked g c =
    let m = c.args.graph.now in
    let are = subst (AreMarks (length (entries_of m)) (λ j. IsReachedFrom m c.args.roots.now (id_of_number m j))) (sym c.as_slice.ensures.value)
    c.in-Ok.ensures in
    some_compiled m c.args.roots.now c.as_slice.result.now are c.requires.numbers c.requires.sound g.P.Patterns.test _ _
    c.in-Ok-compile_marked.tabled c.in-Ok-compile_marked.ensures

pub returns : goal.returns
returns g c =
    let m = c.args.graph.now in
    let are = subst (AreMarks (length (entries_of m)) (λ j. IsReachedFrom m c.args.roots.now (id_of_number m j))) (sym c.as_slice.ensures.value)
    c.in-Ok.ensures in
    some_refusal m c.args.roots.now c.as_slice.result.now are g.P.Patterns.test _ _ c.in-Err-compile_marked.refusal
    c.in-Err-compile_marked.ensures
