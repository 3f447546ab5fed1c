use Rattle.std.proofs.Common.{◌≡◌, ◌+◌, ◌++◌, List, [], Bor, ℕ, drop, filter, get_or, length, map, ap, subst, sym, ◌∙◌}
use Rattle.std.specs.Prelude.{false}
use Rattle.std.specs.List.{Contains}
use Rattle.std.proofs.lemmas.List.{length-replicate}
use Rattle.sm_model.specs.GraphView.{entries_of}
use Rattle.sm_model.specs.Reaching.{AreFound, id_of_number}
use Rattle.sm_model.proofs.OneRising.{contains_none}
use Rattle.sm_model.proofs.Worklist.{found_none}
use Rattle.sm_compile.specs.steps.Naming.{texts_of_all}
use Rattle.sm_service.specs.References.{once}
use Rattle.sm_service.specs.steps.OperationRows.{is_none_of}
use Rattle.sm_service.proofs.OnceNumbers.{id_there, row_there, said_first, said_on, still_there, text_at, texts_on}
use Rattle.sm_service.proofs.operation_errors.put_each_once.Goals as goal

pub loop-id-init : goal.loop-id-init
loop-id-init c =
    let g = c.args.graph.now in
    let all = texts_of_all c.args.ids.now in
    record {
      count = ap length c.requires.marks ∙ length-replicate (length (entries_of g)) false;
      found = subst (AreFound c.args.marks.now.items) (sym c.requires.none)
          (subst (λ ms. AreFound ms []) (sym c.requires.marks) (found_none (length (entries_of g))));
      there = λ k h. absurd (contains_none k (subst (λ ks. Contains ks k) c.requires.none h));
      said = subst (λ ks. map (id_of_number g) ks ++ filter (is_none_of (map (id_of_number g) ks)) (once all) ≡ once all)
          (sym c.requires.none) (said_first all);
    }

pub row_number-requires : goal.row_number-requires
row_number-requires c =
    let ids = c.args.ids.now in
    let i = c.loop-id.id-index in
    let d : Bor (List ℕ) = record { ref_ptr = (0, 0); now = [] } in
    id_there c.args.graph.now c.args.shapes.now c.requires.rows (get_or ids i d).now
    (c.requires.there (get_or ids i d).now (text_at ids i d c.loop-id-test.true))

pub loop-id-preserved : goal.loop-id-preserved
loop-id-preserved c =
    let g = c.args.graph.now in
    let shapes = c.args.shapes.now in
    let rows = c.requires.rows in
    let ids = c.args.ids.now in
    let i = c.loop-id.id-index in
    let d : Bor (List ℕ) = record { ref_ptr = (0, 0); now = [] } in
    let id = (get_or ids i d).now in
    let lt = c.loop-id-test.true in
    let k = c.row_number.result in
    let old = c.loop-id.numbers.items in
    let marks = c.loop-id.marks.items in
    let is = c.loop-id.invariant in
    let put = c.in-Ok.ensures.put in
    let row = row_there g shapes rows id k (c.requires.there id (text_at ids i d lt)) c.row_number.ensures.number c.row_number.ensures.id in
    record {
      count = c.in-Ok.ensures.count ∙ is.count;
      found = c.in-Ok.ensures.found;
      there = still_there g shapes rows old c.put_once.new.numbers.items marks k is.found is.there put row;
      said = said_on g shapes rows old c.put_once.new.numbers.items marks k is.found is.there put id (texts_of_all (drop (i + 1) ids))
          (texts_of_all ids) c.row_number.ensures.number c.row_number.ensures.id
          (subst (λ ts. map (id_of_number g) old ++ filter (is_none_of (map (id_of_number g) old)) (once ts) ≡ once (texts_of_all ids))
          (texts_on ids i d lt) is.said);
    }
