use Rattle.std.proofs.Common.{◌≡◌, ◌<◌, ◌≤◌, ◌+◌, ◌∷◌, ◌++◌, [], ℕ, List, Some, ap, arith, drop, length, rules, subst, sym, vec_len, ◌∙◌}
use Rattle.std.proofs.lemmas.List.{drop_all, drop_more}
use Rattle.sm_io.specs.Causes.{Rose}
use Rattle.sm_io.specs.Files.{Holds}
use Rattle.sm_asked.specs.Limits.{bytes_limit}
use Rattle.sm_asked.specs.Lines.{bytes_limit_line}
use Rattle.sm_asked.specs.ModelFiles.{AreRead, PassesOne}
use Rattle.sm_load.specs.ModelFiles.{FileGiven, file_given, given_files}
use Rattle.sm_asked.proofs.Loads.{all_long, all_read, one_passed, reads_more}
use Rattle.sm_asked.proofs.files.read_models.Goals as goal

pub returns-then-len-total-clause-reads : goal.returns-then-len-total-clause-reads
returns-then-len-total-clause-reads g c =
    let names = c.args.names.now in
    let i = c.loop-word.word-index in
    let total = c.loop-word.total in
    let held = g.F.Files.held c.args.files.now in
    let word : List ℕ = c.word-item.result in
    let same : c.as_str-name.result.now ≡ word = search rules in
    let next : drop i names ≡ word ∷ drop (i + 1) names = drop_more names i word c.loop-word-test.true
    ∙ ap (λ y. y ∷ drop (i + 1) names) (sym c.word-item.is) in
    let over : bytes_limit < total + length c.in-Ok.bytes.items =
    omega (arith, c.if-len-total.true, c.len.ensures, c.loop-word.invariant.within) in
    all_long held total names (drop (i + 1) names) word c.in-Ok.bytes.items
    (Rose (g.F.Files.read_faults c.args.files.now) (g.F.Files.read_faults c.open_file.new.files)) c.past.result
    (λ a h. c.loop-word.invariant.passes a (subst (λ xs. PassesOne held total xs a) (sym next) h))
    (subst (λ x. Holds x word (Some c.in-Ok.bytes.items)) c.loop-word.invariant.held
    (subst (λ k. Holds (g.F.Files.held c.loop-word.files) k (Some c.in-Ok.bytes.items)) same c.in-Ok.ensures.opens.0))
    c.in-Ok.ensures.opens.1 over (c.past.ensures bytes_limit_line c.limit_line.ensures)

pub loop-word-preserved : goal.loop-word-preserved
loop-word-preserved g c =
    let names = c.args.names.now in
    let i = c.loop-word.word-index in
    let total = c.loop-word.total in
    let held = g.F.Files.held c.args.files.now in
    let word : List ℕ = c.word-item.result in
    let name : List ℕ = c.as_str-name.result.now in
    let same : name ≡ word = search rules in
    let next : drop i names ≡ name ∷ drop (i + 1) names = drop_more names i word c.loop-word-test.true
    ∙ ap (λ y. y ∷ drop (i + 1) names) (sym c.word-item.is) ∙ ap (λ y. y ∷ drop (i + 1) names) (sym same) in
    let file = c.in-Ok.bytes.items in
    let long : vec_len c.in-Ok.bytes ≡ length file = search rules in
    let few : total + length file ≤ bytes_limit = omega (arith, c.if-len-total.false, c.len.ensures, c.loop-word.invariant.within) in
    let counted : total + c.len-total.result ≡ total + length file = ap (λ k. total + k) (c.len-total.ensures ∙ long) in
    let holds = subst (λ x. Holds x name (Some file)) c.loop-word.invariant.held c.in-Ok.ensures.opens.0 in
    let f : FileGiven = file_given name file in
    let put : given_files c.put_file.new.files.items ≡ given_files c.loop-word.read.items ++ f ∷ [] = c.in_ok-put_file-in-Ok.ensures in
    record {
      held = c.in-Ok.ensures.held ∙ c.loop-word.invariant.held;
      read_faults = omega (arith, c.in-Ok.ensures.read_faults, c.loop-word.invariant.read_faults);
      write_faults = c.in-Ok.ensures.write_faults ∙ c.loop-word.invariant.write_faults;
      same_reads = λ n. (
        λ h. (c.in-Ok.ensures.same_reads n).0 ((c.loop-word.invariant.same_reads n).0 h),
        λ h. (c.loop-word.invariant.same_reads n).1 ((c.in-Ok.ensures.same_reads n).1 h),
      );
      same_writes = λ n. (
        λ h. (c.in-Ok.ensures.same_writes n).0 ((c.loop-word.invariant.same_writes n).0 h),
        λ h. (c.loop-word.invariant.same_writes n).1 ((c.in-Ok.ensures.same_writes n).1 h),
      );
      within = subst (λ k. k ≤ bytes_limit) (sym counted) few;
      reads = λ more h. reads_more held total names (drop (i + 1) names) name file (given_files c.loop-word.read.items)
          (given_files c.put_file.new.files.items)
          (λ m all. c.loop-word.invariant.reads m (subst (λ xs. AreRead held total xs m) (sym next) all)) put holds c.in-Ok.ensures.opens.1
          few more (subst (λ k. AreRead held k (drop (i + 1) names) more) counted h);
      passes = λ a h. one_passed held total names (drop (i + 1) names) name file
          (λ b all. c.loop-word.invariant.passes b (subst (λ xs. PassesOne held total xs b) (sym next) all)) holds c.in-Ok.ensures.opens.1
          few a (subst (λ k. PassesOne held k (drop (i + 1) names) a) counted h);
    }

pub returns-clause-reads : goal.returns-clause-reads
returns-clause-reads g c =
    let names = c.args.names.now in
    let i = c.loop-word.word-index in
    all_read (g.F.Files.held c.args.files.now) c.loop-word.total names (drop i names) (given_files c.loop-word.read.items)
    (drop_all i names (omega (arith, c.loop-word-test.false))) c.loop-word.invariant.reads
