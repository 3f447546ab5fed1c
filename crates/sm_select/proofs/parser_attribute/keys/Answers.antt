use Rattle.std.proofs.Common.{◌++◌, ◌∷◌, [], sym, subst, ◌∙◌}
use Rattle.sm_select.specs.Selectors.{trait_of}
use Rattle.sm_select.specs.steps.Places.{behind_path, key_wanted}
use Rattle.sm_select.specs.steps.Standing.{Passes}
use Rattle.sm_select.specs.steps.Reader.{Refuses}
use Rattle.sm_select.proofs.Boundaries.{dark_now}
use Rattle.sm_select.proofs.Passing.{passes_joined}
use Rattle.sm_select.proofs.Stopped.{refused_behind}
use Rattle.sm_select.proofs.ReadAttributes.{bar_read, key_shorter}
use Rattle.sm_select.proofs.parser_attribute.keys.Goals as goal

pub returns-in-Err-clause-read : goal.returns-in-Err-clause-read
returns-in-Err-clause-read c ss fs u =
    let ks = c.loop-alloc.keys.items in
    let first = c.args.reading.now.rest.now in
    let here = c.loop-alloc.reading.rest.now in
    let read = c.pass_sign.new.self.rest.now in
    refused_behind c.args.reading.now.len (behind_path ss fs (trait_of u [])) (key_wanted ss fs u ks) first read c.in-Err.refusal
    (passes_joined (behind_path ss fs (trait_of u [])) (behind_path ss fs (trait_of u ks)) (key_wanted ss fs u ks) first here read
    (c.loop-alloc.invariant.read ss fs u)
    (bar_read ss fs u ks here read (sym c.starts.ensures ∙ c.loop-alloc-test.true) c.pass_sign.ensures.rest
    (dark_now read c.pass_sign.new.self.dark)))
    (subst (λ n. Refuses n (key_wanted ss fs u ks) read c.in-Err.refusal) (c.pass_sign.ensures.len ∙ c.loop-alloc.invariant.len)
    (c.in-Err.ensures.read ss fs u ks))

pub loop-alloc-smaller : goal.loop-alloc-smaller
loop-alloc-smaller c =
    let ks = c.loop-alloc.keys.items in
    let here = c.loop-alloc.reading.rest.now in
    let read = c.pass_sign.new.self.rest.now in
    key_shorter [] [] [] ks (ks ++ c.in-Ok.key ∷ []) here read c.key.new.reading.rest.now
    (bar_read [] [] [] ks here read (sym c.starts.ensures ∙ c.loop-alloc-test.true) c.pass_sign.ensures.rest
    (dark_now read c.pass_sign.new.self.dark))
    (c.in-Ok.ensures.read [] [] [] ks)

pub loop-alloc-preserved : goal.loop-alloc-preserved
loop-alloc-preserved c =
    let ks = c.loop-alloc.keys.items in
    let more = ks ++ c.in-Ok.key ∷ [] in
    let first = c.args.reading.now.rest.now in
    let here = c.loop-alloc.reading.rest.now in
    let read = c.pass_sign.new.self.rest.now in
    let after = c.key.new.reading.rest.now in
    record {
      read = λ ss fs u. subst (λ xs. Passes (behind_path ss fs (trait_of u [])) first (behind_path ss fs (trait_of u xs)) after)
          (sym c.in-Ok-push.ensures.items)
          (passes_joined (behind_path ss fs (trait_of u [])) (key_wanted ss fs u ks) (behind_path ss fs (trait_of u more)) first read after
          (passes_joined (behind_path ss fs (trait_of u [])) (behind_path ss fs (trait_of u ks)) (key_wanted ss fs u ks) first here read
          (c.loop-alloc.invariant.read ss fs u)
          (bar_read ss fs u ks here read (sym c.starts.ensures ∙ c.loop-alloc-test.true) c.pass_sign.ensures.rest
          (dark_now read c.pass_sign.new.self.dark)))
          (c.in-Ok.ensures.read ss fs u ks));
      len = c.in-Ok.ensures.len ∙ c.pass_sign.ensures.len ∙ c.loop-alloc.invariant.len;
    }
