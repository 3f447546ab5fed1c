use Rattle.std.proofs.Common.{◌≡◌, sym, ap, subst, ◌∙◌}
use Rattle.std.specs.List.{prefix_len}
use Rattle.std.specs.Str.{IsCharBoundary}
use Rattle.sm_uri.proofs.UriCuts.{cut_boundary, run_cut}
use Rattle.sm_uri.proofs.bytes.cut_run.Goals as goal

pub split_at-requires : goal.split_at-requires
split_at-requires g c =
    let p = g.C.ByteClass.holds in
    let e : c.run_len.result ≡ prefix_len p c.args.text.now = c.run_len.ensures.run ∙ ap (prefix_len p) c.as_bytes.ensures.value in
    subst (IsCharBoundary c.args.text.now) (sym e) (cut_boundary p c.requires c.args.text.now c.utf8.text)

pub returns : goal.returns
returns g c =
    let p = g.C.ByteClass.holds in
    let e : c.run_len.result ≡ prefix_len p c.args.text.now = c.run_len.ensures.run ∙ ap (prefix_len p) c.as_bytes.ensures.value in
    let k = run_cut p c.args.text.now c.split_at.result.0.now c.split_at.result.1.now c.run_len.result e c.split_at.ensures.front
    c.split_at.ensures.back in
    record { parts = k.0; passes = k.1; ends = k.2 }
