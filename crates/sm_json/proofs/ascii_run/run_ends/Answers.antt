-- The mask has a bit for each byte that ends a run.
use Rattle.std.proofs.Common.{ℕ, ◌+◌, ◌-◌, ◌%◌, leb, cond, bit_or, map, replicate, refl, ap, ◌∙◌, arith}
use Rattle.std.proofs.lemmas.Simd.{map-map, zip2_splat, zip2_splat_left}
use Rattle.std.proofs.lemmas.List.{length-map}
use lib.Lanes.{zip2}
use Rattle.sm_json.specs.steps.StringRuns.{ends_ascii_run}
use Rattle.sm_json.proofs.Lanes.{equal_lane, either_lane, lanes_mask}
use Rattle.sm_json.proofs.ascii_run.run_ends.Goals as goal

abbrev at_most_lane : ℕ → ℕ → ℕ
at_most_lane a b = cond (leb a b) 255 0

abbrev less_lane : ℕ → ℕ → ℕ
less_lane a b = (a + (256 - b)) % 256

abbrev end_lane : ℕ → ℕ
end_lane x = bit_or (at_most_lane 96 (less_lane x 32)) (bit_or (equal_lane x 34) (equal_lane x 92))

pub returns : goal.returns
returns c =
    let v = c.args.bytes in
    let long = c.fits-bytes.0 in
    let less = λ (x : ℕ). less_lane x 32 in
    let range = ap (zip2 at_most_lane (replicate 16 96)) (zip2_splat less_lane v 16 32 long)
    ∙ zip2_splat_left at_most_lane 96 16 (map less v) (length-map v less ∙ long) ∙ map-map (at_most_lane 96) less v in
    lanes_mask end_lane ends_ascii_run refl v _ (omega arith) c.fits-bytes.1
    (either_lane _ _ v range (either_lane _ _ v (zip2_splat equal_lane v 16 34 long) (zip2_splat equal_lane v 16 92 long)))
