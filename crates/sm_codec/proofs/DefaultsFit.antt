-- The defaults of a table that is in order are values of their members, patterns and all.
use Rattle.std.proofs.Common.{◌≡◌, ℕ, sym, subst}
use Rattle.std.specs.Prelude.{Some}
use Rattle.sm_shapes.specs.Values.{Val, null_val, bool_val, int_val, text_val, blob_val, time_val, list_val, map_val, structure_val}
use Rattle.sm_shapes.specs.Values.{union_val, no_vals, no_entries}
use Rattle.sm_shapes.specs.TableData.{TableData, default_at}
use Rattle.sm_shapes.specs.Places.{Place, member_place, kind_of}
use Rattle.sm_shapes.specs.Fitting.{Test, any_text, Fits, MeetsConstraints}
use Rattle.sm_shapes.specs.InOrder.{MayHaveDefault}
use Rattle.sm_codec.specs.Codec.{Codec}
use Rattle.sm_codec.specs.CodecLaws.{IsCodec}
use Rattle.sm_codec.proofs.KeyOrder.{none_in_order}

-- what fits but for its pattern, and keeps it too, fits
fits_too : (t : TableData) (test : Test) (p : Place) (v : Val) → Fits t any_text p v → MayHaveDefault (kind_of t p) v
    → MeetsConstraints t test p v
    → Fits t test p v
fits_too t test p null_val h may kept = h
fits_too t test p (bool_val b) h may kept = (h.0, kept)
fits_too t test p (int_val z) h may kept = (h.0, kept)
fits_too t test p (text_val u) h may kept = (h.0, kept)
fits_too t test p (blob_val u) h may kept = (h.0, kept)
fits_too t test p (time_val ms) h may kept = (h.0, kept)
fits_too t test p (list_val vs) h may kept =
    let empty : list_val vs ≡ list_val no_vals = subst (λ j. MayHaveDefault j (list_val vs)) h.0 may in
    subst (Fits t test p) (sym empty) (h.0, subst (MeetsConstraints t test p) empty kept, (λ u. tt), tt)
fits_too t test p (map_val es) h may kept =
    let empty : map_val es ≡ map_val no_entries = subst (λ j. MayHaveDefault j (map_val es)) h.0 may in
    subst (Fits t test p) (sym empty) (h.0, subst (MeetsConstraints t test p) empty kept, none_in_order, tt)
fits_too t test p (structure_val fs) h may kept = absurd (subst (λ j. MayHaveDefault j (structure_val fs)) h.0 may)
fits_too t test p (union_val k v) h may kept = absurd (subst (λ j. MayHaveDefault j (union_val k v)) h.0 may)

pub default_fits : (c : Codec) (k : ℕ) (v : Val) → IsCodec c → default_at c.table k ≡ Some v → Fits c.table c.test (member_place k) v
default_fits c k v laws e =
    fits_too c.table c.test (member_place k) v (laws.table.fit k v e) (laws.table.values k v e).1 (laws.defaults k v e)
