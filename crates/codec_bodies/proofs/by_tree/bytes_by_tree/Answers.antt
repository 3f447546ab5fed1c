use Rattle.std.proofs.Common.{refl, sym, subst}
use Rattle.sm_tree.specs.Json.{IsJson, IsCbor}
use Rattle.sm_shapes.specs.Fitting.{any_text}
use Rattle.sm_shapes.specs.Places.{root_place}
use Rattle.sm_shapes.specs.TableView.{table_data}
use Rattle.sm_shapes.specs.ValueView.{val_of}
use Rattle.sm_codec.proofs.WrittenForms.{written_is_json, written_is_cbor}
use Rattle.sm_bodies.specs.Sides.{WritesForm}
use Rattle.codec_bodies.proofs.by_tree.bytes_by_tree.Goals as goal

pub write_tree-requires : goal.write_tree-requires
write_tree-requires g c = record {
  json = subst IsJson (sym c.in_ok-tree.ensures.tree)
      (written_is_json (table_data c.args.table.now) (g.L.Leaves.convention c.args.leaves.now) any_text (root_place c.args.shape)
      (val_of c.args.value.now) c.requires.shaped (subst (λ form. WritesForm form (g.L.Leaves.convention c.args.leaves.now))
      c.in-Json.is c.requires.writes) c.requires.shape c.requires.fits (c.if-not-all_carried.ensures.0 refl));
}

pub write_tree-requires-in-Cbor : goal.write_tree-requires-in-Cbor
write_tree-requires-in-Cbor g c = record {
  cbor = subst IsCbor (sym c.in_ok-tree.ensures.tree)
      (written_is_cbor (table_data c.args.table.now) (g.L.Leaves.convention c.args.leaves.now) any_text (root_place c.args.shape)
      (val_of c.args.value.now) c.requires.shaped (subst (λ form. WritesForm form (g.L.Leaves.convention c.args.leaves.now))
      c.in-Cbor.is c.requires.writes) c.requires.shape c.requires.fits (c.if-not-all_carried.ensures.0 refl));
}
