use Rattle.sm_tree.specs.View.{node_of}
use Rattle.sm_shapes.specs.Fitting.{any_text}
use Rattle.sm_shapes.specs.TableView.{table_data}
use Rattle.sm_shapes.specs.ValueView.{val_of}
use Rattle.sm_codec.specs.Encoded.{SpellsByEachTest}
use Rattle.sm_codec.specs.PlaceView.{place_of}
use Rattle.sm_codec.specs.Written.{written}
use Rattle.sm_codec.proofs.EncodedValues.{holds_if, spells_each}
use Rattle.sm_codec.proofs.PartsFit.{parts_fit, parts_carried}
use Rattle.sm_codec.proofs.encoding.encode_at.Goals as goal

pub tree_at-requires-clause-parts : goal.tree_at-requires-clause-parts
tree_at-requires-clause-parts g c =
    let t = table_data c.args.table.now in
    let v = val_of c.args.value.now in
    let p = place_of c.args.place in
    parts_carried t (g.L.Leaves.convention c.args.leaves.now) v p (parts_fit t any_text c.requires.shaped v p c.requires.place
    c.requires.fits)
    c.requires.carried

pub returns-clause-spells : goal.returns-clause-spells
returns-clause-spells g c =
    let t = table_data c.args.table.now in
    let l = g.L.Leaves.convention c.args.leaves.now in
    let v = val_of c.args.value.now in
    let p = place_of c.args.place in
    holds_if node_of (written t l p v) (SpellsByEachTest t l p v)
    (spells_each t l p v c.laws.ensures c.requires.shaped c.requires.place c.requires.carried) c.tree_at.result c.tree_at.ensures
