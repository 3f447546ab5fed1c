-- What raw_view gives, variant by variant, for code that makes or reads such nodes: other crates cite these.
use Rattle.std.proofs.Common.{◌≡◌, ℕ, List, sym, ap, ◌∙◌, rules}
use Rattle.sm_model.specs.Raw.{Raw, raw_list, raw_object, raws_of, raw_members_of}
use Rattle.sm_model.specs.RawView.{raw_step, raw_items_step, raw_pairs_step, raw_view, raw_items_view, raw_pairs_view}
use Rattle.sm_model.specs.declared.raw.RawItems.{RawItems}
use Rattle.sm_model.specs.declared.raw.RawPairs.{RawPairs}
use Rattle.sm_model.specs.declared.raw.RawNode.{the_lemmas}
use Rattle.sm_model.specs.declared.raw.RawNode.TheVariants.{List as Array, Object, rolls-Object}
use Rattle.sm_model.specs.declared.raw.RawNode.TheFolds.{fold-roll-RawNode}

pub view_list : (v : RawItems) → raw_view (Array v) ≡ raw_list (raws_of (raw_items_view v))
view_list v = search (rules, the_lemmas)

pub view_object : (p : RawPairs) → raw_view (Object p) ≡ raw_object (raw_members_of (raw_pairs_view p))
view_object p = ap raw_view (sym (rolls-Object p))
    ∙ fold-roll-RawNode Raw (List Raw) (List (List ℕ × Raw)) raw_step raw_items_step raw_pairs_step _
