-- Laws of the events of trees: what follows a tree's events stands behind them, and the events of two
-- trees are the same only where the trees are. The proofs of readers cite them.
use Rattle.std.proofs.Common.{◌≡◌, List, [], ◌∷◌, ◌++◌, refl, ap, sym, ◌∙◌, append_assoc, None}
use Rattle.sm_tree.specs.Node.{Node, Nodes, Members, null, bool, int, number, text, bytes, tag, opaque, list, object, no_nodes, node}
use Rattle.sm_tree.specs.Node.{no_members, member}
use Rattle.sm_tree.specs.Events.{NodeEvent, tag_event, end_list, start_list, start_object, key_event, events, entries_events, pairs_events}

mutual
  pub events_append : (n : Node) (es : List NodeEvent) → events n es ≡ events n [] ++ es
  events_append null es = refl
  events_append (bool b) es = refl
  events_append (int z) es = refl
  events_append (number t) es = refl
  events_append (text t) es = refl
  events_append (bytes t) es = refl
  events_append (tag k n) es = ap (λ fs. tag_event k ∷ fs) (events_append n es)
  events_append (opaque b) es = refl
  events_append (list ns) es = ap (λ fs. start_list None ∷ fs) (entries_events_append ns es)
  events_append (object ms) es = ap (λ fs. start_object None ∷ fs) (pairs_events_append ms es)

  pub entries_events_append : (ns : Nodes) (es : List NodeEvent) → entries_events ns es ≡ entries_events ns [] ++ es
  entries_events_append no_nodes es = refl
  entries_events_append (node n ns) es =
      events_append n (entries_events ns es)
      ∙ ap (λ fs. events n [] ++ fs) (entries_events_append ns es)
      ∙ sym (append_assoc (events n []) (entries_events ns []) es)
      ∙ ap (λ fs. fs ++ es) (sym (events_append n (entries_events ns [])))

  pub pairs_events_append : (ms : Members) (es : List NodeEvent) → pairs_events ms es ≡ pairs_events ms [] ++ es
  pairs_events_append no_members es = refl
  pairs_events_append (member k n ms) es = ap (λ fs. key_event k ∷ fs)
      (events_append n (pairs_events ms es)
      ∙ ap (λ fs. events n [] ++ fs) (pairs_events_append ms es)
      ∙ sym (append_assoc (events n []) (pairs_events ms []) es)
      ∙ ap (λ fs. fs ++ es) (sym (events_append n (pairs_events ms []))))

-- no tree begins with the end of a list
pub not_an_end : (n : Node) (es fs : List NodeEvent) → end_list ∷ fs ≡ events n es → ⊥
not_an_end null es fs h = cc
not_an_end (bool b) es fs h = cc
not_an_end (int z) es fs h = cc
not_an_end (number t) es fs h = cc
not_an_end (text t) es fs h = cc
not_an_end (bytes t) es fs h = cc
not_an_end (tag k n) es fs h = cc
not_an_end (opaque b) es fs h = cc
not_an_end (list ns) es fs h = cc
not_an_end (object ms) es fs h = cc

mutual
  -- one tree a stream: the events of two trees, each with what follows, are the same only where both are
  pub events_injective : (n m : Node) (es fs : List NodeEvent) → events n es ≡ events m fs → (n ≡ m) × (es ≡ fs)
  events_injective null null es fs h = (refl, cc)
  events_injective null _ es fs h = absurd cc
  events_injective (bool b) (bool c) es fs h = (cc, cc)
  events_injective (bool b) _ es fs h = absurd cc
  events_injective (int b) (int c) es fs h = (cc, cc)
  events_injective (int b) _ es fs h = absurd cc
  events_injective (number b) (number c) es fs h = (cc, cc)
  events_injective (number b) _ es fs h = absurd cc
  events_injective (text b) (text c) es fs h = (cc, cc)
  events_injective (text b) _ es fs h = absurd cc
  events_injective (bytes b) (bytes c) es fs h = (cc, cc)
  events_injective (bytes b) _ es fs h = absurd cc
  events_injective (tag k n) (tag l m) es fs h =
      let rest : events n es ≡ events m fs = cc in
      let number : k ≡ l = cc in
      let content : (n ≡ m) × (es ≡ fs) = events_injective n m es fs rest in
      let same : n ≡ m = content.0 in
      (cc, content.1)
  events_injective (tag b n) _ es fs h = absurd cc
  events_injective (opaque b) (opaque c) es fs h = (cc, cc)
  events_injective (opaque b) _ es fs h = absurd cc
  events_injective (list ns) (list ms) es fs h =
      let rest : entries_events ns es ≡ entries_events ms fs = cc in
      let both : (ns ≡ ms) × (es ≡ fs) = entries_events_injective ns ms es fs rest in
      (ap list both.0, both.1)
  events_injective (list ns) _ es fs h = absurd cc
  events_injective (object ns) (object ms) es fs h =
      let rest : pairs_events ns es ≡ pairs_events ms fs = cc in
      let both : (ns ≡ ms) × (es ≡ fs) = pairs_events_injective ns ms es fs rest in
      (ap object both.0, both.1)
  events_injective (object ns) _ es fs h = absurd cc

  pub entries_events_injective : (ns ms : Nodes) (es fs : List NodeEvent) → entries_events ns es ≡ entries_events ms fs
      → (ns ≡ ms) × (es ≡ fs)
  entries_events_injective no_nodes no_nodes es fs h = (refl, cc)
  entries_events_injective no_nodes (node m ms) es fs h = absurd (not_an_end m (entries_events ms fs) es h)
  entries_events_injective (node n ns) no_nodes es fs h = absurd (not_an_end n (entries_events ns es) fs (sym h))
  entries_events_injective (node n ns) (node m ms) es fs h =
      let first : (n ≡ m) × (entries_events ns es ≡ entries_events ms fs) = events_injective n m (entries_events ns es)
      (entries_events ms fs) h in
      let others : (ns ≡ ms) × (es ≡ fs) = entries_events_injective ns ms es fs first.1 in
      (ap (λ k. node k ns) first.0 ∙ ap (λ ks. node m ks) others.0, others.1)

  pub pairs_events_injective : (ns ms : Members) (es fs : List NodeEvent) → pairs_events ns es ≡ pairs_events ms fs → (ns ≡ ms) × (es ≡ fs)
  pairs_events_injective no_members no_members es fs h = (refl, cc)
  pairs_events_injective no_members (member l m ms) es fs h = absurd cc
  pairs_events_injective (member k n ns) no_members es fs h = absurd cc
  pairs_events_injective (member k n ns) (member l m ms) es fs h =
      let name : k ≡ l = cc in
      let rest : events n (pairs_events ns es) ≡ events m (pairs_events ms fs) = cc in
      let first : (n ≡ m) × (pairs_events ns es ≡ pairs_events ms fs) = events_injective n m (pairs_events ns es)
      (pairs_events ms fs) rest in
      let others : (ns ≡ ms) × (es ≡ fs) = pairs_events_injective ns ms es fs first.1 in
      (ap (λ j. member j n ns) name ∙ ap (λ j. member l j ns) first.0 ∙ ap (λ js. member l m js) others.0, others.1)
