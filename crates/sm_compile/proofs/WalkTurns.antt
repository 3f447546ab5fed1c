-- The turns of a walk that enters each shape once, as the code takes them.
use Rattle.std.proofs.Common.{◌≡◌, ℕ, ◌+◌, ◌<◌, Bool, true, false, not, cond, List, [], ◌∷◌, ◌++◌, map, length, get_or, reverse, refl, sym}
use Rattle.std.proofs.Common.{ap, ◌∙◌, subst, arith, length-append}
use Rattle.std.specs.Prelude.{replicate, set}
use Rattle.std.specs.Global.{Vec}
use Rattle.std.specs.List.{count_by, join_with_byte}
use Rattle.std.proofs.lemmas.List.{get_or-replicate, length-replicate, length-set, map-append, reverse-append, reverse-reverse}
use Rattle.std.proofs.lemmas.List.Sums.{sum_by-set}
use Rattle.sm_bytes.specs.Ascii.{slash}
use Rattle.sm_model.specs.GraphView.{AreShapeNumbers, IsShapeNumber, entries_of, maps_of}
use Rattle.sm_model.specs.Reaching.{AreFound, id_of_number}
use Rattle.sm_model.specs.declared.graph.Graph.{Graph}
use Rattle.sm_model.proofs.Worklist.{found_none, mark_new}
use Rattle.sm_compile.specs.Answers.{TellsServed}
use Rattle.sm_compile.specs.Served.{IsServed, IsUnserved, WayStep}
use Rattle.sm_compile.specs.WayRooms.{AreKnownServed, IsClearWalk}
use Rattle.sm_compile.specs.declared.compiled.Served.TheVariants.{Yes, Unserved}
use Rattle.sm_compile.specs.declared.way.Above.{Above}
use Rattle.sm_compile.specs.declared.way.NextStep.{NextStep}
use Rattle.sm_compile.specs.declared.way.Turn.TheVariants.{On, Ended}
use Rattle.sm_compile.specs.declared.way.Walk.{Walk}
use Rattle.sm_compile.specs.steps.Carrying.{IsMarkedId}
use Rattle.sm_compile.specs.steps.Walking.{AreEntered, IsNext, IsWalk, NoneIsNext, StandsAt, Turns, path_by}
use Rattle.sm_compile.proofs.FirstWays.{first_way, none_found, nothing_before}
use Rattle.sm_compile.proofs.ReachedNumbers.{numbers_joined}
use Rattle.sm_compile.proofs.WalkSteps.{all_taken, fresh_id, stands_more, walk_begun, walk_enters, walk_leaves}

-- the last of some numbers, and those before it
numbers_parted : (g : Graph) (ns : List ℕ) (n : ℕ) → AreShapeNumbers g (ns ++ n ∷ []) → AreShapeNumbers g ns × IsShapeNumber g n
numbers_parted g [] n h = (tt, h.0)
numbers_parted g (m ∷ ns) n h = let rest = numbers_parted g ns n h.1 in ((h.0, rest.0), rest.1)

-- one mark more is one less to set
fewer : (marks : List Bool) (k : ℕ) → k < length marks → get_or marks k false ≡ false
    → count_by not (set marks k true) + 1 ≡ count_by not marks
fewer marks k lt fresh =
    let counted = sum_by-set (λ m. cond (not m) 1 0) marks k true false lt in
    let was : ◌≡◌ {A = ℕ} (cond (not (get_or marks k false)) 1 0) 1 = ap (λ (m : Bool). cond {A = ℕ} (not m) 1 0) fresh in
    omega (arith, counted, was)

nil_of : (xs : List Above) → length xs ≡ 0 → xs ≡ []
nil_of [] h = refl
nil_of (x ∷ xs) h = absurd (omega (arith, h))

module _ (g : Graph) where
  -- what is known of numbers is known of ids
  sure_ids : (known : List Bool) → AreKnownServed g known → (x : List ℕ) → IsMarkedId g known x → IsServed (maps_of g) x
  sure_ids known h x (k, lt, marked, is) = subst (IsServed (maps_of g)) is (h.served k marked)

  -- nothing is entered in clear room
  pub clear_entered : (w : Walk) → IsClearWalk g w → AreEntered g w
  clear_entered w clear = record {
    count = ap (λ ms. length ms) clear.marks ∙ length-replicate (length (entries_of g)) false;
    found = subst (λ ms. AreFound ms w.entered.items) (sym clear.marks)
        (subst (AreFound (replicate (length (entries_of g)) false)) (sym clear.entered) (found_none (length (entries_of g))));
    known = clear.known;
  }

  -- what was entered is taken back
  pub cleared : (w now : Walk) → AreEntered g w → now.marks.items ≡ replicate (length w.marks.items) false → now.entered.items ≡ []
      → now.above.items ≡ [] → now.known.items ≡ w.known.items → IsClearWalk g now
  cleared w now kept marks entered above known = record {
    marks = marks ∙ ap (λ n. replicate n false) kept.count;
    entered = entered;
    above = above;
    known = subst (AreKnownServed g) (sym known) kept.known;
  }

  -- one shape more is entered
  pub entered_more : (before now : Walk) (k : ℕ) → AreEntered g before → IsShapeNumber g k → get_or before.marks.items k false ≡ false
      → now.marks.items ≡ set before.marks.items k true → now.entered.items ≡ before.entered.items ++ k ∷ []
      → now.known.items ≡ before.known.items → AreEntered g now
  entered_more before now k h lt fresh set_now put same =
      let within : k < length before.marks.items = omega (arith, h.count, lt) in
      let more = mark_new before.marks.items before.entered.items k within h.found fresh in
      record {
        count = ap (λ ms. length ms) set_now ∙ length-set before.marks.items k true ∙ h.count;
        found = subst (λ ms. AreFound ms now.entered.items) (sym set_now)
            (subst (AreFound (set before.marks.items k true)) (sym put) more.are);
        known = subst (AreKnownServed g) (sym same) h.known;
      }

  -- the root, in clear room
  pub root_entered : (before now : Walk) (root : ℕ) → IsClearWalk g before → IsShapeNumber g root
      → now.marks.items ≡ set before.marks.items root true → now.entered.items ≡ before.entered.items ++ root ∷ []
      → now.known.items ≡ before.known.items → AreEntered g now
  root_entered before now root clear lt set_now put same =
      entered_more before now root (clear_entered before clear) lt
      (ap (λ ms. get_or ms root false) clear.marks ∙ get_or-replicate (length (entries_of g)) root false false lt) set_now put same

  pub begins : (root : ℕ) (w : Walk) (marks : Vec Bool) (entered : Vec ℕ) → IsClearWalk g w → marks.items ≡ set w.marks.items root true
      → entered.items ≡ w.entered.items ++ root ∷ [] → IsShapeNumber g root → (IsUnserved (maps_of g) (id_of_number g root) → ⊥)
      → IsWalk g (id_of_number g root) (record { known = w.known; marks = marks; entered = entered; above = w.above; shape = root; at = 0 })
  begins root w marks entered clear set_now put lt served =
      let count = length (entries_of g) in
      let whole : marks.items ≡ set (replicate count false) root true = set_now ∙ ap (λ ms. set ms root true) clear.marks in
      record {
        kept = root_entered w (record { known = w.known; marks = marks; entered = entered; above = w.above; shape = root; at = 0 }) root
            clear lt set_now put refl;
        shape = lt;
        above = subst (λ xs. AreShapeNumbers g (map (λ (b : Above). b.shape) xs)) (sym clear.above) tt;
        stands = subst (λ xs. StandsAt g w.known.items (id_of_number g root) marks.items (id_of_number g root) 0 (reverse xs)) (sym clear.above)
            (subst (λ ms. StandsAt g w.known.items (id_of_number g root) ms (id_of_number g root) 0 []) (sym whole)
            (walk_begun g w.known.items root count refl (length-replicate count false) lt served));
      }

  -- into the next shape
  pub enters : (w : Walk) (next : NextStep) (marks : Vec Bool) (entered : Vec ℕ) (above : Vec Above)
      → IsNext g w.known.items w.marks.items w.shape w.at next
      → (IsUnserved (maps_of g) (id_of_number g next.to) → ⊥) → marks.items ≡ set w.marks.items next.to true
      → entered.items ≡ w.entered.items ++ next.to ∷ []
      → above.items ≡ w.above.items ++ (record { shape = w.shape; at = next.at; name = next.name }) ∷ []
      → Turns g w (record { known = w.known; marks = marks; entered = entered; above = above; shape = next.to; at = 0 }) On
  enters w next marks entered above is served set_now found put root h =
      let a : Above = record { shape = w.shape; at = next.at; name = next.name } in
      let turned : reverse above.items ≡ a ∷ reverse w.above.items = ap (λ xs. reverse xs) put ∙ reverse-append w.above.items (a ∷ []) in
      let numbers : map (λ (b : Above). b.shape) above.items ≡ map (λ (b : Above). b.shape) w.above.items ++ w.shape ∷ [] =
      ap (λ xs. map (λ (b : Above). b.shape) xs) put ∙ map-append (λ (b : Above). b.shape) w.above.items (a ∷ []) in
      let within : next.to < length w.marks.items = omega (arith, h.kept.count, is.target) in
      let less = fewer w.marks.items next.to within is.fresh in
      let now : count_by not marks.items ≡ count_by not (set w.marks.items next.to true) = ap (λ ms. count_by not ms) set_now in
      let long : length above.items ≡ length w.above.items + 1 = ap (λ xs. length xs) put ∙ length-append w.above.items (a ∷ []) in (
        record {
          kept = entered_more w (record { known = w.known; marks = marks; entered = entered; above = above; shape = next.to; at = 0 })
              next.to h.kept is.target is.fresh set_now found refl;
          shape = is.target;
          above = subst (AreShapeNumbers g) (sym numbers)
              (numbers_joined g (map (λ (b : Above). b.shape) w.above.items) (w.shape ∷ []) h.above (h.shape, tt));
          stands = subst (λ xs. StandsAt g w.known.items root marks.items (id_of_number g next.to) 0 xs) (sym turned)
              (subst (λ ms. StandsAt g w.known.items root ms (id_of_number g next.to) 0 (a ∷ reverse w.above.items)) (sym set_now)
              (walk_enters g w.known.items root w.marks.items a (reverse w.above.items) next.to h.kept.count is.target
              (stands_more g w.known.items root w.marks.items (id_of_number g w.shape) w.at next.at (reverse w.above.items) h.stands is.before) is.step
              is.fresh served));
        },
        omega (arith, less, now, long),
      )

  -- back to the one before
  pub leaves : (w : Walk) (a : Above) (above : Vec Above) → w.above.items ≡ above.items ++ a ∷ []
      → NoneIsNext g w.known.items w.marks.items w.shape w.at
      → Turns g w (record { known = w.known; marks = w.marks; entered = w.entered; above = above; shape = a.shape; at = a.at }) On
  leaves w a above parts none root h =
      let turned : reverse w.above.items ≡ a ∷ reverse above.items = ap (λ xs. reverse xs) parts ∙ reverse-append above.items (a ∷ []) in
      let numbers : map (λ (b : Above). b.shape) w.above.items ≡ map (λ (b : Above). b.shape) above.items ++ a.shape ∷ [] =
      ap (λ xs. map (λ (b : Above). b.shape) xs) parts ∙ map-append (λ (b : Above). b.shape) above.items (a ∷ []) in
      let parted = numbers_parted g (map (λ (b : Above). b.shape) above.items) a.shape (subst (AreShapeNumbers g) numbers h.above) in
      let long : length w.above.items ≡ length above.items + 1 = ap (λ xs. length xs) parts ∙ length-append above.items (a ∷ []) in (
        record {
          kept = record { count = h.kept.count; found = h.kept.found; known = h.kept.known };
          shape = parted.1;
          above = parted.0;
          stands = walk_leaves g w.known.items root w.marks.items (id_of_number g w.shape) w.at a (reverse above.items)
              (subst (λ xs. StandsAt g w.known.items root w.marks.items (id_of_number g w.shape) w.at xs) turned h.stands)
              (all_taken g w.known.items root w.marks.items (id_of_number g w.shape) w.at (reverse w.above.items) h.stands none);
        },
        omega (arith, long),
      )

  -- the end, where there is none before
  pub ends : (w now : Walk) → length w.above.items ≡ 0 → NoneIsNext g w.known.items w.marks.items w.shape w.at → Turns g w now (Ended Yes)
  ends w now nothing none root h =
      none_found g w.known.items (sure_ids w.known.items h.kept.known) root w.marks.items (id_of_number g w.shape) w.at
      (subst (λ xs. StandsAt g w.known.items root w.marks.items (id_of_number g w.shape) w.at xs)
      (ap (λ xs. reverse xs) (nil_of w.above.items nothing)) h.stands)
      (all_taken g w.known.items root w.marks.items (id_of_number g w.shape) w.at (reverse w.above.items) h.stands none)

  -- the end, where the next shape isn't served
  pub finds : (w now : Walk) (next : NextStep) (path : List ℕ) → IsNext g w.known.items w.marks.items w.shape w.at next
      → IsUnserved (maps_of g) (id_of_number g next.to) → path ≡ path_by w.above.items next.name.now
      → Turns g w now (Ended (Unserved path))
  finds w now next path is unserved told root h =
      let step : WayStep = record { at = next.at; name = next.name.now; to = id_of_number g next.to } in
      let found =
      first_way g w.known.items (sure_ids w.known.items h.kept.known) root w.marks.items (id_of_number g w.shape) (reverse w.above.items) step
      (stands_more g w.known.items root w.marks.items (id_of_number g w.shape) w.at next.at (reverse w.above.items) h.stands is.before) is.step unserved
      (fresh_id g w.marks.items next.to is.target is.fresh) in (
        found.0,
        found.1,
        told ∙ sym (ap (join_with_byte slash) (found.2
            ∙ ap (λ xs. map (λ (b : Above). b.name.now) xs ++ next.name.now ∷ []) (reverse-reverse w.above.items))),
      )

  -- the root itself isn't served
  pub finds_root : (root : List ℕ) (path : List ℕ) → IsUnserved (maps_of g) root → path ≡ [] → TellsServed (maps_of g) root (Unserved path)
  finds_root root path unserved is = (
    [],
    record { simple = (unserved, (tt, tt)); first = λ other simple less. nothing_before other less },
    is,
  )
