-- What each call leaves of the segments of a ring.
use Rattle.std.proofs.Common.{◌≡◌, ◌≢◌, ℕ, ◌+◌, ◌-◌, ◌*◌, ◌<◌, ◌≤◌, Bool, true, false, List, []}
use Rattle.std.proofs.Common.{◌∷◌, ◌++◌, length, take, arith, length-append, length-take, ap, sym}
use Rattle.std.proofs.Common.{◌∙◌, subst}
use Rattle.std.proofs.lemmas.List.{length_push}
use native.Mathlib.Nat.{suc-mul}
use Rattle.std.specs.List.{flat_map}
use Rattle.span_ring.specs.Run.{RunView}
use Rattle.span_ring.specs.Segments.{items_of, AreFull, AreSpare, AreSegments, others}
use Rattle.span_ring.proofs.Lengths.{length_items_of, one_more_spare}

module _ {X : Type 0} (queue batch : ℕ) (full : List (RunView X)) (filling : RunView X) where
  -- Where the ring isn't full but the segment being filled is, there is a spare segment.
  pub spare_to_fill : (spare : List (RunView X)) (len : ℕ) (run_out : Bool)
      → AreSegments full filling spare len queue batch run_out → len ≢ queue
      → length filling.items ≡ batch → 0 < length spare
  spare_to_fill [] len true are more filled =
      absurd (omega (
        arith,
        are.enough,
        are.counted,
        are.within,
        length_items_of batch full filling are.all_full,
        suc-mul (length full) batch,
      ))
  spare_to_fill [] len false are more filled = absurd (omega (arith, are.enough, are.begun))
  spare_to_fill (s ∷ spare) len run_out are more filled = omega arith

module _ {X : Type 0} (queue batch : ℕ) (full : List (RunView X)) (filling : RunView X)
    (spare : List (RunView X)) (len : ℕ) where
  -- A segment that comes back without items is spare.
  pub given_back : (s : RunView X) → AreSegments full filling spare len queue batch true
      → s.items ≡ [] → s.room ≡ batch
      → AreSegments full filling (spare ++ s ∷ []) len queue batch false
  given_back s are none room =
      let same : others full spare true ≡ others full (spare ++ s ∷ []) false =
      omega (arith, length_push spare s) in
      record {
        sizes = are.sizes;
        all_full = are.all_full;
        room = are.room;
        fits = are.fits;
        all_spare = one_more_spare batch spare s are.all_spare none room;
        counted = are.counted;
        within = are.within;
        begun = are.begun;
        enough = subst (λ (n : ℕ). queue ≤ n * batch) same are.enough;
      }

  -- An item that is put after the others, where there is room, keeps the segments in order.
  pub pushed : (full' : List (RunView X)) (filling' : RunView X) (spare' : List (RunView X))
      (run_out : Bool) (x : X)
      → AreSegments full filling spare len queue batch run_out → len ≢ queue
      → items_of full' filling' ≡ items_of full filling → AreFull batch full'
      → (length filling'.items < batch) × (filling'.room ≡ batch) → AreSpare batch spare'
      → length full' + length spare' ≡ length full + length spare
      → AreSegments full' (record filling' { items = filling'.items ++ x ∷ [] }) spare'
      (len + 1) queue batch run_out
  pushed full' filling' spare' run_out x are more items all_full fits all_spare count =
      let before = flat_map (λ (s : RunView X). s.items) full' in
      let same : others full spare run_out ≡ others full' spare' run_out = omega (arith, count) in
      let many : length (items_of full' filling') ≡ len = ap length items ∙ sym are.counted in
      let apart = length-append before filling'.items in let within = are.within in
      record {
        sizes = are.sizes;
        all_full = all_full;
        room = fits.1;
        fits = omega (arith, length_push filling'.items x);
        all_spare = all_spare;
        counted =
            omega
            (arith, length-append before (filling'.items ++ x ∷ []), length_push filling'.items x);
        within = omega arith;
        begun = omega (arith, length_items_of batch full' filling' all_full);
        enough = subst (λ (n : ℕ). queue ≤ n * batch) same are.enough;
      }

  -- A run of a ring that holds items has at least one item.
  pub run_has_items : (run_out : Bool) (run : RunView X)
      → AreSegments full filling spare len queue batch run_out → len ≢ 0
      → run.items ≡ take batch (items_of full filling) → 0 < length run.items
  run_has_items run_out run are some front =
      let positive = are.sizes.positive in
      omega (arith, length-take batch (items_of full filling), ap length front, are.counted)

  -- When the first segment with items leaves as a run, the segments that stay are in order.
  pub taken : (full' : List (RunView X)) (filling' : RunView X) (spare' : List (RunView X))
      (run : RunView X)
      → AreSegments full filling spare len queue batch false
      → items_of full filling ≡ run.items ++ items_of full' filling' → 0 < length run.items
      → AreFull batch full'
      → (length filling'.items ≤ batch) × (filling'.room ≡ batch) → AreSpare batch spare'
      → length full' + length spare' + 1 ≡ length full + length spare
      → AreSegments full' filling' spare' (len - length run.items) queue batch true
  taken full' filling' spare' run are items some all_full fits all_spare count =
      let same : others full spare false ≡ others full' spare' true = omega (arith, count) in
      let parts : len ≡ length run.items + length (items_of full' filling') =
      are.counted ∙ ap length items ∙ length-append run.items (items_of full' filling') in
      let within = are.within in
      record {
        sizes = are.sizes;
        all_full = all_full;
        room = fits.1;
        fits = fits.0;
        all_spare = all_spare;
        counted = omega arith;
        within = omega arith;
        begun = omega (arith, length_items_of batch full' filling' all_full);
        enough = subst (λ (n : ℕ). queue ≤ n * batch) same are.enough;
      }
