-- A walk that counts, past a pair.
use Rattle.std.proofs.Common.{◌≡◌, ℕ, ◌-◌, List, [], length, Bool, true, Option, Some, option_map, sym, ap, ◌∙◌, arith}
use Rattle.art_tree.specs.Leaves.{Numbered, leaf_in, Has, AreDistinct, with_value}
use Rattle.art_walk.specs.declared.cursor.Cursor.{Cursor}
use Rattle.art_walk.specs.Cursor.{leaves_left, FitsIn}
use Rattle.art_walk.specs.Lent.{numbers, count_fits}
use Rattle.art_walk.proofs.Lending.{Passes, to_count, count_test, count_is, moved, fewer_after, fits_now, fits_with, lent_count}
use Rattle.art_walk.proofs.Passing.{put_back}

module _ {K V : Type 0} (is_front : Bool) (ps : List (Numbered K V)) (distinct : AreDistinct ps) (old new : Cursor) (was : Option ℕ) (left : ℕ) (test : count_fits old was left (numbers ps) ≡ true) (fits : FitsIn new ps) where
  -- no pair was left
  pub count_ended : (o : Option ℕ) → Passes is_front (leaves_left old ps) o (leaves_left new ps) → (leaves_left old ps ≡ []) × (leaves_left new ps ≡ []) → count_fits new was left (numbers ps) ≡ true
  count_ended o passes none =
      to_count new was left ps (moved is_front ps old new was (count_test old was left ps test) fits o passes) (count_is old was left ps test ∙ ap length (none.0 ∙ sym none.1))

  module _ (id : ℕ) (passed : (x : K × V) × (leaves_left old ps ≡ put_back is_front (id, x) (leaves_left new ps))) where
    -- a pair was left, and is now the pair returned last
    pub count_now : Has ps id → count_fits new (Some id) (left - 1) (numbers ps) ≡ true
    count_now there =
        let h = fewer_after is_front old new ps id left (count_is old was left ps test) passed in
        to_count new (Some id) (left - 1) ps (fits_now is_front ps distinct old new was (count_test old was left ps test) fits id there passed) (omega arith)

    -- and then a value was written to it
    pub count_with : (v : V) → option_map (λ (p : K × V). p.1) (leaf_in ps id) ≡ Some v → (w : V) → count_fits new (Some id) (left - 1) (numbers (with_value ps id w)) ≡ true
    count_with v value w =
        let t = count_test old was left ps test in
        to_count new (Some id) (left - 1) (with_value ps id w) (fits_with is_front ps distinct old new was t fits id v value passed w)
        (lent_count is_front ps distinct old new was t fits id v value passed w left (count_is old was left ps test))
