-- A cursor over a map's tree fits the map.
use Rattle.std.proofs.Common.{◌≡◌, ℕ, List, length, None, true, sym, ap, ◌∙◌, subst}
use Rattle.art_tree.specs.Leaves.{Numbered}
use Rattle.art_walk.specs.declared.cursor.Cursor.{Cursor}
use Rattle.art_walk.specs.Cursor.{leaves_left, FitsIn}
use Rattle.art_walk.specs.Lent.{walk_fits, count_fits, numbers}
use Rattle.art_walk.proofs.Lending.{to_test, to_count}

module _ {K V : Type 0} (c : Cursor) (ps S : List (Numbered K V)) (view : ps ≡ S) (fits : FitsIn c ps) where
  pub opens : walk_fits c None (numbers S) ≡ true
  opens = subst (λ (l : List (Numbered K V)). walk_fits c None (numbers l) ≡ true) view (to_test c None ps fits tt)

  pub opens_counted : (n : ℕ) → n ≡ length ps → leaves_left c ps ≡ ps → count_fits c None n (numbers S) ≡ true
  opens_counted n count left = subst (λ (l : List (Numbered K V)). count_fits c None n (numbers l) ≡ true) view (to_count c None n ps (to_test c None ps fits tt) (count ∙ sym (ap length left)))
