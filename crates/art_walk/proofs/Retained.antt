-- The items that `retain` keeps, one by one.
use Rattle.std.proofs.Common.{◌≡◌, Bool, true, false, List, [], ◌∷◌, refl, ap, sym, subst}
use Rattle.blart_keys.specs.Walks.{picked}
use Rattle.art_walk.specs.Asking.{RetainsBy}

module _ {F X : Type 0} (R : F → X → Bool → X → F → Type 0) where
  -- there are no more items
  pub retains_none : (f : F) → RetainsBy R [] f [] f
  retains_none f = record { retains = record { answers = []; left = []; after = f; asked = refl; kept = refl }; last = refl }

  module _ (x y : X) (items rest : List X) (f f' g : F) (b : Bool) (asks : R f x b y f') (r : RetainsBy R items f' rest g) where
    -- the closure is called on one more item, which remains
    pub retains_kept : b ≡ true → RetainsBy R (x ∷ items) f (y ∷ rest) g
    retains_kept e = record {
      retains = record {
        answers = b ∷ r.retains.answers;
        left = y ∷ r.retains.left;
        after = r.retains.after;
        asked = (f', asks, r.retains.asked);
        kept = subst (λ c. y ∷ rest ≡ picked (c ∷ r.retains.answers) (y ∷ r.retains.left)) (sym e) (ap (λ l. y ∷ l) r.retains.kept);
      };
      last = r.last;
    }

    -- the closure is called on one more item, which is removed
    pub retains_gone : b ≡ false → RetainsBy R (x ∷ items) f rest g
    retains_gone e = record {
      retains = record {
        answers = b ∷ r.retains.answers;
        left = y ∷ r.retains.left;
        after = r.retains.after;
        asked = (f', asks, r.retains.asked);
        kept = subst (λ c. rest ≡ picked (c ∷ r.retains.answers) (y ∷ r.retains.left)) (sym e) r.retains.kept;
      };
      last = r.last;
    }
