-- A closure that is called on each item in turn, and its state after the last call.
use Rattle.std.specs.Prelude.{◌≡◌, Bool, List}
use Rattle.blart_keys.specs.Walks.{Retains}

module _ {F X : Type 0} (R : F → X → Bool → X → F → Type 0) where
  -- `retain` by a closure in the state f: it was called once on each item, in order, and the items
  -- for which it returned true remain. It was not called again, since g is its state after the last
  -- call
  pub record RetainsBy (old : List X) (f : F) (new : List X) (g : F) : Type 0 where
    pub retains : Retains R old f new
    pub last : retains.after ≡ g
