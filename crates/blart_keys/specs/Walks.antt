-- Walks from both ends, and a closure that is called on item after item.
use Rattle.std.specs.Prelude.{◌≡◌, Bool, true, false, List, [], ◌∷◌, ◌++◌, Option, Some, None, reverse, ⊤}
use denote.Ref.{Bor, MutBor}
use denote.Param.Members.{Mut}
use Rattle.std.specs.Map.Calls.{CalledAtPair}

-- `next`: the first item, if there is one, is removed
abbrev pub TakesFirst : {X : Type 0} → List X → Option X → List X → Type 0
TakesFirst old None new = (old ≡ []) × (new ≡ [])
TakesFirst old (Some x) new = old ≡ x ∷ new

-- `next_back`: the last item, if there is one, is removed
abbrev pub TakesLast : {X : Type 0} → List X → Option X → List X → Type 0
TakesLast old None new = (old ≡ []) × (new ≡ [])
TakesLast old (Some x) new = old ≡ new ++ x ∷ []

-- `fronts` were returned from the front of `whole`, and `backs` from the back; `rest` is left
abbrev pub Walked : {X : Type 0} → List X → List X → List X → List X → Type 0
Walked whole fronts backs rest = whole ≡ fronts ++ (rest ++ reverse backs)

-- `R f x b y g`: in the state f, called on x, a closure may return b, leave y for x and the state g
module _ {F X : Type 0} (R : F → X → Bool → X → F → Type 0) where
  -- The closure was called once on each item, in order, from the state f to g. It returned these
  -- booleans, and changed the items to those of `left`
  abbrev pub Asked : List X → F → List Bool → List X → F → Type 0
  Asked [] f [] [] g = f ≡ g
  Asked (x ∷ items) f (b ∷ answers) (y ∷ left) g = (h : F) × R f x b y h × Asked items h answers left g
  Asked _ f _ _ g = ⊥

-- the items at which the list has `true`
abbrev pub picked : {X : Type 0} → List Bool → List X → List X
picked (true ∷ answers) (x ∷ items) = x ∷ picked answers items
picked (false ∷ answers) (x ∷ items) = picked answers items
picked _ _ = []

-- each boolean is false
abbrev pub AllFalse : List Bool → Type 0
AllFalse [] = ⊤
AllFalse (b ∷ answers) = (b ≡ false) × AllFalse answers

module _ {F X : Type 0} (R : F → X → Bool → X → F → Type 0) where
  -- `retain`: the closure is called on each item, and the items for which it returns true are kept
  pub record Retains (old : List X) (f : F) (new : List X) : Type 0 where
    pub answers : List Bool
    pub left : List X
    pub after : F
    pub asked : Asked R old f answers left after
    pub kept : new ≡ picked answers left

  -- the calls end at the first true answer, or at the end of the items
  abbrev pub EndsAt : List X → List X → Option X → F → List X → F → Type 0
  EndsAt coming before None between rest g = (coming ≡ before) × (rest ≡ []) × (between ≡ g)
  EndsAt coming before (Some y) between rest g = (x : X) × (coming ≡ before ++ x ∷ rest) × R between x true y g

  -- One `next` of `extract_if`, from the state f to g. The closure is called on the items that are
  -- left, up to the first for which it returns true, which is removed as the closure left it. The
  -- items before it are kept as the closure left them, and the rest is left
  pub record ExtractsFirst (coming : List X) (f : F) (result : Option X) (kept : List X) (rest : List X) (g : F) : Type 0 where
    pub before : List X
    pub answers : List Bool
    pub between : F
    pub asked : Asked R before f answers kept between
    pub passed : AllFalse answers
    pub end : EndsAt coming before result between rest g

-- a closure that is called on a pair may change its value, but not its key
module _ {F K V : Type 0} (g : Mut F (Bor K × (MutBor V × Unit {0})) (Bool × (MutBor V × Unit {0}))) where
  pub record AsksPair (f : F) (pair : K × V) (answer : Bool) (left : K × V) (f' : F) : Type 0 where
    pub called : CalledAtPair g f pair.0 pair.1 answer left.1 f'
    pub same_key : left.0 ≡ pair.0
