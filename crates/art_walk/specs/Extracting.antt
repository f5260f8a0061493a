-- A closure that is called on each pair in turn, up to the first for which it returns true.
use Rattle.std.specs.Prelude.{◌≡◌, List, [], ◌∷◌, Option, Some, None, Bool}
use Rattle.std.specs.Borrow.{Bor, MutBor}
use Rattle.std.specs.Bool.{MatchBool}
use Rattle.std.specs.Map.Calls.{CalledAtPair}
use denote.Param.Members.{Mut}
use Rattle.art_tree.specs.Leaves.{Numbered, leaf_in, with_value, without_number}

-- the state of a walk that extracts: the pairs of the map, the closure, and the pairs that are left
pub record Extraction (K V F : Type 0) : Type 0 where
  pub map : List (Numbered K V)
  pub closure : F
  pub left : List (Numbered K V)

-- the state with these three parts
abbrev pub stands_at : {K V F : Type 0} → List (Numbered K V) → F → List (Numbered K V) → Extraction K V F
stands_at map closure left = record { map = map; closure = closure; left = left }

module _ {K V F : Type 0} (g : Mut F (Bor K × (MutBor V × Unit {0})) (Bool × (MutBor V × Unit {0}))) where
  -- a closure in the state f is called on each of these pairs in turn, as `ExtractsFirstTrue` says
  abbrev pub asked_from : List (Numbered K V) → F → List (Numbered K V) → Option (K × V) → Extraction K V F → Type 0
  asked_from map f [] result t = (result ≡ None) × (t.map ≡ map) × (t.closure ≡ f) × (t.left ≡ [])
  asked_from map f (p ∷ coming) result t =
      (answer : Bool) × (w : V) × (h : F) × (leaf_in map p.0 ≡ Some p.1) × CalledAtPair g f p.1.0 p.1.1 answer w h
      × MatchBool answer
      ((result ≡ Some (p.1.0, w)) × (t.map ≡ without_number map p.0) × (t.closure ≡ h) × (t.left ≡ coming))
      (asked_from (with_value map p.0 w) h coming result t)

  -- The closure was called once on each pair that was left, in order, up to the first for which it
  -- returned true. That pair is the result, with the value that the closure left, and the map no
  -- longer has it. The pairs before it have the values that the closure left. The closure was not
  -- called on the rest
  abbrev pub ExtractsFirstTrue : Extraction K V F → Option (K × V) → Extraction K V F → Type 0
  ExtractsFirstTrue s result t = asked_from s.map s.closure s.left result t
