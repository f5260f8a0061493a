-- What a walk from both ends returned.
use Rattle.std.proofs.Common.{◌≡◌, List, [], ◌∷◌, ◌++◌, ap, sym, ◌∙◌, Some, reverse, append_assoc, append-nil}
use Rattle.std.proofs.lemmas.List.{reverse-append}
use Rattle.blart_keys.specs.Walks.{TakesFirst, TakesLast, Walked}

module _ {X : Type 0} (whole fronts backs : List X) where
  -- one more item is returned from the front
  pub walked_first : (rest rest' : List X) (x : X) → Walked whole fronts backs rest → TakesFirst rest (Some x) rest' → Walked whole (fronts ++ x ∷ []) backs rest'
  walked_first rest rest' x walked takes = walked ∙ ap (λ r. fronts ++ (r ++ reverse backs)) takes ∙ sym (append_assoc fronts (x ∷ []) (rest' ++ reverse backs))

  -- one more item is returned from the back
  pub walked_last : (rest rest' : List X) (x : X) → Walked whole fronts backs rest → TakesLast rest (Some x) rest' → Walked whole fronts (backs ++ x ∷ []) rest'
  walked_last rest rest' x walked takes =
      walked ∙ ap (λ r. fronts ++ (r ++ reverse backs)) takes
      ∙ ap (λ r. fronts ++ r) (append_assoc rest' (x ∷ []) (reverse backs) ∙ ap (λ r. rest' ++ r) (sym (reverse-append backs (x ∷ []))))

  -- at the end of a walk, `fronts` and the reverse of `backs` are the whole
  pub walked_end : (rest : List X) → Walked whole fronts backs rest → rest ≡ [] → whole ≡ fronts ++ reverse backs
  walked_end rest walked none = walked ∙ ap (λ r. fronts ++ (r ++ reverse backs)) none

-- at first no item was returned
pub walked_start : {X : Type 0} (whole : List X) → Walked whole [] [] whole
walked_start whole = sym (append-nil whole)
