-- What a map is once a returned `&mut` to one of its values ends.
use Rattle.std.specs.Prelude.{◌≡◌, ℕ, List, Option}
use Rattle.std.specs.Borrow.{LendsSo, Fml, RattleType, MutBor}
use Rattle.blart_keys.specs.declared.AsBytes.{Ghosts}
use Rattle.blart_keys.specs.Stored.{written_at, written_at_front, WritesAt, WritesAtFront}
use Rattle.blart_map.specs.Content.{Numbered, pairs}
use Rattle.blart_map.specs.contracts.map.TreeMap as tree_map

module _ {K V : Type 0} (key_bytes : K → List ℕ) (S : List (K × V)) (q : List ℕ) (v : V) (S' : List (K × V)) where
  -- S' is S with this value at the bytes q, as a list and as its users see it
  abbrev pub IsWrittenAt : Type 0
  IsWrittenAt = (S' ≡ written_at key_bytes S q v) × WritesAt key_bytes S q v S'

  -- S' is S with this value at the bytes that are a prefix of q, as a list and as its users see it
  abbrev pub IsWrittenAtFront : Type 0
  IsWrittenAtFront = (S' ≡ written_at_front key_bytes S q v) × WritesAtFront key_bytes S q v S'

module _ (K V P : RattleType) (g : Ghosts K.Denot) where
  -- once the borrow r ends, the pair with the bytes q has the last value written through r
  abbrev pub lends_at : MutBor (List (Numbered K.Denot V.Denot)) → List ℕ → Option (MutBor V.Denot) → Fml
  lends_at s q r = LendsSo (tree_map.the_row K V P g) V s r (λ n v. IsWrittenAt g.bytes (pairs s.now) q v (pairs n)) (λ n. n ≡ s.now)

  -- once r ends, the pair whose bytes are a prefix of q has the last value written through r
  abbrev pub lends_at_front : MutBor (List (Numbered K.Denot V.Denot)) → List ℕ → Option (MutBor V.Denot) → Fml
  lends_at_front s q r = LendsSo (tree_map.the_row K V P g) V s r (λ n v. IsWrittenAtFront g.bytes (pairs s.now) q v (pairs n)) (λ n. n ≡ s.now)
