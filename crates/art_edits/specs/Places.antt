-- A point where a pair may be placed, a pair that is placed, and a pair whose value is set.
use Rattle.std.specs.Prelude.{◌≡◌, ◌+◌, ℕ, List, Some, length, if◌then◌else◌}
use Rattle.blart_keys.specs.Content.{IsContent, IsPut}
use Rattle.blart_keys.specs.Steps.{bytes as pair_bytes}
use Rattle.blart_keys.specs.Stored.{kept, value_at, has, Updates}
use Rattle.art_tree.specs.Content.{Content, Fits, IsOpen}
use Rattle.art_tree.specs.Leaves.{Numbered, leaf_in, AreDistinct, bytes}
use Rattle.art_tree.specs.Points.{IsGood}
use Rattle.art_tree.specs.declared.tree.point.Point.{Point}
use Rattle.art_tree.specs.Pairs.{pairs_of}

module _ {K V : Type 0} (key_bytes : K → List ℕ) where
  -- the point is good for these bytes, a pair may be placed there, and there is room for it
  pub record IsReady (tree : Content K V) (point : Point) (q : List ℕ) : Type 0 where
    pub good : IsGood key_bytes tree.pairs point q
    pub «open» : IsOpen point
    pub fits : Fits tree point

  -- the pair is put, and is the pair of this number
  pub record IsPlaced (old : List (Numbered K V)) (key : K) (value : V) (id : ℕ) (new : List (Numbered K V)) : Type 0 where
    pub put : IsPut (pair_bytes key_bytes) (pairs_of old) (key, value) (pairs_of new)
    pub now : leaf_in new id ≡ Some (key, value)
    pub distinct : AreDistinct new
    pub content : IsContent (bytes key_bytes) old
    pub whole : IsContent (bytes key_bytes) new

  -- S' is S with w as the key's value: a pair is put if its bytes are new, and a stored key is kept
  abbrev pub IsSetAt : List (K × V) → K → V → List (K × V) → Type 0
  IsSetAt S key w S' =
      Updates key_bytes S S' (key_bytes key) (Some (kept key_bytes S (key, w)))
      × (value_at key_bytes S' (key_bytes key) ≡ Some w)
      × (length S' ≡ length S + (if has key_bytes S (key_bytes key) then 0 else 1))
      × IsPut (pair_bytes key_bytes) S (kept key_bytes S (key, w)) S'
