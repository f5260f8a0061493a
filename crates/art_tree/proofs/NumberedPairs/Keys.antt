-- Pairs under their numbers.
use Rattle.std.proofs.Common.{◌≡◌, ℕ, List, refl, ap, sym, ◌∙◌, Some, option_map}
use Rattle.blart_keys.proofs.Options.{mapped_some, is_some, some_of}
use Rattle.blart_keys.proofs.RankLemmas.{Member}
use Rattle.art_tree.specs.Begins.{Bytes}
use Rattle.art_tree.proofs.NumberedPairs.Numbers.{leaf_in-member, Member-from_leaf_in}
use Rattle.art_tree.specs.Leaves.{Numbered, leaf_in, Has, AreDistinct, bytes, keys_in}

module _ {K V : Type 0} where
  module _ (key_bytes : K → Bytes) where
    -- the pair of a key
    pub pair_of_key : (ps : List (Numbered K V)) (i : ℕ) (k : Bytes) → keys_in key_bytes ps i ≡ Some k → (p : K × V) × (leaf_in ps i ≡ Some p) × (key_bytes p.0 ≡ k)
    pair_of_key ps i k e = mapped_some (λ (x : K × V). key_bytes x.0) (leaf_in ps i) k e

    -- the key of a pair
    pub key_of_pair : (ps : List (Numbered K V)) (i : ℕ) (p : K × V) → leaf_in ps i ≡ Some p → keys_in key_bytes ps i ≡ Some (key_bytes p.0)
    key_of_pair ps i p e = ap (option_map (λ (x : K × V). key_bytes x.0)) e

    -- the bytes that were read are the key's
    pub key_read : (ps : List (Numbered K V)) (i : ℕ) {p : K × V} {k : Bytes} → leaf_in ps i ≡ Some p → k ≡ key_bytes p.0 → keys_in key_bytes ps i ≡ Some k
    key_read ps i {p} e k_is = key_of_pair ps i p e ∙ ap Some (sym k_is)

    -- the key of a pair of the list
    pub key_of_member : (ps : List (Numbered K V)) (x : Numbered K V) → AreDistinct ps → Member x ps → keys_in key_bytes ps x.0 ≡ Some (bytes key_bytes x)
    key_of_member ps x d m = key_of_pair ps x.0 x.1 (leaf_in-member ps x.0 x.1 d m)

    -- the pair of the list that has a key
    pub member_of_key : (ps : List (Numbered K V)) (i : ℕ) (k : Bytes) → keys_in key_bytes ps i ≡ Some k → (x : Numbered K V) × Member x ps × (x.0 ≡ i) × (bytes key_bytes x ≡ k)
    member_of_key ps i k e = let r = pair_of_key ps i k e in ((i, r.0), Member-from_leaf_in ps i r.0 r.1, refl, r.2)

    -- a number with a key is a number of the list
    pub has_key : (ps : List (Numbered K V)) (i : ℕ) (k : Bytes) → keys_in key_bytes ps i ≡ Some k → Has ps i
    has_key ps i k e = let p = pair_of_key ps i k e in is_some (leaf_in ps i) p.0 p.1

    -- and each number of the list has a key
    pub key_of_number : (ps : List (Numbered K V)) (i : ℕ) → Has ps i → (k : Bytes) × (keys_in key_bytes ps i ≡ Some k)
    key_of_number ps i h = let p = some_of (leaf_in ps i) h in (key_bytes p.0.0, key_of_pair ps i p.0 p.1)
