-- How a query parts from the keys, and what point follows.
use Rattle.std.proofs.Common.{◌≡◌, ℕ, ◌<◌, true, false, List, inl, length, ap, Option, Some, arith}
use Rattle.blart_keys.specs.Bytes.{related}
use Rattle.blart_keys.specs.Content.{IsContent}
use Rattle.art_tree.specs.Begins.{Bytes}
use Rattle.art_tree.specs.Calls.Stops.{KeyEnds, QueryEnds}
use Rattle.art_tree.specs.Calls.Descents.{IsEndUnder}
use Rattle.art_tree.specs.Leaves.{Numbered, AreDistinct, keys_in, bytes}
use Rattle.art_kinds.specs.Nodes.{Node}
use Rattle.art_tree.specs.Points.{IsGood}
use Rattle.art_tree.specs.Invariant.Shape.{Shape}
use Rattle.art_tree.specs.declared.tree.point.Point.TheVariants.{Exact, Related}
use Rattle.art_kinds.specs.declared.records.ids.Child.{Child}
use Rattle.art_tree.proofs.BeginsLemmas.{related-from_front, related-from_begun}
use Rattle.art_tree.proofs.Ways.Ends.{first_less, last_greater}
use Rattle.art_tree.proofs.NumberedPairs.Answers.{pair, at_key, conflict_key, first_related, last_related}
use Rattle.art_tree.proofs.Ways.Related.{only_related, related_begun}

module _ {K V : Type 0} (key_bytes : K → List ℕ) (pairs : List (Numbered K V)) (content : IsContent (bytes key_bytes) pairs) (distinct : AreDistinct pairs) (nodes : ℕ → Option Node) (q : Bytes) where
  -- a key is the query
  pub exact : (i : ℕ) → keys_in key_bytes pairs i ≡ Some q → IsGood key_bytes pairs (Exact i) q
  exact i is = (pair key_bytes pairs content distinct i q is, at_key key_bytes pairs content distinct q i is)

  -- a key is a prefix of the query
  pub shorter_related : {P : ℕ} → (root : Option Child) → Shape P (keys_in key_bytes pairs) nodes root → (i : ℕ) → KeyEnds (keys_in key_bytes pairs) i q → IsGood key_bytes pairs (Related i i) q
  shorter_related root s i k =
      let rel : related k.key q ≡ true = related-from_front k.key q k.begins in
      let l : length k.key < length q = k.shorter in
      let only = only_related (keys_in key_bytes pairs) nodes root s i k.key k.is q k.begins in (
        conflict_key key_bytes pairs content distinct q i k.key k.is rel (λ e. (let f : length k.key ≡ length q = ap length e in absurd (omega arith))),
        first_related key_bytes pairs content distinct q i k.key k.is rel (λ j z e r. inl (only j z e r)),
        last_related key_bytes pairs content distinct q i k.key k.is rel (λ j z e r. inl (only j z e r)),
      )

  -- the query is a prefix of some keys: they are related to it, and no others
  pub longer_related : {P : ℕ} → (c : Child) (m : QueryEnds P (keys_in key_bytes pairs) nodes c q) (first last : ℕ) → IsEndUnder (keys_in key_bytes pairs) true q first → IsEndUnder (keys_in key_bytes pairs) false q last → IsGood key_bytes pairs (Related first last) q
  longer_related c m first last a b =
      let starts = related_begun (keys_in key_bytes pairs) nodes m.root m.shape m.leaf m.key m.is q m.begun in
      let l : length q < length m.key = m.longer in (
        conflict_key key_bytes pairs content distinct q m.leaf m.key m.is (related-from_begun m.key q m.begun) (λ e. (let f : length m.key ≡ length q = ap length e in absurd (omega arith))),
        first_related key_bytes pairs content distinct q first a.key a.is (related-from_begun a.key q a.front) (λ j k e rel. first_less a j k e (starts j k e rel)),
        last_related key_bytes pairs content distinct q last b.key b.is (related-from_begun b.key q b.front) (λ j k e rel. last_greater b j k e (starts j k e rel)),
      )
