-- The shape is the same over equal parts.
use Rattle.std.proofs.Common.{◌≡◌, ℕ, refl, sym, subst, ◌∙◌, Option}
use Rattle.art_tree.specs.Begins.{Bytes}
use Rattle.art_kinds.specs.Nodes.{Node}
use Rattle.art_tree.specs.Invariant.Shape.{Shape, Keeps, NodeFits, RootFits}
use Rattle.art_kinds.specs.declared.records.ids.Child.{Child}
use Rattle.blart_keys.proofs.Options.{same_some}

-- with an equal root
pub rooted : {P : ℕ} {keys : ℕ → Option Bytes} {nodes : ℕ → Option Node} {root root' : Option Child} → Shape P keys nodes root → root ≡ root' → Shape P keys nodes root'
rooted {P} {keys} {nodes} s e = record {
  front_of = s.front_of;
  top = subst (λ (r : Option Child). RootFits keys nodes s.front_of r) e s.top;
  node = s.node;
  joined = s.joined;
  apart = s.apart;
  keeps = subst (λ (r : Option Child). Keeps P nodes r s.front_of) e s.keeps;
}

-- the fronts are unchanged
pub rooted-front : {P : ℕ} → (keys : ℕ → Option Bytes) (nodes : ℕ → Option Node) (root root' : Option Child) (s : Shape P keys nodes root) (e : root ≡ root') (m : ℕ) → (rooted s e).front_of m ≡ s.front_of m
unfolding rooted
rooted-front keys nodes root root' s e m = refl

-- with nodes that are equal under each number
pub renoded : {P : ℕ} → (keys : ℕ → Option Bytes) (nodes nodes' : ℕ → Option Node) (root : Option Child) → Shape P keys nodes root → ((j : ℕ) → nodes' j ≡ nodes j) → Shape P keys nodes' root
renoded {P} keys nodes nodes' root s h =
    let p : nodes ≡ nodes' = λ i j. sym (h j) i in
    record {
      front_of = s.front_of;
      top = subst (λ (f : ℕ → Option Node). RootFits keys f s.front_of root) p s.top;
      node = λ n x is. subst (λ (f : ℕ → Option Node). NodeFits keys f s.front_of (s.front_of n) x) p (s.node n x (sym (h n) ∙ is));
      joined = λ i j k l a b off. (let r = s.joined i j k l a b off in (r.0, same_some (nodes r.0) (nodes' r.0) (sym (h r.0)) r.1, r.2));
      apart = λ a b la lb e. s.apart a b (same_some (nodes' a) (nodes a) (h a) la) (same_some (nodes' b) (nodes b) (h b) lb) e;
      keeps = subst (λ (f : ℕ → Option Node). Keeps P f root s.front_of) p s.keeps;
    }

-- with keys that are equal under each number
pub rekeyed : {P : ℕ} → (keys keys' : ℕ → Option Bytes) (nodes : ℕ → Option Node) (root : Option Child) → Shape P keys nodes root → ((j : ℕ) → keys' j ≡ keys j) → Shape P keys' nodes root
rekeyed keys keys' nodes root s h =
    let p : keys ≡ keys' = λ i j. sym (h j) i in
    record {
      front_of = s.front_of;
      top = subst (λ (f : ℕ → Option Bytes). RootFits f nodes s.front_of root) p s.top;
      node = λ n x is. subst (λ (f : ℕ → Option Bytes). NodeFits f nodes s.front_of (s.front_of n) x) p (s.node n x is);
      joined = λ i j k l a b off. s.joined i j k l (sym (h i) ∙ a) (sym (h j) ∙ b) off;
      apart = s.apart;
      keeps = s.keeps;
    }
