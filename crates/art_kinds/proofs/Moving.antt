-- A node moves to another kind, and spare records are added.
use Rattle.std.proofs.Common.{◌≡◌, ◌≢◌, ◌≤◌, ◌<◌, ◌+◌, ◌-◌, ◌*◌, ◌/◌, ◌%◌, ℕ, zero, suc, List, length, Option, Some, None, IsSome, Result, Ok, Err, refl, sym, ap, subst, ◌∙◌, arith}
use Rattle.std.proofs.lemmas.Bool.{false≢true}
use Rattle.std.specs.Option.{IsSomeAnd}
use Rattle.std.specs.Result.{OnOk, OnErr, IsErr}
use Rattle.art_kinds.specs.OneKinds.{AllFit, Loses, Gains, Grows}
use Rattle.art_kinds.specs.Nodes.{Node, Nodes, store_of, at, live, room, grown, floor, places, takes, serves, HasPlace, Lowers, SameNodes, Renames}
use Rattle.art_kinds.specs.Numbers.{digit, digit-lt}
use Rattle.art_kinds.specs.declared.records.ids.Edge.{Edge}
use Rattle.art_kinds.specs.declared.records.ids.Kind.{Kind}
use Rattle.art_kinds.specs.declared.records.ids.Kind.TheVariants.{Four}
use Rattle.art_slots.specs.Store.{Store, slot_at, used_count, SameRecords}
use Rattle.art_kinds.proofs.Changes.{put, put-on, put-off, put-live, holds_of}
use Rattle.art_kinds.proofs.Growing.{at_is, moves, grows, makes-room, has_place, kept_nodes, kept_spares, enough}
use Rattle.art_kinds.proofs.Rooms.{grown-most, room-more}

-- a node whose edges are replaced by equal edges is unchanged
pub same_node : {x y z : Node} {k : List Edge} → y ≡ record x { edges = k } → k ≡ z.edges → z ≡ x → y ≡ x
same_node {x} e k z = e ∙ ap (λ (t : List Edge). record x { edges = t }) (k ∙ ap (λ (t : Node). t.edges) z)

-- a node moves from one kind to another
module _ {s v : Nodes} (f : s ≡ v) (K L : Kind) (off : digit K ≢ digit L) {a b : Store Node} {i j : ℕ} {x y : Node}
    (was : slot_at (store_of s (digit K)) i ≡ Some x) (same : y ≡ x) (h : Loses (store_of s (digit K)) a i) (g : Gains (store_of s (digit L)) b j y) where
  -- the store that it leaves, the store to which it moves, and the others
  left : store_of (put (put s K a) L b) (digit K) ≡ a
  left = put-off (put s K a) L b (digit K) (digit-lt K) off ∙ put-on s K a

  entered : store_of (put (put s K a) L b) (digit L) ≡ b
  entered = put-on (put s K a) L b

  rest : (k : ℕ) → k < 4 → k ≢ digit K → k ≢ digit L → store_of (put (put s K a) L b) k ≡ store_of s k
  rest k lt p q = put-off (put s K a) L b k lt q ∙ put-off s K a k lt p

  gone : slot_at (store_of (put (put s K a) L b) (digit K)) i ≡ None
  gone = ap (λ (t : Store Node). slot_at t i) left ∙ h.gone

  others_left : (k : ℕ) → k ≢ i → slot_at (store_of (put (put s K a) L b) (digit K)) k ≡ slot_at (store_of s (digit K)) k
  others_left k far = ap (λ (t : Store Node). slot_at t k) left ∙ h.others k far

  is : slot_at (store_of (put (put s K a) L b) (digit L)) j ≡ Some x
  is = ap (λ (t : Store Node). slot_at t j) entered ∙ g.is ∙ ap Some same

  others_entered : (k : ℕ) → k ≢ j → slot_at (store_of (put (put s K a) L b) (digit L)) k ≡ slot_at (store_of s (digit L)) k
  others_entered k far = ap (λ (t : Store Node). slot_at t k) entered ∙ g.others k far

  -- it has another number, and the others are unchanged
  pub renamed : {n m : ℕ} → n ≡ 4 * i + digit K → m ≡ 4 * j + digit L → Renames (at v) (at (put (put s K a) L b)) n m
  renamed {n} {m} e q =
      let lk = digit-lt K in
      let ll = digit-lt L in
      let c = moves s (put (put s K a) L b) (digit K) (digit L) i j x rest was gone others_left g.fresh is others_entered in
      let r : Renames (at s) (at (put (put s K a) L b)) n m = c n m (omega arith) (omega arith) (omega arith) (omega arith) in
      subst (λ (z : Nodes). Renames (at z) (at (put (put s K a) L b)) n m) f r

  -- the number of nodes is unchanged
  pub renamed-live : live (put (put s K a) L b) ≡ live v
  renamed-live =
      let o : store_of (put s K a) (digit L) ≡ store_of s (digit L) = put-off s K a (digit L) (digit-lt L) (λ e. off (sym e)) in
      let u : used_count (store_of (put s K a) (digit L)) ≡ used_count (store_of s (digit L)) = ap (λ (t : Store Node). used_count t) o in
      let l : live (put (put s K a) L b) ≡ live s = omega (arith, put-live s K a, put-live (put s K a) L b, u, h.used, g.used) in
      l ∙ ap (λ (z : Nodes). live z) f

  -- it has a place for one more edge, if its new kind has one
  pub renamed-place : {m : ℕ} → m ≡ 4 * j + digit L → (digit L < 3 → length x.edges < places (digit L)) → HasPlace (put (put s K a) L b) m
  renamed-place {m} q few =
      let ll = digit-lt L in
      has_place (put (put s K a) L b) m (digit L) j x (omega arith) (omega arith) is few

  -- if it moves to the next kind, only the figure of that kind falls, by at most one
  pub renamed-lowers : digit L ≡ suc (digit K) → length x.edges ≡ places (digit K) → Lowers (digit L) v (put (put s K a) L b)
  renamed-lowers q full =
      let t : Nodes = put (put s K a) L b in
      let l : digit K < 3 = (let z = digit-lt L in omega arith) in
      let fresh : slot_at (store_of s (suc (digit K))) j ≡ None = subst (λ e. slot_at (store_of s e) j ≡ None) q g.fresh in
      let there : slot_at (store_of t (suc (digit K))) j ≡ Some x = subst (λ e. slot_at (store_of t e) j ≡ Some x) q is in
      let Q : ℕ → Type 0 = λ e. (k : ℕ) → k ≢ j → slot_at (store_of t e) k ≡ slot_at (store_of s e) k in
      let others : Q (suc (digit K)) = subst Q q others_entered in
      let more : (store_of t (digit K)).spare ≡ (store_of s (digit K)).spare + 1 = ap (λ (u : Store Node). u.spare) left ∙ h.spare in
      let less_at : (store_of t (digit L)).spare + 1 ≡ (store_of s (digit L)).spare = ap (λ (u : Store Node). u.spare + 1) entered ∙ g.spare in
      let S : ℕ → Type 0 = λ e. (store_of t e).spare + 1 ≡ (store_of s e).spare in
      let less : S (suc (digit K)) = subst S q less_at in
      let same_rest : (k : ℕ) → k < 4 → k ≢ digit K → k ≢ suc (digit K) → store_of t k ≡ store_of s k = λ k lt p n. rest k lt p (λ e. n (e ∙ q)) in
      let r : Lowers (suc (digit K)) s t = grows s t (digit K) l i j x same_rest was gone others_left fresh there others more less full in
      subst (λ (z : Nodes). Lowers (digit L) z t) f (subst (λ e. Lowers e s t) (sym q) r)

-- `Grows` holds of a store and itself
pub stood : {a : Store Node} → Grows a a
stood = record { same = λ j. refl; used = refl; spare = omega arith }

-- spare records are added
module _ {s v : Nodes} (f : s ≡ v) {a b c d : Store Node}
    (k0 : Grows s.fours a) (k1 : Grows s.sixteens b) (k2 : Grows s.forty_eights c) (k3 : Grows s.fulls d) where
  -- the nodes are unchanged
  pub stood_nodes : SameNodes v (record { fours = a; sixteens = b; forty_eights = c; fulls = d })
  stood_nodes j = kept_nodes s (record { fours = a; sixteens = b; forty_eights = c; fulls = d }) k0 k1 k2 k3 j ∙ ap (λ (z : Nodes). at z j) f

  -- no room is lost
  pub stood-room : room v ≤ room (record { fours = a; sixteens = b; forty_eights = c; fulls = d })
  stood-room =
      let t : Nodes = record { fours = a; sixteens = b; forty_eights = c; fulls = d } in
      subst (λ (z : Nodes). room z ≤ room t) f (room-more s t (kept_spares s t k0 k1 k2 k3))

-- what holds of the node at a place holds of x
pub holds_in : {s v : Nodes} → s ≡ v → (K : Kind) (i : ℕ) {x : Node} → slot_at (store_of s (digit K)) i ≡ Some x
    → (R : Node → Type 0) → IsSomeAnd (slot_at (store_of v (digit K)) i) R → R x
holds_in {s} f K i {x} e R h =
    holds_of R (slot_at (store_of s (digit K)) i) x e (subst (λ (t : Nodes). IsSomeAnd (slot_at (store_of t (digit K)) i) R) (sym f) h)

-- if a node with two children is added, the room falls by at most one
pub made-room : {s v : Nodes} → s ≡ v → {a : Store Node} {i : ℕ} {x : Node} → Gains s.fours a i x
    → length x.edges ≡ 2 → room v ≤ room (record s { fours = a }) + 1
made-room {s} f {a} {i} {x} h two =
    subst (λ (u : Nodes). room u ≤ room (record s { fours = a }) + 1) f
    (makes-room s (record s { fours = a }) i x (put-off s Four a) h.fresh h.is h.others h.spare two)

-- the floor of a kind is not greater than the number of its places
floor-places : (d : ℕ) → d < 3 → floor d + (places d - floor d) ≡ places d
floor-places zero l = refl
floor-places (suc zero) l = refl
floor-places (suc (suc zero)) l = refl
floor-places (suc (suc (suc d))) l = absurd (omega arith)

-- spare records are enough for n placements, if the kind below has l nodes, and r are requested
pub enough_for : (d : ℕ) → d < 3 → (a : Store Node) (m n l r : ℕ) → l ≡ used_count a → AllFit (Some (places d)) a
    → (n ≤ l → r ≡ n) → (l < n → r ≡ l + (n - l) / takes d) → r ≤ m → n ≤ serves m (takes d) (grown (floor d) a)
enough_for d dl a m n l r e fit few many up =
    let p = places d - floor d in
    let most = grown-most (floor d) p a (λ i x q. (let h : length x.edges ≤ places d = fit i x q in omega (arith, h, floor-places d dl))) in
    let g : grown (floor d) a ≤ p * l = subst (λ z. grown (floor d) a ≤ p * z) (sym e) most in
    enough d dl n l (grown (floor d) a) m g (λ h. (let q = few h in omega arith)) (λ h. (let q = many h in omega arith))

-- `OnOk` holds of an error
pub not_ok : {A E : Type 0} (P : Type 0) (r : Result A E) → IsErr r → OnOk r P
not_ok P (Ok a) h = absurd (false≢true h)
not_ok P (Err e) h = tt

-- what holds in any case holds of an error
pub on_err : {A E Q : Type 0} (r : Result A E) → Q → OnErr r Q
on_err (Ok a) q = tt
on_err (Err e) q = q

-- stores with the same records have the same nodes
pub same_nodes : {s v : Nodes} (f : s ≡ v) (a b c d : Store Node) → SameRecords s.fours a → SameRecords s.sixteens b → SameRecords s.forty_eights c → SameRecords s.fulls d → SameNodes v (record { fours = a; sixteens = b; forty_eights = c; fulls = d })
same_nodes {s} f a b c d h0 h1 h2 h3 j = of_kind (j % 4) (j / 4) ∙ ap (λ (z : Nodes). at z j) f
  where
    of_kind : (k : ℕ) → SameRecords (store_of s k) (store_of (record { fours = a; sixteens = b; forty_eights = c; fulls = d }) k)
    of_kind zero = h0
    of_kind (suc zero) = h1
    of_kind (suc (suc zero)) = h2
    of_kind (suc (suc (suc k))) = h3

-- if the nodes are unchanged, a node keeps its number
keeps_number : {was is : ℕ → Option Node} → ((j : ℕ) → is j ≡ was j) → (n : ℕ) → IsSome (was n) → Renames was is n n
keeps_number {was} {is} same n h = of_node (was n) refl h
  where
    of_node : (o : Option Node) → was n ≡ o → IsSome o → Renames was is n n
    of_node None e h = absurd (false≢true h)
    of_node (Some x) e h = record { node = x; was = e; is = same n ∙ e; fresh = λ off. absurd (off refl); gone = λ off. absurd (off refl); others = λ j p q. same j }

-- if the nodes are unchanged, a node of a kind keeps its number
pub keeps_kind : (v t : Nodes) → SameNodes v t → (K : Kind) (i : ℕ) {m : ℕ} → m ≡ 4 * i + digit K → IsSome (slot_at (store_of v (digit K)) i) → Renames (at v) (at t) (4 * i + digit K) m
keeps_kind v t same K i e h =
    let l = digit-lt K in
    subst (λ m. Renames (at v) (at t) (4 * i + digit K) m) (sym e) (
    keeps_number same (4 * i + digit K) (subst IsSome (sym (at_is v (4 * i + digit K) (digit K) i (omega arith) (omega arith))) h))
