-- The mounts of some tables in byte order: what they have, how many there are, and what a change
-- makes of them.
use Rattle.std.proofs.Common.{◌≡◌, ◌≢◌, ℕ, ◌+◌, ◌-◌, ◌≤◌, Bool, true, false, List, [], ◌∷◌, length, refl, sym, ap, ◌∙◌, subst, arith, Option, Some, None, option_map, is_some, position, flat_map, Vec, if◌then◌else◌}
use Rattle.std.specs.Global.{Global}
use Rattle.std.proofs.lemmas.Bool.{false≢true, false_from_ne_true}
use Rattle.blart_keys.specs.Bytes.{begins, related}
use Rattle.blart_keys.specs.KeyBytes.{vec_bytes}
use Rattle.blart_keys.specs.Stored.{bytes, pair_at, value_at, has, overlaps, Updates}
use Rattle.blart_keys.proofs.ContentLemmas.{at_None, conflict_found, conflict_member}
use Rattle.blart_keys.proofs.Options.{none_of, some_of}
use Rattle.blart_keys.proofs.StoredLemmas.{is_some-map}
use Rattle.blart_keys.proofs.RankLemmas.{Member, Ranked}
use Rattle.blart_map.specs.Content.{Numbered, pairs}
use Rattle.prefix_router.specs.Best.{IsBest, is_longer}
use Rattle.prefix_router.specs.Nesting.{longest_front, lead, leads_by, IsLongestFront}
use Rattle.prefix_router.specs.Tables.{all_mounts, mounts_of, AreCounted}
use Rattle.prefix_router.proofs.AscendingLemmas.{Less, count_updates, member_found}
use Rattle.prefix_router.proofs.NestingLemmas.{best_moved, longest_best, routes_without}
use Rattle.prefix_router.proofs.OrderLemmas.{ranked_order, found_order, length_order}
use Rattle.prefix_router.proofs.PlaceLemmas.{not_stored, absent_first}
use Rattle.prefix_router.proofs.TableLemmas.{none_append}

module _ {V : Type 0} (T : List (List (Numbered (Vec ℕ Global) V))) where
  -- the same is found in byte order
  pub found_mounts : (r : List ℕ) → pair_at vec_bytes (mounts_of T) r ≡ pair_at vec_bytes (all_mounts T) r
  unfolding mounts_of
  found_mounts r = found_order vec_bytes (all_mounts T) r

  pub ranked_mounts : Ranked (Less vec_bytes) (mounts_of T)
  unfolding mounts_of
  ranked_mounts = ranked_order vec_bytes (all_mounts T)

  fewer_mounts : length (mounts_of T) ≤ length (all_mounts T)
  unfolding mounts_of
  fewer_mounts = length_order vec_bytes (all_mounts T)

  -- and the same conflicts
  pub overlap_mounts : (q : List ℕ) → overlaps vec_bytes (mounts_of T) q ≡ false → overlaps vec_bytes (all_mounts T) q ≡ false
  unfolding overlaps pair_at
  overlap_mounts q h = false_from_ne_true _ (λ t. (
      let r = conflict_found (bytes vec_bytes) (all_mounts T) q t in
      by r.0 r.1 r.2 r.3 (pair_at vec_bytes (all_mounts T) (vec_bytes r.0.0)) refl))
    where
      by : (x : Vec ℕ Global × V) → Member x (all_mounts T) → related (vec_bytes x.0) q ≡ true → vec_bytes x.0 ≢ q → (o : Option (Vec ℕ Global × V)) → pair_at vec_bytes (all_mounts T) (vec_bytes x.0) ≡ o → ⊥
      by x m near off None e = at_None (bytes vec_bytes) (all_mounts T) (vec_bytes x.0) x e m refl
      by x m near off (Some y) e =
          let f = member_found vec_bytes (mounts_of T) (vec_bytes x.0) y (found_mounts (vec_bytes x.0) ∙ e) in
          false≢true (sym h ∙ conflict_member (bytes vec_bytes) (mounts_of T) q y f.0 (ap (λ b. related b q) f.1 ∙ near) (λ s. off (sym f.1 ∙ s)))

-- what a contract sees of tables whose mounts in byte order are S
module _ {V : Type 0} (T : List (List (Numbered (Vec ℕ Global) V))) (S : List (Vec ℕ Global × V)) (seen : mounts_of T ≡ S) where
  pub seen_ranked : Ranked (Less vec_bytes) S
  seen_ranked = subst (Ranked (Less vec_bytes)) seen (ranked_mounts T)

  pub seen_found : (r : List ℕ) → pair_at vec_bytes S r ≡ pair_at vec_bytes (all_mounts T) r
  seen_found r = ap (λ (U : List (Vec ℕ Global × V)). pair_at vec_bytes U r) (sym seen) ∙ found_mounts T r

  pub seen_value : (r : List ℕ) → value_at vec_bytes S r ≡ value_at vec_bytes (all_mounts T) r
  seen_value r = ap (option_map (λ (p : Vec ℕ Global × V). p.1)) (seen_found r)

  pub seen_has : (r : List ℕ) → has vec_bytes S r ≡ has vec_bytes (all_mounts T) r
  seen_has r = ap is_some (seen_found r)

  -- the best pair of the tables is the best in byte order
  pub seen_best : (test : List ℕ → Bool) (is_better : List ℕ → List ℕ → Bool) (o : Option (Vec ℕ Global × V)) → IsBest vec_bytes test is_better (all_mounts T) o → IsBest vec_bytes test is_better S o
  seen_best test is_better o h = best_moved vec_bytes (all_mounts T) S seen_found test is_better o h

  pub seen_longest : (q : List ℕ) (o : Option (Vec ℕ Global × V)) → IsBest vec_bytes (λ r. begins r q) is_longer (all_mounts T) o → IsLongestFront vec_bytes S q o
  seen_longest q o h = longest_best vec_bytes S q o (seen_best (λ r. begins r q) is_longer o h)

-- no tables have no mounts
pub no_mounts : {V : Type 0} (T : List (List (Numbered (Vec ℕ Global) V))) → T ≡ [] → mounts_of T ≡ []
unfolding mounts_of
no_mounts T e = ap mounts_of e

-- no path leads to no mounts
pub no_lead : {V : Type 0} (S : List (Vec ℕ Global × V)) → S ≡ [] → (r : List ℕ) → lead vec_bytes S r ≡ None
unfolding longest_front
no_lead {V} S e r = ap (λ (U : List (Vec ℕ Global × V)). lead vec_bytes U r) e

-- and are none
pub counted_none : {V : Type 0} (T : List (List (Numbered (Vec ℕ Global) V))) → T ≡ [] → AreCounted T 0
counted_none T e = record {
  all = sym (ap (λ U. length (all_mounts U)) e);
  distinct = sym (ap (λ (S : List _). length S) (no_mounts T e));
}

-- if no list has the bytes, all of them lack them
pub found_nowhere : {K V X : Type 0} (kb : K → List ℕ) (f : X → List (K × V)) (xs : List X) (q : List ℕ) → position (λ x. has kb (f x) q) xs ≡ None → pair_at kb (flat_map f xs) q ≡ None
unfolding pair_at
found_nowhere kb f [] q e = refl
found_nowhere {K} {V} {X} kb f (x ∷ xs) q e =
    let none = absent_first (λ y. has kb (f y) q) x xs e in
    none_append kb (f x) (flat_map f xs) q (not_stored kb (f x) q none.0) (found_nowhere kb f xs q none.1)

module _ {V : Type 0} (T T' : List (List (Numbered (Vec ℕ Global) V))) (q : List ℕ) where
  -- what changes in the tables changes in byte order
  pub updates_mounts : (w : Option (Vec ℕ Global × V)) → Updates vec_bytes (all_mounts T) (all_mounts T') q w → Updates vec_bytes (mounts_of T) (mounts_of T') q w
  updates_mounts w u = (found_mounts T' q ∙ u.0, λ r off. found_mounts T' r ∙ u.1 r off ∙ sym (found_mounts T r))

  -- the numbers of mounts in byte order differ by what was and is at q
  count_mounts : (w : Option (Vec ℕ Global × V)) → Updates vec_bytes (all_mounts T) (all_mounts T') q w → length (mounts_of T') + (if has vec_bytes (all_mounts T) q then 1 else 0) ≡ length (mounts_of T) + (if is_some w then 1 else 0)
  count_mounts w u =
      ap (λ (o : Option (Vec ℕ Global × V)). length (mounts_of T') + (if is_some o then 1 else 0)) (sym (found_mounts T q))
      ∙ count_updates vec_bytes (mounts_of T) (mounts_of T') (ranked_mounts T) (ranked_mounts T') q w (updates_mounts w u)

  -- after a mount at a path at which nothing was mounted
  pub counted_new : (n : ℕ) (p : Vec ℕ Global × V) → AreCounted T n → Updates vec_bytes (all_mounts T) (all_mounts T') q (Some p) → pair_at vec_bytes (all_mounts T) q ≡ None → length (all_mounts T') ≡ length (all_mounts T) + 1 → AreCounted T' (n + 1)
  counted_new n p c u none l =
      let d : length (mounts_of T') + 0 ≡ length (mounts_of T) + 1 = ap (λ (o : Option (Vec ℕ Global × V)). length (mounts_of T') + (if is_some o then 1 else 0)) (sym none) ∙ count_mounts (Some p) u in
      record { all = omega (arith, c.all, l); distinct = omega (arith, c.distinct, d) }

  -- after a mounted path got another target
  pub counted_same : (n : ℕ) (p : Vec ℕ Global × V) → AreCounted T n → Updates vec_bytes (all_mounts T) (all_mounts T') q (Some p) → has vec_bytes (all_mounts T) q ≡ true → length (all_mounts T') ≡ length (all_mounts T) → AreCounted T' n
  counted_same n p c u there l =
      let d : length (mounts_of T') + 1 ≡ length (mounts_of T) + 1 = ap (λ (b : Bool). length (mounts_of T') + (if b then 1 else 0)) (sym there) ∙ count_mounts (Some p) u in
      record { all = omega (arith, c.all, l); distinct = omega (arith, c.distinct, d) }

  -- after one table lost a mounted path
  module _ (n : ℕ) (counted : AreCounted T n) (others : (r : List ℕ) → r ≢ q → pair_at vec_bytes (all_mounts T') r ≡ pair_at vec_bytes (all_mounts T) r) (there : has vec_bytes (all_mounts T) q ≡ true) (less : length (all_mounts T') + 1 ≡ length (all_mounts T)) where
    -- no other table has it, since the mounts are counted
    gone : pair_at vec_bytes (all_mounts T') q ≡ None
    gone = none_of (pair_at vec_bytes (all_mounts T') q) (λ s. (
        let p = some_of (pair_at vec_bytes (all_mounts T') q) s in
        let d : length (mounts_of T') + 1 ≡ length (mounts_of T) + 1 = ap (λ (b : Bool). length (mounts_of T') + (if b then 1 else 0)) (sym there) ∙ count_mounts (Some p.0) (p.1, others) in
        omega (arith, counted.all, counted.distinct, less, d, fewer_mounts T')))

    pub updates_gone : Updates {V = V} vec_bytes (all_mounts T) (all_mounts T') q None
    updates_gone = (gone, others)

    pub counted_gone : AreCounted T' (n - 1)
    counted_gone =
        let d : length (mounts_of T') + 1 ≡ length (mounts_of T) + 0 = ap (λ (b : Bool). length (mounts_of T') + (if b then 1 else 0)) (sym there) ∙ count_mounts None updates_gone in
        record { all = omega (arith, counted.all, less); distinct = omega (arith, counted.distinct, d) }

-- ---- what callers of `mount` and `unmount` learn

-- a path that no table has is not mounted
pub absent_path : {V : Type 0} (T : List (List (Numbered (Vec ℕ Global) V))) (S : List (Vec ℕ Global × V)) → mounts_of T ≡ S → (q : List ℕ) → position (λ table. has vec_bytes (pairs table) q) T ≡ None → pair_at vec_bytes S q ≡ None
absent_path T S seen q e = seen_found T S seen q ∙ found_nowhere vec_bytes pairs T q e

module _ {K V : Type 0} (kb : K → List ℕ) where
  module _ (S S' : List (K × V)) (ranked : Ranked (Less kb) S) (ranked' : Ranked (Less kb) S') (q : List ℕ) where
    -- the number of mounts after a mount, by what was mounted
    pub len_mounted : (p : K × V) → Updates kb S S' q (Some p) → (o : Option V) → o ≡ value_at kb S q → length S' ≡ length S + (if is_some o then 0 else 1)
    len_mounted p u o e = sums (has kb S q) (is_some o) (ap is_some e ∙ is_some-map (λ (p : K × V). p.1) (pair_at kb S q)) _ _ (count_updates kb S S' ranked ranked' q (Some p) u)
      where
        sums : (b c : Bool) → c ≡ b → (m n : ℕ) → m + (if b then 1 else 0) ≡ n + 1 → m ≡ n + (if c then 0 else 1)
        sums true true s m n h = omega arith
        sums false false s m n h = omega arith
        sums true false s m n h = absurd (false≢true s)
        sums false true s m n h = absurd (false≢true (sym s))

    -- and after an unmount
    pub len_unmounted : Updates {V = V} kb S S' q None → (o : Option V) → o ≡ value_at kb S q → length S' + (if is_some o then 1 else 0) ≡ length S
    len_unmounted u o e =
        let h = count_updates kb S S' ranked ranked' q None u in
        let same : is_some o ≡ has kb S q = ap is_some e ∙ is_some-map (λ (p : K × V). p.1) (pair_at kb S q) in
        ap (λ (b : Bool). length S' + (if b then 1 else 0)) same ∙ h ∙ omega arith

-- what an unmount from one of the tables T, which makes T' of them, says of the mounts S
pub record Unmounts {V : Type 0} (S : List (Vec ℕ Global × V)) (T' : List (List (Numbered (Vec ℕ Global) V))) (n : ℕ) (q : List ℕ) (o : Option V) : Type 0 where
  pub counted : AreCounted T' (n - 1)
  pub value : o ≡ value_at vec_bytes S q
  pub updates : Updates {V = V} vec_bytes S (mounts_of T') q None
  pub routes : (r : List ℕ) → lead vec_bytes (mounts_of T') r ≡ (if leads_by q (lead vec_bytes S r) then lead vec_bytes (mounts_of T') q else lead vec_bytes S r)
  pub len : length (mounts_of T') + (if is_some o then 1 else 0) ≡ length S

module _ {V : Type 0} (T T' : List (List (Numbered (Vec ℕ Global) V))) (S : List (Vec ℕ Global × V)) (seen : mounts_of T ≡ S) (q : List ℕ) where
  pub unmounts : (n : ℕ) → AreCounted T n → (o : Option V) → o ≡ value_at vec_bytes (all_mounts T) q → is_some o ≡ true → ((r : List ℕ) → r ≢ q → pair_at vec_bytes (all_mounts T') r ≡ pair_at vec_bytes (all_mounts T) r) → length (all_mounts T') + 1 ≡ length (all_mounts T) → Unmounts S T' n q o
  unmounts n counted o old some others less =
      let there : has vec_bytes (all_mounts T) q ≡ true = sym (is_some-map (λ (p : Vec ℕ Global × V). p.1) (pair_at vec_bytes (all_mounts T) q)) ∙ ap is_some (sym old) ∙ some in
      let value : o ≡ value_at vec_bytes S q = old ∙ sym (seen_value T S seen q) in
      let u : Updates {V = V} vec_bytes S (mounts_of T') q None = subst (λ (U : List (Vec ℕ Global × V)). Updates {V = V} vec_bytes U (mounts_of T') q None) seen (updates_mounts T T' q None (updates_gone T T' q n counted others there less)) in
      record {
        counted = counted_gone T T' q n counted others there less;
        value = value;
        updates = u;
        routes = routes_without vec_bytes S (mounts_of T') (seen_ranked T S seen) (ranked_mounts T') q u;
        len = len_unmounted vec_bytes S (mounts_of T') (seen_ranked T S seen) (ranked_mounts T') q u o value;
      }

-- nothing changes if nothing is there
pub unmounts_nothing : {V : Type 0} (S : List (Vec ℕ Global × V)) → Ranked (Less vec_bytes) S → (q : List ℕ) → pair_at vec_bytes S q ≡ None → (r : List ℕ) → lead vec_bytes S r ≡ (if leads_by q (lead vec_bytes S r) then lead vec_bytes S q else lead vec_bytes S r)
unmounts_nothing S ranked q none = routes_without vec_bytes S S ranked ranked q (none, λ r off. refl)
