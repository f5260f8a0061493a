-- Byte order, and lists that ascend in it.
use Rattle.std.proofs.Common.{◌≡◌, ℕ, Bool, true, false, inl, inr, List, [], ◌∷◌, drop, refl, sym, ap, ◌∙◌, subst, cond, filter, bytes_eq, Ordering, Less, Equal, Greater}
use Rattle.std.specs.Ordering.{is_lt}
use Rattle.std.specs.Cmp.Lexicographic.{bytes_decides}
use Rattle.std.proofs.lemmas.Bool.{false≢true, false_from_ne_true}
use Rattle.blart_keys.specs.Bytes.{bytes_cmp, less}
use Rattle.blart_keys.specs.Content.{Ascends, stores}
use Rattle.blart_keys.specs.KeyLaws.{bytes_cmp-Equal}
use Rattle.blart_keys.proofs.MergeLemmas.{Lower}
use Rattle.blart_keys.proofs.PartLemmas.{less-irrefl, less-trans, less_or}
use Rattle.blart_keys.proofs.RankLemmas.{each_member, from_each_member, any_found, Ranked-from_AllPairs, AllPairs-from_Ranked}
use Rattle.blart_set.specs.Merging.{Precedes}

-- ---- what the result of a comparison says

pub less_cmp : (a b : List ℕ) → less a b ≡ true → bytes_cmp a b ≡ Less
less_cmp a b h = of (bytes_cmp a b) h
  where
    of : (o : Ordering) → is_lt o ≡ true → o ≡ Less
    of Less h = refl
    of Equal h = absurd (false≢true h)
    of Greater h = absurd (false≢true h)

pub greater_cmp : (a b : List ℕ) → less b a ≡ true → bytes_cmp a b ≡ Greater
greater_cmp a b h = of (bytes_cmp a b) refl
  where
    of : (o : Ordering) → bytes_cmp a b ≡ o → bytes_cmp a b ≡ Greater
    of Less e = absurd (false≢true (sym (less-irrefl a) ∙ less-trans a b a (ap is_lt e) h))
    of Equal e = absurd (false≢true (sym (less-irrefl a) ∙ subst (λ l. less l a ≡ true) (sym ((bytes_cmp-Equal a b).0 e)) h))
    of Greater e = e

pub from_greater : (a b : List ℕ) → bytes_cmp a b ≡ Greater → less b a ≡ true
from_greater a b e = elim (less_or a b) [
  | inl s ↦ let no : Greater ≡ Equal = sym e ∙ (bytes_cmp-Equal a b).1 s in absurd cc
  | inr (inl l) ↦ absurd (false≢true (sym (ap is_lt e) ∙ l))
  | inr (inr g) ↦ g
]

-- if a is less than b, they are not equal
pub less_apart : (a b : List ℕ) → less a b ≡ true → bytes_eq a b ≡ false
less_apart a b h = false_from_ne_true _ (λ e. false≢true (sym (less-irrefl b) ∙ subst (λ l. less l b ≡ true) ((bytes_decides a b).0 e) h))

module _ {K : Type 0} (kb : K → List ℕ) where
  -- an element that is less than one that precedes a list precedes it too
  pub precedes_on : (x y : K) (S : List K) → Lower kb x y → Precedes kb y S → Precedes kb x S
  precedes_on x y S l p = from_each_member (Lower kb x) S (λ z m. less-trans (kb x) (kb y) (kb z) l (each_member (Lower kb y) S z p m))

  -- and so does an element with the same bytes
  pub precedes_same : (x y : K) (S : List K) → kb y ≡ kb x → Precedes kb y S → Precedes kb x S
  precedes_same x y S e p = from_each_member (Lower kb x) S (λ z m. subst (λ l. less l (kb z) ≡ true) e (each_member (Lower kb y) S z p m))

  -- the first of a list that ascends precedes the others
  pub precedes : (x : K) (S : List K) → S ≡ x ∷ drop 1 S → Ascends kb S → Precedes kb x (drop 1 S)
  precedes x S e a = (Ranked-from_AllPairs (Lower kb) (x ∷ drop 1 S) (subst (Ascends kb) e a)).0

  -- and the others ascend
  pub drop_ascends : (S : List K) → Ascends kb S → Ascends kb (drop 1 S)
  drop_ascends [] a = a
  drop_ascends (x ∷ S) a = AllPairs-from_Ranked (Lower kb) S (Ranked-from_AllPairs (Lower kb) (x ∷ S) a).1

  -- an element that is less than the first of a list that ascends precedes the list
  pub across : (x y : K) (T : List K) → T ≡ y ∷ drop 1 T → Ascends kb T → Lower kb x y → Precedes kb x T
  across x y T e a l = subst (Precedes kb x) (sym e) (l, precedes_on x y (drop 1 T) l (precedes y T e a))

  -- a list lacks the bytes of an element that precedes it
  pub apart : (x : K) (S : List K) → Precedes kb x S → stores kb S (kb x) ≡ false
  apart x S p = false_from_ne_true _ (λ h.
      let r = any_found (λ z. bytes_eq (kb z) (kb x)) S h in
      false≢true (sym (less-irrefl (kb x)) ∙ subst (λ l. less (kb x) l ≡ true) ((bytes_decides (kb r.0) (kb x)).0 r.2) (each_member (Lower kb x) S r.0 p r.1)))

  -- if y precedes A, no element of A has its bytes, and y may be left out
  pub skip_first : (f : Bool → Bool) (y : K) (B A : List K) → Precedes kb y A → filter (λ x. f (stores kb (y ∷ B) (kb x))) A ≡ filter (λ x. f (stores kb B (kb x))) A
  skip_first f y B [] p = refl
  skip_first f y B (x ∷ A) p =
      rw (less_apart (kb y) (kb x) p.0) (ap (λ l. cond (f (stores kb B (kb x))) (x ∷ l) l) (skip_first f y B A p.1))
