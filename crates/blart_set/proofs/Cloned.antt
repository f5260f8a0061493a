-- Clones of elements that ascend, put one after the other.
use Rattle.std.proofs.Common.{◌≡◌, ◌≢◌, ℕ, true, inl, inr, List, [], ◌∷◌, ◌++◌, map, Option, Some, None, refl, sym, ap, ◌∙◌, subst, append_assoc, append-nil}
use denote.Ref.{Bor}
use Rattle.std.proofs.lemmas.Bool.{false≢true}
use Rattle.std.specs.Iterator.{Drains, Yields, YieldsFirstRef}
use Rattle.std.specs.List.{AllByRecursion, AllZip}
use Rattle.std.specs.Prelude.{Result, Ok, Err, MatchResult, IfOk, OnErr}
use Rattle.blart_keys.specs.Bulk.{PutsAll}
use Rattle.blart_keys.specs.Bytes.{less}
use Rattle.blart_keys.specs.Content.{at, Ascends, IsPut}
use Rattle.blart_keys.specs.Stored.{kept_item}
use Rattle.blart_keys.proofs.ContentLemmas.{at_absent}
use Rattle.blart_keys.proofs.MergeLemmas.{Lower, same_ascending}
use Rattle.blart_keys.proofs.PartLemmas.{less-irrefl}
use Rattle.blart_keys.proofs.PutLemmas.{put_member, member_put}
use Rattle.blart_keys.proofs.RankLemmas.{Member, Contains-from_Member, Member-from_Contains, Member-append_left, Member-append_right, Member-append_cases, Ranked, Ranked-from_AllPairs, AllPairs-from_Ranked, Ranked-left, Ranked-across}
use Rattle.blart_set.specs.Clones.{KeepsBytes, AreElementClones}

-- what a reference leads to
abbrev pub now : {A : Type 0} → Bor A → A
now x = x.now

-- an iterator returns what its state shows as left
pub all_drained : {S A : Type 0} (rest : S → List A) (s : S) (xs : List (Bor A)) → Drains (YieldsFirstRef rest) s xs → map (λ x. x.now) xs ≡ rest s
all_drained rest s [] d = sym (ap rest d.1.1 ∙ d.1.2.0)
all_drained rest s (x ∷ xs) d = ap (λ l. x.now ∷ l) (all_drained rest d.1.1.0 xs (d.0, (d.1.0, d.1.1.2, d.1.2))) ∙ sym d.1.1.1

module _ {K : Type 0} (kb : K → List ℕ) where
  -- ---- elements that ascend, put in turn

  -- an element that is after all others is put last
  put_last : (T : List K) (y : K) (T' : List K) → Ranked (Lower kb) (T ++ y ∷ []) → IsPut kb T y T' → T' ≡ T ++ y ∷ []
  put_last T y T' r put = same_ascending kb T' (T ++ y ∷ []) put.content.ascends (AllPairs-from_Ranked (Lower kb) (T ++ y ∷ []) r) (λ x. (
    λ m. Contains-from_Member x (T ++ y ∷ []) (elim (put_member kb T T' y x put (Member-from_Contains x T' m)) [
      | inl e ↦ Member-append_right x T (y ∷ []) (inl (sym e))
      | inr n ↦ Member-append_left x T (y ∷ []) n.0
    ]),
    λ m. Contains-from_Member x T' (elim (Member-append_cases x T (y ∷ []) (Member-from_Contains x (T ++ y ∷ []) m)) [
      | inl n ↦ member_put kb T T' y x put n (λ e. false≢true (sym (less-irrefl (kb y)) ∙ subst (λ q. less q (kb y) ≡ true) e (Ranked-across (Lower kb) T (y ∷ []) r x y n (inl refl))))
      | inr (inl e) ↦ subst (λ z. Member z T') e (Member-from_Contains y T' put.there)
      | inr (inr n) ↦ absurd n
    ]),
  ))

  -- its bytes are new
  new_after : (T : List K) (y : K) → Ranked (Lower kb) (T ++ y ∷ []) → at kb T (kb y) ≡ None
  new_after T y r = at_absent kb T (kb y) (λ x m e. false≢true (sym (less-irrefl (kb y)) ∙ subst (λ q. less q (kb y) ≡ true) e (Ranked-across (Lower kb) T (y ∷ []) r x y m (inl refl))))

  -- then all of them are there, in order
  pub puts_in_order : (T ys S : List K) → Ranked (Lower kb) (T ++ ys) → PutsAll kb kept_item T ys S → S ≡ T ++ ys
  puts_in_order T [] S r h = h ∙ sym (append-nil T)
  puts_in_order T (y ∷ ys) S r h =
      let on = subst (Ranked (Lower kb)) (sym (append_assoc T (y ∷ []) ys)) r in
      let after = Ranked-left (Lower kb) (T ++ y ∷ []) ys on in
      let put = subst (λ o. IsPut kb T (kept_item o y) h.0) (new_after T y after) h.1 in
      let e = put_last T y h.0 after put in
      puts_in_order (T ++ y ∷ []) ys S on (subst (λ R. PutsAll kb kept_item R ys S) e h.2) ∙ append_assoc T (y ∷ []) ys

  -- ---- clones of elements

  module _ (is_clone : K → K → Type 0) where
    zip_bytes : (xs ys : List K) → ((x y : K) → Member x xs → is_clone x y → kb y ≡ kb x) → AllZip is_clone xs ys → AreElementClones kb is_clone xs ys
    zip_bytes [] [] k h = tt
    zip_bytes [] (y ∷ ys) k h = absurd h
    zip_bytes (x ∷ xs) [] k h = absurd h
    zip_bytes (x ∷ xs) (y ∷ ys) k h = (record { clone = h.0; bytes = k x y (inl refl) h.0 }, zip_bytes xs ys (λ z w m. k z w (inr m)) h.1)

    clones_below : (x y : K) (xs ys : List K) → kb y ≡ kb x → AreElementClones kb is_clone xs ys → AllByRecursion (Lower kb x) xs → AllByRecursion (Lower kb y) ys
    clones_below x y [] [] e h l = tt
    clones_below x y [] (w ∷ ys) e h l = absurd h
    clones_below x y (z ∷ xs) [] e h l = absurd h
    clones_below x y (z ∷ xs) (w ∷ ys) e h l =
        (subst (λ q. less q (kb w) ≡ true) (sym e) (subst (λ q. less (kb x) q ≡ true) (sym h.0.bytes) l.0), clones_below x y xs ys e h.1 l.1)

    -- if elements ascend, so do their clones
    clones_ranked : (xs ys : List K) → AreElementClones kb is_clone xs ys → Ranked (Lower kb) xs → Ranked (Lower kb) ys
    clones_ranked [] [] h r = tt
    clones_ranked [] (y ∷ ys) h r = absurd h
    clones_ranked (x ∷ xs) [] h r = absurd h
    clones_ranked (x ∷ xs) (y ∷ ys) h r = (clones_below x y xs ys h.0.bytes h.1 r.0, clones_ranked xs ys h.1 r.1)

    -- a set with clones of what an iterator returned, if its state shows that it returns U
    module _ {S A E : Type 0} (elements : A → List K) (rest : S → List K) (s : S) (U : List K) (shows : rest s ≡ U) (ascends : Ascends kb U) (keeps : KeepsBytes kb is_clone U) where
      pub all_cloned : (r : Result A E)
          → IfOk r (λ set. (xs : List (Bor K)) × (ys : List K) × Drains (YieldsFirstRef rest) s xs × AllZip is_clone (map (λ x. x.now) xs) ys × PutsAll kb kept_item [] ys (elements set))
          → OnErr r ((x : Bor K) × (t : S) × YieldsFirstRef rest s (Some x) t)
          → MatchResult r (λ set. AreElementClones kb is_clone U (elements set)) (λ _. U ≢ [])
      all_cloned (Ok set) h n =
          let zipped = subst (λ l. AllZip is_clone l h.1) (all_drained rest s h.0 h.2 ∙ shows) h.3 in
          let clones = zip_bytes U h.1 (λ x y m. keeps x y (Contains-from_Member x U m)) zipped in
          subst (AreElementClones kb is_clone U) (sym (puts_in_order [] h.1 (elements set) (clones_ranked U h.1 clones (Ranked-from_AllPairs (Lower kb) U ascends)) h.4)) clones
      all_cloned (Err e) h n = λ none. (let c : n.0.now ∷ rest n.1 ≡ [] = sym n.2 ∙ shows ∙ none in absurd cc)

-- if an error says that there are clones, a first item was yielded
pub cloned_some : {I A B C E : Type 0} (steps : I → Option A → I → Type 0) (R : C → B → Type 0) (f : A → C) (s : I) (xs : List A) (t : I) (ys : List B) {D : Type 0} (r : Result D E) → Yields steps s xs t → AllZip R (map f xs) ys → OnErr r (ys ≢ []) → OnErr r ((y : A) × (u : I) × steps s (Some y) u)
cloned_some steps R f s xs t ys (Ok b) h z some = some
cloned_some steps R f s [] t [] (Err e) h z some = absurd (some refl)
cloned_some steps R f s [] t (y ∷ ys) (Err e) h z some = absurd z
cloned_some steps R f s (x ∷ xs) t ys (Err e) h z some = (x, h.0, h.1)

-- what holds in any case holds at an error
pub on_err : {A E P : Type 0} (r : Result A E) → P → OnErr r P
on_err (Ok a) p = tt
on_err (Err e) p = p
