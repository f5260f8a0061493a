use Rattle.std.proofs.Common.{List, [], ◌∷◌, ◌==◌, ◌≡◌, ◌∙◌, ℕ, inl, inr, length, true, sym, subst, true≢false, arith}
use Rattle.std.proofs.lemmas.Bool.Decides.{eqb_tells}
use Rattle.blart_map.specs.Bulk.{AreClones}
use Rattle.blart_map.specs.Content.{pairs}
use Rattle.blart_map.proofs.map.TreeMap.clone.Goals as goal

no-clones : {K V : Type 0} (kb : K → List ℕ) (is_key : K → K → Type 0) (is_value : V → V → Type 0) (S T : List (K × V)) → true ≡ (length S == 0) → T ≡ [] → AreClones kb is_key is_value S T
no-clones kb is_key is_value [] T none e = subst (AreClones kb is_key is_value []) (sym e) tt
no-clones kb is_key is_value (x ∷ S) T none e = elim (eqb_tells (length (x ∷ S)) 0) [ inl p ↦ absurd (omega (arith, p.1)) | inr p ↦ absurd (true≢false (none ∙ p.0)) ]

pub returns-then-is_empty-clause-cloned : goal.returns-then-is_empty-clause-cloned
returns-then-is_empty-clause-cloned g c =
    no-clones g.K.AsBytes.bytes g.K.Clone.is_clone g.V.Clone.is_clone (pairs c.args.self.now) (pairs c.with_prefix_len.result) c.if-is_empty.ensures c.with_prefix_len.ensures.empty

pub clone-requires : goal.clone-requires
unfolding pairs
clone-requires g c = (omega arith, rw (c.self.view_is) c.requires)

pub returns-clause-cloned : goal.returns-clause-cloned
unfolding pairs
returns-clause-cloned g c = rw (← c.self.view_is) c.in_ok-clone.ensures.cloned
