-- One element on which a closure is called, which is kept or removed.
use Rattle.std.proofs.Common.{◌≡◌, ℕ, Bool, true, false, List, [], ◌∷◌, ◌++◌, refl, sym, ap, ◌∙◌, subst, append_assoc}
use Rattle.blart_keys.specs.Content.{IsContent, without}
use Rattle.blart_keys.proofs.PutLemmas.{without_cut}
use Rattle.blart_map.proofs.Beneath.{retains_none, retains_kept, retains_gone}
use Rattle.blart_map.specs.Beneath.{RetainsBy}

module _ {F K : Type 0} (kb : K → List ℕ) (R : F → K → Bool → K → F → Type 0) (start : List K) (start_f : F) where
  -- `all` are the elements kept so far, and those left, on which the closure is still to be called
  pub record Retaining (all left : List K) (f : F) : Type 0 where
    pub kept : List K
    pub whole : all ≡ kept ++ left
    pub then : (rest : List K) (g : F) → RetainsBy R left f rest g → RetainsBy R start start_f (kept ++ rest) g

  pub retaining_start : (left : List K) → left ≡ start → Retaining start left start_f
  retaining_start left e = record { kept = []; whole = sym e; then = λ rest g r. subst (λ l. RetainsBy R l start_f rest g) e r }

  pub retaining_end : (all left : List K) (f : F) → Retaining all left f → left ≡ [] → RetainsBy R start start_f all f
  retaining_end all left f r e =
      subst (λ l. RetainsBy R start start_f l f) (sym (r.whole ∙ ap (λ l. r.kept ++ l) e)) (r.then [] f (subst (λ l. RetainsBy R l f [] f) (sym e) (retains_none R f)))

  module _ (all left left' : List K) (f f' : F) (x : K) (b : Bool) (asks : R f x b x f') (first : left ≡ x ∷ left') (r : Retaining all left f) where
    row : all ≡ r.kept ++ x ∷ left'
    row = r.whole ∙ ap (λ l. r.kept ++ l) first

    pub retaining_kept : b ≡ true → Retaining all left' f'
    retaining_kept t = record {
      kept = r.kept ++ x ∷ [];
      whole = row ∙ sym (append_assoc r.kept (x ∷ []) left');
      then = λ rest h a. subst (λ l. RetainsBy R start start_f l h) (sym (append_assoc r.kept (x ∷ []) rest)) (r.then (x ∷ rest) h (subst (λ l. RetainsBy R l f (x ∷ rest) h) (sym first) (retains_kept R x x left' rest f f' h b asks a t)));
    }

    pub retaining_gone : b ≡ false → IsContent kb all → (new : List K) → new ≡ without kb all (kb x) → Retaining new left' f'
    retaining_gone t content new gone = record {
      kept = r.kept;
      whole = gone ∙ ap (λ l. without kb l (kb x)) row ∙ without_cut kb r.kept left' x (kb x) (subst (λ l. IsContent kb l) row content) refl;
      then = λ rest h a. r.then rest h (subst (λ l. RetainsBy R l f rest h) (sym first) (retains_gone R x x left' rest f f' h b asks a t));
    }
