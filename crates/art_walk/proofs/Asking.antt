-- A closure is called on the pair that a cursor has passed, which is then kept as written or
-- removed.
use Rattle.std.proofs.Common.{◌≡◌, ℕ, Bool, true, false, List, [], ◌∷◌, ◌++◌, refl, sym, ap, ◌∙◌, subst, append_assoc}
use Rattle.std.proofs.lemmas.List.{map-append}
use Rattle.std.specs.Borrow.{Bor, MutBor}
use denote.Param.Members.{Mut, Called}
use Rattle.blart_keys.specs.Walks.{AsksPair}
use Rattle.art_tree.specs.Leaves.{Numbered, AreDistinct, Lacks, with_value, without_number}
use Rattle.art_tree.specs.Pairs.{pairs_of}
use Rattle.art_tree.proofs.CallerLemmas.{with_value-split, without_number-split, distinct_parts}
use Rattle.art_walk.specs.declared.cursor.Cursor.{Cursor}
use Rattle.art_walk.specs.Cursor.{leaves_left}
use Rattle.art_walk.specs.Asking.{RetainsBy}
use Rattle.art_walk.proofs.Passing.{Passed, same_written, is_removed, same_removed}
use Rattle.art_walk.proofs.Callable.{called_at}
use Rattle.art_walk.proofs.Retained.{retains_none, retains_kept, retains_gone}

-- ---- the closure's result

module _ {K V F : Type 0} (g : Mut F (Bor K × (MutBor V × Unit {0})) (Bool × (MutBor V × Unit {0}))) where
  -- a call on the pair to which two references point
  pub asks_at : (f : F) (key : Bor K) (value left : MutBor V) (b : Bool) (f' : F) → Called g f (key, (value, tt)) (b, (left, tt)) f' → AsksPair g f (key.now, value.now) b (key.now, left.now) f'
  asks_at f key value left b f' m = record { called = called_at g f key value left b f' m; same_key = refl }

-- ---- one step of `retain`

module _ {K V F : Type 0} (R : F → K × V → Bool → K × V → F → Type 0) (start : List (K × V)) (start_f : F) where
  -- these pairs are kept, and the closure is still to be called on the pairs that are left
  pub record Retaining (ps left : List (Numbered K V)) (f : F) : Type 0 where
    pub kept : List (Numbered K V)
    pub whole : ps ≡ kept ++ left
    pub then : (rest : List (K × V)) (g : F) → RetainsBy R (pairs_of left) f rest g → RetainsBy R start start_f (pairs_of kept ++ rest) g

  pub retaining_end : (ps left : List (Numbered K V)) (f : F) → Retaining ps left f → left ≡ [] → RetainsBy R start start_f (pairs_of ps) f
  retaining_end ps left f r e =
      let done = r.then [] f (subst (λ (l : List (Numbered K V)). RetainsBy R (pairs_of l) f [] f) (sym e) (retains_none R f)) in
      let same : pairs_of ps ≡ pairs_of r.kept ++ [] = ap pairs_of (r.whole ∙ ap (λ l. r.kept ++ l) e) ∙ map-append (λ (p : Numbered K V). p.1) r.kept [] in
      subst (λ l. RetainsBy R start start_f l f) (sym same) done

  module _ {ps : List (Numbered K V)} {old new : Cursor} {id : ℕ} {y : K × V} {f : F} (r : Retaining ps (leaves_left old ps) f) (p : Passed true ps old new id y) (b : Bool) (w : V) (h : F) (asks : R f y b (y.0, w) h) where
    -- the list, split at the pair that was passed
    row : ps ≡ r.kept ++ (id, y) ∷ leaves_left new ps
    row = r.whole ∙ ap (λ l. r.kept ++ l) p.splits

    kept_lacks : Lacks r.kept id
    kept_lacks = (distinct_parts r.kept (leaves_left new ps) (id, y) (subst AreDistinct row p.distinct)).0

    step_then : (rest : List (K × V)) (g : F) → RetainsBy R (y ∷ pairs_of (leaves_left new ps)) f rest g → RetainsBy R start start_f (pairs_of r.kept ++ rest) g
    step_then rest g a = r.then rest g (subst (λ (l : List (Numbered K V)). RetainsBy R (pairs_of l) f rest g) (sym p.splits) a)

    pub retaining_kept : b ≡ true → Retaining (with_value ps id w) (leaves_left new (with_value ps id w)) h
    retaining_kept said =
        let now : Numbered K V = (id, (y.0, w)) in
        let same = (same_written p w).same in
        let split = ap (λ l. with_value l id w) row ∙ with_value-split id y (leaves_left new ps) w r.kept kept_lacks in
        record {
          kept = r.kept ++ now ∷ [];
          whole = split ∙ ap (λ l. r.kept ++ now ∷ l) (sym same) ∙ sym (append_assoc r.kept (now ∷ []) (leaves_left new (with_value ps id w)));
          then = λ rest g a.
              let a' = subst (λ (l : List (Numbered K V)). RetainsBy R (pairs_of l) h rest g) same a in
              let e : pairs_of (r.kept ++ now ∷ []) ++ rest ≡ pairs_of r.kept ++ (y.0, w) ∷ rest =
              ap (λ l. l ++ rest) (map-append (λ (p : Numbered K V). p.1) r.kept (now ∷ [])) ∙ append_assoc (pairs_of r.kept) ((y.0, w) ∷ []) rest in
              subst (λ l. RetainsBy R start start_f l g) (sym e) (step_then ((y.0, w) ∷ rest) g (retains_kept R y (y.0, w) (pairs_of (leaves_left new ps)) rest f h g b asks a' said));
        }

    pub retaining_gone : b ≡ false → (rs : List (Numbered K V)) → rs ≡ without_number (with_value ps id w) id → Retaining rs (leaves_left new rs) h
    retaining_gone said rs gone =
        let same = (same_removed p w rs gone).same in
        record {
          kept = r.kept;
          whole =
              is_removed p w rs gone ∙ ap (λ l. without_number l id) row ∙ without_number-split id y (leaves_left new ps) r.kept kept_lacks
              ∙ ap (λ l. r.kept ++ l) (sym same);
          then = λ rest g a.
              let a' = subst (λ (l : List (Numbered K V)). RetainsBy R (pairs_of l) h rest g) same a in
              step_then rest g (retains_gone R y (y.0, w) (pairs_of (leaves_left new ps)) rest f h g b asks a' said);
        }
